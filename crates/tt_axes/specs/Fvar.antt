-- OpenType, "fvar: Font Variations Table": a header of 16 bytes, a record of 20 bytes for each axis, and a record for
-- each named instance. A variable font has at least one axis, and at most 64 (profile).
use Rattle.std.specs.Prelude.{◌≡◌, refl, ℕ, ◌+◌, ◌*◌, ◌<◌, ◌≤◌, Bool, false, not, ◌&&◌, ◌||◌, ◌==◌, nat_le, nat_lt, if◌then◌else◌, List, [], ◌∷◌, ◌++◌, length, take, drop, map, codes, Result, Ok, Err, ◌⊎◌}
use Rattle.tt_core.specs.declared.fault.Why.TheVariants as why
use Rattle.tt_core.specs.Directory.{Directory, needed_table, IsDefectIn}
use Rattle.tt_core.specs.Faults.{Fault, fault_at}
use Rattle.tt_core.specs.Limits.{axis_limit, font_limit}
use Rattle.tt_core.specs.Numbers.{unsigned_at}
use Rattle.tt_core.specs.Outcomes.{◌>>=◌}

-- 'fvar'
abbrev pub fvar_tag : List ℕ
fvar_tag = codes "fvar"

-- axesArrayOffset
abbrev pub axes_place : List ℕ → ℕ
axes_place fvar = unsigned_at fvar 4 2

-- axisCount
abbrev pub axis_count : List ℕ → ℕ
axis_count fvar = unsigned_at fvar 8 2

-- axisSize: bytes of an axis' record
abbrev pub axis_size : List ℕ → ℕ
axis_size fvar = unsigned_at fvar 10 2

-- instanceCount
abbrev pub instance_count : List ℕ → ℕ
instance_count fvar = unsigned_at fvar 12 2

-- instanceSize: bytes of a named instance's record
abbrev pub instance_size : List ℕ → ℕ
instance_size fvar = unsigned_at fvar 14 2

-- the offset of the record of axis i
abbrev pub axis_place : List ℕ → ℕ → ℕ
axis_place fvar i = axes_place fvar + 20 * i

-- the offset of the record of named instance k
abbrev pub instance_place : List ℕ → ℕ → ℕ
instance_place fvar k = axis_place fvar (axis_count fvar) + instance_size fvar * k

-- the offset of the records' end
abbrev pub records_end : List ℕ → ℕ
records_end fvar = instance_place fvar (instance_count fvar)

abbrev pub is_fvar_version : List ℕ → Bool
is_fvar_version fvar = unsigned_at fvar 0 4 == 0x00010000

abbrev pub is_axis_count : ℕ → Bool
is_axis_count n = nat_le 1 n && nat_le n axis_limit

-- a name, flags and a place on each axis; then a PostScript name, or none
abbrev pub is_instance_size : ℕ → ℕ → Bool
is_instance_size axes size = (size == 4 + 4 * axes) || (size == 6 + 4 * axes)

-- a header that does not fit, or has other numbers
abbrev pub shape_fault : ℕ → Fault
shape_fault offset = fault_at fvar_tag offset why.VariationShape

-- the table itself, or its first fault
unfoldable pub fvar_in : List ℕ → Result (List ℕ) Fault
fvar_in fvar =
    if nat_lt (length fvar) 16 then Err (shape_fault (length fvar))
    else if not (is_fvar_version fvar) then Err (shape_fault 0)
    else if not (is_axis_count (axis_count fvar)) then Err (shape_fault 8)
    else if not (axis_size fvar == 20) then Err (shape_fault 10)
    else if not (is_instance_size (axis_count fvar) (instance_size fvar)) then Err (shape_fault 14)
    else if nat_lt (length fvar) (records_end fvar) then Err (shape_fault 4)
    else Ok fvar

unfoldable pub fvar_of : Directory → Result (List ℕ) Fault
fvar_of directory = needed_table directory fvar_tag >>= fvar_in

-- the facts about a table that passed the tests
pub record IsFvar (fvar : List ℕ) : Type 0 where
  pub some : 0 < axis_count fvar
  pub few : axis_count fvar ≤ axis_limit
  pub size : 4 + 4 * axis_count fvar ≤ instance_size fvar
  pub fits : records_end fvar ≤ length fvar
  pub small : length fvar ≤ font_limit

-- a defect of fvar, whatever the order of the tests: it is too short, or a field that exists has a refused value
abbrev pub IsBadFvar : List ℕ → Fault → Type 0
IsBadFvar fvar fault =
    ((length fvar < 16) × (fault ≡ shape_fault (length fvar)))
    ⊎ ((4 ≤ length fvar) × (is_fvar_version fvar ≡ false) × (fault ≡ shape_fault 0))
    ⊎ ((10 ≤ length fvar) × (is_axis_count (axis_count fvar) ≡ false) × (fault ≡ shape_fault 8))
    ⊎ ((12 ≤ length fvar) × ((axis_size fvar == 20) ≡ false) × (fault ≡ shape_fault 10))
    ⊎ ((16 ≤ length fvar) × (is_instance_size (axis_count fvar) (instance_size fvar) ≡ false) × (fault ≡ shape_fault 14))
    ⊎ ((16 ≤ length fvar) × (length fvar < records_end fvar) × (fault ≡ shape_fault 4))

abbrev pub IsFvarDefect : Directory → Fault → Type 0
IsFvarDefect directory fault = IsDefectIn directory fvar_tag IsBadFvar fault

-- worked values: a weight from 100 to 900 whose default is 400, and no named instance
abbrev pub weights : List ℕ
weights =
    0 ∷ 1 ∷ 0 ∷ 0 ∷ 0 ∷ 16 ∷ 0 ∷ 2 ∷ 0 ∷ 1 ∷ 0 ∷ 20 ∷ 0 ∷ 0 ∷ 0 ∷ 8
    ∷ 119 ∷ 103 ∷ 104 ∷ 116 ∷ 0 ∷ 100 ∷ 0 ∷ 0 ∷ 1 ∷ 144 ∷ 0 ∷ 0 ∷ 3 ∷ 132 ∷ 0 ∷ 0 ∷ 0 ∷ 0 ∷ 1 ∷ 0 ∷ []

-- the same with other bytes at an offset
abbrev pub with_at : ℕ → List ℕ → List ℕ → List ℕ
with_at at others bytes = take at bytes ++ (others ++ drop (at + length others) bytes)

it_is_whole : fvar_in weights ≡ Ok weights
unfolding fvar_in
it_is_whole = refl

one_byte_short : fvar_in (take 35 weights) ≡ Err (shape_fault 4)
unfolding fvar_in
one_byte_short = refl

a_short_header : fvar_in (take 15 weights) ≡ Err (shape_fault 15)
unfolding fvar_in
a_short_header = refl

version_2 : fvar_in (with_at 0 (0 ∷ 2 ∷ []) weights) ≡ Err (shape_fault 0)
unfolding fvar_in
version_2 = refl

no_axis_and_65 : map (λ n. fvar_in (with_at 8 (0 ∷ n ∷ []) weights)) (0 ∷ 65 ∷ []) ≡ Err (shape_fault 8) ∷ Err (shape_fault 8) ∷ []
unfolding fvar_in
no_axis_and_65 = refl

axes_of_21_bytes : fvar_in (with_at 10 (0 ∷ 21 ∷ []) weights) ≡ Err (shape_fault 10)
unfolding fvar_in
axes_of_21_bytes = refl

instances_of_9_bytes : fvar_in (with_at 14 (0 ∷ 9 ∷ []) weights) ≡ Err (shape_fault 14)
unfolding fvar_in
instances_of_9_bytes = refl

-- ten bytes of an instance include a PostScript name
instances_of_10_bytes : fvar_in (with_at 12 (0 ∷ 1 ∷ 0 ∷ 10 ∷ []) weights ++ (1 ∷ 1 ∷ 0 ∷ 0 ∷ 0 ∷ 100 ∷ 0 ∷ 0 ∷ 1 ∷ 4 ∷ []))
    ≡ Ok (with_at 12 (0 ∷ 1 ∷ 0 ∷ 10 ∷ []) weights ++ (1 ∷ 1 ∷ 0 ∷ 0 ∷ 0 ∷ 100 ∷ 0 ∷ 0 ∷ 1 ∷ 4 ∷ []))
unfolding fvar_in
instances_of_10_bytes = refl
