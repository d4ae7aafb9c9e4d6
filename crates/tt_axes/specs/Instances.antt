-- OpenType, "fvar: Font Variations Table", "InstanceRecord"; CSS Fonts, "Font variation settings": of the values that a
-- tag is given, the last one counts. A value counts for each axis with its tag (profile).
use Rattle.std.specs.Prelude.{◌≡◌, refl, ℕ, ◌+◌, ◌*◌, ℤ, pos, negsuc, Bool, true, false, not, nat_lt, if◌then◌else◌, List, [], ◌∷◌, ◌++◌, map, codes, bytes_eq, is_some, Option, Some, None, Result, Ok, Err, ◌⊎◌}
use Rattle.std.specs.List.{range_with_len}
use Rattle.tt_core.specs.declared.fault.Why.TheVariants as why
use Rattle.tt_core.specs.Faults.{Fault, fault_at}
use Rattle.tt_core.specs.Numbers.{unsigned_at}
use Rattle.tt_core.specs.Search.{first_below}
use Rattle.tt_axes.specs.declared.values.AxisValue.{AxisValue}
use Rattle.tt_axes.specs.declared.values.NamedInstance.{NamedInstance}
use Rattle.tt_axes.specs.Axes.{axis_of, axis_tag, coordinate_on, fixed_at}
use Rattle.tt_axes.specs.Fvar.{axis_count, fvar_tag, instance_count, instance_place, weights, with_at}

-- named instance k: its name and its flags
abbrev pub named_instance : List ℕ → ℕ → NamedInstance
named_instance fvar k = record {
  name = unsigned_at fvar (instance_place fvar k) 2;
  flags = unsigned_at fvar (instance_place fvar k + 2) 2;
}

-- its place on axis i
abbrev pub place_in : List ℕ → ℕ → ℕ → ℤ
place_in fvar k i = fixed_at fvar (instance_place fvar k + 4 + 4 * i)

-- the place on axis i before the job's own values: that of a named instance, or else the default
abbrev pub first_place : List ℕ → Option ℕ → ℕ → ℤ
first_place fvar None i = (axis_of fvar i).default
first_place fvar (Some k) i = place_in fvar k i

-- the last value of a tag, or else a given one
abbrev pub last_value : List AxisValue → List ℕ → ℤ → ℤ
last_value [] tag v = v
last_value (p ∷ ps) tag v = last_value ps tag (if bytes_eq p.tag tag then p.value else v)

-- the place on axis i
abbrev pub place_of : List ℕ → Option ℕ → List AxisValue → ℕ → ℤ
place_of fvar named values i = last_value values (axis_tag fvar i) (first_place fvar named i)

-- the coordinate on axis i
abbrev pub coordinate_of : List ℕ → Option ℕ → List AxisValue → ℕ → ℤ
coordinate_of fvar named values i = coordinate_on (axis_of fvar i) (place_of fvar named values i)

-- whether a named instance is there, if a number is given
abbrev pub has_instance : List ℕ → Option ℕ → Bool
has_instance fvar None = true
has_instance fvar (Some k) = nat_lt k (instance_count fvar)

-- whether an axis has the tag of a value
abbrev pub has_axis : List ℕ → AxisValue → Bool
has_axis fvar p = is_some (first_below (axis_count fvar) (λ i. bytes_eq (axis_tag fvar i) p.tag))

-- the tag of the first value without an axis
abbrev pub missing_axis : List ℕ → List AxisValue → Option (List ℕ)
missing_axis fvar [] = None
missing_axis fvar (p ∷ ps) = if has_axis fvar p then missing_axis fvar ps else Some p.tag

abbrev pub no_instance : Fault
no_instance = fault_at fvar_tag 12 why.NoInstance

abbrev pub no_axis : Fault
no_axis = fault_at fvar_tag 8 why.NoAxis

-- the coordinates of an instance before avar, or the first fault
unfoldable pub coordinates_in : List ℕ → Option ℕ → List AxisValue → Result (List ℤ) Fault
coordinates_in fvar named values =
    if not (has_instance fvar named) then Err no_instance
    else if is_some (missing_axis fvar values) then Err no_axis
    else Ok (map (coordinate_of fvar named values) (range_with_len 0 (axis_count fvar)))

-- what a job asks for in vain
abbrev pub IsWrongInstance : List ℕ → Option ℕ → List AxisValue → Fault → Type 0
IsWrongInstance fvar named values fault =
    ((has_instance fvar named ≡ false) × (fault ≡ no_instance))
    ⊎ ((is_some (missing_axis fvar values) ≡ true) × (fault ≡ no_axis))

-- worked values: the weights with four named instances at 100, 650, 900 and 900
abbrev pub named_weights : List ℕ
named_weights =
    with_at 12 (0 ∷ 4 ∷ []) weights
    ++ (1 ∷ 2 ∷ 0 ∷ 0 ∷ 0 ∷ 100 ∷ 0 ∷ 0 ∷ 1 ∷ 3 ∷ 0 ∷ 0 ∷ 2 ∷ 138 ∷ 0 ∷ 0 ∷ 1 ∷ 4 ∷ 0 ∷ 0 ∷ 3 ∷ 132 ∷ 0 ∷ 0 ∷ 1 ∷ 3 ∷ 0 ∷ 0 ∷ 3 ∷ 132 ∷ 0 ∷ 0 ∷ [])

abbrev pub weight : ℤ → AxisValue
weight v = record { tag = codes "wght"; value = v }

each_instance : map (λ k. coordinates_in named_weights (Some k) []) (0 ∷ 1 ∷ 2 ∷ 3 ∷ 4 ∷ [])
    ≡ Ok (negsuc 65535 ∷ []) ∷ Ok (pos 32768 ∷ []) ∷ Ok (pos 65536 ∷ []) ∷ Ok (pos 65536 ∷ []) ∷ Err no_instance ∷ []
unfolding coordinates_in axis_of coordinate_on
each_instance = refl

its_name : named_instance named_weights 2 ≡ record { name = 260; flags = 0 }
its_name = refl

an_instance_and_a_value : coordinates_in named_weights (Some 1) (weight (pos 6553600) ∷ []) ≡ Ok (negsuc 65535 ∷ [])
unfolding coordinates_in axis_of coordinate_on
an_instance_and_a_value = refl

the_last_value : coordinates_in weights None (weight (pos 58982400) ∷ weight (pos 6553600) ∷ []) ≡ Ok (negsuc 65535 ∷ [])
unfolding coordinates_in axis_of coordinate_on
the_last_value = refl

the_default : coordinates_in weights None [] ≡ Ok (pos 0 ∷ [])
unfolding coordinates_in axis_of coordinate_on
the_default = refl

no_width : coordinates_in weights None (weight (pos 6553600) ∷ record { tag = codes "wdth"; value = pos 6553600 } ∷ []) ≡ Err no_axis
unfolding coordinates_in
no_width = refl

its_tag : missing_axis weights (weight (pos 0) ∷ record { tag = codes "wdth"; value = pos 0 } ∷ record { tag = codes "slnt"; value = pos 0 } ∷ [])
    ≡ Some (codes "wdth")
its_tag = refl

no_instance_before_no_axis : coordinates_in weights (Some 0) (record { tag = codes "wdth"; value = pos 6553600 } ∷ []) ≡ Err no_instance
unfolding coordinates_in
no_instance_before_no_axis = refl

-- two axes of one tag, from 0 to 100 and from 0 to 200
abbrev two_axes : List ℕ
two_axes =
    0 ∷ 1 ∷ 0 ∷ 0 ∷ 0 ∷ 16 ∷ 0 ∷ 2 ∷ 0 ∷ 2 ∷ 0 ∷ 20 ∷ 0 ∷ 0 ∷ 0 ∷ 12
    ∷ 119 ∷ 103 ∷ 104 ∷ 116 ∷ 0 ∷ 0 ∷ 0 ∷ 0 ∷ 0 ∷ 0 ∷ 0 ∷ 0 ∷ 0 ∷ 100 ∷ 0 ∷ 0 ∷ 0 ∷ 0 ∷ 1 ∷ 0
    ∷ 119 ∷ 103 ∷ 104 ∷ 116 ∷ 0 ∷ 0 ∷ 0 ∷ 0 ∷ 0 ∷ 0 ∷ 0 ∷ 0 ∷ 0 ∷ 200 ∷ 0 ∷ 0 ∷ 0 ∷ 0 ∷ 1 ∷ 1 ∷ []

both : coordinates_in two_axes None (weight (pos 6553600) ∷ []) ≡ Ok (pos 65536 ∷ pos 32768 ∷ [])
unfolding coordinates_in axis_of coordinate_on
both = refl
