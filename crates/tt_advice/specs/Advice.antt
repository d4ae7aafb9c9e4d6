-- No part of the standard: the advice to people about a refused font (profile). It is a function of the fault, of the
-- file's bytes and of the face's number.
use Rattle.std.specs.Prelude.{◌≡◌, refl, ℕ, pos, Bool, false, ◌||◌, ◌&&◌, ◌==◌, nat_le, if◌then◌else◌, List, [], ◌∷◌, ◌++◌, map, length, codes, bytes_eq, is_some, Option, Some, None, Result, Ok, Err}
use Rattle.tt_axes.specs.declared.values.AxisValue.{AxisValue}
use Rattle.tt_axes.specs.Fvar.{fvar_in, fvar_of, weights}
use Rattle.tt_axes.specs.Instances.{missing_axis, weight}
use Rattle.tt_core.specs.Collections.{directory_by, face_offset, offset_of}
use Rattle.tt_core.specs.declared.collection.Reading.TheVariants as reading
use Rattle.tt_core.specs.declared.fault.Why.TheVariants as why
use Rattle.tt_core.specs.Directory.{Directory, needed_table, read_directory, record_of, table_of}
use Rattle.tt_core.specs.Faults.{Fault, fault_at, file_fault, why_number}
use Rattle.tt_core.specs.Numbers.{number_at}
use Rattle.tt_advice.specs.declared.hint.FixedHint.TheVariants as fixed
use Rattle.tt_advice.specs.declared.hint.Hint.{Hint}
use Rattle.tt_advice.specs.declared.hint.Hint.TheVariants as hint
use Rattle.tt_advice.specs.Kinds.{begins, kind_at, kind_of}

-- whether a record of a directory that is read has the tag
abbrev pub record_in : Result Directory Fault → List ℕ → Bool
record_in (Ok d) tag = is_some (record_of d tag)
record_in (Err fault) tag = false

-- whether a record of the directory of face n has the tag
unfoldable pub has_record : List ℕ → ℕ → List ℕ → Bool
has_record file n tag = record_in (directory_by file (reading.Wide n)) tag

-- CFF outlines: a table `CFF ` or `CFF2`
unfoldable pub has_cff : List ℕ → ℕ → Bool
has_cff file n = has_record file n (codes "CFF ") || has_record file n (codes "CFF2")

-- bitmaps or colour pictures
unfoldable pub has_pictures : List ℕ → ℕ → Bool
has_pictures file n =
    has_record file n (codes "CBDT") || has_record file n (codes "sbix") || has_record file n (codes "EBDT")
    || has_record file n (codes "bdat") || has_record file n (codes "SVG ")

-- the directory is cut off
abbrev pub cut_advice : Fault → List ℕ → Hint
cut_advice f file = if (length file == 0) && bytes_eq f.table (codes "file") then hint.Fixed fixed.Empty else hint.Fixed fixed.Cut

-- a collection of so many faces has no such face
abbrev pub count_advice : ℕ → Hint
count_advice count = if count == 0 then hint.Fixed fixed.NoFaces else hint.Faces count

-- the same for numFonts, where the file is long enough
abbrev pub counted_advice : Option ℕ → Hint
counted_advice (Some count) = count_advice count
counted_advice None = hint.Fixed fixed.NoFaces

-- the file has no such face
unfoldable pub face_advice : List ℕ → Hint
face_advice file =
    if begins file (codes "ttcf") then counted_advice (number_at file 8 4) else hint.Fixed fixed.NoCollection

-- a table is missing; fvar is needed for an instance alone
abbrev pub lack_advice : Fault → List ℕ → ℕ → Hint
lack_advice f file n =
    if bytes_eq f.table (codes "fvar") then hint.Fixed fixed.NotVariable
    else if has_cff file n then hint.Fixed fixed.Cff else if has_pictures file n then hint.Fixed fixed.Bitmaps else hint.Lacks f

-- maxp has another version: that of a font with CFF outlines is 0.5
abbrev pub version_advice : Fault → List ℕ → ℕ → Hint
version_advice f file n = if has_cff file n then hint.Fixed fixed.Cff else hint.Damaged f

-- a limit of what is drawn: the faults 17, 18, 21, 22 and 23
abbrev pub is_limit : ℕ → Bool
is_limit k = (k == 17) || (k == 18) || (k == 21) || (k == 22) || (k == 23)

-- the advice by the number of a fault, without the file's bytes
abbrev pub plain_advice : ℕ → Fault → Hint
plain_advice k f =
    if k == 4 then hint.Fixed fixed.Cut
    else if k == 10 then hint.Fixed fixed.NoMap
    else if is_limit k then hint.Fixed fixed.Beyond
    else if k == 24 then hint.Fixed fixed.Version
    else if k == 28 then hint.Fixed fixed.NoInstance
    else if nat_le 30 k then hint.Fixed fixed.Program
    else hint.Damaged f

-- the same, where bytes of the file are looked at
abbrev pub advice_by : ℕ → Fault → List ℕ → ℕ → Hint
advice_by k f file n =
    if k == 1 then hint.Fixed (kind_at file f.offset)
    else if k == 2 then cut_advice f file
    else if k == 3 then lack_advice f file n
    else if k == 8 then version_advice f file n
    else if k == 25 then face_advice file
    else plain_advice k f

unfoldable pub advice : Fault → List ℕ → ℕ → Hint
advice f file n = advice_by (why_number f.why) f file n

-- the tag of the first value without an axis, where fvar is whole
abbrev pub lacking_in : List AxisValue → Result (List ℕ) Fault → Option (List ℕ)
lacking_in axes (Ok fvar) = missing_axis fvar axes
lacking_in axes (Err fault) = None

-- the same by a directory that is read
abbrev pub lacking_by : List AxisValue → Result Directory Fault → Option (List ℕ)
lacking_by axes (Ok d) = lacking_in axes (fvar_of d)
lacking_by axes (Err fault) = None

-- the same of face n
unfoldable pub lacking_axis : List ℕ → ℕ → List AxisValue → Option (List ℕ)
lacking_axis file n axes = lacking_by axes (directory_by file (reading.Wide n))

abbrev pub told_axis : Option (List ℕ) → Fault → Hint
told_axis (Some tag) f = hint.NoAxis tag
told_axis None f = hint.Damaged f

-- the advice for a request that gives values to axes
unfoldable pub axis_advice : Fault → List ℕ → ℕ → List AxisValue → Hint
axis_advice f file n axes =
    if why_number f.why == 27 then told_axis (lacking_axis file n axes) f else advice f file n

-- worked values: a file with CFF outlines, an empty file and a file of one byte
another_version : advice (file_fault 0 why.BadVersion) (codes "OTTO") 0 ≡ hint.Fixed fixed.Cff
unfolding advice kind_of why_number
another_version = refl

no_byte : advice (file_fault 0 why.DirShort) [] 0 ≡ hint.Fixed fixed.Empty
unfolding advice why_number
no_byte = refl

one_byte : advice (file_fault 1 why.DirShort) (0 ∷ []) 0 ≡ hint.Fixed fixed.Cut
unfolding advice why_number
one_byte = refl

-- a collection of two faces, and a file with one face
abbrev two_faces : List ℕ
two_faces = 116 ∷ 116 ∷ 99 ∷ 102 ∷ 0 ∷ 1 ∷ 0 ∷ 0 ∷ 0 ∷ 0 ∷ 0 ∷ 2 ∷ []

a_third_face : advice (file_fault 8 why.NoFace) two_faces 2 ≡ hint.Faces 2
unfolding advice face_advice why_number
a_third_face = refl

a_second_face : advice (file_fault 0 why.NoFace) (0 ∷ 1 ∷ 0 ∷ 0 ∷ []) 1 ≡ hint.Fixed fixed.NoCollection
unfolding advice face_advice why_number
a_second_face = refl

-- a font with one table of this tag, which has no byte
abbrev one_table : List ℕ → List ℕ
one_table tag = (0 ∷ 1 ∷ 0 ∷ 0 ∷ 0 ∷ 1 ∷ 0 ∷ 0 ∷ 0 ∷ 0 ∷ 0 ∷ 0 ∷ []) ++ (tag ++ (0 ∷ 0 ∷ 0 ∷ 0 ∷ 0 ∷ 0 ∷ 0 ∷ 0 ∷ 0 ∷ 0 ∷ 0 ∷ 0 ∷ []))

versions_of_maxp : map (λ tag. advice (fault_at (codes "maxp") 0 why.MaxpVersion) (one_table tag) 0) (codes "CFF " ∷ codes "head" ∷ [])
    ≡ hint.Fixed fixed.Cff ∷ hint.Damaged (fault_at (codes "maxp") 0 why.MaxpVersion) ∷ []
unfolding advice has_cff has_record directory_by offset_of face_offset read_directory why_number
versions_of_maxp = refl

without_outlines : map (λ tag. advice (fault_at (codes "loca") 0 why.NoTable) (one_table tag) 0) (codes "CFF2" ∷ codes "sbix" ∷ codes "head" ∷ [])
    ≡ hint.Fixed fixed.Cff ∷ hint.Fixed fixed.Bitmaps ∷ hint.Lacks (fault_at (codes "loca") 0 why.NoTable) ∷ []
unfolding advice has_cff has_pictures has_record directory_by offset_of face_offset read_directory why_number
without_outlines = refl

-- a glyph beyond a limit, a program, and a table
of_other_faults : map (λ w. advice (fault_at (codes "glyf") 14 w) [] 0) (why.CoordRange ∷ why.DivZero ∷ why.GlyphShort ∷ [])
    ≡ hint.Fixed fixed.Beyond ∷ hint.Fixed fixed.Program ∷ hint.Damaged (fault_at (codes "glyf") 14 why.GlyphShort) ∷ []
unfolding advice why_number
of_other_faults = refl

-- a font with weights alone, and values of a width, a slant and a weight
abbrev variable : List ℕ
variable =
    (0 ∷ 1 ∷ 0 ∷ 0 ∷ 0 ∷ 1 ∷ 0 ∷ 0 ∷ 0 ∷ 0 ∷ 0 ∷ 0 ∷ [])
    ++ (codes "fvar" ++ ((0 ∷ 0 ∷ 0 ∷ 0 ∷ 0 ∷ 0 ∷ 0 ∷ 28 ∷ 0 ∷ 0 ∷ 0 ∷ 36 ∷ []) ++ weights))

abbrev value_of : List ℕ → AxisValue
value_of tag = record (weight (pos 0)) { tag = tag }

its_axes : map (lacking_axis variable 0)
    ((weight (pos 0) ∷ value_of (codes "wdth") ∷ value_of (codes "slnt") ∷ []) ∷ (weight (pos 0) ∷ []) ∷ [])
    ≡ Some (codes "wdth") ∷ None ∷ []
unfolding lacking_axis directory_by offset_of face_offset read_directory fvar_of fvar_in needed_table table_of
its_axes = refl

-- an instance
of_instances : map (λ f. axis_advice f variable 0 (value_of (codes "wdth") ∷ []))
    (fault_at (codes "fvar") 0 why.NoTable ∷ fault_at (codes "fvar") 8 why.NoAxis ∷ fault_at (codes "fvar") 12 why.NoInstance
    ∷ fault_at (codes "gvar") 0 why.VariationShape ∷ fault_at (codes "gvar") 20 why.GlyphVariation ∷ [])
    ≡ hint.Fixed fixed.NotVariable ∷ hint.NoAxis (codes "wdth") ∷ hint.Fixed fixed.NoInstance
    ∷ hint.Damaged (fault_at (codes "gvar") 0 why.VariationShape) ∷ hint.Damaged (fault_at (codes "gvar") 20 why.GlyphVariation) ∷ []
unfolding advice axis_advice lacking_axis directory_by offset_of face_offset read_directory fvar_of fvar_in needed_table table_of why_number
of_instances = refl
