-- A face that is given at an instance has no defect: fvar, the coordinates and gvar's header passed their tests.
use Rattle.std.proofs.Common.{◌≡◌, ◌∙◌, ℕ, ℤ, Bool, true, false, not, ◌==◌, nat_lt, List, length, Option, None, Some, Ok, inl, inr, refl, sym, arith}
use Rattle.std.specs.Prelude.{if◌then◌else◌, is_some}
use Rattle.std.proofs.lemmas.Bool.Decides.{nat_tests}
use Rattle.tt_axes.specs.Coordinates.{are_zero}
use Rattle.tt_axes.specs.declared.values.AxisValue.{AxisValue}
use Rattle.tt_axes.specs.Fvar.{axis_count, axis_size, fvar_in, fvar_of, fvar_tag, instance_size, is_axis_count, is_fvar_version, is_instance_size, records_end, IsBadFvar, IsFvarDefect}
use Rattle.tt_axes.specs.InstanceCoordinates.{coordinates_of, IsInstanceDefect}
use Rattle.tt_axes.specs.Instances.{coordinates_in, has_instance, missing_axis, IsWrongInstance}
use Rattle.tt_core.proofs.Whole.{table-good}
use Rattle.tt_core.specs.Chains.{came-through, not-below, not-neither, passed, passed-on}
use Rattle.tt_core.specs.Directory.{Directory, HasNo, IsDefectIn, needed_table}
use Rattle.tt_core.specs.Outcomes.{◌>>=◌}
use Rattle.tt_deltas.specs.Gvar.{Gvar, gvar_in, gvar_of, gvar_tag, header_size, offsets_end, shared_end, version, IsShapeDefect}
use Rattle.tt_deltas.specs.Gvar as deltas
use Rattle.tt_face.specs.Faces.{Face}
use Rattle.tt_face.specs.Files.{face_by}
use Rattle.tt_face.specs.Instance.{Asked, asked_coordinates, asked_number, face_at_asked, face_at_coordinates, face_at_instance, face_by_gvar, IsAskedDefect, IsVariationDefect, LacksInstance}
use Rattle.tt_face.specs.Laws.{InstancesAreWhole}
use Rattle.tt_face.proofs.Instances.{asked-whole, instance-whole, opened-whole, zero-lacks-none}
use Rattle.tt_face.proofs.Readings.{read-face-whole}

fvar-bytes-whole : (fvar f : List ℕ) → fvar_in fvar ≡ Ok f → HasNo (IsBadFvar fvar)
unfolding fvar_in
fvar-bytes-whole fvar f was =
    let long = passed-on (nat_lt (length fvar) 16) _ _ f was in
    let version = passed-on (not (is_fvar_version fvar)) _ _ f long.1 in
    let axes = passed-on (not (is_axis_count (axis_count fvar))) _ _ f version.1 in
    let size = passed-on (not (axis_size fvar == 20)) _ _ f axes.1 in
    let instances = passed-on (not (is_instance_size (axis_count fvar) (instance_size fvar))) _ _ f size.1 in
    let records = passed (nat_lt (length fvar) (records_end fvar)) _ fvar f instances.1 in
    λ fault bad. elim bad [
      | inl short ↦ not-below (length fvar) 16 long.0 short.0
      | inr (inl other) ↦ not-neither (is_fvar_version fvar) version.0 other.1
      | inr (inr (inl other)) ↦ not-neither (is_axis_count (axis_count fvar)) axes.0 other.1
      | inr (inr (inr (inl other))) ↦ not-neither (axis_size fvar == 20) size.0 other.1
      | inr (inr (inr (inr (inl other)))) ↦ not-neither (is_instance_size (axis_count fvar) (instance_size fvar)) instances.0 other.1
      | inr (inr (inr (inr (inr past)))) ↦ not-below (length fvar) (records_end fvar) records.0 past.1
    ]

fvar-whole : (d : Directory) (f : List ℕ) → fvar_of d ≡ Ok f → HasNo (IsFvarDefect d)
unfolding fvar_of
fvar-whole d f was =
    let by_table = came-through (needed_table d fvar_tag) fvar_in f was in
    table-good d fvar_tag by_table.value IsBadFvar by_table.first (fvar-bytes-whole by_table.value f by_table.rest)

coordinates-whole : (fvar : List ℕ) (named : Option ℕ) (values : List AxisValue) (c : List ℤ) → coordinates_in fvar named values ≡ Ok c
    → HasNo (IsWrongInstance fvar named values)
unfolding coordinates_in
coordinates-whole fvar named values c was =
    let there = passed-on (not (has_instance fvar named)) _ _ c was in
    let axes = passed (is_some (missing_axis fvar values)) _ _ c there.1 in
    λ fault wrong. elim wrong [
      | inl none ↦ not-neither (has_instance fvar named) there.0 none.0
      | inr lacks ↦ let never : true ≡ false = sym lacks.0 ∙ axes.0 in absurd cc
    ]

-- fvar is one table, whatever reads it
of-instance : (d : Directory) (named : Option ℕ) (values : List AxisValue) (f : List ℕ) → fvar_of d ≡ Ok f
    → HasNo (IsWrongInstance f named values) → HasNo (IsInstanceDefect d named values)
of-instance d named values f there right = λ fault defect. elim defect [
  | inl broken ↦ fvar-whole d f there fault broken
  | inr wrong ↦ right fault (rw there at wrong)
]

instance-numbers-whole : (d : Directory) (named : Option ℕ) (values : List AxisValue) (c : List ℤ) → coordinates_of d named values ≡ Ok c
    → HasNo (IsInstanceDefect d named values)
unfolding coordinates_of
instance-numbers-whole d named values c was =
    let by_fvar = came-through (fvar_of d) _ c was in
    let by_place = came-through (coordinates_in by_fvar.value named values) _ c by_fvar.rest in
    of-instance d named values by_fvar.value by_fvar.first (coordinates-whole by_fvar.value named values by_place.value by_place.first)

asked-is-whole : (d : Directory) (a : Asked) (c : List ℤ) → asked_coordinates d a ≡ Ok c → HasNo (IsAskedDefect d a)
unfolding asked_coordinates
asked-is-whole d a c was =
    let by_number = came-through (asked_number d a.named) _ c was in
    asked-whole d a by_number.value by_number.first (instance-numbers-whole d by_number.value a.axes c by_number.rest)

gvar-bytes-whole : (table : List ℕ) (axes : ℕ) (g : Gvar) → gvar_in table axes ≡ Ok g → HasNo (IsShapeDefect axes table)
unfolding gvar_in
gvar-bytes-whole table axes g was =
    let long = passed-on (nat_lt (length table) header_size) _ _ g was in
    let own = passed-on (not (version table == 0x00010000)) _ _ g long.1 in
    let count = passed-on (not (deltas.axis_count table == axes)) _ _ g own.1 in
    let offsets = passed-on (nat_lt (length table) (offsets_end table)) _ _ g count.1 in
    let shared = passed (nat_lt (length table) (shared_end table axes)) _ _ g offsets.1 in
    λ fault bad. elim bad [
      | inl short ↦ not-below (length table) header_size long.0 short.0
      | inr (inl other) ↦ let is : version table ≡ 0x00010000 = grind (arith, nat_tests, own.0) in other.1 is
      | inr (inr (inl other)) ↦ let is : deltas.axis_count table ≡ axes = grind (arith, nat_tests, count.0) in other.1 is
      | inr (inr (inr (inl past))) ↦ not-below (length table) (offsets_end table) offsets.0 past.1
      | inr (inr (inr (inr past))) ↦ not-below (length table) (shared_end table axes) shared.0 past.1
    ]

variation-whole : (face : Face) (c : List ℤ) (zero : Bool) (given : Face) → are_zero c ≡ zero
    → (if zero then Ok face else gvar_of face.directory (length c) >>= λ (gvar : Gvar). Ok (face_by_gvar face c gvar)) ≡ Ok given
    → HasNo (IsVariationDefect face.directory c)
variation-whole face c true given is was = zero-lacks-none face.directory c is
variation-whole face c false given is was =
    let by_gvar = came-through (gvar_of face.directory (length c)) _ given was in
    let by_table = came-through (needed_table face.directory gvar_tag) _ by_gvar.value by_gvar.first in
    let whole : HasNo (IsDefectIn face.directory gvar_tag (IsShapeDefect (length c))) =
    table-good face.directory gvar_tag by_table.value (IsShapeDefect (length c)) by_table.first
    (gvar-bytes-whole by_table.value (length c) by_gvar.value by_table.rest) in
    λ fault defect. whole fault defect.1

face-whole : (face : Face) (asked : Option Asked) (given : Face) → face_at_asked face asked ≡ Ok given → HasNo (LacksInstance face asked)
unfolding face_at_coordinates
face-whole face None given was = λ fault defect. defect
face-whole face (Some a) given was =
    let by_place = came-through (asked_coordinates face.directory a) _ given was in
    instance-whole face a by_place.value by_place.first (asked-is-whole face.directory a by_place.value by_place.first)
    (variation-whole face by_place.value (are_zero by_place.value) given refl by_place.rest)

pub instances-are-whole : InstancesAreWhole
unfolding face_at_instance
instances-are-whole file o asked face was =
    let by_face = came-through (face_by file o.reading) _ face was in
    let by_asked = came-through (face_at_asked by_face.value asked) _ face by_face.rest in
    opened-whole file o asked by_face.value by_face.first (read-face-whole file o.reading by_face.value by_face.first)
    (face-whole by_face.value asked by_asked.value by_asked.first)
