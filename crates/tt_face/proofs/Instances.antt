-- Faces at an instance: the default's, and those that have no defect.
use Rattle.std.proofs.Common.{◌≡◌, ℕ, ℤ, Bool, true, false, List, length, Option, Some, None, Result, Ok, Err, inl, inr, refl, subst}
use Rattle.std.specs.Prelude.{option_map, IsOkAnd, if◌then◌else◌}
use Rattle.tt_core.specs.Directory.{Directory, HasNo, IsDefectIn}
use Rattle.tt_core.specs.Faults.{Fault}
use Rattle.tt_core.specs.Outcomes.{◌>>=◌}
use Rattle.tt_axes.specs.Avar.{avar_of, mapped_by}
use Rattle.tt_axes.specs.Coordinates.{are_zero}
use Rattle.tt_axes.specs.declared.values.AxisValue.{AxisValue}
use Rattle.tt_axes.specs.Fvar.{axis_count, fvar_of}
use Rattle.tt_axes.specs.InstanceCoordinates.{coordinates_of, IsInstanceDefect}
use Rattle.tt_axes.specs.Instances.{coordinates_in}
use Rattle.tt_deltas.specs.Gvar.{Gvar, gvar_of, gvar_tag, IsShapeDefect}
use Rattle.tt_face.specs.declared.rules.Opening.{Opening}
use Rattle.tt_face.specs.Faces.{Face}
use Rattle.tt_face.specs.Files.{face_by, face_with, IsFaceDefectBy}
use Rattle.tt_face.specs.Instance.{Asked, Named, asked_coordinates, asked_number, face_at_coordinates, face_at_instance, face_by_gvar, number_of, IsAskedDefect, IsDefectAtInstance, IsVariationDefect, LacksInstance, ZeroKeepsFaces}
use Rattle.tt_face.specs.Laws.{AvarRefusesNothing, DefaultsAreFaces, FaultsComeFirst, GvarAloneRefuses, ZeroIsTheDefault}
use Rattle.tt_face.specs.Rules.{ruled}

then-ruled : (o : Opening) (given : Result Face Fault)
    → (given >>= λ (face : Face). Ok face >>= λ (varied : Face). Ok (ruled o.rules varied)) ≡ (given >>= λ (face : Face). Ok (ruled o.rules face))
then-ruled o (Ok face) = refl
then-ruled o (Err fault) = refl

pub defaults-are-faces : DefaultsAreFaces
unfolding face_at_instance face_with
defaults-are-faces file o = then-ruled o (face_by file o.reading)

pub zero-keeps-faces : ZeroKeepsFaces
unfolding face_at_coordinates
zero-keeps-faces face c zero = rw zero refl

pub zero-is-the-default : ZeroIsTheDefault
unfolding face_at_instance face_with
zero-is-the-default file o a face c opened asked zero = rw (opened, asked, zero-keeps-faces face c zero) refl

pub faults-come-first : FaultsComeFirst
unfolding face_at_instance
faults-come-first file o asked fault is = rw is refl

-- the coordinates after fvar: avar gives some for all
by-avar : (d : Directory) (fvar : List ℕ) (given : Result (List ℤ) Fault) (fault : Fault)
    → (given >>= λ (c : List ℤ). Ok (mapped_by (avar_of d (axis_count fvar)) c)) ≡ Err fault → given ≡ Err fault
by-avar d fvar (Ok c) fault was = absurd cc
by-avar d fvar (Err f) fault was = cc

before-avar : (d : Directory) (fvar : Result (List ℕ) Fault) (named : Option ℕ) (values : List AxisValue) (fault : Fault)
    → (fvar >>= λ (f : List ℕ). coordinates_in f named values >>= λ (c : List ℤ). Ok (mapped_by (avar_of d (axis_count f)) c)) ≡ Err fault
    → (fvar >>= λ (f : List ℕ). coordinates_in f named values) ≡ Err fault
before-avar d (Ok f) named values fault was = by-avar d f (coordinates_in f named values) fault was
before-avar d (Err e) named values fault was = cc

by-name : (d : Directory) (fvar : Result (List ℕ) Fault) → fvar_of d ≡ fvar → (named : Named) (values : List AxisValue) (fault : Fault)
    → ((fvar >>= λ (f : List ℕ). Ok (Some (number_of d f named))) >>= λ (n : Option ℕ). coordinates_of d n values) ≡ Err fault
    → (fvar >>= λ (f : List ℕ). coordinates_in f (Some (number_of d f named)) values) ≡ Err fault
unfolding coordinates_of
by-name d (Ok f) is named values fault was =
    by-avar d f (coordinates_in f (Some (number_of d f named)) values) fault (rw is at was)
by-name d (Err e) is named values fault was = cc

asked-by : (d : Directory) (named : Option Named) (values : List AxisValue) (fault : Fault)
    → (asked_number d named >>= λ (n : Option ℕ). coordinates_of d n values) ≡ Err fault
    → (fvar_of d >>= λ (f : List ℕ). coordinates_in f (option_map (number_of d f) named) values) ≡ Err fault
unfolding coordinates_of
asked-by d None values fault was = before-avar d (fvar_of d) None values fault was
asked-by d (Some named) values fault was = by-name d (fvar_of d) refl named values fault was

pub avar-refuses-nothing : AvarRefusesNothing
unfolding asked_coordinates
avar-refuses-nothing d a fault was = asked-by d a.named a.axes fault was

by-gvar : (face : Face) (c : List ℤ) (given : Result Gvar Fault) (fault : Fault)
    → (given >>= λ (gvar : Gvar). Ok (face_by_gvar face c gvar)) ≡ Err fault → given ≡ Err fault
by-gvar face c (Ok gvar) fault was = absurd cc
by-gvar face c (Err f) fault was = cc

at-coordinates : (face : Face) (c : List ℤ) (zero : Bool) (fault : Fault)
    → (if zero then Ok face else gvar_of face.directory (length c) >>= λ (gvar : Gvar). Ok (face_by_gvar face c gvar)) ≡ Err fault
    → (zero ≡ false) × (gvar_of face.directory (length c) ≡ Err fault)
at-coordinates face c true fault was = absurd cc
at-coordinates face c false fault was = (refl, by-gvar face c (gvar_of face.directory (length c)) fault was)

pub gvar-alone-refuses : GvarAloneRefuses
unfolding face_at_coordinates
gvar-alone-refuses face c fault was = at-coordinates face c (are_zero c) fault was

-- What has no defect, from the steps that were made.

pub asked-whole : (d : Directory) (a : Asked) (named : Option ℕ) → asked_number d a.named ≡ Ok named
    → HasNo (IsInstanceDefect d named a.axes) → HasNo (IsAskedDefect d a)
asked-whole d a named number whole = λ fault. λ defect. elim defect [
  | inl broken ↦ whole fault (inl broken)
  | inr wrong ↦ let P : Result (Option ℕ) Fault → Type 0 = λ r. IsOkAnd r (λ n. IsInstanceDefect d n a.axes fault) in
      whole fault (subst P number wrong)
]

pub instance-whole : (face : Face) (a : Asked) (c : List ℤ) → asked_coordinates face.directory a ≡ Ok c
    → HasNo (IsAskedDefect face.directory a) → HasNo (IsVariationDefect face.directory c) → HasNo (LacksInstance face (Some a))
instance-whole face a c given asked whole = λ fault. λ defect. elim defect [
  | inl in_vain ↦ asked fault in_vain
  | inr broken ↦ let P : Result (List ℤ) Fault → Type 0 = λ r. IsOkAnd r (λ k. IsVariationDefect face.directory k fault) in
      whole fault (subst P given broken)
]

pub opened-whole : (file : List ℕ) (o : Opening) (asked : Option Asked) (face : Face) → face_by file o.reading ≡ Ok face
    → HasNo (IsFaceDefectBy file o.reading) → HasNo (LacksInstance face asked) → HasNo (IsDefectAtInstance file o asked)
opened-whole file o asked face given sound whole = λ fault. λ defect. elim defect [
  | inl broken ↦ sound fault broken
  | inr lacks ↦ let P : Result Face Fault → Type 0 = λ r. IsOkAnd r (λ f. LacksInstance f asked fault) in
      whole fault (subst P given lacks)
]

pub zero-lacks-none : (d : Directory) (c : List ℤ) → are_zero c ≡ true → HasNo (IsVariationDefect d c)
zero-lacks-none d c zero = λ fault. λ defect. let other = defect.0 in absurd cc

pub gvar-whole : (d : Directory) (c : List ℤ) (axes : ℕ) → axes ≡ length c → HasNo (IsDefectIn d gvar_tag (IsShapeDefect axes))
    → HasNo (IsVariationDefect d c)
gvar-whole d c axes is whole = λ fault. λ defect. (rw is at whole) fault defect.1
