-- A face that is opened at an instance has the directory and the character map of the file's face.
use Rattle.std.proofs.Common.{◌≡◌, ◌∙◌, ℕ, ℤ, Bool, true, false, List, Option, Some, None, Result, Ok, Err, ap, sym, if◌then◌else◌, length, refl}
use Rattle.tt_axes.specs.Coordinates.{are_zero}
use Rattle.tt_core.specs.Chains.{came-through}
use Rattle.tt_core.proofs.Whole.{directory-kept}
use Rattle.tt_core.specs.Collections.{directory_at, directory_by, offset_of}
use Rattle.tt_core.specs.declared.collection.Reading.{Reading}
use Rattle.tt_core.specs.Directory.{Directory, needed_table}
use Rattle.tt_cmap.specs.Maps.{map_by}
use Rattle.tt_core.specs.Faults.{Fault}
use Rattle.tt_core.specs.Outcomes.{◌>>=◌}
use Rattle.tt_deltas.specs.Gvar.{Gvar, gvar_of}
use Rattle.tt_face.specs.declared.rules.Opening.{Opening}
use Rattle.tt_face.specs.Faces.{Face, cmap_tag, finds_advances}
use Rattle.tt_face.specs.Files.{face_at, face_by}
use Rattle.tt_face.specs.Instance.{Asked, asked_coordinates, face_at_asked, face_at_coordinates, face_at_instance, face_by_gvar}
use Rattle.tt_face.specs.Rules.{ruled}
use Rattle.tt_metrics.specs.Metrics.{glyphs_of, metrics_of}

-- two faces with the same directory and character map
record AreAlike (a b : Face) : Type 0 where
  directory : a.directory ≡ b.directory
  cmap : a.cmap ≡ b.cmap

by_test : (zero : Bool) (face varied : Face) (c : List ℤ) (gvar : Result Gvar Fault)
    → (if zero then Ok face else gvar >>= λ g. Ok (face_by_gvar face c g)) ≡ Ok varied → AreAlike varied face
by_test true face varied c gvar is = let same : varied ≡ face = cc in rw same (record { directory = refl; cmap = refl })
by_test false face varied c (Ok g) is =
    let same : varied ≡ face_by_gvar face c g = cc in rw same (record { directory = refl; cmap = refl })
by_test false face varied c (Err e) is = absurd cc

at_coordinates : (face varied : Face) (c : List ℤ) → face_at_coordinates face c ≡ Ok varied → AreAlike varied face
unfolding face_at_coordinates
at_coordinates face varied c is = by_test (are_zero c) face varied c (gvar_of face.directory (length c)) is

at_asked : (face varied : Face) (i : Option Asked) → face_at_asked face i ≡ Ok varied → AreAlike varied face
at_asked face varied None is = let same : varied ≡ face = cc in rw same (record { directory = refl; cmap = refl })
at_asked face varied (Some a) is =
    let was = came-through (asked_coordinates face.directory a) (face_at_coordinates face) varied is in
    at_coordinates face varied was.value was.rest

-- the face of a file, and what of it stays at an instance
pub record OpenedAt (file : List ℕ) (o : Opening) (varied : Face) : Type 0 where
  pub face : Face
  pub read : face_by file o.reading ≡ Ok face
  pub directory : varied.directory ≡ face.directory
  pub cmap : varied.cmap ≡ face.cmap

pub opened_at : (file : List ℕ) (o : Opening) (i : Option Asked) (varied : Face) → face_at_instance file o i ≡ Ok varied
    → OpenedAt file o varied
unfolding face_at_instance ruled
opened_at file o i varied is =
    let was = came-through (face_by file o.reading) _ varied is in
    let moved = came-through (face_at_asked was.value i) _ varied was.rest in
    let same : varied ≡ ruled o.rules moved.value = cc in
    let alike = at_asked was.value moved.value i moved.first in
    record {
      face = was.value;
      read = was.first;
      directory = ap (λ (f : Face). f.directory) same ∙ alike.directory;
      cmap = ap (λ (f : Face). f.cmap) same ∙ alike.cmap;
    }

-- a face is in the directory that its reading gives, and has no instance at first

record IsIn (d : Directory) (face : Face) : Type 0 where
  directory : d ≡ face.directory
  instance : face.instance ≡ None

face_in : (d : Directory) (r : Reading) (face : Face) → face_at d r ≡ Ok face → IsIn d face
unfolding face_at
face_in d r face is =
    let by_metrics = came-through (metrics_of d) _ face is in
    let by_table = came-through (needed_table d cmap_tag) _ face by_metrics.rest in
    let by_map = came-through (map_by r by_table.value (glyphs_of by_metrics.value)) _ face by_table.rest in
    let made : Face = record { directory = d; metrics = by_metrics.value; cmap = by_map.value; instance = None } in
    let same : made ≡ face = cc in
    rw (← same) (record { directory = refl; instance = refl })

directory_read : (file : List ℕ) (r : Reading) (face : Face) → face_by file r ≡ Ok face → directory_by file r ≡ Ok face.directory
unfolding face_by
directory_read file r face is =
    let was = came-through (directory_by file r) (λ d. face_at d r) face is in
    rw was.first (rw (face_in was.value r face was.rest).directory refl)

pub directory_opened : (file : List ℕ) (o : Opening) (i : Option Asked) (face : Face) → face_at_instance file o i ≡ Ok face
    → directory_by file o.reading ≡ Ok face.directory
directory_opened file o i face is =
    let was = opened_at file o i face is in
    rw was.directory (directory_read file o.reading was.face was.read)

-- the directory is in the file that was read
pub file_opened : (file : List ℕ) (o : Opening) (i : Option Asked) (face : Face) → face_at_instance file o i ≡ Ok face
    → file ≡ face.directory.file
unfolding directory_by
file_opened file o i face is = in_file (directory_opened file o i face is)
  where
    in_file : directory_by file o.reading ≡ Ok face.directory → file ≡ face.directory.file
    in_file read =
        let by_offset = came-through (offset_of file o.reading) _ face.directory read in
        ap (λ (e : Directory). e.file) (sym (directory-kept (directory_at file by_offset.value) face.directory by_offset.rest))

instance_read : (file : List ℕ) (r : Reading) (face : Face) → face_by file r ≡ Ok face → face.instance ≡ None
unfolding face_by
instance_read file r face is =
    let was = came-through (directory_by file r) (λ d. face_at d r) face is in (face_in was.value r face was.rest).instance

-- without an instance no advance has to be found

none_found : (face : Face) → face.instance ≡ None → finds_advances face ≡ false
none_found face none = rw none refl

kept_instance : (a b : Face) (i : Option Asked) → i ≡ None → face_at_asked a i ≡ Ok b → b.instance ≡ a.instance
kept_instance a b None none is = let same : b ≡ a = cc in ap (λ (f : Face). f.instance) same
kept_instance a b (Some asked) none is = absurd cc

pub finds_none : (file : List ℕ) (o : Opening) (i : Option Asked) (face : Face) → i ≡ None → face_at_instance file o i ≡ Ok face
    → finds_advances face ≡ false
unfolding face_at_instance ruled
finds_none file o i face none is =
    let was = came-through (face_by file o.reading) _ face is in
    let moved = came-through (face_at_asked was.value i) _ face was.rest in
    let same : face ≡ ruled o.rules moved.value = cc in
    none_found face (ap (λ (f : Face). f.instance) same ∙ kept_instance was.value moved.value i none moved.first
    ∙ instance_read file o.reading was.value was.first)
