-- OpenType, "fvar: Font Variations Table": what a list of faces says of a variable font, by fvar where it is whole, and by
-- the names that fvar numbers.
use Rattle.std.specs.Prelude.{◌≡◌, refl, ℕ, bytes_eq, List, [], ◌∷◌, Option, Some, None, Result, Ok, Err}
use Rattle.tt_core.specs.Directory.{Directory, file_directory, needed_table, table_of}
use Rattle.tt_core.specs.Faults.{Fault}
use Rattle.tt_axes.specs.Fvar.{fvar_of}
use Rattle.tt_axes.specs.Instances.{named_instance}
use Rattle.tt_face.specs.Instance.{has_name}
use Rattle.tt_face.specs.Names.{name_of}

abbrev pub if_whole : Result (List ℕ) Fault → Option (List ℕ)
if_whole (Ok fvar) = Some fvar
if_whole (Err fault) = None

-- fvar, if it is there and has no defect
abbrev pub variations_of : Directory → Option (List ℕ)
variations_of d = if_whole (fvar_of d)

-- a named instance is asked for by the name that the list has
asked_as_listed : (d : Directory) (fvar name : List ℕ) (k : ℕ)
    → has_name d fvar name k ≡ bytes_eq (name_of (named_instance fvar k).name d) name
unfolding name_of
asked_as_listed d fvar name k = refl

-- worked values: a font without tables
no_variations : variations_of (file_directory (0 ∷ 1 ∷ 0 ∷ 0 ∷ 0 ∷ 0 ∷ 0 ∷ 0 ∷ 0 ∷ 0 ∷ 0 ∷ 0 ∷ [])) ≡ None
unfolding fvar_of needed_table table_of
no_variations = refl
