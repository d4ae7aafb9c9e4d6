-- Lemmas about the definitions: a result has no defect, an instance at the default is the default's face, and tables that a
-- font may lack refuse no instance. OpenType, "Font Tables", "OpenType Font Variations Overview".
use Rattle.std.specs.Prelude.{◌≡◌, ℕ, ℤ, true, false, List, length, option_map, Option, Result, Ok, Err, Some, None}
use Rattle.tt_axes.specs.Coordinates.{are_zero}
use Rattle.tt_axes.specs.Fvar.{fvar_of}
use Rattle.tt_axes.specs.Instances.{coordinates_in}
use Rattle.tt_core.specs.Directory.{Directory, HasNo}
use Rattle.tt_core.specs.Faults.{Fault}
use Rattle.tt_core.specs.Outcomes.{◌>>=◌}
use Rattle.tt_deltas.specs.Gvar.{gvar_of}
use Rattle.tt_glyf.specs.Loca.{Glyf}
use Rattle.tt_face.specs.Defects.{IsGlyphTableDefect, HasProgramPastEnd}
use Rattle.tt_face.specs.declared.rules.Opening.{Opening}
use Rattle.tt_face.specs.Faces.{Face, glyphs_in, programs_of}
use Rattle.tt_face.specs.Files.{face_by, face_with}
use Rattle.tt_face.specs.Instance.{Asked, asked_coordinates, face_at_coordinates, face_at_instance, number_of, IsDefectAtInstance}
use Rattle.tt_face.specs.Programs.{ProgramTables}

-- a face that gives loca and glyf has no defect in them
abbrev pub GlyphTablesAreWhole : Type 0
GlyphTablesAreWhole = (face : Face) (t : Glyf) → glyphs_in face ≡ Ok t → HasNo (IsGlyphTableDefect face)

-- a directory that gives the programs has none of them past the end of the file
abbrev pub ProgramsAreWhole : Type 0
ProgramsAreWhole = (d : Directory) (programs : ProgramTables) → programs_of d ≡ Ok programs
    → HasNo (HasProgramPastEnd d)

-- without an instance a face is that of its reading and its rules
abbrev pub DefaultsAreFaces : Type 0
DefaultsAreFaces = (file : List ℕ) (o : Opening) → face_at_instance file o None ≡ face_with file o

-- and so is one whose coordinates are all 0
abbrev pub ZeroIsTheDefault : Type 0
ZeroIsTheDefault = (file : List ℕ) (o : Opening) (a : Asked) (face : Face) (c : List ℤ) → face_by file o.reading ≡ Ok face
    → asked_coordinates face.directory a ≡ Ok c → are_zero c ≡ true → face_at_instance file o (Some a) ≡ face_with file o

-- a fault of the face comes before those of its instance
abbrev pub FaultsComeFirst : Type 0
FaultsComeFirst = (file : List ℕ) (o : Opening) (asked : Option Asked) (fault : Fault) → face_by file o.reading ≡ Err fault
    → face_at_instance file o asked ≡ Err fault

-- the coordinates before avar
abbrev pub coordinates_before : Directory → Asked → Result (List ℤ) Fault
coordinates_before d a = fvar_of d >>= λ fvar. coordinates_in fvar (option_map (number_of d fvar) a.named) a.axes

-- avar refuses no instance
abbrev pub AvarRefusesNothing : Type 0
AvarRefusesNothing = (d : Directory) (a : Asked) (fault : Fault) → asked_coordinates d a ≡ Err fault
    → coordinates_before d a ≡ Err fault

-- HVAR, MVAR, cvar and GDEF refuse none: only a fault of gvar's header refuses coordinates
abbrev pub GvarAloneRefuses : Type 0
GvarAloneRefuses = (face : Face) (c : List ℤ) (fault : Fault) → face_at_coordinates face c ≡ Err fault
    → (are_zero c ≡ false) × (gvar_of face.directory (length c) ≡ Err fault)

-- a face that is given at an instance has no defect
abbrev pub InstancesAreWhole : Type 0
InstancesAreWhole = (file : List ℕ) (o : Opening) (asked : Option Asked) (face : Face) → face_at_instance file o asked ≡ Ok face
    → HasNo (IsDefectAtInstance file o asked)
