-- The face of a font file, its defects, and the lemmas about both. With the strict reading a file has one font; the wide
-- reading says which face of the file is meant. Apple TrueType Reference Manual, "The Font Directory"; OpenType, "Font
-- Tables", "TrueType Collections".
use Rattle.std.specs.Prelude.{◌≡◌, refl, ℕ, List, [], ◌∷◌, None, Result, Ok, Err, IsOkAnd, ◌⊎◌}
use Rattle.tt_cmap.specs.Lookup.{cmap_of}
use Rattle.tt_cmap.specs.Maps.{strict, map_by, glyph_by, IsBadMap}
use Rattle.tt_core.specs.Collections.{directory_by, IsDirectoryDefectBy}
use Rattle.tt_core.specs.declared.collection.Reading.{Reading}
use Rattle.tt_core.specs.declared.collection.Reading.TheVariants as reading
use Rattle.tt_core.specs.declared.fault.Why.TheVariants as why
use Rattle.tt_core.specs.Directory.{Directory, HasNo, IsDefectIn, table_of, directory_of, file_directory, needed_table, read_directory}
use Rattle.tt_core.specs.Faults.{Fault, file_fault}
use Rattle.tt_core.specs.Outcomes.{◌>>=◌}
use Rattle.tt_metrics.specs.Metrics.{glyphs_of, metrics_of, IsMetricsDefect}
use Rattle.tt_face.specs.Defects.{IsDefectAt}
use Rattle.tt_face.specs.declared.rules.Opening.{Opening}
use Rattle.tt_face.specs.Faces.{Face, cmap_tag}
use Rattle.tt_face.specs.Rules.{plain_opening, ruled}

-- the face of a file, or the file's first fault in the order of reading (profile)
unfoldable pub face_of : List ℕ → Result Face Fault
face_of file = do
  directory ← directory_of file
  metrics ← metrics_of directory
  table ← needed_table directory cmap_tag
  cmap ← cmap_of table (glyphs_of metrics)
  Ok (record { directory = directory; metrics = metrics; cmap = strict cmap; instance = None })

-- the face that a directory and a reading give
unfoldable pub face_at : Directory → Reading → Result Face Fault
face_at directory r = do
  metrics ← metrics_of directory
  table ← needed_table directory cmap_tag
  cmap ← map_by r table (glyphs_of metrics)
  Ok (record { directory = directory; metrics = metrics; cmap = cmap; instance = None })

-- the face of a file by a reading, or its first fault
unfoldable pub face_by : List ℕ → Reading → Result Face Fault
face_by file r = directory_by file r >>= λ directory. face_at directory r

-- the face of a file as it is opened, or the file's first fault
unfoldable pub face_with : List ℕ → Opening → Result Face Fault
face_with file o = face_by file o.reading >>= λ face. Ok (ruled o.rules face)

-- a defect of a file's directory, or of a table needed for every text
abbrev pub IsFaceDefect : List ℕ → Fault → Type 0
IsFaceDefect file fault = IsDefectAt (file_directory file) fault

-- a font file that gives a face has no defect in the tables needed for every text
abbrev pub FacesAreWhole : Type 0
FacesAreWhole = (file : List ℕ) (face : Face) → face_of file ≡ Ok face → HasNo (IsFaceDefect file)

-- a defect of the directory that a reading asks for, or of one of its tables that are needed for every text
abbrev pub IsTablesDefect : Directory → Reading → Fault → Type 0
IsTablesDefect directory r fault = IsMetricsDefect directory fault ⊎ IsDefectIn directory cmap_tag (IsBadMap r) fault

abbrev pub IsFaceDefectBy : List ℕ → Reading → Fault → Type 0
IsFaceDefectBy file r fault =
    IsDirectoryDefectBy file r fault ⊎ IsOkAnd (directory_by file r) (λ d. IsTablesDefect d r fault)

-- a file that gives a face by a reading has no defect for that reading
abbrev pub ReadFacesAreWhole : Type 0
ReadFacesAreWhole = (file : List ℕ) (r : Reading) (face : Face) → face_by file r ≡ Ok face → HasNo (IsFaceDefectBy file r)

-- two directories with the same tables
abbrev pub SameTables : Directory → Directory → Type 0
SameTables d e = (tag : List ℕ) → table_of d tag ≡ table_of e tag

-- a face is its font: a font with the face's tables gives the same metrics and the same character map, or the same fault.
-- The number of a face says only where the directory is
abbrev pub FacesAreTheirFonts : Type 0
FacesAreTheirFonts = (d e : Directory) (n k : ℕ) → SameTables d e → face_at e (reading.Wide k)
    ≡ (face_at d (reading.Wide n) >>= λ f. Ok (record { directory = e; metrics = f.metrics; cmap = f.cmap; instance = f.instance }))

-- the wide reading extends a face of the strict reading: the same directory and metrics, and the same glyph for each
-- character
pub record ExtendsFace (file : List ℕ) (face : Face) : Type 0 where
  pub wide : Face
  pub given : face_by file (reading.Wide 0) ≡ Ok wide
  pub directory : wide.directory ≡ face.directory
  pub metrics : wide.metrics ≡ face.metrics
  pub instance : wide.instance ≡ face.instance
  pub same : (c : ℕ) → glyph_by wide.cmap c ≡ glyph_by face.cmap c

abbrev pub WideFacesExtend : Type 0
WideFacesExtend = (file : List ℕ) (face : Face) → face_of file ≡ Ok face → ExtendsFace file face

-- the strict reading gives the face of the file's only font
abbrev pub StrictIsTheFace : Type 0
StrictIsTheFace = (file : List ℕ) → face_by file reading.Strict ≡ face_of file

abbrev pub PlainRulesKeepFaces : Type 0
PlainRulesKeepFaces = (file : List ℕ) (r : Reading) → face_with file (plain_opening r) ≡ face_by file r

-- the rules of lines find no fault and hide none: a face has the same directory and character map by all rules
abbrev pub RulesKeepFaults : Type 0
RulesKeepFaults = (file : List ℕ) (o : Opening) (fault : Fault) → face_by file o.reading ≡ Err fault → face_with file o ≡ Err fault

-- a file that gives a face as it is opened has no defect for that reading
abbrev pub OpenedFacesAreWhole : Type 0
OpenedFacesAreWhole = (file : List ℕ) (o : Opening) (face : Face) → face_with file o ≡ Ok face
    → HasNo (IsFaceDefectBy file o.reading)

-- worked values: a file of 11 bytes, one too few for a directory
a_short_file : face_of (0 ∷ 1 ∷ 0 ∷ 0 ∷ 0 ∷ 1 ∷ 0 ∷ 0 ∷ 0 ∷ 0 ∷ 0 ∷ []) ≡ Err (file_fault 11 why.DirShort)
unfolding face_of read_directory
a_short_file = refl
