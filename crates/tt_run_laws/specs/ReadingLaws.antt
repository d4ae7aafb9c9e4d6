-- Laws of readings. With the strict reading the answers are those of the font that the file begins with. The wide
-- reading of the first face gives a text without selectors the same answers. A face is its font. OpenType, "TrueType
-- Collections".
use Rattle.std.specs.Prelude.{◌≡◌, ℕ, ◌≤◌, false, All, List, length, flat_map, chars, None, Ok}
use Rattle.tt_advances.specs.Found.{units_of}
use Rattle.tt_cmap.specs.Lookup.{Cmap, glyph_of}
use Rattle.tt_cmap.specs.Maps.{strict}
use Rattle.tt_cmap.specs.Units.{is_selector}
use Rattle.tt_core.specs.Collections.{directory_by}
use Rattle.tt_core.specs.declared.collection.Reading.{Reading}
use Rattle.tt_core.specs.declared.collection.Reading.TheVariants as reading
use Rattle.tt_core.specs.Directory.{Directory}
use Rattle.tt_core.specs.Limits.{font_limit}
use Rattle.tt_core.specs.Outcomes.{◌>>=◌}
use Rattle.tt_face.specs.declared.rules.LineRules.{LineRules}
use Rattle.tt_face.specs.declared.rules.Opening.{Opening}
use Rattle.tt_face.specs.Faces.{Face}
use Rattle.tt_face.specs.Files.{SameTables, face_of}
use Rattle.tt_face.specs.Rules.{ruled}
use Rattle.tt_strike.specs.Job.{Job, tested, text_tested}
use Rattle.tt_strike.specs.Picture.{pictured_by}
use Rattle.tt_strike.specs.Refusals.{as_font}
use Rattle.tt_render_streams.specs.File.{as_file}
use Rattle.tt_render_run.specs.MapLines.{line_text, lines_in, map_lines, map_outcome}
use Rattle.tt_render_run.specs.Outcome.{outcome_of}
use Rattle.tt_render_run.specs.Run.{run_outcome}

-- a face opened by a reading, with some rules of its lines
abbrev pub opened : Reading → LineRules → Opening
opened r rules = record { reading = r; rules = rules }

-- with the strict reading a job is drawn by the tables of the file's only font
abbrev pub StrictRuns : Type 0
StrictRuns = (rules : LineRules) (a : Job) (file : List ℕ) → run_outcome (opened reading.Strict rules) None a file
    ≡ outcome_of (tested a) (λ font. as_file (as_font (face_of font) >>= λ face. pictured_by (ruled rules face) a)) file

abbrev pub StrictMaps : Type 0
StrictMaps = (text file : List ℕ) → map_outcome reading.Strict None text file
    ≡ outcome_of (text_tested text) (λ font. as_font (face_of font >>= λ face. lines_in face text)) file

-- with a map of the strict reading each character has a line
abbrev pub CharactersHaveLines : Type 0
CharactersHaveLines = (face : Face) (cmap : Cmap) (text : List ℕ) → face.cmap ≡ strict cmap → map_lines face text
    ≡ flat_map (λ c. line_text c (glyph_of cmap c) (units_of face (glyph_of cmap c))) (chars text)

-- no character of a text is a selector
abbrev pub IsPlainText : List ℕ → Type 0
IsPlainText text = All (λ c. is_selector c ≡ false) (chars text)

-- where the strict reading gives a face, the wide reading of the first face has the same answers for such a text
abbrev pub WideRuns : Type 0
WideRuns = (rules : LineRules) (a : Job) (file : List ℕ) (face : Face) → face_of file ≡ Ok face → IsPlainText a.text
    → run_outcome (opened (reading.Wide 0) rules) None a file ≡ run_outcome (opened reading.Strict rules) None a file

abbrev pub WideMaps : Type 0
WideMaps = (text file : List ℕ) (face : Face) → face_of file ≡ Ok face → IsPlainText text
    → map_outcome (reading.Wide 0) None text file ≡ map_outcome reading.Strict None text file

-- a font has the tables of face n of a file, and neither is too large
pub record IsFontOf (file : List ℕ) (n : ℕ) (font : List ℕ) : Type 0 where
  pub face : Directory
  pub own : Directory
  pub read : directory_by file (reading.Wide n) ≡ Ok face
  pub alone : directory_by font (reading.Wide 0) ≡ Ok own
  pub same : SameTables face own
  pub small : length file ≤ font_limit
  pub small_too : length font ≤ font_limit

-- so the font has the answers of the face
abbrev pub FacesRunAsFonts : Type 0
FacesRunAsFonts = (rules : LineRules) (a : Job) (file : List ℕ) (n : ℕ) (font : List ℕ) → IsFontOf file n font
    → run_outcome (opened (reading.Wide n) rules) None a file ≡ run_outcome (opened (reading.Wide 0) rules) None a font

abbrev pub FacesMapAsFonts : Type 0
FacesMapAsFonts = (text file : List ℕ) (n : ℕ) (font : List ℕ) → IsFontOf file n font
    → map_outcome (reading.Wide n) None text file ≡ map_outcome (reading.Wide 0) None text font
