-- Laws of files of bitmaps, as statements; src/laws.rt proves them.
use Rattle.std.specs.Prelude.{◌≡◌, ◌≢◌, ℕ, ◌<◌, pos, ◌+ℤ◌, ◌-ℤ◌, unsigned_abs, List, chars, map, sum_by, Ok, All, Contains}
use Rattle.tt_bdf.specs.Composed.{characters_in, composed}
use Rattle.tt_bdf.specs.declared.character.BdfCharacter.{BdfCharacter}
use Rattle.tt_bdf.specs.Facts.{FontFacts}
use Rattle.tt_bdf.specs.Laws.{Rises}
use Rattle.tt_face.specs.Faces.{Face}
use Rattle.tt_fit.specs.declared.programs.Fit.{Fit}
use Rattle.tt_fit.specs.declared.programs.Fit.TheVariants as fit
use Rattle.tt_fit.specs.Fitting.{Fitter}
use Rattle.tt_glyphs.specs.EntryLaws.{IsMadeAlike}
use Rattle.tt_glyphs.specs.Requests.{Bitmaps}
use Rattle.tt_metrics.specs.Metrics.{glyphs_of}
use Rattle.tt_picture.specs.Pictures.{Image, image}
use Rattle.tt_render_settings.specs.Settings.{face_asked, job_by}
use Rattle.tt_strike.specs.Picture.{line_outcome, setting}
use Rattle.tt_bitmap_font.specs.Bitmaps.{characters_by}
use Rattle.tt_bitmap_font.specs.Characters.{glyph_for, glyphs_for}
use Rattle.tt_bitmap_font.specs.declared.font_file.FontFile.{FontFile}
use Rattle.tt_bitmap_font.specs.Facts.{face_facts}
use Rattle.tt_bitmap_font.specs.FontFiles.{file_bitmaps, setting_of}

abbrev pub codes_of : List BdfCharacter → List ℕ
codes_of cs = map (λ (c : BdfCharacter). c.code) cs

-- a file has a character for each of its code points, in their order: ENCODING rises
abbrev pub EncodingsRise : Type 0
EncodingsRise = (a : FontFile) (face : Face) (cs : List ℕ) (b : Bitmaps) → file_bitmaps a face ≡ Ok (cs, b)
    → (codes_of (characters_by face cs b.entries) ≡ cs) × Rises cs

-- the picture that a reader of a file composes of some characters. DWIDTH gives its columns, FONT_ASCENT and
-- FONT_DESCENT give its rows
abbrev pub composed_image : FontFacts → List ℕ → List BdfCharacter → Image
composed_image facts rows cs = image (record {
  width = sum_by (λ (c : BdfCharacter). c.advance) cs;
  height = unsigned_abs (facts.rise +ℤ facts.depth);
  margin = 0;
  rise = facts.rise;
}) (λ c r. composed rows cs (pos c) ((facts.rise -ℤ pos 1) -ℤ pos r))

-- a text of characters of a file: each has a glyph of the font, which the file and the text's line make alike
pub record IsOfFile (face : Face) (s : Fitter) (cs text : List ℕ) : Type 0 where
  pub listed : All (λ (x : ℕ). Contains cs x) text
  pub known : All (λ (x : ℕ). glyph_for face.cmap x < glyphs_of face.metrics) text
  pub alike : All (λ (x : ℕ). IsMadeAlike s (glyphs_for face.cmap cs) (glyphs_for face.cmap text) (glyph_for face.cmap x)) text

-- its picture by the setting of the file is the one that a reader of the file composes
abbrev pub LinesAreComposed : Type 0
LinesAreComposed = (file : List ℕ) (a : FontFile) (face : Face) (s : Fitter) (cs : List ℕ) (b : Bitmaps) (text : List ℕ)
    (i : Image) → face_asked (setting_of a) file ≡ Ok face → setting face a.size a.fit ≡ Ok s
    → file_bitmaps a face ≡ Ok (cs, b) → line_outcome face (job_by (setting_of a) text) ≡ Ok i
    → IsOfFile face s cs (chars text)
    → i ≡ composed_image (face_facts face a.size) b.rows (characters_in (characters_by face cs b.entries) (chars text))

-- with every fit but best a file and a line make all glyphs alike
abbrev pub OthersAreAlike : Type 0
OthersAreAlike = (face : Face) (ppem : ℕ) (how : Fit) (s : Fitter) (gs line : List ℕ) (g : ℕ) → how ≢ fit.Best
    → setting face ppem how ≡ Ok s → IsMadeAlike s gs line g
