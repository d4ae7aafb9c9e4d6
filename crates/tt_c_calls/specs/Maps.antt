-- No part of the standard: the units of a text in a font, for C (profile).
use Rattle.std.specs.Prelude.{◌≡◌, ◌≢◌, ℕ, List, ◌++◌, chars, length, drop, map, Option, Some, None, Result, Ok}
use Rattle.tt_cmap.specs.declared.units.TextUnit.{TextUnit}
use Rattle.tt_cmap.specs.Maps.{CharacterMap, glyph_of_unit, units_by}
use Rattle.tt_core.specs.declared.collection.Reading.{Reading}
use Rattle.tt_core.specs.Outcomes.{◌>>=◌}
use Rattle.tt_metrics.specs.Metrics.{Metrics, advance_of}
use Rattle.tt_render_run.specs.Outcome.{of_font}
use Rattle.tt_strike.specs.Job.{text_tested}
use Rattle.tt_strike.specs.Refusals.{as_font, as_job}
use Rattle.tt_face.specs.Files.{face_by, IsFaceDefectBy}
use Rattle.tt_face.specs.Faces.{Face}
use Rattle.tt_c_calls.specs.declared.answer.CAnswer.{CAnswer}
use Rattle.tt_c_calls.specs.declared.mapping.CGlyph.{CGlyph}
use Rattle.tt_c_calls.specs.Answers.{DefectStands, TellsRefusal, done_answer}
use Rattle.tt_c_calls.specs.Asked.{text_asked}
use Rattle.tt_c_calls.specs.Measures.{IsEntriesSmall}
use Rattle.tt_c_calls.specs.Refusals.{Refusal, as_call}

-- the selector of a unit, 0 without one
abbrev pub selector_told : Option ℕ → ℕ
selector_told None = 0
selector_told (Some v) = v

-- a unit in a font
abbrev pub glyph_told : Metrics → CharacterMap → TextUnit → CGlyph
glyph_told m cmap u = record {
  code_point = u.character;
  glyph = glyph_of_unit cmap u;
  advance = advance_of m (glyph_of_unit cmap u);
  selector = selector_told u.selector;
}

-- the units of a text in a face
abbrev pub text_told : List ℕ → Face → List CGlyph
text_told t face = map (glyph_told face.metrics face.cmap) (units_by face.cmap (chars t))

-- the units of a text by a reading of a font file: the text is tested first, and then the font's size
unfoldable pub glyphs_wanted : Reading → List ℕ → List ℕ → Result (List CGlyph) Refusal
glyphs_wanted r text font =
    text_asked text >>= λ t. as_call (as_job (text_tested t) >>= λ u. of_font (λ file.
    as_font (face_by file r) >>= λ face. Ok (text_told t face)) font)

-- some units were written at the front of a room
abbrev pub AreGlyphsTold : List CGlyph → List CGlyph → List CGlyph → CAnswer → Type 0
AreGlyphsTold glyphs old new a =
    (new ≡ glyphs ++ drop (length glyphs) old) × (a ≡ done_answer 0 (length glyphs))

-- the units of a text were written at the front of a room
abbrev pub AreGlyphsOf : Reading → List ℕ → List ℕ → List CGlyph → List CGlyph → CAnswer → Type 0
AreGlyphsOf r text font old new a =
    (glyphs : List CGlyph) × (glyphs_wanted r text font ≡ Ok glyphs) × AreGlyphsTold glyphs old new a

-- the units of a text are more than a room has, and the answer reports their number
abbrev pub IsGlyphsSmall : Reading → List ℕ → List ℕ → ℕ → CAnswer → Type 0
IsGlyphsSmall r text font room a =
    (glyphs : List CGlyph) × (glyphs_wanted r text font ≡ Ok glyphs) × IsEntriesSmall (length glyphs) room a

-- a call wrote the units of a text at the front of a room, or says why not; it took no memory
pub record MapsText (r : Reading) (text font : List ℕ) (before room : List CGlyph) (a : CAnswer) : Type 0 where
  pub done : a.status ≡ 0 → AreGlyphsOf r text font before room a
  pub refused : a.status ≢ 0 → a.status ≢ 7 → TellsRefusal (glyphs_wanted r text font) a
  pub small : a.status ≡ 7 → IsGlyphsSmall r text font (length before) a
  pub memory : a.status ≢ 5
  pub kept : a.status ≢ 0 → room ≡ before
  pub stands : DefectStands (IsFaceDefectBy font r) a
