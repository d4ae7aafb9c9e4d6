-- No part of the standard: the units of a text at the instance of a job, for C (profile).
use Rattle.std.specs.Prelude.{◌≡◌, ◌≢◌, ℕ, List, chars, length, map, zip, Result, Ok, IsOkAnd, ◌⊎◌}
use Rattle.tt_advances.specs.Defects.{IsAdvanceDefect}
use Rattle.tt_advances.specs.Found.{advances_tested, units_of}
use Rattle.tt_cmap.specs.declared.units.TextUnit.{TextUnit}
use Rattle.tt_cmap.specs.Maps.{units_by}
use Rattle.tt_core.specs.Faults.{Fault}
use Rattle.tt_core.specs.Outcomes.{◌>>=◌}
use Rattle.tt_face.specs.Faces.{Face}
use Rattle.tt_face.specs.Instance.{face_at_instance}
use Rattle.tt_line.specs.Layout.{text_glyphs}
use Rattle.tt_render_run.specs.Outcome.{of_font}
use Rattle.tt_strike.specs.Job.{text_tested}
use Rattle.tt_strike.specs.Refusals.{as_font, as_job}
use Rattle.tt_c_calls.specs.declared.answer.CAnswer.{CAnswer}
use Rattle.tt_c_calls.specs.declared.asked.CJob.{CJob}
use Rattle.tt_c_calls.specs.declared.mapping.CGlyph.{CGlyph}
use Rattle.tt_c_calls.specs.Answers.{DefectStands, TellsRefusal}
use Rattle.tt_c_calls.specs.Asked.{IsPlainFaceDefect, job_fit, job_instance, plain_of, text_asked}
use Rattle.tt_c_calls.specs.Maps.{AreGlyphsTold, selector_told}
use Rattle.tt_c_calls.specs.Measures.{IsEntriesSmall}
use Rattle.tt_c_calls.specs.Refusals.{Refusal, as_call}

-- the advance of a glyph may have to be found: a unit with its glyph and the advance
abbrev pub glyph_with : TextUnit × (ℕ × ℕ) → CGlyph
glyph_with (u, (g, advance)) = record {
  code_point = u.character;
  glyph = g;
  advance = advance;
  selector = selector_told u.selector;
}

-- some glyphs, each with its advance in font units, or the first fault
abbrev pub units_found : Face → List ℕ → Result (List (ℕ × ℕ)) Fault
units_found face gs = advances_tested face gs >>= λ u. Ok (map (λ g. (g, units_of face g)) gs)

-- the units of a text in a face, or the first fault
abbrev pub text_mapped : List ℕ → Face → Result (List CGlyph) Fault
text_mapped t face =
    units_found face (text_glyphs face.cmap t) >>= λ found.
    Ok (map glyph_with (zip (units_by face.cmap (chars t)) found))

-- the units of a job's text by a font file: the way to fit, the number of values of axes and the text are tested first,
-- and then the font's size
unfoldable pub map_wanted : CJob → List ℕ → List ℕ → Result (List CGlyph) Refusal
map_wanted j text font =
    job_fit j >>= λ how. text_asked text >>= λ t. as_call (as_job (text_tested t) >>= λ u. of_font (λ file.
    as_font (face_at_instance file (plain_of j how) (job_instance j)) >>= λ face. as_font (text_mapped t face)) font)

-- a defect of the data of a text's advances
abbrev pub IsAdvancesDefect : Face → List ℕ → Fault → Type 0
IsAdvancesDefect face t f = IsAdvanceDefect face (text_glyphs face.cmap t) f

-- a defect of a font that the map of a job's text meets
abbrev pub IsMapDefect : CJob → List ℕ → List ℕ → Fault → Type 0
IsMapDefect j text font f = IsOkAnd (job_fit j) (λ how. IsPlainFaceDefect j how font f
    ⊎ IsOkAnd (face_at_instance font (plain_of j how) (job_instance j)) (λ face. IsAdvancesDefect face text f))

-- the units of a job's text were written at the front of a room
abbrev pub IsMapTold : CJob → List ℕ → List ℕ → List CGlyph → List CGlyph → CAnswer → Type 0
IsMapTold j text font old new a =
    (glyphs : List CGlyph) × (map_wanted j text font ≡ Ok glyphs) × AreGlyphsTold glyphs old new a

-- they are more than a room has, and the answer reports their number
abbrev pub IsMapSmall : CJob → List ℕ → List ℕ → ℕ → CAnswer → Type 0
IsMapSmall j text font room a =
    (glyphs : List CGlyph) × (map_wanted j text font ≡ Ok glyphs) × IsEntriesSmall (length glyphs) room a

-- a call wrote the units of a job's text at the front of a room, or says why not
pub record MapsJob (j : CJob) (text font : List ℕ) (before room : List CGlyph) (a : CAnswer) : Type 0 where
  pub done : a.status ≡ 0 → IsMapTold j text font before room a
  pub refused : a.status ≢ 0 → a.status ≢ 7 → TellsRefusal (map_wanted j text font) a
  pub small : a.status ≡ 7 → IsMapSmall j text font (length before) a
  pub kept : a.status ≢ 0 → room ≡ before
  pub stands : DefectStands (IsMapDefect j text font) a
