-- No part of the standard: the measure of a text, for C (profile).
use Rattle.std.specs.Prelude.{◌≡◌, ◌≢◌, ℕ, ◌<◌, pos, List, ◌++◌, length, drop, map, zip, Option, Some, None, Result, Ok, IsOkAnd}
use Rattle.tt_core.specs.Outcomes.{◌>>=◌}
use Rattle.tt_render_settings.specs.Products.{measure_by}
use Rattle.tt_strike.specs.Job.{ByFace}
use Rattle.tt_strike.specs.Measures.{Measure}
use Rattle.tt_strike.specs.Report.{report_by}
use Rattle.tt_picture.specs.declared.ink_box.InkBox.{InkBox}
use Rattle.tt_strike.specs.declared.measuring.CharacterMeasure.{CharacterMeasure}
use Rattle.tt_picture.specs.declared.report.Unfitted.{Unfitted}
use Rattle.tt_c_calls.specs.declared.answer.CAnswer.{CAnswer}
use Rattle.tt_c_calls.specs.declared.asked.CJob.{CJob}
use Rattle.tt_c_calls.specs.declared.measuring.CBox.{CBox}
use Rattle.tt_c_calls.specs.declared.measuring.CCharacter.{CCharacter}
use Rattle.tt_c_calls.specs.declared.measuring.CMeasure.{CMeasure}
use Rattle.tt_c_calls.specs.Answers.{DefectStands, TellsRefusal, done_answer, room_answer}
use Rattle.tt_c_calls.specs.Asked.{IsAskedDefect, asked, grows, job_instance, job_opening}
use Rattle.tt_c_calls.specs.Offsets.{offsets_asked}
use Rattle.tt_c_calls.specs.Pictures.{made_for}
use Rattle.tt_c_calls.specs.Refusals.{Refusal, as_call}

-- the measure of a text by a font file
unfoldable pub measure_wanted : CJob → List ℕ → List ℕ → Result Measure Refusal
measure_wanted j text font =
    asked j text >>= λ a. as_call (made_for (λ face. measure_by (grows j) face a) j a font)

-- a measure is that of a text by a font file, and these of its glyphs are unfitted
pub record IsMeasureOf (j : CJob) (text font : List ℕ) (m : Measure) (entries : List Unfitted) : Type 0 where
  pub measure : measure_wanted j text font ≡ Ok m
  pub unfitted : IsOkAnd (asked j text)
      (λ a. ByFace (λ face a. report_by face a ≡ Ok entries) (job_opening j a.fit) (job_instance j) a font)

-- whether there is ink, and its box
abbrev pub ink_told : Option InkBox → ℕ
ink_told None = 0
ink_told (Some b) = 1

abbrev pub box_told : Option InkBox → CBox
box_told None = record { left = pos 0; top = pos 0; right = pos 0; bottom = pos 0 }
box_told (Some b) = record { left = b.left; top = b.top; right = b.right; bottom = b.bottom }

-- a measure for C, with the number of unfitted glyphs
abbrev pub measure_told : Measure → ℕ → CMeasure
measure_told m unfitted = record {
  width = m.width;
  height = m.height;
  baseline = m.baseline;
  unfitted = unfitted;
  has_ink = ink_told m.ink;
  ink = box_told m.ink;
}

-- a character for C, with the offset of its unit in the text
abbrev pub character_told : CharacterMeasure × ℕ → CCharacter
character_told (c, at) = record {
  glyph = c.glyph;
  advance = c.advance;
  pen = c.pen;
  has_ink = ink_told c.ink;
  ink = box_told c.ink;
  offset = at;
}

-- the measure of a text was written
abbrev pub IsMeasureTold : CJob → List ℕ → List ℕ → CMeasure → CAnswer → Type 0
IsMeasureTold j text font told a =
    (m : Measure) × (unfitted : List Unfitted) × IsMeasureOf j text font m unfitted
    × (told ≡ measure_told m (length unfitted)) × (a ≡ done_answer 0 0)

-- a call measured a text, or says why not
pub record MeasuresText (j : CJob) (text font : List ℕ) (before told : CMeasure) (a : CAnswer) : Type 0 where
  pub done : a.status ≡ 0 → IsMeasureTold j text font told a
  pub refused : a.status ≢ 0 → TellsRefusal (measure_wanted j text font) a
  pub kept : a.status ≢ 0 → told ≡ before
  pub stands : DefectStands (IsAskedDefect j text font) a

-- some characters were written at the front of a room, each with its offset
abbrev pub AreCharactersTold : List CharacterMeasure → List ℕ → List CCharacter → List CCharacter → CAnswer → Type 0
AreCharactersTold measured offsets old new a =
    (new ≡ map character_told (zip measured offsets) ++ drop (length measured) old)
    × (a ≡ done_answer 0 (length measured))

-- `count` entries are more than a room has, and the answer reports their number
abbrev pub IsEntriesSmall : ℕ → ℕ → CAnswer → Type 0
IsEntriesSmall count room a = (room < count) × (a ≡ room_answer 0 count)

-- the characters of a text were written at the front of a room; each has the offset of its unit
abbrev pub AreCharactersOf : CJob → List ℕ → List ℕ → List CCharacter → List CCharacter → CAnswer → Type 0
AreCharactersOf j text font old new a =
    (m : Measure) × (measure_wanted j text font ≡ Ok m) × (length m.characters ≡ length (offsets_asked j text))
    × AreCharactersTold m.characters (offsets_asked j text) old new a

abbrev pub IsCharactersSmall : CJob → List ℕ → List ℕ → ℕ → CAnswer → Type 0
IsCharactersSmall j text font room a =
    (m : Measure) × (measure_wanted j text font ≡ Ok m) × IsEntriesSmall (length m.characters) room a

-- a call wrote the characters of a measured text at the front of a room, or says why not
pub record PlacesCharacters (j : CJob) (text font : List ℕ) (before room : List CCharacter) (a : CAnswer) : Type 0
  where
    pub done : a.status ≡ 0 → AreCharactersOf j text font before room a
    pub refused : a.status ≢ 0 → a.status ≢ 7 → TellsRefusal (measure_wanted j text font) a
    pub small : a.status ≡ 7 → IsCharactersSmall j text font (length before) a
    pub kept : a.status ≢ 0 → room ≡ before
    pub stands : DefectStands (IsAskedDefect j text font) a
