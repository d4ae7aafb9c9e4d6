-- No part of the standard: the layout of a text without its ink, for C (profile).
use Rattle.std.specs.Prelude.{◌≡◌, ◌≢◌, ℕ, pos, List, ◌++◌, length, drop, map, zip, None, Result, Ok}
use Rattle.tt_core.specs.Outcomes.{◌>>=◌}
use Rattle.tt_strike.specs.declared.layouts.Layout.{Layout}
use Rattle.tt_strike.specs.declared.layouts.Pen.{Pen}
use Rattle.tt_strike.specs.Layouts.{layout_outcome, pens_outcome}
use Rattle.tt_c_calls.specs.declared.answer.CAnswer.{CAnswer}
use Rattle.tt_c_calls.specs.declared.asked.CJob.{CJob}
use Rattle.tt_c_calls.specs.declared.laying_out.CLayout.{CLayout}
use Rattle.tt_c_calls.specs.declared.laying_out.CPen.{CPen}
use Rattle.tt_c_calls.specs.Answers.{DefectStands, TellsRefusal, done_answer}
use Rattle.tt_c_calls.specs.Asked.{IsAskedDefect, asked, job_instance}
use Rattle.tt_c_calls.specs.Maps.{selector_told}
use Rattle.tt_c_calls.specs.Measures.{IsEntriesSmall}
use Rattle.tt_c_calls.specs.Offsets.{offsets_asked}
use Rattle.tt_c_calls.specs.Pictures.{made_for}
use Rattle.tt_c_calls.specs.Refusals.{Refusal, as_call}

-- the layout of a text by a font file
unfoldable pub layout_wanted : CJob → List ℕ → List ℕ → Result Layout Refusal
layout_wanted j text font =
    asked j text >>= λ a. as_call (made_for (λ face. layout_outcome face a) j a font)

-- the pens of a text by a font file
unfoldable pub pens_wanted : CJob → List ℕ → List ℕ → Result (List Pen) Refusal
pens_wanted j text font =
    asked j text >>= λ a. as_call (made_for (λ face. pens_outcome face a) j a font)

-- a layout for C
abbrev pub layout_told : Layout → CLayout
layout_told l = record {
  width = l.size.width;
  height = l.size.height;
  baseline = l.baseline;
  rise = l.size.rise;
  depth = l.size.depth;
  gap = l.size.gap;
  step = l.size.step;
  characters = l.characters;
}

-- a pen for C, with the offset of its unit in the text
abbrev pub pen_told : Pen × ℕ → CPen
pen_told (p, at) = record {
  code_point = p.unit.character;
  selector = selector_told p.unit.selector;
  glyph = p.glyph;
  advance = p.advance;
  pen = pos p.pen;
  offset = at;
}

-- the layout of a text was written
abbrev pub IsLayoutTold : CJob → List ℕ → List ℕ → CLayout → CAnswer → Type 0
IsLayoutTold j text font told a =
    (l : Layout) × (layout_wanted j text font ≡ Ok l) × (told ≡ layout_told l) × (a ≡ done_answer 0 0)

-- a call laid out a text, or says why not; only with best, whose number is 3, or at an instance it took memory
pub record LaysOutText (j : CJob) (text font : List ℕ) (before told : CLayout) (a : CAnswer) : Type 0 where
  pub done : a.status ≡ 0 → IsLayoutTold j text font told a
  pub refused : a.status ≢ 0 → TellsRefusal (layout_wanted j text font) a
  pub memory : j.fit ≢ 3 → job_instance j ≡ None → a.status ≢ 5
  pub kept : a.status ≢ 0 → told ≡ before
  pub stands : DefectStands (IsAskedDefect j text font) a

-- some pens were written at the front of a room, each with its offset
abbrev pub ArePensTold : List Pen → List ℕ → List CPen → List CPen → CAnswer → Type 0
ArePensTold pens offsets old new a =
    (new ≡ map pen_told (zip pens offsets) ++ drop (length pens) old) × (a ≡ done_answer 0 (length pens))

-- the pens of a text were written at the front of a room; each has the offset of its unit
abbrev pub ArePensOf : CJob → List ℕ → List ℕ → List CPen → List CPen → CAnswer → Type 0
ArePensOf j text font old new a =
    (pens : List Pen) × (pens_wanted j text font ≡ Ok pens) × (length pens ≡ length (offsets_asked j text))
    × ArePensTold pens (offsets_asked j text) old new a

-- the pens of a text are more than a room has, and the answer reports their number
abbrev pub IsPensSmall : CJob → List ℕ → List ℕ → ℕ → CAnswer → Type 0
IsPensSmall j text font room a =
    (pens : List Pen) × (pens_wanted j text font ≡ Ok pens) × IsEntriesSmall (length pens) room a

-- a call wrote the pens of a text at the front of a room, or says why not
pub record PlacesPens (j : CJob) (text font : List ℕ) (before room : List CPen) (a : CAnswer) : Type 0 where
  pub done : a.status ≡ 0 → ArePensOf j text font before room a
  pub refused : a.status ≢ 0 → a.status ≢ 7 → TellsRefusal (pens_wanted j text font) a
  pub small : a.status ≡ 7 → IsPensSmall j text font (length before) a
  pub kept : a.status ≢ 0 → room ≡ before
  pub stands : DefectStands (IsAskedDefect j text font) a
