-- No part of the standard: the answer of a text (profile).
use Rattle.std.specs.Prelude.{ℕ, List, Option}
use Rattle.tt_fit.specs.declared.programs.Fit.{Fit}
use Rattle.tt_render_streams.specs.picture.declared.report.Unfitted.{Unfitted}
use Rattle.tt_render_texts.specs.declared.label_reports.CutInk.{CutInk}
use Rattle.tt_render_texts.specs.declared.label_reports.Signs.{Signs}

-- what is reported of a label beside its unfitted glyphs and its characters without a glyph: how it is fitted, the columns
-- of ink that are cut, the first character of each sign, and the lines about its font
pub record LabelTold : Type 0 where
  pub fit : Fit
  pub cut : CutInk
  pub signs : Signs
  pub font : List ℕ

-- the answer of a text: the bytes of its output, its unfitted glyphs, its reported characters without a glyph, what it
-- takes of the budget of a call of many lines, and what else is reported of a label
pub record TextAnswer : Type 0 where
  pub bytes : List ℕ
  pub unfitted : List Unfitted
  pub lacking : List ℕ
  pub cost : ℕ
  pub label : Option LabelTold
