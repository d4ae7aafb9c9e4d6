use Rattle.std.proofs.Common.{◌≡◌, ◌≤◌, drop, length, take, vec_capacity, vec_len, List}
use Rattle.tt_core.specs.Outcomes.{after_each}
use Rattle.tt_fit.specs.Fitting.{fitted_outline}
use Rattle.tt_fit.specs.outline.Outline.{Outline}
use Rattle.tt_picture.specs.Distinct.{fitter_after, fitter_for}
use Rattle.tt_picture.specs.Fitted.{AreFitted, fitted_numbers}
use Rattle.tt_picture.specs.Steps.{outlines_by}
use Rattle.tt_picture.proofs.fitting.fit_glyphs.Given as goal

-- the glyphs so far have their outlines, the fitter is the one after them, and there is room for the rest
abbrev pub invariant-loop-number : goal.invariant-loop-number
invariant-loop-number l = record {
  numbers : fitted_numbers l.made.items ≡ take l.number-index l.numbers;
  fitted : AreFitted (fitter_for l.fn.fitter l.numbers) l.made.items;
  outlines : (os : List Outline)
      × (after_each (λ g. fitted_outline (fitter_for l.fn.fitter l.numbers g) g) (drop l.number-index l.numbers) os
      ≡ outlines_by (fitter_for l.fn.fitter l.numbers) l.numbers);
  after : l.fitter ≡ fitter_after l.fn.fitter (take l.number-index l.numbers);
  tables : l.fitter.tables ≡ l.fn.fitter.tables;
  count : vec_len l.made ≡ l.number-index;
  spare : length l.numbers ≤ vec_capacity l.made;
}
