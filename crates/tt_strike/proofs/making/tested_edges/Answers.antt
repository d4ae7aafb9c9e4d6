use Rattle.std.proofs.Common.{◌≡◌, ◌∙◌, ◌<◌, ◌≤◌, ◌⊎◌, inl, inr, ℕ, List, ap, refl, arith}
use Rattle.std.proofs.lemmas.Result.{err_from_is_err_and}
use Rattle.tt_fit.specs.Fitting.{Fitter}
use Rattle.tt_picture.specs.declared.fitted.FittedGlyph.{FittedGlyph}
use Rattle.tt_picture.specs.Fitted.{AreFitted, fitted_chords, fitted_crossings, fitted_numbers}
use Rattle.tt_picture.specs.Glyphs.{AreDrawn, Glyph, numbers_of}
use Rattle.tt_picture.specs.Shapes.{crossings_in}
use Rattle.tt_picture.proofs.Among.{all_among}
use Rattle.tt_strike.specs.Costs.{cost_of}
use Rattle.tt_strike.specs.Work.{crossings_allowed}
use Rattle.tt_strike.proofs.Limited.{few_chords, few_fitted, too_many_chords, too_many_crossings}
use Rattle.tt_strike.proofs.making.tested_edges.Goals as goal

-- the glyphs are drawn by whatever fitter made their outlines
abbrev DrawnOf : List FittedGlyph → List Glyph → Type 0
DrawnOf fs gs = (maker : ℕ → Fitter) → AreFitted maker fs → AreDrawn maker gs

pub invariant_of-glyphs : goal.invariant_of-glyphs
invariant_of-glyphs c =
    let numbers : numbers_of c.in-Some.made.items ≡ fitted_numbers c.args.fitted.items = rw c.in-Some.is at c.in_ok-made.ensures.numbers in
    record { seated = rw numbers c.requires.places }

pub test_crossings-requires-clause-line : goal.test_crossings-requires-clause-line
test_crossings-requires-clause-line c =
    let numbers : numbers_of c.in-Some.made.items ≡ fitted_numbers c.args.fitted.items = rw c.in-Some.is at c.in_ok-made.ensures.numbers in
    rw c.deref.ensures.value (all_among c.args.laid.now.line.glyphs.items (numbers_of c.in-Some.made.items) (numbers ∙ c.requires.numbers))

pub returns-in_default-clause-exact : goal.returns-in_default-clause-exact
returns-in_default-clause-exact c = λ maker shapes fitted made.
    let fs = c.args.fitted.items in
    let line = c.args.laid.now.line.glyphs.items in
    let many : (32000000 < fitted_chords fs) ⊎ (crossings_allowed c.args.left < fitted_crossings fs) =
    rw (c.in_default.is, c.crossings_allowed-allowed.ensures.exact) at c.in_ok-made.ensures.many in
    elim many [
      | inl chords ↦ too_many_chords c.args.fit c.args.left _ (crossings_in shapes) c.requires.bounded chords
      | inr crossings ↦
          let few = few_fitted maker fs line shapes fitted c.requires.numbers made in
          too_many_crossings c.args.fit c.args.left _ (crossings_in shapes) c.requires.bounded (omega (arith, crossings, few))
    ]

pub returns-in_err-crossings-clause-exact : goal.returns-in_err-crossings-clause-exact
returns-in_err-crossings-clause-exact c = λ maker shapes fitted made.
    let drawn : DrawnOf c.args.fitted.items c.in-Some.made.items = rw c.in-Some.is at c.in_ok-made.ensures.drawn in
    let few : fitted_chords c.args.fitted.items ≤ 32000000 = rw c.in-Some.is at c.in_ok-made.ensures.few in
    let fails = (rw (c.deref.ensures.value, c.crossings_allowed-allowed.ensures.exact) at
    (c.in_err-crossings.ensures.exact maker shapes (drawn maker fitted))) made in
    let p = err_from_is_err_and c.from_residual-in_err-crossings.result c.from_residual-in_err-crossings.ensures.1 in
    rw (p.1, p.2, few_chords c.args.fit c.args.left _ (crossings_in shapes) c.requires.bounded few, fails) refl

pub returns-clause-numbers : goal.returns-clause-numbers
returns-clause-numbers c = rw c.in-Some.is at c.in_ok-made.ensures.numbers

pub returns-clause-drawn : goal.returns-clause-drawn
returns-clause-drawn c = rw c.in-Some.is at c.in_ok-made.ensures.drawn

pub returns-clause-exact : goal.returns-clause-exact
returns-clause-exact c = λ maker shapes fitted made.
    let drawn : DrawnOf c.args.fitted.items c.in-Some.made.items = rw c.in-Some.is at c.in_ok-made.ensures.drawn in
    let few : fitted_chords c.args.fitted.items ≤ 32000000 = rw c.in-Some.is at c.in_ok-made.ensures.few in
    let passes = (rw (c.deref.ensures.value, c.crossings_allowed-allowed.ensures.exact) at
    (c.in_ok-crossings.ensures.exact maker shapes (drawn maker fitted))) made in
    rw (few_chords c.args.fit c.args.left _ (crossings_in shapes) c.requires.bounded few, passes) refl

pub returns-clause-cost : goal.returns-clause-cost
returns-clause-cost c = λ maker shapes fitted made.
    let drawn : DrawnOf c.args.fitted.items c.in-Some.made.items = rw c.in-Some.is at c.in_ok-made.ensures.drawn in
    let counted = (rw c.deref.ensures.value at (c.in_ok-crossings.ensures.count maker shapes (drawn maker fitted))) made c.requires.bounded in
    c.cost_of.ensures ∙ ap (cost_of c.args.left) counted
