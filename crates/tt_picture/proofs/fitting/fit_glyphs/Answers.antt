use Rattle.std.proofs.Common.{◌≡◌, ◌∙◌, ◌∷◌, [], ◌++◌, ◌<◌, ◌≤◌, ap, get_or, length, refl, sym, take, Ok, arith}
use Rattle.std.proofs.lemmas.List.{append-nil, map-append, take_all, take_more}
use Rattle.std.proofs.lemmas.List.Elements.{All-push}
use Rattle.std.proofs.lemmas.Result.{err_from_is_err_and}
use Rattle.tt_core.specs.Outcomes.{each}
use Rattle.tt_fit.specs.Fitting.{fitted_outline}
use Rattle.tt_picture.specs.Distinct.{fitter_after, fitter_for}
use Rattle.tt_picture.specs.Fitted.{FittedGlyph, IsFitted}
use Rattle.tt_picture.proofs.Cached.{cache_after}
use Rattle.tt_picture.proofs.Outlines.{present_is, stuck_there}
use Rattle.tt_picture.proofs.Places.{one_more_made}
use Rattle.tt_picture.proofs.Parts.{none_left}
use Rattle.tt_picture.proofs.Turns.{none_before, pushed, same_tables}
use Rattle.tt_picture.proofs.fitting.fit_glyphs.Goals.{After-of}
use Rattle.tt_picture.proofs.fitting.fit_glyphs.Goals as goal

pub loop-number-init : goal.loop-number-init
loop-number-init c =
    let ns = c.args.numbers.now in
    let maker = fitter_for c.args.fitter.now ns in
    let none = c.in_ok-made.ensures.items in
    record {
      numbers = rw none refl;
      fitted = rw none (λ k d below. absurd (omega (arith, below)));
      outlines = ([], none_before (each (λ g. fitted_outline (maker g) g) ns));
      after = refl;
      tables = refl;
      count = c.in_ok-made.ensures.len;
      spare = c.in_ok-made.ensures.capacity;
    }

-- the fitter of the next glyph is the present one
maker_is : (c : After-of) → fitter_for c.args.fitter.now c.args.numbers.now
    (get_or c.args.numbers.now c.loop-number.number-index 0) ≡ c.loop-number.fitter
maker_is c =
    present_is c.args.fitter.now c.loop-number.fitter c.args.numbers.now c.loop-number.number-index c.loop-number-test.true
    c.requires.differ c.loop-number.invariant.after

pub of-requires-clause-known : goal.of-requires-clause-known
of-requires-clause-known c =
    rw c.loop-number.invariant.tables (c.requires.known c.loop-number.number-index 0 c.loop-number-test.true)

pub of-requires-clause-cache : goal.of-requires-clause-cache
of-requires-clause-cache c =
    rw c.loop-number.invariant.after (cache_after c.args.fitter.now (take c.loop-number.number-index c.args.numbers.now)
    c.args.cache.now c.requires.cache)

pub loop-number-preserved : goal.loop-number-preserved
loop-number-preserved c =
    let ns = c.args.numbers.now in
    let s = c.args.fitter.now in
    let maker = fitter_for s ns in
    let i = c.loop-number.number-index in
    let n = get_or ns i 0 in
    let below : i < length ns = c.loop-number-test.true in
    let so_far = c.loop-number.invariant in
    let from = maker_is (goal.at.loop-number-preserved c).After-of in
    let made = c.loop-number.made.items in
    let h = c.in_ok-glyph.glyph in
    let one = c.in_ok-glyph.ensures in
    let items = c.push_reserved.ensures.items in
    let number : h.number ≡ n = one.number in
    let own : maker h.number ≡ c.loop-number.fitter = ap maker number ∙ from in
    let fitted : IsFitted (maker h.number) h = rw own one.fitted in
    let outline : fitted_outline (maker n) n ≡ Ok fitted.shape = rw number at fitted.outline in
    record {
      numbers = rw (items, map-append (λ (g : FittedGlyph). g.number) made (h ∷ []), so_far.numbers, number)
          (sym (take_more ns i 0 below));
      fitted = rw items (All-push (λ (g : FittedGlyph). IsFitted (maker g.number) g) made h so_far.fitted fitted);
      outlines = (
        so_far.outlines.0 ++ fitted.shape ∷ [],
        one_more_made (λ g. fitted_outline (maker g) g) ns i 0 so_far.outlines.0 fitted.shape below outline
            ∙ so_far.outlines.1,
      );
      after = one.after ∙ rw (take_more ns i 0 below, so_far.after) (sym (pushed s (take i ns) n));
      tables = rw one.after (same_tables c.loop-number.fitter n) ∙ so_far.tables;
      count = omega (arith, c.push_reserved.ensures.len, so_far.count);
      spare = rw c.push_reserved.ensures.capacity so_far.spare;
    }

pub push_reserved-requires : goal.push_reserved-requires
push_reserved-requires c =
    omega (arith, c.loop-number.invariant.count, c.loop-number.invariant.spare, c.loop-number-test.true)

pub returns-in_err-glyph-clause-fault : goal.returns-in_err-glyph-clause-fault
returns-in_err-glyph-clause-fault c =
    let ns = c.args.numbers.now in
    let maker = fitter_for c.args.fitter.now ns in
    let i = c.loop-number.number-index in
    let below : i < length ns = c.loop-number-test.true in
    let from = maker_is (goal.at.returns-in_err-glyph-clause-fault c).After-of in
    let fails = rw (← from) at c.in_err-glyph.ensures.fault in
    let p = err_from_is_err_and c.from_residual-in_err-glyph.result c.from_residual-in_err-glyph.ensures.1 in
    rw (p.1, p.2) (stuck_there c.in_err-glyph.field-0.0 (λ g. fitted_outline (maker g) g) ns i
    c.loop-number.invariant.outlines.0 below c.loop-number.invariant.outlines.1 fails)

pub returns-clause-numbers : goal.returns-clause-numbers
returns-clause-numbers c =
    let ns = c.args.numbers.now in
    let over : length ns ≤ c.loop-number.number-index = omega (arith, c.loop-number-test.false) in
    c.loop-number.invariant.numbers ∙ take_all c.loop-number.number-index ns over

pub returns-clause-made : goal.returns-clause-made
returns-clause-made c =
    let ns = c.args.numbers.now in
    let over : length ns ≤ c.loop-number.number-index = omega (arith, c.loop-number-test.false) in
    let (os, so_far) = c.loop-number.invariant.outlines in
    let all = rw (none_left ns c.loop-number.number-index over) at so_far in
    (os, sym all ∙ rw (append-nil os) refl)

pub returns-clause-after : goal.returns-clause-after
returns-clause-after c =
    let ns = c.args.numbers.now in
    let over : length ns ≤ c.loop-number.number-index = omega (arith, c.loop-number-test.false) in
    c.loop-number.invariant.after ∙ ap (fitter_after c.args.fitter.now) (take_all c.loop-number.number-index ns over)
