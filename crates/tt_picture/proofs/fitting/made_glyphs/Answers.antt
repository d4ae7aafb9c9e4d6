use Rattle.std.proofs.Common.{◌≡◌, ◌∙◌, ◌∷◌, [], ◌++◌, ◌<◌, ◌≤◌, ap, get_or, length, refl, sym, take, Ok, arith}
use Rattle.std.proofs.lemmas.List.{map-append, take_all, take_more}
use Rattle.std.proofs.lemmas.List.Elements.{All-push}
use Rattle.std.proofs.lemmas.Result.{err_from_is_err_and}
use Rattle.tt_core.specs.Outcomes.{each}
use Rattle.tt_fit.specs.Fitting.{fitted_outline}
use Rattle.tt_picture.specs.Cached.{IsCacheFor}
use Rattle.tt_picture.specs.Distinct.{fitter_after, fitter_for}
use Rattle.tt_picture.specs.Glyphs.{Glyph, IsDrawn}
use Rattle.tt_picture.proofs.Cached.{cache_after, cache_before}
use Rattle.tt_picture.proofs.Outlines.{present_is, stuck_there}
use Rattle.tt_picture.proofs.Places.{one_more_made}
use Rattle.tt_picture.proofs.Turns.{none_before, pushed, same_tables}
use Rattle.tt_picture.proofs.fitting.made_glyphs.Goals.{After-of}
use Rattle.tt_picture.proofs.fitting.made_glyphs.Goals as goal

pub loop-number-init : goal.loop-number-init
loop-number-init c =
    let ns = c.args.numbers.now in
    let maker = fitter_for c.args.fitter.now ns in
    let none = c.in_ok-made.ensures.items in
    record {
      numbers = rw none refl;
      drawn = rw none (λ k d below. absurd (omega (arith, below)));
      outlines = ([], none_before (each (λ g. fitted_outline (maker g) g) ns));
      after = refl;
      tables = refl;
      cache = c.requires.cache;
      limit = refl;
    }

-- the fitter of the next glyph is the present one
maker_is : (c : After-of) → fitter_for c.args.fitter.now c.args.numbers.now
    (get_or c.args.numbers.now c.loop-number.number-index 0) ≡ c.loop-number.fitter
maker_is c =
    present_is c.args.fitter.now c.loop-number.fitter c.args.numbers.now c.loop-number.number-index c.loop-number-test.true
    c.requires.differ c.loop-number.invariant.after

-- the cache serves the present fitter
serves : (c : After-of) → IsCacheFor c.loop-number.fitter c.loop-number.cache
serves c =
    let so_far = c.loop-number.invariant in
    rw so_far.after (cache_after c.args.fitter.now (take c.loop-number.number-index c.args.numbers.now) c.loop-number.cache so_far.cache)

pub of-requires-clause-known : goal.of-requires-clause-known
of-requires-clause-known c =
    rw c.loop-number.invariant.tables (c.requires.known c.loop-number.number-index 0 c.loop-number-test.true)

pub of-requires-clause-cache : goal.of-requires-clause-cache
of-requires-clause-cache c =
    let so_far = c.loop-number.invariant in
    rw so_far.after (cache_after c.args.fitter.now (take c.loop-number.number-index c.args.numbers.now) c.loop-number.cache so_far.cache)

pub into_glyph-requires : goal.into_glyph-requires
into_glyph-requires c = record { fitted = (c.loop-number.fitter, c.in_ok-fitted.ensures.fitted) }

pub loop-number-preserved : goal.loop-number-preserved
loop-number-preserved c =
    let ns = c.args.numbers.now in
    let s = c.args.fitter.now in
    let maker = fitter_for s ns in
    let i = c.loop-number.number-index in
    let n = get_or ns i 0 in
    let below : i < length ns = c.loop-number-test.true in
    let so_far = c.loop-number.invariant in
    let of = (goal.at.loop-number-preserved c).After-of in
    let from = maker_is of in
    let made = c.loop-number.made.items in
    let h = c.in_ok-glyph.glyph in
    let fit = c.in_ok-fitted.ensures in
    let one = c.in_ok-glyph.ensures in
    let items = c.in_ok-push.ensures.items in
    let number : h.number ≡ n = one.number ∙ fit.number in
    let own : maker h.number ≡ c.loop-number.fitter = ap maker number ∙ from in
    let drawn : IsDrawn (maker h.number) h = rw own (one.valid c.loop-number.fitter fit.fitted) in
    let outline : fitted_outline (maker n) n ≡ Ok drawn.shape = rw number at drawn.outline in
    let left : IsCacheFor c.loop-number.fitter c.into_glyph.new.cache = one.cached c.loop-number.fitter fit.fitted (serves of) in
    record {
      numbers = rw (items, map-append (λ (g : Glyph). g.number) made (h ∷ []), so_far.numbers, number)
          (sym (take_more ns i 0 below));
      drawn = rw items (All-push (λ (g : Glyph). IsDrawn (maker g.number) g) made h so_far.drawn drawn);
      outlines = (
        so_far.outlines.0 ++ drawn.shape ∷ [],
        one_more_made (λ g. fitted_outline (maker g) g) ns i 0 so_far.outlines.0 drawn.shape below outline
            ∙ so_far.outlines.1,
      );
      after = fit.after ∙ rw (take_more ns i 0 below, so_far.after) (sym (pushed s (take i ns) n));
      tables = rw fit.after (same_tables c.loop-number.fitter n) ∙ so_far.tables;
      cache = cache_before s (take i ns) c.into_glyph.new.cache (rw so_far.after at left);
      limit = one.limit ∙ so_far.limit;
    }

pub returns-in_err-fitted-clause-fault : goal.returns-in_err-fitted-clause-fault
returns-in_err-fitted-clause-fault c =
    let ns = c.args.numbers.now in
    let maker = fitter_for c.args.fitter.now ns in
    let i = c.loop-number.number-index in
    let below : i < length ns = c.loop-number-test.true in
    let from = maker_is (goal.at.returns-in_err-fitted-clause-fault c).After-of in
    let fails = rw (← from) at c.in_err-fitted.ensures.fault in
    let p = err_from_is_err_and c.from_residual-in_err-fitted.result c.from_residual-in_err-fitted.ensures.1 in
    rw (p.1, p.2) (stuck_there c.in_err-fitted.field-0.0 (λ g. fitted_outline (maker g) g) ns i
    c.loop-number.invariant.outlines.0 below c.loop-number.invariant.outlines.1 fails)

-- the cache after the glyphs so far
pub returns-in_err-glyph-clause-cache : goal.returns-in_err-glyph-clause-cache
returns-in_err-glyph-clause-cache c =
    let so_far = c.loop-number.invariant in
    let left : IsCacheFor c.loop-number.fitter c.into_glyph.new.cache =
    c.in_err-glyph.ensures.cached c.loop-number.fitter c.in_ok-fitted.ensures.fitted
    (serves (goal.at.returns-in_err-glyph-clause-cache c).After-of) in
    cache_before c.args.fitter.now (take c.loop-number.number-index c.args.numbers.now) c.into_glyph.new.cache (rw so_far.after at left)

pub returns-in_err-push-clause-cache : goal.returns-in_err-push-clause-cache
returns-in_err-push-clause-cache c =
    let so_far = c.loop-number.invariant in
    let left : IsCacheFor c.loop-number.fitter c.into_glyph.new.cache =
    c.in_ok-glyph.ensures.cached c.loop-number.fitter c.in_ok-fitted.ensures.fitted
    (serves (goal.at.returns-in_err-push-clause-cache c).After-of) in
    cache_before c.args.fitter.now (take c.loop-number.number-index c.args.numbers.now) c.into_glyph.new.cache (rw so_far.after at left)

pub returns-clause-numbers : goal.returns-clause-numbers
returns-clause-numbers c =
    let ns = c.args.numbers.now in
    let over : length ns ≤ c.loop-number.number-index = omega (arith, c.loop-number-test.false) in
    c.loop-number.invariant.numbers ∙ take_all c.loop-number.number-index ns over

pub returns-clause-after : goal.returns-clause-after
returns-clause-after c =
    let ns = c.args.numbers.now in
    let over : length ns ≤ c.loop-number.number-index = omega (arith, c.loop-number-test.false) in
    c.loop-number.invariant.after ∙ ap (fitter_after c.args.fitter.now) (take_all c.loop-number.number-index ns over)
