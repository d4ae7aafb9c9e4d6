use Rattle.std.proofs.Common.{◌≡◌, ◌∙◌, ◌∷◌, [], ◌<◌, ◌≤◌, ap, drop, get_or, length, map, refl, suc, sym, take, arith}
use Rattle.std.proofs.lemmas.List.{map-append, take_all, take_more}
use Rattle.std.proofs.lemmas.List.Elements.{All-push}
use Rattle.tt_picture.specs.Distinct.{IsNext, fitter_after, fitter_for}
use Rattle.tt_picture.proofs.Outlines.{all_new, not_yet}
use Rattle.tt_picture.proofs.Turns.{next_is, pushed, same_tables}
use Rattle.tt_glyphs.specs.declared.ruled.TriedGlyph.{TriedGlyph}
use Rattle.tt_glyphs.specs.Tried.{IsRuledBody, tried_glyph}
use Rattle.tt_glyphs.proofs.outlines.try_glyphs.Goals as goal

pub loop-number-init : goal.loop-number-init
loop-number-init c =
    let none = c.in_ok-tried.ensures.items in
    record {
      tried = rw none refl;
      ruled = rw none (λ k d below. absurd (omega (arith, below)));
      after = refl;
      tables = refl;
    }

pub try_glyph-requires : goal.try_glyph-requires
try_glyph-requires c =
    rw c.loop-number.invariant.tables (c.requires.known c.loop-number.number-index 0 c.loop-number-test.true)

pub loop-number-preserved : goal.loop-number-preserved
loop-number-preserved c =
    let ns = c.args.numbers.now in
    let s = c.args.fitter.now in
    let maker = fitter_for s ns in
    let i = c.loop-number.number-index in
    let n = get_or ns i 0 in
    let below : i < length ns = c.loop-number-test.true in
    let so_far = c.loop-number.invariant in
    let next : IsNext maker c.loop-number.fitter (take i ns) n =
    next_is s c.loop-number.fitter (take i ns) ns n (drop (suc i) ns) (all_new ns i below c.requires.differ) so_far.after in
    let from : maker n ≡ c.loop-number.fitter = next (not_yet ns i below c.requires.differ) in
    let tried = c.loop-number.tried.items in
    let one = c.in_ok-try_glyph.ensures in
    let h = c.in_ok-try_glyph.field-0 in
    let items = c.in_ok-push.ensures.items in
    let own : h ≡ tried_glyph (maker n) n = rw from one.tried in
    record {
      tried = rw (items, take_more ns i 0 below, map-append (λ n. tried_glyph (maker n) n) (take i ns) (n ∷ []), own, so_far.tried)
          refl;
      ruled = rw items (All-push (λ (t : TriedGlyph). IsRuledBody t.body) tried h so_far.ruled one.ruled);
      after = one.after ∙ rw (take_more ns i 0 below, so_far.after) (sym (pushed s (take i ns) n));
      tables = rw one.after (same_tables c.loop-number.fitter n) ∙ so_far.tables;
    }

pub returns-clause-tried : goal.returns-clause-tried
returns-clause-tried c =
    let ns = c.args.numbers.now in
    let maker = fitter_for c.args.fitter.now ns in
    let over : length ns ≤ c.loop-number.number-index = omega (arith, c.loop-number-test.false) in
    c.loop-number.invariant.tried ∙ ap (map (λ n. tried_glyph (maker n) n)) (take_all c.loop-number.number-index ns over)

pub returns-clause-after : goal.returns-clause-after
returns-clause-after c =
    let ns = c.args.numbers.now in
    let over : length ns ≤ c.loop-number.number-index = omega (arith, c.loop-number-test.false) in
    c.loop-number.invariant.after ∙ ap (fitter_after c.args.fitter.now) (take_all c.loop-number.number-index ns over)
