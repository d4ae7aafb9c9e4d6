use Rattle.std.proofs.Common.{◌≡◌, ◌*◌, min, rules, arith, refl}
use Rattle.tt_bitmap.specs.Bitmaps.{pixel}
use Rattle.tt_bitmap.proofs.Runs.{no_word_yet, one_word_more, word_ored}
use Rattle.tt_bitmap.proofs.run.blacken_run.Goals as goal

pub loop-at-init : goal.loop-at-init
loop-at-init c = record {
  order = omega arith;
  pixels = λ i. no_word_yet (pixel c.args.words.now i) c.args.from c.args.past _ i (omega arith);
  len = refl;
}

pub loop-at-preserved : goal.loop-at-preserved
loop-at-preserved c =
    let so_far = c.loop-at.invariant in
    let at = c.loop-at.at in
    record {
      order = omega (arith, so_far.order);
      pixels = λ i. one_word_more (pixel c.args.words.now i) (pixel c.loop-at.words i) _ c.args.from c.args.past at c.ones.result i c.requires.order
          (rw (c.count_before.ensures, c.count_before-in-loop-at.ensures) at c.ones.ensures) (so_far.pixels i)
          (word_ored c.loop-at.words at c.ones.result i (omega (arith, so_far.len, c.loop-at-test.true, c.requires.within)));
      len = search rules;
    }

pub returns-clause-pixels : goal.returns-clause-pixels
returns-clause-pixels c = λ i.
    let end : min c.args.past (56 * c.loop-at.at) ≡ c.args.past = omega (arith, c.loop-at-test.false) in
    rw end at (c.loop-at.invariant.pixels i)
