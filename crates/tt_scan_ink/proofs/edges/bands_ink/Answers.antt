use Rattle.std.proofs.Common.{◌≡◌, ◌∙◌, refl, ◌+◌, pos, ◌+ℤ◌, ◌-ℤ◌, SFits, w64, rules, arith}
use Rattle.std.proofs.lemmas.Int.{ints, to_z-of_z}
use Rattle.tt_scan_ink.specs.Ink.{count_of}
use Rattle.tt_bitmap.specs.Inks.{IsInk}
use Rattle.tt_scan_ink.specs.Least.{is_inked_by, shown}
use Rattle.tt_scan_ink.proofs.Regions.{bands_more, no_rows}
use Rattle.tt_scan_ink.proofs.Together.{joined_is}
use Rattle.tt_scan_ink.proofs.edges.bands_ink.Goals as goal

pub loop-done-init : goal.loop-done-init
loop-done-init c =
    record {
      edges = refl;
      count = c.count_of-count.ensures.exact;
      within = omega arith;
      ink = λ k j. no_rows c.args.columns (is_inked_by c.args.list.edges) c.args.rows.first k j;
    }

pub loop-done-preserved : goal.loop-done-preserved
loop-done-preserved c =
    let so_far = c.loop-done.invariant in
    let columns = c.args.columns in
    let first = c.args.rows.first in
    let done = c.loop-done.done in
    let height = c.min-height.result in
    let near = c.requires.rows in
    let low = near.first in
    let high = near.last in
    let black = is_inked_by c.args.list.edges in
    let some : SFits w64 first = search rules in
    let more : SFits w64 c.from.result = search rules in
    let place : SFits w64 (first +ℤ c.from.result) =
    omega (arith, ints, low, high, so_far.count, so_far.within, c.min-height.ensures, c.from.ensures) in
    let same : (first +ℤ pos (done + height)) -ℤ pos height ≡ first +ℤ pos done = omega (arith, ints) in
    let here : IsInk (shown columns (first +ℤ pos done) height black) c.in_ok-same.band =
    rw (c.from.ensures, same, so_far.edges) at (simp to_z-of_z at c.in_ok-same.ensures.exact) in
    record {
      edges = c.in_ok-same.ensures.edges ∙ so_far.edges;
      count = c.count_of-count.ensures.exact;
      within = omega (arith, c.min-height.ensures, so_far.within, c.loop-done-test.true);
      ink = rw c.joined-ink.ensures
          (joined_is (shown columns first done black) (shown columns (first +ℤ pos done) height black)
          (shown columns first (done + height) black) _ _ (bands_more columns black first done height) so_far.ink here);
    }

pub returns : goal.returns
returns c =
    let so_far = c.loop-done.invariant in
    let end : c.loop-done.done ≡ count_of c.args.rows =
    omega (arith, c.loop-done-test.false, so_far.within, so_far.count) in
    rw end at so_far.ink
