use Rattle.std.proofs.Common.{◌≡◌, sym, ap, ◌+◌, max, length, slice_index, arith}
use Rattle.std.proofs.lemmas.Grind.{common_steps}
use Rattle.std.proofs.lemmas.List.{length_push, take_all}
use Rattle.tt_bdf.specs.Asked.{far_before, is_shown, listed_below}
use Rattle.tt_core.specs.Limits.{text_limit}
use Rattle.tt_bdf.proofs.Reaching.{far_next, far_none, found_more, found_none, listed_first}
use Rattle.tt_bdf.proofs.asked.listed.Goals.{in-Some+in_ok-push+else-len-gt-TEXT_LIMIT, in_default}
use Rattle.tt_bdf.proofs.asked.listed.Goals as goal

pub loop-code-init : goal.loop-code-init
loop-code-init c = record {
  far = far_none c.args.ranges.now;
  found = c.new-found.ensures.items;
  few = rw c.new-found.ensures.items (omega arith);
}

pub returns-then-len-gt-TEXT_LIMIT : goal.returns-then-len-gt-TEXT_LIMIT
returns-then-len-gt-TEXT_LIMIT c =
    let rs = c.args.ranges.now in
    let n = c.loop-code.code in
    let shown = is_shown c.args.cmap.now in
    let found = c.push.new.self.items in
    let larger : c.max-far.result ≡ max c.loop-code.far (slice_index c.args.reaches.now n) =
    grind (arith, common_steps, c.max-far.ensures) in
    let far : c.max-far.result ≡ far_before rs (n + 1) =
    rw (larger, c.loop-code.invariant.far, c.requires.reaches n c.loop-code-test.true) (far_next rs n) in
    let more = found_more shown rs n c.max-far.result c.in-Some.c far (sym c.in-Some.ensures) in
    let items : found ≡ listed_below shown rs (n + 1) =
    rw (c.in_ok-push.ensures.items, c.loop-code.invariant.found) (sym more) in
    let long : length found ≡ length c.loop-code.found.items + 1 =
    rw c.in_ok-push.ensures.items (length_push c.loop-code.found.items c.in-Some.c) in
    let many : length found ≡ text_limit + 1 =
    omega (arith, long, c.push.new.self.ok.0, c.loop-code.invariant.few, c.len.ensures, c.if-len-gt-TEXT_LIMIT.true) in
    let first = listed_first shown rs (n + 1) (length c.args.reaches.now) (omega (arith, c.loop-code-test.true)) in
    sym (rw (← items, many) at first)

pub loop-code-preserved : goal.loop-code-preserved
loop-code-preserved c =
    let rs = c.args.ranges.now in
    let n = c.loop-code.code in
    let shown = is_shown c.args.cmap.now in
    let larger : c.max-far.result ≡ max c.loop-code.far (slice_index c.args.reaches.now n) =
    grind (arith, common_steps, c.max-far.ensures) in
    let far : c.max-far.result ≡ far_before rs (n + 1) =
    rw (larger, c.loop-code.invariant.far, c.requires.reaches n c.loop-code-test.true) (far_next rs n) in
    elim c.match-found_at.branch [
      | in-Some+in_ok-push+else-len-gt-TEXT_LIMIT w ↦ record {
        far = far;
        found = rw (w.found-is, w.in_ok-push.ensures.items, c.loop-code.invariant.found)
            (sym (found_more shown rs n c.max-far.result w.in-Some.c far (sym w.in-Some.ensures)));
        few = rw w.found-is (omega (arith, w.push.new.self.ok.0, w.len.ensures, w.if-len-gt-TEXT_LIMIT.false));
      }
      | in_default w ↦ record {
        far = far;
        found = rw (w.found-is, c.loop-code.invariant.found)
            (sym (found_none shown rs n c.max-far.result far (sym w.in_default.ensures)));
        few = rw w.found-is c.loop-code.invariant.few;
      }
    ]

pub returns : goal.returns
returns c =
    let rs = c.args.ranges.now in
    let end = length c.args.reaches.now in
    let shown = is_shown c.args.cmap.now in
    let all : c.loop-code.code ≡ end = omega (arith, c.loop-code-test.false, c.loop-code.auto.code-end) in
    let items : c.loop-code.found.items ≡ listed_below shown rs end = rw all at c.loop-code.invariant.found in
    rw items (sym (take_all (text_limit + 1) (listed_below shown rs end) (omega (arith, ap length items, c.loop-code.invariant.few))))
