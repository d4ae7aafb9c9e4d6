use Rattle.std.proofs.Common.{take, arith, length-take-le, length-drop}
use Rattle.tt_render_texts.specs.LineReading.{held}
use Rattle.tt_render_texts.proofs.HeldLines.{first_feed_behind, none_in_both, part_held}
use Rattle.tt_render_texts.proofs.lines.LineReader.feed_behind.Goals as goal

pub returns-in_err-at : goal.returns-in_err-at
returns-in_err-at c =
    let r = c.args.self.now in
    let known = c.args.known in
    let long = length-take-le r.until r.buf.items (omega (arith, r.within)) in
    let part = part_held r.from r.until known r.buf.items
    (omega (arith, c.requires.within, length-drop r.from (take r.until r.buf.items), long, r.order)) in
    rw c.from_residual.ensures (none_in_both known (held r) c.requires.none
    (rw part (rw c.deref.ensures.value at c.in_err-at.ensures)))

pub returns : goal.returns
returns c =
    let r = c.args.self.now in
    let known = c.args.known in
    let long = length-take-le r.until r.buf.items (omega (arith, r.within)) in
    let part = part_held r.from r.until known r.buf.items
    (omega (arith, c.requires.within, length-drop r.from (take r.until r.buf.items), long, r.order)) in
    first_feed_behind known c.in_ok-at.at (held r) c.requires.within c.requires.none
    (rw part (rw c.deref.ensures.value at c.in_ok-at.ensures))
