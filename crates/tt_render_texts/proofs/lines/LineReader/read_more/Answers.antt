use Rattle.std.proofs.Common.{◌≡◌, ◌≤◌, ◌∙◌, ◌+◌, ◌++◌, length, take, drop, ap, rules, arith, length-drop, length-take-le}
use Rattle.std.proofs.lemmas.List.{places, with_items_is}
use Rattle.tt_render_texts.proofs.HeldLines.{held_more}
use Rattle.tt_render_texts.proofs.lines.LineReader.read_more.Goals as goal

pub returns-clause-more : goal.returns-clause-more
returns-clause-more g c =
    let r = c.move_to_front.new.self in
    let buf = c.read_after.new.buf in
    let n = c.in_ok-n.n in
    let bytes = take n (drop r.until buf) in
    let is = with_items_is r.buf buf (search (rules, places)) in
    let front : take r.until buf ≡ take r.until r.buf.items =
    rw c.deref_mut.ensures.value at c.read_after.ensures.front in
    let fits : r.until + n ≤ length buf = c.in_ok-n.ensures.bound in
    let many : length bytes ≡ n = length-take-le n (drop r.until buf) (omega (arith, length-drop r.until buf, fits)) in
    let more = held_more r.from r.until n r.buf.items buf r.order (omega (arith, fits))
    front in
    let held_now = ap (λ xs. drop r.from (take (r.until + n) xs)) is ∙ more
    ∙ ap (λ xs. xs ++ bytes) c.move_to_front.ensures.held in
    (bytes, many, held_now, c.in_ok-n.ensures.bytes)
