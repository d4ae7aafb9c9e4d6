use Rattle.std.proofs.Common.{◌≡◌, ◌+◌, ◌<◌, ◌≤◌, ◌∙◌, ◌++◌, length, take, drop, refl, rules, arith, length-take-le, take_at}
use Rattle.std.proofs.lemmas.List.{places}
use Rattle.tt_core.specs.Limits.{font_limit}
use Rattle.tt_render_streams.proofs.Known.{consumes_filled, consumes_larger}
use Rattle.tt_render_streams.proofs.reading.read_font.Goals as goal

pub returns-then-filled-gt-FONT_LIMIT : goal.returns-then-filled-gt-FONT_LIMIT
returns-then-filled-gt-FONT_LIMIT g c =
    let left = g.R.Source.left in
    let buf = c.read_after.new.buf in
    let filled = c.pieces.filled + c.in-Ok.n in
    let front = rw c.deref_mut.ensures.value at c.read_after.ensures.front in
    let known = consumes_filled (left c.args.font.now) (left c.pieces.font) (left c.read_after.new.font)
    c.pieces.file.items buf c.pieces.filled c.in-Ok.n (front ∙ c.make_room.ensures.front)
    c.pieces.invariant.bytes c.in-Ok.ensures.bytes in
    let long = length-take-le filled buf c.in-Ok.ensures.bound in
    let large : font_limit < length (take filled buf) = omega (arith, long, c.if-filled-gt-FONT_LIMIT.true) in
    let larger = consumes_larger (left c.args.font.now) (left c.read_after.new.font) (take filled buf) font_limit known
    large in
    (larger, (take filled buf, known), search rules)

pub pieces-preserved : goal.pieces-preserved
pieces-preserved g c =
    let left = g.R.Source.left in
    let buf = c.read_after.new.buf in
    let front = rw c.deref_mut.ensures.value at c.read_after.ensures.front in
    let known = consumes_filled (left c.args.font.now) (left c.pieces.font) (left c.read_after.new.font)
    c.pieces.file.items buf c.pieces.filled c.in-Ok.n (front ∙ c.make_room.ensures.front)
    c.pieces.invariant.bytes c.in-Ok.ensures.bytes in
    let long : length buf ≡ c.make_room.new.file.len = search (rules, places) in
    let whole : take c.make_room.new.file.len (buf ++ drop (length buf) c.make_room.new.file.items) ≡ buf =
    take_at buf _ c.make_room.new.file.len long in
    record {
      within = search rules;
      known = search rules;
      limit = search rules;
      bytes = rw whole known;
      serves = search rules;
    }

pub returns-in-Ok-eq0 : goal.returns-in-Ok-eq0
returns-in-Ok-eq0 g c =
    let left = g.R.Source.left in
    let buf = c.read_after.new.buf in
    let filled = c.pieces.filled in
    let front = rw c.deref_mut.ensures.value at c.read_after.ensures.front in
    let none : filled + c.in-Ok-eq0.field-0 ≡ filled = omega (arith, c.in-Ok-eq0.field-0-test) in
    let known = rw none at (consumes_filled (left c.args.font.now) (left c.pieces.font) (left c.read_after.new.font)
    c.pieces.file.items buf filled c.in-Ok-eq0.field-0 (front ∙ c.make_room.ensures.front)
    c.pieces.invariant.bytes c.in-Ok-eq0.ensures.bytes) in
    let long : length buf ≡ c.make_room.new.file.len = search (rules, places) in
    let whole : take c.make_room.new.file.len (buf ++ drop (length buf) c.make_room.new.file.items) ≡ buf =
    take_at buf _ c.make_room.new.file.len long in
    let is : c.truncate.new.self.items ≡ take filled buf = rw (c.truncate.ensures.items, whole) refl in
    let few : length (take filled buf) ≤ font_limit =
    omega (arith, length-take-le filled buf (omega (arith, c.in-Ok-eq0.ensures.bound)), c.pieces.invariant.known) in
    (rw is known, c.in-Ok-eq0.ensures.end c.in-Ok-eq0.field-0-test, rw is few, search rules)
