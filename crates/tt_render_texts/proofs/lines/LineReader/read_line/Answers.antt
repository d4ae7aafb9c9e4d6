use Rattle.std.proofs.Common.{◌≡◌, ◌≢◌, All, ◌<◌, ◌+◌, length, take, arith, length-drop, length-take-le}
use Rattle.tt_render_texts.specs.LineReading.{held, line_at, text_left}
use Rattle.tt_render_texts.specs.Lines.{line_limit}
use Rattle.tt_render_texts.proofs.HeldLines.{begins_long, holds_the_same, loses_line, loses_rest, no_more_lines, keeps_more}
use Rattle.tt_render_texts.proofs.lines.LineReader.read_line.Goals as goal

pub returns-in-Some-clause-outcome : goal.returns-in-Some-clause-outcome
returns-in-Some-clause-outcome g c =
    let left = g.R.Source.left in
    let given = c.give_line.ensures in
    loses_line (text_left c.args.self.now (left c.args.source.now)) (left c.pieces.source)
    (held c.pieces.self) (held c.give_line.new.self) (line_at c.give_line.new.self c.give_line.result) c.in-Some.at
    c.pieces.invariant.text c.in-Some.ensures given.rest given.line

pub returns-then-known-clause-outcome : goal.returns-then-known-clause-outcome
returns-then-known-clause-outcome g c =
    let left = g.R.Source.left in
    let r = c.pieces.self in
    let text = c.pieces.invariant.text in
    let taken = length-take-le r.until r.buf.items (omega (arith, r.within)) in
    let long : line_limit + 1 < length (held r) =
    omega (arith, length-drop r.from (take r.until r.buf.items), taken, c.if-known.true) in
    let begins = begins_long (text_left c.args.self.now (left c.args.source.now)) (left c.pieces.source) (held r) text
    c.in_default.ensures long in
    (begins, text, omega (arith, long))

pub returns-then-known-eq0-clause-outcome : goal.returns-then-known-eq0-clause-outcome
returns-then-known-eq0-clause-outcome g c =
    let left = g.R.Source.left in
    let before = text_left c.args.self.now (left c.args.source.now) in
    let r = c.pieces.self in
    let new = held c.read_more.new.self in
    let after = left c.read_more.new.source in
    let n = c.in_ok-read_more.field-0 in
    let more = c.in_ok-read_more.ensures.more in
    let same = holds_the_same (left c.pieces.source) after (held r) new n more c.if-branch-eq0.true in
    let taken = length-take-le r.until r.buf.items (omega (arith, r.within)) in
    let none : length new ≡ 0 =
    rw same (omega (arith, length-drop r.from (take r.until r.buf.items), taken, c.if-known-eq0.true)) in
    no_more_lines before after new
    (keeps_more before (left c.pieces.source) after (held r) new n c.pieces.invariant.text more) none
    (c.in_ok-read_more.ensures.end c.if-branch-eq0.true)

pub returns-then-branch-eq0-clause-outcome : goal.returns-then-branch-eq0-clause-outcome
returns-then-branch-eq0-clause-outcome g c =
    let left = g.R.Source.left in
    let before = text_left c.args.self.now (left c.args.source.now) in
    let r = c.pieces.self in
    let new = held c.read_more.new.self in
    let after = left c.read_more.new.source in
    let n = c.in_ok-read_more.field-0 in
    let more = c.in_ok-read_more.ensures.more in
    let given = c.give_rest.ensures in
    let same = holds_the_same (left c.pieces.source) after (held r) new n more c.if-branch-eq0.true in
    let taken = length-take-le r.until r.buf.items (omega (arith, r.within)) in
    let some : 0 < length new =
    rw same (omega (arith, length-drop r.from (take r.until r.buf.items), taken, c.if-known-eq0.false)) in
    let none : All (λ x. x ≢ 10) new = rw same c.in_default.ensures in
    loses_rest before after new (held c.give_rest.new.self)
    (line_at c.give_rest.new.self c.give_rest.result)
    (keeps_more before (left c.pieces.source) after (held r) new n c.pieces.invariant.text more) none some
    (c.in_ok-read_more.ensures.end c.if-branch-eq0.true) given.rest given.line
