use Rattle.std.proofs.Common.{◌∙◌}
use Rattle.tt_render_texts.specs.LineReading.{held, text_left}
use Rattle.tt_render_texts.proofs.PassedLines.{none_passed, passed_line, passed_rest, passing_more}
use Rattle.tt_render_texts.proofs.Printed.{keeps_itself}
use Rattle.tt_render_texts.proofs.lines.LineReader.pass_line.Goals as goal

pub pieces-init : goal.pieces-init
pieces-init g c =
    let left = g.R.Source.left c.args.source.now in
    let text = text_left c.args.self.now left in
    record {
      passing = none_passed text left (held c.args.self.now) c.requires.some (keeps_itself text);
      serves = c.requires.serves;
    }

pub pieces-preserved : goal.pieces-preserved
pieces-preserved g c =
    let left = g.R.Source.left in
    let more = rw c.give_rest.ensures.rest at c.in_ok-read_more.ensures.more in
    record {
      passing = passing_more (text_left c.args.self.now (left c.args.source.now)) (left c.pieces.source)
          (left c.read_more.new.source) (held c.pieces.self) (held c.read_more.new.self) c.in_ok-read_more.field-0
          c.pieces.invariant.passing c.in_default.ensures more;
      serves = c.in_ok-read_more.ensures.failure ∙ c.pieces.invariant.serves;
    }

pub returns-in-Some-clause-passed : goal.returns-in-Some-clause-passed
returns-in-Some-clause-passed g c =
    let left = g.R.Source.left in
    λ _. passed_line (text_left c.args.self.now (left c.args.source.now)) (left c.pieces.source) (held c.pieces.self)
    (held c.give_line.new.self) c.in-Some.at c.pieces.invariant.passing c.in-Some.ensures c.give_line.ensures.rest

pub returns-then-branch-eq0-clause-passed : goal.returns-then-branch-eq0-clause-passed
returns-then-branch-eq0-clause-passed g c =
    let left = g.R.Source.left in
    let more = rw c.give_rest.ensures.rest at c.in_ok-read_more.ensures.more in
    λ _. passed_rest (text_left c.args.self.now (left c.args.source.now)) (left c.pieces.source)
    (left c.read_more.new.source) (held c.pieces.self) (held c.read_more.new.self) c.in_ok-read_more.field-0
    c.pieces.invariant.passing c.in_default.ensures more c.if-branch-eq0.true
    (c.in_ok-read_more.ensures.end c.if-branch-eq0.true)
