use Rattle.std.proofs.Common.{◌≡◌, false}
use Rattle.tt_render_texts.specs.LineReading.{held, text_left}
use Rattle.tt_render_texts.proofs.PassedLines.{IsPassing}
use Rattle.tt_render_texts.proofs.lines.LineReader.pass_line.Given as goal

-- a front of the line was passed over
abbrev pub invariant-pieces : goal.invariant-pieces
invariant-pieces g l = record {
  passing : IsPassing (text_left l.fn.self (g.R.Source.left l.fn.source)) (g.R.Source.left l.source) (held l.self);
  serves : g.R.Source.has_failed l.source ≡ false;
}
