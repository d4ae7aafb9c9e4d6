use Rattle.std.proofs.Common.{◌≡◌, ◌≢◌, ◌-◌, ◌≤◌, length, take, All, false}
use Rattle.std.specs.Io.KnownBytes.{Keeps}
use Rattle.tt_render_texts.specs.LineReading.{held, text_left}
use Rattle.tt_render_texts.specs.Lines.{line_room}
use Rattle.tt_render_texts.proofs.lines.LineReader.read_line.Given as goal

-- the first held bytes are no line feeds, and the remaining text is unchanged
abbrev pub invariant-pieces : goal.invariant-pieces
invariant-pieces g l = record {
  within : l.known ≤ length (held l.self);
  none : All (λ x. x ≢ 10) (take l.known (held l.self));
  text : Keeps (text_left l.fn.self (g.R.Source.left l.fn.source)) (text_left l.self (g.R.Source.left l.source));
  serves : g.R.Source.has_failed l.source ≡ false;
}

abbrev pub decreases-pieces : goal.decreases-pieces
decreases-pieces g l = line_room - length (held l.self)
