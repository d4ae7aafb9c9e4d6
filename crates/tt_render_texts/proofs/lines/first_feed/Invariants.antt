use Rattle.std.proofs.Common.{◌≢◌, take, All}
use Rattle.tt_render_texts.proofs.lines.first_feed.Given as goal

abbrev pub invariant-loop-i : goal.invariant-loop-i
invariant-loop-i l = All (λ x. x ≢ 10) (take l.i l.bytes)
