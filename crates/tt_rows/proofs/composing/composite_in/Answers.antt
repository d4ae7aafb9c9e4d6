use Rattle.std.proofs.Common.{sym, arith}
use Rattle.tt_rows.proofs.Letters.{composite_none}
use Rattle.tt_rows.proofs.Seconds.{latin_never_second}
use Rattle.tt_rows.proofs.composing.composite_in.Goals as goal

pub returns-then-b-lt768 : goal.returns-then-b-lt768
returns-then-b-lt768 c =
    sym (composite_none c.args.cmap.now c.args.a c.args.b (latin_never_second c.args.a c.args.b (omega (arith, c.if-b-lt768.true))))
