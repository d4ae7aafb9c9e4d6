use Rattle.std.proofs.Common.{SFits, w8, refl, rules, arith}
use Rattle.std.proofs.lemmas.Int.{ints}
use Rattle.tt_scan_edges.specs.Walks.{turned_round}
use Rattle.tt_scan_edges.proofs.Crosses.{round_cross}
use Rattle.tt_scan_edges.proofs.crossing.turned_back.Goals as goal

pub returns : goal.returns
returns c = λ e m y is.
    let turn : SFits w8 c.args.up.turn = search rules in
    round_cross e (turned_round e) m y c.args.up _ refl refl refl refl is refl (omega (arith, ints)) (omega (arith, ints))
