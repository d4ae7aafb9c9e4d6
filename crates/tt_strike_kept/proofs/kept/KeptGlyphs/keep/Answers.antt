use Rattle.std.proofs.Common.{nat_eq}
use Rattle.tt_strike_kept.proofs.Fitting.{fitting_fits, none_fitting}
use Rattle.tt_strike_kept.proofs.kept.KeptGlyphs.keep.Goals as goal

pub put_newest-requires-clause-none : goal.put_newest-requires-clause-none
put_newest-requires-clause-none c =
    let before = c.give_up.new.self.entries in
    rw c.make_room.ensures (none_fitting (nat_eq c.args.number) c.in-Some.room before c.give_up.ensures.none)

pub put_newest-requires-clause-left : goal.put_newest-requires-clause-left
put_newest-requires-clause-left c = rw c.make_room.ensures (fitting_fits c.in-Some.room c.give_up.new.self.entries)
