use Rattle.std.proofs.Common.{◌≡◌, length}
use Rattle.tt_strike_kept.specs.Kept.{fitting}
use Rattle.tt_strike_kept.proofs.kept.KeptGlyphs.make_room.Given as goal

abbrev pub invariant-loop-self : goal.invariant-loop-self
invariant-loop-self l = (l.self.most ≡ l.initial.self.most)
    × (fitting l.room l.self.entries ≡ fitting l.room l.initial.self.entries)

abbrev pub decreases-loop-self : goal.decreases-loop-self
decreases-loop-self l = length l.self.entries
