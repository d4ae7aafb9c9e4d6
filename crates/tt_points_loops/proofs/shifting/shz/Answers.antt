use Rattle.std.proofs.Common.{SFits, w32, ℕ, ap}
use Rattle.std.proofs.lemmas.Int.{to_z-of_z}
use Rattle.tt_points_loops.specs.Shifting.{shz}
use Rattle.tt_points_loops.proofs.shifting.shz.Goals as goal

pub returns-clause-exact : goal.returns-clause-exact
unfolding shz
returns-clause-exact c =
    let fits : SFits w32 c.args.zone = c.ranges.zone in
    let zone = simp to_z-of_z at c.in_ok-zone.ensures in
    let first = ap (λ (r : ℕ × ℕ). r.0) c.outline_in-outline.ensures.exact in
    let past = ap (λ (r : ℕ × ℕ). r.1) c.outline_in-outline.ensures.exact in
    rw zone (rw (c.outline_in-outline.ensures.zone, first, past) at c.shift_range.ensures.exact)
