use Rattle.std.proofs.Common.{◌≡◌, pos, true, false, if◌then◌else◌, SFits, w32, of_z, refl, rules, arith}
use Rattle.std.specs.Ordering.{int_eq}
use Rattle.std.proofs.lemmas.Int.{ints, to_z-of_z}
use Rattle.tt_state.specs.Axes.{pair_of}
use Rattle.tt_points_zones.proofs.motion.Motion.marked.Goals as goal
use Rattle.tt_points_zones.proofs.motion.Motion.marked.Goals.{then-x-eq0, else-x-eq0, then-y-eq0, else-y-eq0}

pub returns-clause-exact : goal.returns-clause-exact
returns-clause-exact c =
    let free = pair_of c.args.self.now.free in
    let p = c.args.p in
    let units_x : SFits w32 c.args.p.units_x = search rules in
    let units_y : SFits w32 c.args.p.units_y = search rules in
    let org_x : SFits w32 c.args.p.org_x = search rules in
    let org_y : SFits w32 c.args.p.org_y = search rules in
    let x : SFits w32 c.args.p.x = search rules in
    let y : SFits w32 c.args.p.y = search rules in
    let along_x : c.if-x-eq0.result ≡ (if int_eq free.x (pos 0) then p.touched_x else c.args.touched) =
    elim c.if-x-eq0.branch [
      | then-x-eq0 w ↦ (
          let nothing : int_eq c.x-x.result (pos 0) ≡ true = grind (arith, ints, w.if-x-eq0.true) in
          rw (← c.x-x.ensures.exact, nothing) w.result-is)
      | else-x-eq0 w ↦ (
          let something : int_eq c.x-x.result (pos 0) ≡ false = grind (arith, ints, w.if-x-eq0.false) in
          rw (← c.x-x.ensures.exact, something) w.result-is)
    ] in
    let along_y : c.if-y-eq0.result ≡ (if int_eq free.y (pos 0) then p.touched_y else c.args.touched) =
    elim c.if-y-eq0.branch [
      | then-y-eq0 w ↦ (
          let none : of_z w32 c.y-y.result ≡ 0 = w.if-y-eq0.true in
          let nothing : int_eq c.y-y.result (pos 0) ≡ true = grind (arith, ints, none) in
          rw (← c.y-y.ensures.exact, nothing) w.result-is)
      | else-y-eq0 w ↦ (
          let some : of_z w32 c.y-y.result ≡ 0 → ⊥ = w.if-y-eq0.false in
          let something : int_eq c.y-y.result (pos 0) ≡ false = grind (arith, ints, some) in
          rw (← c.y-y.ensures.exact, something) w.result-is)
    ] in
    simp to_z-of_z (rw (along_x, along_y) refl)
