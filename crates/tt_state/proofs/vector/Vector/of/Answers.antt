use Rattle.std.proofs.Common.{◌≡◌, pos, SFits, w16, arith}
use Rattle.std.proofs.lemmas.Int.{ints, to_z-of_z}
use Rattle.tt_state.proofs.Parts.{of_x, of_y, of_neither}
use Rattle.tt_state.proofs.vector.Vector.of.Goals as goal
use Rattle.tt_state.proofs.vector.Vector.of.Goals.{else-x-eq16384-via-then-x-eq16384+else-y-eq0, else-x-eq16384-via-else-x-eq16384, else-x-eq0-via-then-x-eq0+else-y-eq16384, else-x-eq0-via-else-x-eq0}

pub returns-then-y-eq0 : goal.returns-then-y-eq0
returns-then-y-eq0 c =
    let x : SFits w16 c.args.x.0 = omega (arith, ints, c.requires.across) in
    let y : SFits w16 c.args.y.0 = omega (arith, ints, c.requires.upward) in
    of_x c.args.x.0 c.args.y.0 (omega (arith, ints)) (omega (arith, ints))

pub returns-then-y-eq16384 : goal.returns-then-y-eq16384
returns-then-y-eq16384 c =
    let x : SFits w16 c.args.x.0 = omega (arith, ints, c.requires.across) in
    let y : SFits w16 c.args.y.0 = omega (arith, ints, c.requires.upward) in
    of_y c.args.x.0 c.args.y.0 (omega (arith, ints)) (omega (arith, ints))

pub returns-else-x-eq0 : goal.returns-else-x-eq0
returns-else-x-eq0 c =
    let x : SFits w16 c.args.x.0 = omega (arith, ints, c.requires.across) in
    let y : SFits w16 c.args.y.0 = omega (arith, ints, c.requires.upward) in
    let not_x : c.args.x.0 ≡ pos 16384 → c.args.y.0 ≡ pos 0 → ⊥ =
    elim c.else-x-eq16384.branch [
      | else-x-eq16384-via-then-x-eq16384+else-y-eq0 w ↦ λ p q. w.if-y-eq0.false (omega (arith, ints))
      | else-x-eq16384-via-else-x-eq16384 w ↦ λ p q. w.if-x-eq16384.false (omega (arith, ints))
    ] in
    let not_y : c.args.x.0 ≡ pos 0 → c.args.y.0 ≡ pos 16384 → ⊥ =
    elim c.else-x-eq0.branch [
      | else-x-eq0-via-then-x-eq0+else-y-eq16384 w ↦ λ p q. w.if-y-eq16384.false (omega (arith, ints))
      | else-x-eq0-via-else-x-eq0 w ↦ λ p q. w.if-x-eq0.false (omega (arith, ints))
    ] in
    simp to_z-of_z (of_neither c.args.x.0 c.args.y.0 not_x not_y)
