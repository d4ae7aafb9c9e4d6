use Rattle.std.proofs.Common.{◌≡◌, ◌+◌, ◌∷◌, ◌++◌, [], ◌≤◌, take, arith}
use Rattle.std.proofs.lemmas.List.{take_more}
use Rattle.tt_kern.proofs.Rising.{next-stays, next-moves}
use Rattle.tt_kern.proofs.pairs.numbers.Numbers.next.Goals.{then-low-number+then-number-next, else-low-number, else-low-number-via-then-low-number+else-number-next, else-low-number-via-else-low-number}
use Rattle.tt_kern.proofs.pairs.numbers.Numbers.next.Goals as goal

pub loop-i-preserved : goal.loop-i-preserved
loop-i-preserved c =
    let at = c.loop-i in
    let xs = c.args.self.now in
    let x = c.get-number.result in
    let more : take (at.i + 1) xs ≡ take at.i xs ++ x ∷ [] =
    rw c.get-number.ensures (take_more xs at.i 0 (omega (arith, c.loop-i-test.true, c.count-i-end.ensures))) in
    elim c.if-low-number.branch [
      | then-low-number+then-number-next w ↦
          rw (more, w.next-is) (next-moves (take at.i xs) c.args.low c.args.high at.next x at.invariant w.if-low-number.true w.if-number-next.true)
      | else-low-number w ↦
          let outside : c.args.low ≤ x → at.next ≤ x = elim w.else-low-number.branch [
            | else-low-number-via-then-low-number+else-number-next v ↦ λ from. v.if-number-next.false
            | else-low-number-via-else-low-number v ↦ λ from. absurd (omega (arith, from, v.if-low-number.false))
          ] in
          rw (more, w.next-is) (next-stays (take at.i xs) c.args.low c.args.high at.next x at.invariant outside)
    ]
