use Rattle.std.proofs.Common.{◌≡◌, refl, ap, ℕ, zero, suc, ◌+◌, ◌<◌, List, [], ◌∷◌, ◌++◌, length, map, take, drop, get_or, set, add-one, arith}
use Rattle.tt_line.proofs.lines.move_pens.Goals as goal

-- one pen more is moved
one_more : (right : ℕ) (gs : List (ℕ × ℕ)) (i : ℕ) → i < length gs
    → set (map (λ (g : ℕ × ℕ). (g.0, g.1 + right)) (take i gs) ++ drop i gs) i (
      (get_or (map (λ (g : ℕ × ℕ). (g.0, g.1 + right)) (take i gs) ++ drop i gs) i (0, 0)).0,
      (get_or (map (λ (g : ℕ × ℕ). (g.0, g.1 + right)) (take i gs) ++ drop i gs) i (0, 0)).1 + right,
    )
    ≡ map (λ (g : ℕ × ℕ). (g.0, g.1 + right)) (take (suc i) gs) ++ drop (suc i) gs
one_more right [] i below = absurd (omega arith)
one_more right (g ∷ gs) zero below = refl
one_more right (g ∷ gs) (suc i) below =
    ap (λ (hs : List (ℕ × ℕ)). (g.0, g.1 + right) ∷ hs) (one_more right gs i (omega arith))

pub loop-i-preserved : goal.loop-i-preserved
loop-i-preserved c =
    let below : c.loop-i.i < length c.args.glyphs.now = omega (arith, c.loop-i-test.true) in
    rw (c.loop-i.invariant, add-one) (one_more c.args.right c.args.glyphs.now c.loop-i.i below)
