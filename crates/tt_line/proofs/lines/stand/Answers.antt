use Rattle.std.proofs.Common.{ℕ, ◌+◌, ◌^◌, ◌<◌, ◌≤◌, map, sum, arith}
use Rattle.std.proofs.lemmas.List.Elements.{All-weaker}
use Rattle.tt_line.proofs.Pens.{at_pens, pens_by_steps}
use Rattle.tt_line.proofs.lines.stand.Goals as goal

pub move_pens-requires : goal.move_pens-requires
move_pens-requires c =
    let gs = c.args.glyphs.now in
    let steps = map (λ (p : ℕ × ℕ). p.1) gs in
    rw c.place.ensures (All-weaker (λ (p : ℕ × ℕ). p.1 ≤ sum steps) (λ (p : ℕ × ℕ). p.1 + c.args.start < 2 ^ 32)
    (λ p low. omega (arith, low, c.requires)) (at_pens gs) (pens_by_steps (map (λ (p : ℕ × ℕ). p.0) gs) steps))
