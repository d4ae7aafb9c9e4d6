-- The sum of a line's steps, glyph by glyph.
use Rattle.std.proofs.Common.{◌≡◌, ◌∙◌, refl, ap, ℕ, ◌+◌, List, [], ◌∷◌, map, sum, Option, Some, None, arith}
use Rattle.std.proofs.lemmas.List.Sums.{sum_by-cons}
use Rattle.tt_metrics.specs.Metrics.{Metrics}
use Rattle.tt_line.specs.Layout.{advance_in_pixels}
use Rattle.tt_line.specs.Steps.{linear_steps}
use Rattle.tt_line.specs.Sums.{step_after, with_last}
use Rattle.tt_line.proofs.Stepped.{unkerned_line}

pub one_more : (m : Metrics) (ppem : ℕ) (last : Option ℕ) (g : ℕ) (gs : List ℕ)
    → sum (linear_steps m ppem (with_last last (g ∷ gs))) ≡ step_after m ppem last (Some g) + sum (linear_steps m ppem (g ∷ gs))
one_more m ppem None g gs = omega arith
one_more m ppem (Some h) g gs =
    sum_by-cons (λ (n : ℕ). n) (step_after m ppem (Some h) (Some g)) (linear_steps m ppem (g ∷ gs))

pub no_more : (m : Metrics) (ppem : ℕ) (last : Option ℕ) → sum (linear_steps m ppem (with_last last [])) ≡ step_after m ppem last None
no_more m ppem None = refl
no_more m ppem (Some g) =
    let step = step_after m ppem (Some g) None in
    let alone : step + 0 ≡ step = omega arith in
    sum_by-cons (λ (n : ℕ). n) step [] ∙ alone

steps_of_advances : (m : Metrics) (ppem : ℕ) (gs : List ℕ)
    → map (λ (p : ℕ × ℕ). p.1) (map (λ (g : ℕ). (g, advance_in_pixels m ppem g)) gs) ≡ map (advance_in_pixels m ppem) gs
steps_of_advances m ppem [] = refl
steps_of_advances m ppem (g ∷ gs) = ap (λ (ns : List ℕ). advance_in_pixels m ppem g ∷ ns) (steps_of_advances m ppem gs)

-- where pairs are not kerned, the sum is that of the advances
pub unkerned_sum : (m : Metrics) (ppem : ℕ) (gs : List ℕ) → m.kerning ≡ None
    → sum (linear_steps m ppem gs) ≡ sum (map (advance_in_pixels m ppem) gs)
unkerned_sum m ppem gs off =
    ap (λ (ps : List (ℕ × ℕ)). sum (map (λ (p : ℕ × ℕ). p.1) ps)) (unkerned_line m ppem gs off)
    ∙ ap (λ (ns : List ℕ). sum ns) (steps_of_advances m ppem gs)
