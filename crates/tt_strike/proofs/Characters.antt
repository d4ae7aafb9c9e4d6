-- The characters of a line, by their numbers.
use Rattle.std.proofs.Common.{◌≡◌, refl, ap, ℕ, zero, suc, ◌+◌, ◌<◌, ℤ, List, [], ◌∷◌, drop, get_or, length, map, Option, arith}
use Rattle.tt_line.specs.Steps.{kerning_before, stepped}
use Rattle.tt_metrics.specs.Metrics.{Metrics}
use Rattle.tt_scan_edges.specs.declared.edge.Frame.{Frame}
use Rattle.tt_bitmap.specs.declared.ink.LeastBox.{LeastBox}
use Rattle.tt_strike.specs.declared.measuring.CharacterMeasure.{CharacterMeasure}
use Rattle.tt_strike.specs.Measures.{character_at, characters_at}

pub length-characters : (m : Metrics) (step : ℕ → ℤ → ℕ) (f : Frame) (inked : ℕ → Option LeastBox) (gs : List (ℕ × ℕ))
    → length (characters_at m step f inked gs) ≡ length gs
length-characters m step f inked [] = refl
length-characters m step f inked (g ∷ gs) = ap (λ (n : ℕ). suc n) (length-characters m step f inked gs)

-- the step of a glyph of a line, by its number
unfoldable pub step_at : Metrics → (ℕ → ℤ → ℕ) → List (ℕ × ℕ) → ℕ → ℕ
step_at m step gs i =
    step (get_or gs i (0, 0)).0 (kerning_before m (get_or gs i (0, 0)).0 (map (λ (g : ℕ × ℕ). g.0) (drop (i + 1) gs)))

pub character_of : (m : Metrics) (step : ℕ → ℤ → ℕ) (f : Frame) (inked : ℕ → Option LeastBox) (gs : List (ℕ × ℕ)) (i : ℕ)
    (d : CharacterMeasure) → i < length gs
    → get_or (characters_at m step f inked gs) i d ≡ character_at f inked (get_or gs i (0, 0)) (step_at m step gs i)
unfolding step_at
character_of m step f inked [] i d within = absurd (omega (arith, within))
character_of m step f inked (g ∷ gs) zero d within = refl
character_of m step f inked (g ∷ gs) (suc i) d within =
    let on : suc i + 1 ≡ suc (i + 1) = omega arith in
    rw on (character_of m step f inked gs i d (omega (arith, within)))

-- where a line has the glyphs of another, with their steps
pub step_told : (m : Metrics) (step : ℕ → ℤ → ℕ) (gs : List (ℕ × ℕ)) (i : ℕ) → i < length gs
    → (get_or (stepped m step (map (λ (g : ℕ × ℕ). g.0) gs)) i (0, 0)).1 ≡ step_at m step gs i
unfolding step_at
step_told m step [] i within = absurd (omega (arith, within))
step_told m step (g ∷ gs) zero within = refl
step_told m step (g ∷ gs) (suc i) within =
    let on : suc i + 1 ≡ suc (i + 1) = omega arith in
    rw on (step_told m step gs i (omega (arith, within)))
