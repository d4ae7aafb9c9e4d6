-- The lines of a label: their glyphs do not depend on the steps beside them.
use Rattle.std.proofs.Common.{◌≡◌, ◌∙◌, refl, ap, ap₂, ℕ, ℤ, List, [], ◌∷◌, ◌++◌, map}
use Rattle.std.proofs.lemmas.List.{map-append}
use Rattle.std.specs.List.{flat_map}
use Rattle.tt_cmap.specs.Maps.{CharacterMap}
use Rattle.tt_label.specs.Fitted.{glyphs_in, with_steps}
use Rattle.tt_label.specs.Label.{label_glyphs, stepped_lines}
use Rattle.tt_line.specs.Labels.{label_lines}
use Rattle.tt_line.specs.Layout.{text_glyphs}
use Rattle.tt_line.specs.Steps.{stepped}
use Rattle.tt_line.proofs.Stepped.{firsts}
use Rattle.tt_metrics.specs.Metrics.{Metrics}

numbers_of : (glyphs : List ℕ → List ℕ) (m : Metrics) (step : ℕ → ℤ → ℕ) (ls : List (List ℕ))
    → glyphs_in (map (λ (l : List ℕ). stepped m step (glyphs l)) ls) ≡ flat_map glyphs ls
numbers_of glyphs m step [] = refl
numbers_of glyphs m step (l ∷ ls) =
    map-append (λ (g : ℕ × ℕ). g.0) (stepped m step (glyphs l))
    (flat_map (λ (line : List (ℕ × ℕ)). line) (map (λ (l : List ℕ). stepped m step (glyphs l)) ls))
    ∙ ap₂ (λ (a b : List ℕ). a ++ b) (firsts m step (glyphs l)) (numbers_of glyphs m step ls)

steps_of : (glyphs : List ℕ → List ℕ) (m : Metrics) (step before : ℕ → ℤ → ℕ) (ls : List (List ℕ))
    → with_steps m step (map (λ (l : List ℕ). stepped m before (glyphs l)) ls) ≡ map (λ (l : List ℕ). stepped m step (glyphs l)) ls
steps_of glyphs m step before [] = refl
steps_of glyphs m step before (l ∷ ls) =
    ap₂ (λ (a : List (ℕ × ℕ)) (b : List (List (ℕ × ℕ))). a ∷ b)
    (ap (λ (gs : List ℕ). stepped m step gs) (firsts m before (glyphs l))) (steps_of glyphs m step before ls)

-- the glyphs of a text's lines are those of the text
pub numbers_stepped : (m : Metrics) (step : ℕ → ℤ → ℕ) (cmap : CharacterMap) (text : List ℕ)
    → glyphs_in (stepped_lines m step cmap text) ≡ label_glyphs cmap text
numbers_stepped m step cmap text = numbers_of (text_glyphs cmap) m step (label_lines text)

-- other steps beside the glyphs of a text's lines
pub stepped_again : (m : Metrics) (step before : ℕ → ℤ → ℕ) (cmap : CharacterMap) (text : List ℕ)
    → with_steps m step (stepped_lines m before cmap text) ≡ stepped_lines m step cmap text
stepped_again m step before cmap text = steps_of (text_glyphs cmap) m step before (label_lines text)
