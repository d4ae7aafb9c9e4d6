-- Glyphs drawn in order: the fault of the first that fails is the answer.
use Rattle.std.proofs.Common.{◌≡◌, ℕ, zero, suc, ◌<◌, List, [], ◌∷◌, length, map, get_or, slice_index, Some, Ok, Err, inl, inr, refl, arith}
use Rattle.std.specs.List.{slice_get}
use Rattle.std.specs.Prelude.{IfSome}
use Rattle.std.proofs.lemmas.List.{length-map}
use Rattle.std.proofs.lemmas.Option.{slice_get_within, slice_get-get_or}
use Rattle.tt_core.specs.Chains.{came-through, was-err}
use Rattle.tt_core.specs.Faults.{Fault}
use Rattle.tt_core.specs.Directory.{HasNo}
use Rattle.tt_core.specs.Outcomes.{each, font_fault}
use Rattle.tt_core.specs.declared.font_fault.FontFault.{FontFault}
use Rattle.tt_core.specs.declared.font_fault.FontFault.TheVariants as font
use Rattle.tt_core.proofs.Each.{each-failed, each-made}
use Rattle.tt_fit.specs.Defects.{IsOutlineDefect}
use Rattle.tt_fit.specs.Fitting.{Fitter, fitted_outline}
use Rattle.tt_fit.specs.outline.Outline.{Outline}
use Rattle.tt_fit.proofs.Standing.{faults-stand, outlines-whole}
use Rattle.tt_strike.specs.Defects.{IsGlyphDefect}
use Rattle.tt_picture.specs.Distinct.{distinct}
use Rattle.tt_picture.specs.Shapes.{glyph_shape}
use Rattle.tt_picture.specs.Steps.{outlines_by}
use Rattle.tt_picture.proofs.LineShapes.{fault_of_line}
use Rattle.tt_picture.specs.Pixels.{Shape}

-- a glyph that fails has no outline, and one that is made has one
glyph-failed : (maker : ℕ → Fitter) (g : ℕ × ℕ) (e : Fault) → glyph_shape maker g ≡ Err e → fitted_outline (maker g.0) g.0 ≡ Err e
glyph-failed maker g e fails = elim (was-err (fitted_outline (maker g.0) g.0) _ e fails) [
  | inl here ↦ here
  | inr drawn ↦ let done = drawn.rest in absurd cc
]

glyph-made : (maker : ℕ → Fitter) (g : ℕ × ℕ) (shape : Shape) → glyph_shape maker g ≡ Ok shape
    → (o : Outline) × (fitted_outline (maker g.0) g.0 ≡ Ok o)
glyph-made maker g shape made =
    let outline = came-through (fitted_outline (maker g.0) g.0) _ shape made in (outline.value, outline.first)

number-at : (gs : List (ℕ × ℕ)) (i : ℕ) (g : ℕ × ℕ) → slice_get gs i ≡ Some g
    → slice_index (map (λ g. g.0) gs) i ≡ g.0
number-at [] i g there = absurd cc
number-at (z ∷ gs) zero g there = let same : z ≡ g = cc in rw same refl
number-at (z ∷ gs) (suc i) g there = number-at gs i g there

-- where a distinct glyph of a line fails first, the line fails with its fault
pub line_fails : (maker : ℕ → Fitter) (gs : List (ℕ × ℕ)) (e : FontFault)
    → IfSome (font_fault e) (λ f. outlines_by maker (distinct (map (λ g. g.0) gs)) ≡ Err f)
    → IfSome (font_fault e) (λ f. each (glyph_shape maker) gs ≡ Err f)
line_fails maker gs (font.Font f) fails = fault_of_line maker (distinct (map (λ g. g.0) gs)) gs f refl fails
line_fails maker gs font.Memory fails = tt

pub defect_of_line : (maker : ℕ → Fitter) (gs : List (ℕ × ℕ)) (e : Fault) → each (glyph_shape maker) gs ≡ Err e → IsGlyphDefect maker
    (map (λ g. g.0) gs) e
defect_of_line maker gs e fails =
    let there = each-failed (glyph_shape maker) gs e fails in
    let many = length-map gs (λ (g : ℕ × ℕ). g.0) in
    let below = slice_get_within gs there.0 there.1 there.2 in
    let stands = faults-stand (maker there.1.0) there.1.0 e (glyph-failed maker there.1 e there.3) in
    (there.0, omega arith, rw (number-at gs there.0 there.1 there.2) stands)

pub no_defect_of_line : (maker : ℕ → Fitter) (gs : List (ℕ × ℕ)) (shapes : List Shape) → each (glyph_shape maker) gs
    ≡ Ok shapes → HasNo (IsGlyphDefect maker (map (λ g. g.0) gs))
no_defect_of_line maker gs shapes made = λ e there.
    let many = length-map gs (λ (g : ℕ × ℕ). g.0) in
    let below : there.0 < length gs = omega (arith, there.1) in
    let g = get_or gs there.0 (0, 0) in
    let is = slice_get-get_or gs there.0 (0, 0) below in
    let drawn = each-made (glyph_shape maker) gs shapes there.0 g made is in
    let outline = glyph-made maker g drawn.0 drawn.1 in
    let stands : IsOutlineDefect (maker g.0) g.0 e = rw (number-at gs there.0 g is) at there.2 in
    outlines-whole (maker g.0) g.0 outline.0 outline.1 e stands
