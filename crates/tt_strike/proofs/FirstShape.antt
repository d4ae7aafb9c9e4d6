-- The first shape of a line, and the others.
use Rattle.std.proofs.Common.{◌≡◌, ℕ, List, ◌∷◌, Result, Ok}
use Rattle.tt_core.specs.Chains.{came-through}
use Rattle.tt_core.specs.Faults.{Fault}
use Rattle.tt_core.specs.Outcomes.{each}
use Rattle.tt_fit.specs.Fitting.{Fitter, fitted_outline}
use Rattle.tt_fit.specs.outline.Outline.{Outline}
use Rattle.tt_picture.specs.Pixels.{Shape}
use Rattle.tt_picture.specs.Shapes.{glyph_shape, shape_at}

-- the shapes of a line, one by one: the first glyph's, and those of the others
pub record First (maker : ℕ → Fitter) (g : ℕ × ℕ) (gs : List (ℕ × ℕ)) (shapes : List Shape) : Type 0 where
  pub outline : Outline
  pub rest : List Shape
  pub fitted : fitted_outline (maker g.0) g.0 ≡ Ok outline
  pub others : each (glyph_shape maker) gs ≡ Ok rest
  pub all : shapes ≡ shape_at (maker g.0) g outline ∷ rest

pub first_of : (maker : ℕ → Fitter) (g : ℕ × ℕ) (gs : List (ℕ × ℕ)) (shapes : List Shape)
    → each (glyph_shape maker) (g ∷ gs) ≡ Ok shapes → First maker g gs shapes
first_of maker g gs shapes made =
    let one = came-through (glyph_shape maker g) _ shapes made in
    let rest = came-through (each (glyph_shape maker) gs) _ shapes one.rest in
    let o = came-through (fitted_outline (maker g.0) g.0) _ one.value one.first in
    let here : ◌≡◌ {A = Result Shape Fault} (Ok (shape_at (maker g.0) g o.value)) (Ok one.value) = o.rest in
    let both : ◌≡◌ {A = Result (List Shape) Fault} (Ok (one.value ∷ rest.value)) (Ok shapes) = rest.rest in
    record {
      outline = o.value;
      rest = rest.value;
      fitted = o.first;
      others = rest.first;
      all = cc;
    }
