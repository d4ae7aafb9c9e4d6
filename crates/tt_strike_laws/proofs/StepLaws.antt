-- Laws of steps.
use Rattle.std.proofs.Common.{◌≡◌, ◌≢◌, ◌∙◌, refl, ap, ◌*◌, Bool, false, ℤ, pos, ◌+ℤ◌, ◌-ℤ◌, List, [], ◌∷◌, map, arith}
use Rattle.std.proofs.lemmas.Int.{ints}
use Rattle.tt_arc.specs.Bounds.{box_of}
use Rattle.tt_arc.specs.Chords.{moved, outline_contours, outline_edges}
use Rattle.tt_fit.specs.declared.programs.Fit.{Fit}
use Rattle.tt_fit.specs.declared.programs.Fit.TheVariants as fit
use Rattle.tt_fit.specs.outline.Steps.{pixels_of}
use Rattle.tt_picture.specs.Shapes.{origin_of}
use Rattle.tt_strike.specs.Picture.{placed_by_steps}
use Rattle.tt_strike_laws.specs.StepLaws.{BestLaysBySteps, DefaultsLayByAdvances, GlyphsBeforeExtent, MovedOutlinesAgree, OthersLayByAdvances, OthersLayByUnits}
use Rattle.tt_strike.specs.Work.{is_bounded}
use Rattle.tt_advances.proofs.Advances.{unvaried}
use Rattle.tt_strike.proofs.Placed.{placed_by_advances, placed_by_its_steps, placed_by_its_units}

others : (how : Fit) → how ≢ fit.Best → is_bounded how ≡ false
others fit.Full other = refl
others fit.None other = refl
others fit.Fallback other = refl
others fit.Best other = absurd (other refl)

pub others_lay_by_advances : OthersLayByAdvances
others_lay_by_advances face a other off = placed_by_advances face a (others a.fit other) off

pub others_lay_by_units : OthersLayByUnits
others_lay_by_units face a other = placed_by_its_units face a (others a.fit other)

-- a face without an instance finds no advances
pub defaults_lay_by_advances : DefaultsLayByAdvances
defaults_lay_by_advances face a other none = others_lay_by_advances face a other (unvaried face.instance _ none)

pub best_lays_by_steps : BestLaysBySteps
best_lays_by_steps face a best = placed_by_its_steps face a (ap is_bounded best)

pub glyphs_before_extent : GlyphsBeforeExtent
unfolding placed_by_steps
glyphs_before_extent face a s f best there few fails =
    best_lays_by_steps face a best ∙ rw (there, few, fails) refl

-- a point of a moved outline, at a pen
same_place : (x v l k : ℤ) → (x +ℤ v) +ℤ (k -ℤ (l +ℤ v)) ≡ x +ℤ (k -ℤ l)
same_place x v l k = omega (arith, ints)

points_alike : (v l k : ℤ) (ps : List (ℤ × ℤ × Bool))
    → map (moved (k -ℤ (l +ℤ v)) (pos 0)) (map (λ (p : ℤ × ℤ × Bool). (p.0 +ℤ v, p.1, p.2)) ps) ≡ map (moved (k -ℤ l) (pos 0)) ps
points_alike v l k [] = refl
points_alike v l k (p ∷ ps) = rw (same_place p.0 v l k, points_alike v l k ps) refl

same_step : (l r v : ℤ) → (r +ℤ v) -ℤ (l +ℤ v) ≡ r -ℤ l
same_step l r v = omega (arith, ints)

pub moved_outlines_agree : MovedOutlinesAgree
moved_outlines_agree o v = record {
  step = ap pixels_of (same_step o.phantom.left.0 o.phantom.right.0 v);
  edges = λ r pen. ap (λ ps. outline_edges r ps o.ends) (points_alike v (origin_of o) (pos (64 * pen)) o.points);
  contours = λ r pen. ap (λ ps. outline_contours r ps o.ends) (points_alike v (origin_of o) (pos (64 * pen)) o.points);
  extents = ap box_of (points_alike v (origin_of o) (pos (64 * 0)) o.points);
}
