-- What a line takes of the budget of a call of many lines.
use Rattle.std.proofs.Common.{◌≡◌, ◌∙◌, refl, ap, ℕ, List, map, None, Ok}
use Rattle.tt_fit.specs.Fitting.{Fitter}
use Rattle.tt_fit.specs.Laws.{UnboundedStays}
use Rattle.tt_line.specs.Layout.{Placement}
use Rattle.tt_strike.specs.Costs.{cost_by, cost_of, line_cost}
use Rattle.tt_strike.specs.Job.{Job}
use Rattle.tt_strike.specs.Picture.{edges_tested, laid_out, points_tested, setting_in, shapes_in}
use Rattle.tt_picture.specs.Pixels.{Shape}
use Rattle.tt_strike.specs.Refusals.{as_job}
use Rattle.tt_face.specs.Faces.{Face}
use Rattle.tt_picture.specs.Shapes.{crossings_in}
use Rattle.tt_strike.specs.Work.{started, work_left}
use Rattle.tt_picture.specs.Distinct.{distinct, fitter_after}
use Rattle.tt_strike.proofs.Setting.{unspent}
use Rattle.tt_strike.proofs.Placed.{placed_of}

-- the cost of a line that is not refused
pub costed : (face : Face) (a : Job) (l : Placement) (s : Fitter) (shapes : List Shape) → setting_in face a ≡ Ok s
    → as_job (points_tested s a l) ≡ Ok tt → shapes_in s l ≡ Ok shapes → edges_tested s a l shapes ≡ Ok tt
    → line_cost face a l ≡ Ok (cost_of (work_left s (map (λ g. g.0) l.glyphs)) (crossings_in shapes))
unfolding line_cost
costed face a l s shapes opened few fitted seldom = rw (opened, few, fitted, seldom) refl

-- the cost of a text is that of its line
pub cost_of_line : (face : Face) (a : Job) (l : Placement) (n : ℕ) → laid_out face a ≡ Ok l → cost_by face a ≡ Ok n
    → line_cost face a l ≡ Ok n
unfolding cost_by
cost_of_line face a l n laid is = rw (placed_of face a l laid) at is

-- unbounded work costs nothing
pub costs_nothing : UnboundedStays → (face : Face) (a : Job) (l : Placement) (s : Fitter) (shapes : List Shape)
    → setting_in face a ≡ Ok s → as_job (points_tested s a l) ≡ Ok tt → shapes_in s l ≡ Ok shapes
    → edges_tested s a l shapes ≡ Ok tt → s.work ≡ None → line_cost face a l ≡ Ok 0
costs_nothing stays face a l s shapes opened few fitted seldom none =
    let gs = map (λ (g : ℕ × ℕ). g.0) l.glyphs in
    let left : work_left s gs ≡ None =
    ap (λ (f : Fitter). f.work) (unspent stays s (started s gs) (fitter_after (started s gs) (distinct gs)) gs (distinct gs) refl refl none)
    ∙ none in
    costed face a l s shapes opened few fitted seldom ∙ rw left refl
