-- Along an axis points are measured and moved by their coordinates on it.
use Rattle.std.proofs.Common.{◌≡◌, ℤ, pos, ◌+ℤ◌, ◌-ℤ◌, Bool, true, false, if◌then◌else◌, Result, Ok, Err, refl, ap, ◌∙◌}
use Rattle.tt_core.specs.Outcomes.{◌>>=◌}
use Rattle.tt_core.specs.declared.fault.Why.{Why}
use Rattle.tt_core.specs.declared.fault.Why.TheVariants as why
use Rattle.tt_state.specs.declared.graphics_state.Axis.{Axis}
use Rattle.tt_state.specs.declared.graphics_state.Axis.TheVariants as axis
use Rattle.tt_state.specs.declared.graphics_state.GraphicsState.{GraphicsState}
use Rattle.tt_state.specs.declared.point.Point.{Point}
use Rattle.tt_state.specs.declared.vector.Vector.TheVariants as vector
use Rattle.tt_state.specs.Laws.{OnX, OnY}
use Rattle.tt_state.specs.Vectors as vectors
use Rattle.tt_state.specs.Vectors.{pair}
use Rattle.tt_points_zones.specs.Points as coordinate
use Rattle.tt_points_zones.specs.Points.{is_coordinate}
use Rattle.tt_points_zones.specs.Motions as motions
use Rattle.tt_points_zones.specs.Laws as laws
use Rattle.tt_points_zones.specs.Laws.{OnAxis, AlongBoth}

-- a coordinate tested before its use, alone or with more
through : {A B : Type 0} (b : Bool) (v : A) (f : A → Result B Why)
    → ((if b then Ok v else Err why.ValueRange) >>= f) ≡ (if b then f v else Err why.ValueRange)
through true v f = refl
through false v f = refl

put_x : (d : ℤ) (p : Point) → motions.put_further vector.X (pair d (pos 0)) p ≡ coordinate.shifted axis.X d p
put_x d p = through (is_coordinate (p.x +ℤ d)) (p.x +ℤ d) (λ x. Ok (record p { x = x }))

put_y : (d : ℤ) (p : Point) → motions.put_further vector.Y (pair (pos 0) d) p ≡ coordinate.shifted axis.Y d p
put_y d p = through (is_coordinate (p.y +ℤ d)) (p.y +ℤ d) (λ y. Ok (record p { y = y }))

steps_x : (d : ℤ) → OnX (pos 0) (pos 0) d → motions.steps (laws.on axis.X) d ≡ pair d (pos 0)
unfolding vectors.along
steps_x d law = rw law.whole law.moved

steps_y : (d : ℤ) → OnY (pos 0) (pos 0) d → motions.steps (laws.on axis.Y) d ≡ pair (pos 0) d
unfolding vectors.along
steps_y d law = rw law.whole law.moved

pub on_axis : ((x y d : ℤ) → OnX x y d) → ((x y d : ℤ) → OnY x y d)
    → (a : Axis) (p q : Point) (d : ℤ) (touched : Bool) → OnAxis a p q d touched
on_axis on_x on_y axis.X p q d touched =
    let steps = steps_x d (on_x (pos 0) (pos 0) d) in
    let further = ap (λ by. motions.put_further vector.X by p) steps ∙ put_x d p in
    let slid = ap (λ by. motions.put_further vector.X by p) (on_x (pos 0) (pos 0) d).moved ∙ put_x d p in
    record {
      current = (on_x p.x p.y d).projected;
      original = (on_x p.org_x p.org_y d).projected;
      current_way = (on_x (q.x -ℤ p.x) (q.y -ℤ p.y) d).projected;
      original_way = (on_x (q.org_x -ℤ p.org_x) (q.org_y -ℤ p.org_y) d).projected;
      offset = (on_x (p.x -ℤ p.org_x) (p.y -ℤ p.org_y) d).projected;
      marked = refl;
      shifted = further;
      moved = ap (λ given. given >>= λ r. Ok (motions.marked vector.X true r)) further;
      shifted_along = slid;
      moved_along = ap (λ given. given >>= λ r. Ok (motions.marked vector.X true r)) slid;
    }
on_axis on_x on_y axis.Y p q d touched =
    let steps = steps_y d (on_y (pos 0) (pos 0) d) in
    let further = ap (λ by. motions.put_further vector.Y by p) steps ∙ put_y d p in
    let slid = ap (λ by. motions.put_further vector.Y by p) (on_y (pos 0) (pos 0) d).moved ∙ put_y d p in
    record {
      current = (on_y p.x p.y d).projected;
      original = (on_y p.org_x p.org_y d).projected;
      current_way = (on_y (q.x -ℤ p.x) (q.y -ℤ p.y) d).projected;
      original_way = (on_y (q.org_x -ℤ p.org_x) (q.org_y -ℤ p.org_y) d).projected;
      offset = (on_y (p.x -ℤ p.org_x) (p.y -ℤ p.org_y) d).projected;
      marked = refl;
      shifted = further;
      moved = ap (λ given. given >>= λ r. Ok (motions.marked vector.Y true r)) further;
      shifted_along = slid;
      moved_along = ap (λ given. given >>= λ r. Ok (motions.marked vector.Y true r)) slid;
    }

pub along_both : (g : GraphicsState) (projection freedom : Axis) → AlongBoth g projection freedom
unfolding motions.direction
along_both g axis.X axis.X = refl
along_both g axis.Y axis.Y = refl
along_both g axis.X axis.Y = refl
along_both g axis.Y axis.X = refl
