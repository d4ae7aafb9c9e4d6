use Rattle.std.proofs.Common.{SFits, w64, refl, rules}
use Rattle.std.proofs.lemmas.Int.{to_z-of_z}
use Rattle.tt_state.specs.Vectors.{along}
use Rattle.tt_state.proofs.OnAxes.{whole, nothing}
use Rattle.tt_state.proofs.vector.Vector.along.Goals.{in-X, in-Y, in-Off}
use Rattle.tt_state.proofs.vector.Vector.along.Goals as goal

pub returns : goal.returns
unfolding along
returns c =
    let d : SFits w64 c.args.d = c.ranges.d in
    elim c.match-self.branch [
      | in-X w ↦ rw (w.result-is, w.in-X.is, whole c.args.d, nothing c.args.d) (simp to_z-of_z)
      | in-Y w ↦ rw (w.result-is, w.in-Y.is, whole c.args.d, nothing c.args.d) (simp to_z-of_z)
      | in-Off w ↦ (
          let far_x : SFits w64 w.product.result = search rules in
          let far_y : SFits w64 w.product-in-Off.result = search rules in
          let across : SFits w64 w.rounded.result = search rules in
          let upward : SFits w64 w.rounded-in-Off.result = search rules in
          let product_x = rw w.x.ensures.exact at (simp to_z-of_z at w.product.ensures.exact) in
          let product_y = rw w.y.ensures.exact at (simp to_z-of_z at w.product-in-Off.ensures.exact) in
          let x = rw product_x at (simp to_z-of_z at w.rounded.ensures.exact) in
          let y = rw product_y at (simp to_z-of_z at w.rounded-in-Off.ensures.exact) in
          rw w.result-is (simp to_z-of_z (rw (w.in-Off.is, x, y) refl)))
    ]
