use Rattle.std.proofs.Common.{◌≡◌, refl, add-one, ◌+ℤ◌, SFits, w64, of_z, to_z, arith}
use Rattle.std.proofs.lemmas.Int.{ints, to_z-of_z}
use Rattle.tt_variation_store.proofs.at_instance.StoreAtInstance.sum.Goals as goal

pub loop-i-preserved : goal.loop-i-preserved
loop-i-preserved c =
    let at = c.loop-i in
    let step = c.scaled_delta-sum in
    let fits : SFits w64 step.result = omega (arith, ints, step.ensures.bound) in
    let more : SFits w64 (to_z w64 at.sum-bits +ℤ step.result) = omega (arith, ints, at.invariant.bound, at.invariant.few, c.loop-i-test.true, step.ensures.bound) in
    let one : to_z w64 (of_z w64 step.result) ≡ step.result = simp to_z-of_z refl in
    let both : to_z w64 (of_z w64 (to_z w64 at.sum-bits +ℤ step.result)) ≡ to_z w64 at.sum-bits +ℤ step.result = simp to_z-of_z refl in
    record {
      so_far = rw (one, both, add-one, at.invariant.so_far, step.ensures.exact) refl;
      all = at.invariant.all;
      few = at.invariant.few;
      bound = rw (one, both) (omega (arith, ints, at.invariant.bound, step.ensures.bound));
    }
