use Rattle.std.proofs.Common.{arith}
use Rattle.std.proofs.lemmas.Int.{ints}
use Rattle.tt_test_pixels.proofs.dropouts.window_in.Goals as goal

pub returns : goal.returns
returns c =
    let left = c.near_zero.ensures in
    let bottom = c.near_zero-2.ensures in
    let height = c.natural-2.ensures in
    record {
      left = omega (arith, ints, left);
      bottom = omega (arith, ints, bottom);
      top = omega (arith, ints, bottom, height.high);
      width = omega (arith, c.natural.ensures.high);
      low = omega arith;
      high = omega (arith, height.high);
    }
