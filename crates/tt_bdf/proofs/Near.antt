-- The least box of two near boxes is near.
use Rattle.std.proofs.Common.{arith, Option, Some, None, IfSome}
use Rattle.std.proofs.lemmas.Int.{ints, int_max_is, int_min_is}
use Rattle.tt_bdf.specs.declared.extent.InkExtent.{InkExtent}
use Rattle.tt_bdf.specs.Extent.{IsNear, joined, joined_boxes}

joined_near : (a b : InkExtent) → IsNear a → IsNear b → IsNear (joined_boxes a b)
joined_near a b one other = (
  omega (arith, ints, int_min_is a.left b.left, one.0, other.0),
  omega (arith, ints, int_min_is a.bottom b.bottom, one.1, other.1),
  omega (arith, ints, int_max_is a.right b.right, one.2, other.2),
  omega (arith, ints, int_max_is a.top b.top, one.3, other.3),
)

pub both_near : (a b : Option InkExtent) → IfSome a IsNear → IfSome b IsNear → IfSome (joined a b) IsNear
both_near None b one other = other
both_near (Some a) None one other = one
both_near (Some a) (Some b) one other = joined_near a b one other
