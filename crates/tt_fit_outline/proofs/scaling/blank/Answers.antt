use Rattle.std.proofs.Common.{SFits, w32, rules}
use Rattle.std.proofs.lemmas.Int.{to_z-of_z}
use Rattle.tt_fit_outline.proofs.Outlines.{blank-is}
use Rattle.tt_fit_outline.proofs.scaling.blank.Goals as goal

pub invariant_of-result : goal.invariant_of-result
invariant_of-result c =
    let left : SFits w32 c.in_ok-left.left = search rules in
    let right : SFits w32 c.in_ok-right.right = search rules in
    let ascent : SFits w32 c.in_ok-ascent.ascent = search rules in
    let descent : SFits w32 c.in_ok-descent.descent = search rules in
    record {
      valid = simp to_z-of_z (blank-is c.new.result.items c.new-2.result.items c.in_ok-left.left c.in_ok-right.right
          c.in_ok-ascent.ascent c.in_ok-descent.descent c.new.ensures.items c.new-2.ensures.items
          c.in_ok-left.ensures.within c.in_ok-right.ensures.within c.in_ok-ascent.ensures.within
          c.in_ok-descent.ensures.within);
    }
