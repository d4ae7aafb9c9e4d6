use Rattle.std.proofs.Common.{◌∙◌, ap, ◌||◌, Bool, SFits, w64}
use Rattle.std.proofs.lemmas.Int.{to_z-of_z}
use Rattle.tt_core.specs.Bits.{bit}
use Rattle.tt_scan.proofs.Stamped.{stamp_painted}
use Rattle.tt_scan.proofs.stamp.paint_stamp.Goals as goal

pub returns-in-Some : goal.returns-in-Some
returns-in-Some c = record {
  bits = λ k.
      let shift : SFits w64 c.args.shift = c.ranges.shift in
      let at = simp to_z-of_z at c.in-Some.ensures.at in
      c.or_word.ensures.bits k
      ∙ ap (λ (b : Bool). bit c.args.row.now k || b)
      (stamp_painted c.args.spans.now c.args.stamp c.in-Some.at k c.args.width c.args.shift c.requires.stamp at c.in-Some.ensures.within);
  len = c.or_word.ensures.len;
}

pub returns-in-None : goal.returns-in-None
returns-in-None c =
    let shift : SFits w64 c.args.shift = c.ranges.shift in
    simp to_z-of_z at c.paint_spans.ensures
