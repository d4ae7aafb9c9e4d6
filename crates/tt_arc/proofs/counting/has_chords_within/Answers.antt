use Rattle.std.proofs.Common.{SFits, w64, arith, refl}
use Rattle.std.proofs.lemmas.Int.{to_z-of_z}
use Rattle.tt_arc.proofs.Few.{few_counted}
use Rattle.tt_arc.proofs.counting.has_chords_within.Goals as goal

pub returns-then-len-most : goal.returns-then-len-most
returns-then-len-most c =
    let points = c.args.outline.now.points.items in
    let few = few_counted c.args.rule points c.args.outline.now.ends.items c.args.dx c.args.dy c.requires.ends in
    let short = c.if-len-most.true in
    let long = c.len.ensures in
    grind (arith, few, short, long)

pub returns : goal.returns
returns c =
    let dx : SFits w64 c.args.dx = c.ranges.dx in
    let dy : SFits w64 c.args.dy = c.ranges.dy in
    let counted = simp to_z-of_z at c.outline_chords.ensures in
    rw (counted, c.deref.ensures.value, c.deref-2.ensures.value) refl
