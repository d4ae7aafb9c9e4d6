use Rattle.std.proofs.Common.{◌&&◌, SFits, w64}
use Rattle.std.specs.Ordering.{int_eq}
use Rattle.std.proofs.lemmas.Int.{to_z-of_z}
use Rattle.tt_glyph_pixels.proofs.Stamps.{boxed_black}
use Rattle.tt_scan_edges.specs.Marks.{covers}
use Rattle.tt_glyph_pixels.proofs.rows.blacken_swept.Goals as goal

pub returns-then-blacken_stamp-clause-black : goal.returns-then-blacken_stamp-clause-black
returns-then-blacken_stamp-clause-black c =
    let line : SFits w64 c.args.line = c.ranges.line in
    let black = simp to_z-of_z at (c.blacken_stamp.ensures.black c.if-blacken_stamp.true) in
    λ k j. boxed_black c.args.bitmap.now c.blacken_stamp.new.bitmap k j (int_eq j c.args.line && covers c.args.sweep.now.spans k)
    c.blacken_stamp.ensures.place (black k j)

pub returns-clause-black : goal.returns-clause-black
returns-clause-black c =
    let line : SFits w64 c.args.line = c.ranges.line in
    let kept = c.blacken_stamp.ensures.kept c.if-blacken_stamp.false in
    rw (kept, c.spans.ensures.exact) at (simp to_z-of_z at c.blacken_spans.ensures.black)

pub returns-clause-place : goal.returns-clause-place
returns-clause-place c =
    let kept = c.blacken_stamp.ensures.kept c.if-blacken_stamp.false in
    rw kept at c.blacken_spans.ensures.place
