use Rattle.std.proofs.Common.{◌≤◌, length, arith}
use Rattle.std.proofs.lemmas.List.{length-map}
use Rattle.tt_deltas_inference.proofs.Ends.{contour_ends}
use Rattle.tt_fit_variation.specs.Glyph.{still_x}
use Rattle.tt_fit_variation.proofs.glyph.GlyphVariation.of_simple.Goals as goal

pub vary-requires-clause-contours : goal.vary-requires-clause-contours
vary-requires-clause-contours c =
    let ends = c.requires.ends in
    let points = c.args.points.now in
    let made = rw c.in_ok-still_xs.ensures.exact at c.in_ok-xs.ensures.count in
    let many = length-map points still_x in
    let room : length points ≤ length c.deref_mut.result.now = rw c.deref_mut.ensures.value (omega (arith, made, many)) in
    contour_ends c.args.ends.now (length points) (length c.deref_mut.result.now) ends.rising ends.last room
