use Rattle.std.proofs.Common.{◌≡◌, ◌∙◌, Bool, true, false, if◌then◌else◌, List, [], ◌∷◌, length, refl, sym, ap, arith}
use Rattle.tt_arc.specs.declared.point.PlacedPoint.{PlacedPoint}
use Rattle.tt_arc.specs.declared.rule.ChordRule.{ChordRule}
use Rattle.tt_scan_edges.specs.declared.edge.Edge.{Edge}
use Rattle.tt_arc.specs.Chords.{chord_count, chords_by, edges_of, quadratic_of}
use Rattle.tt_arc.proofs.Few.{chords_counted_by}
use Rattle.tt_arc.proofs.counting.corner_chords.Goals as goal

when_off : (on next : Bool) (line : Edge) (chords : List Edge) → on ≡ false
    → length (if on then (if next then line ∷ [] else []) else chords) ≡ length chords
when_off true next line chords off = absurd cc
when_off false next line chords off = refl

-- a point off the curve has the chords of its curve
off_the_curve : (r : ChordRule) (before p after : PlacedPoint) → p.on ≡ false
    → length (edges_of r before p after) ≡ chord_count r (quadratic_of before p after)
unfolding edges_of
off_the_curve r before p after off =
    when_off p.on after.on _ (chords_by r (quadratic_of before p after)) off ∙ chords_counted_by r (quadratic_of before p after)

pub returns-then-not-corner-clause-exact : goal.returns-then-not-corner-clause-exact
returns-then-not-corner-clause-exact c =
    let it = c.args.corner in
    let is = c.if-not-corner.true in
    let off : it.point.on ≡ false = grind (arith, is) in
    c.chord_count.ensures ∙ ap (chord_count c.args.rule) c.quadratic_of.ensures.exact
    ∙ sym (off_the_curve c.args.rule it.before it.point it.after off)
