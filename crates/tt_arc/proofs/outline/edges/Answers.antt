use Rattle.std.proofs.Common.{SFits, w64, refl}
use Rattle.std.proofs.lemmas.Int.{to_z-of_z}
use Rattle.tt_arc.proofs.EndsOfContours.{cut_at_ends, ends_are}
use Rattle.tt_arc.proofs.Few.{few_counted, fewer_edges}
use Rattle.tt_arc.proofs.outline.edges.Goals as goal

pub push_contours-requires-clause-near : goal.push_contours-requires-clause-near
push_contours-requires-clause-near c =
    let dx : SFits w64 c.args.dx = c.ranges.dx in
    let dy : SFits w64 c.args.dy = c.ranges.dy in
    rw c.deref-2.ensures.value (simp to_z-of_z c.requires.near)

pub returns-clause-exact : goal.returns-clause-exact
returns-clause-exact c =
    let dx : SFits w64 c.args.dx = c.ranges.dx in
    let dy : SFits w64 c.args.dy = c.ranges.dy in
    let pushed = simp to_z-of_z at c.in_ok-push_contours.ensures.exact in
    rw (pushed, c.deref-2.ensures.value, c.deref-3.ensures.value) refl

pub returns-clause-contours : goal.returns-clause-contours
returns-clause-contours c = λ with.
    let dx : SFits w64 c.args.dx = c.ranges.dx in
    let dy : SFits w64 c.args.dy = c.ranges.dy in
    let points = c.args.outline.now.points.items in
    let ends = c.args.outline.now.ends.items in
    let told = rw (c.deref-2.ensures.value, c.deref-3.ensures.value) at (simp to_z-of_z at (c.in_ok-push_contours.ensures.ends with)) in
    rw (returns-clause-exact c, told) (cut_at_ends c.args.rule points ends c.args.dx c.args.dy)

pub returns-clause-ends : goal.returns-clause-ends
returns-clause-ends c = λ with.
    let dx : SFits w64 c.args.dx = c.ranges.dx in
    let dy : SFits w64 c.args.dy = c.ranges.dy in
    let points = c.args.outline.now.points.items in
    let ends = c.args.outline.now.ends.items in
    let told = rw (c.deref-2.ensures.value, c.deref-3.ensures.value) at (simp to_z-of_z at (c.in_ok-push_contours.ensures.ends with)) in
    rw (returns-clause-exact c, told) (ends_are c.args.rule points ends c.args.dx c.args.dy)

pub returns-clause-chords : goal.returns-clause-chords
returns-clause-chords c =
    let dx : SFits w64 c.args.dx = c.ranges.dx in
    let dy : SFits w64 c.args.dy = c.ranges.dy in
    let counted = simp to_z-of_z at c.in_ok-push_contours.ensures.chords in
    rw (counted, c.deref-2.ensures.value, c.deref-3.ensures.value) refl

pub returns-clause-few : goal.returns-clause-few
returns-clause-few c =
    rw (returns-clause-exact c, returns-clause-chords c)
    (fewer_edges c.args.rule c.args.outline.now.points.items c.args.outline.now.ends.items c.args.dx c.args.dy)

pub returns-clause-bound : goal.returns-clause-bound
returns-clause-bound c =
    rw (returns-clause-chords c)
    (few_counted c.args.rule c.args.outline.now.points.items c.args.outline.now.ends.items c.args.dx c.args.dy c.requires.ends)
