use Rattle.std.proofs.Common.{SFits, w64, arith}
use Rattle.std.proofs.lemmas.Int.{to_z-of_z}
use Rattle.tt_arc.proofs.Few.{few_counted, fewer_edges}
use Rattle.tt_arc.proofs.outline.chords.Goals as goal

pub edges-requires-clause-near : goal.edges-requires-clause-near
edges-requires-clause-near c =
    let dx : SFits w64 c.args.dx = c.ranges.dx in
    let dy : SFits w64 c.args.dy = c.ranges.dy in
    simp to_z-of_z c.requires.near

pub returns-clause-exact : goal.returns-clause-exact
returns-clause-exact c =
    let dx : SFits w64 c.args.dx = c.ranges.dx in
    let dy : SFits w64 c.args.dy = c.ranges.dy in
    let made = simp to_z-of_z at c.in_ok-list.ensures.exact in
    rw made at c.in_ok-tape.ensures

pub returns-clause-few : goal.returns-clause-few
returns-clause-few c =
    let whole = returns-clause-exact c in
    let points = c.args.outline.now.points.items in
    let ends = c.args.outline.now.ends.items in
    let few = fewer_edges c.args.rule points ends c.args.dx c.args.dy in
    let most = few_counted c.args.rule points ends c.args.dx c.args.dy c.requires.ends in
    rw whole (omega (arith, few, most))
