use Rattle.std.proofs.Common.{◌≡◌, ◌∙◌, ◌<◌, add_assoc, length, get_or, take, map, refl, SFits, w32, pos, ◌+ℤ◌, ◌<ℤ◌, rules, arith}
use Rattle.std.proofs.Math.Seq.{take-length, map-set_same}
use Rattle.std.proofs.lemmas.Int.{to_z-of_z}
use Rattle.std.proofs.lemmas.List.{length-map, length-take-le, length-set, get_or-set_same}
use Rattle.tt_scan_edges.specs.declared.walk.Walk.{Walk}
use Rattle.tt_scan_edges.specs.Entries.{edge_of}
use Rattle.tt_scan.specs.EdgeTable.{IsWalkAt}
use Rattle.tt_scan_edges.specs.Walks.{IsWalk}
use Rattle.tt_scan_edges.specs.declared.entry.Entry.{Entry}
use Rattle.tt_scan_edges.proofs.Crossed.{blank_left, left_by_cross}
use Rattle.tt_scan.proofs.Walked.{no_walk, walk_here, walked_here, set_walked, set_above, entries_more, left_push}
use Rattle.tt_scan.proofs.collect.visit_walks.Goals as goal

pub loop-i-init : goal.loop-i-init
loop-i-init c = record {
  len = refl;
  walked = λ k d under. absurd (omega (arith, under));
  above = λ k d over. refl;
  entries = refl;
  on = λ no k d under. absurd (omega (arith, under));
  left = blank_left c.args.at.frame.margin c.args.at.y c.args.left.now c.requires.blank;
  crosses = search rules;
}

pub cross_below-requires-clause-below : goal.cross_below-requires-clause-below
cross_below-requires-clause-below c =
    let below : c.loop-i.i < length c.args.walks.now = omega (arith, c.loop-i-test.true, c.loop-i.invariant.len) in
    rw c.loop-i.invariant.crosses (walk_here c.args.edges.now.edges c.args.at.frame c.args.at.r c.args.at.y c.loop-i.walks c.args.walks.now c.loop-i.i _
    c.requires.walks c.requires.on (c.loop-i.invariant.above c.loop-i.i _ (omega arith)) below c.args.at.height)

pub leave_last-requires-clause-room : goal.leave_last-requires-clause-room
leave_last-requires-clause-room c =
    let below : c.loop-i.i < length c.args.walks.now = omega (arith, c.loop-i-test.true, c.loop-i.invariant.len) in
    let room = c.loop-i.invariant.left.room in
    let long = length-map (take c.loop-i.i (map (λ (w : Walk). w.entry) c.args.walks.now)) (λ (m : Entry). edge_of c.args.edges.now.edges m) in
    let whole = length-map c.args.walks.now (λ (w : Walk). w.entry) in
    let part = length-take-le c.loop-i.i (map (λ (w : Walk). w.entry) c.args.walks.now) (omega (arith, below, whole)) in
    omega (arith, below, room, long, part, c.requires.room)

pub loop-i-preserved : goal.loop-i-preserved
loop-i-preserved c =
    let r : SFits w32 c.args.at.r = search rules in
    let below : c.loop-i.i < length c.args.walks.now = omega (arith, c.loop-i-test.true, c.loop-i.invariant.len) in
    let within : c.loop-i.i < length c.loop-i.walks = omega (arith, c.loop-i.invariant.len, below) in
    let same = c.loop-i.invariant.above c.loop-i.i no_walk (omega arith) in
    let walk : IsWalk (edge_of c.args.edges.now.edges (get_or c.loop-i.walks c.loop-i.i no_walk).entry) c.args.at.frame.margin c.args.at.y c.cross_below.new.walk =
    rw c.loop-i.invariant.crosses at c.cross_below.ensures.walk in
    let new : IsWalkAt c.args.edges.now.edges c.args.at.frame c.args.at.r c.cross_below.new.walk =
    walked_here c.args.edges.now.edges c.args.at.frame c.args.at.r c.args.at.y c.loop-i.walks c.args.walks.now c.loop-i.i no_walk c.cross_below.new.walk
    c.requires.walks c.requires.on same below c.args.at.height c.cross_below.ensures.entry walk in
    record {
      len = length-set c.loop-i.walks c.loop-i.i c.cross_below.new.walk ∙ c.loop-i.invariant.len;
      walked = λ k d under. set_walked (IsWalkAt c.args.edges.now.edges c.args.at.frame c.args.at.r) c.loop-i.walks c.loop-i.i c.cross_below.new.walk within
          c.loop-i.invariant.walked new k d under;
      above = set_above c.loop-i.walks c.args.walks.now c.loop-i.i c.cross_below.new.walk c.loop-i.invariant.above;
      entries = map-set_same (λ (w : Walk). w.entry) c.loop-i.walks c.loop-i.i c.cross_below.new.walk no_walk c.cross_below.ensures.entry ∙ c.loop-i.invariant.entries;
      on = λ no k d under. set_walked (λ (w : Walk). (c.args.at.r +ℤ pos 1) <ℤ w.entry.past) c.loop-i.walks c.loop-i.i c.cross_below.new.walk within
          (c.loop-i.invariant.on (c.ended_by-ended.ensures.before no))
          (rw (get_or-set_same c.loop-i.walks c.loop-i.i c.cross_below.new.walk no_walk within) at (simp to_z-of_z at (c.ended_by-ended.ensures.on no))) k d under;
      left = rw (entries_more c.loop-i.walks c.loop-i.walks c.args.walks.now c.loop-i.i no_walk below same)
          (left_push c.args.edges.now.edges c.args.at.frame.margin c.args.at.y (take c.loop-i.i (map (λ (w : Walk). w.entry) c.args.walks.now))
          (get_or c.loop-i.walks c.loop-i.i no_walk).entry c.args.left.now.most c.loop-i.left c.leave_last.new.self c.loop-i.invariant.left
          (left_by_cross _ c.args.at.frame.margin c.args.at.y c.cross_below.result c.loop-i.left c.leave_last.new.self (rw c.loop-i.invariant.crosses at c.cross_below.ensures.exact) c.leave_last.ensures));
      crosses = rw (c.cross_below.ensures.count, c.loop-i.invariant.crosses, add_assoc c.args.edges.now.crosses c.loop-i.i 1) refl;
    }

pub returns-clause-left : goal.returns-clause-left
returns-clause-left c =
    let long : length (map (λ (w : Walk). w.entry) c.args.walks.now) ≡ length c.args.walks.now = length-map c.args.walks.now (λ (w : Walk). w.entry) in
    let done : c.loop-i.i ≡ length (map (λ (w : Walk). w.entry) c.args.walks.now) = omega (arith, c.loop-i.auto.i-end, c.loop-i-test.false, c.loop-i.invariant.len, long) in
    let all : take c.loop-i.i (map (λ (w : Walk). w.entry) c.args.walks.now) ≡ map (λ (w : Walk). w.entry) c.args.walks.now = rw done (take-length (map (λ (w : Walk). w.entry) c.args.walks.now)) in
    rw all at c.loop-i.invariant.left
