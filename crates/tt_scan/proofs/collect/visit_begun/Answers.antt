use Rattle.std.proofs.Common.{◌≡◌, ◌∙◌, sym, ap, ◌+◌, [], ◌∷◌, ◌≤ℤ◌, ◌<ℤ◌, get_or, length, filter, take, drop, refl, SFits, w32, rules, arith}
use Rattle.std.proofs.lemmas.Int.{to_z-of_z}
use Rattle.std.proofs.lemmas.List.{get_or_default, take_all, drop_all, length-map}
use Rattle.tt_scan_edges.specs.declared.entry.Entry.{Entry}
use Rattle.tt_scan_edges.specs.Entries.{edge_of}
use Rattle.tt_scan_edges.proofs.Orders.{is_less, reached}
use Rattle.tt_scan_order.proofs.Sorted.{no_entry}
use Rattle.tt_scan.specs.EdgeTable.{meets_row}
use Rattle.tt_scan.proofs.Walked.{all_met, none_after, met_from, room_for_mark, room_for_walk, walked_more, met_more}
use Rattle.tt_scan.proofs.collect.visit_begun.Goals as goal

pub returns-then-begins_below-clause-left : goal.returns-then-begins_below-clause-left
returns-then-begins_below-clause-left c =
    let r : SFits w32 c.args.at.r = search rules in
    let after : c.args.at.r <ℤ (get_or c.args.entries.now c.loop-next.next no_entry).first = is_less c.args.at.r (get_or c.args.entries.now c.loop-next.next no_entry).first (sym (simp to_z-of_z at c.begins_below.ensures) ∙ c.if-begins_below.true) in
    rw (all_met c.args.at.r c.args.entries.now c.loop-next.next c.requires.order c.loop-next-test.true
    (λ d. rw (get_or_default c.args.entries.now c.loop-next.next d no_entry c.loop-next-test.true) after)) at c.loop-next.invariant.left

pub returns-then-begins_below-clause-crosses : goal.returns-then-begins_below-clause-crosses
returns-then-begins_below-clause-crosses c =
    let r : SFits w32 c.args.at.r = search rules in
    let after : c.args.at.r <ℤ (get_or c.args.entries.now c.loop-next.next no_entry).first = is_less c.args.at.r (get_or c.args.entries.now c.loop-next.next no_entry).first (sym (simp to_z-of_z at c.begins_below.ensures) ∙ c.if-begins_below.true) in
    let none = none_after c.args.at.r c.args.entries.now c.loop-next.next c.requires.order c.loop-next-test.true
    (λ d. rw (get_or_default c.args.entries.now c.loop-next.next d no_entry c.loop-next-test.true) after) in
    let counted = rw none at c.loop-next.invariant.count in
    let count : c.loop-next.edges.crosses ≡ c.args.edges.now.crosses + length (filter (meets_row c.args.at.r) (drop c.args.from c.args.entries.now)) = omega (arith, counted) in
    c.loop-next.invariant.edges ∙ rw count refl

pub visit_entry-requires-clause-entry : goal.visit_entry-requires-clause-entry
visit_entry-requires-clause-entry c =
    rw c.loop-next.invariant.edges (c.requires.entries c.loop-next.next no_entry c.loop-next-test.true)

pub visit_entry-requires-clause-crosses : goal.visit_entry-requires-clause-crosses
visit_entry-requires-clause-crosses c =
    λ meets.
    let more = met_from c.args.at.r c.args.entries.now c.loop-next.next no_entry c.loop-next-test.true in
    let one : length (filter (meets_row c.args.at.r) (get_or c.args.entries.now c.loop-next.next no_entry ∷ [])) ≡ 1 = rw meets refl in
    omega (arith, more, one, c.loop-next.invariant.count, c.requires.crosses)

pub visit_entry-requires-clause-room : goal.visit_entry-requires-clause-room
visit_entry-requires-clause-room c =
    λ meets.
    let met = room_for_mark c.args.at.r c.args.entries.now c.loop-next.next no_entry c.loop-next-test.true meets in
    let long = length-map (filter (meets_row c.args.at.r) (take c.loop-next.next c.args.entries.now)) (λ (m : Entry). edge_of c.args.edges.now.edges m) in
    let room = c.loop-next.invariant.left.room in
    omega (arith, met, long, room, c.requires.room)

pub visit_entry-requires-clause-walk_room : goal.visit_entry-requires-clause-walk_room
visit_entry-requires-clause-walk_room c =
    let r : SFits w32 c.args.at.r = search rules in
    let low : (get_or c.args.entries.now c.loop-next.next no_entry).first ≤ℤ c.args.at.r = reached c.args.at.r (get_or c.args.entries.now c.loop-next.next no_entry).first (sym (simp to_z-of_z at c.begins_below.ensures) ∙ c.if-begins_below.false) in
    λ on.
    let room = room_for_walk c.args.edges.now.edges c.args.at.frame c.args.at.r c.args.entries.now c.loop-next.next no_entry c.loop-next.walks.items c.loop-next.invariant.walked c.loop-next-test.true low on in
    omega (arith, room, c.requires.walk_room, c.loop-next.invariant.walk_capacity)

pub loop-next-preserved : goal.loop-next-preserved
loop-next-preserved c =
    let r : SFits w32 c.args.at.r = search rules in
    let low : (get_or c.args.entries.now c.loop-next.next no_entry).first ≤ℤ c.args.at.r = reached c.args.at.r (get_or c.args.entries.now c.loop-next.next no_entry).first (sym (simp to_z-of_z at c.begins_below.ensures) ∙ c.if-begins_below.false) in
    let walked = c.loop-next.invariant.walked in
    let same : c.loop-next.edges.edges ≡ c.args.edges.now.edges = rw c.loop-next.invariant.edges refl in
    let more = met_from c.args.at.r c.args.entries.now c.loop-next.next no_entry c.loop-next-test.true in
    let crosses : c.visit_entry.new.edges.crosses ≡ c.loop-next.edges.crosses + length (filter (meets_row c.args.at.r) (get_or c.args.entries.now c.loop-next.next no_entry ∷ [])) = ap (λ e. e.crosses) c.visit_entry.ensures.crosses in
    record {
      walked = walked_more c.args.edges.now.edges c.args.at.frame c.args.at.r c.args.entries.now c.loop-next.next no_entry c.loop-next.walks.items c.visit_entry.new.walks.items
          walked c.loop-next-test.true low c.visit_entry.ensures.sums
          ((rw same at c.visit_entry.ensures.walks) walked.walks) (c.visit_entry.ensures.on walked.on);
      left = rw (met_more c.args.at.r c.args.entries.now c.loop-next.next no_entry c.loop-next-test.true)
          ((rw same at (c.visit_entry.ensures.left (filter (meets_row c.args.at.r) (take c.loop-next.next c.args.entries.now)) c.args.left.now.most)) c.loop-next.invariant.left);
      edges = rw (c.visit_entry.ensures.crosses, c.loop-next.invariant.edges) refl;
      count = omega (arith, c.loop-next.invariant.count, more, crosses);
      walk_capacity = search rules;
    }

pub returns-clause-walked : goal.returns-clause-walked
returns-clause-walked c =
    let walked = c.loop-next.invariant.walked in
    let within = walked.within in
    let done : c.loop-next.next ≡ length c.args.entries.now = omega (arith, c.loop-next-test.false, within) in
    rw done at walked

pub returns-clause-left : goal.returns-clause-left
returns-clause-left c =
    rw (take_all c.loop-next.next c.args.entries.now c.loop-next-test.false) at c.loop-next.invariant.left

pub returns-clause-crosses : goal.returns-clause-crosses
returns-clause-crosses c =
    let counted = rw (drop_all c.loop-next.next c.args.entries.now c.loop-next-test.false) at c.loop-next.invariant.count in
    let count : c.loop-next.edges.crosses ≡ c.args.edges.now.crosses + length (filter (meets_row c.args.at.r) (drop c.args.from c.args.entries.now)) = omega (arith, counted) in
    c.loop-next.invariant.edges ∙ rw count refl
