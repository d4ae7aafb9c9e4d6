use Rattle.std.proofs.Common.{◌≡◌, ◌∙◌, ◌+ℤ◌, ◌<ℤ◌, ◌≤ℤ◌, pos, true, false, int_lt, sym, refl, SFits, w32, rules, arith}
use Rattle.std.proofs.lemmas.Int.{ints, to_z-of_z}
use Rattle.std.proofs.lemmas.List.{append-nil}
use Rattle.std.proofs.lemmas.List.Elements.{All-push}
use Rattle.std.proofs.lemmas.List.Sorted.{All-permutation, sum_by-IsPermutation}
use Rattle.std.proofs.lemmas.List.Sums.{sum_by_push}
use Rattle.tt_scan_edges.specs.declared.walk.Walk.{Walk}
use Rattle.tt_scan_edges.specs.Entries.{edge_of}
use Rattle.tt_scan_edges.proofs.Crossed.{left_by_cross}
use Rattle.tt_scan_edges.proofs.Orders.{is_less, reached}
use Rattle.tt_scan.specs.EdgeTable.{IsWalkAt, meets_row}
use Rattle.tt_scan.proofs.Walked.{inside, ended_above, met_at, sloped_long, left_push, begun_at}
use Rattle.tt_scan.proofs.collect.visit_entry.Goals as goal

pub start-requires-clause-within : goal.start-requires-clause-within
start-requires-clause-within c =
    c.requires.entry.number

pub start-requires-clause-sloped : goal.start-requires-clause-sloped
start-requires-clause-sloped c =
    let r : SFits w32 c.args.at.r = search rules in
    let on : (c.args.at.r +ℤ pos 1) <ℤ c.args.entry.past = is_less (c.args.at.r +ℤ pos 1) c.args.entry.past (sym (simp to_z-of_z at c.goes_below.ensures) ∙ c.if-goes_below.true) in
    sloped_long (edge_of c.args.edges.now.edges c.args.entry) c.args.at.frame c.args.entry.first c.args.entry.past c.args.at.r c.args.at.y c.requires.entry.rows c.args.at.height c.requires.first on

pub start-requires-clause-met : goal.start-requires-clause-met
start-requires-clause-met c =
    let r : SFits w32 c.args.at.r = search rules in
    let on : (c.args.at.r +ℤ pos 1) <ℤ c.args.entry.past = is_less (c.args.at.r +ℤ pos 1) c.args.entry.past (sym (simp to_z-of_z at c.goes_below.ensures) ∙ c.if-goes_below.true) in
    met_at (edge_of c.args.edges.now.edges c.args.entry) c.args.at.frame c.args.entry.first c.args.entry.past c.args.at.r c.args.at.y c.requires.entry.rows c.args.at.height
    c.requires.first (omega (arith, ints, on))

pub start-requires-clause-count : goal.start-requires-clause-count
start-requires-clause-count c =
    let r : SFits w32 c.args.at.r = search rules in
    let on : (c.args.at.r +ℤ pos 1) <ℤ c.args.entry.past = is_less (c.args.at.r +ℤ pos 1) c.args.entry.past (sym (simp to_z-of_z at c.goes_below.ensures) ∙ c.if-goes_below.true) in
    let meets : meets_row c.args.at.r c.args.entry ≡ true = inside c.args.entry.first c.args.entry.past c.args.at.r c.requires.first (omega (arith, ints, on)) in
    c.requires.crosses meets

pub leave-requires : goal.leave-requires
leave-requires c =
    let r : SFits w32 c.args.at.r = search rules in
    let on : (c.args.at.r +ℤ pos 1) <ℤ c.args.entry.past = is_less (c.args.at.r +ℤ pos 1) c.args.entry.past (sym (simp to_z-of_z at c.goes_below.ensures) ∙ c.if-goes_below.true) in
    let meets : meets_row c.args.at.r c.args.entry ≡ true = inside c.args.entry.first c.args.entry.past c.args.at.r c.requires.first (omega (arith, ints, on)) in
    c.requires.room meets

pub add_walk-requires : goal.add_walk-requires
add_walk-requires c =
    let r : SFits w32 c.args.at.r = search rules in
    let on : (c.args.at.r +ℤ pos 1) <ℤ c.args.entry.past = is_less (c.args.at.r +ℤ pos 1) c.args.entry.past (sym (simp to_z-of_z at c.goes_below.ensures) ∙ c.if-goes_below.true) in
    c.requires.walk_room on

pub cross_met-requires-clause-within : goal.cross_met-requires-clause-within
cross_met-requires-clause-within c =
    c.requires.entry.number

pub cross_met-requires-clause-met : goal.cross_met-requires-clause-met
cross_met-requires-clause-met c =
    let r : SFits w32 c.args.at.r = search rules in
    let here : c.args.at.r <ℤ c.args.entry.past = is_less c.args.at.r c.args.entry.past (sym (simp to_z-of_z at c.reaches.ensures) ∙ c.if-reaches.true) in
    met_at (edge_of c.args.edges.now.edges c.args.entry) c.args.at.frame c.args.entry.first c.args.entry.past c.args.at.r c.args.at.y c.requires.entry.rows c.args.at.height
    c.requires.first here

pub cross_met-requires-clause-count : goal.cross_met-requires-clause-count
cross_met-requires-clause-count c =
    let r : SFits w32 c.args.at.r = search rules in
    let here : c.args.at.r <ℤ c.args.entry.past = is_less c.args.at.r c.args.entry.past (sym (simp to_z-of_z at c.reaches.ensures) ∙ c.if-reaches.true) in
    let meets : meets_row c.args.at.r c.args.entry ≡ true = inside c.args.entry.first c.args.entry.past c.args.at.r c.requires.first here in
    c.requires.crosses meets

pub leave-requires-then-reaches : goal.leave-requires-then-reaches
leave-requires-then-reaches c =
    let r : SFits w32 c.args.at.r = search rules in
    let here : c.args.at.r <ℤ c.args.entry.past = is_less c.args.at.r c.args.entry.past (sym (simp to_z-of_z at c.reaches.ensures) ∙ c.if-reaches.true) in
    let meets : meets_row c.args.at.r c.args.entry ≡ true = inside c.args.entry.first c.args.entry.past c.args.at.r c.requires.first here in
    c.requires.room meets

pub returns-then-goes_below-clause-left : goal.returns-then-goes_below-clause-left
returns-then-goes_below-clause-left c =
    let r : SFits w32 c.args.at.r = search rules in
    let on : (c.args.at.r +ℤ pos 1) <ℤ c.args.entry.past = is_less (c.args.at.r +ℤ pos 1) c.args.entry.past (sym (simp to_z-of_z at c.goes_below.ensures) ∙ c.if-goes_below.true) in
    let meets : meets_row c.args.at.r c.args.entry ≡ true = inside c.args.entry.first c.args.entry.past c.args.at.r c.requires.first (omega (arith, ints, on)) in
    λ ms most are. rw meets (left_push c.args.edges.now.edges c.args.at.frame.margin c.args.at.y ms c.args.entry most c.args.left.now c.leave.new.self are
    (left_by_cross (edge_of c.args.edges.now.edges c.args.entry) c.args.at.frame.margin c.args.at.y c.start.result.1 c.args.left.now c.leave.new.self c.start.ensures.exact c.leave.ensures))

pub returns-then-reaches-clause-left : goal.returns-then-reaches-clause-left
returns-then-reaches-clause-left c =
    let r : SFits w32 c.args.at.r = search rules in
    let here : c.args.at.r <ℤ c.args.entry.past = is_less c.args.at.r c.args.entry.past (sym (simp to_z-of_z at c.reaches.ensures) ∙ c.if-reaches.true) in
    let meets : meets_row c.args.at.r c.args.entry ≡ true = inside c.args.entry.first c.args.entry.past c.args.at.r c.requires.first here in
    λ ms most are. rw meets (left_push c.args.edges.now.edges c.args.at.frame.margin c.args.at.y ms c.args.entry most c.args.left.now c.leave-then-reaches.new.self are
    (left_by_cross (edge_of c.args.edges.now.edges c.args.entry) c.args.at.frame.margin c.args.at.y c.cross_met.result c.args.left.now c.leave-then-reaches.new.self c.cross_met.ensures.exact c.leave-then-reaches.ensures))

pub returns-then-goes_below-clause-sums : goal.returns-then-goes_below-clause-sums
returns-then-goes_below-clause-sums c =
    let r : SFits w32 c.args.at.r = search rules in
    let test : int_lt (c.args.at.r +ℤ pos 1) c.args.entry.past ≡ true = sym (simp to_z-of_z at c.goes_below.ensures) ∙ c.if-goes_below.true in
    λ g. sum_by-IsPermutation (λ (w : Walk). g w.entry) _ c.add_walk.new.walks.items c.add_walk.ensures.permutation
    ∙ sum_by_push (λ (w : Walk). g w.entry) c.args.walks.now.items c.start.result.0
    ∙ rw (c.start.ensures.entry, test) refl

pub returns-then-goes_below-clause-walks : goal.returns-then-goes_below-clause-walks
returns-then-goes_below-clause-walks c =
    let r : SFits w32 c.args.at.r = search rules in
    let on : (c.args.at.r +ℤ pos 1) <ℤ c.args.entry.past = is_less (c.args.at.r +ℤ pos 1) c.args.entry.past (sym (simp to_z-of_z at c.goes_below.ensures) ∙ c.if-goes_below.true) in
    let new = begun_at c.args.edges.now.edges c.args.at.frame c.args.at.r c.args.at.y c.args.entry c.start.result.0 c.start.ensures.entry c.requires.entry.number c.requires.entry.rows
    c.requires.first (omega (arith, ints, on)) c.args.at.height c.start.ensures.walk in
    λ all. All-permutation (IsWalkAt c.args.edges.now.edges c.args.at.frame c.args.at.r) _ c.add_walk.new.walks.items c.add_walk.ensures.permutation
    (All-push (IsWalkAt c.args.edges.now.edges c.args.at.frame c.args.at.r) c.args.walks.now.items c.start.result.0 all new)

pub returns-then-goes_below-clause-on : goal.returns-then-goes_below-clause-on
returns-then-goes_below-clause-on c =
    let r : SFits w32 c.args.at.r = search rules in
    let on : (c.args.at.r +ℤ pos 1) <ℤ c.args.entry.past = is_less (c.args.at.r +ℤ pos 1) c.args.entry.past (sym (simp to_z-of_z at c.goes_below.ensures) ∙ c.if-goes_below.true) in
    λ all. All-permutation (λ (w : Walk). (c.args.at.r +ℤ pos 1) <ℤ w.entry.past) _ c.add_walk.new.walks.items c.add_walk.ensures.permutation
    (All-push (λ (w : Walk). (c.args.at.r +ℤ pos 1) <ℤ w.entry.past) c.args.walks.now.items c.start.result.0 all (rw c.start.ensures.entry on))

pub returns-then-goes_below-clause-crosses : goal.returns-then-goes_below-clause-crosses
returns-then-goes_below-clause-crosses c =
    let r : SFits w32 c.args.at.r = search rules in
    let on : (c.args.at.r +ℤ pos 1) <ℤ c.args.entry.past = is_less (c.args.at.r +ℤ pos 1) c.args.entry.past (sym (simp to_z-of_z at c.goes_below.ensures) ∙ c.if-goes_below.true) in
    let meets : meets_row c.args.at.r c.args.entry ≡ true = inside c.args.entry.first c.args.entry.past c.args.at.r c.requires.first (omega (arith, ints, on)) in
    rw (c.start.ensures.count, meets) refl

pub returns-then-reaches-clause-sums : goal.returns-then-reaches-clause-sums
returns-then-reaches-clause-sums c =
    let r : SFits w32 c.args.at.r = search rules in
    let test : int_lt (c.args.at.r +ℤ pos 1) c.args.entry.past ≡ false = sym (simp to_z-of_z at c.goes_below.ensures) ∙ c.if-goes_below.false in
    λ g. rw test (omega arith)

pub returns-else-reaches-clause-left : goal.returns-else-reaches-clause-left
returns-else-reaches-clause-left c =
    let r : SFits w32 c.args.at.r = search rules in
    let over : c.args.entry.past ≤ℤ c.args.at.r = reached c.args.at.r c.args.entry.past (sym (simp to_z-of_z at c.reaches.ensures) ∙ c.if-reaches.false) in
    let off : meets_row c.args.at.r c.args.entry ≡ false = ended_above c.args.entry.first c.args.entry.past c.args.at.r over in
    λ ms most are. rw (off, append-nil ms) are
