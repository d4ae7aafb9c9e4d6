use Rattle.std.proofs.Common.{◌∙◌, sym, ◌≤◌, length, take, get_or, [], refl, arith}
use Rattle.std.proofs.lemmas.Int.{to_z-of_z}
use Rattle.tt_scan.proofs.Gaps.{still_in, unmet_in, unmet_entered, entered_next, taken, all_entered, none_entered, edge_is_wide, is_lent, nothing}
use Rattle.tt_scan.proofs.Reached.{ready_unsorted}
use Rattle.tt_scan.proofs.tape.Tape.of.Goals as goal
use Rattle.tt_scan.proofs.tape.Tape.of.Goals.{then-not-is_in+in_ok-enter, else-not-is_in}

pub loop-i-init : goal.loop-i-init
loop-i-init c =
    let ready = c.reserve.ensures.ready [] c.args.frame (c.new-table.ensures.ready c.args.frame) in
    record {
      entered = none_entered c.args.frame c.reserve.new.self.entries.items ready.table;
      gap = c.gap_at-gap.ensures;
      room = ready.room;
      sorted = c.reserve.ensures.sorted ∙ c.new-table.ensures.sorted;
    }

pub gap_from-gap-requires-clause-gap : goal.gap_from-gap-requires-clause-gap
gap_from-gap-requires-clause-gap c = c.loop-i.invariant.gap

pub gap_from-gap-requires-clause-fits : goal.gap_from-gap-requires-clause-fits
gap_from-gap-requires-clause-fits c =
    let k = is_lent c.args.list.edges c.into_edges-edges.result.edges c.lend.result.now c.loop-i.i c.len-i-end.result
    c.into_edges-edges.ensures.edges c.lend.ensures.fit c.lend.ensures.exact c.len-i-end.ensures.exact c.loop-i-test.true in
    let wide = edge_is_wide (get_or c.args.list.edges c.loop-i.i nothing) k.fits in
    let ay = wide.ay in
    rw k.same (simp to_z-of_z k.fits.ay)

pub enter-requires-clause-edge : goal.enter-requires-clause-edge
enter-requires-clause-edge c = let k = is_lent c.args.list.edges c.into_edges-edges.result.edges c.lend.result.now c.loop-i.i c.len-i-end.result
    c.into_edges-edges.ensures.edges c.lend.ensures.fit c.lend.ensures.exact c.len-i-end.ensures.exact c.loop-i-test.true in rw k.same k.fits

pub enter-requires-clause-room : goal.enter-requires-clause-room
enter-requires-clause-room c = c.loop-i.invariant.room

pub gap_at-gap-requires-then-not-is_in : goal.gap_at-gap-requires-then-not-is_in
gap_at-gap-requires-then-not-is_in c =
    let k = is_lent c.args.list.edges c.into_edges-edges.result.edges c.lend.result.now c.loop-i.i c.len-i-end.result
    c.into_edges-edges.ensures.edges c.lend.ensures.fit c.lend.ensures.exact c.len-i-end.ensures.exact c.loop-i-test.true in
    let wide = edge_is_wide (get_or c.args.list.edges c.loop-i.i nothing) k.fits in
    let by = wide.by in
    rw k.same (simp to_z-of_z k.fits.by)

pub loop-i-preserved : goal.loop-i-preserved
loop-i-preserved c =
    let k = is_lent c.args.list.edges c.into_edges-edges.result.edges c.lend.result.now c.loop-i.i c.len-i-end.result
    c.into_edges-edges.ensures.edges c.lend.ensures.fit c.lend.ensures.exact c.len-i-end.ensures.exact c.loop-i-test.true in
    let es = c.args.list.edges in
    let i = c.loop-i.i in
    let e = get_or es i nothing in
    let inv = c.loop-i.invariant in
    let wide = edge_is_wide e k.fits in
    let ay = wide.ay in
    let by = wide.by in
    let gap = c.gap_from-gap.result in
    let at = simp to_z-of_z at (rw k.same at c.gap_from-gap.ensures) in
    let tested = simp to_z-of_z at (rw k.same at c.is_in.ensures) in
    elim c.if-not-is_in.branch [
      | then-not-is_in+in_ok-enter w ↦ record {
        entered = rw (w.rows-is, w.table-is) (entered_next es i nothing c.args.frame w.enter.new.all w.enter.new.table.entries.items
            k.below (rw k.same at (w.in_ok-enter.ensures.entered (take i es) (taken es i k.below) inv.entered)));
        gap = rw w.gap-is w.gap_at-gap-then-not-is_in.ensures;
        room = rw w.table-is w.in_ok-enter.ensures.room;
        sorted = rw w.table-is w.in_ok-enter.ensures.sorted;
      }
      | else-not-is_in w ↦
          let within = sym tested ∙ w.if-not-is_in.false in record {
            entered = rw (w.rows-is, w.table-is) (entered_next es i nothing c.args.frame c.loop-i.rows c.loop-i.table.entries.items
                k.below (unmet_entered (take i es) e c.args.frame c.loop-i.rows c.loop-i.table.entries.items inv.entered
                (unmet_in c.args.frame e gap at within)));
            gap = rw (w.gap-is, k.same) (simp to_z-of_z (still_in gap e.ay e.by at within));
            room = rw w.table-is inv.room;
            sorted = rw w.table-is inv.sorted;
          }
    ]

pub invariant_of-result : goal.invariant_of-result
invariant_of-result c =
    let es = c.args.list.edges in
    let made = c.into_edges-edges.ensures.edges in
    let many = rw made at c.len-i-end.ensures.exact in
    let past : length es ≤ c.loop-i.i = omega (arith, many, c.loop-i-test.false) in
    let are = all_entered es c.loop-i.i c.args.frame c.loop-i.rows c.loop-i.table.entries.items past c.loop-i.invariant.entered in (
      c.requires,
      rw made are.rows,
      rw made (ready_unsorted es c.args.frame c.loop-i.table are.table c.loop-i.invariant.room c.loop-i.invariant.sorted),
    )

pub returns : goal.returns
returns c = rw (c.into_edges-edges.ensures.edges, c.into_edges-edges.ensures.crosses) refl
