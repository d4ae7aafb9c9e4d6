use Rattle.std.proofs.Common.{◌≡◌, length, ◌++◌, ◌∷◌, [], refl, arith}
use Rattle.tt_scan.proofs.Reached.{ready_unsorted}
use Rattle.tt_scan.proofs.Standing.{entry_pushed}
use Rattle.tt_scan.proofs.Unmet.{rows_joined}
use Rattle.tt_scan.proofs.tape.Tape.push.Goals as goal

pub invariant_of-self-2 : goal.invariant_of-self-2
invariant_of-self-2 c =
    let items : c.push_reserved.new.self.edges ≡ c.self.inside.edges.edges ++ c.args.edge ∷ [] =
    rw (c.push_reserved.ensures, c.reserve.ensures.edges) refl in
    let place : c.len.result ≡ length c.self.inside.edges.edges = grind (arith, c.len.ensures, c.reserve.ensures) in (
      c.self.invariant.0,
      rw items (rows_joined c.self.inside.edges.edges c.args.edge c.self.inside.frame c.self.inside.rows c.row_range-rows.result c.join.new.all
          c.self.invariant.1 c.row_range-rows.ensures
          c.join.ensures.left c.join.ensures.right c.join.ensures.first c.join.ensures.last c.join.ensures.order),
      rw items (ready_unsorted (c.self.inside.edges.edges ++ c.args.edge ∷ []) c.self.inside.frame c.add_entry.new.table
          (entry_pushed c.self.inside.edges.edges c.self.inside.frame c.self.inside.table.entries.items c.add_entry.new.table.entries.items c.args.edge c.row_range-rows.result
          c.self.invariant.2.table c.row_range-rows.ensures (rw place at c.in_ok-add_entry.ensures.added))
          c.in_ok-add_entry.ensures.room c.in_ok-add_entry.ensures.sorted),
    )

pub returns-clause-added : goal.returns-clause-added
returns-clause-added c = rw (c.push_reserved.ensures, c.reserve.ensures.edges, c.reserve.ensures.crosses, ← c.self.view_is) refl
