use Rattle.std.proofs.Common.{◌∙◌, ◌≤◌, ◌^◌, length, arith}
use Rattle.tt_scan.proofs.Totals.{all_rows, few_crossings}
use Rattle.tt_scan.proofs.tape.Tape.crossings.Goals as goal

pub rows-requires : goal.rows-requires
rows-requires c =
    let all = all_rows c.self.inside.edges.edges c.self.inside.frame c.self.inside.table.entries.items c.self.invariant.2.table in
    let few = few_crossings c.self.inside.edges.edges c.self.inside.frame c.self.invariant.0 in
    let edges : length c.self.inside.edges.edges ≤ 2 ^ 32 = rw (← c.self.view_is) at c.requires.few in
    omega arith

pub returns-clause-exact : goal.returns-clause-exact
returns-clause-exact c =
    rw (← c.self.view_is) (c.rows.ensures ∙ all_rows c.self.inside.edges.edges c.self.inside.frame c.self.inside.table.entries.items c.self.invariant.2.table)

pub returns-clause-bound : goal.returns-clause-bound
returns-clause-bound c =
    let all = all_rows c.self.inside.edges.edges c.self.inside.frame c.self.inside.table.entries.items c.self.invariant.2.table in
    let few = few_crossings c.self.inside.edges.edges c.self.inside.frame c.self.invariant.0 in
    rw (← c.self.view_is) (omega (arith, c.rows.ensures))
