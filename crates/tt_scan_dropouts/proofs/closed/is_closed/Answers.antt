use Rattle.std.proofs.Common.{sym, ◌∙◌, pos, get_or, length, ◌-◌, ◌<◌, arith}
use Rattle.std.proofs.lemmas.Bool.Decides.{nat_tests}
use Rattle.tt_scan_edges.specs.declared.edge.Edge.{Edge}
use Rattle.tt_scan_dropouts.proofs.Rounds.{closed_by, meets}
use Rattle.tt_scan_dropouts.proofs.closed.is_closed.Goals as goal

pub returns : goal.returns
returns c = λ is.
    let es = c.args.edges.now in
    let d : Edge = record { ax = pos 0; ay = pos 0; bx = pos 0; by = pos 0 } in
    let some : 0 < length es = grind (arith, nat_tests, c.is_empty.ensures, c.if-is_empty.false) in
    closed_by es d some (λ k e less. c.loop-i.invariant k e (omega (arith, c.loop-i-test.false, less)))
    (meets (get_or es (length es - 1) d) (get_or es 0 d) (sym c.leads_to-2.ensures ∙ is))
