use Rattle.tt_scan_dropouts.proofs.contours.Outlined.contours.Goals as goal

pub invariant_of-result-clause-are_ends : goal.invariant_of-result-clause-are_ends
invariant_of-result-clause-are_ends c = rw c.lend.ensures.exact c.args.self.are_ends
