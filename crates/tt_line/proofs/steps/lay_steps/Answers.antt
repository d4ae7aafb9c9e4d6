use Rattle.std.proofs.Common.{◌≡◌, ℕ, map, sum, rules}
use Rattle.tt_line.proofs.steps.lay_steps.Goals as goal

pub returns-in_err-extent-clause-fault : goal.returns-in_err-extent-clause-fault
returns-in_err-extent-clause-fault c =
    let all : c.sum_of_steps-all.result ≡ sum (map (λ (p : ℕ × ℕ). p.1) c.args.steps.items) =
    rw c.deref.ensures.value at c.sum_of_steps-all.ensures.exact in
    search rules
