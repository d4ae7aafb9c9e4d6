use Rattle.std.proofs.Common.{◌≡◌, ◌≤◌, ◌-◌}
use Rattle.tt_core.specs.Limits.{step_limit}
use Rattle.tt_exec_step.specs.Runs.{Leads}
use Rattle.tt_exec_step.specs.States.{state_of}
use Rattle.tt_exec.specs.Work.{work_within}
use Rattle.tt_exec.specs.Worked.{Paid}
use Rattle.tt_exec.proofs.running.go.Given as goal

-- the steps so far lead here, and were paid for
abbrev pub invariant-steps : goal.invariant-steps
invariant-steps l = record {
  few : l.n ≤ step_limit;
  leads : Leads l.n (state_of l.fn.state) (state_of l.state);
  worked : work_within step_limit (state_of l.fn.state) l.fn.work.left
      ≡ work_within (step_limit - l.n) (state_of l.state) l.work.left;
  paid : Paid l.n l.fn.work.left l.work.left;
}

abbrev pub decreases-steps : goal.decreases-steps
decreases-steps l = step_limit - l.n
