-- A run with more work remaining is the same run, and as much more remains after it.
use Rattle.std.proofs.Common.{◌≡◌, ℕ, ◌+◌, Bool, Option, Some, Ok, Err, sym, ◌∙◌, ap, refl}
use Rattle.tt_core.specs.Faults.{Fault}
use Rattle.tt_exec.specs.declared.fault.ExecFault.TheVariants as exec
use Rattle.tt_exec.specs.declared.work.WorkFault.TheVariants as work
use Rattle.tt_exec.specs.Machines.{Machine, run_from}
use Rattle.tt_exec.specs.MoreWork.{IsMore, EndsStay, FaultsStay}
use Rattle.tt_exec.specs.Work.{enough, spent, run_work}
use Rattle.tt_exec.proofs.RunCosts.{of_run, rest_is, grows}
use Rattle.tt_exec_step.specs.MachineState.{MachineState}
use Rattle.tt_exec_step.proofs.Single.{outcome}

abbrev machine_of : MachineState → Bool → Machine
machine_of state failed = record { state = state; failed = failed }

of_same : (s t : MachineState) (f g : Bool) → s ≡ t → f ≡ g → machine_of s f ≡ machine_of t g
of_same s t f g state failed = rw (state, failed) refl

same_machine : (a b : Machine) → a.state ≡ b.state → a.failed ≡ b.failed → a ≡ b
same_machine a b state failed = of_same a.state b.state a.failed b.failed state failed

with_more : (m : MachineState) (left more : ℕ) (after : Option ℕ) → run_work m (Some left) ≡ enough after
    → (rest : ℕ) × (after ≡ Some rest) × (run_work m (Some (left + more)) ≡ enough (Some (rest + more)))
with_more m left more after one =
    let has = of_run m in
    let (rest, is, sum) = rest_is has.cost left (run_work m (Some left)) after (has.each left) one in
    (rest, is, grows (run_work m) has left rest more (one ∙ ap enough is))

more_remains : (m : MachineState) (left more : ℕ) (after longer : Option ℕ) → run_work m (Some left) ≡ enough after
    → run_work m (Some (left + more)) ≡ enough longer → IsMore after longer more
more_remains m left more after longer one two =
    let (rest, is, grown) = with_more m left more after one in
    let same : enough longer ≡ enough (Some (rest + more)) = sym two ∙ grown in
    record { rest = rest; first = is; second = cc }

never_spent : (m : MachineState) (left more : ℕ) (after : Option ℕ) (f : Fault) → run_work m (Some left) ≡ enough after
    → run_work m (Some (left + more)) ≡ spent f → ⊥
never_spent m left more after f one two =
    let (rest, is, grown) = with_more m left more after one in
    let same : spent f ≡ enough (Some (rest + more)) = sym two ∙ grown in
    absurd cc

pub ends_stay : EndsStay
ends_stay p old new again n left more (Ok k) after longer one two memory =
    let m = run_from p old.state in
    let same = (outcome m).one_end k n again.state new.state two.exact.2 one.exact.2 in
    let failed : again.failed ≡ new.failed = two.exact.1 ∙ sym one.exact.1 in
    (ap Ok same.0, same_machine again new same.1 failed, more_remains m left more after longer one.work two.work)
ends_stay p old new again n left more (Err (work.Run (exec.Font f))) after longer one two memory =
    absurd ((outcome (run_from p old.state)).never_both n new.state f one.exact.2 two.exact.2)
ends_stay p old new again n left more (Err (work.Run exec.Memory)) after longer one two memory = absurd (memory refl)
ends_stay p old new again n left more (Err (work.Run exec.Failed)) after longer one two memory =
    let is = one.exact.0 in
    let is_not = two.exact.0 in
    absurd cc
ends_stay p old new again n left more (Err (work.Spent f)) after longer one two memory =
    absurd (never_spent (run_from p old.state) left more after f one.work two.work.0)

pub faults_stay : FaultsStay
faults_stay p old new again fault left more (Ok k) after longer one two memory =
    absurd ((outcome (run_from p old.state)).never_both k again.state fault two.exact.2 one.exact.2)
faults_stay p old new again fault left more (Err (work.Run (exec.Font f))) after longer one two memory =
    let m = run_from p old.state in
    let same = (outcome m).one_fault f fault two.exact.2 one.exact.2 in
    let failed : again.failed ≡ new.failed = two.exact.1 ∙ sym one.exact.1 in
    (rw same refl, failed, more_remains m left more after longer one.work two.work)
faults_stay p old new again fault left more (Err (work.Run exec.Memory)) after longer one two memory = absurd (memory refl)
faults_stay p old new again fault left more (Err (work.Run exec.Failed)) after longer one two memory =
    let is = one.exact.0 in
    let is_not = two.exact.0 in
    absurd cc
faults_stay p old new again fault left more (Err (work.Spent f)) after longer one two memory =
    absurd (never_spent (run_from p old.state) left more after f one.work two.work.0)
