use Rattle.std.proofs.Common.{◌≡◌, ◌<◌, ◌∙◌, true, false, ap, subst, sym, refl, length, slice_index, arith}
use Rattle.tt_core.specs.Limits.{step_limit}
use Rattle.tt_exec_step.specs.MachineState.{MachineState}
use Rattle.tt_exec_step.specs.States.{state_of}
use Rattle.tt_exec_step.specs.Step.{is_ended, step}
use Rattle.tt_exec_step.proofs.Steps.{one_more}
use Rattle.tt_exec.specs.PaidSteps.{IsPaid}
use Rattle.tt_exec.specs.Work.{over_at}
use Rattle.tt_exec.specs.declared.paying.Payment.TheVariants as payment
use Rattle.tt_exec.proofs.PaidSteps.{done, is_refusal, stepped}
use Rattle.tt_exec.proofs.StepsPaid.{paid_none, paid_more, comes_on, comes_to_end, comes_to_limit, comes_to_spent, comes_to_refusal, halts_by}
use Rattle.tt_exec.proofs.running.go.Goals.{in-Paid, in-Stepped}
use Rattle.tt_exec.proofs.running.go.Goals as goal

pub steps-init : goal.steps-init
steps-init c = record { few = omega arith; leads = refl; worked = refl; paid = paid_none c.args.work.now.left }

pub step_by-outcome-requires-clause-place : goal.step_by-outcome-requires-clause-place
step_by-outcome-requires-clause-place c =
    let m = state_of c.steps.state in
    let paid : IsPaid m c.steps.work.left (payment.Paid c.in-Paid.op) (state_of c.pay_step.new.state) c.pay_step.new.work.left = c.in-Paid.ensures in
    let (pays, same, (there, is)) = paid in
    subst (λ (s : MachineState). m.frame.place ≡ s.frame.place) (sym same) refl

pub step_by-outcome-requires-clause-there : goal.step_by-outcome-requires-clause-there
step_by-outcome-requires-clause-there c =
    let m = state_of c.steps.state in
    let paid : IsPaid m c.steps.work.left (payment.Paid c.in-Paid.op) (state_of c.pay_step.new.state) c.pay_step.new.work.left = c.in-Paid.ensures in
    let (pays, same, (there, is)) = paid in
    subst (λ (s : MachineState). m.frame.place < length s.frame.code.bytes) (sym same) there

pub step_by-outcome-requires-clause-opcode : goal.step_by-outcome-requires-clause-opcode
step_by-outcome-requires-clause-opcode c =
    let m = state_of c.steps.state in
    let paid : IsPaid m c.steps.work.left (payment.Paid c.in-Paid.op) (state_of c.pay_step.new.state) c.pay_step.new.work.left = c.in-Paid.ensures in
    let (pays, same, (there, is)) = paid in
    subst (λ (s : MachineState). c.in-Paid.op ≡ slice_index s.frame.code.bytes m.frame.place) (sym same) is

pub steps-preserved : goal.steps-preserved
steps-preserved c =
    let m = state_of c.steps.state in
    let new = state_of c.match-pay_step.state in
    let left = c.steps.work.left in
    let rest = c.pay_step.new.work.left in
    let open_at : is_ended (state_of c.steps.state) ≡ false = sym c.if-is_ended.ensures in
    let few : c.steps.n < step_limit = omega arith in
    let paid : IsPaid m left (payment.Stepped c.match-pay_step.outcome) new rest = elim c.match-pay_step.branch [
      | in-Paid w ↦ rw (w.outcome-is, w.state-is)
          (stepped m (state_of c.pay_step.new.state) left rest w.in-Paid.op (state_of w.step_by-outcome.new.self)
          w.step_by-outcome.result w.in-Paid.ensures w.step_by-outcome.ensures)
      | in-Stepped w ↦ rw (w.outcome-is, w.state-is) w.in-Stepped.ensures
    ] in
    let made = done m left c.match-pay_step.outcome new rest c.in-Done.is paid in
    record {
      few = omega arith;
      leads = one_more c.steps.n _ m new c.steps.invariant.leads made.1;
      worked = comes_on _ m new _ left rest c.steps.n few open_at c.steps.invariant.worked made.0 made.1;
      paid = paid_more c.steps.n m _ left rest c.steps.invariant.paid made.0;
    }

pub returns-in-Spent-clause-work : goal.returns-in-Spent-clause-work
returns-in-Spent-clause-work c =
    let m = state_of c.steps.state in
    let open_at : is_ended (state_of c.steps.state) ≡ false = sym c.if-is_ended.ensures in
    let few : c.steps.n < step_limit = omega arith in
    let spent : IsPaid m c.steps.work.left payment.Spent (state_of c.pay_step.new.state) c.pay_step.new.work.left =
    c.in-Spent.ensures in
    let worked =
    comes_to_spent _ m _ c.steps.work.left c.steps.n _ few open_at c.steps.invariant.worked spent.0.0 in
    let told : c.at_limit-in-Spent.result ≡ over_at m = c.at_limit-in-Spent.ensures ∙ ap over_at spent.1 in
    (rw told worked, spent.0.1)

pub returns-then-is_ended : goal.returns-then-is_ended
returns-then-is_ended c =
    let m = state_of c.steps.state in
    let ended : is_ended (state_of c.steps.state) ≡ true = sym c.if-is_ended.ensures in
    record {
      exact = record { few = c.steps.invariant.few; leads = c.steps.invariant.leads; ended = ended };
      work = comes_to_end _ m _ c.steps.work.left c.steps.n ended c.steps.invariant.worked;
      paid = c.steps.invariant.paid;
    }

pub returns-then-n-eq-STEP_LIMIT-clause-work : goal.returns-then-n-eq-STEP_LIMIT-clause-work
returns-then-n-eq-STEP_LIMIT-clause-work c =
    let m = state_of c.steps.state in
    let all : c.steps.n ≡ step_limit = omega arith in
    comes_to_limit _ m _ c.steps.work.left c.steps.n all c.steps.invariant.worked

pub halted-requires : goal.halted-requires
halted-requires c =
    let m = state_of c.steps.state in
    let new = state_of c.match-pay_step.state in
    let left = c.steps.work.left in
    let rest = c.pay_step.new.work.left in
    let paid : IsPaid m left (payment.Stepped c.match-pay_step.outcome) new rest = elim c.match-pay_step.branch [
      | in-Paid w ↦ rw (w.outcome-is, w.state-is)
          (stepped m (state_of c.pay_step.new.state) left rest w.in-Paid.op (state_of w.step_by-outcome.new.self)
          w.step_by-outcome.result w.in-Paid.ensures w.step_by-outcome.ensures)
      | in-Stepped w ↦ rw (w.outcome-is, w.state-is) w.in-Stepped.ensures
    ] in
    is_refusal c.match-pay_step.outcome (step m) m.frame.place new c.in_default.not-Done paid.1

pub returns-in_default : goal.returns-in_default
returns-in_default c =
    let m = state_of c.steps.state in
    let new = state_of c.match-pay_step.state in
    let at = c.steps.state.frame.place in
    let left = c.steps.work.left in
    let rest = c.pay_step.new.work.left in
    let open_at : is_ended (state_of c.steps.state) ≡ false = sym c.if-is_ended.ensures in
    let few : c.steps.n < step_limit = omega arith in
    let paid : IsPaid m left (payment.Stepped c.match-pay_step.outcome) new rest = elim c.match-pay_step.branch [
      | in-Paid w ↦ rw (w.outcome-is, w.state-is)
          (stepped m (state_of c.pay_step.new.state) left rest w.in-Paid.op (state_of w.step_by-outcome.new.self)
          w.step_by-outcome.result w.in-Paid.ensures w.step_by-outcome.ensures)
      | in-Stepped w ↦ rw (w.outcome-is, w.state-is) w.in-Stepped.ensures
    ] in
    record {
      exact =
          halts_by c.match-pay_step.outcome _ m new at c.steps.n few open_at c.steps.invariant.leads paid.1
          c.in_default.not-Done c.halted.result c.halted.ensures;
      work =
          comes_to_refusal c.match-pay_step.outcome _ m new at _ left rest c.steps.n few open_at
          c.steps.invariant.worked paid.0 paid.1 c.in_default.not-Done c.halted.result c.halted.ensures;
      paid = tt;
    }
