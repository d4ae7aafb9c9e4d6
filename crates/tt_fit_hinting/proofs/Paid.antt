-- The work of a glyph's program: its copies are paid for, and then its steps.
use Rattle.std.proofs.Common.{◌≡◌, ◌∙◌, ap, ℕ, ◌+◌, Option, Some, IfSome, Ok, Err, refl, arith}
use Rattle.tt_core.specs.Faults.{Fault}
use Rattle.tt_core.specs.Limits.{step_limit}
use Rattle.tt_core.specs.declared.fault.Why.TheVariants as why
use Rattle.tt_exec.proofs.WorkPaid.{run_begun, run_spent}
use Rattle.tt_exec.specs.Machines.{Machine, begun_again, fresh, run_from}
use Rattle.tt_exec.specs.step.MachineState.{Code, MachineState}
use Rattle.tt_exec.specs.Parts.{Parts}
use Rattle.tt_exec.specs.Worked.{OutcomeWithin, WorkIs}
use Rattle.tt_exec.specs.declared.work.WorkFault.{WorkFault}
use Rattle.tt_exec.specs.step.Runs.{run_outcome}
use Rattle.tt_fit_hinting.specs.declared.outline_fault.OutlineFault.{OutlineFault}
use Rattle.tt_fit_hinting.specs.declared.outline_fault.OutlineFault.TheVariants as outline
use Rattle.tt_fit_hinting.specs.Hinting.{by_program, run_of}
use Rattle.tt_exec.specs.Work.{Worked, enough, spent, charged, copied_of, over_at, work_within}
use Rattle.tt_fit_hinting.specs.GlyphZone.{GlyphProgram, program_in_glyf, on_grid_at}
use Rattle.tt_fit_outline.specs.Outline.{Outline, PhantomPoints}
use Rattle.tt_fit_hinting.specs.Parts.{parts_with}
use Rattle.tt_fit_outline.specs.Scaling.{glyf_fault}
use Rattle.tt_fit_hinting.specs.Work.{RefusalLeaves, program_work, outline_fault, work_fault}

-- the state in which a glyph's program begins
abbrev pub begins : Parts → GlyphProgram → Outline → PhantomPoints → MachineState
begins parts p o grid = run_from (program_in_glyf p) (fresh (parts_with parts p.units o grid))

same-place : (p : GlyphProgram) → glyf_fault (p.code_at + 0) why.StepLimit ≡ glyf_fault p.code_at why.StepLimit
same-place p = let none : p.code_at + 0 ≡ p.code_at = omega arith in ap (λ at. glyf_fault at why.StepLimit) none

pub copies-spent : (parts : Parts) (p : GlyphProgram) (o : Outline) (grid : PhantomPoints) (left : Option ℕ)
    (told : Fault) → on_grid_at p.grid p.glyph_at o.phantom ≡ Ok grid
    → ((fault : Fault) → charged fault (copied_of parts) left ≡ spent fault) → told ≡ glyf_fault p.code_at why.StepLimit
    → program_work parts p o left ≡ spent told
unfolding program_work
copies-spent parts p o grid left told on pays is =
    let m = begins parts p o grid in
    rw (on, is) (run_spent m left (over_at m) (pays (over_at m)) ∙ ap spent (same-place p))

-- on a machine into which the glyph was put
pub copies-paid : (parts : Parts) (p : GlyphProgram) (o : Outline) (grid : PhantomPoints) (left rest : Option ℕ)
    (code : Code) (machine : Machine) → on_grid_at p.grid p.glyph_at o.phantom ≡ Ok grid
    → ((fault : Fault) → charged fault (copied_of parts) left ≡ enough rest) → code ≡ program_in_glyf p
    → machine ≡ begun_again (parts_with parts p.units o grid)
    → program_work parts p o left ≡ work_within step_limit (run_from code machine.state) rest
unfolding program_work
copies-paid parts p o grid left rest code machine on pays is put =
    let m = begins parts p o grid in rw (on, is, put) (run_begun m left rest (pays (over_at m)))

-- a run's refusal is the glyph's
pub program-refused : (parts : Parts) (p : GlyphProgram) (o : Outline) (grid : PhantomPoints) (code : Code)
    (machine new : Machine) (fault : WorkFault) (refusal : OutlineFault) → on_grid_at p.grid p.glyph_at o.phantom ≡ Ok grid
    → code ≡ program_in_glyf p → machine ≡ begun_again (parts_with parts p.units o grid)
    → fault ≡ work_fault refusal → OutcomeWithin (run_outcome (run_from code machine.state)) (Err fault) new
    → IfSome (outline_fault refusal) (λ f. by_program parts p o ≡ Err f)
unfolding by_program run_of
program-refused parts p o grid code machine new fault (outline.Font f) on is put same fails =
    let told : run_outcome (begins parts p o grid) ≡ Err f = rw (same, is, put) at fails in
    rw (on, told) refl
program-refused parts p o grid code machine new fault outline.Memory on is put same fails = tt
program-refused parts p o grid code machine new fault (outline.Spent f) on is put same fails = tt

pub refusal-leaves : (worked : Option ℕ → Worked) (old new : Option ℕ) (fault : WorkFault) (refusal : OutlineFault)
    → fault ≡ work_fault refusal → WorkIs worked old (Err fault) new → RefusalLeaves refusal new (worked old)
refusal-leaves worked old new fault (outline.Font f) same is = rw same at is
refusal-leaves worked old new fault outline.Memory same is = tt
refusal-leaves worked old new fault (outline.Spent f) same is =
    let over : (worked old ≡ spent f) × (new ≡ Some 0) = rw same at is in over.0
