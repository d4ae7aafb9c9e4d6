-- No part of the standard: the work of a glyph's program, where the work of a job is bounded (profile). Each definition
-- corresponds to that of the same outline.
use Rattle.std.specs.Prelude.{◌≡◌, ℕ, if◌then◌else◌, Option, Some, None, Result, Ok, Err}
use Rattle.tt_core.specs.Faults.{Fault}
use Rattle.tt_core.specs.Outcomes.{GivesUnless}
use Rattle.tt_core.specs.declared.font_fault.FontFault.{FontFault}
use Rattle.tt_core.specs.declared.font_fault.FontFault.TheVariants as font
use Rattle.tt_exec.specs.declared.fault.ExecFault.TheVariants as exec
use Rattle.tt_exec.specs.declared.work.WorkFault.{WorkFault}
use Rattle.tt_exec.specs.declared.work.WorkFault.TheVariants as work
use Rattle.tt_exec.specs.Machines.{fresh, run_from}
use Rattle.tt_exec.specs.step.MachineState.{Code}
use Rattle.tt_exec.specs.Parts.{Parts}
use Rattle.tt_exec.specs.Work.{Worked, enough, spent, run_work}
use Rattle.tt_fit_hinting.specs.declared.outline_fault.OutlineFault.{OutlineFault}
use Rattle.tt_fit_hinting.specs.declared.outline_fault.OutlineFault.TheVariants as outline
use Rattle.tt_fit_hinting.specs.GlyphZone.{GlyphProgram, program_in_glyf, on_grid_at}
use Rattle.tt_fit_hinting.specs.Hinting.{Hinting, off, ready, is_run}
use Rattle.tt_fit_outline.specs.Outline.{Outline}
use Rattle.tt_fit_hinting.specs.Parts.{parts_with}

-- the work of a value, where it was made; after a fault there is none
abbrev pub if_ok : {X : Type 0} → Result X Fault → (X → Option ℕ → Worked) → Option ℕ → Worked
if_ok (Ok x) more left = more x left
if_ok (Err fault) more left = enough left

-- the work of a program by the parts of a machine
abbrev pub code_work : Code → Parts → Option ℕ → Worked
code_work program parts left = run_work (run_from program (fresh parts)) left

-- the work of a glyph's program
unfoldable pub program_work : Parts → GlyphProgram → Outline → Option ℕ → Worked
program_work parts p o left = if_ok (on_grid_at p.grid p.glyph_at o.phantom)
    (λ grid. code_work (program_in_glyf p) (parts_with parts p.units o grid)) left

abbrev pub hinted_work : Hinting → GlyphProgram → Outline → Option ℕ → Worked
hinted_work off p o left = enough left
hinted_work (ready parts) p o left = if is_run p then program_work parts p o left else enough left

-- a refusal of a call whose work is not counted
abbrev pub outline_fault_of : FontFault → OutlineFault
outline_fault_of (font.Font fault) = outline.Font fault
outline_fault_of font.Memory = outline.Memory

-- the refusal as a machine reports it
abbrev pub work_fault : OutlineFault → WorkFault
work_fault (outline.Font fault) = work.Run (exec.Font fault)
work_fault outline.Memory = work.Run exec.Memory
work_fault (outline.Spent fault) = work.Spent fault

-- the refusal is not for exceeded work
abbrev pub IsUnbounded : OutlineFault → Type 0
IsUnbounded (outline.Font fault) = Unit {0}
IsUnbounded outline.Memory = Unit {0}
IsUnbounded (outline.Spent fault) = ⊥

-- the defect in a refusal: none where memory ran out or work was exceeded
abbrev pub outline_fault : OutlineFault → Option Fault
outline_fault (outline.Font fault) = Some fault
outline_fault outline.Memory = None
outline_fault (outline.Spent fault) = None

-- a call gives what the definition gives, unless memory ran out or its work is exceeded
abbrev pub Makes : {X Y : Type 0} → (X → Y) → Result X OutlineFault → Result Y Fault → Type 0
Makes view result wanted = GivesUnless outline_fault view result wanted

-- the job's remaining work after a refusal: by the work; or the work was exceeded. Nothing is claimed where memory ran
-- out.
abbrev pub RefusalLeaves : OutlineFault → Option ℕ → Worked → Type 0
RefusalLeaves (outline.Font fault) new worked = worked ≡ enough new
RefusalLeaves outline.Memory new worked = Unit {0}
RefusalLeaves (outline.Spent fault) new worked = worked ≡ spent fault

-- the job's remaining work after a call
abbrev pub WorkGives : {X : Type 0} → Result X OutlineFault → Option ℕ → Worked → Type 0
WorkGives (Ok x) new worked = worked ≡ enough new
WorkGives (Err refusal) new worked = RefusalLeaves refusal new worked
