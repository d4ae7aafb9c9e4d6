-- The cost of a glyph's program is one number, whatever remains of the job's work.
use Rattle.std.proofs.Common.{ℕ, Bool, true, false, if◌then◌else◌, Option, Result, Ok, Err}
use Rattle.tt_core.specs.Faults.{Fault}
use Rattle.tt_exec.proofs.RunCosts.{free, is_cost, of_run}
use Rattle.tt_exec.specs.Machines.{fresh, run_from}
use Rattle.tt_exec.specs.Parts.{Parts}
use Rattle.tt_exec.specs.RunCost.{HasCost}
use Rattle.tt_exec.specs.Work.{Worked, enough}
use Rattle.tt_exec.specs.step.MachineState.{Code}
use Rattle.tt_fit_hinting.specs.GlyphZone.{GlyphProgram, program_in_glyf, on_grid_at}
use Rattle.tt_fit_hinting.specs.Hinting.{Hinting, off, ready, is_run}
use Rattle.tt_fit_outline.specs.Outline.{Outline}
use Rattle.tt_fit_hinting.specs.Parts.{parts_with}
use Rattle.tt_fit_hinting.specs.Work.{if_ok, code_work, program_work, hinted_work}
use Rattle.tt_fit_hinting.specs.WorkLaws.{ProgramsHaveCosts}

pub after-ok : {X : Type 0} (x : Result X Fault) (more : X → Option ℕ → Worked) → ((y : X) → HasCost (more y))
    → HasCost (if_ok x more)
after-ok (Ok y) more each = each y
after-ok (Err f) more each = free

pub where-run : (is : Bool) (worked : Option ℕ → Worked) → HasCost worked
    → HasCost (λ left. if is then worked left else enough left)
where-run true worked each = each
where-run false worked each = free

pub of-code : (program : Code) (parts : Parts) → HasCost (code_work program parts)
of-code program parts = of_run (run_from program (fresh parts))

of-program : (parts : Parts) (p : GlyphProgram) (o : Outline) → HasCost (program_work parts p o)
unfolding program_work
of-program parts p o =
    after-ok (on_grid_at p.grid p.glyph_at o.phantom) (λ grid. code_work (program_in_glyf p) (parts_with parts p.units o grid))
    (λ grid. of-code (program_in_glyf p) (parts_with parts p.units o grid))

pub of-hinted : (hinting : Hinting) (p : GlyphProgram) (o : Outline) → HasCost (hinted_work hinting p o)
of-hinted off p o = free
of-hinted (ready parts) p o = where-run (is_run p) (program_work parts p o) (of-program parts p o)

pub programs-have-costs : ProgramsHaveCosts
programs-have-costs hinting p o = (_, is_cost (hinted_work hinting p o) (of-hinted hinting p o))
