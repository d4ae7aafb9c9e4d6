-- No part of the standard: the whole instruction set and runs. A run that ends without it ends in the same way with it.
-- One that halts has the same fault, unless that is a refusal of the profile.
use Rattle.std.specs.Prelude.{◌≡◌, false, Result, Ok, Err}
use Rattle.tt_core.specs.Faults.{Fault}
use Rattle.tt_exec_points.specs.zones.WithAll.{with_all, is_of_profile}
use Rattle.tt_exec_step.specs.MachineState.{MachineState}
use Rattle.tt_exec_step.specs.Runs.{run_outcome}

-- a machine with the whole instruction set
abbrev pub with_all_in : MachineState → MachineState
with_all_in m = record m { graphics = with_all m.graphics }

-- the outcomes of a run without the whole instruction set, and with it
abbrev pub RunStays : Result MachineState Fault → Result MachineState Fault → Type 0
RunStays (Ok t) with = with ≡ Ok (with_all_in t)
RunStays (Err fault) with = is_of_profile fault.why ≡ false → with ≡ Err fault

abbrev pub RunsStay : Type 0
RunsStay = (s : MachineState) → RunStays (run_outcome s) (run_outcome (with_all_in s))
