-- Worked programs: the stack after a count of steps, the top first, or the fault. Apple TrueType Reference Manual,
-- "Instruction set".
use Rattle.std.specs.Prelude.{◌≡◌, ℕ, zero, suc, ℤ, pos, negsuc, true, false, List, [], ◌∷◌, codes, Some, Result, Ok, Err, refl}
use Rattle.tt_core.specs.Scales.{exact_scale}
use Rattle.tt_core.specs.declared.halves.Halves.TheVariants as halves
use Rattle.tt_exec_step.specs.zones.Zones.{in_pixels}
use Rattle.tt_core.specs.Faults.{Fault, fault_at}
use Rattle.tt_core.specs.Outcomes.{◌>>=◌}
use Rattle.tt_core.specs.declared.fault.Why.TheVariants as why
use Rattle.tt_state.specs.GraphicsState.{default_of, default_state}
use Rattle.tt_state.specs.declared.tolerance.Tolerance.TheVariants as tolerance
use Rattle.tt_exec_step.specs.stack.Stack.{pushed}
use Rattle.tt_exec.specs.Machines.{fresh, run_from}
use Rattle.tt_exec_step.specs.MachineState.{MachineState}
use Rattle.tt_exec.specs.Parts.{Parts}
use Rattle.tt_exec_step.specs.Runs.{run_within}
use Rattle.tt_exec_step.specs.Step.{step}
use Rattle.tt_exec.specs.Work.{enough, spent, copied_of, slowness, work_within, run_work}

-- the state after a count of steps
abbrev after : ℕ → MachineState → Result MachineState Fault
after zero m = Ok m
after (suc n) m = step m >>= λ t. after n t

its_parts : Parts
its_parts = record {
  scale = exact_scale 16 1024;
  ppem = 16;
  cvt = [];
  storage = pos 0 ∷ [];
  zones = record { twilight = []; glyph = []; contours = []; originals = in_pixels halves.Up };
  functions = [];
  instructions = [];
  state = default_state;
  instance = [];
  tolerance = tolerance.Strict;
  skip_glyphs = false;
  default_state = false;
}

-- steps of a font program, followed by steps of a control value program
abbrev stack_after : ℕ → List ℕ → ℕ → List ℕ → Result (List ℤ) Fault
stack_after n font m control =
    after n (run_from (record { table = codes "fpgm"; base = 0; bytes = font }) (fresh its_parts)) >>= λ s.
    after m (run_from (record { table = codes "prep"; base = 40; bytes = control }) s) >>= λ t. Ok t.stack

-- PUSHB 2, 3; SUB
two_less_three : stack_after 0 [] 2 (0xB1 ∷ 2 ∷ 3 ∷ 0x61 ∷ []) ≡ Ok (negsuc 0 ∷ [])
unfolding its_parts pushed
two_less_three = refl

-- PUSHB 0; IF; ELSE; PUSHB 5; EIF: the skip is no step
else_part : stack_after 0 [] 4 (0xB0 ∷ 0 ∷ 0x58 ∷ 0x1B ∷ 0xB0 ∷ 5 ∷ 0x59 ∷ []) ≡ Ok (pos 5 ∷ [])
unfolding its_parts pushed
else_part = refl

-- PUSHB 2; JMPR: the program has 3 bytes, and place 4 is outside it
past_the_end : stack_after 0 [] 2 (0xB0 ∷ 2 ∷ 0x1C ∷ []) ≡ Err (fault_at (codes "prep") 42 why.JumpRange)
unfolding its_parts pushed
past_the_end = refl

-- function 7 adds 1, and is called three times on 0
called_three_times : stack_after 2 (0xB0 ∷ 7 ∷ 0x2C ∷ 0xB0 ∷ 1 ∷ 0x60 ∷ 0x2D ∷ []) 11 (0xB2 ∷ 0 ∷ 3 ∷ 7 ∷ 0x2A ∷ [])
    ≡ Ok (pos 3 ∷ [])
unfolding its_parts pushed
called_three_times = refl

-- a fault in a function names the font program that defined it
in_its_own_table : stack_after 2 (0xB0 ∷ 0 ∷ 0x2C ∷ 0x06 ∷ 0x2D ∷ []) 3 (0xB0 ∷ 0 ∷ 0x2B ∷ [])
    ≡ Err (fault_at (codes "fpgm") 3 why.OffProfile)
unfolding its_parts pushed
in_its_own_table = refl

-- a count of 0 calls nothing, but the function has to exist
never_called : stack_after 0 [] 2 (0xB1 ∷ 0 ∷ 7 ∷ 0x2A ∷ []) ≡ Err (fault_at (codes "prep") 43 why.NoFunction)
unfolding its_parts pushed
never_called = refl

-- the first program's steps, and then the second's, at an instance on two axes: a half and -0.8
abbrev stack_at : ℕ → List ℕ → ℕ → List ℕ → Result (List ℤ) Fault
stack_at n font m control =
    let parts = record its_parts { instance = pos 8192 ∷ negsuc 13107 ∷ []; state = default_of true } in
    after n (run_from (record { table = codes "fpgm"; base = 0; bytes = font }) (fresh parts)) >>= λ s.
    after m (run_from (record { table = codes "prep"; base = 40; bytes = control }) s) >>= λ t. Ok t.stack

-- GETVARIATION, GETDATA: the first axis' place is pushed first
axes_pushed : stack_at 0 [] 2 (0x91 ∷ 0x92 ∷ []) ≡ Ok (pos 17 ∷ negsuc 13107 ∷ pos 8192 ∷ [])
unfolding its_parts pushed
axes_pushed = refl

-- PUSHB 9; GETINFO
version_and_instance : stack_at 0 [] 2 (0xB0 ∷ 9 ∷ 0x88 ∷ []) ≡ Ok (pos 1059 ∷ [])
unfolding its_parts pushed
version_and_instance = refl

-- PUSHB 0x91; IDEF; POP; ENDF: passed over at an instance, and GETVARIATION afterwards
name_kept : stack_at 2 (0xB0 ∷ 0x91 ∷ 0x89 ∷ 0x21 ∷ 0x2D ∷ []) 1 (0x91 ∷ []) ≡ Ok (negsuc 13107 ∷ pos 8192 ∷ [])
unfolding its_parts pushed
name_kept = refl

-- no name without an instance
no_name : stack_after 0 [] 1 (0x91 ∷ []) ≡ Err (fault_at (codes "prep") 40 why.BadOpcode)
unfolding its_parts pushed
no_name = refl

-- the stack at a program's end, with a limit of steps
abbrev stack_within : ℕ → List ℕ → Result (List ℤ) Fault
stack_within n bytes =
    run_within n (run_from (record { table = codes "prep"; base = 40; bytes = bytes }) (fresh its_parts)) >>= λ t.
    Ok t.stack

-- PUSHB 2, 3; SUB
two_steps_of_two : stack_within 2 (0xB1 ∷ 2 ∷ 3 ∷ 0x61 ∷ []) ≡ Ok (negsuc 0 ∷ [])
unfolding its_parts pushed run_within
two_steps_of_two = refl

one_step_of_two : stack_within 1 (0xB1 ∷ 2 ∷ 3 ∷ 0x61 ∷ []) ≡ Err (fault_at (codes "prep") 43 why.StepLimit)
unfolding its_parts pushed run_within
one_step_of_two = refl

-- a control value program at its beginning
abbrev begun_with : List ℕ → MachineState
begun_with bytes = run_from (record { table = codes "prep"; base = 40; bytes = bytes }) (fresh its_parts)

-- PUSHB 2, 3; SUB; POP: three steps, and the second entry pushed
three_paid : work_within 3 (begun_with (0xB1 ∷ 2 ∷ 3 ∷ 0x61 ∷ 0x21 ∷ [])) (Some 4) ≡ enough (Some 0)
unfolding its_parts pushed work_within slowness
three_paid = refl

two_of_three_paid : work_within 3 (begun_with (0xB1 ∷ 2 ∷ 3 ∷ 0x61 ∷ 0x21 ∷ [])) (Some 3)
    ≡ spent (fault_at (codes "prep") 44 why.StepLimit)
unfolding its_parts pushed work_within slowness
two_of_three_paid = refl

-- PUSHB 0; IF; ELSE; PUSHB 5; EIF: four steps, of which IF is 2, and the ELSE that IF skips
skip_paid : work_within 4 (begun_with (0xB0 ∷ 0 ∷ 0x58 ∷ 0x1B ∷ 0xB0 ∷ 5 ∷ 0x59 ∷ [])) (Some 7) ≡ enough (Some 1)
unfolding its_parts pushed work_within slowness
skip_paid = refl

-- PUSHB 9; POP; JMPR, which is refused: its step, of 2, is paid for
refusal_paid : work_within 3 (begun_with (0xB0 ∷ 9 ∷ 0x21 ∷ 0x1C ∷ [])) (Some 7) ≡ enough (Some 3)
unfolding its_parts pushed work_within slowness
refusal_paid = refl

-- one place of the storage area was copied for the run
copy_not_paid : run_work (begun_with []) (Some 0) ≡ spent (fault_at (codes "prep") 40 why.StepLimit)
unfolding its_parts run_work
copy_not_paid = refl

-- that place, and two control values
three_copies : copied_of (record its_parts { cvt = pos 0 ∷ negsuc 0 ∷ [] }) ≡ 3
unfolding its_parts
three_copies = refl
