-- Steps that lead on, states without a step, and steps at opcodes without data.
use Rattle.std.proofs.Common.{◌≡◌, ℕ, ◌+◌, ◌-◌, ◌<◌, ◌≤◌, add-one, ◌⊎◌, Bool, true, false, if◌then◌else◌, ◌==◌, ◌||◌, ◌&&◌, nat_le, nat_lt, List, [], ◌∷◌, length, slice_index, slice_range, ℤ, Result, Ok, refl, arith}
use Rattle.std.proofs.lemmas.Bool.Decides.{nat_tests}
use Rattle.tt_core.specs.Faults.{Fault}
use Rattle.tt_exec_step.specs.MachineState.{MachineState}
use Rattle.tt_exec_step.specs.Runs.{Leads, IsStuck, IsOver}
use Rattle.tt_code.specs.Decoding.{Instr, head_length, data_length, takes_data, taken, instruction_at}
use Rattle.tt_exec_stack.specs.Stack.{padded}
use Rattle.tt_exec_step.specs.Flow.{goes_to, skips_if}
use Rattle.tt_exec_step.specs.Opcodes.{operation_of}
use Rattle.tt_exec_step.specs.Outcome.{ComesTo}
use Rattle.tt_exec_step.specs.Operation as op
use Rattle.tt_exec_step.specs.Step.{step, is_ended, filled, operate, push}
use Rattle.tt_exec_step.specs.declared.outcome.Outcome.{Outcome}
use Rattle.tt_state.specs.Tolerance.{is_tolerant}

pub one_more : (n : ℕ) (s m t : MachineState) → Leads n s m → step m ≡ Ok t → Leads (n + 1) s t
one_more n s m t leads made = rw add-one (m, leads, made)

abbrev pub HasStep : MachineState → Type 0
HasStep t = (v : MachineState) × (step t ≡ Ok v)

-- the program's end has no step
at_end : (t : MachineState) → is_ended t ≡ true → nat_le (length t.frame.code.bytes) t.frame.place ≡ true
at_end t ended = grind (arith, nat_tests)

pub end_has_none : (t : MachineState) → is_ended t ≡ true → HasStep t → ⊥
end_has_none t ended (v, made) = let past = at_end t ended in let none = rw past at made in cc

-- the reason why a run halts after n steps
abbrev pub Stops : ℕ → MachineState → Fault → Type 0
Stops n t fault = IsStuck n t fault ⊎ IsOver n t fault

-- an opcode without data

within : (code : List ℕ) (at : ℕ) → at < length code → nat_le (length code) at ≡ false
within code at h = grind (arith, nat_tests)

neither_first : (a b : Bool) → (a || b) ≡ false → a ≡ false
neither_first true b h = absurd cc
neither_first false b h = refl

neither_second : (a b : Bool) → (a || b) ≡ false → b ≡ false
neither_second true b h = absurd cc
neither_second false b h = h

narrower : (op from to past : ℕ) → to ≤ past → (nat_le from op && nat_le op past) ≡ false → (nat_le from op && nat_le op to) ≡ false
narrower op from to past h none = grind (arith, nat_tests)

later : (op from past more : ℕ) → from ≤ more → (nat_le from op && nat_le op past) ≡ false → (nat_le more op && nat_le op past) ≡ false
later op from past more h none = grind (arith, nat_tests)

takes_none : (xs : List ℕ) (a b : ℕ) → b ≡ a → slice_range xs a b ≡ []
takes_none xs a b same =
    let none : b - a ≡ 0 = omega arith in
    rw none refl

plain_by : (code : List ℕ) (at op count : ℕ) → at < length code → op ≡ slice_index code at → (op == 0x40) ≡ false → (op == 0x41) ≡ false
    → (nat_le 0xB0 op && nat_le op 0xB7) ≡ false → (nat_le 0xB8 op && nat_le op 0xBF) ≡ false
    → taken code at (head_length op) (data_length op count) ≡ Ok (record { op = op; args = []; len = 1 })
plain_by code at op count inside is byte_count word_count bytes words =
    let fits : nat_le (at + (1 + 0)) (length code) ≡ true = grind (arith, nat_tests) in
    let none : slice_range code (at + 1) (at + 1 + 0) ≡ [] = takes_none code (at + 1) (at + 1 + 0) (omega arith) in
    rw (byte_count, word_count, bytes, words) (rw (none, fits, is) refl)

pub plain : (code : List ℕ) (at : ℕ) → at < length code → takes_data (slice_index code at) ≡ false
    → instruction_at code at ≡ Ok (record { op = slice_index code at; args = []; len = 1 })
plain code at inside no_data =
    let op = slice_index code at in
    let either = op == 0x40 || op == 0x41 in
    let pushes = nat_le 0xB0 op && nat_le op 0xBF in
    let counted = neither_first either pushes no_data in
    let pushed = neither_second either pushes no_data in
    plain_by code at op (slice_index code (at + 1)) inside refl
    (neither_first (op == 0x40) (op == 0x41) counted) (neither_second (op == 0x40) (op == 0x41) counted)
    (narrower op 0xB0 0xB7 0xBF (omega arith) pushed) (later op 0xB0 0xBF 0xB8 (omega arith) pushed)

-- the step at an opcode without data
pub plain_step : (m : MachineState) (op at : ℕ) → m.frame.place ≡ at → at < length m.frame.code.bytes
    → slice_index m.frame.code.bytes at ≡ op → takes_data op ≡ false
    → step m ≡ operate (operation_of op) at (filled (operation_of op) (goes_to (at + 1) m))
plain_step m op at place inside is no_data =
    let code = m.frame.code.bytes in
    let open_at = within code at inside in
    let none : takes_data (slice_index code at) ≡ false = rw is no_data in
    let there = plain code at inside none in
    rw place (rw (open_at, there, none) (rw is refl))

-- the step at an opcode with data
pub data_step : (m : MachineState) (at : ℕ) (i : Instr) → m.frame.place ≡ at → at < length m.frame.code.bytes
    → instruction_at m.frame.code.bytes at ≡ Ok i → takes_data i.op ≡ true
    → step m ≡ push i.op i.args at (goes_to (at + i.len) m)
data_step m at i place inside there carries =
    let open_at = within m.frame.code.bytes at inside in
    rw place (rw (open_at, there, carries) refl)

-- an outcome of a step, by its place and by what the step is
pub comes_to : (old given : Result MachineState Fault) (place at : ℕ) (new : MachineState) (o : Outcome) → place ≡ at
    → old ≡ given → ComesTo given at new o → ComesTo old place new o
comes_to old given place at new o here same comes = rw (here, same) comes

-- an IF that skips does so with the values that it takes, too

enough_stays : (n : ℕ) (s : List ℤ) → nat_lt (length s) n ≡ false → padded n s ≡ s
enough_stays n s enough = rw enough refl

skips_padded : (s : List ℤ) → skips_if s ≡ true → skips_if (padded 1 s) ≡ true
skips_padded [] h = refl
skips_padded (v ∷ s) h =
    let enough : nat_lt (length (v ∷ s)) 1 ≡ false = grind (arith, nat_tests) in
    rw (enough_stays 1 (v ∷ s) enough) h

filled_by : (b : Bool) (m : MachineState) → skips_if m.stack ≡ true
    → skips_if (if b then record m { stack = padded 1 m.stack } else m).stack ≡ true
filled_by true m h = skips_padded m.stack h
filled_by false m h = h

pub skips_filled : (m : MachineState) → skips_if m.stack ≡ true → skips_if (filled op.if_from m).stack ≡ true
skips_filled m h = filled_by (is_tolerant m.tolerance) m h
