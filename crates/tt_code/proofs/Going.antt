-- A skip from an offset that it has reached gives the result of the whole skip.
use Rattle.std.proofs.Common.{◌≡◌, ℕ, zero, suc, ◌+◌, ◌<◌, ◌≤◌, nat_le, true, false, List, length, slice_index, slice_range, Result, Ok, Err, refl, sym, ◌∙◌, arith}
use Rattle.std.proofs.lemmas.Bool.Decides.{nat_tests}
use Rattle.tt_code.specs.declared.decoding.Halt.{Halt}
use Rattle.tt_code.specs.declared.skips.Sought.{Sought}
use Rattle.tt_code.specs.Decoding.{Instr, head_length, data_length, instruction_at}
use Rattle.tt_code.specs.Skips.{ends, depth_after, skip_from}
use Rattle.tt_code.proofs.Passed.{Told}

-- the rest of the skip gives the whole result, and its bound of instructions suffices
pub record GoesOn (sought : Sought) (code : List ℕ) (lost : Halt) (whole : Result ℕ Halt) (place depth : ℕ)
    : Type 0 where
  pub fuel : ℕ
  pub enough : length code ≤ fuel + place
  pub same : skip_from fuel sought code lost place depth ≡ whole

within : (code : List ℕ) (place : ℕ) → place < length code → nat_le (length code) place ≡ false
within code place h = grind (arith, nat_tests)

-- at an instruction whose data passes the end
halted_by : (fuel : ℕ) (sought : Sought) (code : List ℕ) (lost halt : Halt) (whole : Result ℕ Halt) (place depth : ℕ)
    → place < length code → length code ≤ fuel + place → skip_from fuel sought code lost place depth ≡ whole
    → instruction_at code place ≡ Err halt → whole ≡ Err halt
halted_by zero sought code lost halt whole place depth inside enough same short = absurd (omega arith)
halted_by (suc n) sought code lost halt whole place depth inside enough same short =
    let more : nat_le (length code) place ≡ false = within code place inside in
    sym same ∙ rw (more, short) refl

pub halted : {sought : Sought} {code : List ℕ} {lost : Halt} {whole : Result ℕ Halt} {place depth : ℕ} (halt : Halt)
    → place < length code → GoesOn sought code lost whole place depth
    → instruction_at code place ≡ Err halt → whole ≡ Err halt
halted {sought} {code} {lost} {whole} {place} {depth} halt inside on short =
    halted_by on.fuel sought code lost halt whole place depth inside on.enough on.same short

-- at an opcode that ends the skip
ended_by : (fuel : ℕ) (sought : Sought) (code : List ℕ) (lost : Halt) (whole : Result ℕ Halt) (place depth : ℕ)
    (i : Instr) → place < length code → length code ≤ fuel + place
    → skip_from fuel sought code lost place depth ≡ whole
    → instruction_at code place ≡ Ok i → ends sought depth i.op ≡ true → whole ≡ Ok (place + i.len)
ended_by zero sought code lost whole place depth i inside enough same there end = absurd (omega arith)
ended_by (suc n) sought code lost whole place depth i inside enough same there end =
    let more : nat_le (length code) place ≡ false = within code place inside in
    sym same ∙ rw (more, there, end) refl

pub ended : {sought : Sought} {code : List ℕ} {lost : Halt} {whole : Result ℕ Halt} {place depth : ℕ}
    (i : Instr) → place < length code → GoesOn sought code lost whole place depth
    → instruction_at code place ≡ Ok i → ends sought depth i.op ≡ true → whole ≡ Ok (place + i.len)
ended {sought} {code} {lost} {whole} {place} {depth} i inside on there end =
    ended_by on.fuel sought code lost whole place depth i inside on.enough on.same there end

-- at any other instruction
further_by : (fuel : ℕ) (sought : Sought) (code : List ℕ) (lost : Halt) (whole : Result ℕ Halt) (place depth : ℕ)
    (i : Instr) → place < length code → length code ≤ fuel + place
    → skip_from fuel sought code lost place depth ≡ whole
    → instruction_at code place ≡ Ok i → ends sought depth i.op ≡ false → 1 ≤ i.len
    → GoesOn sought code lost whole (place + i.len) (depth_after depth i.op)
further_by zero sought code lost whole place depth i inside enough same there none some = absurd (omega arith)
further_by (suc n) sought code lost whole place depth i inside enough same there none some =
    let more : nat_le (length code) place ≡ false = within code place inside in
    record {
      fuel = n;
      enough = omega arith;
      same = rw (more, there, none) at same;
    }

pub further : {sought : Sought} {code : List ℕ} {lost : Halt} {whole : Result ℕ Halt} {place depth : ℕ}
    (i : Instr) → place < length code → GoesOn sought code lost whole place depth
    → instruction_at code place ≡ Ok i → ends sought depth i.op ≡ false → 1 ≤ i.len
    → GoesOn sought code lost whole (place + i.len) (depth_after depth i.op)
further {sought} {code} {lost} {whole} {place} {depth} i inside on there none some =
    further_by on.fuel sought code lost whole place depth i inside on.enough on.same there none some

-- at an opcode that a skip passes, with n bytes
pub passed : {sought : Sought} {code : List ℕ} {lost : Halt} {whole : Result ℕ Halt} {place depth : ℕ} (n : ℕ)
    → 0 < n → place + n ≤ length code → GoesOn sought code lost whole place depth → Told (slice_index code place) n
    → GoesOn sought code lost whole (place + n) depth
passed {sought} {code} {lost} {whole} {place} {depth} n some within on told =
    let op = slice_index code place in
    let head = head_length op in
    let more = data_length op (slice_index code (place + 1)) in
    let len : head + more ≡ n = told.len (slice_index code (place + 1)) in
    let i : Instr = record { op = op; args = slice_range code (place + head) (place + head + more); len = n } in
    let fits : nat_le (place + (head + more)) (length code) ≡ true = grind (arith, nat_tests) in
    let there : instruction_at code place ≡ Ok i = rw (fits, len) refl in
    rw (told.level depth) at (further i (omega arith) on there (told.inside sought depth) some)
