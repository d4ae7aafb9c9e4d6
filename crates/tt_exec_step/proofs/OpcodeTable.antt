-- The table of opcodes: each entry is what the opcode takes, whether data follows it, and its work.
use Rattle.std.proofs.Common.{◌≡◌, ℕ, zero, suc, ◌+◌, ◌*◌, ◌/◌, ◌%◌, ◌<◌, ◌≤◌, nat_le, ◌==◌, ◌&&◌, Bool, true, false, if◌then◌else◌, not, List, [], ◌∷◌, length, slice_index_or, refl, sym, ◌∙◌, arith}
use Rattle.std.proofs.lemmas.Bool.Decides.{nat_tests}
use Rattle.tt_code.specs.Decoding.{takes_data}
use Rattle.tt_exec_step.specs.FixedWork.{fixed_work, works}
use Rattle.tt_exec_step.specs.Opcodes.{operation_of}
use Rattle.tt_exec_step.specs.Operation.{takes}

abbrev pub entries : List ℕ
entries =
    16 ∷ 16 ∷ 16 ∷ 16 ∷ 16 ∷ 16 ∷ 530 ∷ 530 ∷ 530 ∷ 530 ∷ 530 ∷ 530 ∷ 32 ∷ 32 ∷ 16 ∷ 533 ∷
    33 ∷ 33 ∷ 33 ∷ 33 ∷ 33 ∷ 33 ∷ 33 ∷ 33 ∷ 16 ∷ 16 ∷ 33 ∷ 0 ∷ 33 ∷ 33 ∷ 33 ∷ 33 ∷
    17 ∷ 17 ∷ 16 ∷ 18 ∷ 32 ∷ 33 ∷ 1 ∷ 146 ∷ 32 ∷ 33 ∷ 34 ∷ 33 ∷ 1 ∷ 32 ∷ 81 ∷ 81 ∷
    0 ∷ 0 ∷ 0 ∷ 0 ∷ 1 ∷ 1 ∷ 1 ∷ 1 ∷ 1 ∷ 0 ∷ 82 ∷ 82 ∷ 0 ∷ 32 ∷ 82 ∷ 82 ∷
    8 ∷ 8 ∷ 34 ∷ 33 ∷ 34 ∷ 33 ∷ 49 ∷ 49 ∷ 82 ∷ 66 ∷ 66 ∷ 32 ∷ 32 ∷ 32 ∷ 32 ∷ 33 ∷
    34 ∷ 34 ∷ 34 ∷ 34 ∷ 34 ∷ 34 ∷ 33 ∷ 33 ∷ 1 ∷ 16 ∷ 34 ∷ 34 ∷ 33 ∷ 1 ∷ 33 ∷ 33 ∷
    34 ∷ 18 ∷ 50 ∷ 34 ∷ 33 ∷ 33 ∷ 33 ∷ 33 ∷ 33 ∷ 33 ∷ 33 ∷ 33 ∷ 33 ∷ 33 ∷ 33 ∷ 33 ∷
    34 ∷ 1 ∷ 1 ∷ 1 ∷ 1 ∷ 1 ∷ 33 ∷ 33 ∷ 18 ∷ 34 ∷ 32 ∷ 32 ∷ 32 ∷ 32 ∷ 33 ∷ 33 ∷
    0 ∷ 2 ∷ 2 ∷ 32 ∷ 32 ∷ 33 ∷ 786 ∷ 786 ∷ 33 ∷ 1 ∷ 35 ∷ 34 ∷ 34 ∷ 33 ∷ 34 ∷ 32 ∷
    32 ∷ 0 ∷ 32 ∷ 32 ∷ 32 ∷ 32 ∷ 32 ∷ 32 ∷ 32 ∷ 32 ∷ 32 ∷ 32 ∷ 32 ∷ 32 ∷ 32 ∷ 32 ∷
    32 ∷ 32 ∷ 32 ∷ 32 ∷ 32 ∷ 32 ∷ 32 ∷ 32 ∷ 32 ∷ 32 ∷ 32 ∷ 32 ∷ 32 ∷ 32 ∷ 32 ∷ 32 ∷
    24 ∷ 40 ∷ 56 ∷ 72 ∷ 88 ∷ 104 ∷ 120 ∷ 136 ∷ 24 ∷ 40 ∷ 56 ∷ 72 ∷ 88 ∷ 104 ∷ 120 ∷ 136 ∷
    129 ∷ 129 ∷ 129 ∷ 129 ∷ 129 ∷ 129 ∷ 129 ∷ 129 ∷ 129 ∷ 129 ∷ 129 ∷ 129 ∷ 129 ∷ 129 ∷ 129 ∷ 129 ∷
    129 ∷ 129 ∷ 129 ∷ 129 ∷ 129 ∷ 129 ∷ 129 ∷ 129 ∷ 129 ∷ 129 ∷ 129 ∷ 129 ∷ 129 ∷ 129 ∷ 129 ∷ 129 ∷
    82 ∷ 82 ∷ 82 ∷ 82 ∷ 82 ∷ 82 ∷ 82 ∷ 82 ∷ 82 ∷ 82 ∷ 82 ∷ 82 ∷ 82 ∷ 82 ∷ 82 ∷ 82 ∷
    82 ∷ 82 ∷ 82 ∷ 82 ∷ 82 ∷ 82 ∷ 82 ∷ 82 ∷ 82 ∷ 82 ∷ 82 ∷ 82 ∷ 82 ∷ 82 ∷ 82 ∷ 82 ∷ []

-- a test passes for every entry of a table, from an opcode on
abbrev all_pass : (ℕ → ℕ → Bool) → ℕ → List ℕ → Bool
all_pass test op [] = true
all_pass test op (e ∷ es) = test op e && all_pass test (suc op) es

first_of : (a b : Bool) → (a && b) ≡ true → a ≡ true
first_of true b h = refl
first_of false b h = h

second_of : (a b : Bool) → (a && b) ≡ true → b ≡ true
second_of true b h = h
second_of false b h = absurd cc

passes : (test : ℕ → ℕ → Bool) (table : List ℕ) (from i op d : ℕ) → all_pass test from table ≡ true → i < length table
    → op ≡ from + i → test op (slice_index_or table i d) ≡ true
passes test [] from i op d all within is = absurd (omega arith)
passes test (e ∷ es) from zero op d all within is =
    let same : op ≡ from = omega arith in
    rw same (first_of (test from e) (all_pass test (suc from) es) all)
passes test (e ∷ es) from (suc i) op d all within is =
    passes test es (suc from) i op d (second_of (test from e) (all_pass test (suc from) es) all) (omega arith) (omega arith)

same_number : (a b : ℕ) → (a == b) ≡ true → a ≡ b
same_number a b h = grind (arith, nat_tests)

-- the values that an opcode takes at once

abbrev takes_it : ℕ → ℕ → Bool
takes_it op e = e % 8 == takes (operation_of op)

all_take : all_pass takes_it 0 entries ≡ true
all_take = refl

abbrev takes_few : ℕ → ℕ → Bool
takes_few op e = nat_le (e % 8) 5

few_taken : all_pass takes_few 0 entries ≡ true
few_taken = refl

few_by : (a : ℕ) → nat_le a 5 ≡ true → a ≤ 5
few_by a h = grind (arith, nat_tests)

pub taken : (op d : ℕ) → op < 256 → slice_index_or entries op d % 8 ≡ takes (operation_of op)
taken op d few =
    same_number (slice_index_or entries op d % 8) (takes (operation_of op))
    (passes takes_it entries 0 op op d all_take (omega arith) (omega arith))

pub few : (op d : ℕ) → op < 256 → slice_index_or entries op d % 8 ≤ 5
few op d within =
    few_by (slice_index_or entries op d % 8) (passes takes_few entries 0 op op d few_taken (omega arith) (omega arith))

-- whether data follows an opcode

abbrev has_it : ℕ → ℕ → Bool
has_it op e = if takes_data op then e / 8 % 2 == 1 else not (e / 8 % 2 == 1)

all_have : all_pass has_it 0 entries ≡ true
all_have = refl

as_told : (a b : Bool) → (if a then b else not b) ≡ true → b ≡ a
as_told true true h = refl
as_told true false h = absurd cc
as_told false true h = absurd cc
as_told false false h = refl

pub data_told : (op d : ℕ) → op < 256 → (slice_index_or entries op d / 8 % 2 == 1) ≡ takes_data op
data_told op d few =
    as_told (takes_data op) (slice_index_or entries op d / 8 % 2 == 1)
    (passes has_it entries 0 op op d all_have (omega arith) (omega arith))

-- the work of an opcode

abbrev works_it : ℕ → ℕ → Bool
works_it op e = e / 16 == fixed_work op

all_work : all_pass works_it 0 entries ≡ true
unfolding works
all_work = refl

pub worked : (op d : ℕ) → op < 256 → slice_index_or entries op d / 16 ≡ fixed_work op
worked op d few =
    same_number (slice_index_or entries op d / 16) (fixed_work op)
    (passes works_it entries 0 op op d all_work (omega arith) (omega arith))
