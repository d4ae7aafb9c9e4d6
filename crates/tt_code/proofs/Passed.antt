-- The table of bytes that a skip passes at an opcode.
use Rattle.std.proofs.Common.{◌≡◌, ℕ, zero, suc, ◌+◌, ◌<◌, ◌==◌, ◌||◌, ◌&&◌, Bool, true, false, not, List, [], ◌∷◌, length, slice_index_or, refl, sym, arith}
use Rattle.std.proofs.lemmas.Bool.Decides.{nat_tests}
use Rattle.tt_code.specs.declared.skips.Sought.{Sought}
use Rattle.tt_code.specs.declared.skips.Sought.TheVariants as sought
use Rattle.tt_code.specs.Decoding.{head_length, data_length}
use Rattle.tt_code.specs.Skips.{ends, depth_after}

abbrev pub passed : List ℕ
passed =
    1 ∷ 1 ∷ 1 ∷ 1 ∷ 1 ∷ 1 ∷ 1 ∷ 1 ∷ 1 ∷ 1 ∷ 1 ∷ 1 ∷ 1 ∷ 1 ∷ 1 ∷ 1 ∷
    1 ∷ 1 ∷ 1 ∷ 1 ∷ 1 ∷ 1 ∷ 1 ∷ 1 ∷ 1 ∷ 1 ∷ 1 ∷ 0 ∷ 1 ∷ 1 ∷ 1 ∷ 1 ∷
    1 ∷ 1 ∷ 1 ∷ 1 ∷ 1 ∷ 1 ∷ 1 ∷ 1 ∷ 1 ∷ 1 ∷ 1 ∷ 1 ∷ 1 ∷ 0 ∷ 1 ∷ 1 ∷
    1 ∷ 1 ∷ 1 ∷ 1 ∷ 1 ∷ 1 ∷ 1 ∷ 1 ∷ 1 ∷ 1 ∷ 1 ∷ 1 ∷ 1 ∷ 1 ∷ 1 ∷ 1 ∷
    0 ∷ 0 ∷ 1 ∷ 1 ∷ 1 ∷ 1 ∷ 1 ∷ 1 ∷ 1 ∷ 1 ∷ 1 ∷ 1 ∷ 1 ∷ 1 ∷ 1 ∷ 1 ∷
    1 ∷ 1 ∷ 1 ∷ 1 ∷ 1 ∷ 1 ∷ 1 ∷ 1 ∷ 0 ∷ 0 ∷ 1 ∷ 1 ∷ 1 ∷ 1 ∷ 1 ∷ 1 ∷
    1 ∷ 1 ∷ 1 ∷ 1 ∷ 1 ∷ 1 ∷ 1 ∷ 1 ∷ 1 ∷ 1 ∷ 1 ∷ 1 ∷ 1 ∷ 1 ∷ 1 ∷ 1 ∷
    1 ∷ 1 ∷ 1 ∷ 1 ∷ 1 ∷ 1 ∷ 1 ∷ 1 ∷ 1 ∷ 1 ∷ 1 ∷ 1 ∷ 1 ∷ 1 ∷ 1 ∷ 1 ∷
    1 ∷ 1 ∷ 1 ∷ 1 ∷ 1 ∷ 1 ∷ 1 ∷ 1 ∷ 1 ∷ 1 ∷ 1 ∷ 1 ∷ 1 ∷ 1 ∷ 1 ∷ 1 ∷
    1 ∷ 1 ∷ 1 ∷ 1 ∷ 1 ∷ 1 ∷ 1 ∷ 1 ∷ 1 ∷ 1 ∷ 1 ∷ 1 ∷ 1 ∷ 1 ∷ 1 ∷ 1 ∷
    1 ∷ 1 ∷ 1 ∷ 1 ∷ 1 ∷ 1 ∷ 1 ∷ 1 ∷ 1 ∷ 1 ∷ 1 ∷ 1 ∷ 1 ∷ 1 ∷ 1 ∷ 1 ∷
    2 ∷ 3 ∷ 4 ∷ 5 ∷ 6 ∷ 7 ∷ 8 ∷ 9 ∷ 3 ∷ 5 ∷ 7 ∷ 9 ∷ 11 ∷ 13 ∷ 15 ∷ 17 ∷
    1 ∷ 1 ∷ 1 ∷ 1 ∷ 1 ∷ 1 ∷ 1 ∷ 1 ∷ 1 ∷ 1 ∷ 1 ∷ 1 ∷ 1 ∷ 1 ∷ 1 ∷ 1 ∷
    1 ∷ 1 ∷ 1 ∷ 1 ∷ 1 ∷ 1 ∷ 1 ∷ 1 ∷ 1 ∷ 1 ∷ 1 ∷ 1 ∷ 1 ∷ 1 ∷ 1 ∷ 1 ∷
    1 ∷ 1 ∷ 1 ∷ 1 ∷ 1 ∷ 1 ∷ 1 ∷ 1 ∷ 1 ∷ 1 ∷ 1 ∷ 1 ∷ 1 ∷ 1 ∷ 1 ∷ 1 ∷
    1 ∷ 1 ∷ 1 ∷ 1 ∷ 1 ∷ 1 ∷ 1 ∷ 1 ∷ 1 ∷ 1 ∷ 1 ∷ 1 ∷ 1 ∷ 1 ∷ 1 ∷ 1 ∷ []

-- whether a skip must look at an opcode: a count follows, the skip may end, or another IF opens or closes
abbrev looks : ℕ → Bool
looks op = op == 0x40 || (op == 0x41 || (op == 0x1B || (op == 0x2D || (op == 0x58 || op == 0x59))))

-- an entry of the table is the size of its opcode's instruction, or 0
abbrev agrees : ℕ → ℕ → Bool
agrees op n = n == 0 || (not (looks op) && n == head_length op + data_length op 0)

abbrev all_agree : ℕ → List ℕ → Bool
all_agree op [] = true
all_agree op (n ∷ ns) = agrees op n && all_agree (suc op) ns

they_do : all_agree 0 passed ≡ true
they_do = refl

first_of : (a b : Bool) → (a && b) ≡ true → a ≡ true
first_of true b h = refl
first_of false b h = h

second_of : (a b : Bool) → (a && b) ≡ true → b ≡ true
second_of true b h = h
second_of false b h = absurd cc

entry_agrees : (table : List ℕ) (from i op d : ℕ) → all_agree from table ≡ true → i < length table → op ≡ from + i
    → agrees op (slice_index_or table i d) ≡ true
entry_agrees [] from i op d all within is = absurd (omega arith)
entry_agrees (n ∷ ns) from zero op d all within is =
    let same : op ≡ from = omega arith in
    rw same (first_of (agrees from n) (all_agree (suc from) ns) all)
entry_agrees (n ∷ ns) from (suc i) op d all within is =
    entry_agrees ns (suc from) i op d (second_of (agrees from n) (all_agree (suc from) ns) all) (omega arith)
    (omega arith)

-- the meaning of an entry other than 0
pub record Told (op n : ℕ) : Type 0 where
  pub len : (count : ℕ) → head_length op + data_length op count ≡ n
  pub inside : (s : Sought) (depth : ℕ) → ends s depth op ≡ false
  pub level : (depth : ℕ) → depth_after depth op ≡ depth

no_end : (s : Sought) (depth op : ℕ) → looks op ≡ false → ends s depth op ≡ false
no_end sought.ElseOrEif depth op none = grind (arith, nat_tests)
no_end sought.Eif depth op none = grind (arith, nat_tests)
no_end sought.Endf depth op none = grind (arith, nat_tests)

no_count : (op count : ℕ) → looks op ≡ false → data_length op count ≡ data_length op 0
no_count op count none = grind (arith, nat_tests)

same_depth : (op depth : ℕ) → looks op ≡ false → depth_after depth op ≡ depth
same_depth op depth none = grind (arith, nat_tests)

by_entry : (op n : ℕ) → agrees op n ≡ true → 0 < n → Told op n
by_entry op n agreed some =
    let none : looks op ≡ false = grind (arith, nat_tests) in
    let is : n ≡ head_length op + data_length op 0 = grind (arith, nat_tests) in
    record {
      len = λ count. rw (no_count op count none) (sym is);
      inside = λ s depth. no_end s depth op none;
      level = λ depth. same_depth op depth none;
    }

pub told : (op d : ℕ) → op < 256 → 0 < slice_index_or passed op d → Told op (slice_index_or passed op d)
told op d few some =
    by_entry op (slice_index_or passed op d) (entry_agrees passed 0 op op d they_do (omega arith) (omega arith)) some
