-- The skip that counts open IFs ends at the least place where a skip may end.
use Rattle.std.proofs.Common.{◌≡◌, ℕ, zero, suc, ◌+◌, ◌<◌, ◌≤◌, ◌==◌, ◌&&◌, nat_le, Bool, true, false, if◌then◌else◌, List, [], ◌∷◌, length, Result, Ok, Err, refl, sym, ◌∙◌, ap, subst, inl, inr, arith}
use Rattle.std.specs.Prelude.{slice_index}
use Rattle.std.specs.List.{count_by}
use Rattle.std.proofs.lemmas.List.Sums.{sum_by-cons}
use Rattle.std.proofs.lemmas.Bool.Decides.{nat_tests}
use Rattle.tt_core.specs.Outcomes.{◌>>=◌, Gives}
use Rattle.tt_core.specs.declared.fault.Why.{Why}
use Rattle.tt_code.specs.declared.decoding.Halt.{Halt}
use Rattle.tt_code.specs.declared.skips.Sought.{Sought}
use Rattle.tt_code.specs.declared.skips.Sought.TheVariants as sought
use Rattle.tt_code.specs.Decoding.{Instr, head_length, data_length, taken, instruction_at}
use Rattle.tt_code.specs.Skips.{ends, depth_after, skip_from, skip_end, is_end, ComesTo, EndsBefore, IsOpen, IsSkip}

-- the number of open IFs among the passed opcodes
abbrev Counted : Sought → ℕ → List ℕ → Type 0
Counted sought.ElseOrEif depth passed = depth + count_by (λ op. op == 0x59) passed ≡ count_by (λ op. op == 0x58) passed
Counted sought.Eif depth passed = depth + count_by (λ op. op == 0x59) passed ≡ count_by (λ op. op == 0x58) passed
Counted sought.Endf depth passed = Unit {0}

none_open : (depth opened shut : ℕ) → depth + shut ≡ opened → (depth == 0) ≡ (opened == shut)
none_open depth opened shut h = grind (arith, nat_tests)

same_end : (s : Sought) (depth : ℕ) (passed : List ℕ) (op : ℕ) → Counted s depth passed
    → ends s depth op ≡ is_end s passed op
same_end sought.ElseOrEif depth passed op h = rw (none_open depth _ _ h) refl
same_end sought.Eif depth passed op h = rw (none_open depth _ _ h) refl
same_end sought.Endf depth passed op h = refl

-- one more opcode that is not the end
counted_more : (depth op opened shut : ℕ) → depth + shut ≡ opened → (depth == 0 && op == 0x59) ≡ false
    → depth_after depth op + ((if op == 0x59 then 1 else 0) + shut) ≡ (if op == 0x58 then 1 else 0) + opened
counted_more depth op opened shut h none = grind (arith, nat_tests)

no_eif : (depth op : ℕ) → ends sought.ElseOrEif depth op ≡ false → (depth == 0 && op == 0x59) ≡ false
no_eif depth op none = grind (arith, nat_tests)

-- the corresponding statement for the counts
counted_lists : (depth : ℕ) (passed : List ℕ) (op : ℕ)
    → depth + count_by (λ o. o == 0x59) passed ≡ count_by (λ o. o == 0x58) passed → (depth == 0 && op == 0x59) ≡ false
    → depth_after depth op + count_by (λ o. o == 0x59) (op ∷ passed) ≡ count_by (λ o. o == 0x58) (op ∷ passed)
counted_lists depth passed op h none =
    let shut = sum_by-cons (λ (o : ℕ). if o == 0x59 then 1 else 0) op passed in
    let opened = sum_by-cons (λ (o : ℕ). if o == 0x58 then 1 else 0) op passed in
    ap (λ (n : ℕ). depth_after depth op + n) shut ∙ counted_more depth op _ _ h none ∙ sym opened

counted : (s : Sought) (depth : ℕ) (passed : List ℕ) (op : ℕ) → Counted s depth passed → ends s depth op ≡ false
    → Counted s (depth_after depth op) (op ∷ passed)
counted sought.ElseOrEif depth passed op h none = counted_lists depth passed op h (no_eif depth op none)
counted sought.Eif depth passed op h none = counted_lists depth passed op h none
counted sought.Endf depth passed op h none = tt

-- an instruction has at least one byte, and is within the program
some_head : (op : ℕ) → 1 ≤ head_length op
some_head op = grind (arith, nat_tests)

pub record Lies (code : List ℕ) (at : ℕ) (i : Instr) : Type 0 where
  pub some : 1 ≤ i.len
  pub within : at + i.len ≤ length code

lies_taken : (code : List ℕ) (at head more : ℕ) (fits : Bool) (i : Instr) → 1 ≤ head
    → fits ≡ nat_le (at + (head + more)) (length code) → taken code at head more ≡ Ok i → Lies code at i
lies_taken code at head more true i some is there =
    let room : at + (head + more) ≤ length code = grind (arith, nat_tests) in
    let whole = rw (sym is) at there in
    let len : head + more ≡ i.len = cc in
    record { some = omega arith; within = omega arith }
lies_taken code at head more false i some is there =
    let whole = rw (sym is) at there in
    absurd cc

lies : (code : List ℕ) (at : ℕ) (i : Instr) → instruction_at code at ≡ Ok i → Lies code at i
lies code at i there =
    let op = slice_index code at in
    lies_taken code at (head_length op) (data_length op (slice_index code (at + 1))) _ i (some_head op) refl there

-- the result of a skip from an offset that it has reached
ended : (s : Sought) (code : List ℕ) (at : ℕ) (lost : Why) (place depth : ℕ) (passed : List ℕ) (i : Instr)
    → ComesTo s code at passed place → Counted s depth passed → instruction_at code place ≡ Ok i
    → ends s depth i.op ≡ true → EndsBefore s code at (place + i.len)
ended s code at lost place depth passed i comes few there end = record {
  passed = passed;
  place = place;
  comes = comes;
  op = i.op;
  stands = record { instruction = i; there = there; opcode = refl; after = refl };
  end = sym (same_end s depth passed i.op few) ∙ end;
}

further : (s : Sought) (code : List ℕ) (at : ℕ) (place depth : ℕ) (passed : List ℕ) (i : Instr)
    → ComesTo s code at passed place → Counted s depth passed → instruction_at code place ≡ Ok i
    → ends s depth i.op ≡ false → ComesTo s code at (i.op ∷ passed) (place + i.len)
further s code at place depth passed i comes few there none = record {
  leads = (place, comes.leads, record { instruction = i; there = there; opcode = refl; after = refl });
  first = (sym (same_end s depth passed i.op few) ∙ none, comes.first);
}

at_the_end : (s : Sought) (code : List ℕ) (at : ℕ) (lost : Why) (place : ℕ) (passed : List ℕ)
    → ComesTo s code at passed place → place ≡ length code → IsOpen s code at lost (record { at = at; why = lost })
at_the_end s code at lost place passed comes is =
    record { passed = passed; place = place; comes = comes; why = inl (is, refl) }

least_from : (fuel : ℕ) (s : Sought) (code : List ℕ) (at : ℕ) (lost : Why) (place depth : ℕ) (passed : List ℕ)
    → length code ≤ fuel + place → place ≤ length code → ComesTo s code at passed place → Counted s depth passed
    → IsSkip s code at lost (skip_from fuel s code (record { at = at; why = lost }) place depth)
least_from zero s code at lost place depth passed enough within comes few =
    at_the_end s code at lost place passed comes (omega arith)
least_from (suc n) s code at lost place depth passed enough within comes few =
    elim (nat_le (length code) place) as (λ past. nat_le (length code) place ≡ past → IsSkip s code at lost (
    if past then Err (record { at = at; why = lost }) else (
    instruction_at code place >>= λ i.
    if ends s depth i.op then Ok (place + i.len)
    else skip_from n s code (record { at = at; why = lost }) (place + i.len) (depth_after depth i.op)))) [
      | true ↦ λ past. at_the_end s code at lost place passed comes (grind (arith, nat_tests))
      | false ↦ λ past.
          elim (instruction_at code place) as (λ r. instruction_at code place ≡ r → IsSkip s code at lost (
          r >>= λ i.
          if ends s depth i.op then Ok (place + i.len)
          else skip_from n s code (record { at = at; why = lost }) (place + i.len) (depth_after depth i.op))) [
            | Err h ↦ λ there.
                let inside : place < length code = grind (arith, nat_tests) in
                record { passed = passed; place = place; comes = comes; why = inr (inside, there) }
            | Ok i ↦ λ there.
                elim (ends s depth i.op) as (λ end. ends s depth i.op ≡ end → IsSkip s code at lost (
                if end then Ok (place + i.len)
                else skip_from n s code (record { at = at; why = lost }) (place + i.len) (depth_after depth i.op))) [
                  | true ↦ λ end. ended s code at lost place depth passed i comes few there end
                  | false ↦ λ none.
                      let lie = lies code place i there in
                      least_from n s code at lost (place + i.len) (depth_after depth i.op) (i.op ∷ passed)
                      (omega (arith, lie.some)) lie.within (further s code at place depth passed i comes few there none)
                      (counted s depth passed i.op few none)
                ] refl
          ] refl
    ] refl

begun : (s : Sought) → Counted s 0 []
begun sought.ElseOrEif = refl
begun sought.Eif = refl
begun sought.Endf = tt

least : (s : Sought) (code : List ℕ) (at : ℕ) (lost : Why) → at < length code
    → IsSkip s code at lost (skip_end s code at lost)
least s code at lost inside =
    let comes : ComesTo s code at [] (at + 1) = record { leads = refl; first = tt } in
    least_from (length code) s code at lost (at + 1) 0 [] (omega arith) (omega arith) comes (begun s)

-- the corresponding statement for a call that gives the skip's end
pub is_skip : (s : Sought) (code : List ℕ) (at : ℕ) (lost : Why) (r : Result ℕ Halt) → at < length code
    → Gives (λ (j : ℕ). j) r (skip_end s code at lost) → IsSkip s code at lost r
is_skip s code at lost (Ok j) inside given =
    let P : Result ℕ Halt → Type 0 = IsSkip s code at lost in subst P given (least s code at lost inside)
is_skip s code at lost (Err h) inside given =
    let P : Result ℕ Halt → Type 0 = IsSkip s code at lost in subst P given (least s code at lost inside)
