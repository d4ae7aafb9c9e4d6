-- The work of a step by its opcode, as in the table.
use Rattle.std.proofs.Common.{◌≡◌, ◌≢◌, ℕ, zero, suc, ◌+◌, ◌%◌, ◌<◌, ◌==◌, ◌||◌, ◌&&◌, Bool, true, false, if◌then◌else◌, not, List, [], ◌∷◌, length, slice_index, ℤ, pos, Option, None, Result, Ok, Err, inl, inr, refl, sym, ap, subst, ◌∙◌, arith}
use Rattle.std.proofs.lemmas.Bool.Decides.{nat_tests}
use Rattle.std.proofs.lemmas.Bool.{cases_lt}
use Rattle.std.proofs.lemmas.List.{get_or_past}
use Rattle.tt_code.specs.Skips.{if_end, else_end}
use Rattle.tt_code.specs.declared.decoding.Halt.{Halt}
use Rattle.tt_core.specs.Outcomes.{Gives}
use Rattle.tt_exec_step.specs.stack.Logic.{is_true}
use Rattle.tt_exec_step.specs.FixedWork.{fixed_work, works}
use Rattle.tt_exec_step.specs.Flow.{skips_if}
use Rattle.tt_exec_step.specs.MachineState.{MachineState}
use Rattle.tt_exec.specs.Worked.{Pays}
use Rattle.tt_exec.specs.Work.{charged, cost_by, over_at, passed_by, step_cost, top_of, gone_over, passed, is_looped, is_counted, is_of_glyph, is_of_flags, is_of_zone, is_push_of_many, is_of_axes, moves_one, is_relative, is_of_lines, finds_two, is_of_distance, is_slow, is_push, is_quick, slowness}

-- whether an opcode's work depends on more than the opcode
abbrev skips : ℕ → Bool
skips op = op == 0x58 || (op == 0x1B || (op == 0x2C || op == 0x89))

abbrev varies_by_data : ℕ → Bool
varies_by_data op = is_of_flags op || (is_of_zone op || (is_push_of_many op || (is_of_axes op || skips op)))

abbrev varies : ℕ → Bool
varies op = is_looped op || (is_counted op || (is_of_glyph op || varies_by_data op))

-- the cost by an opcode's class, where a push of more than one value has this extra work
abbrev by_slowness : Bool → Bool → Bool → Bool → ℕ → ℕ
by_slowness distance slow push quick more =
    if distance then 4 else (if slow then 3 else (if push then 1 + more else (if quick then 1 else 2)))

abbrev said : ℕ → ℕ
said op =
    if moves_one op then 5 else (
    if is_relative op then 8 else (
    if op == 0x27 then 9 else (
    if is_of_lines op then 33 else (
    if finds_two op then 49 else by_slowness (is_of_distance op) (is_slow op) (is_push op) (is_quick op) (op % 8)))))

-- a table's entries, from an opcode on, are the defined work, or 0
abbrev agrees : ℕ → ℕ → Bool
agrees op cost = cost == 0 || (not (varies op) && cost == said op)

abbrev all_agree : ℕ → List ℕ → Bool
all_agree op [] = true
all_agree op (c ∷ cs) = agrees op c && all_agree (suc op) cs

they_do : all_agree 0 works ≡ true
unfolding works
they_do = refl

first_of : (a b : Bool) → (a && b) ≡ true → a ≡ true
first_of true b h = refl
first_of false b h = h

second_of : (a b : Bool) → (a && b) ≡ true → b ≡ true
second_of true b h = h
second_of false b h = absurd cc

entry_agrees : (table : List ℕ) (from i op : ℕ) → all_agree from table ≡ true → i < length table → op ≡ from + i
    → agrees op (slice_index table i) ≡ true
entry_agrees [] from i op all within is = absurd (omega arith)
entry_agrees (c ∷ cs) from zero op all within is =
    let same : op ≡ from = omega arith in
    rw same (first_of (agrees from c) (all_agree (suc from) cs) all)
entry_agrees (c ∷ cs) from (suc i) op all within is =
    entry_agrees cs (suc from) i op (second_of (agrees from c) (all_agree (suc from) cs) all) (omega arith) (omega arith)

neither_first : (a b : Bool) → (a || b) ≡ false → a ≡ false
neither_first true b h = absurd cc
neither_first false b h = refl

neither_second : (a b : Bool) → (a || b) ≡ false → b ≡ false
neither_second true b h = absurd cc
neither_second false b h = h

by_class : (a b c d e f g h k : Bool) (n : ℕ)
    → 1 + ((if a then 4 else (if b then 7 else (if c then 8 else (if d then 32 else (if e then 48 else (if f then 3 else (if g then 2 else (if h then n else (if k then 0 else 1))))))))) + 0)
    ≡ (if a then 5 else (if b then 8 else (if c then 9 else (if d then 33 else (if e then 49 else by_slowness f g h k n)))))
by_class true b c d e f g h k n = refl
by_class false true c d e f g h k n = refl
by_class false false true d e f g h k n = refl
by_class false false false true e f g h k n = refl
by_class false false false false true f g h k n = refl
by_class false false false false false true g h k n = refl
by_class false false false false false false true h k n = refl
by_class false false false false false false false true k n = omega arith
by_class false false false false false false false false true n = refl
by_class false false false false false false false false false n = refl

nat_same : (a b : ℕ) → (a == b) ≡ true → a ≡ b
nat_same a b h = grind (arith, nat_tests)

passes_none : (op : ℕ) (m : MachineState) → (op == 0x58) ≡ false → (op == 0x1B) ≡ false
    → (op == 0x2C || op == 0x89) ≡ false → passed op m ≡ 0
passes_none op m if_at else_at def_at = rw (if_at, else_at, def_at) refl

says : (op : ℕ) (m : MachineState) → varies op ≡ false → cost_by op m ≡ said op
unfolding slowness
says op m h =
    let looped = neither_first (is_looped op) _ h in
    let h = neither_second (is_looped op) _ h in
    let counted = neither_first (is_counted op) _ h in
    let h = neither_second (is_counted op) _ h in
    let glyph = neither_first (is_of_glyph op) _ h in
    let h = neither_second (is_of_glyph op) _ h in
    let flags = neither_first (is_of_flags op) _ h in
    let h = neither_second (is_of_flags op) _ h in
    let zone = neither_first (is_of_zone op) _ h in
    let h = neither_second (is_of_zone op) _ h in
    let push = neither_first (is_push_of_many op) _ h in
    let h = neither_second (is_push_of_many op) _ h in
    let axes = neither_first (is_of_axes op) _ h in
    let h = neither_second (is_of_axes op) (skips op) h in
    let if_at = neither_first (op == 0x58) _ h in
    let h = neither_second (op == 0x58) (op == 0x1B || (op == 0x2C || op == 0x89)) h in
    let else_at = neither_first (op == 0x1B) _ h in
    let def_at = neither_second (op == 0x1B) (op == 0x2C || op == 0x89) h in
    ap (λ n. 1 + (gone_over op m + n)) (passes_none op m if_at else_at def_at)
    ∙ rw (looped, counted, glyph, flags, zone, push, axes)
    (by_class (moves_one op) (is_relative op) (op == 0x27) (is_of_lines op) (finds_two op) (is_of_distance op) (is_slow op) (is_push op) (is_quick op) (op % 8))

by_entry : (some varying same : Bool) (op : ℕ) (m : MachineState) (cost : ℕ) → (cost == 0) ≡ some → varies op ≡ varying
    → (cost == said op) ≡ same → (some || (not varying && same)) ≡ true → cost ≢ 0 → cost_by op m ≡ cost
by_entry true varying same op m cost zero_is v s h some = absurd (grind (arith, nat_tests))
by_entry false true same op m cost zero_is v s h some = absurd cc
by_entry false false false op m cost zero_is v s h some = absurd cc
by_entry false false true op m cost zero_is v s h some =
    let is : cost ≡ said op = nat_same cost (said op) s in
    says op m v ∙ sym is

many : length works ≡ 256
unfolding works
many = refl

told : (op : ℕ) (m : MachineState) → op < 256 → fixed_work op ≢ 0 → cost_by op m ≡ fixed_work op
told op m few some =
    let cost = fixed_work op in
    by_entry (cost == 0) (varies op) (cost == said op) op m cost refl refl refl
    (entry_agrees works 0 op op they_do (omega (arith, many)) (omega arith)) some

-- a step by its opcode

pub step_told : (m : MachineState) (op cost : ℕ) → op ≡ slice_index m.frame.code.bytes m.frame.place
    → cost ≡ fixed_work op → cost ≢ 0 → step_cost m ≡ cost
step_told m op cost is fixed some = elim (cases_lt op 256) [
  | inl few ↦
      let by_op : step_cost m ≡ cost_by op m = ap (λ o. cost_by o m) (sym is) in
      by_op ∙ told op m few (subst (λ n. n ≢ 0) fixed some) ∙ sym fixed
  | inr past ↦
      let none : fixed_work op ≡ 0 = get_or_past works op 0 (omega (arith, many, past)) in
      absurd (some (fixed ∙ none))
]

-- past a program's end the opcode counts as 0
past_the_end : (m : MachineState) → cost_by 0 m ≡ 1
unfolding slowness
past_the_end m = refl

pub end_cost : (m : MachineState) → m.frame.place ≡ length m.frame.code.bytes → step_cost m ≡ 1
end_cost m past =
    let ended : slice_index m.frame.code.bytes m.frame.place ≡ 0 =
    get_or_past m.frame.code.bytes m.frame.place 0 (omega arith)
    in
    ap (λ op. cost_by op m) ended ∙ past_the_end m

-- skips

given : (r w : Result ℕ Halt) → Gives (λ j. j) r w → w ≡ r
given (Ok place) w is = is
given (Err halt) w is = is

not_true : (b : Bool) → not b ≡ true → b ≡ false
not_true true h = absurd cc
not_true false h = refl

top_is_false : (s : List ℤ) → skips_if s ≡ true → is_true (top_of s) ≡ false
top_is_false [] h = refl
top_is_false (v ∷ s) h = not_true (is_true v) h

pub zero_skips : (s : List ℤ) → top_of s ≡ pos 0 → skips_if s ≡ true
zero_skips [] h = refl
zero_skips (v ∷ s) h = rw h refl

passed_at_if : (m : MachineState) (end : Result ℕ Halt) → is_true (top_of m.stack) ≡ false
    → if_end m.frame.code.bytes m.frame.place ≡ end → cost_by 0x58 m ≡ 2 + passed_by m end
unfolding slowness
passed_at_if m end condition is =
    let own : gone_over 0x58 m ≡ 1 = refl in
    rw (condition, is, own) (omega arith)

passed_at_else : (m : MachineState) (end : Result ℕ Halt) → else_end m.frame.code.bytes m.frame.place ≡ end
    → cost_by 0x1B m ≡ 2 + passed_by m end
unfolding slowness
passed_at_else m end is =
    let own : gone_over 0x1B m ≡ 1 = refl in
    rw (is, own) (omega arith)

pub if_cost : (m : MachineState) (end : Result ℕ Halt) → slice_index m.frame.code.bytes m.frame.place ≡ 0x58
    → skips_if m.stack ≡ true → Gives (λ j. j) end (if_end m.frame.code.bytes m.frame.place)
    → step_cost m ≡ 2 + passed_by m end
if_cost m end op skips gives =
    ap (λ o. cost_by o m) op ∙ passed_at_if m end (top_is_false m.stack skips) (given end _ gives)

pub else_cost : (m : MachineState) (end : Result ℕ Halt) → slice_index m.frame.code.bytes m.frame.place ≡ 0x1B
    → Gives (λ j. j) end (else_end m.frame.code.bytes m.frame.place) → step_cost m ≡ 2 + passed_by m end
else_cost m end op gives = ap (λ o. cost_by o m) op ∙ passed_at_else m end (given end _ gives)

-- payments

pub pays_by : (m : MachineState) (cost : ℕ) (ok : Bool) (left rest : Option ℕ) → step_cost m ≡ cost
    → Pays (over_at m) (charged (over_at m) cost left) ok rest
    → Pays (over_at m) (charged (over_at m) (step_cost m) left) ok rest
pays_by m cost ok left rest same paid =
    subst (λ n. Pays (over_at m) (charged (over_at m) n left) ok rest) (sym same) paid

-- a run without a budget pays nothing
pub pays_none : (m : MachineState) (left : Option ℕ) → left ≡ None
    → Pays (over_at m) (charged (over_at m) (step_cost m) left) true left
pays_none m left none = rw none refl
