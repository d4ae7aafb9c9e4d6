use Rattle.std.proofs.Common.{◌≡◌, ◌-◌, ◌+◌, ◌≤◌, ℕ, Option, Some, None, true, false, refl, arith, sym, ◌∙◌}
use Rattle.std.specs.Prelude.{nat_lt, ◌==◌, slice_index}
use Rattle.std.proofs.lemmas.Bool.Decides.{nat_tests}
use Rattle.tt_core.specs.Search.{first_from, first_from_next, first_from_here}
use Rattle.tt_cmap.specs.Roman.{roman_characters, is_roman, high_byte, roman_byte}
use Rattle.tt_cmap.proofs.roman.roman_byte.Goals as goal

is-same : (a b : ℕ) → a ≡ b → (a == b) ≡ true
is-same a b is = grind (arith, nat_tests, is)

is-other : (a b : ℕ) → (a ≡ b → ⊥) → (a == b) ≡ false
is-other a b differs = grind (arith, nat_tests, differs)

byte-found : (c i : ℕ) → 128 ≤ c → high_byte c ≡ Some i → Some (128 + i) ≡ roman_byte c
byte-found c i high is =
    let not : nat_lt c 128 ≡ false = grind (arith, nat_tests, high) in
    rw (not, is) refl

byte-missing : (c : ℕ) → 128 ≤ c → high_byte c ≡ None → ◌≡◌ {A = Option ℕ} None (roman_byte c)
byte-missing c high is =
    let not : nat_lt c 128 ≡ false = grind (arith, nat_tests, high) in
    rw (not, is) refl

pub loop-i-init : goal.loop-i-init
unfolding high_byte
loop-i-init c = (c.if-c-lt128.false, refl)

pub returns-then-from-c-clause-exact : goal.returns-then-from-c-clause-exact
returns-then-from-c-clause-exact c =
    let same : slice_index roman_characters c.loop-i.i ≡ c.args.c = sym c.from.ensures ∙ c.if-from-c.true in
    let here = first_from_here (is_roman c.args.c) c.loop-i.i 128 c.loop-i-test.true (is-same _ _ same) in
    byte-found c.args.c c.loop-i.i c.loop-i.invariant.0 (sym c.loop-i.invariant.1 ∙ here)

pub loop-i-preserved : goal.loop-i-preserved
loop-i-preserved c =
    let differs : (slice_index roman_characters c.loop-i.i ≡ c.args.c) → ⊥
    = λ same. c.if-from-c.false (c.from.ensures ∙ same) in
    let next = first_from_next (is_roman c.args.c) c.loop-i.i 128 c.loop-i-test.true (is-other _ _ differs) in
    (c.loop-i.invariant.0, sym next ∙ c.loop-i.invariant.1)

pub returns-clause-exact : goal.returns-clause-exact
returns-clause-exact c =
    let ended : c.loop-i.i ≡ 128 = omega (arith, c.loop-i-test.false, c.loop-i.auto.i-end) in
    let none : first_from (is_roman c.args.c) c.loop-i.i (128 - c.loop-i.i) ≡ None = rw ended refl in
    byte-missing c.args.c c.loop-i.invariant.0 (sym c.loop-i.invariant.1 ∙ none)
