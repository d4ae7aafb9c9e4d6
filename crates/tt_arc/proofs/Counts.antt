-- A statement about 1, 2, 4, 8, 16 and 32 holds for the number of chords of each quadratic.
use Rattle.std.proofs.Common.{◌≡◌, refl, ℕ, ◌*◌, ◌/◌, ◌<◌, ◌≤◌, nat_le, Bool, true, false, if◌then◌else◌, arith}
use Rattle.tt_arc.specs.declared.quadratic.Quadratic.{Quadratic}
use Rattle.tt_arc.specs.declared.rule.ChordRule.{ChordRule}
use Rattle.tt_arc.specs.declared.rule.ChordRule.TheVariants as rule
use Rattle.tt_arc.specs.Chords.{bend_of, chord_count, chords_of_bend}
use Rattle.tt_arc.specs.ChordLaws.{IsLeastCount, CountsAreLeast}

if_either : (P : ℕ → Type 0) (t : Bool) (a b : ℕ) → P a → P b → P (if t then a else b)
if_either P true a b x y = x
if_either P false a b x y = y

by_bend : (P : ℕ → Type 0) → P 1 → P 2 → P 4 → P 8 → P 16 → P 32 → (bend : ℕ) → P (chords_of_bend bend)
by_bend P a b c d e f bend =
    if_either P (nat_le (2 * bend) 1) 1 _ a (if_either P (nat_le (2 * bend) 4) 2 _ b (if_either P (nat_le (2 * bend) 16) 4 _ c
    (if_either P (nat_le (2 * bend) 64) 8 _ d (if_either P (nat_le (2 * bend) 256) 16 _ e f))))

pub by_count : (P : ℕ → Type 0) → P 1 → P 2 → P 4 → P 8 → P 16 → P 32 → (r : ChordRule) (c : Quadratic) → P (chord_count r c)
by_count P a b c d e f rule.Eight q = d
by_count P a b c d e f rule.ByBend q = by_bend P a b c d e f (bend_of q)

pub few_chords : (r : ChordRule) (c : Quadratic) → chord_count r c ≤ 32
few_chords = by_count (λ n. n ≤ 32) (omega arith) (omega arith) (omega arith) (omega arith) (omega arith) (omega arith)

pub divides : (r : ChordRule) (c : Quadratic) → 32 / chord_count r c * chord_count r c ≡ 32
divides = by_count (λ n. 32 / n * n ≡ 32) refl refl refl refl refl refl

-- the least of the numbers that suffice
either : (P : ℕ → Type 0) (t : Bool) (a b : ℕ) → (t ≡ true → P a) → (t ≡ false → P b) → P (if t then a else b)
either P true a b x y = x refl
either P false a b x y = y refl

at_most : (a b : ℕ) → nat_le a b ≡ true → a ≤ b
at_most a b is = grind arith

more : (a b : ℕ) → nat_le a b ≡ false → b < a
more a b is = grind arith

pub counts_are_least : CountsAreLeast
counts_are_least bend =
    either (IsLeastCount bend) (nat_le (2 * bend) 1) 1 _
    (λ is. let few = at_most (2 * bend) 1 is in record { one_of = (0, omega arith, refl); enough = λ less. omega (arith, few); least = λ some. absurd (omega (arith, some)) })
    (λ out. let more_1 = more (2 * bend) 1 out in
    either (IsLeastCount bend) (nat_le (2 * bend) 4) 2 _
    (λ is. let few = at_most (2 * bend) 4 is in record { one_of = (1, omega arith, refl); enough = λ less. omega (arith, few); least = λ some. omega (arith, more_1) })
    (λ out. let more_2 = more (2 * bend) 4 out in
    either (IsLeastCount bend) (nat_le (2 * bend) 16) 4 _
    (λ is. let few = at_most (2 * bend) 16 is in record { one_of = (2, omega arith, refl); enough = λ less. omega (arith, few); least = λ some. omega (arith, more_2) })
    (λ out. let more_4 = more (2 * bend) 16 out in
    either (IsLeastCount bend) (nat_le (2 * bend) 64) 8 _
    (λ is. let few = at_most (2 * bend) 64 is in record { one_of = (3, omega arith, refl); enough = λ less. omega (arith, few); least = λ some. omega (arith, more_4) })
    (λ out. let more_8 = more (2 * bend) 64 out in
    either (IsLeastCount bend) (nat_le (2 * bend) 256) 16 _
    (λ is. let few = at_most (2 * bend) 256 is in record { one_of = (4, omega arith, refl); enough = λ less. omega (arith, few); least = λ some. omega (arith, more_8) })
    (λ out. let more_16 = more (2 * bend) 256 out in
    record { one_of = (5, omega arith, refl); enough = λ less. absurd (omega (arith, less)); least = λ some. omega (arith, more_16) })))))
