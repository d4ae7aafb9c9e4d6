-- Binary search: where it ends, and how many numbers it tests.
use Rattle.std.proofs.Common.{◌≡◌, ℕ, zero, suc, ◌+◌, ◌-◌, ◌/◌, ◌^◌, ◌<◌, ◌≤◌, if◌then◌else◌, Bool, true, false, refl, arith, subst}
use Rattle.tt_kern.specs.Halves.{asked_within, asked, reached_within, reached}

-- all bounds of steps that are at least the count of numbers give the same end
same-reached : (passes : ℕ → Bool) (n m low left : ℕ) → left ≤ n → left ≤ m
    → reached_within n passes low left ≡ reached_within m passes low left
unfolding reached_within
same-reached passes zero zero low left few many = refl
same-reached passes zero (suc m) low left few many = let none : left ≡ 0 = omega (arith, few) in rw none refl
same-reached passes (suc n) zero low left few many = let none : left ≡ 0 = omega (arith, many) in rw none refl
same-reached passes (suc n) (suc m) low zero few many = refl
same-reached passes (suc n) (suc m) low (suc left) few many =
    let before = same-reached passes n m low (suc left / 2) (omega (arith, few)) (omega (arith, many)) in
    let after = same-reached passes n m (low + suc left / 2 + 1) (suc left - suc left / 2 - 1) (omega (arith, few)) (omega (arith, many)) in
    rw (before, after) refl

-- the middle number fails: the search ends where that of the half after it does
reached-after : (passes : ℕ → Bool) (low left : ℕ) → 0 < left → passes (low + left / 2) ≡ false
    → reached_within left passes low left
    ≡ reached_within (left - left / 2 - 1) passes (low + left / 2 + 1) (left - left / 2 - 1)
unfolding reached_within
reached-after passes low zero some fails = absurd (omega (arith, some))
reached-after passes low (suc left) some fails =
    let same = same-reached passes left (suc left - suc left / 2 - 1) (low + suc left / 2 + 1) (suc left - suc left / 2 - 1)
    (omega arith) (omega arith) in
    rw (fails, same) refl

-- the middle number passes: the search ends where that of the half before it does
reached-before : (passes : ℕ → Bool) (low left : ℕ) → 0 < left → passes (low + left / 2) ≡ true
    → reached_within left passes low left ≡ reached_within (left / 2) passes low (left / 2)
unfolding reached_within
reached-before passes low zero some holds = absurd (omega (arith, some))
reached-before passes low (suc left) some holds =
    let same = same-reached passes left (suc left / 2) low (suc left / 2) (omega arith) (omega arith) in
    rw (holds, same) refl

-- all bounds of steps that are at least the count of numbers give the same count of tests
same-asked : (passes : ℕ → Bool) (n m low left : ℕ) → left ≤ n → left ≤ m
    → asked_within n passes low left ≡ asked_within m passes low left
unfolding asked_within
same-asked passes zero zero low left few many = refl
same-asked passes zero (suc m) low left few many = let none : left ≡ 0 = omega (arith, few) in rw none refl
same-asked passes (suc n) zero low left few many = let none : left ≡ 0 = omega (arith, many) in rw none refl
same-asked passes (suc n) (suc m) low zero few many = refl
same-asked passes (suc n) (suc m) low (suc left) few many =
    let before = same-asked passes n m low (suc left / 2) (omega (arith, few)) (omega (arith, many)) in
    let after = same-asked passes n m (low + suc left / 2 + 1) (suc left - suc left / 2 - 1) (omega (arith, few)) (omega (arith, many)) in
    rw (before, after) refl

-- the middle number fails: it is tested, and the half after it remains
asked-after : (passes : ℕ → Bool) (low left : ℕ) → 0 < left → passes (low + left / 2) ≡ false
    → asked_within left passes low left
    ≡ 1 + asked_within (left - left / 2 - 1) passes (low + left / 2 + 1) (left - left / 2 - 1)
unfolding asked_within
asked-after passes low zero some fails = absurd (omega (arith, some))
asked-after passes low (suc left) some fails =
    let same = same-asked passes left (suc left - suc left / 2 - 1) (low + suc left / 2 + 1) (suc left - suc left / 2 - 1)
    (omega arith) (omega arith) in
    rw (fails, same) refl

-- the middle number passes: it is tested, and the half before it remains
asked-before : (passes : ℕ → Bool) (low left : ℕ) → 0 < left → passes (low + left / 2) ≡ true
    → asked_within left passes low left ≡ 1 + asked_within (left / 2) passes low (left / 2)
unfolding asked_within
asked-before passes low zero some holds = absurd (omega (arith, some))
asked-before passes low (suc left) some holds =
    let same = same-asked passes left (suc left / 2) low (suc left / 2) (omega arith) (omega arith) in
    rw (holds, same) refl

one-at-least : (there : Bool) (n m : ℕ) → 0 < (if there then 1 + n else 1 + m)
one-at-least true n m = omega arith
one-at-least false n m = omega arith

-- where numbers are left, one more is tested
some-asked : (passes : ℕ → Bool) (low left : ℕ) → 0 < left → 0 < asked_within left passes low left
unfolding asked_within
some-asked passes low zero some = absurd (omega (arith, some))
some-asked passes low (suc left) some =
    one-at-least (passes (low + suc left / 2)) (asked_within left passes low (suc left / 2))
    (asked_within left passes (low + suc left / 2 + 1) (suc left - suc left / 2 - 1))

-- the state of a search in which the numbers from low to high remain: where it ends, and what it still tests
pub record IsLeft (passes : ℕ → Bool) (count low high reads all : ℕ) : Type 0 where
  pub ordered : low ≤ high
  pub within : high ≤ count
  pub to_find : reached_within (high - low) passes low (high - low) ≡ reached count passes
  pub to_read : reads + asked_within (high - low) passes low (high - low) ≡ all

pub all-left : (passes : ℕ → Bool) (count reads : ℕ) → IsLeft passes count 0 count reads (reads + asked count passes)
all-left passes count reads =
    let same : count - 0 ≡ count = omega arith in
    record { ordered = omega arith; within = omega arith; to_find = rw same refl; to_read = rw same refl }

-- a search tests at most 16 numbers, so the count of reads has room for one more
pub room-left : (passes : ℕ → Bool) (count low high reads start : ℕ)
    → IsLeft passes count low high reads (start + asked count passes) → low < high → asked count passes ≤ 16
    → start + 16 < 2 ^ 32 → reads + 1 < 2 ^ 32
room-left passes count low high reads start left some few room =
    let more = some-asked passes low (high - low) (omega (arith, some)) in
    omega (arith, left.to_read, more, few, room)

-- the middle number fails: the numbers after it remain
pub goes-on : (passes : ℕ → Bool) (count low high reads all : ℕ) → IsLeft passes count low high reads all → low < high
    → passes (low + (high - low) / 2) ≡ false → IsLeft passes count (low + (high - low) / 2 + 1) high (reads + 1) all
goes-on passes count low high reads all left some fails =
    let once = asked-after passes low (high - low) (omega (arith, some)) fails in
    let there = reached-after passes low (high - low) (omega (arith, some)) fails in
    let rest : high - (low + (high - low) / 2 + 1) ≡ high - low - (high - low) / 2 - 1 = omega arith in
    record {
      ordered = omega (arith, some);
      within = left.within;
      to_find = rw (rest, ← there) left.to_find;
      to_read = rw rest (omega (arith, once, left.to_read));
    }

-- the middle number passes: the numbers before it remain
pub goes-back : (passes : ℕ → Bool) (count low high reads all : ℕ) → IsLeft passes count low high reads all → low < high
    → passes (low + (high - low) / 2) ≡ true → IsLeft passes count low (low + (high - low) / 2) (reads + 1) all
goes-back passes count low high reads all left some holds =
    let once = asked-before passes low (high - low) (omega (arith, some)) holds in
    let there = reached-before passes low (high - low) (omega (arith, some)) holds in
    let rest : low + (high - low) / 2 - low ≡ (high - low) / 2 = omega arith in
    record {
      ordered = omega arith;
      within = omega (arith, some, left.within);
      to_find = rw (rest, ← there) left.to_find;
      to_read = rw rest (omega (arith, once, left.to_read));
    }

-- nothing remains: the search has ended at low, and has read all that it tests
pub all-found : (passes : ℕ → Bool) (count low high reads all : ℕ) → IsLeft passes count low high reads all → high ≤ low
    → low ≡ reached count passes
unfolding reached_within
all-found passes count low high reads all left none =
    let nothing : high - low ≡ 0 = omega (arith, none) in
    let P : ℕ → Type 0 = λ n. reached_within n passes low n ≡ reached count passes in
    subst P nothing left.to_find

pub all-read : (passes : ℕ → Bool) (count low high reads all : ℕ) → IsLeft passes count low high reads all → high ≤ low
    → reads ≡ all
unfolding asked_within
all-read passes count low high reads all left none =
    let nothing : high - low ≡ 0 = omega (arith, none) in
    let nobody : asked_within (high - low) passes low (high - low) ≡ 0 = rw nothing refl in
    omega (arith, left.to_read, nobody)
