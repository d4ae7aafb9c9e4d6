-- Binary search: where it ends, how many numbers it tests, and what one end of a range says about the ranges before it.
use Rattle.std.proofs.Common.{◌≡◌, ℕ, zero, suc, ◌+◌, ◌-◌, ◌*◌, ◌/◌, ◌^◌, ◌<◌, ◌≤◌, nat_lt, if◌then◌else◌, Bool, true, false, Some, None, inl, inr, refl, arith, pow-suc, add-zero, subst}
use Rattle.std.proofs.lemmas.Bool.{cases_lt}
use Rattle.std.proofs.lemmas.Bool.Decides.{nat_tests}
use Rattle.tt_core.specs.Search.{IsLeast, first_below_least, first_below_none, first_below_nothing}
use Rattle.tt_cmap.specs.Halves.{asked_within, asked, reached_within, reached, IsReached, NeverFallsBack}
use Rattle.tt_cmap.specs.Ranges.{Subtable, segments, groups, range_count, range_end, falls, falling_range, reaches, range_of, most_character, IfSegments}

-- if no end falls, each range ends at the end of the preceding range or after it
rises-once : (s : Subtable) → falling_range s ≡ None → (i : ℕ) → i + 1 < range_count s → range_end s i
    ≤ range_end s (i + 1)
rises-once s rises i within =
    let not : nat_lt (range_end s (i + 1)) (range_end s i) ≡ false = first_below_none (range_count s - 1) (falls s) i rises
    (omega (arith, within)) in
    grind (arith, nat_tests, not)

-- if no end falls, each later range ends at the range's end or after it
pub rises-by : (s : Subtable) → falling_range s ≡ None → (i d : ℕ) → i + d < range_count s → range_end s i
    ≤ range_end s (i + d)
rises-by s rises i zero within = let same : i + 0 ≡ i = add-zero i in rw same (omega arith)
rises-by s rises i (suc d) within =
    let next : i + d + 1 ≡ i + suc d = omega arith in
    let more : range_end s (i + d) ≤ range_end s (i + d + 1) = rises-once s rises (i + d) (omega (arith, within)) in
    let before : range_end s i ≤ range_end s (i + d) = rises-by s rises i d (omega (arith, within)) in
    omega (arith, before, rw next at more)

-- if a range does not reach the character, no earlier range does
pub before-fails : (s : Subtable) → falling_range s ≡ None → (c m : ℕ) → m < range_count s → range_end s m < c → (j : ℕ)
    → j < m + 1 → reaches s c j ≡ false
before-fails s rises c m within below j first =
    let sum : j + (m - j) ≡ m = omega (arith, first) in
    let up : range_end s j ≤ range_end s (j + (m - j)) = rises-by s rises j (m - j) (omega (arith, sum, within)) in
    let up : range_end s j ≤ range_end s m = rw sum at up in
    grind (arith, nat_tests, up, below)

-- all bounds of steps that are at least the count of numbers give the same count of tests
same-asked : (passes : ℕ → Bool) (n m low left : ℕ) → left ≤ n → left ≤ m
    → asked_within n passes low left ≡ asked_within m passes low left
unfolding asked_within
same-asked passes zero zero low left few many = refl
same-asked passes zero (suc m) low left few many = let none : left ≡ 0 = omega (arith, few) in rw none refl
same-asked passes (suc n) zero low left few many = let none : left ≡ 0 = omega (arith, many) in rw none refl
same-asked passes (suc n) (suc m) low zero few many = refl
same-asked passes (suc n) (suc m) low (suc left) few many =
    let before = same-asked passes n m low (suc left / 2) (omega (arith, few)) (omega (arith, many)) in
    let after = same-asked passes n m (low + suc left / 2 + 1) (suc left - suc left / 2 - 1) (omega (arith, few)) (omega (arith, many)) in
    rw (before, after) refl

-- the middle number fails: it is tested, and the half after it remains
asked-after : (passes : ℕ → Bool) (low left : ℕ) → 0 < left → passes (low + left / 2) ≡ false
    → asked passes low left ≡ 1 + asked passes (low + left / 2 + 1) (left - left / 2 - 1)
unfolding asked_within
asked-after passes low zero some fails = absurd (omega (arith, some))
asked-after passes low (suc left) some fails =
    let same = same-asked passes left (suc left - suc left / 2 - 1) (low + suc left / 2 + 1) (suc left - suc left / 2 - 1)
    (omega arith) (omega arith) in
    rw (fails, same) refl

-- the middle number passes: it is tested, and the half before it remains
asked-before : (passes : ℕ → Bool) (low left : ℕ) → 0 < left → passes (low + left / 2) ≡ true
    → asked passes low left ≡ 1 + asked passes low (left / 2)
unfolding asked_within
asked-before passes low zero some holds = absurd (omega (arith, some))
asked-before passes low (suc left) some holds =
    let same = same-asked passes left (suc left / 2) low (suc left / 2) (omega arith) (omega arith) in
    rw (holds, same) refl

one-more : (b : Bool) (k : ℕ) {x y : ℕ} → x ≤ k → y ≤ k → (if b then 1 + x else 1 + y) ≤ suc k
one-more true k before after = omega (arith, before)
one-more false k before after = omega (arith, after)

-- fewer than 2^k numbers take at most k tests
few-within : (passes : ℕ → Bool) (n low left k : ℕ) → left < 2 ^ k → asked_within n passes low left ≤ k
unfolding asked_within
few-within passes zero low left k small = omega arith
few-within passes (suc n) low zero k small = omega arith
few-within passes (suc n) low (suc left) zero small = absurd (omega (arith, small))
few-within passes (suc n) low (suc left) (suc k) small =
    let power : 2 ^ suc k ≡ 2 ^ k * 2 = pow-suc 2 k in
    let before = few-within passes n low (suc left / 2) k (omega (arith, small, power)) in
    let after = few-within passes n (low + suc left / 2 + 1) (suc left - suc left / 2 - 1) k (omega (arith, small, power)) in
    one-more (passes (low + suc left / 2)) k before after

-- fewer than 2^k numbers take at most k tests
pub few-asked : (passes : ℕ → Bool) (n k : ℕ) → n < 2 ^ k → asked passes 0 n ≤ k
few-asked passes n k small = few-within passes n 0 n k small

-- all bounds of steps that are at least the count of numbers give the same end
same-reached : (passes : ℕ → Bool) (n m low left : ℕ) → left ≤ n → left ≤ m
    → reached_within n passes low left ≡ reached_within m passes low left
unfolding reached_within
same-reached passes zero zero low left few many = refl
same-reached passes zero (suc m) low left few many = let none : left ≡ 0 = omega (arith, few) in rw none refl
same-reached passes (suc n) zero low left few many = let none : left ≡ 0 = omega (arith, many) in rw none refl
same-reached passes (suc n) (suc m) low zero few many = refl
same-reached passes (suc n) (suc m) low (suc left) few many =
    let before = same-reached passes n m low (suc left / 2) (omega (arith, few)) (omega (arith, many)) in
    let after = same-reached passes n m (low + suc left / 2 + 1) (suc left - suc left / 2 - 1) (omega (arith, few)) (omega (arith, many)) in
    rw (before, after) refl

-- the middle number fails: the search ends where that of the half after it does
reached-after : (passes : ℕ → Bool) (low left : ℕ) → 0 < left → passes (low + left / 2) ≡ false
    → reached_within left passes low left
    ≡ reached_within (left - left / 2 - 1) passes (low + left / 2 + 1) (left - left / 2 - 1)
unfolding reached_within
reached-after passes low zero some fails = absurd (omega (arith, some))
reached-after passes low (suc left) some fails =
    let same = same-reached passes left (suc left - suc left / 2 - 1) (low + suc left / 2 + 1) (suc left - suc left / 2 - 1)
    (omega arith) (omega arith) in
    rw (fails, same) refl

-- the middle number passes: the search ends where that of the half before it does
reached-before : (passes : ℕ → Bool) (low left : ℕ) → 0 < left → passes (low + left / 2) ≡ true
    → reached_within left passes low left ≡ reached_within (left / 2) passes low (left / 2)
unfolding reached_within
reached-before passes low zero some holds = absurd (omega (arith, some))
reached-before passes low (suc left) some holds =
    let same = same-reached passes left (suc left / 2) low (suc left / 2) (omega arith) (omega arith) in
    rw (holds, same) refl

-- the state of a search in which the numbers from low to high remain: what it still tests, and where it ends
pub record IsLeft (passes : ℕ → Bool) (count low high reads all : ℕ) (Reached : Type 0) : Type 0 where
  pub ordered : low ≤ high
  pub within : high ≤ count
  pub after : high < count → Reached
  pub to_find : reached_within (high - low) passes low (high - low) ≡ reached count passes
  pub to_read : reads + asked passes low (high - low) ≡ all

pub all-left : (passes : ℕ → Bool) (Reached : Type 0) (count n reads : ℕ) → count ≡ n
    → IsLeft passes n 0 count reads (reads + asked passes 0 n) Reached
all-left passes Reached count n reads is =
    let same : n - 0 ≡ n = omega arith in
    record {
      ordered = omega arith;
      within = omega (arith, is);
      after = λ below. absurd (omega (arith, below, is));
      to_find = rw (is, same) refl;
      to_read = rw (is, same) refl;
    }

-- a search tests few numbers, so the count of reads has room for one more
pub room-left : (passes : ℕ → Bool) (Reached : Type 0) (count low high reads start k : ℕ)
    → IsLeft passes count low high reads (start + asked passes 0 count) Reached → asked passes 0 count ≤ k → k ≤ 24
    → start + 2 ^ 30 < 2 ^ 32 → reads + 1 < 2 ^ 32
room-left passes Reached count low high reads start k left few small room =
    omega (arith, left.to_read, few, small, room)

-- the middle number fails: the numbers after it remain
pub goes-on : (passes : ℕ → Bool) (Reached : Type 0) (count low high reads all : ℕ)
    → IsLeft passes count low high reads all Reached → low < high → passes (low + (high - low) / 2) ≡ false
    → IsLeft passes count (low + (high - low) / 2 + 1) high (reads + 1) all Reached
goes-on passes Reached count low high reads all left some fails =
    let once = asked-after passes low (high - low) (omega (arith, some)) fails in
    let there = reached-after passes low (high - low) (omega (arith, some)) fails in
    let rest : high - (low + (high - low) / 2 + 1) ≡ high - low - (high - low) / 2 - 1 = omega arith in
    record {
      ordered = omega (arith, some);
      within = left.within;
      after = left.after;
      to_find = rw (rest, ← there) left.to_find;
      to_read = rw rest (omega (arith, once, left.to_read));
    }

-- the middle number passes: the numbers before it remain
pub goes-back : (passes : ℕ → Bool) (Reached : Type 0) (count low high reads all : ℕ)
    → IsLeft passes count low high reads all Reached → low < high → passes (low + (high - low) / 2) ≡ true → Reached
    → IsLeft passes count low (low + (high - low) / 2) (reads + 1) all Reached
goes-back passes Reached count low high reads all left some holds after =
    let once = asked-before passes low (high - low) (omega (arith, some)) holds in
    let there = reached-before passes low (high - low) (omega (arith, some)) holds in
    let rest : low + (high - low) / 2 - low ≡ (high - low) / 2 = omega arith in
    record {
      ordered = omega arith;
      within = omega (arith, some, left.within);
      after = λ below. after;
      to_find = rw (rest, ← there) left.to_find;
      to_read = rw rest (omega (arith, once, left.to_read));
    }

-- nothing remains: the search has ended at low, and has read all that it tests
pub all-found : (passes : ℕ → Bool) (Reached : Type 0) (count low high reads all : ℕ)
    → IsLeft passes count low high reads all Reached → high ≤ low → low ≡ reached count passes
unfolding reached_within
all-found passes Reached count low high reads all left none =
    let nothing : high - low ≡ 0 = omega (arith, none) in
    let P : ℕ → Type 0 = λ n. reached_within n passes low n ≡ reached count passes in
    subst P nothing left.to_find

pub all-read : (passes : ℕ → Bool) (Reached : Type 0) (count low high reads all : ℕ)
    → IsLeft passes count low high reads all Reached → high ≤ low → reads ≡ all
unfolding asked_within
all-read passes Reached count low high reads all left none =
    let nothing : high - low ≡ 0 = omega (arith, none) in
    let nobody : asked passes low (high - low) ≡ 0 = rw nothing refl in
    omega (arith, left.to_read, nobody)

-- where a search ends, the number passes, and the number before it fails
record IsReachedWithin (passes : ℕ → Bool) (low left i : ℕ) : Type 0 where
  from : low ≤ i
  within : i ≤ low + left
  holds : i < low + left → passes i ≡ true
  before : low < i → passes (i - 1) ≡ false

-- the search of the half that the middle number leaves is the search of all
choose-in : (there : Bool) (passes : ℕ → Bool) (low left before after : ℕ) → 0 < left → passes (low + left / 2) ≡ there
    → IsReachedWithin passes low (left / 2) before
    → IsReachedWithin passes (low + left / 2 + 1) (left - left / 2 - 1) after
    → IsReachedWithin passes low left (if there then before else after)
choose-in true passes low left before after some is first second = record {
  from = first.from;
  within = omega (arith, some, first.within);
  holds = λ below. elim (cases_lt before (low + left / 2)) [
    | inl less ↦ first.holds less
    | inr same ↦
        let here : before ≡ low + left / 2 = omega (arith, same, first.within) in
        rw here is
  ];
  before = first.before;
}
choose-in false passes low left before after some is first second = record {
  from = omega (arith, second.from);
  within = omega (arith, some, second.within);
  holds = λ below. second.holds (omega (arith, below, some));
  before = λ above. elim (cases_lt (low + left / 2 + 1) after) [
    | inl more ↦ second.before more
    | inr same ↦
        let here : after - 1 ≡ low + left / 2 = omega (arith, same, second.from) in
        rw here is
  ];
}

none-in : (passes : ℕ → Bool) (low : ℕ) → IsReachedWithin passes low 0 low
none-in passes low = record {
  from = omega arith;
  within = omega arith;
  holds = λ below. absurd (omega (arith, below));
  before = λ above. absurd (omega (arith, above));
}

reached-in : (passes : ℕ → Bool) (n low left : ℕ) → left ≤ n
    → IsReachedWithin passes low left (reached_within n passes low left)
unfolding reached_within
reached-in passes zero low left few = let none : left ≡ 0 = omega (arith, few) in rw none (none-in passes low)
reached-in passes (suc n) low zero few = none-in passes low
reached-in passes (suc n) low (suc rest) few =
    let left = suc rest in
    choose-in (passes (low + left / 2)) passes low left (reached_within n passes low (left / 2))
    (reached_within n passes (low + left / 2 + 1) (left - left / 2 - 1)) (omega arith) refl
    (reached-in passes n low (left / 2) (omega (arith, few)))
    (reached-in passes n (low + left / 2 + 1) (left - left / 2 - 1) (omega (arith, few)))

pub is-reached : (passes : ℕ → Bool) (n : ℕ) → IsReached passes n (reached n passes)
is-reached passes n =
    let it = reached-in passes n 0 n (omega arith) in
    record {
      within = omega (arith, it.within);
      holds = λ below. it.holds (omega (arith, below));
      before = it.before;
    }

-- if no number falls back, the search ends at the least number that passes, or past all
earlier-fails : (passes : ℕ → Bool) (n i : ℕ) → NeverFallsBack passes n → IsReached passes n i → (j : ℕ) → j < i
    → passes j ≡ false
earlier-fails passes n i order it j first =
    order j (i - 1) (omega (arith, first)) (omega (arith, first, it.within)) (it.before (omega (arith, first)))

pub reached-least : (passes : ℕ → Bool) (n : ℕ) → NeverFallsBack passes n → reached n passes < n
    → IsLeast passes n (reached n passes)
reached-least passes n order below = record {
  within = below;
  holds = (is-reached passes n).holds below;
  before = earlier-fails passes n (reached n passes) order (is-reached passes n);
}

pub past-all : (passes : ℕ → Bool) (n : ℕ) → NeverFallsBack passes n → n ≤ reached n passes → (j : ℕ) → j < n
    → passes j ≡ false
past-all passes n order past j first =
    earlier-fails passes n (reached n passes) order (is-reached passes n) j (omega (arith, first, past))

-- if no end falls, a range that does not reach the character has none before it that does
not-reached : (s : Subtable) (c k : ℕ) → reaches s c k ≡ false → range_end s k < c
not-reached s c k fails = grind (arith, nat_tests, fails)

pub in-order : (s : Subtable) (c : ℕ) → falling_range s ≡ None → NeverFallsBack (reaches s c) (range_count s)
in-order s c rises = λ j k up within fails.
    before-fails s rises c k within (not-reached s c k fails) j (omega (arith, up))

-- the first range that reaches the character is the one that the search finds
pub found : (s : Subtable) (c : ℕ) → falling_range s ≡ None → reached (range_count s) (reaches s c) < range_count s
    → range_of s c ≡ Some (reached (range_count s) (reaches s c))
found s c rises below =
    first_below_least (reaches s c) (range_count s) (reached (range_count s) (reaches s c))
    (reached-least (reaches s c) (range_count s) (in-order s c rises) below)

pub nothing-found : (s : Subtable) (c : ℕ) → falling_range s ≡ None
    → range_count s ≤ reached (range_count s) (reaches s c) → range_of s c ≡ None
nothing-found s c rises past =
    first_below_nothing (reaches s c) (range_count s) (past-all (reaches s c) (range_count s) (in-order s c rises) past)

pub in-plane : (s : Subtable) (c : ℕ) → c ≤ most_character s → IfSegments s (c ≤ 65535)
in-plane (segments m) c within = within
in-plane (groups m) c within = tt

-- a character that segments reach is in the Basic Multilingual Plane
pub not-beyond : (s : Subtable) (c g : ℕ) → IfSegments s (c ≤ 65535) → IfSegments s (65535 < c → g ≡ 0)
not-beyond (segments m) c g plane = λ beyond. absurd (omega (arith, plane, beyond))
not-beyond (groups m) c g plane = tt
