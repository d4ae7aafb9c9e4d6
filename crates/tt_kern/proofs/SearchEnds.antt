-- Binary search: what holds where it ends, and how many numbers it tests.
use Rattle.std.proofs.Common.{◌≡◌, ℕ, zero, suc, ◌+◌, ◌-◌, ◌*◌, ◌/◌, ◌^◌, ◌<◌, ◌≤◌, if◌then◌else◌, Bool, true, false, inl, inr, refl, arith, pow-suc}
use Rattle.std.proofs.lemmas.Bool.{cases_lt}
use Rattle.tt_kern.specs.Halves.{asked_within, asked, reached_within, reached}
use Rattle.tt_kern.specs.Laws.{IsReached}

one-more : (b : Bool) (k : ℕ) {x y : ℕ} → x ≤ k → y ≤ k → (if b then 1 + x else 1 + y) ≤ suc k
one-more true k before after = omega (arith, before)
one-more false k before after = omega (arith, after)

-- fewer than 2^k numbers take at most k tests
few-within : (passes : ℕ → Bool) (n low left k : ℕ) → left < 2 ^ k → asked_within n passes low left ≤ k
unfolding asked_within
few-within passes zero low left k small = omega arith
few-within passes (suc n) low zero k small = omega arith
few-within passes (suc n) low (suc left) zero small = absurd (omega (arith, small))
few-within passes (suc n) low (suc left) (suc k) small =
    let power : 2 ^ suc k ≡ 2 ^ k * 2 = pow-suc 2 k in
    let before = few-within passes n low (suc left / 2) k (omega (arith, small, power)) in
    let after = few-within passes n (low + suc left / 2 + 1) (suc left - suc left / 2 - 1) k (omega (arith, small, power)) in
    one-more (passes (low + suc left / 2)) k before after

-- fewer than 2^k numbers take at most k tests
pub few-asked : (passes : ℕ → Bool) (n k : ℕ) → n < 2 ^ k → asked n passes ≤ k
few-asked passes n k small = few-within passes n 0 n k small

-- where a search ends, the number passes, and the number before it fails
record IsReachedWithin (passes : ℕ → Bool) (low left i : ℕ) : Type 0 where
  from : low ≤ i
  within : i ≤ low + left
  holds : i < low + left → passes i ≡ true
  before : low < i → passes (i - 1) ≡ false

-- the search of the half that the middle number leaves is the search of all
choose-in : (there : Bool) (passes : ℕ → Bool) (low left before after : ℕ) → 0 < left → passes (low + left / 2) ≡ there
    → IsReachedWithin passes low (left / 2) before
    → IsReachedWithin passes (low + left / 2 + 1) (left - left / 2 - 1) after
    → IsReachedWithin passes low left (if there then before else after)
choose-in true passes low left before after some is first second = record {
  from = first.from;
  within = omega (arith, some, first.within);
  holds = λ below. elim (cases_lt before (low + left / 2)) [
    | inl less ↦ first.holds less
    | inr same ↦
        let here : before ≡ low + left / 2 = omega (arith, same, first.within) in
        rw here is
  ];
  before = first.before;
}
choose-in false passes low left before after some is first second = record {
  from = omega (arith, second.from);
  within = omega (arith, some, second.within);
  holds = λ below. second.holds (omega (arith, below, some));
  before = λ above. elim (cases_lt (low + left / 2 + 1) after) [
    | inl more ↦ second.before more
    | inr same ↦
        let here : after - 1 ≡ low + left / 2 = omega (arith, same, second.from) in
        rw here is
  ];
}

none-in : (passes : ℕ → Bool) (low : ℕ) → IsReachedWithin passes low 0 low
none-in passes low = record {
  from = omega arith;
  within = omega arith;
  holds = λ below. absurd (omega (arith, below));
  before = λ above. absurd (omega (arith, above));
}

reached-in : (passes : ℕ → Bool) (n low left : ℕ) → left ≤ n
    → IsReachedWithin passes low left (reached_within n passes low left)
unfolding reached_within
reached-in passes zero low left few = let none : left ≡ 0 = omega (arith, few) in rw none (none-in passes low)
reached-in passes (suc n) low zero few = none-in passes low
reached-in passes (suc n) low (suc rest) few =
    let left = suc rest in
    choose-in (passes (low + left / 2)) passes low left (reached_within n passes low (left / 2))
    (reached_within n passes (low + left / 2 + 1) (left - left / 2 - 1)) (omega arith) refl
    (reached-in passes n low (left / 2) (omega (arith, few)))
    (reached-in passes n (low + left / 2 + 1) (left - left / 2 - 1) (omega (arith, few)))

pub is-reached : (passes : ℕ → Bool) (n : ℕ) → IsReached passes n (reached n passes)
is-reached passes n =
    let it = reached-in passes n 0 n (omega arith) in
    record {
      within = omega (arith, it.within);
      holds = λ below. it.holds (omega (arith, below));
      before = it.before;
    }
