-- Whether a pass adds a pixel depends only on the gaps from five left of it to the gap right of it: on which of those
-- that have a mark that needs a pixel are free.
use Rattle.std.proofs.Common.{◌≡◌, refl, Bool, true, false, ◌&&◌, List, inl, inr, arith}
use Rattle.std.specs.Prelude.{ℤ, pos, ◌-ℤ◌, ◌≤ℤ◌}
use Rattle.std.proofs.lemmas.Bool.{cases_Bool}
use Rattle.std.proofs.lemmas.Int.{ints}
use Rattle.tt_scan_gaps.specs.Gaps.{asked, gap_marks, is_added, is_free, some_asks}
use Rattle.tt_scan_gaps.specs.declared.mark.Columns.{Columns}
use Rattle.tt_scan_gaps.specs.declared.mark.Mark.{Mark}
use Rattle.tt_scan_gaps.specs.declared.mark.Rules.{Rules}
use Rattle.tt_scan_gaps.proofs.GivesWay.{gives_alike}

-- two pictures agree about the gaps round a pixel of a line
abbrev pub AgreeRound : List Mark → (ℤ → ℤ → Bool) → (ℤ → ℤ → Bool) → ℤ → ℤ → Type 0
AgreeRound ms black other p j = (c : ℤ) → (p -ℤ pos 5) ≤ℤ c → c ≤ℤ p → some_asks (gap_marks ms j c) ≡ true
    → is_free black c j ≡ is_free other c j

neither : (b : Bool) → (b && false) ≡ false
neither true = refl
neither false = refl

asked_alike : (rules : Rules) (b : Columns) (ms : List Mark) (black other : ℤ → ℤ → Bool) (p c j : ℤ)
    → AgreeRound ms black other p j → (p -ℤ pos 5) ≤ℤ c → c ≤ℤ p
    → asked rules b ms black j c ≡ asked rules b ms other j c
asked_alike rules b ms black other p c j same low high = elim (cases_Bool (some_asks (gap_marks ms j c))) [
  | inl some ↦ rw (same c low high some) refl
  | inr none ↦ rw (none, neither (is_free black c j), neither (is_free other c j)) refl
]

pub added_alike : (rules : Rules) (b : Columns) (ms : List Mark) (black other : ℤ → ℤ → Bool) (p j : ℤ)
    → AgreeRound ms black other p j → is_added rules b ms black p j ≡ is_added rules b ms other p j
added_alike rules b ms black other p j same =
    let here = asked_alike rules b ms black other p p j same (omega (arith, ints)) (omega (arith, ints)) in
    let left = asked_alike rules b ms black other p (p -ℤ pos 1) j same (omega (arith, ints)) (omega (arith, ints)) in
    let gives = gives_alike (asked rules b ms black j) (asked rules b ms other j) p
    (λ g low high. asked_alike rules b ms black other p g j same (omega (arith, ints, low)) (omega (arith, ints, high))) in
    let gives_left = gives_alike (asked rules b ms black j) (asked rules b ms other j) (p -ℤ pos 1)
    (λ g low high. asked_alike rules b ms black other p g j same (omega (arith, ints, low)) (omega (arith, ints, high))) in
    rw (here, left, gives, gives_left) refl
