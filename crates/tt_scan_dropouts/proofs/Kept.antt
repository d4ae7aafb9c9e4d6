-- A pass leaves no gap white that needs a pixel: a gap that gives way has the pixel in common with the gap left of it,
-- which takes that pixel.
use Rattle.std.proofs.Common.{◌≡◌, refl, sym, ◌∙◌, ap, ap₂, ℕ, zero, suc, ◌+◌, Bool, true, false, not, ◌&&◌, ◌||◌, min, if◌then◌else◌, Option, inl, inr, arith}
use Rattle.std.specs.Prelude.{ℤ, pos, ◌+ℤ◌, ◌-ℤ◌}
use Rattle.std.proofs.lemmas.Bool.{cases_Bool}
use Rattle.std.proofs.lemmas.Int.{ints}
use Rattle.std.specs.Ordering.{int_eq}
use Rattle.tt_scan_gaps.specs.Boxes.{columns_in}
use Rattle.tt_scan_gaps.specs.Gaps.{asked, asked_rightwards, gap_marks, gives_way, is_asked, is_odd, pixel_of}
use Rattle.tt_scan_gaps.specs.Walk.{marks}
use Rattle.tt_scan_dropouts.specs.Laws.{NoGapStaysWhite}
use Rattle.tt_scan_gaps.proofs.GivesWay.{counted_on}
use Rattle.tt_scan_dropouts.proofs.PassSteps.{asked_near}

-- the gap left of a gap that gives way

even_before : (n : ℕ) → is_odd (min n 3 + 1) ≡ true → is_odd n ≡ false
even_before zero odd = refl
even_before (suc zero) odd = absurd cc
even_before (suc (suc zero)) odd = refl
even_before (suc (suc (suc n))) odd =
    let three : min (suc (suc (suc n))) 3 ≡ 3 = omega arith in
    let no : false ≡ true = rw three at odd in
    absurd cc

before_odd : (right : Bool) (n : ℕ) → is_odd (if right then min n 3 + 1 else 0) ≡ true → (right ≡ true) × (is_odd n ≡ false)
before_odd true n odd = (refl, even_before n odd)
before_odd false n odd = absurd cc

left_takes : (ask : ℤ → Option ℤ) (c : ℤ) → gives_way ask c ≡ true
    → (is_asked (ask (c -ℤ pos 1)) c ≡ true) × (gives_way ask (c -ℤ pos 1) ≡ false)
unfolding gives_way
left_takes ask c gives =
    before_odd (is_asked (ask (c -ℤ pos 1)) c) (asked_rightwards 4 ask (c -ℤ pos 1)) (ap is_odd (sym (counted_on ask c)) ∙ gives)

-- one of the two pixels of a gap that needs one is taken

abbrev takes : (ℤ → Option ℤ) → ℤ → ℤ → Bool
takes ask c p = is_asked (ask c) p && not (gives_way ask c)

takes_it : (ask : ℤ → Option ℤ) (c p : ℤ) → is_asked (ask c) p ≡ true → gives_way ask c ≡ false → takes ask c p ≡ true
takes_it ask c p asks stays = ap₂ (λ x y. x && not y) asks stays

abbrev is_taken : (ℤ → Option ℤ) → ℤ → Bool
is_taken ask p = takes ask p p || takes ask (p -ℤ pos 1) p

first_of : (a b d : Bool) → a ≡ true → ((a || b) || d) ≡ true
first_of a b d is = rw is refl

second_of : (a b d : Bool) → b ≡ true → ((a || b) || d) ≡ true
second_of true b d is = refl
second_of false b d is = rw is refl

last_of : (a b d : Bool) → d ≡ true → (a || (b || d)) ≡ true
last_of true b d is = refl
last_of false true d is = refl
last_of false false d is = is

one_is_taken : (ask : ℤ → Option ℤ) (c q : ℤ) → (int_eq c q || int_eq (c +ℤ pos 1) q) ≡ true → is_asked (ask c) q ≡ true
    → (is_taken ask c || is_taken ask (c +ℤ pos 1)) ≡ true
one_is_taken ask c q near asks =
    let right = c +ℤ pos 1 in
    elim (cases_Bool (gives_way ask c)) [
      | inl gives ↦
          let left = left_takes ask c gives in
          second_of (takes ask c c) (takes ask (c -ℤ pos 1) c) (is_taken ask right)
          (takes_it ask (c -ℤ pos 1) c left.0 left.1)
      | inr stays ↦ elim (cases_Bool (int_eq c q)) [
        | inl same ↦
            let own : q ≡ c = grind (arith, ints, same) in
            first_of (takes ask c c) (takes ask (c -ℤ pos 1) c) (is_taken ask right)
            (takes_it ask c c (ap (is_asked (ask c)) (sym own) ∙ asks) stays)
        | inr other ↦
            let next : q ≡ right = grind (arith, ints, near, other) in
            let back : right -ℤ pos 1 ≡ c = omega (arith, ints) in
            last_of (is_taken ask c) (takes ask right right) (takes ask (right -ℤ pos 1) right)
            (ap (λ g. takes ask g right) back ∙ takes_it ask c right (ap (is_asked (ask c)) (sym next) ∙ asks) stays)
      ]
    ]

itself : (q : ℤ) → int_eq q q ≡ true
itself q = grind (arith, ints)

pub no_gap_stays_white : NoGapStaysWhite
no_gap_stays_white rules contours black c j free some =
    let b = columns_in rules.extents in
    let ms = marks rules.rules.stubs contours in
    let q = pixel_of rules.rules b c (gap_marks ms j c) in
    let asks : is_asked (asked rules.rules b ms black j c) q ≡ true = rw (free, some) (itself q) in
    one_is_taken (asked rules.rules b ms black j) c q (asked_near rules.rules b ms black j c q asks) asks
