-- Whether a gap gives way, by the pixels that the four gaps left of it need.
use Rattle.std.proofs.Common.{◌≡◌, refl, ap, ap₂, ◌∙◌, ℕ, zero, suc, ◌+◌, Bool, true, false, if◌then◌else◌, Option, arith}
use Rattle.std.specs.Prelude.{ℤ, pos, ◌+ℤ◌, ◌-ℤ◌, ◌≤ℤ◌, ◌<ℤ◌, min}
use Rattle.std.proofs.lemmas.Int.{ints}
use Rattle.tt_scan_gaps.specs.Gaps.{asked_rightwards, gives_way, is_asked, is_odd}

-- two lines whose gaps left of one need the same pixels
rightwards_alike : (most : ℕ) (ask other : ℤ → Option ℤ) (c : ℤ)
    → ((g : ℤ) → (c -ℤ pos most) ≤ℤ g → g <ℤ c → ask g ≡ other g)
    → asked_rightwards most ask c ≡ asked_rightwards most other c
rightwards_alike zero ask other c same = refl
rightwards_alike (suc most) ask other c same =
    let here = same (c -ℤ pos 1) (omega (arith, ints)) (omega (arith, ints)) in
    let rest = rightwards_alike most ask other (c -ℤ pos 1)
    (λ g low high. same g (omega (arith, ints, low)) (omega (arith, ints, high))) in
    ap₂ (λ o n. if is_asked o c then suc n else 0) here rest

pub gives_alike : (ask other : ℤ → Option ℤ) (c : ℤ) → ((g : ℤ) → (c -ℤ pos 4) ≤ℤ g → g <ℤ c → ask g ≡ other g)
    → gives_way ask c ≡ gives_way other c
unfolding gives_way
gives_alike ask other c same = ap is_odd (rightwards_alike 4 ask other c same)

pub gives_same : (ask other : ℤ → Option ℤ) (c : ℤ) → ((g : ℤ) → ask g ≡ other g) → gives_way ask c ≡ gives_way other c
gives_same ask other c same = gives_alike ask other c (λ g low high. same g)

-- a line moved by as many gaps as the pixels that its gaps need
rightwards_moved : (most : ℕ) (ask there : ℤ → Option ℤ) (k : ℤ)
    → ((c p : ℤ) → is_asked (there (c +ℤ k)) (p +ℤ k) ≡ is_asked (ask c) p)
    → (c : ℤ) → asked_rightwards most there (c +ℤ k) ≡ asked_rightwards most ask c
rightwards_moved zero ask there k same c = refl
rightwards_moved (suc most) ask there k same c =
    let before : (c +ℤ k) -ℤ pos 1 ≡ (c -ℤ pos 1) +ℤ k = omega (arith, ints) in
    ap (λ d. if is_asked (there d) (c +ℤ k) then suc (asked_rightwards most there d) else 0) before
    ∙ ap₂ (λ b n. if b then suc n else 0) (same (c -ℤ pos 1) c) (rightwards_moved most ask there k same (c -ℤ pos 1))

pub gives_moved : (ask there : ℤ → Option ℤ) (k : ℤ)
    → ((c p : ℤ) → is_asked (there (c +ℤ k)) (p +ℤ k) ≡ is_asked (ask c) p)
    → (c : ℤ) → gives_way there (c +ℤ k) ≡ gives_way ask c
unfolding gives_way
gives_moved ask there k same c = ap is_odd (rightwards_moved 4 ask there k same c)

-- counted to one less

capped_on : (right : Bool) (n m most : ℕ) → n ≡ min m most
    → (if right then suc n else 0) ≡ min (if right then suc m else 0) (suc most)
capped_on true n m most more = omega (arith, more)
capped_on false n m most more = omega arith

capped_at_none : (n : ℕ) → 0 ≡ min n 0
capped_at_none n = omega arith

capped : (most : ℕ) (ask : ℤ → Option ℤ) (c : ℤ)
    → asked_rightwards most ask c ≡ min (asked_rightwards (suc most) ask c) most
capped zero ask c = capped_at_none (asked_rightwards 1 ask c)
capped (suc most) ask c = capped_on (is_asked (ask (c -ℤ pos 1)) c) (asked_rightwards most ask (c -ℤ pos 1))
    (asked_rightwards (suc most) ask (c -ℤ pos 1)) most (capped most ask (c -ℤ pos 1))

-- the number for a gap, by that for the gap left of it

next_number : (right : Bool) (n m most : ℕ) → n ≡ min m most
    → (if right then suc n else 0) ≡ (if right then min m most + 1 else 0)
next_number true n m most more = omega (arith, more)
next_number false n m most more = refl

one_gap_on : (most : ℕ) (ask : ℤ → Option ℤ) (c : ℤ) → asked_rightwards (suc most) ask c
    ≡ (if is_asked (ask (c -ℤ pos 1)) c then min (asked_rightwards (suc most) ask (c -ℤ pos 1)) most + 1 else 0)
one_gap_on most ask c = next_number (is_asked (ask (c -ℤ pos 1)) c) (asked_rightwards most ask (c -ℤ pos 1))
    (asked_rightwards (suc most) ask (c -ℤ pos 1)) most (capped most ask (c -ℤ pos 1))

pub counted_on : (ask : ℤ → Option ℤ) (c : ℤ) → asked_rightwards 4 ask c
    ≡ (if is_asked (ask (c -ℤ pos 1)) c then min (asked_rightwards 4 ask (c -ℤ pos 1)) 3 + 1 else 0)
counted_on ask c = one_gap_on 3 ask c
