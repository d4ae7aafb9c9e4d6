-- The width of a row with one unit more: a blank adds nothing, and another unit its step.
use Rattle.std.proofs.Common.{◌≡◌, ◌∙◌, refl, ap, ℕ, ◌+◌, ◌≤◌, true, false, List, [], ◌∷◌, ◌++◌, arith}
use Rattle.std.proofs.lemmas.Bool.{cond-true, cond-false}
use Rattle.tt_rows.specs.declared.unit.RowUnit.{RowUnit}
use Rattle.tt_rows.specs.Classes.{is_blank}
use Rattle.tt_rows.specs.Widths.{drawn, drawn_before, drawn_width, row_width, step_before}

-- the pen after some units that another follows
abbrev pub kerned_sum : List RowUnit → ℕ
kerned_sum [] = 0
kerned_sum (u ∷ us) = u.kerned + kerned_sum us

pub kerned_push : (vs : List RowUnit) (u : RowUnit) → kerned_sum (vs ++ u ∷ []) ≡ kerned_sum vs + u.kerned
kerned_push [] u = let whole : u.kerned + 0 ≡ 0 + u.kerned = omega arith in whole
kerned_push (v ∷ vs) u =
    let rest = kerned_push vs u in
    let whole : v.kerned + kerned_sum (vs ++ u ∷ []) ≡ v.kerned + kerned_sum vs + u.kerned = omega (arith, rest) in
    whole

pub drawn_blank : (vs : List RowUnit) (u : RowUnit) → is_blank u.character ≡ true → drawn (vs ++ u ∷ []) ≡ drawn vs
drawn_blank [] u blank = cond-true _ _ _ blank
drawn_blank (v ∷ vs) u blank = ap (drawn_before v) (drawn_blank vs u blank)

before_some : (u : RowUnit) (us : List RowUnit) (x : RowUnit) (xs : List RowUnit)
    → drawn_before u (us ++ x ∷ xs) ≡ u ∷ (us ++ x ∷ xs)
before_some u [] x xs = refl
before_some u (v ∷ us) x xs = refl

drawn_after : (vs ws : List RowUnit) (x : RowUnit) (xs : List RowUnit) → drawn ws ≡ x ∷ xs → drawn (vs ++ ws) ≡ vs ++ x ∷ xs
drawn_after [] ws x xs h = h
drawn_after (v ∷ vs) ws x xs h = ap (drawn_before v) (drawn_after vs ws x xs h) ∙ before_some v vs x xs

before_letter : (u : RowUnit) (us : List RowUnit) → is_blank u.character ≡ false → drawn_before u us ≡ u ∷ us
before_letter u [] letter = cond-false _ _ _ letter
before_letter u (v ∷ us) letter = refl

-- all units up to the last one that is no blank are drawn
pub drawn_letter : (vs : List RowUnit) (u : RowUnit) (us : List RowUnit) → is_blank u.character ≡ false
    → drawn (vs ++ u ∷ us) ≡ vs ++ u ∷ drawn us
drawn_letter vs u us letter = drawn_after vs (u ∷ us) u (drawn us) (before_letter u (drawn us) letter)

step_some : (u : RowUnit) (us : List RowUnit) (x : RowUnit) (xs : List RowUnit) → step_before u (us ++ x ∷ xs) ≡ u.kerned
step_some u [] x xs = refl
step_some u (v ∷ us) x xs = refl

width_after : (vs : List RowUnit) (x : RowUnit) (xs : List RowUnit)
    → drawn_width (vs ++ x ∷ xs) ≡ kerned_sum vs + drawn_width (x ∷ xs)
width_after [] x xs = let whole : drawn_width (x ∷ xs) ≡ 0 + drawn_width (x ∷ xs) = omega arith in whole
width_after (v ∷ vs) x xs =
    let rest = width_after vs x xs in
    let here = step_some v vs x xs in
    let whole : step_before v (vs ++ x ∷ xs) + drawn_width (vs ++ x ∷ xs) ≡ v.kerned + kerned_sum vs + drawn_width (x ∷ xs)
    = omega (arith, rest, here) in
    whole

pub blank_adds_none : (vs : List RowUnit) (u : RowUnit) → is_blank u.character ≡ true
    → row_width (vs ++ u ∷ []) ≡ row_width vs
blank_adds_none vs u blank = ap drawn_width (drawn_blank vs u blank)

pub letter_adds_step : (vs : List RowUnit) (u : RowUnit) → is_blank u.character ≡ false
    → row_width (vs ++ u ∷ []) ≡ kerned_sum vs + u.step
letter_adds_step vs u letter =
    let all : drawn_width (vs ++ u ∷ []) ≡ kerned_sum vs + (u.step + 0) = width_after vs u [] in
    let end : kerned_sum vs + (u.step + 0) ≡ kerned_sum vs + u.step = omega arith in
    ap drawn_width (drawn_letter vs u [] letter) ∙ all ∙ end

-- a row is no narrower than the pen of a unit that is no blank
pub letter_is_after : (vs : List RowUnit) (u : RowUnit) (us : List RowUnit) → is_blank u.character ≡ false
    → kerned_sum vs ≤ row_width (vs ++ u ∷ us)
letter_is_after vs u us letter =
    let same : row_width (vs ++ u ∷ us) ≡ drawn_width (vs ++ u ∷ drawn us) = ap drawn_width (drawn_letter vs u us letter) in
    let all = width_after vs u (drawn us) in
    omega (arith, same, all)
