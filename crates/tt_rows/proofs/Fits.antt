-- Which units fit into a row: with so many units the row is no wider than the room, and with one more it is.
use Rattle.std.proofs.Common.{◌≡◌, ◌∙◌, sym, ap, subst, ℕ, zero, suc, ◌+◌, ◌<◌, ◌≤◌, true, false, List, [], ◌∷◌, ◌++◌, append-nil, append_assoc, length, take, drop, get_or, inl, inr, arith}
use Rattle.std.specs.Prelude.{nat_le}
use Rattle.std.proofs.lemmas.Bool.{cases_Bool, cond-true, cond-false, leb-false, leb-true, or_cases, or_parts}
use Rattle.std.proofs.lemmas.List.{drop_all, drop_more}
use Rattle.tt_rows.specs.declared.unit.RowUnit.{RowUnit}
use Rattle.tt_rows.specs.Breaks.{no_unit}
use Rattle.tt_rows.specs.Classes.{is_blank}
use Rattle.tt_rows.specs.Rows.{fits_at, fitting, fitting_from}
use Rattle.tt_rows.specs.Widths.{row_width}
use Rattle.tt_rows.proofs.Widths.{blank_adds_none, kerned_push, kerned_sum, letter_adds_step}

-- one unit
fits_here : (room pen : ℕ) (u : RowUnit) (us : List RowUnit) → fits_at room pen u ≡ true
    → fitting_from room pen (u ∷ us) ≡ suc (fitting_from room (pen + u.kerned) us)
fits_here room pen u us fits = cond-true _ _ _ fits

over_here : (room pen : ℕ) (u : RowUnit) (us : List RowUnit) → fits_at room pen u ≡ false
    → fitting_from room pen (u ∷ us) ≡ 0
over_here room pen u us over = cond-false _ _ _ over

pub fitting_within_from : (room pen : ℕ) (us : List RowUnit) → fitting_from room pen us ≤ length us
fitting_within_from room pen [] = omega arith
fitting_within_from room pen (u ∷ us) =
    elim (cases_Bool (fits_at room pen u)) [
      | inl fits ↦
          let same = fits_here room pen u us fits in
          let rest = fitting_within_from room (pen + u.kerned) us in
          omega (arith, same, rest)
      | inr over ↦ let same = over_here room pen u us over in omega (arith, same)
    ]

-- a row with one unit more
wider_by_one : (room : ℕ) (vs : List RowUnit) (u : RowUnit) → row_width vs ≤ room → fits_at room (kerned_sum vs) u ≡ true
    → row_width (vs ++ u ∷ []) ≤ room
wider_by_one room vs u was fits =
    elim (cases_Bool (is_blank u.character)) [
      | inl blank ↦ let same = blank_adds_none vs u blank in omega (arith, same, was)
      | inr letter ↦
          elim (or_cases (is_blank u.character) (nat_le (kerned_sum vs + u.step) room) fits) [
            | inl blank ↦ let clash = sym letter ∙ blank in cc
            | inr low ↦
                let same = letter_adds_step vs u letter in
                let fit = leb-true (kerned_sum vs + u.step) room low in
                omega (arith, same, fit)
          ]
    ]

over_by_one : (room : ℕ) (vs : List RowUnit) (u : RowUnit) → fits_at room (kerned_sum vs) u ≡ false
    → room < row_width (vs ++ u ∷ [])
over_by_one room vs u over =
    let parts = or_parts (is_blank u.character) (nat_le (kerned_sum vs + u.step) room) over in
    let same = letter_adds_step vs u parts.0 in
    let high = leb-false (kerned_sum vs + u.step) room parts.1 in
    omega (arith, same, high)

-- the units from place n of a row on, behind those before it
next_pen : (room : ℕ) (vs : List RowUnit) (u : RowUnit) (us : List RowUnit)
    → fitting_from room (kerned_sum vs + u.kerned) us ≡ fitting_from room (kerned_sum (vs ++ u ∷ [])) us
next_pen room vs u us = ap (λ pen. fitting_from room pen us) (sym (kerned_push vs u))

all_within : (room : ℕ) (vs us : List RowUnit) (k : ℕ) → row_width vs ≤ room → k ≤ fitting_from room (kerned_sum vs) us
    → row_width (vs ++ take k us) ≤ room
all_within room vs us zero was few = subst (λ l. row_width l ≤ room) (sym (append-nil vs)) was
all_within room vs [] (suc k) was few = absurd (omega (arith, few))
all_within room vs (u ∷ us) (suc k) was few =
    elim (cases_Bool (fits_at room (kerned_sum vs) u)) [
      | inl fits ↦
          let same = fits_here room (kerned_sum vs) u us fits in
          let pen = next_pen room vs u us in
          let rest : row_width ((vs ++ u ∷ []) ++ take k us) ≤ room =
          all_within room (vs ++ u ∷ []) us k (wider_by_one room vs u was fits) (omega (arith, few, same, pen)) in
          subst (λ l. row_width l ≤ room) (append_assoc vs (u ∷ []) (take k us)) rest
      | inr over ↦ let same = over_here room (kerned_sum vs) u us over in absurd (omega (arith, few, same))
    ]

one_over : (room : ℕ) (vs us : List RowUnit) → fitting_from room (kerned_sum vs) us < length us
    → room < row_width (vs ++ take (suc (fitting_from room (kerned_sum vs) us)) us)
one_over room vs [] few = absurd (omega (arith, few))
one_over room vs (u ∷ us) few =
    elim (cases_Bool (fits_at room (kerned_sum vs) u)) [
      | inl fits ↦
          let same = fits_here room (kerned_sum vs) u us fits in
          let pen = next_pen room vs u us in
          let now : fitting_from room (kerned_sum vs) (u ∷ us) ≡ suc (fitting_from room (kerned_sum (vs ++ u ∷ [])) us)
          = same ∙ ap suc pen in
          let f = fitting_from room (kerned_sum (vs ++ u ∷ [])) us in
          let rest : room < row_width ((vs ++ u ∷ []) ++ take (suc f) us) = one_over room (vs ++ u ∷ []) us (omega (arith, few, now)) in
          let joined : room < row_width (vs ++ u ∷ take (suc f) us) =
          subst (λ l. room < row_width l) (append_assoc vs (u ∷ []) (take (suc f) us)) rest in
          subst (λ n. room < row_width (vs ++ take (suc n) (u ∷ us))) (sym now) joined
      | inr over ↦
          let none = over_here room (kerned_sum vs) u us over in
          subst (λ n. room < row_width (vs ++ take (suc n) (u ∷ us))) (sym none) (over_by_one room vs u over)
    ]

-- so many units of a row, and all fewer, are no wider than the room
pub fitting_fits : (room : ℕ) (us : List RowUnit) (k : ℕ) → k ≤ fitting room us → row_width (take k us) ≤ room
fitting_fits room us k few = let none : 0 ≤ room = omega arith in all_within room [] us k none few

-- one unit more is wider
pub fitting_is_most : (room : ℕ) (us : List RowUnit) → fitting room us < length us → room < row_width (take (suc (fitting room us)) us)
fitting_is_most room us few = one_over room [] us few

pub fitting_within : (room : ℕ) (us : List RowUnit) → fitting room us ≤ length us
fitting_within room us = fitting_within_from room 0 us

-- ---- for the loop

pub one_fits : (room pen i : ℕ) (us : List RowUnit) → i < length us → fits_at room pen (get_or us i no_unit) ≡ true
    → fitting_from room pen (drop i us) ≡ suc (fitting_from room (pen + (get_or us i no_unit).kerned) (drop (i + 1) us))
one_fits room pen i us below fits =
    ap (fitting_from room pen) (drop_more us i no_unit below) ∙ fits_here room pen (get_or us i no_unit) (drop (i + 1) us) fits

pub none_fits : (room pen i : ℕ) (us : List RowUnit) → i < length us → fits_at room pen (get_or us i no_unit) ≡ false
    → fitting_from room pen (drop i us) ≡ 0
none_fits room pen i us below over =
    ap (fitting_from room pen) (drop_more us i no_unit below) ∙ over_here room pen (get_or us i no_unit) (drop (i + 1) us) over

pub all_fit : (room pen i : ℕ) (us : List RowUnit) → length us ≤ i → fitting_from room pen (drop i us) ≡ 0
all_fit room pen i us over = ap (fitting_from room pen) (drop_all i us over)
