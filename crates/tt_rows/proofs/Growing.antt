-- Rows grow with their units where kerning draws none nearer, so the units that fit one after the other are the most that fit.
use Rattle.std.proofs.Common.{◌≡◌, ◌∙◌, sym, ap, subst, ℕ, zero, suc, ◌+◌, ◌-◌, ◌≤◌, List, [], ◌∷◌, ◌++◌, length, take, get_or, inl, inr, arith}
use Rattle.std.proofs.lemmas.Bool.{cases_Bool, cases_lt, cond_both}
use Rattle.std.proofs.lemmas.List.{take_more}
use Rattle.tt_rows.specs.declared.unit.RowUnit.{RowUnit}
use Rattle.tt_rows.specs.Breaks.{no_unit}
use Rattle.tt_rows.specs.Classes.{is_blank}
use Rattle.tt_rows.specs.RowLaws.{AreNotPulled, FittingIsGreatest}
use Rattle.tt_rows.specs.Rows.{fitting}
use Rattle.tt_rows.specs.Widths.{drawn, drawn_before, drawn_width, row_width}
use Rattle.tt_rows.proofs.Fits.{fitting_fits, fitting_is_most}
use Rattle.tt_rows.proofs.Widths.{blank_adds_none, kerned_sum, letter_adds_step}

low_before : (u : RowUnit) (ds : List RowUnit) (n : ℕ) → u.step ≤ u.kerned → drawn_width ds ≤ n
    → drawn_width (drawn_before u ds) ≤ u.kerned + n
low_before u [] n low rest =
    cond_both (is_blank u.character) [] (u ∷ []) (λ (l : List RowUnit). drawn_width l ≤ u.kerned + n)
    (λ blank. let none : 0 ≤ u.kerned + n = omega arith in none)
    (λ letter. let one : u.step + 0 ≤ u.kerned + n = omega (arith, low) in one)
low_before u (d ∷ ds) n low rest = let more : u.kerned + drawn_width (d ∷ ds) ≤ u.kerned + n = omega (arith, rest) in more

-- a row ends at the pen of the next unit, or before
low_pen : (vs : List RowUnit) → AreNotPulled vs → row_width vs ≤ kerned_sum vs
low_pen [] free = let none : 0 ≤ 0 = omega arith in none
low_pen (u ∷ us) free = low_before u (drawn us) (kerned_sum us) free.0 (low_pen us free.1)

grows_by_one : (vs : List RowUnit) (u : RowUnit) → AreNotPulled vs → row_width vs ≤ row_width (vs ++ u ∷ [])
grows_by_one vs u free =
    elim (cases_Bool (is_blank u.character)) [
      | inl blank ↦ let same = blank_adds_none vs u blank in omega (arith, same)
      | inr letter ↦ let same = letter_adds_step vs u letter in let low = low_pen vs free in omega (arith, same, low)
    ]

first_ones : (us : List RowUnit) (k : ℕ) → AreNotPulled us → AreNotPulled (take k us)
first_ones us zero free = tt
first_ones [] (suc k) free = tt
first_ones (u ∷ us) (suc k) free = (free.0, first_ones us k free.1)

grows : (us : List RowUnit) (k d : ℕ) → AreNotPulled us → k + d ≤ length us → row_width (take k us) ≤ row_width (take (k + d) us)
grows us k zero free within =
    let same : k ≡ k + 0 = omega arith in
    subst (λ n. row_width (take k us) ≤ row_width (take n us)) same (let all : row_width (take k us) ≤ row_width (take k us) = omega arith in all)
grows us k (suc d) free within =
    let less = grows us k d free (omega (arith, within)) in
    let vs = take (k + d) us in
    let u = get_or us (k + d) no_unit in
    let one = grows_by_one vs u (first_ones us (k + d) free) in
    let more : take (k + d + 1) us ≡ vs ++ u ∷ [] = take_more us (k + d) no_unit (omega (arith, within)) in
    let count : k + d + 1 ≡ k + suc d = omega arith in
    let all : take (k + suc d) us ≡ vs ++ u ∷ [] = sym (ap (λ n. take n us) count) ∙ more in
    let both : row_width (take k us) ≤ row_width (vs ++ u ∷ []) = omega (arith, less, one) in
    subst (λ (l : List RowUnit). row_width (take k us) ≤ row_width l) (sym all) both

pub fitting_greatest : FittingIsGreatest
fitting_greatest room us k free within = (
  λ low.
      elim (cases_lt (fitting room us) k) [
        | inl less ↦
            let f = suc (fitting room us) in
            let over = fitting_is_most room us (omega (arith, less, within)) in
            let d = k - f in
            let sum : f + d ≡ k = omega (arith, less) in
            let wide : row_width (take f us) ≤ row_width (take k us) =
            subst (λ n. row_width (take f us) ≤ row_width (take n us)) sum (grows us f d free (omega (arith, sum, within))) in
            absurd (omega (arith, over, wide, low))
        | inr most ↦ most
      ],
  λ few. fitting_fits room us k few,
)
