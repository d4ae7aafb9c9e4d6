-- The units of a line, one by one.
use Rattle.std.proofs.Common.{◌≡◌, ◌∙◌, refl, sym, ap, ap₂, ℕ, ◌+◌, ◌<◌, List, [], ◌∷◌, ◌++◌, append_assoc, length, drop, get_or, arith}
use Rattle.std.proofs.lemmas.List.{drop_more}
use Rattle.tt_cmap.specs.declared.units.TextUnit.{TextUnit}
use Rattle.tt_rows.specs.declared.unit.RowUnit.{RowUnit}
use Rattle.tt_rows.specs.Units.{row_unit, row_units}

pub one_unit : (u : TextUnit) (us : List TextUnit) (ps ks : List (ℕ × ℕ)) (i : ℕ) (made : List RowUnit)
    → i < length ps → i < length ks
    → (made ++ row_unit u (get_or ps i (0, 0)) (get_or ks i (0, 0)) ∷ []) ++ row_units us (drop (i + 1) ps) (drop (i + 1) ks)
    ≡ made ++ row_units (u ∷ us) (drop i ps) (drop i ks)
one_unit u us ps ks i made below within =
    let p = get_or ps i (0, 0) in
    let k = get_or ks i (0, 0) in
    let here : row_units (u ∷ us) (drop i ps) (drop i ks) ≡ row_unit u p k ∷ row_units us (drop (i + 1) ps) (drop (i + 1) ks)
    = ap₂ (λ (x y : List (ℕ × ℕ)). row_units (u ∷ us) x y) (drop_more ps i (0, 0) below) (drop_more ks i (0, 0) within) in
    append_assoc made (row_unit u p k ∷ []) (row_units us (drop (i + 1) ps) (drop (i + 1) ks))
    ∙ sym (ap (λ (l : List RowUnit). made ++ l) here)

pub as_many : (us : List TextUnit) (ps ks : List (ℕ × ℕ)) → length ps ≡ length us → length ks ≡ length ps
    → length (row_units us ps ks) ≡ length ps
as_many [] ps ks many kerned = sym many
as_many (u ∷ us) [] ks many kerned = refl
as_many (u ∷ us) (p ∷ ps) [] many kerned = absurd (omega (arith, kerned))
as_many (u ∷ us) (p ∷ ps) (k ∷ ks) many kerned =
    let rest = as_many us ps ks (omega (arith, many)) (omega (arith, kerned)) in
    omega (arith, rest)
