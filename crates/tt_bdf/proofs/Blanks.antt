-- The blanks at both ends of a name.
use Rattle.std.proofs.Common.{◌≡◌, ◌∙◌, refl, sym, ℕ, zero, suc, ◌+◌, ◌-◌, ◌<◌, ◌≤◌, true, false, List, [], ◌∷◌, length, drop, drop-cons, add-one, slice_index, arith}
use Rattle.std.proofs.lemmas.List.{at_drop_all, at_drop_more}
use Rattle.tt_bdf.specs.Style.{end_within, is_visible, without_front}

pub blank_more : (t : List ℕ) (i : ℕ) → i < length t → is_visible (slice_index t i) ≡ false
    → without_front (drop (i + 1) t) ≡ without_front (drop i t)
blank_more t i below blank = sym (at_drop_more without_front t i 0 below ∙ rw blank refl)

pub no_blank : (t : List ℕ) (i : ℕ) → i < length t → is_visible (slice_index t i) ≡ true
    → without_front (drop i t) ≡ drop i t
no_blank t i below visible =
    let whole : drop i t ≡ slice_index t i ∷ drop (i + 1) t = rw add-one (drop-cons t i 0 below) in
    at_drop_more without_front t i 0 below ∙ rw visible (sym whole)

pub all_blank : (t : List ℕ) (i : ℕ) → length t ≤ i → without_front (drop i t) ≡ []
all_blank t i past = at_drop_all without_front t i past

-- a blank at the end
pub end_less : (t : List ℕ) (n : ℕ) → 0 < n → is_visible (slice_index t (n - 1)) ≡ false
    → end_within t (n - 1) ≡ end_within t n
end_less t zero some blank = absurd (omega arith)
end_less t (suc n) some blank =
    let same : suc n - 1 ≡ n = omega arith in
    let is : is_visible (slice_index t n) ≡ false = rw same at blank in
    rw (same, is) refl

pub end_here : (t : List ℕ) (n : ℕ) → 0 < n → is_visible (slice_index t (n - 1)) ≡ true → end_within t n ≡ n
end_here t zero some visible = absurd (omega arith)
end_here t (suc n) some visible =
    let same : suc n - 1 ≡ n = omega arith in
    let is : is_visible (slice_index t n) ≡ true = rw same at visible in
    rw is refl
