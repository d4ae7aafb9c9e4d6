-- A text before and after its first separator, one byte at a time.
use Rattle.std.proofs.Common.{◌≡◌, ◌∙◌, refl, sym, ℕ, ◌+◌, ◌<◌, ◌≤◌, ◌==◌, true, false, List, [], ◌∷◌, ◌++◌, length, take, drop, slice_index, append_assoc, Some, None}
use Rattle.std.proofs.lemmas.List.{append-nil, at_drop_all, at_drop_more, take_all, take_more}
use Rattle.tt_core.specs.Cutting.{after, before}

pub front_goes_on : (sep : ℕ) (t : List ℕ) (i : ℕ) → i < length t → (slice_index t i == sep) ≡ false
    → take (i + 1) t ++ before sep (drop (i + 1) t) ≡ take i t ++ before sep (drop i t)
front_goes_on sep t i below other =
    let rest : before sep (drop i t) ≡ slice_index t i ∷ before sep (drop (i + 1) t) =
    at_drop_more (before sep) t i 0 below ∙ rw other refl in
    rw (take_more t i 0 below, rest) (append_assoc (take i t) (slice_index t i ∷ []) (before sep (drop (i + 1) t)))

pub front_ends : (sep : ℕ) (t : List ℕ) (i : ℕ) → i < length t → (slice_index t i == sep) ≡ true
    → take i t ++ before sep (drop i t) ≡ take i t
front_ends sep t i below here =
    let rest : before sep (drop i t) ≡ [] = at_drop_more (before sep) t i 0 below ∙ rw here refl in
    rw rest (append-nil (take i t))

pub front_all : (sep : ℕ) (t : List ℕ) (i : ℕ) → length t ≤ i → take i t ++ before sep (drop i t) ≡ t
front_all sep t i past =
    let rest : before sep (drop i t) ≡ [] = at_drop_all (before sep) t i past in
    rw (rest, take_all i t past) (append-nil t)

pub rest_goes_on : (sep : ℕ) (t : List ℕ) (i : ℕ) → i < length t → (slice_index t i == sep) ≡ false
    → after sep (drop (i + 1) t) ≡ after sep (drop i t)
rest_goes_on sep t i below other = sym (at_drop_more (after sep) t i 0 below ∙ rw other refl)

pub rest_ends : (sep : ℕ) (t : List ℕ) (i : ℕ) → i < length t → (slice_index t i == sep) ≡ true
    → after sep (drop i t) ≡ Some (drop (i + 1) t)
rest_ends sep t i below here = at_drop_more (after sep) t i 0 below ∙ rw here refl

pub rest_none : (sep : ℕ) (t : List ℕ) (i : ℕ) → length t ≤ i → after sep (drop i t) ≡ None
rest_none sep t i past = at_drop_all (after sep) t i past
