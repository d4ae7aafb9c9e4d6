-- The numbers of a list that are below a count, one after the other.
use Rattle.std.proofs.Common.{◌≡◌, ◌∙◌, refl, sym, ap, ℕ, ◌+◌, ◌<◌, ◌≤◌, nat_lt, Bool, true, false, List, [], ◌∷◌, ◌++◌, length, drop, map, slice_index, append_assoc, Some, None, arith}
use Rattle.std.proofs.lemmas.Bool.Decides.{nat_tests}
use Rattle.std.proofs.lemmas.List.{at_drop_all, at_drop_more, map-append}
use Rattle.tt_glyphs.specs.Listed.{known_number, known_of}

some_is : {n g : ℕ} → Some n ≡ Some g → n ≡ g
some_is is = cc

some_is_none : {n : ℕ} → Some n ≡ None → ⊥
some_is_none is = cc

some_by : (count g n : ℕ) (gs : List ℕ) (b : Bool) → nat_lt g count ≡ b → known_number count g ≡ Some n
    → known_of count (g ∷ gs) ≡ n ∷ known_of count gs
some_by count g n gs true is found = rw is (ap (λ k. k ∷ known_of count gs) (some_is (rw is at found)))
some_by count g n gs false is found = absurd (some_is_none (sym (rw is at found)))

none_by : (count g : ℕ) (gs : List ℕ) (b : Bool) → nat_lt g count ≡ b → known_number count g ≡ None
    → known_of count (g ∷ gs) ≡ known_of count gs
none_by count g gs true is found = absurd (some_is_none (rw is at found))
none_by count g gs false is found = rw is refl

below_by : (count g n : ℕ) (b : Bool) → nat_lt g count ≡ b → known_number count g ≡ Some n → n < count
below_by count g n true is found =
    let same : g ≡ n = some_is (rw is at found) in
    grind (arith, nat_tests, is, same)
below_by count g n false is found = absurd (some_is_none (sym (rw is at found)))

-- a known number is below the count
pub below_count : (count g n : ℕ) → known_number count g ≡ Some n → n < count
below_count count g n found = below_by count g n (nat_lt g count) refl found

-- one more known number in a line
pub known_more : (line : List (ℕ × ℕ)) (count n : ℕ) (gs : List ℕ) (i : ℕ) → i < length gs
    → known_number count (slice_index gs i) ≡ Some n
    → map (λ (g : ℕ × ℕ). g.0) (line ++ (n, 0) ∷ []) ++ known_of count (drop (i + 1) gs)
    ≡ map (λ (g : ℕ × ℕ). g.0) line ++ known_of count (drop i gs)
known_more line count n gs i below found =
    let g = slice_index gs i in
    let before = map (λ (g : ℕ × ℕ). g.0) line in
    let rest : known_of count (drop i gs) ≡ n ∷ known_of count (drop (i + 1) gs) =
    at_drop_more (known_of count) gs i 0 below ∙ some_by count g n (drop (i + 1) gs) (nat_lt g count) refl found in
    rw (rest, map-append (λ (g : ℕ × ℕ). g.0) line ((n, 0) ∷ []))
    (append_assoc before (n ∷ []) (known_of count (drop (i + 1) gs)))

-- a number that is not known
pub known_same : (count : ℕ) (gs : List ℕ) (i : ℕ) → i < length gs → known_number count (slice_index gs i) ≡ None
    → known_of count (drop (i + 1) gs) ≡ known_of count (drop i gs)
known_same count gs i below found =
    let g = slice_index gs i in
    sym (at_drop_more (known_of count) gs i 0 below ∙ none_by count g (drop (i + 1) gs) (nat_lt g count) refl found)

pub known_all : (count : ℕ) (gs : List ℕ) (i : ℕ) → length gs ≤ i → known_of count (drop i gs) ≡ []
known_all count gs i past = at_drop_all (known_of count) gs i past
