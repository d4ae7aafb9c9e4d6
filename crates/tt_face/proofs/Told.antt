-- Whether a text is what is told of a string, character by character.
use Rattle.std.proofs.Common.{◌≡◌, ◌∙◌, ℕ, ◌<◌, Bool, true, false, List, length, map, get_or, refl, arith, ap, sym}
use Rattle.std.specs.Prelude.{bytes_eq}
use Rattle.std.specs.List.{range_with_len}
use Rattle.std.proofs.lemmas.List.FromFn.{fill_by_all, get_or-map-range_with_len, length-map-range_with_len}
use Rattle.std.proofs.lemmas.Slice.Eq.{bytes_eq-Decides}

-- a test of a false fact fails
false-from : {P : Type 0} (r : Bool) → (r ≡ true → P) → (P → ⊥) → r ≡ false
false-from true shows refutes = absurd (refutes (shows refl))
false-from false shows refutes = refl

pub all-alike : (f : ℕ → ℕ) (n : ℕ) (text : List ℕ) → length text ≡ n → ((k : ℕ) → k < n → get_or text k 0 ≡ f k)
    → bytes_eq (map f (range_with_len 0 n)) text ≡ true
all-alike f n text long alike =
    (bytes_eq-Decides (map f (range_with_len 0 n)) text).1 (sym (fill_by_all f text n 0 long alike))

pub one-other : (f : ℕ → ℕ) (n k : ℕ) (text : List ℕ) → k < n → (f k ≡ get_or text k 0 → ⊥)
    → bytes_eq (map f (range_with_len 0 n)) text ≡ false
one-other f n k text below other =
    false-from (bytes_eq (map f (range_with_len 0 n)) text) (bytes_eq-Decides (map f (range_with_len 0 n)) text).0
    (λ same. other (sym (get_or-map-range_with_len f 0 n k k 0 below (omega arith)) ∙ ap (λ (xs : List ℕ). get_or xs k 0) same))

pub other-length : (f : ℕ → ℕ) (n : ℕ) (text : List ℕ) → (length text ≡ n → ⊥)
    → bytes_eq (map f (range_with_len 0 n)) text ≡ false
other-length f n text other =
    false-from (bytes_eq (map f (range_with_len 0 n)) text) (bytes_eq-Decides (map f (range_with_len 0 n)) text).0
    (λ same. other (sym (ap (λ (xs : List ℕ). length xs) same) ∙ length-map-range_with_len f 0 n))
