-- Rows of a picture in a room.
use Rattle.std.proofs.Common.{◌≡◌, ℕ, ◌+◌, ◌-◌, ◌*◌, ◌≤◌, List, [], ◌∷◌, ◌++◌, length, take, drop, min, ap, sym, ◌∙◌, arith, inl, inr, length-drop, length-take-le}
use Rattle.std.proofs.Math.Nat.{min-le_right}
use Rattle.std.proofs.lemmas.Bool.{cases_lt}
use Rattle.std.proofs.lemmas.Nat.{mul-le}

-- the number of bytes of a band of a picture's rows
part_fits : (n k first height : ℕ) → k ≤ height - first → n * k ≤ n * height - n * first
part_fits n k first height few = elim (cases_lt height first) [
  | inl past ↦ let none : n * k ≤ n * 0 = mul-le n k n 0 (omega arith) (omega (arith, few, past)) in omega (arith, none)
  | inr within ↦
      let most : n * (k + first) ≤ n * height = mul-le n (k + first) n height (omega arith) (omega (arith, few, within)) in
      omega (arith, most)
]

pub band_long : (n first count height : ℕ) (rows : List ℕ) → length rows ≡ n * height
    → length (take (n * min count (height - first)) (drop (n * first) rows)) ≡ n * min count (height - first)
band_long n first count height rows whole =
    length-take-le (n * min count (height - first)) (drop (n * first) rows)
    (omega (
      arith,
      length-drop (n * first) rows,
      whole,
      part_fits n (min count (height - first)) first height (min-le_right count (height - first)),
    ))

-- a band is at the front of a room
pub band_written : (m : ℕ) (band old new : List ℕ) → new ≡ band ++ drop m old → length band ≡ m
    → new ≡ band ++ drop (length band) old
band_written m band old new is long = is ∙ ap (λ n. band ++ drop n old) (sym long)

-- a band of no rows is at the front of any room
pub none_written : (n k : ℕ) (band old new : List ℕ) → new ≡ old → k ≤ 0 → length band ≡ n * k
    → new ≡ band ++ drop (length band) old
none_written n k [] old new is none long = is
none_written n k (b ∷ band) old new is none long =
    let all : n * k ≤ n * 0 = mul-le n k n 0 (omega arith) none in
    absurd (omega (arith, long, all))
