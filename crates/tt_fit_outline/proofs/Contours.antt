-- The ends of contours: of scaled points, and of joined components.
use Rattle.std.proofs.Common.{◌≡◌, ℕ, ◌+◌, ◌-◌, ◌<◌, ◌≤◌, inl, inr, List, [], ◌∷◌, ◌++◌, length, map, refl, ◌∙◌, arith, append-nil, length-append}
use Rattle.std.specs.Prelude.{slice_index}
use Rattle.std.proofs.lemmas.Bool.{cases_lt}
use Rattle.std.proofs.lemmas.List.{get_or_append_left, get_or-append_right, get_or-map, get_or_past, length-map}
use Rattle.tt_glyf.specs.Meaning.{AreEnds as EndContours}
use Rattle.tt_fit_outline.specs.Joining.{ends_after}
use Rattle.tt_fit_outline.specs.Outline.{AreEnds}

-- the places one past these points
abbrev places_after : List ℕ → List ℕ
places_after lasts = map (λ e. e + 1) lasts

place-at : (lasts : List ℕ) (i : ℕ) → i < length lasts → slice_index (places_after lasts) i ≡ slice_index lasts i + 1
place-at lasts i below = get_or-map (λ e. e + 1) lasts i 0 0 below

places-rise : (n : ℕ) (lasts : List ℕ) → EndContours n lasts → (i j : ℕ) → i ≤ j → j < length (places_after lasts)
    → slice_index (places_after lasts) i ≤ slice_index (places_after lasts) j
places-rise n lasts are i j le below =
    let many = length-map lasts (λ e. e + 1) in
    let at_i = place-at lasts i (omega (arith, many)) in
    let at_j = place-at lasts j (omega (arith, many)) in
    let rise = are.rising i j le (omega (arith, many)) in
    omega (arith, at_i, at_j, rise)

places-within : (n : ℕ) (lasts : List ℕ) → EndContours n lasts → (i : ℕ) → slice_index (places_after lasts) i ≤ n
places-within n lasts are i = elim (cases_lt i (length lasts)) [
  | inl below ↦
      let at = place-at lasts i below in
      let rise = are.rising i (length lasts - 1) (omega arith) (omega arith) in
      omega (arith, at, rise, are.last)
  | inr past ↦
      let many = length-map lasts (λ e. e + 1) in
      let at = get_or_past (places_after lasts) i 0 (omega (arith, many)) in
      omega (arith, at)
]

-- the last points of contours, and the places one past them
pub scaled-ends : (n : ℕ) (lasts : List ℕ) → EndContours n lasts → AreEnds n (places_after lasts)
scaled-ends n lasts are =
    let many = length-map lasts (λ e. e + 1) in
    let some = are.some in
    record {
      rising = places-rise n lasts are;
      within = places-within n lasts are;
      last = let at = place-at lasts (length lasts - 1) (omega (arith, some)) in rw many (at ∙ are.last);
    }

joined-length : (m : ℕ) (xs ys : List ℕ) → length (xs ++ ends_after m ys) ≡ length xs + length ys
joined-length m xs ys = rw (length-append, length-map) refl

end-before : (m : ℕ) (xs ys : List ℕ) (i : ℕ) → i < length xs → slice_index (xs ++ ends_after m ys) i ≡ slice_index xs i
end-before m xs ys i below = get_or_append_left xs (ends_after m ys) 0 i below

end-after : (m : ℕ) (xs ys : List ℕ) (i : ℕ) → length xs ≤ i → i < length xs + length ys
    → slice_index (xs ++ ends_after m ys) i ≡ m + slice_index ys (i - length xs)
end-after m xs ys i above below =
    let right = get_or-append_right xs (ends_after m ys) (length xs) i 0 refl above in
    let moved = get_or-map (λ e. m + e) ys (i - length xs) 0 0 (omega arith) in
    right ∙ moved

end-past : (m : ℕ) (xs ys : List ℕ) (i : ℕ) → length xs + length ys ≤ i → slice_index (xs ++ ends_after m ys) i ≡ 0
end-past m xs ys i past =
    let many = joined-length m xs ys in
    get_or_past (xs ++ ends_after m ys) i 0 (omega (arith, many))

joined-rise : (m k : ℕ) (xs ys : List ℕ) → AreEnds m xs → AreEnds k ys → (i j : ℕ) → i ≤ j → j < length xs + length ys
    → slice_index (xs ++ ends_after m ys) i ≤ slice_index (xs ++ ends_after m ys) j
joined-rise m k xs ys are more i j le below = elim (cases_lt j (length xs)) [
  | inl before ↦
      let at_i = end-before m xs ys i (omega arith) in
      let at_j = end-before m xs ys j before in
      let rise = are.rising i j le before in
      omega (arith, at_i, at_j, rise)
  | inr later ↦
      let at_j = end-after m xs ys j later below in
      elim (cases_lt i (length xs)) [
        | inl first ↦
            let at_i = end-before m xs ys i first in
            let within = are.within i in
            omega (arith, at_i, at_j, within)
        | inr second ↦
            let at_i = end-after m xs ys i second (omega arith) in
            let rise = more.rising (i - length xs) (j - length xs) (omega arith) (omega arith) in
            omega (arith, at_i, at_j, rise)
      ]
]

joined-within : (m k : ℕ) (xs ys : List ℕ) → AreEnds m xs → AreEnds k ys → (i : ℕ)
    → slice_index (xs ++ ends_after m ys) i ≤ m + k
joined-within m k xs ys are more i = elim (cases_lt i (length xs)) [
  | inl before ↦
      let at = end-before m xs ys i before in
      let within = are.within i in
      omega (arith, at, within)
  | inr later ↦ elim (cases_lt i (length xs + length ys)) [
    | inl below ↦
        let at = end-after m xs ys i later below in
        let within = more.within (i - length xs) in
        omega (arith, at, within)
    | inr past ↦
        let at = end-past m xs ys i past in
        omega (arith, at)
  ]
]

joined-last : (m k : ℕ) (xs ys : List ℕ) → AreEnds m xs → AreEnds k ys → slice_index (xs ++ ends_after m ys)
    (length xs + length ys - 1) ≡ m + k
joined-last m k xs [] are more =
    let none : 0 ≡ k = more.last in
    let same : length xs + 0 - 1 ≡ length xs - 1 = omega arith in
    let last = are.last in
    rw (append-nil, same, last) (omega (arith, none))
joined-last m k xs (y ∷ ys) are more =
    let at = end-after m xs (y ∷ ys) (length xs + length (y ∷ ys) - 1) (omega arith) (omega arith) in
    let same : length xs + length (y ∷ ys) - 1 - length xs ≡ length (y ∷ ys) - 1 = omega arith in
    let last = more.last in
    at ∙ rw (same, last) refl

-- the ends of contours, and those of a component after them
pub joined-ends : (m k : ℕ) (xs ys : List ℕ) → AreEnds m xs → AreEnds k ys → AreEnds (m + k) (xs ++ ends_after m ys)
joined-ends m k xs ys are more = record {
  rising = λ i j le below. let many = joined-length m xs ys in joined-rise m k xs ys are more i j le
      (omega (arith, many));
  within = joined-within m k xs ys are more;
  last = rw joined-length (joined-last m k xs ys are more);
}
