-- The table of places after a line: the places of the line's glyphs are cleared one after the other.
use Rattle.std.proofs.Common.{◌≡◌, ◌∙◌, ◌≢◌, refl, sym, ℕ, zero, suc, ◌<◌, false, ◌==◌, List, [], ◌∷◌, length, get_or, replicate, set, slice_index, All, inl, inr, arith, get_or-set_same, get_or-set_other}
use Rattle.std.proofs.lemmas.Bool.{cases_eq, cases_lt, false≢true}
use Rattle.std.proofs.lemmas.Bool.Decides.{nat_tests}
use Rattle.std.proofs.lemmas.List.{get_or-map, length-map}
use Rattle.tt_picture.specs.Distinct.{is_among}
use Rattle.tt_picture.specs.Glyphs.{ArePlaces, Glyph, numbers_of}
use Rattle.tt_picture.proofs.Keeping.{is_there_at}
use Rattle.tt_picture.proofs.Seats.{known_by}
use Rattle.tt_strike.proofs.Seated.{is_seated}

-- no number has a place, unless it is one of those that are left
abbrev pub AreCleared : List ℕ → List ℕ → Type 0
AreCleared table left = (n : ℕ) → is_among n left ≡ false → slice_index table n ≡ 0

pub at_first : (table numbers : List ℕ) → ArePlaces table numbers → AreCleared table numbers
at_first table numbers places n absent = elim (cases_lt 0 (slice_index table n)) [
  | inl some ↦ absurd (false≢true (sym absent ∙ is_seated table numbers n places some))
  | inr none ↦ omega (arith, none)
]

not_among : (g n : ℕ) (left : List ℕ) → n ≢ g → is_among n left ≡ false → is_among n (g ∷ left) ≡ false
not_among g n left other absent =
    let test : (g == n) ≡ false = grind (arith, nat_tests) in
    rw (test, absent) refl

pub one_cleared : (table : List ℕ) (g : ℕ) (left : List ℕ) → g < length table → AreCleared table (g ∷ left)
    → AreCleared (set table g 0) left
one_cleared table g left within cleared n absent = elim (cases_eq n g) [
  | inl same ↦ rw same (get_or-set_same table g 0 0 within)
  | inr other ↦ get_or-set_other table g n 0 0 other ∙ cleared n (not_among g n left other absent)
]

-- then no number has a place
pub all_cleared : (table : List ℕ) → AreCleared table [] → ArePlaces table []
all_cleared table cleared = record {
  within = λ n. let none = cleared n refl in omega (arith, none);
  found = λ n some. let none = cleared n refl in absurd (omega (arith, none, some));
  there = λ i below. absurd (omega (arith, below));
}

pub of_none : ArePlaces [] []
of_none = all_cleared [] (λ n absent. refl)

no_place : (count n : ℕ) → slice_index (replicate count 0) n ≡ 0
no_place zero n = refl
no_place (suc count) zero = refl
no_place (suc count) (suc n) = no_place count n

pub of_zeros : (count : ℕ) → ArePlaces (replicate count 0) []
of_zeros count = all_cleared (replicate count 0) (λ n absent. no_place count n)

-- the table has an entry for each of the glyphs
pub all_within : (table : List ℕ) (gs : List Glyph) → ArePlaces table (numbers_of gs) → All (λ (g : Glyph). g.number < length table) gs
all_within table gs places = λ i d below.
    let numbers = numbers_of gs in
    let count = length-map gs (λ (g : Glyph). g.number) in
    let here : i < length numbers = omega (arith, below, count) in
    let is : slice_index numbers i ≡ (get_or gs i d).number = get_or-map (λ (g : Glyph). g.number) gs i d 0 below in
    known_by table numbers (get_or gs i d).number places (is_there_at numbers i (get_or gs i d).number here is)
