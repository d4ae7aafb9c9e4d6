-- The table of places of a line's distinct glyphs, one more glyph at a time.
use Rattle.std.proofs.Common.{◌≡◌, ◌≢◌, refl, ℕ, ◌-◌, ◌<◌, Bool, true, false, ◌||◌, ◌==◌, List, [], ◌∷◌, slice_index, arith}
use Rattle.std.specs.Prelude.{All}
use Rattle.std.proofs.lemmas.Bool.Decides.{nat_tests}
use Rattle.std.proofs.lemmas.List.Elements.{All-cons, All-nil}
use Rattle.tt_picture.specs.Distinct.{is_among}
use Rattle.tt_picture.specs.Glyphs.{ArePlaces}
use Rattle.tt_picture.proofs.Keeping.{is_there_at}
use Rattle.tt_picture.proofs.Seats.{seat_of}

neither : (a b : Bool) → (a || b) ≡ false → (a ≡ false) × (b ≡ false)
neither true b is = absurd cc
neither false b is = (refl, is)

-- a number without a place is not among the others
absent_by : (here : Bool) (table numbers : List ℕ) (n : ℕ) → is_among n numbers ≡ here → ArePlaces table numbers
    → slice_index table n ≡ 0 → is_among n numbers ≡ false
absent_by true table numbers n is places none =
    let some = seat_of table numbers n places is in absurd (omega (arith, some, none))
absent_by false table numbers n is places none = is

pub not_seated : (table numbers : List ℕ) (n : ℕ) → ArePlaces table numbers → slice_index table n ≡ 0
    → is_among n numbers ≡ false
not_seated table numbers n places none = absent_by (is_among n numbers) table numbers n refl places none

not_the_one : (m n : ℕ) → (m == n) ≡ false → m ≢ n
not_the_one m n other = λ same. absurd (let equal : (m == n) ≡ true = grind (arith, nat_tests, same) in cc)

-- a number that is not among others is none of them
pub none_of : (numbers : List ℕ) (n : ℕ) → is_among n numbers ≡ false → All (λ m. m ≢ n) numbers
none_of [] n absent = All-nil (λ m. m ≢ n)
none_of (m ∷ ms) n absent =
    let parts = neither (m == n) (is_among n ms) absent in
    All-cons (λ m. m ≢ n) m ms (not_the_one m n parts.0) (none_of ms n parts.1)

-- a number with a place is among the others
pub is_seated : (table numbers : List ℕ) (n : ℕ) → ArePlaces table numbers → 0 < slice_index table n
    → is_among n numbers ≡ true
is_seated table numbers n places some =
    let most = places.within n in
    is_there_at numbers (slice_index table n - 1) n (omega (arith, some, most)) (places.found n some)
