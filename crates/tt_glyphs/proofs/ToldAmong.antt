-- The report of a number among drawn glyphs, which stand by the table of their places.
use Rattle.std.proofs.Common.{◌≡◌, ◌∙◌, refl, sym, ap, ℕ, zero, suc, ◌+◌, ◌-◌, ◌≤◌, ◌<◌, Bool, true, false, ◌==◌, List, [], ◌∷◌, take, length, get_or, slice_index, All, arith, ◌⊎◌, inl, inr}
use Rattle.std.specs.List.{sum_by}
use Rattle.std.proofs.lemmas.Bool.Decides.{nat_tests}
use Rattle.std.proofs.lemmas.List.{get_or-map, get_or_past, length-map}
use Rattle.std.proofs.lemmas.List.Elements.{All-head, All-tail, All-take}
use Rattle.std.proofs.lemmas.List.Sums.{sum_by-cons}
use Rattle.tt_picture.specs.Distinct.{is_among}
use Rattle.tt_picture.specs.Glyphs.{ArePlaces}
use Rattle.tt_glyphs.specs.declared.drawing.DrawnGlyph.{DrawnGlyph}
use Rattle.tt_glyphs.specs.declared.told.Told.TheVariants as told
use Rattle.tt_glyphs.specs.Entries.{bytes_before, told_bytes}
use Rattle.tt_glyphs.specs.Listed.{bytes_among, drawn_numbers, told_among}
use Rattle.tt_glyphs.proofs.Numbers.{neither}

-- none of the glyphs before this place has the number
abbrev pub AreOthers : List DrawnGlyph → ℕ → DrawnGlyph → ℕ → Type 0
AreOthers ds i d g = (j : ℕ) → j < i → ((get_or ds j d).number == g) ≡ false

later_others : (x : DrawnGlyph) (xs : List DrawnGlyph) (i : ℕ) (d : DrawnGlyph) (g : ℕ) → AreOthers (x ∷ xs) (suc i) d g → AreOthers xs i d g
later_others x xs i d g others = λ j below. others (suc j) (omega (arith, below))

told_at : (ds : List DrawnGlyph) (i : ℕ) (d : DrawnGlyph) (g : ℕ) → i < length ds → (get_or ds i d).number ≡ g
    → AreOthers ds i d g → told_among ds g ≡ (get_or ds i d).told
told_at [] i d g below is others = absurd (omega (arith, below))
told_at (x ∷ xs) zero d g below is others =
    let same : (x.number == g) ≡ true = grind (arith, nat_tests, is) in rw same refl
told_at (x ∷ xs) (suc i) d g below is others =
    rw (others 0 (omega arith)) (told_at xs i d g (omega (arith, below)) is (later_others x xs i d g others))

before_at : (b : ℕ → ℕ) (ds : List DrawnGlyph) (i : ℕ) (d : DrawnGlyph) (g : ℕ) → i < length ds → (get_or ds i d).number ≡ g
    → AreOthers ds i d g → bytes_before b (drawn_numbers ds) g ≡ sum_by (λ (z : DrawnGlyph). b z.number) (take i ds)
before_at b [] i d g below is others = absurd (omega (arith, below))
before_at b (x ∷ xs) zero d g below is others =
    let same : (x.number == g) ≡ true = grind (arith, nat_tests, is) in rw same refl
before_at b (x ∷ xs) (suc i) d g below is others =
    rw (others 0 (omega arith), before_at b xs i d g (omega (arith, below)) is (later_others x xs i d g others))
    (sym (sum_by-cons (λ (z : DrawnGlyph). b z.number) x (take i xs)))

-- a number is that of the glyph at its place, and no glyph before has the number
number_is : (ds : List DrawnGlyph) (j : ℕ) (d : DrawnGlyph) → j < length ds → slice_index (drawn_numbers ds) j ≡ (get_or ds j d).number
number_is ds j d below = get_or-map (λ (z : DrawnGlyph). z.number) ds j d 0 below

other_by : (same : Bool) (places : List ℕ) (ds : List DrawnGlyph) (i j : ℕ) (d : DrawnGlyph) (g : ℕ)
    → ArePlaces places (drawn_numbers ds) → i + 1 ≡ slice_index places g → j < i → j < length ds
    → ((get_or ds j d).number == g) ≡ same → same ≡ false
other_by true places ds i j d g seated at before below is =
    let one : (get_or ds j d).number ≡ g = grind (arith, nat_tests, is) in
    let many : length (drawn_numbers ds) ≡ length ds = length-map ds (λ (z : DrawnGlyph). z.number) in
    let there = seated.there j (omega (arith, many, below)) in
    let place : slice_index places g ≡ j + 1 = rw (number_is ds j d below, one) at there in
    absurd (omega (arith, at, place, before))
other_by false places ds i j d g seated at before below is = refl

within : (places : List ℕ) (ds : List DrawnGlyph) (i g : ℕ) → ArePlaces places (drawn_numbers ds) → i + 1 ≡ slice_index places g
    → i < length ds
within places ds i g seated at =
    let many : length (drawn_numbers ds) ≡ length ds = length-map ds (λ (z : DrawnGlyph). z.number) in
    omega (arith, seated.within g, at, many)

pub others_before : (places : List ℕ) (ds : List DrawnGlyph) (i : ℕ) (d : DrawnGlyph) (g : ℕ) → ArePlaces places (drawn_numbers ds)
    → i + 1 ≡ slice_index places g → AreOthers ds i d g
others_before places ds i d g seated at = λ j before.
    let below : j < length ds = omega (arith, within places ds i g seated at, before) in
    other_by ((get_or ds j d).number == g) places ds i j d g seated at before below refl

pub number_at : (places : List ℕ) (ds : List DrawnGlyph) (i : ℕ) (d : DrawnGlyph) (g : ℕ) → ArePlaces places (drawn_numbers ds)
    → i + 1 ≡ slice_index places g → (get_or ds i d).number ≡ g
number_at places ds i d g seated at =
    let found = seated.found g (omega (arith, at)) in
    let place : slice_index places g - 1 ≡ i = omega (arith, at) in
    sym (number_is ds i d (within places ds i g seated at)) ∙ rw place at found

-- the report of the glyph at a number's place
pub told_there : (places : List ℕ) (ds : List DrawnGlyph) (i : ℕ) (d : DrawnGlyph) (g : ℕ) → ArePlaces places (drawn_numbers ds)
    → i + 1 ≡ slice_index places g → told_among ds g ≡ (get_or ds i d).told
told_there places ds i d g seated at = told_at ds i d g (within places ds i g seated at) (number_at places ds i d g seated at)
    (others_before places ds i d g seated at)

-- each glyph has the report of its number
pub own_reports : (places : List ℕ) (ds : List DrawnGlyph) → ArePlaces places (drawn_numbers ds)
    → All (λ (z : DrawnGlyph). told_among ds z.number ≡ z.told) ds
own_reports places ds seated = λ k d below.
    let many : length (drawn_numbers ds) ≡ length ds = length-map ds (λ (z : DrawnGlyph). z.number) in
    let there = seated.there k (omega (arith, many, below)) in
    told_there places ds k d (get_or ds k d).number seated (sym (rw (number_is ds k d below) at there))

sum_same : (f k : DrawnGlyph → ℕ) (ds : List DrawnGlyph) → All (λ (z : DrawnGlyph). f z ≡ k z) ds → sum_by f ds ≡ sum_by k ds
sum_same f k [] same = refl
sum_same f k (d ∷ ds) same =
    sum_by-cons f d ds
    ∙ rw (All-head (λ (z : DrawnGlyph). f z ≡ k z) d ds same, sum_same f k ds (All-tail (λ (z : DrawnGlyph). f z ≡ k z) d ds same))
    (sym (sum_by-cons k d ds))

own_bytes : (places : List ℕ) (ds : List DrawnGlyph) → ArePlaces places (drawn_numbers ds)
    → All (λ (z : DrawnGlyph). bytes_among ds z.number ≡ told_bytes z.told) ds
own_bytes places ds seated = λ k d below. ap told_bytes (own_reports places ds seated k d below)

-- the bytes before the glyph at a number's place
pub bytes_there : (places : List ℕ) (ds : List DrawnGlyph) (i : ℕ) (d : DrawnGlyph) (g : ℕ) → ArePlaces places (drawn_numbers ds)
    → i + 1 ≡ slice_index places g
    → bytes_before (bytes_among ds) (drawn_numbers ds) g ≡ sum_by (λ (z : DrawnGlyph). told_bytes z.told) (take i ds)
bytes_there places ds i d g seated at =
    before_at (bytes_among ds) ds i d g (within places ds i g seated at) (number_at places ds i d g seated at)
    (others_before places ds i d g seated at)
    ∙ sum_same (λ (z : DrawnGlyph). bytes_among ds z.number) (λ (z : DrawnGlyph). told_bytes z.told) (take i ds)
    (All-take (λ (z : DrawnGlyph). bytes_among ds z.number ≡ told_bytes z.told) i ds (own_bytes places ds seated))

sum_numbers : (b : ℕ → ℕ) (ds : List DrawnGlyph) → sum_by b (drawn_numbers ds) ≡ sum_by (λ (z : DrawnGlyph). b z.number) ds
sum_numbers b [] = refl
sum_numbers b (d ∷ ds) =
    sum_by-cons b d.number (drawn_numbers ds) ∙ rw (sum_numbers b ds) (sym (sum_by-cons (λ (z : DrawnGlyph). b z.number) d ds))

pub all_bytes : (places : List ℕ) (ds : List DrawnGlyph) → ArePlaces places (drawn_numbers ds)
    → sum_by (bytes_among ds) (drawn_numbers ds) ≡ sum_by (λ (z : DrawnGlyph). told_bytes z.told) ds
all_bytes places ds seated = sum_numbers (bytes_among ds) ds
    ∙ sum_same (λ (z : DrawnGlyph). bytes_among ds z.number) (λ (z : DrawnGlyph). told_bytes z.told) ds (own_bytes places ds seated)

-- a number that is none of the glyphs is unknown
pub told_unknown : (ds : List DrawnGlyph) (g : ℕ) → is_among g (drawn_numbers ds) ≡ false → told_among ds g ≡ told.Unknown
told_unknown [] g none = refl
told_unknown (d ∷ ds) g none =
    let parts = neither (d.number == g) (is_among g (drawn_numbers ds)) none in
    rw parts.0 (told_unknown ds g parts.1)

-- a number among some stands at a place
abbrev IsAt : List ℕ → ℕ → Type 0
IsAt ns g = (i : ℕ) × (i < length ns) × (slice_index ns i ≡ g)

at_by : (same : Bool) (g n : ℕ) (ns : List ℕ) → (n == g) ≡ same → (is_among g ns ≡ true → IsAt ns g)
    → is_among g (n ∷ ns) ≡ true → IsAt (n ∷ ns) g
at_by true g n ns is rest among = let one : n ≡ g = grind (arith, nat_tests, is) in (0, omega arith, one)
at_by false g n ns is rest among =
    let later = rest (rw is at among) in
    let below = later.1 in (suc later.0, omega (arith, below), later.2)

at_among : (g : ℕ) (ns : List ℕ) → is_among g ns ≡ true → IsAt ns g
at_among g [] among = absurd cc
at_among g (n ∷ ns) among = at_by (n == g) g n ns refl (at_among g ns) among

-- a number without a place is none of the glyphs
unseated_by : (there : Bool) (places : List ℕ) (ds : List DrawnGlyph) (g : ℕ) → ArePlaces places (drawn_numbers ds)
    → (length places ≤ g) ⊎ (slice_index places g ≡ 0) → is_among g (drawn_numbers ds) ≡ there → there ≡ false
unseated_by true places ds g seated none is =
    let at = at_among g (drawn_numbers ds) is in
    let place : slice_index places g ≡ at.0 + 1 = rw at.2 at (seated.there at.0 at.1) in
    elim none [
      | inl past ↦ let nothing : slice_index places g ≡ 0 = get_or_past places g 0 past in absurd (omega (arith, place, nothing))
      | inr empty ↦ absurd (omega (arith, place, empty))
    ]
unseated_by false places ds g seated none is = refl

pub unseated : (places : List ℕ) (ds : List DrawnGlyph) (g : ℕ) → ArePlaces places (drawn_numbers ds)
    → (length places ≤ g) ⊎ (slice_index places g ≡ 0) → told_among ds g ≡ told.Unknown
unseated places ds g seated none = told_unknown ds g (unseated_by (is_among g (drawn_numbers ds)) places ds g seated none refl)
