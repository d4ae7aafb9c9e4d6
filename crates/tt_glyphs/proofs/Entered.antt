-- The entries of a list, one number after the other.
use Rattle.std.proofs.Common.{◌≡◌, ◌∙◌, refl, sym, ap, ℕ, zero, suc, ◌+◌, ◌*◌, ◌^◌, ◌≤◌, ◌<◌, max, nat_lt, Bool, true, false, ◌==◌, List, [], ◌∷◌, ◌++◌, map, take, drop, length, get_or, slice_index, find, All, Some, None, append_assoc, drop-cons, arith, mul-le-mul_right}
use Rattle.std.specs.List.{sum_by}
use Rattle.std.proofs.lemmas.Bool.Decides.{nat_tests}
use Rattle.std.proofs.lemmas.List.{length-map, length_push, take-append-drop, take_more}
use Rattle.std.proofs.lemmas.List.Elements.{All-head, All-tail}
use Rattle.std.proofs.lemmas.List.Sums.{count_by-le-length, length-filter, sum_by-le, sum_by_push}
use Rattle.tt_core.specs.Bits.{stride}
use Rattle.tt_picture.specs.Distinct.{distinct, distinct_after, is_among, with_glyph}
use Rattle.tt_picture.specs.Glyphs.{ArePlaces}
use Rattle.tt_glyphs.specs.declared.drawing.DrawnGlyph.{DrawnGlyph}
use Rattle.tt_glyphs.specs.declared.place.InkPlace.{InkPlace}
use Rattle.tt_glyphs.specs.declared.told.GlyphEntry.{GlyphEntry}
use Rattle.tt_glyphs.specs.declared.told.Told.{Told}
use Rattle.tt_glyphs.specs.declared.told.Told.TheVariants as told
use Rattle.tt_glyphs.specs.Bitmaps.{PlaceFits, place_bytes}
use Rattle.tt_glyphs.specs.Drawn.{DrawnFits}
use Rattle.tt_glyphs.specs.Entries.{ToldFits, bytes_before, told_bytes}
use Rattle.tt_glyphs.specs.Listed.{IsNextOf, bytes_among, drawn_numbers, entry_by, known_of, told_among, unknown_entry}
use Rattle.tt_glyphs.proofs.Numbers.{among_distinct, before_filter, before_first, before_prefix, before_within, begins_with, distinct_append, distinct_filter, not_among_filter, or_true, sum_filter}
use Rattle.tt_glyphs.proofs.ToldAmong.{all_bytes, bytes_there, told_there, told_unknown}

-- a number that is no glyph of the font is unknown
pub past_unknown : (ds : List DrawnGlyph) (count : ℕ) (gs : List ℕ) (n : ℕ) → drawn_numbers ds ≡ distinct (known_of count gs)
    → nat_lt n count ≡ false → told_among ds n ≡ told.Unknown
past_unknown ds count gs n numbers past =
    let p : ℕ → Bool = λ g. nat_lt g count in
    told_unknown ds n (ap (is_among n) (numbers ∙ distinct_filter p gs) ∙ not_among_filter p n (distinct gs) past)

past_bytes : (ds : List DrawnGlyph) (count : ℕ) (gs : List ℕ) → drawn_numbers ds ≡ distinct (known_of count gs)
    → (n : ℕ) → nat_lt n count ≡ false → bytes_among ds n ≡ 0
past_bytes ds count gs numbers n past = ap told_bytes (past_unknown ds count gs n numbers past)

-- the bytes before a glyph of the font, among all numbers of a list
known_before : (ds : List DrawnGlyph) (count : ℕ) (gs : List ℕ) (g : ℕ) → drawn_numbers ds ≡ distinct (known_of count gs)
    → nat_lt g count ≡ true → bytes_before (bytes_among ds) (drawn_numbers ds) g ≡ bytes_before (bytes_among ds) (distinct gs) g
known_before ds count gs g numbers below =
    let p : ℕ → Bool = λ n. nat_lt n count in
    ap (λ ns. bytes_before (bytes_among ds) ns g) (numbers ∙ distinct_filter p gs)
    ∙ before_filter p (bytes_among ds) (past_bytes ds count gs numbers) g (distinct gs) below

entry_is : (ds : List DrawnGlyph) (gs : List ℕ) (g : ℕ) (t : Told) (at : ℕ) → told_among ds g ≡ t
    → at ≡ bytes_before (bytes_among ds) gs g → ◌≡◌ {A = GlyphEntry} (record { glyph = g; told = t; at = at }) (entry_by ds gs g)
entry_is ds gs g t at reported starts = rw (starts, reported) refl

-- the entry of a glyph of the font
pub seated_entry : (places : List ℕ) (ds : List DrawnGlyph) (gs : List ℕ) (i : ℕ) (d : DrawnGlyph) (g at : ℕ)
    → ArePlaces places (drawn_numbers ds) → drawn_numbers ds ≡ distinct (known_of (length places) gs) → g < length places
    → i + 1 ≡ slice_index places g → at ≡ sum_by (λ (z : DrawnGlyph). told_bytes z.told) (take i ds)
    → ◌≡◌ {A = GlyphEntry} (record { glyph = g; told = (get_or ds i d).told; at = at }) (entry_by ds (distinct gs) g)
seated_entry places ds gs i d g at seated numbers below place starts =
    let known : nat_lt g (length places) ≡ true = grind (arith, nat_tests, below) in
    entry_is ds (distinct gs) g (get_or ds i d).told at (told_there places ds i d g seated place)
    (starts ∙ sym (bytes_there places ds i d g seated place) ∙ known_before ds (length places) gs g numbers known)

-- the first entry of a number among those of some numbers
find_by : (same : Bool) (ds : List DrawnGlyph) (all : List ℕ) (g h : ℕ) (hs : List ℕ) → (h == g) ≡ same
    → (is_among g hs ≡ true → find (λ (e : GlyphEntry). e.glyph == g) (map (entry_by ds all) hs) ≡ Some (entry_by ds all g))
    → is_among g (h ∷ hs) ≡ true
    → find (λ (e : GlyphEntry). e.glyph == g) (map (entry_by ds all) (h ∷ hs)) ≡ Some (entry_by ds all g)
find_by true ds all g h hs is rest among = let one : h ≡ g = grind (arith, nat_tests, is) in rw (is, one) refl
find_by false ds all g h hs is rest among = rw is (rest (rw is at among))

find_entry : (ds : List DrawnGlyph) (all : List ℕ) (g : ℕ) (hs : List ℕ) → is_among g hs ≡ true
    → find (λ (e : GlyphEntry). e.glyph == g) (map (entry_by ds all) hs) ≡ Some (entry_by ds all g)
find_entry ds all g [] among = absurd cc
find_entry ds all g (h ∷ hs) among = find_by (h == g) ds all g h hs refl (find_entry ds all g hs) among

none_by : (same : Bool) (ds : List DrawnGlyph) (all : List ℕ) (g h : ℕ) (hs : List ℕ) → (h == g) ≡ same
    → (is_among g hs ≡ false → find (λ (e : GlyphEntry). e.glyph == g) (map (entry_by ds all) hs) ≡ None)
    → is_among g (h ∷ hs) ≡ false
    → find (λ (e : GlyphEntry). e.glyph == g) (map (entry_by ds all) (h ∷ hs)) ≡ None
none_by true ds all g h hs is rest among = absurd (let no : true ≡ false = rw is at among in cc)
none_by false ds all g h hs is rest among = rw is (rest (rw is at among))

find_none : (ds : List DrawnGlyph) (all : List ℕ) (g : ℕ) (hs : List ℕ) → is_among g hs ≡ false
    → find (λ (e : GlyphEntry). e.glyph == g) (map (entry_by ds all) hs) ≡ None
find_none ds all g [] among = refl
find_none ds all g (h ∷ hs) among = none_by (h == g) ds all g h hs refl (find_none ds all g hs) among

-- the distinct numbers of a list, by those before number i
parted : (gs : List ℕ) (i : ℕ) → i < length gs
    → distinct gs ≡ distinct_after (with_glyph (distinct (take i gs)) (slice_index gs i)) (drop (suc i) gs)
parted gs i below =
    let here : take i gs ++ (slice_index gs i ∷ drop (suc i) gs) ≡ gs = rw (← drop-cons gs i 0 below) (take-append-drop i gs) in
    sym (ap distinct here) ∙ distinct_append [] (take i gs) (slice_index gs i ∷ drop (suc i) gs)

so_far : (gs : List ℕ) (i : ℕ) → i < length gs
    → distinct (take (i + 1) gs) ≡ with_glyph (distinct (take i gs)) (slice_index gs i)
so_far gs i below = ap distinct (take_more gs i 0 below) ∙ distinct_append [] (take i gs) (slice_index gs i ∷ [])

-- where the rows of a number begin that stood before, and of one that stands here first
abbrev Before : List DrawnGlyph → List ℕ → ℕ → ℕ
Before ds gs g = bytes_before (bytes_among ds) (distinct gs) g

stood : (ds : List DrawnGlyph) (gs : List ℕ) (i : ℕ) → i < length gs → is_among (slice_index gs i) (distinct (take i gs)) ≡ true
    → Before ds gs (slice_index gs i) ≡ Before ds (take i gs) (slice_index gs i)
stood ds gs i below among =
    let more = begins_with (distinct (take i gs)) (drop (suc i) gs) in
    let whole : distinct gs ≡ distinct (take i gs) ++ more.0 = parted gs i below ∙ rw among more.1 in
    rw whole (before_prefix (bytes_among ds) (slice_index gs i) (distinct (take i gs)) more.0 among)

new : (ds : List DrawnGlyph) (gs : List ℕ) (i : ℕ) → i < length gs → is_among (slice_index gs i) (distinct (take i gs)) ≡ false
    → Before ds gs (slice_index gs i) ≡ sum_by (bytes_among ds) (distinct (take i gs))
new ds gs i below among =
    let before = distinct (take i gs) in
    let g = slice_index gs i in
    let more = begins_with (before ++ g ∷ []) (drop (suc i) gs) in
    let whole : distinct gs ≡ before ++ g ∷ more.0 =
    parted gs i below ∙ rw among (more.1 ∙ append_assoc before (g ∷ []) more.0) in
    rw whole (before_first (bytes_among ds) g before more.0 among)

unknown_by : (there : Bool) (places : List ℕ) (ds : List DrawnGlyph) (gs : List ℕ) (i : ℕ) (es : List GlyphEntry) (g end : ℕ)
    → IsNextOf places ds gs i es g end → told_among ds g ≡ told.Unknown → is_among g (take i gs) ≡ there
    → unknown_entry es g end ≡ entry_by ds (distinct gs) g
unknown_by true places ds gs i es g end next unknown is =
    rw (next.entries, find_entry ds (distinct gs) g (take i gs) is) refl
unknown_by false places ds gs i es g end next unknown is =
    let among : is_among (slice_index gs i) (distinct (take i gs)) ≡ false =
    among_distinct (slice_index gs i) (take i gs) ∙ rw next.number at is in
    let starts : end ≡ bytes_before (bytes_among ds) (distinct gs) g =
    rw next.number (next.ends ∙ sym (new ds gs i next.within among)) in
    rw (next.entries, find_none ds (distinct gs) g (take i gs) is) (entry_is ds (distinct gs) g told.Unknown end unknown starts)

-- the entry of a number that is no glyph of the font
pub unseated_entry : (places : List ℕ) (ds : List DrawnGlyph) (gs : List ℕ) (i : ℕ) (es : List GlyphEntry) (g end : ℕ)
    → IsNextOf places ds gs i es g end → told_among ds g ≡ told.Unknown → unknown_entry es g end ≡ entry_by ds (distinct gs) g
unseated_entry places ds gs i es g end next unknown =
    unknown_by (is_among g (take i gs)) places ds gs i es g end next unknown refl

-- the end of all rows after number i
end_by : (there : Bool) (ds : List DrawnGlyph) (gs : List ℕ) (i : ℕ) → i < length gs
    → is_among (slice_index gs i) (distinct (take i gs)) ≡ there
    → max (sum_by (bytes_among ds) (distinct (take i gs))) (Before ds gs (slice_index gs i) + bytes_among ds (slice_index gs i))
    ≡ sum_by (bytes_among ds) (distinct (take (i + 1) gs))
end_by true ds gs i below is =
    let g = slice_index gs i in
    let most = before_within (bytes_among ds) g (distinct (take i gs)) is in
    rw (so_far gs i below, is, stood ds gs i below is) (omega (arith, most))
end_by false ds gs i below is =
    let g = slice_index gs i in
    let sum = sum_by_push (bytes_among ds) (distinct (take i gs)) g in
    rw (so_far gs i below, is, new ds gs i below is, sum) (omega arith)

pub end_after : (ds : List DrawnGlyph) (gs : List ℕ) (i : ℕ) → i < length gs
    → max (sum_by (bytes_among ds) (distinct (take i gs))) (Before ds gs (slice_index gs i) + bytes_among ds (slice_index gs i))
    ≡ sum_by (bytes_among ds) (distinct (take (i + 1) gs))
end_after ds gs i below = end_by (is_among (slice_index gs i) (distinct (take i gs))) ds gs i below refl

-- the bytes of all rows
pub wanted_is : (places : List ℕ) (ds : List DrawnGlyph) (gs : List ℕ) → ArePlaces places (drawn_numbers ds)
    → drawn_numbers ds ≡ distinct (known_of (length places) gs)
    → sum_by (bytes_among ds) (distinct gs) ≡ sum_by (λ (z : DrawnGlyph). told_bytes z.told) ds
wanted_is places ds gs seated numbers =
    let p : ℕ → Bool = λ n. nat_lt n (length places) in
    sym (sum_filter p (bytes_among ds) (past_bytes ds (length places) gs numbers) (distinct gs))
    ∙ sym (ap (sum_by (bytes_among ds)) (numbers ∙ distinct_filter p gs)) ∙ all_bytes places ds seated

-- few bytes
place_small : (p : InkPlace) → PlaceFits p → place_bytes p ≤ 2 ^ 23
place_small p fits =
    let row : stride p.width ≤ 2048 = omega (arith, fits.width) in
    let rows : stride p.width * p.height ≤ 2048 * p.height = mul-le-mul_right p.height row in
    omega (arith, rows, fits.height)

pub told_small : (t : Told) → ToldFits t → told_bytes t ≤ 2 ^ 23
told_small told.Unknown fits = omega arith
told_small (told.Broken fault) fits = omega arith
told_small told.Large fits = omega arith
told_small (told.Made m) fits = place_small m.place fits

fits_by : (same : Bool) (d : DrawnGlyph) (ds : List DrawnGlyph) (g : ℕ) → (d.number == g) ≡ same → ToldFits d.told
    → ToldFits (told_among ds g) → ToldFits (told_among (d ∷ ds) g)
fits_by true d ds g is here rest = rw is here
fits_by false d ds g is here rest = rw is rest

pub reports_fit : (ds : List DrawnGlyph) (g : ℕ) → All DrawnFits ds → ToldFits (told_among ds g)
reports_fit [] g fits = tt
reports_fit (d ∷ ds) g fits =
    fits_by (d.number == g) d ds g refl (All-head DrawnFits d ds fits).told (reports_fit ds g (All-tail DrawnFits d ds fits))

few_by : (there : Bool) (before : List ℕ) (g : ℕ) → is_among g before ≡ there → length (with_glyph before g) ≤ length before + 1
few_by true before g is = rw is (omega arith)
few_by false before g is = let more = length_push before g in rw is (omega (arith, more))

few_after : (before gs : List ℕ) → length (distinct_after before gs) ≤ length before + length gs
few_after before [] = omega arith
few_after before (g ∷ gs) =
    let one = few_by (is_among g before) before g refl in
    let rest = few_after (with_glyph before g) gs in omega (arith, one, rest)

pub all_small : (ds : List DrawnGlyph) (gs : List ℕ) → All DrawnFits ds → length gs ≤ 4096
    → sum_by (bytes_among ds) (distinct gs) ≤ 2 ^ 35
all_small ds gs fits few =
    let most = sum_by-le (bytes_among ds) (2 ^ 23) (distinct gs)
    (λ k d below. told_small (told_among ds (get_or (distinct gs) k d)) (reports_fit ds (get_or (distinct gs) k d) fits)) in
    let count = few_after [] gs in omega (arith, most, count, few)

pub drawn_few : (ds : List DrawnGlyph) (count : ℕ) (gs : List ℕ) → drawn_numbers ds ≡ distinct (known_of count gs)
    → length ds ≤ length gs
drawn_few ds count gs numbers =
    let p : ℕ → Bool = λ g. nat_lt g count in
    let many : length (drawn_numbers ds) ≡ length ds = length-map ds (λ (z : DrawnGlyph). z.number) in
    let same = ap length numbers in
    let fewer = few_after [] (known_of count gs) in
    let kept = length-filter p gs in
    let least = count_by-le-length p gs in
    omega (arith, many, same, fewer, kept, least)

among_here : (gs : List ℕ) (i : ℕ) → i < length gs → is_among (slice_index gs i) gs ≡ true
among_here [] i below = absurd (omega (arith, below))
among_here (g ∷ gs) zero below = let same : (g == g) ≡ true = grind (arith, nat_tests) in rw same refl
among_here (g ∷ gs) (suc i) below = rw (among_here gs i (omega (arith, below))) (or_true (g == slice_index gs i))

-- the rows of an entry lie among all rows
pub entry_within : (ds : List DrawnGlyph) (gs : List ℕ) (i : ℕ) → i < length gs
    → (entry_by ds (distinct gs) (slice_index gs i)).at + told_bytes (entry_by ds (distinct gs) (slice_index gs i)).told
    ≤ sum_by (bytes_among ds) (distinct gs)
entry_within ds gs i below =
    let g = slice_index gs i in
    before_within (bytes_among ds) g (distinct gs) (among_distinct g gs ∙ among_here gs i below)

pub entry_small : (ds : List DrawnGlyph) (gs : List ℕ) (i : ℕ) → i < length gs → All DrawnFits ds → length gs ≤ 4096
    → (entry_by ds (distinct gs) (slice_index gs i)).at < 2 ^ 36
entry_small ds gs i below fits few =
    let within = entry_within ds gs i below in
    let small = all_small ds gs fits few in omega (arith, within, small)
