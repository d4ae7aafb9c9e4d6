-- Outlines made in order: each glyph once, with the fitter after those before it.
use Rattle.std.proofs.Common.{◌≡◌, ◌∙◌, refl, sym, ap, ℕ, ℤ, zero, suc, ◌+◌, ◌<◌, ◌≤◌, ◌-◌, Bool, true, false, not, ◌&&◌, ◌||◌, ◌==◌, List, [], ◌∷◌, ◌++◌, length, map, drop, get_or, set, slice_index, take, Result, Ok, Err, append_assoc, append-nil, drop-cons, arith}
use Rattle.std.specs.Prelude.{All, IfSome}
use Rattle.std.proofs.lemmas.Bool.Decides.{nat_tests}
use Rattle.std.proofs.lemmas.List.{get_or-map, take-append-drop}
use Rattle.std.proofs.lemmas.List.Elements.{All-head, All-tail}
use Rattle.std.proofs.lemmas.List.Sums.{sum_by-append, sum_by-cons, sum_by_push}
use Rattle.tt_core.specs.declared.font_fault.FontFault.{FontFault}
use Rattle.tt_core.specs.declared.font_fault.FontFault.TheVariants as font
use Rattle.tt_core.specs.Faults.{Fault}
use Rattle.tt_core.specs.Outcomes.{after_each, each, font_fault}
use Rattle.tt_fit.specs.Fitting.{Fitter, fitted_outline}
use Rattle.tt_fit.specs.outline.Outline.{Outline}
use Rattle.tt_fit.specs.outline.Steps.{advance_left}
use Rattle.tt_picture.specs.Distinct.{IsNext, distinct_after, fitter_after, fitter_for, is_among}
use Rattle.tt_picture.specs.Fitted.{AreFitted, AreAdvances, FittedBody, FittedGlyph, IsFitted, IsFittedBody, body_chords, body_advance, fitted_chords, fitted_crossings, fitted_numbers, kept, made_crossings, outlined}
use Rattle.tt_picture.specs.Pixels.{Shape}
use Rattle.tt_picture.specs.Shapes.{chords_with, glyph_shape, shape_at}
use Rattle.tt_picture.specs.Steps.{chords_of, glyph_chords, glyph_advance}
use Rattle.tt_picture.specs.Unfitted.{all_differ}
use Rattle.tt_picture.proofs.Turns.{next_is}

both_true : (a b : Bool) → (a && b) ≡ true → (a ≡ true) × (b ≡ true)
both_true true b is = (refl, is)
both_true false b is = absurd cc

both_false : (a b : Bool) → (a || b) ≡ false → (a ≡ false) × (b ≡ false)
both_false true b is = absurd cc
both_false false b is = (refl, is)

not_true : (a : Bool) → not a ≡ true → a ≡ false
not_true true is = absurd cc
not_true false is = refl

other_way : (g h : ℕ) → (h == g) ≡ false → (g == h) ≡ false
other_way g h is = grind (arith, nat_tests)

-- a number that is not among some is none of them
not_that_one : (b g : ℕ) (bs gs : List ℕ) → is_among b (bs ++ g ∷ gs) ≡ false → (g == b) ≡ false
not_that_one b g [] gs is = (both_false (g == b) (is_among b gs) is).0
not_that_one b g (h ∷ bs) gs is = not_that_one b g bs gs (both_false (h == b) (is_among b (bs ++ g ∷ gs)) is).1

-- where all numbers differ, none is among those before it
absent_before : (before gs : List ℕ) (g : ℕ) → all_differ (before ++ g ∷ gs) ≡ true → is_among g before ≡ false
absent_before [] gs g differ = refl
absent_before (b ∷ bs) gs g differ =
    let parts = both_true (not (is_among b (bs ++ g ∷ gs))) (all_differ (bs ++ g ∷ gs)) differ in
    let apart = other_way b g (not_that_one b g bs gs (not_true (is_among b (bs ++ g ∷ gs)) parts.0)) in
    rw (apart, absent_before bs gs g parts.1) refl

each_new : (before gs : List ℕ) → all_differ (before ++ gs) ≡ true → distinct_after before gs ≡ before ++ gs
each_new before [] differ = sym (append-nil before)
each_new before (g ∷ gs) differ =
    let absent = absent_before before gs g differ in
    let same : all_differ ((before ++ g ∷ []) ++ gs) ≡ true = rw (append_assoc before (g ∷ []) gs) differ in
    rw absent (each_new (before ++ g ∷ []) gs same ∙ append_assoc before (g ∷ []) gs)

in_parts : (ns : List ℕ) (i : ℕ) → i < length ns → take i ns ++ (get_or ns i 0 ∷ drop (suc i) ns) ≡ ns
in_parts ns i below = rw (← drop-cons ns i 0 below) (take-append-drop i ns)

pub not_yet : (ns : List ℕ) (i : ℕ) → i < length ns → all_differ ns ≡ true → is_among (get_or ns i 0) (take i ns) ≡ false
not_yet ns i below differ =
    absent_before (take i ns) (drop (suc i) ns) (get_or ns i 0) (ap all_differ (in_parts ns i below) ∙ differ)

pub all_new : (ns : List ℕ) (i : ℕ) → i < length ns → all_differ ns ≡ true
    → distinct_after (take i ns) (get_or ns i 0 ∷ drop (suc i) ns) ≡ ns
all_new ns i below differ =
    each_new (take i ns) (get_or ns i 0 ∷ drop (suc i) ns) (ap all_differ (in_parts ns i below) ∙ differ)
    ∙ in_parts ns i below

-- where all numbers differ, the fitter of the next glyph is the present one
pub present_is : (s now : Fitter) (ns : List ℕ) (i : ℕ) → i < length ns → all_differ ns ≡ true
    → now ≡ fitter_after s (take i ns) → fitter_for s ns (get_or ns i 0) ≡ now
present_is s now ns i below differ after =
    let next : IsNext (fitter_for s ns) now (take i ns) (get_or ns i 0) =
    next_is s now (take i ns) ns (get_or ns i 0) (drop (suc i) ns) (all_new ns i below differ) after in
    next (not_yet ns i below differ)

-- the fault of an outline is that of all
pub stuck_there : (e : FontFault) (make : ℕ → Result Outline Fault) (ns : List ℕ) (i : ℕ) (os : List Outline) → i < length ns
    → after_each make (drop i ns) os ≡ each make ns → IfSome (font_fault e) (λ f. make (get_or ns i 0) ≡ Err f)
    → IfSome (font_fault e) (λ f. each make ns ≡ Err f)
stuck_there (font.Font f) make ns i os below so_far fails = sym so_far ∙ rw (drop-cons ns i 0 below, fails) refl
stuck_there font.Memory make ns i os below so_far fails = tt

-- fitted glyphs have the advances and the chords of the definition
advance_is : (s : Fitter) (n : ℕ) (o : Outline) (body : FittedBody) → IsFittedBody s n o body
    → advance_left o ≡ body_advance body
advance_is s n o (outlined m) is = rw is.outline refl
advance_is s n o (kept k) is = sym is.1.advance

pub advances_are : (maker : ℕ → Fitter) (fs : List FittedGlyph) → AreFitted maker fs
    → AreAdvances (λ g. glyph_advance (maker g) g) fs
unfolding glyph_advance
advances_are maker fs fitted = λ k d below.
    let one = fitted k d below in rw one.outline (advance_is _ _ one.shape _ one.body)

chord_is : (s : Fitter) (n : ℕ) (o : Outline) (body : FittedBody) → IsFittedBody s n o body
    → body_chords body ≡ chords_of (chords_with s) o
chord_is s n o (outlined m) is = rw (is.rule, is.outline) refl
chord_is s n o (kept k) is = is.1.chords

pub chords_are : (maker : ℕ → Fitter) (fs : List FittedGlyph) → AreFitted maker fs
    → map (λ g. body_chords g.body) fs ≡ map (λ g. glyph_chords (maker g) g) (fitted_numbers fs)
unfolding glyph_chords
chords_are maker [] fitted = refl
chords_are maker (f ∷ fs) fitted =
    let P : FittedGlyph → Type 0 = λ g. IsFitted (maker g.number) g in
    let one = All-head P f fs fitted in
    let own = chord_is (maker f.number) f.number one.shape f.body one.body in
    rw (own, one.outline, chords_are maker fs (All-tail P f fs fitted)) refl

-- where outlines are made, those of a line's glyphs give its shapes
abbrev pub HasOutline : (ℕ → Fitter) → ℕ → Type 0
HasOutline maker n = (o : Outline) × (fitted_outline (maker n) n ≡ Ok o)

pub shapes_by : (maker : ℕ → Fitter) (numbers : List ℕ) (line : List (ℕ × ℕ))
    → ((n : ℕ) → is_among n numbers ≡ true → HasOutline maker n) → All (λ (g : ℕ × ℕ). is_among g.0 numbers ≡ true) line
    → (shapes : List Shape) × (each (glyph_shape maker) line ≡ Ok shapes)
shapes_by maker numbers [] made among = ([], refl)
shapes_by maker numbers (g ∷ gs) made among =
    let P : ℕ × ℕ → Type 0 = λ g. is_among g.0 numbers ≡ true in
    let one = made g.0 (All-head P g gs among) in
    let rest = shapes_by maker numbers gs made (All-tail P g gs among) in
    (shape_at (maker g.0) g one.0 ∷ rest.0, rw (one.1, rest.1) refl)

-- one of some that are made
pub first_or : (here : Bool) (maker : ℕ → Fitter) (h : ℕ) (hs : List ℕ) (n : ℕ) → (h == n) ≡ here
    → (here || is_among n hs) ≡ true → HasOutline maker h → (is_among n hs ≡ true → HasOutline maker n) → HasOutline maker n
first_or true maker h hs n same is one more = let first : h ≡ n = grind (arith, nat_tests) in rw first at one
first_or false maker h hs n other is one more = more is

has_outline : (maker : ℕ → Fitter) (fs : List FittedGlyph) (n : ℕ) → AreFitted maker fs
    → is_among n (fitted_numbers fs) ≡ true → HasOutline maker n
has_outline maker [] n fitted among = absurd cc
has_outline maker (f ∷ fs) n fitted among =
    let P : FittedGlyph → Type 0 = λ g. IsFitted (maker g.number) g in
    let one = All-head P f fs fitted in
    first_or (f.number == n) maker f.number (fitted_numbers fs) n refl among (one.shape, one.outline)
    (has_outline maker fs n (All-tail P f fs fitted))

pub shapes_of_line : (maker : ℕ → Fitter) (fs : List FittedGlyph) (line : List (ℕ × ℕ)) → AreFitted maker fs
    → All (λ (g : ℕ × ℕ). is_among g.0 (fitted_numbers fs) ≡ true) line
    → (shapes : List Shape) × (each (glyph_shape maker) line ≡ Ok shapes)
shapes_of_line maker fs line fitted among =
    shapes_by maker (fitted_numbers fs) line (λ n. has_outline maker fs n fitted) among

-- a glyph keeps its number where its step is put
pub numbers_kept : (gs : List (ℕ × ℕ)) (i n : ℕ) → i < length gs
    → map (λ (g : ℕ × ℕ). g.0) (set gs i ((get_or gs i (0, 0)).0, n)) ≡ map (λ (g : ℕ × ℕ). g.0) gs
numbers_kept [] i n below = absurd (omega arith)
numbers_kept (g ∷ gs) zero n below = refl
numbers_kept (g ∷ gs) (suc i) n below =
    ap (λ (hs : List ℕ). g.0 ∷ hs) (numbers_kept gs i n (omega arith))

-- lists of glyphs with the same numbers have the same number at each place
pub same_number : (gs hs : List (ℕ × ℕ)) (i : ℕ) → map (λ (g : ℕ × ℕ). g.0) gs ≡ map (λ (g : ℕ × ℕ). g.0) hs → i < length gs
    → i < length hs → (get_or gs i (0, 0)).0 ≡ (get_or hs i (0, 0)).0
same_number gs hs i same below under =
    sym (get_or-map (λ (g : ℕ × ℕ). g.0) gs i (0, 0) 0 below) ∙ ap (λ ns. get_or ns i 0) same
    ∙ get_or-map (λ (g : ℕ × ℕ). g.0) hs i (0, 0) 0 under

-- the advance of the glyph at this place
pub advance_at : (advance : ℕ → ℤ) (fs : List FittedGlyph) (i n : ℕ) (f : FittedGlyph) → AreAdvances advance fs → i < length fs
    → slice_index (fitted_numbers fs) i ≡ n → f ≡ get_or fs i f → body_advance f.body ≡ advance n
advance_at advance fs i n f advances below number is =
    let own : advance f.number ≡ body_advance f.body = rw (← is) at (advances i f below) in
    let here : f.number ≡ n = ap (λ (g : FittedGlyph). g.number) is
    ∙ sym (get_or-map (λ (g : FittedGlyph). g.number) fs i f 0 below) ∙ number in
    sym own ∙ ap advance here

-- one more of some glyphs and its chords
pub one_chord_more : (fs : List FittedGlyph) (f : FittedGlyph) (left most n : ℕ) → left + fitted_chords fs ≡ most
    → n ≡ body_chords f.body → n ≤ left → (left - n) + fitted_chords (fs ++ f ∷ []) ≡ most
one_chord_more fs f left most n so_far is fits =
    let sum = sum_by_push (λ (g : FittedGlyph). body_chords g.body) fs f in
    omega (arith, so_far, is, fits, sum)

pub too_many_chords : (fs gs : List FittedGlyph) (f : FittedGlyph) (left most n : ℕ) → left + fitted_chords fs ≡ most
    → n ≡ body_chords f.body → left < n → most < fitted_chords (fs ++ f ∷ gs)
too_many_chords fs gs f left most n so_far is over =
    let sum = sum_by-append (λ (g : FittedGlyph). body_chords g.body) fs (f ∷ gs) in
    let first = sum_by-cons (λ (g : FittedGlyph). body_chords g.body) f gs in
    omega (arith, so_far, is, over, sum, first)

-- one more of some glyphs and its crossings
pub one_glyph_more : (fs : List FittedGlyph) (f : FittedGlyph) (left most n : ℕ) → left + fitted_crossings fs ≡ most
    → n ≡ made_crossings f.body → n ≤ left → (left - n) + fitted_crossings (fs ++ f ∷ []) ≡ most
one_glyph_more fs f left most n so_far is fits =
    let sum = sum_by_push (λ (g : FittedGlyph). made_crossings g.body) fs f in
    omega (arith, so_far, is, fits, sum)

pub too_many_crossings : (fs gs : List FittedGlyph) (f : FittedGlyph) (left most n : ℕ) → left + fitted_crossings fs ≡ most
    → n ≡ made_crossings f.body → left < n → most < fitted_crossings (fs ++ f ∷ gs)
too_many_crossings fs gs f left most n so_far is over =
    let sum = sum_by-append (λ (g : FittedGlyph). made_crossings g.body) fs (f ∷ gs) in
    let first = sum_by-cons (λ (g : FittedGlyph). made_crossings g.body) f gs in
    omega (arith, so_far, is, over, sum, first)
