-- The unfitted glyphs, each once: the list found by searching a line's glyphs has no glyph twice.
use Rattle.std.proofs.Common.{◌≡◌, ℕ, ◌+◌, ◌<◌, Bool, true, false, not, ◌&&◌, ◌||◌, ◌==◌, List, [], ◌∷◌, ◌++◌, length, map, drop, get_or, Option, Some, None, refl, ap, ◌∙◌, arith, append_assoc, add-one, drop-cons}
use Rattle.std.proofs.lemmas.Bool.Decides.{nat_tests}
use Rattle.std.proofs.lemmas.List.Elements.{All-head, All-tail}
use Rattle.tt_core.specs.Faults.{Fault}
use Rattle.tt_fit.specs.Fitting.{Fitter, unfitted_fault}
use Rattle.tt_picture.specs.declared.report.Unfitted.{Unfitted}
use Rattle.tt_picture.specs.Distinct.{is_among, with_glyph, distinct, distinct_after}
use Rattle.tt_picture.specs.Glyphs.{Glyph, IsDrawn, AreDrawn, numbers_of}
use Rattle.tt_picture.specs.Unfitted.{listed, unfitted_among, unfitted_standing, all_differ, ListsOnce}

-- drawn glyphs are those of the definition
pub standing_listed : (maker : ℕ → Fitter) (gs : List Glyph) → AreDrawn maker gs
    → unfitted_standing gs ≡ unfitted_among maker (numbers_of gs)
standing_listed maker [] drawn = refl
standing_listed maker (g ∷ gs) drawn =
    let IsOne : Glyph → Type 0 = λ g. IsDrawn (maker g.number) g in
    let first : IsDrawn (maker g.number) g = All-head IsOne g gs drawn in
    rw (first.unfitted, standing_listed maker gs (All-tail IsOne g gs drawn)) refl

neither : (a b : Bool) → (a || b) ≡ false → (a ≡ false) × (b ≡ false)
neither true b is = absurd cc
neither false b is = (refl, is)

both : (a b : Bool) → (a && b) ≡ true → (a ≡ true) × (b ≡ true)
both true b is = (refl, is)
both false b is = absurd cc

is_not : (a : Bool) → not a ≡ true → a ≡ false
is_not true is = absurd cc
is_not false is = refl

-- a number that is not among some glyphs, and is not the one after them, is not among all of these
among_pushed : (h g : ℕ) (gs : List ℕ) → is_among h gs ≡ false → (g == h) ≡ false → is_among h (gs ++ g ∷ []) ≡ false
among_pushed h g [] not_there other = rw other refl
among_pushed h g (k ∷ gs) not_there other =
    let parts = neither (k == h) (is_among h gs) not_there in
    rw (parts.0, among_pushed h g gs parts.1 other) refl

swapped : (g h : ℕ) → (h == g) ≡ false → (g == h) ≡ false
swapped g h is = grind (arith, nat_tests)

pushed_differ : (gs : List ℕ) (g : ℕ) → is_among g gs ≡ false → all_differ gs ≡ true → all_differ (gs ++ g ∷ []) ≡ true
pushed_differ [] g not_there differ = refl
pushed_differ (h ∷ gs) g not_there differ =
    let parts = neither (h == g) (is_among g gs) not_there in
    let heads = both (not (is_among h gs)) (all_differ gs) differ in
    let out = among_pushed h g gs (is_not (is_among h gs) heads.0) (swapped g h parts.0) in
    rw (out, pushed_differ gs g parts.1 heads.1) refl

with_by : (there : Bool) (gs : List ℕ) (g : ℕ) → is_among g gs ≡ there → all_differ gs ≡ true
    → all_differ (with_glyph gs g) ≡ true
with_by true gs g is differ = rw is differ
with_by false gs g is differ = rw is (pushed_differ gs g is differ)

pub distinct_differ : (before gs : List ℕ) → all_differ before ≡ true → all_differ (distinct_after before gs) ≡ true
distinct_differ before [] differ = differ
distinct_differ before (g ∷ gs) differ =
    distinct_differ (with_glyph before g) gs (with_by (is_among g before) before g refl differ)

-- a glyph not among some is not in their list
among_listed : (g : ℕ) (gs : List ℕ) (fault : Option Fault) (h : ℕ) (others : List Unfitted)
    → (h == g) ≡ false → is_among g (map (λ u. u.glyph) others) ≡ false
    → is_among g (map (λ u. u.glyph) (listed h fault others)) ≡ false
among_listed g gs None h others other absent = absent
among_listed g gs (Some fault) h others other absent = rw other absent

not_listed : (maker : ℕ → Fitter) (g : ℕ) (gs : List ℕ) → is_among g gs ≡ false
    → is_among g (map (λ u. u.glyph) (unfitted_among maker gs)) ≡ false
not_listed maker g [] not_there = refl
not_listed maker g (h ∷ gs) not_there =
    let parts = neither (h == g) (is_among g gs) not_there in
    among_listed g gs (unfitted_fault (maker h) h) h (unfitted_among maker gs) parts.0 (not_listed maker g gs parts.1)

listed_once : (g : ℕ) (fault : Option Fault) (others : List Unfitted)
    → is_among g (map (λ u. u.glyph) others) ≡ false → ListsOnce others → ListsOnce (listed g fault others)
listed_once g None others not_there once = once
listed_once g (Some fault) others not_there once = rw (not_there, once) refl

among_once : (maker : ℕ → Fitter) (gs : List ℕ) → all_differ gs ≡ true → ListsOnce (unfitted_among maker gs)
among_once maker [] differ = refl
among_once maker (g ∷ gs) differ =
    let heads = both (not (is_among g gs)) (all_differ gs) differ in
    let out = not_listed maker g gs (is_not (is_among g gs) heads.0) in
    listed_once g (unfitted_fault (maker g) g) (unfitted_among maker gs) out (among_once maker gs heads.1)

-- no glyph of some is listed twice
pub lists_once : (maker : ℕ → Fitter) (gs : List ℕ) → ListsOnce (unfitted_among maker (distinct gs))
lists_once maker gs = among_once maker (distinct gs) (distinct_differ [] gs refl)

-- the glyphs from place i on are glyph i and those after it
from_one : (gs : List Glyph) (i : ℕ) (g : Glyph) → i < length gs → g ≡ get_or gs i g → drop i gs
    ≡ g ∷ drop (i + 1) gs
from_one gs i g below is =
    let whole : drop i gs ≡ get_or gs i g ∷ drop (i + 1) gs = rw add-one (drop-cons gs i g below) in rw (← is) at whole

-- one more glyph is listed after those before it, or is not
pub one_listed : (gs : List Glyph) (i : ℕ) (g : Glyph) (before : List Unfitted) (u : Unfitted) → i < length gs
    → g ≡ get_or gs i g → g.unfitted ≡ Some u.fault → u.glyph ≡ g.number
    → (before ++ u ∷ []) ++ unfitted_standing (drop (i + 1) gs) ≡ before ++ unfitted_standing (drop i gs)
one_listed gs i g before u below is stands number =
    rw (from_one gs i g below is, stands, ← number)
    (append_assoc before (u ∷ []) (unfitted_standing (drop (i + 1) gs)))

pub none_more : (gs : List Glyph) (i : ℕ) (g : Glyph) (before : List Unfitted) → i < length gs
    → g ≡ get_or gs i g → g.unfitted ≡ None
    → before ++ unfitted_standing (drop (i + 1) gs) ≡ before ++ unfitted_standing (drop i gs)
none_more gs i g before below is stands = rw (from_one gs i g below is, stands) refl

-- the list of a line's glyphs is that of the definition
pub of_line : (maker : ℕ → Fitter) (gs : List Glyph) (line : List (ℕ × ℕ)) (entries : List Unfitted)
    → AreDrawn maker gs → numbers_of gs ≡ distinct (map (λ g. g.0) line) → entries ≡ unfitted_standing gs
    → entries ≡ unfitted_among maker (distinct (map (λ g. g.0) line))
of_line maker gs line entries drawn numbers is =
    is ∙ standing_listed maker gs drawn ∙ ap (unfitted_among maker) numbers
