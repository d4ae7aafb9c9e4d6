-- The glyphs met so far in a line.
use Rattle.std.proofs.Common.{◌≡◌, ◌∙◌, sym, refl, ℕ, ◌+◌, ◌<◌, suc, true, false, List, [], ◌∷◌, ◌++◌, length, map, drop, get_or, add-one, drop-cons}
use Rattle.tt_picture.specs.Distinct.{is_among, distinct_after}

again : (before gs all : List ℕ) (g : ℕ) → is_among g before ≡ true → distinct_after before (g ∷ gs) ≡ all
    → distinct_after before gs ≡ all
again before gs all g there is = let step : distinct_after before (g ∷ gs) ≡ distinct_after before gs = rw there refl in sym step ∙ is

first : (before gs all : List ℕ) (g : ℕ) → is_among g before ≡ false → distinct_after before (g ∷ gs) ≡ all
    → distinct_after (before ++ g ∷ []) gs ≡ all
first before gs all g absent is =
    let step : distinct_after before (g ∷ gs) ≡ distinct_after (before ++ g ∷ []) gs = rw absent refl in sym step ∙ is

-- the next place of a line has a glyph already met, or the glyph is one more
pub met_again : (numbers all : List ℕ) (line : List (ℕ × ℕ)) (i : ℕ) → i < length line
    → is_among (get_or line i (0, 0)).0 numbers ≡ true
    → distinct_after numbers (map (λ g. g.0) (drop i line)) ≡ all
    → distinct_after numbers (map (λ g. g.0) (drop (i + 1) line)) ≡ all
met_again numbers all line i below there so_far =
    let whole = rw (drop-cons line i (0, 0) below) at so_far in
    rw add-one (again numbers (map (λ g. g.0) (drop (suc i) line)) all (get_or line i (0, 0)).0 there whole)

pub met_first : (numbers all : List ℕ) (line : List (ℕ × ℕ)) (i : ℕ) → i < length line
    → is_among (get_or line i (0, 0)).0 numbers ≡ false
    → distinct_after numbers (map (λ g. g.0) (drop i line)) ≡ all
    → distinct_after (numbers ++ (get_or line i (0, 0)).0 ∷ []) (map (λ g. g.0) (drop (i + 1) line)) ≡ all
met_first numbers all line i below absent so_far =
    let whole = rw (drop-cons line i (0, 0) below) at so_far in
    rw add-one (first numbers (map (λ g. g.0) (drop (suc i) line)) all (get_or line i (0, 0)).0 absent whole)
