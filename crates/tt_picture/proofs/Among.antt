-- The glyphs of a line: each is among the distinct ones.
use Rattle.std.proofs.Common.{◌≡◌, refl, ℕ, Bool, true, false, ◌||◌, ◌==◌, List, [], ◌∷◌, ◌++◌, map, arith}
use Rattle.std.specs.Prelude.{All}
use Rattle.std.proofs.lemmas.Bool.Decides.{nat_tests}
use Rattle.std.proofs.lemmas.List.Elements.{All-cons, All-head, All-map, All-nil, All-tail}
use Rattle.tt_picture.specs.Distinct.{distinct, distinct_after, is_among, with_glyph}

or_true : (b : Bool) → (b || true) ≡ true
or_true true = refl
or_true false = refl

last_there : (n : ℕ) (gs : List ℕ) → is_among n (gs ++ n ∷ []) ≡ true
last_there n [] = let same : (n == n) ≡ true = grind (arith, nat_tests) in rw same refl
last_there n (g ∷ gs) = rw (last_there n gs) (or_true (g == n))

stays_by : (a b c : Bool) → (a || b) ≡ true → (b ≡ true → c ≡ true) → (a || c) ≡ true
stays_by true b c is more = refl
stays_by false b c is more = more is

stays_there : (n h : ℕ) (gs : List ℕ) → is_among n gs ≡ true → is_among n (gs ++ h ∷ []) ≡ true
stays_there n h [] is = absurd cc
stays_there n h (g ∷ gs) is = stays_by (g == n) (is_among n gs) (is_among n (gs ++ h ∷ [])) is (stays_there n h gs)

there_with : (n g : ℕ) (before : List ℕ) (here : Bool) → is_among g before ≡ here → is_among n before ≡ true
    → is_among n (with_glyph before g) ≡ true
there_with n g before true here is = rw here is
there_with n g before false here is = rw here (stays_there n g before is)

made_with : (g : ℕ) (before : List ℕ) (here : Bool) → is_among g before ≡ here → is_among g (with_glyph before g) ≡ true
made_with g before true here = rw here here
made_with g before false here = rw here (last_there g before)

there_after : (n : ℕ) (before gs : List ℕ) → is_among n before ≡ true → is_among n (distinct_after before gs) ≡ true
there_after n before [] is = is
there_after n before (g ∷ gs) is = there_after n (with_glyph before g) gs (there_with n g before (is_among g before) refl is)

all_after : (before gs : List ℕ) → All (λ g. is_among g (distinct_after before gs) ≡ true) gs
all_after before [] = All-nil _
all_after before (g ∷ gs) =
    All-cons (λ n. is_among n (distinct_after (with_glyph before g) gs) ≡ true) g gs
    (there_after g (with_glyph before g) gs (made_with g before (is_among g before) refl))
    (all_after (with_glyph before g) gs)

unmapped : (P : ℕ → Type 0) (line : List (ℕ × ℕ)) → All P (map (λ g. g.0) line) → All (λ (g : ℕ × ℕ). P g.0) line
unmapped P [] all = All-nil _
unmapped P (g ∷ gs) all = All-cons (λ (g : ℕ × ℕ). P g.0) g gs (All-head P g.0 (map (λ g. g.0) gs) all)
    (unmapped P gs (All-tail P g.0 (map (λ g. g.0) gs) all))

-- the glyph of each character is among them
pub all_among : (line : List (ℕ × ℕ)) (numbers : List ℕ) → numbers ≡ distinct (map (λ g. g.0) line)
    → All (λ g. is_among g.0 numbers ≡ true) line
all_among line numbers is = rw is
    (unmapped (λ n. is_among n (distinct (map (λ g. g.0) line)) ≡ true) line (all_after [] (map (λ g. g.0) line)))

-- a fact of each glyph of a line holds for another line with the same glyphs
pub of_same_glyphs : (P : ℕ → Type 0) (line other : List (ℕ × ℕ)) → map (λ g. g.0) other ≡ map (λ g. g.0) line
    → All (λ (g : ℕ × ℕ). P g.0) line → All (λ (g : ℕ × ℕ). P g.0) other
of_same_glyphs P line other same all = unmapped P other (rw same (All-map P (λ (g : ℕ × ℕ). g.0) line all))
