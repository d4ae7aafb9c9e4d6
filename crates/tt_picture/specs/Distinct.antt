-- No part of the standard: the distinct glyphs of a line, in order of first appearance, each with the fitter that the
-- glyphs before it leave (profile).
use Rattle.std.specs.Prelude.{◌≡◌, refl, ℕ, Bool, false, ◌||◌, ◌==◌, if◌then◌else◌, List, [], ◌∷◌, ◌++◌}
use Rattle.tt_fit.specs.Fitting.{Fitter, after_glyph}

-- a glyph is among some
abbrev pub is_among : ℕ → List ℕ → Bool
is_among g [] = false
is_among g (h ∷ hs) = (h == g) || is_among g hs

-- a glyph after those before it, unless it is one of them
abbrev pub with_glyph : List ℕ → ℕ → List ℕ
with_glyph before g = if is_among g before then before else before ++ g ∷ []

-- the distinct glyphs of some, in order of first appearance, after those before them
abbrev pub distinct_after : List ℕ → List ℕ → List ℕ
distinct_after before [] = before
distinct_after before (g ∷ gs) = distinct_after (with_glyph before g) gs

abbrev pub distinct : List ℕ → List ℕ
distinct gs = distinct_after [] gs

-- the fitter after some glyphs were made, one after the other
abbrev pub fitter_after : Fitter → List ℕ → Fitter
fitter_after s [] = s
fitter_after s (g ∷ gs) = fitter_after (after_glyph s g) gs

-- the fitter for one of some glyphs, which are made in this order
abbrev pub fitter_for : Fitter → List ℕ → ℕ → Fitter
fitter_for s [] g = s
fitter_for s (h ∷ hs) g = if h == g then s else fitter_for (after_glyph s h) hs g

-- the fitter for each of some glyphs, which are made in the order of first appearance
abbrev pub each_fitter : Fitter → List ℕ → ℕ → Fitter
each_fitter s gs g = fitter_for s (distinct gs) g

-- a glyph not made yet is made with this fitter
abbrev pub IsNext : (ℕ → Fitter) → Fitter → List ℕ → ℕ → Type 0
IsNext maker s before g = is_among g before ≡ false → maker g ≡ s

-- worked values
each_once : distinct (7 ∷ 3 ∷ 7 ∷ 3 ∷ 5 ∷ []) ≡ 7 ∷ 3 ∷ 5 ∷ []
each_once = refl

third_after_two : (s : Fitter) → each_fitter s (7 ∷ 3 ∷ 7 ∷ 3 ∷ 5 ∷ []) 5 ≡ after_glyph (after_glyph s 7) 3
third_after_two s = refl

first_before_all : (s : Fitter) → each_fitter s (7 ∷ 3 ∷ 7 ∷ 3 ∷ 5 ∷ []) 7 ≡ s
first_before_all s = refl
