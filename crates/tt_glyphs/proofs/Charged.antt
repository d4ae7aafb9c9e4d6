-- What is left of limits, glyph after glyph.
use Rattle.std.proofs.Common.{◌≡◌, refl, ℕ, ◌+◌, ◌≤◌, inl, inr, List, [], ◌∷◌, map, Option, Some, None, All, arith}
use Rattle.std.proofs.lemmas.List.Elements.{All-cons, All-nil}
use Rattle.tt_fit.specs.Fitting.{Fitter}
use Rattle.tt_picture.specs.declared.fitting.LineLimits.{LineLimits}
use Rattle.tt_glyphs.specs.declared.ruled.TriedGlyph.{TriedGlyph}
use Rattle.tt_glyphs.specs.Drawn.{IsLeft}
use Rattle.tt_glyphs.specs.Tried.{AreTriedBy, IsPast, IsWithin, tried_glyph}

pub none_charged : (l : Option LineLimits) → IsLeft l 0 0 l
none_charged None = refl
none_charged (Some l) = (l, refl, omega arith, omega arith)

-- one glyph more
pub one_charged : (l m n : Option LineLimits) (chords crossings c x : ℕ) → IsLeft l chords crossings m → IsLeft m c x n
    → IsLeft l (chords + c) (crossings + x) n
one_charged None m n chords crossings c x so_far one = rw so_far at one
one_charged (Some l) m n chords crossings c x so_far one =
    let (r, is, at_chords, at_crossings) = so_far in
    let (k, left, of_chords, of_crossings) = rw is at one in
    (k, left, omega (arith, at_chords, of_chords), omega (arith, at_crossings, of_crossings))

-- a glyph for which too little is left
pub too_many : (l m : Option LineLimits) (chords crossings c x all_chords all_crossings : ℕ) → IsLeft l chords crossings m
    → IsPast m c x → chords + c ≤ all_chords → crossings + x ≤ all_crossings → IsPast l all_chords all_crossings
too_many None m chords crossings c x all_chords all_crossings so_far past few less = rw so_far at past
too_many (Some l) m chords crossings c x all_chords all_crossings so_far past few less =
    let (r, is, at_chords, at_crossings) = so_far in
    elim (rw is at past) [
      | inl over ↦ inl (omega (arith, at_chords, over, few))
      | inr over ↦ inr (omega (arith, at_crossings, over, less))
    ]

pub all_within : (l m : Option LineLimits) (chords crossings : ℕ) → IsLeft l chords crossings m → IsWithin l chords crossings
all_within None m chords crossings so_far = tt
all_within (Some l) m chords crossings so_far =
    let (r, is, at_chords, at_crossings) = so_far in
    (omega (arith, at_chords), omega (arith, at_crossings))

-- glyphs that are tried by their fitters, one by one
abbrev pub IsTriedBy : (ℕ → Fitter) → TriedGlyph → Type 0
IsTriedBy maker t = t ≡ tried_glyph (maker t.number) t.number

head_of : {X : Type 0} (x y : X) (xs ys : List X) → x ∷ xs ≡ y ∷ ys → x ≡ y
head_of x y xs ys is = cc

tail_of : {X : Type 0} (x y : X) (xs ys : List X) → x ∷ xs ≡ y ∷ ys → xs ≡ ys
tail_of x y xs ys is = cc

pub all_tried : (maker : ℕ → Fitter) (ts : List TriedGlyph) → AreTriedBy maker ts → All (IsTriedBy maker) ts
all_tried maker [] are = All-nil (IsTriedBy maker)
all_tried maker (t ∷ ts) are =
    let rest = map (λ (t : TriedGlyph). tried_glyph (maker t.number) t.number) ts in
    All-cons (IsTriedBy maker) t ts (head_of t (tried_glyph (maker t.number) t.number) ts rest are)
    (all_tried maker ts (tail_of t (tried_glyph (maker t.number) t.number) ts rest are))
