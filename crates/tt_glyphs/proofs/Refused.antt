-- The first of some tried glyphs that is refused refuses them all.
use Rattle.std.proofs.Common.{◌≡◌, ◌∙◌, refl, sym, ap, ℕ, zero, suc, ◌<◌, List, [], ◌∷◌, get_or, length, map, take, All, Result, Ok, Err, arith}
use Rattle.std.proofs.lemmas.List.Elements.{All-head, All-tail}
use Rattle.tt_core.specs.Faults.{Fault}
use Rattle.tt_core.specs.Outcomes.{◌>>=◌}
use Rattle.tt_fit.specs.Fitting.{Fitter, fitted_outline}
use Rattle.tt_fit.specs.outline.Outline.{Outline}
use Rattle.tt_picture.specs.Steps.{outlines_by}
use Rattle.tt_glyphs.specs.declared.ruled.TriedBody.{TriedBody}
use Rattle.tt_glyphs.specs.declared.ruled.TriedBody.TheVariants as body
use Rattle.tt_glyphs.specs.declared.ruled.TriedGlyph.{TriedGlyph}
use Rattle.tt_glyphs.specs.Tried.{AreTriedBy, IsMadeBody, ruled_by, tried_glyph, tried_numbers}

abbrev tried_again : (ℕ → Fitter) → TriedGlyph → TriedGlyph
tried_again maker t = tried_glyph (maker t.number) t.number

first_of : (x y : TriedGlyph) (xs ys : List TriedGlyph) → x ∷ xs ≡ y ∷ ys → x ≡ y
first_of x y xs ys is = cc

others_of : (x y : TriedGlyph) (xs ys : List TriedGlyph) → x ∷ xs ≡ y ∷ ys → xs ≡ ys
others_of x y xs ys is = cc

made_one : (s : Fitter) (n : ℕ) (r : Result Outline Fault) (b : TriedBody) → b ≡ ruled_by s n r → IsMadeBody b
    → (o : Outline) × (r ≡ Ok o)
made_one s n (Ok o) b is made = (o, refl)
made_one s n (Err f) b is made = absurd (rw is at made)

refused_one : (s : Fitter) (n : ℕ) (r : Result Outline Fault) (f : Fault) → body.Refused f ≡ ruled_by s n r → r ≡ Err f
refused_one s n (Ok o) f is = absurd cc
refused_one s n (Err g) f is = let same : f ≡ g = cc in rw same refl

outline_of : (maker : ℕ → Fitter) (t : TriedGlyph) → t ≡ tried_again maker t → IsMadeBody t.body
    → (o : Outline) × (fitted_outline (maker t.number) t.number ≡ Ok o)
outline_of maker t is made =
    made_one (maker t.number) t.number (fitted_outline (maker t.number) t.number) t.body (ap (λ (z : TriedGlyph). z.body) is) made

both_made : (one : Result Outline Fault) (rest : Result (List Outline) Fault) (o : Outline) (os : List Outline)
    → one ≡ Ok o → rest ≡ Ok os → (one >>= λ y. rest >>= λ ys. Ok (y ∷ ys)) ≡ Ok (o ∷ os)
both_made one rest o os first others = rw (first, others) refl

-- where none is refused, all have outlines
pub all_made : (maker : ℕ → Fitter) (ts : List TriedGlyph) → AreTriedBy maker ts → All (λ (t : TriedGlyph). IsMadeBody t.body) ts
    → (os : List Outline) × (outlines_by maker (tried_numbers ts) ≡ Ok os)
all_made maker [] tried made = ([], refl)
all_made maker (t ∷ ts) tried made =
    let one = outline_of maker t (first_of t (tried_again maker t) ts (map (tried_again maker) ts) tried)
    (All-head (λ (z : TriedGlyph). IsMadeBody z.body) t ts made) in
    let rest = all_made maker ts (others_of t (tried_again maker t) ts (map (tried_again maker) ts) tried)
    (All-tail (λ (z : TriedGlyph). IsMadeBody z.body) t ts made) in (
      one.0 ∷ rest.0,
      both_made (fitted_outline (maker t.number) t.number) (outlines_by maker (tried_numbers ts)) one.0 rest.0 one.1 rest.1,
    )

-- the first that is refused
pub first_refused : (maker : ℕ → Fitter) (ts : List TriedGlyph) (i : ℕ) (d : TriedGlyph) (f : Fault) → AreTriedBy maker ts
    → All (λ (t : TriedGlyph). IsMadeBody t.body) (take i ts) → i < length ts → (get_or ts i d).body ≡ body.Refused f
    → outlines_by maker (tried_numbers ts) ≡ Err f
first_refused maker [] i d f tried made below refused = absurd (omega (arith, below))
first_refused maker (t ∷ ts) zero d f tried made below refused =
    let own = first_of t (tried_again maker t) ts (map (tried_again maker) ts) tried in
    rw (refused_one (maker t.number) t.number (fitted_outline (maker t.number) t.number) f
    (sym refused ∙ ap (λ (z : TriedGlyph). z.body) own)) refl
first_refused maker (t ∷ ts) (suc i) d f tried made below refused =
    let one = outline_of maker t (first_of t (tried_again maker t) ts (map (tried_again maker) ts) tried)
    (All-head (λ (z : TriedGlyph). IsMadeBody z.body) t (take i ts) made) in
    let rest = first_refused maker ts i d f (others_of t (tried_again maker t) ts (map (tried_again maker) ts) tried)
    (All-tail (λ (z : TriedGlyph). IsMadeBody z.body) t (take i ts) made) (omega (arith, below)) refused in
    rw (one.1, rest) refl
