-- The pens of a text, unit by unit.
use Rattle.std.proofs.Common.{◌≡◌, refl, ap, ℕ, ◌+◌, ◌<◌, ◌≤◌, List, [], ◌∷◌, ◌++◌, get_or, length, map, sum, sum_by, take, zip, Fits, w32, arith}
use Rattle.std.proofs.lemmas.List.Sums.{sum-map, sum_by-cons, sum_by_more_le}
use Rattle.tt_cmap.specs.declared.units.TextUnit.{TextUnit}
use Rattle.tt_core.specs.Limits.{margin_limit, width_limit}
use Rattle.tt_strike.specs.declared.layouts.Pen.{Pen}
use Rattle.tt_strike.specs.Layouts.{pens_at}

-- the columns of a unit
abbrev pub columns : TextUnit × (ℕ × ℕ) → ℕ
columns x = x.1.1

-- the pen of a unit with its glyph and its step
abbrev pub pen_of : ℕ → TextUnit × (ℕ × ℕ) → Pen
pen_of pen x = record { unit = x.0; glyph = x.1.0; advance = x.1.1; pen = pen }

-- the pens of some units
abbrev pub pens_of : List (TextUnit × (ℕ × ℕ)) → ℕ → List Pen
pens_of [] pen = []
pens_of (x ∷ xs) pen = pen_of pen x ∷ pens_of xs (pen + columns x)

pub pens_zipped : (us : List TextUnit) (gs : List (ℕ × ℕ)) (pen : ℕ) → pens_at us gs pen ≡ pens_of (zip us gs) pen
pens_zipped [] gs pen = refl
pens_zipped (u ∷ us) [] pen = refl
pens_zipped (u ∷ us) (g ∷ gs) pen = ap (λ (ps : List Pen). pen_of pen (u, g) ∷ ps) (pens_zipped us gs (pen + g.1))

pub one_pen_more : (xs : List (TextUnit × (ℕ × ℕ))) (x : TextUnit × (ℕ × ℕ)) (pen : ℕ)
    → pens_of (xs ++ x ∷ []) pen ≡ pens_of xs pen ++ pen_of (pen + sum_by columns xs) x ∷ []
one_pen_more [] x pen = let here : pen ≡ pen + 0 = omega arith in rw (← here) refl
one_pen_more (y ∷ xs) x pen =
    let all = sum_by-cons columns y xs in
    let there : pen + columns y + sum_by columns xs ≡ pen + sum_by columns (y ∷ xs) = omega (arith, all) in
    rw (one_pen_more xs x (pen + columns y), there) refl

-- the columns of the units with steps are among those of all steps
pub zipped_within : (us : List TextUnit) (gs : List (ℕ × ℕ)) → sum_by columns (zip us gs) ≤ sum_by (λ (g : ℕ × ℕ). g.1) gs
zipped_within [] gs = omega arith
zipped_within (u ∷ us) [] = omega arith
zipped_within (u ∷ us) (g ∷ gs) =
    let rest = zipped_within us gs in
    let here = sum_by-cons columns (u, g) (zip us gs) in
    let all = sum_by-cons (λ (g : ℕ × ℕ). g.1) g gs in
    omega (arith, rest, here, all)

-- so the next pen is within the first and the sum of all steps
pub next_fits : (us : List TextUnit) (gs : List (ℕ × ℕ)) (walked : List (TextUnit × (ℕ × ℕ))) (x : TextUnit × (ℕ × ℕ))
    (k pen first : ℕ) → walked ≡ take k (zip us gs) → (k < length (zip us gs)) × (x ≡ get_or (zip us gs) k x)
    → pen ≡ first + sum_by columns walked → first ≤ margin_limit → sum (map (λ (g : ℕ × ℕ). g.1) gs) ≤ width_limit
    → Fits w32 (pen + columns x)
next_fits us gs walked x k pen first done turn is narrow fits =
    let more = sum_by_more_le columns (zip us gs) k x turn.0 in
    let within = zipped_within us gs in
    let all = sum-map (λ (g : ℕ × ℕ). g.1) gs in
    let so_far : sum_by columns walked ≡ sum_by columns (take k (zip us gs)) = ap (sum_by columns) done in
    let here : columns x ≡ columns (get_or (zip us gs) k x) = ap columns turn.1 in
    omega (arith, more, within, all, so_far, is, here, fits, narrow)
