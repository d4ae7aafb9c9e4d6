-- The glyphs of a line are made in order, each with the fitter after those before it.
use Rattle.std.proofs.Common.{◌≡◌, ◌∙◌, ℕ, Bool, true, false, ◌||◌, ◌==◌, List, [], ◌∷◌, ◌++◌, Result, Ok, Err, refl, sym, append_assoc, append-nil, arith}
use Rattle.std.specs.Prelude.{Option}
use Rattle.std.proofs.lemmas.Bool.Decides.{nat_tests}
use Rattle.tt_core.specs.Outcomes.{◌>>=◌}
use Rattle.tt_core.specs.Faults.{Fault}
use Rattle.tt_fit.specs.Dropouts.{dropouts_of}
use Rattle.tt_fit.specs.Fitting.{Fitter, after_glyph}
use Rattle.tt_fit.specs.outline.Outline.{Outline}
use Rattle.tt_picture.specs.Distinct.{is_among, distinct_after, fitter_after, fitter_for, IsNext}

-- a glyph does not change the glyph data
pub same_tables : (s : Fitter) (g : ℕ) → (after_glyph s g).tables ≡ s.tables
unfolding after_glyph
same_tables s g = refl

-- a glyph does not change the source of the dropout rules
pub same_dropouts : (s : Fitter) (g : ℕ) (unfitted : Option Fault) (o : Outline)
    → dropouts_of (after_glyph s g) unfitted o ≡ dropouts_of s unfitted o
unfolding after_glyph
same_dropouts s g unfitted o = refl

neither : (a b : Bool) → (a || b) ≡ false → (a ≡ false) × (b ≡ false)
neither true b is = absurd cc
neither false b is = (refl, is)

-- the distinct glyphs of some begin with those before them
abbrev pub BeginsWith : List ℕ → List ℕ → Type 0
BeginsWith before all = (rest : List ℕ) × (all ≡ before ++ rest)

begins_by : (there : Bool) (before : List ℕ) (g : ℕ) (gs : List ℕ) → is_among g before ≡ there
    → BeginsWith before (distinct_after before gs)
    → BeginsWith (before ++ g ∷ []) (distinct_after (before ++ g ∷ []) gs)
    → BeginsWith before (distinct_after before (g ∷ gs))
begins_by true before g gs is same more = (same.0, rw is same.1)
begins_by false before g gs is same more =
    (g ∷ more.0, rw is (more.1 ∙ append_assoc before (g ∷ []) more.0))

pub begins_with : (before gs : List ℕ) → BeginsWith before (distinct_after before gs)
begins_with before [] = ([], sym (append-nil before))
begins_with before (g ∷ gs) = begins_by (is_among g before) before g gs refl (begins_with before gs)
    (begins_with (before ++ g ∷ []) gs)

-- the first one after some is made with the fitter after these
after_those : (s : Fitter) (before rest : List ℕ) (g : ℕ) → is_among g before ≡ false
    → fitter_for s (before ++ g ∷ rest) g ≡ fitter_after s before
after_those s [] rest g absent = let same : (g == g) ≡ true = grind (arith, nat_tests) in rw same refl
after_those s (h ∷ hs) rest g absent =
    let parts = neither (h == g) (is_among g hs) absent in
    rw parts.0 (after_those (after_glyph s h) hs rest g parts.1)

-- the next glyph of a line, if not made yet, is made with the present fitter
pub next_is : (s now : Fitter) (before all : List ℕ) (g : ℕ) (gs : List ℕ) → distinct_after before (g ∷ gs) ≡ all
    → now ≡ fitter_after s before → IsNext (fitter_for s all) now before g
next_is s now before all g gs are left absent =
    let more = begins_with (before ++ g ∷ []) gs in
    let all_is : all ≡ before ++ g ∷ more.0 =
    sym are ∙ rw absent (more.1 ∙ append_assoc before (g ∷ []) more.0) in
    rw all_is (after_those s before more.0 g absent) ∙ sym left

pub pushed : (s : Fitter) (before : List ℕ) (g : ℕ) → fitter_after s (before ++ g ∷ []) ≡ after_glyph (fitter_after s before) g
pushed s [] g = refl
pushed s (h ∷ hs) g = pushed (after_glyph s h) hs g

-- a result appended to nothing is the result
pub none_before : {B E : Type 0} (r : Result (List B) E) → (r >>= λ ys. Ok ([] ++ ys)) ≡ r
none_before (Ok ys) = refl
none_before (Err e) = refl
