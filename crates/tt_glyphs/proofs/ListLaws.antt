-- Laws of the bitmaps of a list.
use Rattle.std.proofs.Common.{◌≡◌, ◌∙◌, refl, sym, ap, ap₂, ℕ, ◌+◌, ◌*◌, Bool, true, false, ◌==◌, nat_lt, if◌then◌else◌, ℤ, List, [], ◌∷◌, length, Option, None, Result, Ok, Err}
use Rattle.std.specs.List.{flat_map, sum_by}
use Rattle.std.proofs.lemmas.List.{get_or-map, length-append}
use Rattle.std.proofs.lemmas.List.Sums.{sum_by-cons}
use Rattle.tt_core.specs.Faults.{Fault}
use Rattle.tt_fit.specs.declared.programs.Fit.{Fit}
use Rattle.tt_fit.specs.Fitting.{Fitter, after_glyph, fitted_outline, unfitted_fault}
use Rattle.tt_fit.specs.Laws.{UnboundedStays}
use Rattle.tt_fit.specs.outline.Outline.{Outline}
use Rattle.tt_metrics.specs.Metrics.{glyphs_of}
use Rattle.tt_picture.specs.Distinct.{distinct, fitter_for}
use Rattle.tt_picture.specs.Ink.{glyph_ink}
use Rattle.tt_picture.specs.Shapes.{shape_at}
use Rattle.tt_picture.proofs.RowBytes.{length-rows}
use Rattle.tt_picture.proofs.Unbounded.{uncharged}
use Rattle.tt_strike.specs.Work.{asked_work, line_fitter}
use Rattle.tt_glyphs.specs.Bitmaps.{bitmap_pixel, is_large, place_bytes, place_of}
use Rattle.tt_glyphs.specs.declared.place.InkPlace.{InkPlace}
use Rattle.tt_glyphs.specs.declared.told.Told.TheVariants as told
use Rattle.tt_picture.specs.Steps.{glyph_advance}
use Rattle.tt_glyphs.specs.Entries.{advance_by, entry_of, glyph_told, known, made_within, number_bytes, number_rows, told_bytes, told_rows}
use Rattle.tt_glyphs.specs.GlyphLaws.{OrderChangesNothing, RepeatsAreEqual, RowsAreCounted}
use Rattle.tt_glyphs.proofs.DrawnGlyphs.{told_is, told_refused}

-- a number that repeats

pub repeats_are_equal : RepeatsAreEqual
repeats_are_equal how s gs i j e below under same =
    let f = entry_of how s gs in
    get_or-map f gs i 0 e below ∙ ap f same ∙ sym (get_or-map f gs j 0 e under)

-- one fitter serves all glyphs where work is not bounded

either_same : (b : Bool) (s t : Fitter) → t ≡ s → (if b then s else t) ≡ s
either_same true s t same = refl
either_same false s t same = same

same_fitter : UnboundedStays → (s : Fitter) (ns : List ℕ) (g : ℕ) → s.work ≡ None → fitter_for s ns g ≡ s
same_fitter stays s [] g none = refl
same_fitter stays s (n ∷ ns) g none =
    either_same (n == g) s (fitter_for (after_glyph s n) ns g)
    (ap (λ (t : Fitter). fitter_for t ns g) (stays s n none).1 ∙ same_fitter stays s ns g none)

pub alone : UnboundedStays → (s : Fitter) (gs : List ℕ) (g : ℕ) → s.work ≡ None → line_fitter s gs g ≡ s
alone stays s gs g none =
    ap (λ (t : Fitter). fitter_for t (distinct gs) g) (uncharged s (asked_work s gs) none)
    ∙ same_fitter stays s (distinct gs) g none

pub order_changes_nothing : UnboundedStays → OrderChangesNothing
order_changes_nothing stays how s gs hs g none =
    ap (λ (t : Fitter). if nat_lt g (glyphs_of s.metrics) then glyph_told how t g else told.Unknown)
    (alone stays s (known s gs) g none ∙ sym (alone stays s (known s hs) g none))

-- a report has the bytes of its rows

made_length : (s : Fitter) (g : ℕ) (o : Outline) (p : InkPlace) (advance : ℕ) (left : ℤ) (unfitted : Option Fault) (large : Bool)
    → fitted_outline s g ≡ Ok o → is_large p ≡ large
    → length (told_rows s g (made_within advance left unfitted p)) ≡ told_bytes (made_within advance left unfitted p)
made_length s g o p advance left unfitted true made is = rw is refl
made_length s g o p advance left unfitted false made is =
    rw (is, made) (length-rows p.width (bitmap_pixel (shape_at s (g, 0) o) p) 0 (place_bytes p))

length_by : (how : Fit) (s : Fitter) (g : ℕ) (f : Result Outline Fault) → fitted_outline s g ≡ f
    → length (told_rows s g (glyph_told how s g)) ≡ told_bytes (glyph_told how s g)
length_by how s g (Ok o) is =
    let p = place_of (glyph_ink s g) in
    rw (told_is how s g o p is refl) (made_length s g o p (advance_by how s g) (glyph_advance s g) (unfitted_fault s g) (is_large p) is refl)
length_by how s g (Err fault) is = rw (told_refused how s g fault is) refl

known_length : (how : Fit) (s : Fitter) (g : ℕ) (b : Bool)
    → length (told_rows s g (if b then glyph_told how s g else told.Unknown)) ≡ told_bytes (if b then glyph_told how s g else told.Unknown)
known_length how s g true = length_by how s g (fitted_outline s g) refl
known_length how s g false = refl

pub number_length : (how : Fit) (s : Fitter) (gs : List ℕ) (g : ℕ) → length (number_rows how s gs g) ≡ number_bytes how s gs g
number_length how s gs g = known_length how (line_fitter s (known s gs) g) g (nat_lt g (glyphs_of s.metrics))

all_length : (rows : ℕ → List ℕ) (bytes : ℕ → ℕ) (ns : List ℕ) → ((n : ℕ) → length (rows n) ≡ bytes n)
    → length (flat_map rows ns) ≡ sum_by bytes ns
all_length rows bytes [] same = refl
all_length rows bytes (n ∷ ns) same =
    length-append (rows n) (flat_map rows ns) ∙ ap₂ (λ a b. a + b) (same n) (all_length rows bytes ns same)
    ∙ sym (sum_by-cons bytes n ns)

pub rows_are_counted : RowsAreCounted
rows_are_counted how s gs = all_length (number_rows how s gs) (number_bytes how s gs) (distinct gs) (number_length how s gs)
