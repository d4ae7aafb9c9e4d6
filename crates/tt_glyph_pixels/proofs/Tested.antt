-- Where no edge that is tested makes a pass needed, no edge makes a mark in a free gap.
use Rattle.std.proofs.Common.{◌≡◌, ◌∙◌, refl, sym, ap, Bool, true, false, ◌||◌, ℕ, List, [], ◌∷◌, All, length, map}
use Rattle.std.specs.Prelude.{ℤ}
use Rattle.std.specs.List.{list_any}
use Rattle.tt_bitmap.specs.Bitmaps as bitmaps
use Rattle.tt_bitmap.specs.Bitmaps.{BoxBitmap}
use Rattle.tt_scan.specs.Contours.{AreEnds, IsClosed, contours_at}
use Rattle.tt_scan_dropouts.proofs.Rising.{columns_balanced, none_tested, rows_balanced}
use Rattle.tt_scan_dropouts.specs.Rising.{is_tested}
use Rattle.tt_scan_dropouts.specs.Seen.{is_black_on}
use Rattle.tt_scan_edges.specs.Winding.{is_black}
use Rattle.tt_scan_edges.specs.declared.edge.Edge.{Edge}
use Rattle.tt_scan_gaps.specs.Crossings.{centre}
use Rattle.tt_scan_gaps.specs.Seen.{turned_round}
use Rattle.tt_scan_gaps.specs.Walk.{is_in_free_gap}
use Rattle.tt_scan_gaps.specs.declared.seen.Over.TheVariants as over

-- a test of edges that are turned round, and the test that turns them round
pub any_mapped : (p : Edge → Bool) (f : Edge → Edge) (es : List Edge) → list_any (λ e. p (f e)) es ≡ list_any p (map f es)
any_mapped p f [] = refl
any_mapped p f (e ∷ es) = ap (λ b. p (f e) || b) (any_mapped p f es)

-- a bitmap has exactly the pixels that edges blacken
abbrev pub HasInk : BoxBitmap → List Edge → Type 0
HasInk b es = (c j : ℤ) → bitmaps.is_black b c j ≡ is_black es (centre c) (centre j)

pub none_by_rows : (stubs : Bool) (b : BoxBitmap) (es : List Edge) → HasInk b es
    → list_any (is_tested stubs (is_black_on over.Rows b)) es ≡ false
    → list_any (is_in_free_gap stubs (is_black_on over.Rows b)) es ≡ false
none_by_rows stubs b es ink none =
    none_tested stubs (is_black_on over.Rows b) es (rows_balanced (is_black_on over.Rows b) es (λ c j white. sym (ink c j) ∙ white)) none

pub none_by_columns : (stubs : Bool) (b : BoxBitmap) (es : List Edge) (ends : List ℕ) → HasInk b es → AreEnds (length es) ends
    → All IsClosed (contours_at es ends)
    → list_any (is_tested stubs (is_black_on over.Columns b)) (map turned_round es) ≡ false
    → list_any (is_in_free_gap stubs (is_black_on over.Columns b)) (map turned_round es) ≡ false
none_by_columns stubs b es ends ink fit closed none =
    none_tested stubs (is_black_on over.Columns b) (map turned_round es)
    (columns_balanced (bitmaps.is_black b) es ends fit closed (λ c j white. sym (ink c j) ∙ white)) none
