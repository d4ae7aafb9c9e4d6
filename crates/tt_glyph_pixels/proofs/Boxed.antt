-- All black pixels of a glyph with closed contours lie in the window of its box.
use Rattle.std.proofs.Common.{◌≡◌, refl, sym, subst, ◌∙◌, ℕ, Bool, true, false, ◌&&◌, ◌||◌, List, length, arith}
use Rattle.std.specs.Prelude.{ℤ, IfSome, Option, Some, None}
use Rattle.std.proofs.lemmas.Bool.{false≢true}
use Rattle.std.proofs.lemmas.Int.{ints}
use Rattle.tt_glyph_pixels.specs.Reach.{columns_by, count_of, draws_dots, rows_by, window_by}
use Rattle.tt_glyph_pixels.specs.Shown.{AreClosed, is_filled, shows}
use Rattle.tt_scan.specs.Contours.{AreEnds, contours_at}
use Rattle.tt_scan_dropouts.proofs.Clips.{box_has_it, dropout_boxed}
use Rattle.tt_scan_dropouts.proofs.InkedInBox.{inked_in_extents}
use Rattle.tt_scan_dropouts.proofs.Outlines.{edges_at}
use Rattle.tt_scan_dropouts.proofs.Reached.{box_reached}
use Rattle.tt_scan_dropouts.specs.Dropouts.{columns_of_rules, edges_of, is_inked, rows_of_rules}
use Rattle.tt_scan_dropouts.specs.Windows.{box_has, has, is_within}
use Rattle.tt_scan_dropouts.specs.declared.boxed.BoxedRules.{BoxedRules}
use Rattle.tt_scan_dropouts.specs.declared.window.Window.{Window}
use Rattle.tt_scan_edges.specs.Winding.{is_black}
use Rattle.tt_scan_edges.specs.declared.edge.Edge.{Edge}
use Rattle.tt_scan_gaps.specs.Boxes.{HoldsEdges, IsBoxOf, columns_reached, is_column_of, rows_reached}
use Rattle.tt_scan_gaps.specs.Crossings.{centre}
use Rattle.tt_scan_gaps.specs.declared.extent.Extents.{Extents}
use Rattle.tt_scan_gaps.specs.declared.mark.Columns.{Columns}

-- black by the edges
inked_boxed : (b : Extents) (filled : Option BoxedRules) (es : List Edge) (c j : ℤ) → HoldsEdges b es → AreClosed es
    → is_black es (centre c) (centre j) ≡ true → box_has (columns_by b filled) (rows_by b filled) c j ≡ true
inked_boxed b filled es c j held closed is =
    let rules : BoxedRules = record {
      rules = record { stubs = false; smart = false; dots = draws_dots filled };
      extents = b;
    } in
    let (contours, round, whole) = closed in
    let all : HoldsEdges b (edges_of contours) = rw whole held in
    let inked : is_inked contours c j ≡ true = rw whole is in
    box_has_it (columns_of_rules rules) (rows_of_rules rules) c j
    (box_reached rules c j (inked_in_extents b contours round all c j inked))

-- black by a dropout
filled_boxed : (b : Extents) (filled : Option BoxedRules) (es : List Edge) (ends : List ℕ) (c j : ℤ) → HoldsEdges b es
    → IfSome filled (λ rules. rules.extents ≡ b) → IfSome filled (λ rules. AreEnds (length es) ends)
    → is_filled filled (contours_at es ends) c j ≡ true → box_has (columns_by b filled) (rows_by b filled) c j ≡ true
filled_boxed b None es ends c j held same are is = absurd (false≢true is)
filled_boxed b (Some rules) es ends c j held same are is =
    let own : HoldsEdges rules.extents es = subst (λ (x : Extents). HoldsEdges x es) (sym same) held in
    let all : HoldsEdges rules.extents (edges_of (contours_at es ends)) = rw (edges_at es ends are) own in
    let there : box_has (columns_of_rules rules) (rows_of_rules rules) c j ≡ true =
    dropout_boxed rules (contours_at es ends) c j all is in
    subst (λ (x : Extents). box_has (columns_reached rules.rules.dots x) (rows_reached rules.rules.dots x) c j ≡ true) same there

-- the box of the rules, which is that of the glyph
pub rules_boxed : (b : Extents) (filled : Option BoxedRules) (es : List Edge) → IsBoxOf b es
    → IfSome filled (λ rules. rules.extents ≡ b) → IfSome filled (λ rules. IsBoxOf rules.extents es)
rules_boxed b None es boxed same = tt
rules_boxed b (Some rules) es boxed same = subst (λ (x : Extents). IsBoxOf x es) (sym same) boxed

-- a box and its window
within : (b : Columns) (n : ℤ) → is_column_of b n ≡ true → is_within b.first (count_of b) n ≡ true
within b n is = grind (arith, ints, is)

both_within : (a b p q : Bool) → (a && b) ≡ true → (a ≡ true → p ≡ true) → (b ≡ true → q ≡ true) → (p && q) ≡ true
both_within true true p q is first second = rw (first refl, second refl) refl
both_within true false p q is first second = absurd cc
both_within false b p q is first second = absurd cc

in_window : (columns rows : Columns) (c j : ℤ) → box_has columns rows c j ≡ true → has (window_by columns rows) c j ≡ true
in_window columns rows c j inside =
    both_within (is_column_of columns c) (is_column_of rows j) (is_within columns.first (count_of columns) c)
    (is_within rows.first (count_of rows) j) inside (within columns c) (within rows j)

where_so : (inside is : Bool) → (is ≡ true → inside ≡ true) → (inside && is) ≡ is
where_so true is so = refl
where_so false true so = let not : false ≡ true = so refl in absurd cc
where_so false false so = refl

-- a bitmap that was white, and then had the pixels of the window blackened by the edges
pub all_inked : (b : Extents) (filled : Option BoxedRules) (es : List Edge) (w : Window) (white inked : ℤ → ℤ → Bool)
    → HoldsEdges b es → AreClosed es → w ≡ window_by (columns_by b filled) (rows_by b filled)
    → ((c j : ℤ) → white c j ≡ false)
    → ((c j : ℤ) → inked c j ≡ (white c j || (has w c j && is_black es (centre c) (centre j))))
    → (c j : ℤ) → inked c j ≡ is_black es (centre c) (centre j)
all_inked b filled es w white inked held closed window first then c j =
    let columns = columns_by b filled in
    let rows = rows_by b filled in
    then c j ∙ rw (
      first c j,
      where_so (has w c j) (is_black es (centre c) (centre j))
          (λ is. rw window (in_window columns rows c j (inked_boxed b filled es c j held closed is))),
    ) refl

-- and then by the dropouts
pub all_shown : (b : Extents) (filled : Option BoxedRules) (es : List Edge) (ends : List ℕ) (w : Window)
    (white inked now : ℤ → ℤ → Bool) → HoldsEdges b es → IfSome filled (λ rules. rules.extents ≡ b)
    → IfSome filled (λ rules. AreEnds (length es) ends) → AreClosed es
    → w ≡ window_by (columns_by b filled) (rows_by b filled) → ((c j : ℤ) → white c j ≡ false)
    → ((c j : ℤ) → inked c j ≡ (white c j || (has w c j && is_black es (centre c) (centre j))))
    → ((c j : ℤ) → now c j ≡ (inked c j || (has w c j && is_filled filled (contours_at es ends) c j)))
    → (c j : ℤ) → now c j ≡ shows es (contours_at es ends) filled c j
all_shown b filled es ends w white inked now held same are closed window first then last c j =
    let columns = columns_by b filled in
    let rows = rows_by b filled in
    let inked_so = where_so (has w c j) (is_black es (centre c) (centre j))
    (λ is. rw window (in_window columns rows c j (inked_boxed b filled es c j held closed is))) in
    let filled_so = where_so (has w c j) (is_filled filled (contours_at es ends) c j)
    (λ is. rw window (in_window columns rows c j (filled_boxed b filled es ends c j held same are is))) in
    last c j ∙ rw (then c j, first c j, inked_so, filled_so) refl
