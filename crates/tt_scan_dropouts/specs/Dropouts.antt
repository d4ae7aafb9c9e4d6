-- The dropouts of a glyph: first a pass over all rows, then a pass over all columns. For the second pass the pixels
-- that the rows added are black (profile). Dots do not depend on the passes (profile). A glyph's box holds all its
-- points, those off the curve too, so it may be larger than that of its edges (profile).
use Rattle.std.specs.Prelude.{ℕ, ◌+◌, Bool, not, ◌&&◌, ◌||◌, ℤ, List, [], ◌∷◌, map}
use Rattle.std.specs.List.{flat_map}
use Rattle.tt_scan_edges.specs.declared.edge.Edge.{Edge}
use Rattle.tt_scan_edges.specs.Winding.{is_black}
use Rattle.tt_scan_gaps.specs.Crossings.{centre, lines_crossed}
use Rattle.tt_scan_gaps.specs.Boxes.{columns_in, columns_reached, extents_turned, rows_reached}
use Rattle.tt_scan_gaps.specs.Dots.{has_dot}
use Rattle.tt_scan_gaps.specs.Gaps.{is_added}
use Rattle.tt_scan_gaps.specs.Seen.{turned_round}
use Rattle.tt_scan_gaps.specs.Walk.{marks}
use Rattle.tt_scan_gaps.specs.declared.mark.Columns.{Columns}
use Rattle.tt_scan_gaps.specs.declared.mark.Rules.{Rules}
use Rattle.tt_scan_dropouts.specs.declared.boxed.BoxedRules.{BoxedRules}

-- x and y exchanged
abbrev pub outline_turned : List (List Edge) → List (List Edge)
outline_turned contours = map (map turned_round) contours

-- the edges of all contours
abbrev pub edges_of : List (List Edge) → List Edge
edges_of contours = flat_map (λ es. es) contours

-- the rules and the box with x and y exchanged
abbrev pub rules_turned : BoxedRules → BoxedRules
rules_turned rules = record { rules = rules.rules; extents = extents_turned rules.extents }

-- a pass over an outline's rows adds a pixel, by the columns of a box and the pixels that are black before
abbrev pub pass_adds : Rules → Columns → List (List Edge) → (ℤ → ℤ → Bool) → ℤ → ℤ → Bool
pass_adds rules columns contours black c j = is_added rules columns (marks rules.stubs contours) black c j

-- the columns are those of the glyph's box
abbrev pub row_adds : BoxedRules → List (List Edge) → (ℤ → ℤ → Bool) → ℤ → ℤ → Bool
row_adds rules contours black c j = pass_adds rules.rules (columns_in rules.extents) contours black c j

-- black by rules 1 and 2
abbrev pub is_inked : List (List Edge) → ℤ → ℤ → Bool
is_inked contours c j = is_black (edges_of contours) (centre c) (centre j)

abbrev pub is_added_by_rows : BoxedRules → List (List Edge) → ℤ → ℤ → Bool
is_added_by_rows rules contours c j = row_adds rules contours (is_inked contours) c j

-- the pass over columns adds a pixel; for it the rows' pixels are black, and column and row are exchanged
abbrev pub is_added_by_columns : BoxedRules → List (List Edge) → ℤ → ℤ → Bool
is_added_by_columns rules contours c j = row_adds (rules_turned rules) (outline_turned contours)
    (λ j c. is_inked contours c j || is_added_by_rows rules contours c j) j c

-- one of the passes adds a pixel
abbrev pub is_bridged : BoxedRules → List (List Edge) → ℤ → ℤ → Bool
is_bridged rules contours c j = is_added_by_rows rules contours c j || is_added_by_columns rules contours c j

-- a dot is drawn at a pixel that is white by rules 1 and 2
abbrev pub is_dotted : BoxedRules → List (List Edge) → ℤ → ℤ → Bool
is_dotted rules contours c j =
    rules.rules.dots && (not (is_inked contours c j) && has_dot rules.rules.stubs contours c j)

-- the pixel of column c and row j, counted rightwards from the glyph's origin and upwards from the base line, is a
-- dropout
abbrev pub is_dropout : BoxedRules → List (List Edge) → ℤ → ℤ → Bool
is_dropout rules contours c j = is_bridged rules contours c j || is_dotted rules contours c j

-- the columns and the rows that a glyph's dropouts may lie in
abbrev pub columns_of_rules : BoxedRules → Columns
columns_of_rules rules = columns_reached rules.rules.dots rules.extents

abbrev pub rows_of_rules : BoxedRules → Columns
rows_of_rules rules = rows_reached rules.rules.dots rules.extents

-- the number of lines of rows and of columns that edges cross
abbrev pub crossed : List Edge → ℕ
crossed [] = 0
crossed (e ∷ es) = (lines_crossed e + lines_crossed (turned_round e)) + crossed es

-- worked values: Examples.antt
