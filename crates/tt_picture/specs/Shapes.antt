-- The shapes of a line's glyphs: each glyph's outline moved to its pen, for the scan converter (OpenType, "TrueType
-- Fundamentals").
use Rattle.std.specs.Prelude.{ℕ, ◌+◌, ◌*◌, ℤ, pos, ◌-ℤ◌, List, [], ◌∷◌, Option, Some, None, Result, Ok}
use Rattle.tt_arc.specs.Bounds.{points_box}
use Rattle.tt_arc.specs.Chords.{chord_contours, chord_edges}
use Rattle.tt_arc.specs.declared.rule.ChordRule.{ChordRule}
use Rattle.tt_arc.specs.declared.rule.ChordRule.TheVariants as rule
use Rattle.tt_core.specs.Faults.{Fault}
use Rattle.tt_core.specs.Outcomes.{◌>>=◌}
use Rattle.tt_fit.specs.Dropouts.{dropouts_of}
use Rattle.tt_fit.specs.Fitting.{Fitter, fitted_outline, unfitted_fault}
use Rattle.tt_fit.specs.outline.Outline.{Outline}
use Rattle.tt_fit.specs.declared.dropouts.DropoutRules.{DropoutRules}
use Rattle.tt_picture.specs.Pixels.{Shape}
use Rattle.tt_scan_edges.specs.declared.edge.Edge.{Edge}
use Rattle.tt_scan_dropouts.specs.Counted.{edges_counted, filling_counted}
use Rattle.tt_scan_dropouts.specs.Laws.{rules_moved}
use Rattle.tt_scan_dropouts.specs.declared.boxed.BoxedRules.{BoxedRules}
use Rattle.tt_scan_gaps.specs.declared.extent.Extents.{Extents}

-- the x of the first phantom point, which is placed at the pen
abbrev pub origin_of : Outline → ℤ
origin_of o = o.phantom.left.0

-- curves have eight chords; with best, whose work is bounded, they have as many as their bend asks for
abbrev pub rule_by : Option ℕ → ChordRule
rule_by None = rule.Eight
rule_by (Some left) = rule.ByBend

abbrev pub chords_with : Fitter → ChordRule
chords_with s = rule_by s.work

-- the distance by which an outline is moved to a pen; a pixel has 64 units
abbrev pub offset_at : ℕ → Outline → ℤ
offset_at pen o = pos (64 * pen) -ℤ origin_of o

-- the edges of an outline at a pen
abbrev pub edges_at : ChordRule → ℕ → Outline → List Edge
edges_at r pen o = chord_edges r o.points o.ends (offset_at pen o) (pos 0)

-- the edges contour by contour
abbrev pub contours_of : ChordRule → ℕ → Outline → List (List Edge)
contours_of r pen o = chord_contours r o.points o.ends (offset_at pen o) (pos 0)

-- the box of an outline's points at pen 0
abbrev pub extents_of : Outline → Extents
extents_of o = points_box o.points (offset_at 0 o) (pos 0)

-- the dropout rules in the scan converter's type, with the glyph's box
abbrev pub rules_for : Extents → Option DropoutRules → Option BoxedRules
rules_for b None = None
rules_for b (Some rules) = Some (record { rules = record { stubs = rules.stubs; smart = rules.smart; dots = rules.dots }; extents = b })

-- the dropout rules of a glyph at pen 0
abbrev pub filled_by : Fitter → ℕ → Outline → Option BoxedRules
filled_by s g o = rules_for (extents_of o) (dropouts_of s (unfitted_fault s g) o)

-- the same at a pen, to which the box is moved
abbrev pub filled_at : ℕ → Option BoxedRules → Option BoxedRules
filled_at pen None = None
filled_at pen (Some rules) = Some (rules_moved (pos pen) (pos 0) rules)

-- a glyph at its pen, by its fitter
abbrev pub shape_at : Fitter → ℕ × ℕ → Outline → Shape
shape_at s g o = record {
  edges = edges_at (chords_with s) g.1 o;
  contours = contours_of (chords_with s) g.1 o;
  filled = filled_at g.1 (filled_by s g.0 o);
}

abbrev pub glyph_shape : (ℕ → Fitter) → ℕ × ℕ → Result Shape Fault
glyph_shape maker g = fitted_outline (maker g.0) g.0 >>= λ o. Ok (shape_at (maker g.0) g o)

-- where dropouts are filled, a glyph counts the search for them too
abbrev pub filling_crossings : Option BoxedRules → List Edge → ℕ
filling_crossings None edges = 0
filling_crossings (Some rules) edges = filling_counted rules.extents edges

-- the crossings of some glyphs, each at its pen: of all rows, inside a picture and outside
abbrev pub crossings_in : List Shape → ℕ
crossings_in [] = 0
crossings_in (s ∷ ss) = (edges_counted s.edges + filling_crossings s.filled s.edges) + crossings_in ss
