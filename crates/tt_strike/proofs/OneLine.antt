-- A picture of one line.
use Rattle.std.proofs.Common.{◌≡◌, refl, ℕ, List, [], ◌∷◌}
use Rattle.std.proofs.lemmas.List.Elements.{All-cons, All-nil}
use Rattle.tt_scan_edges.specs.declared.edge.Frame.{Frame}
use Rattle.tt_picture.specs.Lines.{AreLinesOf, HasGlyphsOf}
use Rattle.tt_picture.specs.declared.lines.PlacedLine.{PlacedLine}

-- a line whose glyphs are among some is a line of its picture
pub one_line : (f : Frame) (numbers : List ℕ) (line : PlacedLine) → line.frame ≡ f → HasGlyphsOf numbers line.glyphs.now
    → AreLinesOf f numbers (line ∷ [])
one_line f numbers line frame among = record {
  alike = All-cons (λ (l : PlacedLine). (l.frame.width ≡ f.width) × (l.frame.height ≡ f.height)) line [] (rw frame (refl, refl)) (All-nil _);
  among = All-cons (λ (l : PlacedLine). HasGlyphsOf numbers l.glyphs.now) line [] among (All-nil _);
}
