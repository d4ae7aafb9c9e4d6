-- Grown pictures are made of bitmaps, which lie in them and are made.
use Rattle.std.proofs.Common.{◌≡◌, subst, ℕ, get_or, map, Result, Ok}
use Rattle.tt_core.specs.Chains.{came-through}
use Rattle.tt_face.specs.Faces.{Face}
use Rattle.tt_line.specs.Layout.{Placement}
use Rattle.tt_picture.specs.Ink.{column_of, glyph_ink, row_of}
use Rattle.tt_picture.specs.Pictures.{Image}
use Rattle.tt_picture.specs.Shapes.{chords_with, filled_by}
use Rattle.tt_bitmap.specs.Inks.{IsInk}
use Rattle.tt_strike.specs.Grown.{grown_outcome, grown_placement}
use Rattle.tt_strike_laws.specs.InkLaws.{GrownCutsNone}
use Rattle.tt_strike.specs.Job.{Job}
use Rattle.tt_strike.specs.Picture.{drawn, frame_of}
use Rattle.tt_strike.specs.Work.{line_fitter}
use Rattle.tt_ink_laws.specs.GrownLaws.{GrownLinesAreBitmaps, GrownLinesAreMade, GrownLinesHoldBitmaps}
use Rattle.tt_ink_laws.proofs.GrownInk.{all_inked, place_within}
use Rattle.tt_glyphs.proofs.LeastBitmaps.{BoxLaws, ink_of, outline_black, outline_held}
use Rattle.tt_glyphs.proofs.LineBitmaps.{drawn_is_bitmaps, of_shapes}
use Rattle.tt_glyphs.proofs.LineLimits.{grown_line_fits}
use Rattle.tt_glyphs.proofs.MadeLines.{drawn_are_made}

-- a grown picture is that of the grown line

same_line : {E : Type 0} (r : Result Placement E) (k l : Placement) → r ≡ Ok k → r ≡ Ok l → k ≡ l
same_line r k l one other = cc

grown_drawn : (face : Face) (a : Job) (line : Placement) (i : Image) → grown_placement face a ≡ Ok line → grown_outcome face a ≡ Ok i
    → drawn face a line ≡ Ok i
unfolding grown_outcome
grown_drawn face a line i is pictured =
    let by_line = came-through (grown_placement face a) _ i pictured in
    subst (λ (l : Placement). drawn face a l ≡ Ok i) (same_line (grown_placement face a) by_line.value line by_line.first is) by_line.rest

pub grown_lines_are_bitmaps : BoxLaws → GrownLinesAreBitmaps
grown_lines_are_bitmaps laws face a line s i is made pictured =
    drawn_is_bitmaps laws face a line s i made (grown_drawn face a line i is pictured)

pub grown_lines_hold_bitmaps : BoxLaws → GrownCutsNone → GrownLinesHoldBitmaps
grown_lines_hold_bitmaps laws uncut face a line s i is made pictured = λ n d below.
    let gs = line.glyphs in
    let maker = line_fitter s (map (λ (g : ℕ × ℕ). g.0) gs) in
    let f = frame_of line a.margin in
    let of = of_shapes face a line s i made (grown_drawn face a line i is pictured) in
    let g = get_or gs n d in
    let t = maker g.0 in
    let one = all_inked maker f gs of.shapes of.made n d below in
    let o = one.outline in
    let black = outline_black (filled_by t g.0 o) (chords_with t) o in
    let ink : IsInk black (glyph_ink t g.0) = rw (ink_of t g.0 o one.fitted) (outline_held laws t g.0 o) in
    place_within line a.margin g.1 black (glyph_ink t g.0) ink
    (λ k j dark. uncut face a line of.shapes (column_of f g.1 k) (row_of f j) is
    (record { setting = s; made = made; fitted = of.made }) (one.inked k j dark))

pub grown_lines_are_made : BoxLaws → GrownCutsNone → GrownLinesAreMade
grown_lines_are_made laws uncut face a line s i is made pictured known =
    let fits = grown_line_fits face a line is in
    drawn_are_made face a line s i made (grown_drawn face a line i is pictured) fits.width fits.height known
    (grown_lines_hold_bitmaps laws uncut face a line s i is made pictured)
