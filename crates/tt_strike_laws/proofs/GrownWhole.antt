-- All ink of a grown picture lies in it.
use Rattle.std.proofs.Common.{◌≡◌, ◌∙◌, refl, ap, subst, sym, ℕ, ◌+◌, nat_lt, Bool, true, ◌||◌, ℤ, pos, negsuc, ◌+ℤ◌, ◌-ℤ◌, ◌≤ℤ◌, ◌<ℤ◌, List, [], ◌∷◌, map, Option, Some, None, Ok, arith}
use Rattle.std.proofs.lemmas.Bool.{false≢true}
use Rattle.std.proofs.lemmas.Int.{ints}
use Rattle.tt_core.specs.declared.fault.JobFault.TheVariants as fault
use Rattle.tt_core.specs.Chains.{came-through, passed}
use Rattle.tt_core.specs.Limits.{height_limit, width_limit}
use Rattle.tt_core.specs.Outcomes.{each}
use Rattle.tt_fit.specs.Fitting.{Fitter}
use Rattle.tt_line.specs.Layout.{Placement}
use Rattle.tt_scan_edges.specs.declared.edge.Frame.{Frame}
use Rattle.tt_bitmap.specs.Inks.{IsInk}
use Rattle.tt_strike.specs.Work.{line_fitter}
use Rattle.tt_strike.specs.Grown.{before, grown, grown_line, grown_placement, lacking, not_large, past, with_sides}
use Rattle.tt_strike_laws.specs.InkLaws.{GrownCutsNone, IsLeast, IsInPicture, line_of}
use Rattle.tt_strike.specs.Measures.{measured_line}
use Rattle.tt_picture.specs.Shapes.{glyph_shape}
use Rattle.tt_strike.specs.Picture.{frame_of, laid_out}
use Rattle.tt_picture.specs.declared.ink_box.InkBox.{InkBox}
use Rattle.tt_strike_laws.proofs.InkHeld.{BoxLaws, glyph_black, least_box, line_black, line_held, seen, shapes_black}
use Rattle.tt_strike.proofs.Placed.{of-job}

-- a line with more columns on its left and more rows at its top
pub moved_black : (maker : ℕ → Fitter) (f g : Frame) (left top : ℕ) (gs : List (ℕ × ℕ)) (c r : ℤ) → g.margin ≡ f.margin
    → g.rise ≡ f.rise +ℤ pos top
    → line_black maker g (map (λ (p : ℕ × ℕ). (p.0, p.1 + left)) gs) c r
    ≡ line_black maker f gs (c -ℤ pos left) (r -ℤ pos top)
moved_black maker f g left top [] c r margin rise = refl
moved_black maker f g left top (p ∷ ps) c r margin rise =
    let column : c -ℤ pos ((p.1 + left) + g.margin) ≡ (c -ℤ pos left) -ℤ pos (p.1 + f.margin) =
    omega (arith, ints, margin) in
    let line : line_of g r ≡ line_of f (r -ℤ pos top) = omega (arith, ints, margin, rise) in
    let others = line_black maker g (map (λ (p : ℕ × ℕ). (p.0, p.1 + left)) ps) c r in
    let at = (c -ℤ pos left) -ℤ pos (p.1 + f.margin) in
    ap (λ k. glyph_black (maker p.0) p.0 k (line_of g r) || others) column
    ∙ ap (λ j. glyph_black (maker p.0) p.0 at j || others) line
    ∙ ap (λ b. glyph_black (maker p.0) p.0 at (line_of f (r -ℤ pos top)) || b)
    (moved_black maker f g left top ps c r margin rise)

same_numbers : (left : ℕ) (gs : List (ℕ × ℕ))
    → map (λ (g : ℕ × ℕ). g.0) (map (λ (g : ℕ × ℕ). (g.0, g.1 + left)) gs) ≡ map (λ (g : ℕ × ℕ). g.0) gs
same_numbers left [] = refl
same_numbers left (g ∷ gs) = ap (λ (ns : List ℕ). g.0 ∷ ns) (same_numbers left gs)

-- an enlarged line is the line with the columns and rows that its ink lacks

pub not_too_large : (l line : Placement) → not_large l ≡ Ok line → l ≡ line
unfolding not_large
not_too_large l line is =
    (passed (nat_lt width_limit l.width || nat_lt height_limit l.height) fault.PictureLarge l line is).1

pub same_glyphs : (l line : Placement) (ink : Option InkBox) → grown l ink ≡ Ok line
    → map (λ (g : ℕ × ℕ). g.0) line.glyphs ≡ map (λ (g : ℕ × ℕ). g.0) l.glyphs
same_glyphs l line None is =
    let same : l ≡ line = cc in
    ap (λ (p : Placement). map (λ (g : ℕ × ℕ). g.0) p.glyphs) (sym same)
same_glyphs l line (Some b) is =
    let sides = lacking l.width l.height b in
    let same = not_too_large (with_sides l sides) line is in
    ap (λ (p : Placement). map (λ (g : ℕ × ℕ). g.0) p.glyphs) (sym same) ∙ same_numbers sides.left l.glyphs

-- a place moved right or down by what a picture lacks before it, and the picture's end behind it

pub not_before : (at c : ℤ) → at ≤ℤ (c -ℤ pos (before at)) → pos 0 ≤ℤ c
not_before (pos n) c low = omega (arith, ints)
not_before (negsuc n) c low = omega (arith, ints)

pub not_past : (count left : ℕ) (at c : ℤ) → (c -ℤ pos left) ≤ℤ at → c <ℤ pos (count + left + past count at)
not_past count left (pos n) c high = omega (arith, ints)
not_past count left (negsuc n) c high = omega (arith, ints)

abbrev pub line_ink : (ℕ → Fitter) → ℕ → Placement → ℤ → ℤ → Bool
line_ink maker margin line c r = line_black maker (frame_of line margin) line.glyphs c r

in_sides : (maker : ℕ → Fitter) (margin : ℕ) (l : Placement) (b : InkBox) (c r : ℤ)
    → IsLeast (line_ink maker margin l) b → line_ink maker margin (with_sides l (lacking l.width l.height b)) c r ≡ true
    → IsInPicture (with_sides l (lacking l.width l.height b)) c r
in_sides maker margin l b c r least black =
    let sides = lacking l.width l.height b in
    let moved = moved_black maker (frame_of l margin) (frame_of (with_sides l sides) margin) sides.left sides.top l.glyphs
    c r refl refl in
    let at = least.within (c -ℤ pos sides.left) (r -ℤ pos sides.top) (sym moved ∙ black) in
    record {
      left = not_before b.left c at.left;
      top = not_before b.top r at.top;
      right = not_past l.width sides.left b.right c at.right;
      bottom = not_past l.height sides.top b.bottom r at.bottom;
    }

none_cut : (maker : ℕ → Fitter) (margin : ℕ) (l line : Placement) (ink : Option InkBox) (c r : ℤ)
    → IsInk (line_ink maker margin l) (seen ink) → grown l ink ≡ Ok line → line_ink maker margin line c r ≡ true
    → IsInPicture line c r
none_cut maker margin l line None c r none is black =
    let same : l ≡ line = cc in
    absurd (false≢true (sym (none c r) ∙ ap (λ (p : Placement). line_ink maker margin p c r) same ∙ black))
none_cut maker margin l line (Some b) c r held is black =
    let same = not_too_large (with_sides l (lacking l.width l.height b)) line is in
    let larger : line_ink maker margin (with_sides l (lacking l.width l.height b)) c r ≡ true =
    ap (λ (p : Placement). line_ink maker margin p c r) same ∙ black in
    subst (λ (p : Placement). IsInPicture p c r) same
    (in_sides maker margin l b c r (least_box (line_ink maker margin l) b held) larger)

pub grown_cuts_none : BoxLaws → GrownCutsNone
unfolding grown_placement grown_line
grown_cuts_none laws face a line glyphs c r is are black =
    let by_line = came-through (laid_out face a) _ line is in
    let l = by_line.value in
    let by_measure = came-through (measured_line face a l) _ line by_line.rest in
    let m = by_measure.value in
    let made = of-job (grown l m.ink) line by_measure.rest in
    let s = are.setting in
    let maker = line_fitter s (map (λ (g : ℕ × ℕ). g.0) l.glyphs) in
    let fitted : each (glyph_shape maker) line.glyphs ≡ Ok glyphs =
    subst (λ (ns : List ℕ). each (glyph_shape (line_fitter s ns)) line.glyphs ≡ Ok glyphs) (same_glyphs l line m.ink made)
    are.fitted in
    none_cut maker a.margin l line m.ink c r (line_held laws face a l m s are.made by_measure.first) made
    (sym (shapes_black maker (frame_of line a.margin) line.glyphs glyphs c r fitted) ∙ black)
