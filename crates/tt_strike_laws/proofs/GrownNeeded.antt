-- Each side that is added to a grown picture has ink at its end.
use Rattle.std.proofs.Common.{◌≡◌, ◌∙◌, refl, ap, subst, sym, ℕ, ◌+◌, ◌<◌, Bool, true, ℤ, pos, negsuc, ◌+ℤ◌, ◌-ℤ◌, List, map, Option, Some, None, Ok, Result, ◌⊎◌, inl, inr, arith}
use Rattle.std.proofs.lemmas.Int.{ints}
use Rattle.tt_core.specs.Chains.{came-through}
use Rattle.tt_core.specs.Outcomes.{each}
use Rattle.tt_fit.specs.Fitting.{Fitter}
use Rattle.tt_line.specs.Layout.{Placement}
use Rattle.tt_bitmap.specs.Inks.{IsInk}
use Rattle.tt_strike.specs.Work.{line_fitter}
use Rattle.tt_strike.specs.Grown.{before, grown, grown_line, grown_placement, lacking, past, with_sides}
use Rattle.tt_strike_laws.specs.InkLaws.{AreNeeded, GrownAddsFewest, IsLeast, is_ink}
use Rattle.tt_strike.specs.Measures.{measured_line}
use Rattle.tt_picture.specs.Shapes.{glyph_shape}
use Rattle.tt_strike.specs.Picture.{frame_of, laid_out}
use Rattle.tt_picture.specs.Pixels.{Shape}
use Rattle.tt_strike.specs.declared.growing.Sides.{Sides}
use Rattle.tt_picture.specs.declared.ink_box.InkBox.{InkBox}
use Rattle.tt_strike_laws.proofs.GrownWhole.{line_ink, moved_black, not_too_large, same_glyphs}
use Rattle.tt_strike_laws.proofs.InkHeld.{BoxLaws, least_box, line_held, seen, shapes_black}
use Rattle.tt_strike.proofs.Placed.{of-job}

pub at_first : (at : ℤ) → 0 < before at → pos 0 -ℤ pos (before at) ≡ at
at_first (pos n) more = absurd (omega (arith, more))
at_first (negsuc n) more = omega (arith, ints)

pub at_last : (count left : ℕ) (at : ℤ) → 0 < past count at
    → (pos (count + left + past count at) -ℤ pos 1) -ℤ pos left ≡ at
at_last count left (pos n) more = omega (arith, ints, more)
at_last count left (negsuc n) more = absurd (omega (arith, more))

pub back : (at : ℤ) (n : ℕ) → (at +ℤ pos n) -ℤ pos n ≡ at
back at n = omega (arith, ints)

-- ink of the line, in the enlarged line
moved_ink : (maker : ℕ → Fitter) (margin : ℕ) (l : Placement) (s : Sides) (c r k j : ℤ) → c -ℤ pos s.left ≡ k
    → r -ℤ pos s.top ≡ j → line_ink maker margin l k j ≡ true → line_ink maker margin (with_sides l s) c r ≡ true
moved_ink maker margin l s c r k j column row is =
    moved_black maker (frame_of l margin) (frame_of (with_sides l s) margin) s.left s.top l.glyphs c r refl refl
    ∙ ap (λ z. line_ink maker margin l z (r -ℤ pos s.top)) column ∙ ap (line_ink maker margin l k) row ∙ is

needed : (maker : ℕ → Fitter) (margin : ℕ) (l : Placement) (b : InkBox) → IsLeast (line_ink maker margin l) b
    → AreNeeded (lacking l.width l.height b) (with_sides l (lacking l.width l.height b))
    (line_ink maker margin (with_sides l (lacking l.width l.height b)))
needed maker margin l b least =
    let s = lacking l.width l.height b in
    record {
      left = λ more.
          let at = least.left in (
            at.0 +ℤ pos s.top,
            moved_ink maker margin l s (pos 0) (at.0 +ℤ pos s.top) b.left at.0 (at_first b.left more)
                (back at.0 s.top) at.1,
          );
      top = λ more.
          let at = least.top in (
            at.0 +ℤ pos s.left,
            moved_ink maker margin l s (at.0 +ℤ pos s.left) (pos 0) at.0 b.top (back at.0 s.left)
                (at_first b.top more) at.1,
          );
      right = λ more.
          let at = least.right in (
            at.0 +ℤ pos s.top,
            moved_ink maker margin l s (pos (with_sides l s).width -ℤ pos 1) (at.0 +ℤ pos s.top) b.right
                at.0 (at_last l.width s.left b.right more) (back at.0 s.top) at.1,
          );
      bottom = λ more.
          let at = least.bottom in (
            at.0 +ℤ pos s.left,
            moved_ink maker margin l s (at.0 +ℤ pos s.left) (pos (with_sides l s).height -ℤ pos 1)
                at.0 b.bottom (back at.0 s.left) (at_last l.height s.top b.bottom more) at.1,
          );
    }

needed_alike : (s : Sides) (line : Placement) (these those : ℤ → ℤ → Bool) → ((c r : ℤ) → those c r ≡ these c r)
    → AreNeeded s line these → AreNeeded s line those
needed_alike s line these those same n = record {
  left = λ more. let at = n.left more in (at.0, same (pos 0) at.0 ∙ at.1);
  top = λ more. let at = n.top more in (at.0, same at.0 (pos 0) ∙ at.1);
  right = λ more. let at = n.right more in (at.0, same (pos line.width -ℤ pos 1) at.0 ∙ at.1);
  bottom = λ more. let at = n.bottom more in (at.0, same at.0 (pos line.height -ℤ pos 1) ∙ at.1);
}

adds_needed : (maker : ℕ → Fitter) (margin : ℕ) (l line : Placement) (ink : Option InkBox)
    → IsInk (line_ink maker margin l) (seen ink) → grown l ink ≡ Ok line
    → (line ≡ l) ⊎ ((s : Sides) × (line ≡ with_sides l s) × AreNeeded s line (line_ink maker margin line))
adds_needed maker margin l line None held is = inl (let same : l ≡ line = cc in sym same)
adds_needed maker margin l line (Some b) held is =
    let s = lacking l.width l.height b in
    let same = not_too_large (with_sides l s) line is in
    inr (
      s,
      sym same,
      subst (λ (p : Placement). AreNeeded s p (line_ink maker margin p)) same
          (needed maker margin l b (least_box (line_ink maker margin l) b held)),
    )

as_drawn : (maker : ℕ → Fitter) (margin : ℕ) (l line : Placement) (glyphs : List Shape)
    → each (glyph_shape maker) line.glyphs ≡ Ok glyphs
    → (line ≡ l) ⊎ ((s : Sides) × (line ≡ with_sides l s) × AreNeeded s line (line_ink maker margin line))
    → (line ≡ l) ⊎ ((s : Sides) × (line ≡ with_sides l s) × AreNeeded s line (is_ink (frame_of line margin) glyphs))
as_drawn maker margin l line glyphs fitted (inl same) = inl same
as_drawn maker margin l line glyphs fitted (inr adds) = inr (
  adds.0,
  adds.1,
  needed_alike adds.0 line (line_ink maker margin line) (is_ink (frame_of line margin) glyphs)
      (λ c r. shapes_black maker (frame_of line margin) line.glyphs glyphs c r fitted) adds.2,
)

same_line : {A E : Type 0} (r : Result A E) (x y : A) → r ≡ Ok x → r ≡ Ok y → x ≡ y
same_line r x y one other = cc

pub grown_adds_fewest : BoxLaws → GrownAddsFewest
unfolding grown_placement grown_line
grown_adds_fewest laws face a plain line glyphs laid is are =
    let by_line = came-through (laid_out face a) _ line is in
    let l = by_line.value in
    let by_measure = came-through (measured_line face a l) _ line by_line.rest in
    let m = by_measure.value in
    let made = of-job (grown l m.ink) line by_measure.rest in
    let s = are.setting in
    let maker = line_fitter s (map (λ (g : ℕ × ℕ). g.0) l.glyphs) in
    let fitted : each (glyph_shape maker) line.glyphs ≡ Ok glyphs =
    subst (λ (ns : List ℕ). each (glyph_shape (line_fitter s ns)) line.glyphs ≡ Ok glyphs)
    (same_glyphs l line m.ink made) are.fitted in
    let adds = as_drawn maker a.margin l line glyphs fitted
    (adds_needed maker a.margin l line m.ink (line_held laws face a l m s are.made by_measure.first) made) in
    subst (λ (p : Placement). (line ≡ p)
    ⊎ ((t : Sides) × (line ≡ with_sides p t) × AreNeeded t line (is_ink (frame_of line a.margin) glyphs)))
    (same_line (laid_out face a) l plain by_line.first laid) adds
