-- All ink of a label lies in its picture, and each side that is added has ink at its end.
use Rattle.std.proofs.Common.{◌≡◌, ◌∙◌, refl, ap, ap₂, subst, sym, ℕ, ◌+◌, Bool, true, false, ◌||◌, ℤ, pos, ◌+ℤ◌, ◌-ℤ◌, List, [], ◌∷◌, ◌++◌, map, Option, Some, None, Result, Ok, Err, ◌⊎◌, inl, inr}
use Rattle.std.proofs.lemmas.Bool.{false≢true}
use Rattle.std.specs.List.{flat_map}
use Rattle.tt_core.specs.Chains.{came-through}
use Rattle.tt_core.specs.Faults.{Fault}
use Rattle.tt_core.specs.Outcomes.{◌>>=◌, each}
use Rattle.tt_face.specs.Faces.{Face}
use Rattle.tt_fit.specs.Fitting.{Fitter}
use Rattle.tt_ink_laws.specs.LabelInk.{LabelInkIsDrawn, LabelsAddFewest, LabelsCutNone, ink_of_label, is_inked, line_inks, some_line_inks}
use Rattle.tt_label.specs.InkLaws.{with_room}
use Rattle.tt_label.specs.Label.{grown_lines, joint, joint_numbers, label_ink, line_box}
use Rattle.tt_label.specs.Made.{AreAlike}
use Rattle.tt_label.proofs.Drawn.{joint_glyphs}
use Rattle.tt_label.proofs.LabelPlaced.{IsGrownLabel, all_enlarged, all_kept, grown_label, laid_label, numbers_alike}
use Rattle.tt_label.proofs.Placed.{placed_lines}
use Rattle.tt_line.specs.Layout.{Placement}
use Rattle.tt_picture.specs.declared.ink_box.InkBox.{InkBox}
use Rattle.tt_picture.specs.Ink.{all_joined, glyph_ink, joined}
use Rattle.tt_picture.specs.Lines.{is_shown}
use Rattle.tt_picture.specs.Pixels.{Shape}
use Rattle.tt_picture.specs.Shapes.{glyph_shape}
use Rattle.tt_picture.proofs.Blackened.{or_false, or_or}
use Rattle.tt_scan_edges.specs.declared.edge.Frame.{Frame}
use Rattle.tt_bitmap.specs.declared.ink.LeastBox.{LeastBox}
use Rattle.tt_bitmap.specs.Inks.{IsInk}
use Rattle.tt_scan_ink.proofs.Together.{ink_alike, joined_is}
use Rattle.tt_strike.specs.Grown.{lacking, with_sides}
use Rattle.tt_strike_laws.specs.InkLaws.{AreGlyphs, AreNeeded, IsInPicture, IsLeast}
use Rattle.tt_strike.specs.Job.{Job}
use Rattle.tt_strike.specs.Measures.{line_ink}
use Rattle.tt_strike.specs.Picture.{frame_of, setting_in}
use Rattle.tt_strike.specs.Work.{line_fitter}
use Rattle.tt_strike_laws.proofs.GrownNeeded.{at_first, at_last, back}
use Rattle.tt_strike_laws.proofs.GrownWhole.{moved_black, not_before, not_past}
use Rattle.tt_strike_laws.proofs.InkHeld.{BoxLaws, held_after, ink_is_drawn, least_box, line_black, seen, seen_joined, shapes_black}

-- the box of a label's ink is that of what its glyphs blacken

abbrev line_black_in : (ℕ → Fitter) → ℕ → Placement → ℤ → ℤ → Bool
line_black_in maker margin l c r = line_black maker (frame_of l margin) l.glyphs c r

abbrev lines_black : (ℕ → Fitter) → ℕ → List Placement → ℤ → ℤ → Bool
lines_black maker margin [] c r = false
lines_black maker margin (l ∷ ls) c r = line_black_in maker margin l c r || lines_black maker margin ls c r

abbrev ink_by : (ℕ → Fitter) → ℕ → Option LeastBox
ink_by maker g = glyph_ink (maker g) g

one_line_held : BoxLaws → (maker : ℕ → Fitter) (margin : ℕ) (l : Placement)
    → IsInk (line_black_in maker margin l) (seen (line_box (ink_by maker) margin l))
one_line_held laws maker margin l = held_after laws maker (frame_of l margin) l.glyphs (λ c r. false) None (λ c r. refl)

lines_held : BoxLaws → (maker : ℕ → Fitter) (margin : ℕ) (ls : List Placement) (before : ℤ → ℤ → Bool) (so_far : Option InkBox)
    → IsInk before (seen so_far)
    → IsInk (λ c r. before c r || lines_black maker margin ls c r) (seen (all_joined so_far (map (line_box (ink_by maker) margin) ls)))
lines_held laws maker margin [] before so_far held =
    ink_alike before (λ c r. before c r || false) (seen so_far) (λ c r. or_false (before c r)) held
lines_held laws maker margin (l ∷ ls) before so_far held =
    let one : ℤ → ℤ → Bool = line_black_in maker margin l in
    let at : Option InkBox = line_box (ink_by maker) margin l in
    let here : IsInk one (seen at) = one_line_held laws maker margin l in
    let more : ℤ → ℤ → Bool = λ c r. before c r || one c r in
    let both : IsInk more (seen (joined so_far at)) = subst (IsInk more) (sym (seen_joined so_far at))
    (joined_is before one more (seen so_far) (seen at) (λ c r. refl) held here) in
    ink_alike (λ c r. more c r || lines_black maker margin ls c r)
    (λ c r. before c r || (one c r || lines_black maker margin ls c r))
    (seen (all_joined (joined so_far at) (map (line_box (ink_by maker) margin) ls)))
    (λ c r. or_or (before c r) (one c r) (lines_black maker margin ls c r))
    (lines_held laws maker margin ls more (joined so_far at) both)

label_held : BoxLaws → (maker : ℕ → Fitter) (margin : ℕ) (ls : List Placement)
    → IsInk (lines_black maker margin ls) (seen (label_ink (ink_by maker) margin ls))
label_held laws maker margin ls = lines_held laws maker margin ls (λ c r. false) None (λ c r. refl)

-- lines with more columns on their left and more rows at their top
lines_move : (maker : ℕ → Fitter) (margin w h : ℕ) (b : InkBox) (ls : List Placement) (c r : ℤ)
    → lines_black maker margin (with_room w h b ls) c r
    ≡ lines_black maker margin ls (c -ℤ pos (lacking w h b).left) (r -ℤ pos (lacking w h b).top)
lines_move maker margin w h b [] c r = refl
lines_move maker margin w h b (l ∷ ls) c r =
    let s = lacking w h b in
    ap₂ (λ (x y : Bool). x || y)
    (moved_black maker (frame_of l margin) (frame_of (with_sides l s) margin) s.left s.top l.glyphs c r refl refl)
    (lines_move maker margin w h b ls c r)

-- a pixel in the picture that is enlarged for a box
in_sides : (black : ℤ → ℤ → Bool) (w h : ℕ) (b : InkBox) (p : Placement) (c r : ℤ) → IsLeast black b
    → p.width ≡ w + (lacking w h b).left + (lacking w h b).right → p.height ≡ h + (lacking w h b).top + (lacking w h b).bottom
    → black (c -ℤ pos (lacking w h b).left) (r -ℤ pos (lacking w h b).top) ≡ true → IsInPicture p c r
in_sides black w h b p c r least width height is =
    let s = lacking w h b in
    let at = least.within (c -ℤ pos s.left) (r -ℤ pos s.top) is in
    record {
      left = not_before b.left c at.left;
      top = not_before b.top r at.top;
      right = rw width (not_past w s.left b.right c at.right);
      bottom = rw height (not_past h s.top b.bottom r at.bottom);
    }

none_cut : (maker : ℕ → Fitter) (margin : ℕ) (ls larger : List Placement) (ink : Option InkBox) (c r : ℤ) → AreAlike ls
    → IsInk (lines_black maker margin ls) (seen ink) → grown_lines ls ink ≡ Ok larger
    → lines_black maker margin larger c r ≡ true → IsInPicture (joint larger) c r
none_cut maker margin ls larger None c r alike none is black =
    let same = all_kept ls larger is in
    absurd (false≢true (sym (none c r) ∙ ap (λ (ps : List Placement). lines_black maker margin ps c r) same ∙ black))
none_cut maker margin [] larger (Some b) c r alike held is black = absurd (false≢true held.left.1)
none_cut maker margin (l ∷ ls) larger (Some b) c r alike held is black =
    let all = l ∷ ls in
    let w = l.width in
    let h = l.height in
    let s = lacking w h b in
    let same : larger ≡ with_room w h b all = all_enlarged w h b all larger alike is in
    let moved : lines_black maker margin larger c r ≡ lines_black maker margin all (c -ℤ pos s.left) (r -ℤ pos s.top) =
    ap (λ (ps : List Placement). lines_black maker margin ps c r) same ∙ lines_move maker margin w h b all c r in
    subst (λ (ps : List Placement). IsInPicture (joint ps) c r) (sym same)
    (in_sides (lines_black maker margin all) w h b (joint (with_room w h b all)) c r
    (least_box (lines_black maker margin all) b held) refl refl (sym moved ∙ black))

-- ink of the lines, in the enlarged lines
carried : (black larger : ℤ → ℤ → Bool) (left top : ℕ) (c r k j : ℤ)
    → ((x y : ℤ) → larger x y ≡ black (x -ℤ pos left) (y -ℤ pos top)) → c -ℤ pos left ≡ k → r -ℤ pos top ≡ j
    → black k j ≡ true → larger c r ≡ true
carried black larger left top c r k j move column row is =
    move c r ∙ ap (λ z. black z (r -ℤ pos top)) column ∙ ap (black k) row ∙ is

needed : (black larger : ℤ → ℤ → Bool) (w h : ℕ) (b : InkBox) (p : Placement) → IsLeast black b
    → p.width ≡ w + (lacking w h b).left + (lacking w h b).right → p.height ≡ h + (lacking w h b).top + (lacking w h b).bottom
    → ((x y : ℤ) → larger x y ≡ black (x -ℤ pos (lacking w h b).left) (y -ℤ pos (lacking w h b).top))
    → AreNeeded (lacking w h b) p larger
needed black larger w h b p least width height move =
    let s = lacking w h b in
    record {
      left = λ more.
          let at = least.left in (
            at.0 +ℤ pos s.top,
            carried black larger s.left s.top (pos 0) (at.0 +ℤ pos s.top) b.left at.0 move (at_first b.left more) (back at.0 s.top) at.1,
          );
      top = λ more.
          let at = least.top in (
            at.0 +ℤ pos s.left,
            carried black larger s.left s.top (at.0 +ℤ pos s.left) (pos 0) at.0 b.top move (back at.0 s.left) (at_first b.top more) at.1,
          );
      right = λ more.
          let at = least.right in
          let last : (pos p.width -ℤ pos 1) -ℤ pos s.left ≡ b.right = rw width (at_last w s.left b.right more) in (
            at.0 +ℤ pos s.top,
            carried black larger s.left s.top (pos p.width -ℤ pos 1) (at.0 +ℤ pos s.top) b.right at.0 move last (back at.0 s.top) at.1,
          );
      bottom = λ more.
          let at = least.bottom in
          let last : (pos p.height -ℤ pos 1) -ℤ pos s.top ≡ b.bottom = rw height (at_last h s.top b.bottom more) in (
            at.0 +ℤ pos s.left,
            carried black larger s.left s.top (at.0 +ℤ pos s.left) (pos p.height -ℤ pos 1) at.0 b.bottom move (back at.0 s.left) last at.1,
          );
    }

-- plain lines, or lines with needed columns and rows
abbrev AddFewest : List Placement → List Placement → (ℤ → ℤ → Bool) → Type 0
AddFewest ls larger black = (larger ≡ ls) ⊎ ((b : InkBox) × (larger ≡ with_room (joint ls).width (joint ls).height b ls)
    × AreNeeded (lacking (joint ls).width (joint ls).height b) (joint larger) black)

adds_needed : (maker : ℕ → Fitter) (margin : ℕ) (ls larger : List Placement) (ink : Option InkBox) → AreAlike ls
    → IsInk (lines_black maker margin ls) (seen ink) → grown_lines ls ink ≡ Ok larger
    → AddFewest ls larger (lines_black maker margin larger)
adds_needed maker margin ls larger None alike none is = inl (sym (all_kept ls larger is))
adds_needed maker margin [] larger (Some b) alike held is = absurd (false≢true held.left.1)
adds_needed maker margin (l ∷ ls) larger (Some b) alike held is =
    let all = l ∷ ls in
    let w = l.width in
    let h = l.height in
    let same : larger ≡ with_room w h b all = all_enlarged w h b all larger alike is in
    inr (
      b,
      same,
      subst (λ (ps : List Placement). AreNeeded (lacking w h b) (joint ps) (lines_black maker margin ps)) (sym same)
          (needed (lines_black maker margin all) (lines_black maker margin (with_room w h b all)) w h b
          (joint (with_room w h b all)) (least_box (lines_black maker margin all) b held) refl refl
          (lines_move maker margin w h b all)),
    )

-- lines whose glyphs are made have the ink that these blacken

record BothMade {A B E : Type 0} (f : A → Result B E) (xs ys : List A) : Type 0 where
  pub first : List B
  pub second : List B
  pub here : each f xs ≡ Ok first
  pub there : each f ys ≡ Ok second

one_more : {A B E : Type 0} (f : A → Result B E) (x : A) (xs : List A) (y : B) (ys : List B) → f x ≡ Ok y → each f xs ≡ Ok ys
    → each f (x ∷ xs) ≡ Ok (y ∷ ys)
one_more f x xs y ys one others = rw (one, others) refl

both_made : {A B E : Type 0} (f : A → Result B E) (xs ys : List A) (zs : List B) → each f (xs ++ ys) ≡ Ok zs → BothMade f xs ys
both_made f [] ys zs is = record { first = []; second = zs; here = refl; there = is }
both_made f (x ∷ xs) ys zs is =
    let one = came-through (f x) (λ z. each f (xs ++ ys) >>= λ rest. Ok (z ∷ rest)) zs is in
    let rest = came-through (each f (xs ++ ys)) (λ rest. Ok (one.value ∷ rest)) zs one.rest in
    let both = both_made f xs ys rest.value rest.first in
    record {
      first = one.value ∷ both.first;
      second = both.second;
      here = one_more f x xs one.value both.first one.first both.here;
      there = both.there;
    }

inks_alike : (maker : ℕ → Fitter) (margin : ℕ) (ls : List Placement) (glyphs : List Shape) (c r : ℤ)
    → each (glyph_shape maker) (flat_map (λ (l : Placement). l.glyphs) ls) ≡ Ok glyphs
    → some_line_inks maker margin ls c r ≡ lines_black maker margin ls c r
inks_alike maker margin [] glyphs c r made = refl
inks_alike maker margin (l ∷ ls) glyphs c r made =
    let f = frame_of l margin in
    let both = both_made (glyph_shape maker) l.glyphs (flat_map (λ (l : Placement). l.glyphs) ls) glyphs made in
    let one : line_inks maker margin l c r ≡ line_black_in maker margin l c r =
    ap (λ (x : Result (List Shape) Fault). is_inked f x c r) both.here ∙ shapes_black maker f l.glyphs both.first c r both.here in
    ap₂ (λ (x y : Bool). x || y) one (inks_alike maker margin ls both.second c r both.there)

-- what a label's definition says of its ink
record IsInkedLabel (a : Job) (lines larger : List Placement) (black : ℤ → ℤ → Bool) : Type 0 where
  pub maker : ℕ → Fitter
  pub ink : Option InkBox
  pub alike : AreAlike lines
  pub held : IsInk (lines_black maker a.margin lines) (seen ink)
  pub grows : grown_lines lines ink ≡ Ok larger
  pub shown : (c r : ℤ) → black c r ≡ lines_black maker a.margin larger c r

same_setting : (r : Result Fitter Fault) (s t : Fitter) → r ≡ Ok s → r ≡ Ok t → s ≡ t
same_setting r s t one other = cc

inked_label : BoxLaws → (face : Face) (a : Job) (lines larger : List Placement) (glyphs : List Shape) → AreAlike lines
    → IsGrownLabel face a lines larger → (are : AreGlyphs face a (joint larger) glyphs)
    → IsInkedLabel a lines larger (ink_of_label are.setting a larger)
inked_label laws face a lines larger glyphs alike g are =
    let s = g.setting in
    let t = are.setting in
    let ink = label_ink (line_ink s (joint lines)) a.margin lines in
    let maker = line_fitter s (joint_numbers lines) in
    let own = line_fitter t (joint_numbers larger) in
    let makers : own ≡ maker =
    ap (λ (x : Fitter). line_fitter x (joint_numbers larger)) (same_setting (setting_in face a) t s are.made g.there)
    ∙ ap (λ (ns : List ℕ). line_fitter s ns) (numbers_alike ink lines larger g.grows) in
    let made : each (glyph_shape own) (flat_map (λ (l : Placement). l.glyphs) larger) ≡ Ok glyphs =
    subst (λ (gs : List (ℕ × ℕ)). each (glyph_shape own) gs ≡ Ok glyphs) (joint_glyphs larger) are.fitted in
    record {
      maker = maker;
      ink = ink;
      alike = alike;
      held = label_held laws maker a.margin lines;
      grows = g.grows;
      shown = λ c r. inks_alike own a.margin larger glyphs c r made
          ∙ ap (λ (m : ℕ → Fitter). lines_black m a.margin larger c r) makers;
    }

pub labels_cut_none : BoxLaws → LabelsCutNone
labels_cut_none laws face a how lines larger glyphs c r placed grows are black =
    let laid = laid_label face a how lines placed in
    let alike = (placed_lines face.metrics a.ppem a.margin how laid.steps lines laid.laid).alike in
    let is = inked_label laws face a lines larger glyphs alike (grown_label face a lines larger grows) are in
    none_cut is.maker a.margin lines larger is.ink c r alike is.held is.grows (sym (is.shown c r) ∙ black)

needed_alike : (w h : ℕ) (b : InkBox) (p : Placement) (these those : ℤ → ℤ → Bool) → ((c r : ℤ) → those c r ≡ these c r)
    → AreNeeded (lacking w h b) p these → AreNeeded (lacking w h b) p those
needed_alike w h b p these those same n = record {
  left = λ more. let at = n.left more in (at.0, same (pos 0) at.0 ∙ at.1);
  top = λ more. let at = n.top more in (at.0, same at.0 (pos 0) ∙ at.1);
  right = λ more. let at = n.right more in (at.0, same (pos p.width -ℤ pos 1) at.0 ∙ at.1);
  bottom = λ more. let at = n.bottom more in (at.0, same at.0 (pos p.height -ℤ pos 1) ∙ at.1);
}

as_shown : (lines larger : List Placement) (these those : ℤ → ℤ → Bool) → ((c r : ℤ) → those c r ≡ these c r)
    → AddFewest lines larger these → AddFewest lines larger those
as_shown lines larger these those same (inl plain) = inl plain
as_shown lines larger these those same (inr adds) =
    inr (adds.0, adds.1, needed_alike (joint lines).width (joint lines).height adds.0 (joint larger) these those same adds.2)

pub labels_add_fewest : BoxLaws → LabelsAddFewest
labels_add_fewest laws face a how lines larger glyphs placed grows are =
    let laid = laid_label face a how lines placed in
    let alike = (placed_lines face.metrics a.ppem a.margin how laid.steps lines laid.laid).alike in
    let is = inked_label laws face a lines larger glyphs alike (grown_label face a lines larger grows) are in
    as_shown lines larger (lines_black is.maker a.margin larger) (ink_of_label are.setting a larger) is.shown
    (adds_needed is.maker a.margin lines larger is.ink alike is.held is.grows)

-- the ink within a picture

line_drawn : (f : Frame) (r : Result (List Shape) Fault) (c k : ℕ) → is_inked f r (pos c) (pos k) ≡ is_shown f r c k
line_drawn f (Ok glyphs) c k = ink_is_drawn f glyphs c k
line_drawn f (Err fault) c k = refl

pub label_ink_is_drawn : LabelInkIsDrawn
label_ink_is_drawn maker margin [] c r = refl
label_ink_is_drawn maker margin (l ∷ ls) c r =
    ap₂ (λ (x y : Bool). x || y) (line_drawn (frame_of l margin) (each (glyph_shape maker) l.glyphs) c r)
    (label_ink_is_drawn maker margin ls c r)
