-- The baselines of a label are equally far apart, also in the enlarged picture.
use Rattle.std.proofs.Common.{◌≡◌, refl, subst, sym, ℕ, ◌-◌, ℤ, pos, ◌+ℤ◌, List, [], ◌∷◌, length, Option, None, Some, Ok, arith}
use Rattle.std.proofs.lemmas.Int.{ints}
use Rattle.tt_core.specs.Chains.{came-through}
use Rattle.tt_label.specs.InkLaws.{AreApart, BaselinesAreApart, FollowAt, with_room}
use Rattle.tt_label.specs.Label.{grown_lines, joint, label_ink}
use Rattle.tt_label.specs.Made.{AreAlike}
use Rattle.tt_label.proofs.LabelPlaced.{all_enlarged, all_kept, grown_label, laid_label}
use Rattle.tt_label.proofs.Placed.{placed_lines}
use Rattle.tt_line.specs.declared.align.Align.{Align}
use Rattle.tt_line.specs.declared.label_extent.LabelExtent.{LabelExtent}
use Rattle.tt_line.specs.Labels.{label_extent, label_limited, label_placement, line_step_of, lines_placed, widest}
use Rattle.tt_line.specs.Layout.{Placement, depth_of, rise_of}
use Rattle.tt_metrics.specs.Metrics.{Metrics}
use Rattle.tt_picture.specs.declared.ink_box.InkBox.{InkBox}
use Rattle.tt_strike.specs.Grown.{lacking}
use Rattle.tt_strike.specs.Measures.{line_ink}

-- as they are laid out

placed_follow : (e : LabelExtent) (how : Align) (inner step : ℕ) (rise : ℤ) (ls : List (List (ℕ × ℕ)))
    → FollowAt step rise (lines_placed e how inner step (rise +ℤ pos step) ls)
placed_follow e how inner step rise [] = tt
placed_follow e how inner step rise (l ∷ ls) = (refl, placed_follow e how inner step (rise +ℤ pos step) ls)

placed_apart : (e : LabelExtent) (how : Align) (inner step : ℕ) (rise : ℤ) (ls : List (List (ℕ × ℕ)))
    → AreApart step (lines_placed e how inner step rise ls)
placed_apart e how inner step rise [] = tt
placed_apart e how inner step rise (l ∷ ls) = placed_follow e how inner step rise ls

laid_apart : (m : Metrics) (ppem margin : ℕ) (how : Align) (ls : List (List (ℕ × ℕ))) (lines : List Placement)
    → label_placement m ppem margin how ls ≡ Ok lines → AreApart (line_step_of m ppem) lines
unfolding label_placement
laid_apart m ppem margin how ls lines is =
    let e : LabelExtent = label_extent (widest ls) margin (rise_of m ppem) (depth_of m ppem) (line_step_of m ppem) (length ls - 1) in
    let through = came-through (label_limited e) (λ x. Ok (lines_placed x how (widest ls) (line_step_of m ppem) (rise_of m ppem) ls)) lines is in
    let rest = through.rest in
    let same : lines_placed through.value how (widest ls) (line_step_of m ppem) (rise_of m ppem) ls ≡ lines = cc in
    subst (λ (ps : List Placement). AreApart (line_step_of m ppem) ps) same
    (placed_apart through.value how (widest ls) (line_step_of m ppem) (rise_of m ppem) ls)

-- rows at the top move each baseline by as many

moved_down : (top step : ℕ) (rise next : ℤ) → next ≡ rise +ℤ pos step → next +ℤ pos top ≡ (rise +ℤ pos top) +ℤ pos step
moved_down top step rise next is = omega (arith, ints, is)

follow_moved : (w h : ℕ) (b : InkBox) (step : ℕ) (rise : ℤ) (ls : List Placement) → FollowAt step rise ls
    → FollowAt step (rise +ℤ pos (lacking w h b).top) (with_room w h b ls)
follow_moved w h b step rise [] follow = tt
follow_moved w h b step rise (l ∷ ls) follow =
    (moved_down (lacking w h b).top step rise l.rise follow.0, follow_moved w h b step l.rise ls follow.1)

apart_moved : (w h : ℕ) (b : InkBox) (step : ℕ) (ls : List Placement) → AreApart step ls → AreApart step (with_room w h b ls)
apart_moved w h b step [] apart = tt
apart_moved w h b step (l ∷ ls) apart = follow_moved w h b step l.rise ls apart

larger_apart : (step : ℕ) (ls larger : List Placement) (ink : Option InkBox) → AreAlike ls → grown_lines ls ink ≡ Ok larger
    → AreApart step ls → AreApart step larger
larger_apart step ls larger None alike is apart =
    subst (λ (ps : List Placement). AreApart step ps) (all_kept ls larger is) apart
larger_apart step ls larger (Some b) alike is apart =
    let w = (joint ls).width in
    let h = (joint ls).height in
    let same : larger ≡ with_room w h b ls = all_enlarged w h b ls larger alike is in
    subst (λ (ps : List Placement). AreApart step ps) (sym same) (apart_moved w h b step ls apart)

pub baselines_are_apart : BaselinesAreApart
baselines_are_apart face a how lines larger placed grows =
    let m = face.metrics in
    let laid = laid_label face a how lines placed in
    let alike = (placed_lines m a.ppem a.margin how laid.steps lines laid.laid).alike in
    let grown = grown_label face a lines larger grows in
    larger_apart (line_step_of m a.ppem) lines larger (label_ink (line_ink grown.setting (joint lines)) a.margin lines) alike grown.grows
    (laid_apart m a.ppem a.margin how laid.steps lines laid.laid)
