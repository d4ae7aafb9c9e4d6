-- A label that is laid out, and its enlarged lines.
use Rattle.std.proofs.Common.{◌≡◌, ◌∙◌, sym, ap, ap₂, ℕ, Bool, true, false, if◌then◌else◌, List, [], ◌∷◌, map, Option, None, Some, Result, Ok}
use Rattle.std.proofs.lemmas.List.Elements.{All-head, All-tail}
use Rattle.std.specs.Prelude.{All}
use Rattle.tt_advances.specs.Found.{advances_tested}
use Rattle.tt_advances.specs.Lines.{advance_step}
use Rattle.tt_core.specs.Chains.{came-through}
use Rattle.tt_core.specs.declared.fault.JobFault.{JobFault}
use Rattle.tt_core.specs.Outcomes.{◌>>=◌, each}
use Rattle.tt_face.specs.Faces.{Face}
use Rattle.tt_fit.specs.Fitting.{Fitter}
use Rattle.tt_label.specs.Label.{grown_lines, joint, joint_numbers, label_by_advances, label_by_steps, label_glyphs, label_grown, label_ink, label_placed, stepped_lines}
use Rattle.tt_label.specs.InkLaws.{with_room}
use Rattle.tt_label.proofs.Drawn.{as_large, left_of, lines_moved}
use Rattle.tt_line.specs.declared.align.Align.{Align}
use Rattle.tt_line.specs.Labels.{label_placement}
use Rattle.tt_line.specs.Layout.{Placement}
use Rattle.tt_picture.specs.declared.ink_box.InkBox.{InkBox}
use Rattle.tt_picture.specs.Steps.{step_by}
use Rattle.tt_strike.specs.Grown.{grown, lacking, with_sides}
use Rattle.tt_strike.specs.Job.{Job, tested}
use Rattle.tt_strike.specs.Measures.{line_ink}
use Rattle.tt_strike.specs.Picture.{advance_with, line_shapes, outlines_tested, setting_in}
use Rattle.tt_strike.specs.Refusals.{as_font, as_job}
use Rattle.tt_strike.specs.Work.{is_bounded}
use Rattle.tt_strike.proofs.Enlarged.{same_numbers}
use Rattle.tt_strike.proofs.Placed.{of-font, of-job}

-- the lines are laid out from lists of glyphs with their steps
pub record IsLaidLabel (face : Face) (a : Job) (how : Align) (lines : List Placement) : Type 0 where
  pub steps : List (List (ℕ × ℕ))
  pub laid : label_placement face.metrics a.ppem a.margin how steps ≡ Ok lines

laid_by_either : (bounded : Bool) (face : Face) (a : Job) (how : Align) (lines : List Placement)
    → (if bounded then label_by_steps face a how else label_by_advances face a how) ≡ Ok lines → IsLaidLabel face a how lines
laid_by_either true face a how lines is =
    let m = face.metrics in
    let gs = label_glyphs face.cmap a.text in
    let by_setting = came-through (as_font (setting_in face a)) _ lines is in
    let s = by_setting.value in
    let by_outlines = came-through (outlines_tested s a.fit gs) _ lines by_setting.rest in
    let steps = stepped_lines m (step_by m a.ppem (advance_with s gs)) face.cmap a.text in
    record { steps = steps; laid = of-job (label_placement m a.ppem a.margin how steps) lines by_outlines.rest }
laid_by_either false face a how lines is =
    let steps = stepped_lines face.metrics (advance_step face a.ppem) face.cmap a.text in
    let found = came-through (as_font (advances_tested face (label_glyphs face.cmap a.text))) _ lines is in
    record { steps = steps; laid = of-job (label_placement face.metrics a.ppem a.margin how steps) lines found.rest }

pub laid_label : (face : Face) (a : Job) (how : Align) (lines : List Placement) → label_placed face a how ≡ Ok lines
    → IsLaidLabel face a how lines
unfolding label_placed
laid_label face a how lines is =
    laid_by_either (is_bounded a.fit) face a how lines (came-through (as_job (tested a)) _ lines is).rest

-- the lines are enlarged by the ink of all of them
pub record IsGrownLabel (face : Face) (a : Job) (lines larger : List Placement) : Type 0 where
  pub setting : Fitter
  pub there : setting_in face a ≡ Ok setting
  pub grows : grown_lines lines (label_ink (line_ink setting (joint lines)) a.margin lines) ≡ Ok larger

pub grown_label : (face : Face) (a : Job) (lines larger : List Placement) → label_grown face a lines ≡ Ok larger
    → IsGrownLabel face a lines larger
unfolding label_grown
grown_label face a lines larger is =
    let by_setting = came-through (as_font (setting_in face a)) _ larger is in
    let s = by_setting.value in
    let by_shapes = came-through (line_shapes s a (joint lines)) _ larger by_setting.rest in
    record {
      setting = s;
      there = of-font (setting_in face a) s by_setting.first;
      grows = of-job (grown_lines lines (label_ink (line_ink s (joint lines)) a.margin lines)) larger by_shapes.rest;
    }

-- enlarged lines have the same glyphs
pub numbers_alike : (ink : Option InkBox) (lines larger : List Placement) → grown_lines lines ink ≡ Ok larger
    → joint_numbers larger ≡ joint_numbers lines
numbers_alike ink lines larger is =
    ap (λ (gs : List (ℕ × ℕ)). map (λ (g : ℕ × ℕ). g.0) gs) (lines_moved ink lines larger is)
    ∙ same_numbers (left_of ink) (joint lines).glyphs

-- where there is no ink, the lines are not changed
pub all_kept : (ls ms : List Placement) → each (λ l. grown l None) ls ≡ Ok ms → ls ≡ ms
all_kept [] ms is = cc
all_kept (l ∷ ls) ms is =
    let f : Placement → Result Placement JobFault = λ l. grown l None in
    let rest = came-through (each f ls) (λ ys. Ok (l ∷ ys)) ms is in
    let last = rest.rest in
    let same : l ∷ rest.value ≡ ms = cc in
    ap (λ (ps : List Placement). l ∷ ps) (all_kept ls rest.value rest.first) ∙ same

-- else all have the same columns and rows added, since all have one size
abbrev HasSize : ℕ → ℕ → Placement → Type 0
HasSize w h l = (l.width ≡ w) × (l.height ≡ h)

one_enlarged : (w h : ℕ) (b : InkBox) (l m : Placement) → HasSize w h l → grown l (Some b) ≡ Ok m → m ≡ with_sides l (lacking w h b)
one_enlarged w h b l m size is =
    let own : with_sides l (lacking l.width l.height b) ≡ m = as_large (with_sides l (lacking l.width l.height b)) m is in
    sym own ∙ ap₂ (λ (x y : ℕ). with_sides l (lacking x y b)) size.0 size.1

pub all_enlarged : (w h : ℕ) (b : InkBox) (ls ms : List Placement) → All (HasSize w h) ls → each (λ l. grown l (Some b)) ls ≡ Ok ms
    → ms ≡ with_room w h b ls
all_enlarged w h b [] ms sizes is = let none : [] ≡ ms = cc in sym none
all_enlarged w h b (l ∷ ls) ms sizes is =
    let f : Placement → Result Placement JobFault = λ l. grown l (Some b) in
    let first = came-through (grown l (Some b)) (λ y. each f ls >>= λ ys. Ok (y ∷ ys)) ms is in
    let rest = came-through (each f ls) (λ ys. Ok (first.value ∷ ys)) ms first.rest in
    let last = rest.rest in
    let same : first.value ∷ rest.value ≡ ms = cc in
    sym same ∙ ap₂ (λ (p : Placement) (ps : List Placement). p ∷ ps)
    (one_enlarged w h b l first.value (All-head (HasSize w h) l ls sizes) first.first)
    (all_enlarged w h b ls rest.value (All-tail (HasSize w h) l ls sizes) rest.first)
