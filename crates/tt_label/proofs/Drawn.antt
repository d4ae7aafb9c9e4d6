-- The picture of a label whose lines are enlarged: its glyphs are those that were made for the lines before.
use Rattle.std.proofs.Common.{◌≡◌, ◌∙◌, refl, sym, ap, ap₂, ℕ, ◌+◌, nat_lt, ◌||◌, List, [], ◌∷◌, map, Option, None, Some, Result, Ok, Err, inl, inr, arith}
use Rattle.std.proofs.lemmas.List.{map-append}
use Rattle.std.specs.List.{flat_map}
use Rattle.tt_core.specs.Chains.{came-through, passed-on, was-err}
use Rattle.std.specs.Prelude.{IfSome}
use Rattle.tt_core.specs.declared.draw_fault.DrawFault.{DrawFault}
use Rattle.tt_core.specs.declared.draw_fault.DrawFault.TheVariants as draw
use Rattle.tt_core.specs.declared.fault.JobFault.{JobFault}
use Rattle.tt_core.specs.declared.fault.JobFault.TheVariants as fault
use Rattle.tt_core.specs.Limits.{height_limit, width_limit}
use Rattle.tt_core.specs.Outcomes.{◌>>=◌, JobGives, each}
use Rattle.tt_core.specs.Faults.{Fault}
use Rattle.tt_face.specs.Faces.{Face}
use Rattle.tt_fit.specs.Fitting.{Fitter}
use Rattle.tt_label.specs.Label.{grown_lines, joint, joint_numbers, label_drawn, label_grown, label_ink, label_outcome, label_placed, some_line_shows}
use Rattle.tt_label.specs.Made.{label_shapes}
use Rattle.tt_line.specs.declared.align.Align.{Align}
use Rattle.tt_line.specs.Layout.{Placement}
use Rattle.tt_picture.specs.declared.ink_box.InkBox.{InkBox}
use Rattle.tt_picture.specs.Glyphs.{Glyph}
use Rattle.tt_picture.specs.Pictures.{Image, image}
use Rattle.tt_strike.proofs.Enlarged.{larger_made, same_numbers}
use Rattle.tt_strike.specs.Grown.{before, grown, lacking, not_large, with_sides}
use Rattle.tt_strike.specs.Job.{Job}
use Rattle.tt_strike.specs.Made.{AreMade, shapes_made}
use Rattle.tt_strike.specs.Measures.{line_ink}
use Rattle.tt_strike.specs.Picture.{frame_of, setting_in}
use Rattle.tt_strike.specs.Refusals.{Refused, as_font, job, refusal}
use Rattle.tt_strike.proofs.Stopped.{stops}
use Rattle.tt_strike.specs.Work.{line_fitter}

abbrev pub rightwards : ℕ → List (ℕ × ℕ) → List (ℕ × ℕ)
rightwards left gs = map (λ (g : ℕ × ℕ). (g.0, g.1 + left)) gs

-- the columns that ink needs on the left
abbrev pub left_of : Option InkBox → ℕ
left_of None = 0
left_of (Some b) = before b.left

pub unmoved : (gs : List (ℕ × ℕ)) → gs ≡ rightwards 0 gs
unmoved [] = refl
unmoved (g ∷ gs) = let here : g.1 + 0 ≡ g.1 = omega arith in rw here (ap (λ (hs : List (ℕ × ℕ)). g ∷ hs) (unmoved gs))

pub as_large : (line larger : Placement) → not_large line ≡ Ok larger → line ≡ larger
unfolding not_large
as_large line larger is =
    let same = (passed-on (nat_lt width_limit line.width || nat_lt height_limit line.height) fault.PictureLarge (Ok line) larger is).1 in cc

one_moved : (l m : Placement) (ink : Option InkBox) → grown l ink ≡ Ok m → m.glyphs ≡ rightwards (left_of ink) l.glyphs
one_moved l m None is = let same : l ≡ m = cc in rw (← same) (unmoved l.glyphs)
one_moved l m (Some b) is =
    let same : with_sides l (lacking l.width l.height b) ≡ m = as_large (with_sides l (lacking l.width l.height b)) m is in
    rw (← same) refl

each_moved : (ink : Option InkBox) (ls ms : List Placement) → each (λ l. grown l ink) ls ≡ Ok ms
    → flat_map (λ (l : Placement). l.glyphs) ms ≡ rightwards (left_of ink) (flat_map (λ (l : Placement). l.glyphs) ls)
each_moved ink [] ms is = let none : [] ≡ ms = cc in rw (← none) refl
each_moved ink (l ∷ ls) ms is =
    let f : Placement → Result Placement JobFault = λ l. grown l ink in
    let first = came-through (grown l ink) (λ y. each f ls >>= λ ys. Ok (y ∷ ys)) ms is in
    let rest = came-through (each f ls) (λ ys. Ok (first.value ∷ ys)) ms first.rest in
    let last = rest.rest in
    let same : first.value ∷ rest.value ≡ ms = cc in
    let its : List (ℕ × ℕ) = flat_map (λ (l : Placement). l.glyphs) ls in
    rw (← same, one_moved l first.value ink first.first, each_moved ink ls rest.value rest.first)
    (sym (map-append (λ (g : ℕ × ℕ). (g.0, g.1 + left_of ink)) l.glyphs its))

pub joint_glyphs : (ls : List Placement) → (joint ls).glyphs ≡ flat_map (λ (l : Placement). l.glyphs) ls
joint_glyphs [] = refl
joint_glyphs (l ∷ ls) = refl

pub lines_moved : (ink : Option InkBox) (ls ms : List Placement) → grown_lines ls ink ≡ Ok ms
    → (joint ms).glyphs ≡ rightwards (left_of ink) (joint ls).glyphs
lines_moved ink ls ms is = rw (joint_glyphs ms, joint_glyphs ls) (each_moved ink ls ms is)

pub grown_as_made : (face : Face) (a : Job) (lines larger : List Placement) (ink : Option InkBox) (gs : List Glyph)
    → (made : AreMade face a (joint lines) gs) → ink ≡ label_ink (line_ink made.setting (joint lines)) a.margin lines
    → grown_lines lines ink ≡ Ok larger → label_grown face a lines ≡ Ok larger
unfolding label_grown
grown_as_made face a lines larger ink gs made inked is =
    let grows = rw inked at is in
    rw (made.opened, made.few, made.fitted, made.seldom, grows) refl

pub not_grown_as_made : (face : Face) (a : Job) (lines : List Placement) (ink : Option InkBox) (gs : List Glyph) (j : JobFault)
    → (made : AreMade face a (joint lines) gs) → ink ≡ label_ink (line_ink made.setting (joint lines)) a.margin lines
    → grown_lines lines ink ≡ Err j → label_grown face a lines ≡ Err (job j)
unfolding label_grown
not_grown_as_made face a lines ink gs j made inked is =
    let fails = rw inked at is in
    rw (made.opened, made.few, made.fitted, made.seldom, fails) refl

-- the picture of lines whose glyphs are made
drawn_as_made : (face : Face) (a : Job) (lines : List Placement) (gs : List Glyph) → (made : AreMade face a (joint lines) gs)
    → label_drawn face a lines ≡ Ok (image (frame_of (joint lines) a.margin)
    (some_line_shows (line_fitter made.setting (joint_numbers lines)) a.margin lines))
unfolding label_drawn
drawn_as_made face a lines gs made = rw (made.opened, made.few, made.fitted, made.seldom) refl

same_setting : (r : Result Fitter Fault) (s t : Fitter) → r ≡ Ok s → r ≡ Ok t → s ≡ t
same_setting r s t one other = cc

-- the picture of the larger lines
pub drawn_larger : (face : Face) (a : Job) (lines larger : List Placement) (left : ℕ) (gs : List Glyph)
    → (made : AreMade face a (joint lines) gs) → (joint larger).glyphs ≡ rightwards left (joint lines).glyphs
    → label_drawn face a larger ≡ Ok (image (frame_of (joint larger) a.margin)
    (some_line_shows (line_fitter made.setting (joint_numbers lines)) a.margin larger))
drawn_larger face a lines larger left gs made moved =
    let anew = larger_made face a (joint lines) (joint larger) left gs made moved in
    let same = same_setting (setting_in face a) anew.setting made.setting anew.opened made.opened in
    let numbers : joint_numbers larger ≡ joint_numbers lines = rw moved (same_numbers left (joint lines).glyphs) in
    let shown : Fitter → List ℕ → Result Image Refused =
    λ s ns. Ok (image (frame_of (joint larger) a.margin) (some_line_shows (line_fitter s ns) a.margin larger)) in
    drawn_as_made face a larger gs anew ∙ ap₂ shown same numbers

-- a stop in the glyphs of the lines stops the label
no_larger_lines : (face : Face) (a : Job) (lines : List Placement) (r : Refused) → shapes_made face a (joint lines) ≡ Err r
    → label_grown face a lines ≡ Err r
unfolding label_grown
no_larger_lines face a lines r fails = elim (was-err (as_font (setting_in face a)) _ r fails) [
  | inl first ↦ rw first refl
  | inr later ↦ rw (later.first, later.rest) refl
]

stopped_label : (face : Face) (a : Job) (how : Align) (r : Refused) → label_shapes face a how ≡ Err r → label_outcome face a how ≡ Err r
unfolding label_outcome
stopped_label face a how r fails = elim (was-err (label_placed face a how) _ r fails) [
  | inl first ↦ rw first refl
  | inr later ↦ rw (later.first, no_larger_lines face a later.value r later.rest) refl
]

pub label_stops : (face : Face) (a : Job) (how : Align) (e : DrawFault) → IfSome (refusal e) (λ r. label_shapes face a how ≡ Err r)
    → IfSome (refusal e) (λ r. label_outcome face a how ≡ Err r)
label_stops face a how e = stops e (label_shapes face a how) (label_outcome face a how) (stopped_label face a how)

-- the picture of a label whose lines are enlarged
pub label_is : (face : Face) (a : Job) (how : Align) (lines larger : List Placement) (ink : Option InkBox) (gs : List Glyph)
    → label_placed face a how ≡ Ok lines → (made : AreMade face a (joint lines) gs)
    → ink ≡ label_ink (line_ink made.setting (joint lines)) a.margin lines → grown_lines lines ink ≡ Ok larger
    → label_outcome face a how ≡ Ok (image (frame_of (joint larger) a.margin)
    (some_line_shows (line_fitter made.setting (joint_numbers lines)) a.margin larger))
unfolding label_outcome
label_is face a how lines larger ink gs placed made inked grows =
    rw (placed, grown_as_made face a lines larger ink gs made inked grows)
    (drawn_larger face a lines larger (left_of ink) gs made (lines_moved ink lines larger grows))

-- a picture that is too large once it is enlarged
refused_larger : (face : Face) (a : Job) (how : Align) (lines : List Placement) (ink : Option InkBox) (gs : List Glyph) (j : JobFault)
    → label_placed face a how ≡ Ok lines → (made : AreMade face a (joint lines) gs)
    → ink ≡ label_ink (line_ink made.setting (joint lines)) a.margin lines → grown_lines lines ink ≡ Err j
    → label_outcome face a how ≡ Err (job j)
unfolding label_outcome
refused_larger face a how lines ink gs j placed made inked fails =
    rw (placed, not_grown_as_made face a lines ink gs j made inked fails) refl

pub growth_stops : {X : Type 0} (view : X → List Placement) (face : Face) (a : Job) (how : Align) (lines : List Placement) (ink : Option InkBox)
    (gs : List Glyph) (e : DrawFault) → label_placed face a how ≡ Ok lines → (made : AreMade face a (joint lines) gs)
    → ink ≡ label_ink (line_ink made.setting (joint lines)) a.margin lines → JobGives view (Err e) (grown_lines lines ink)
    → IfSome (refusal e) (λ r. label_outcome face a how ≡ Err r)
growth_stops view face a how lines ink gs (draw.Font f) placed made inked fails = absurd fails
growth_stops view face a how lines ink gs (draw.Job j) placed made inked fails = refused_larger face a how lines ink gs j placed made inked fails
growth_stops view face a how lines ink gs draw.Memory placed made inked fails = tt
