-- The lines of a label as they are laid out.
use Rattle.std.proofs.Common.{◌≡◌, ◌∙◌, refl, sym, ap, ap₂, ℕ, ◌+◌, ◌-◌, ◌<◌, ◌≤◌, false, ℤ, pos, ◌+ℤ◌, List, [], ◌∷◌, ◌++◌, length, map, Vec, Global, Result, Ok, Err, arith}
use Rattle.std.proofs.lemmas.List.{length-map, map-append}
use Rattle.std.proofs.lemmas.List.Elements.{All-cons, All-nil}
use Rattle.std.proofs.lemmas.Simd.{map-map}
use Rattle.std.specs.List.{flat_map}
use Rattle.std.specs.Prelude.{All, IfSome}
use Rattle.tt_core.specs.Chains.{came-through}
use Rattle.tt_core.specs.declared.draw_fault.DrawFault.{DrawFault}
use Rattle.tt_core.specs.declared.draw_fault.DrawFault.TheVariants as draw
use Rattle.tt_core.specs.Limits.{margin_limit, text_limit}
use Rattle.tt_core.specs.Outcomes.{GivesUnless, JobGives}
use Rattle.tt_core.specs.declared.fault.JobFault.{JobFault}
use Rattle.tt_label.specs.Fitted.{glyphs_in}
use Rattle.tt_face.specs.Faces.{Face}
use Rattle.tt_label.specs.Label.{joint, joint_numbers, label_by_advances, label_placed}
use Rattle.tt_label.specs.Made.{AreAlike, AreLaid, label_shapes}
use Rattle.tt_label.specs.Views.{placements_of}
use Rattle.tt_label.proofs.Joined.{lists_joined}
use Rattle.tt_line.specs.declared.align.Align.{Align}
use Rattle.tt_line.specs.declared.label_extent.LabelExtent.{LabelExtent}
use Rattle.tt_line.specs.Labels.{indent, label_extent, label_limited, label_placement, line_placed, line_step_of, lines_placed, widest, width_of}
use Rattle.tt_line.specs.Layout.{Placement, depth_of, glyphs_at_pens, rise_of}
use Rattle.tt_line.specs.Outcome.{placement_of}
use Rattle.tt_line.proofs.Pens.{glyphs_by_steps}
use Rattle.tt_metrics.specs.Metrics.{Metrics, glyphs_of}
use Rattle.tt_picture.proofs.Among.{of_same_glyphs}
use Rattle.tt_strike.specs.Job.{Job, tested}
use Rattle.tt_strike.specs.Made.{shapes_made}
use Rattle.tt_strike.specs.Refusals.{Refused, font, job, refusal}
use Rattle.tt_strike.specs.declared.laid.Laid.{Laid}
use Rattle.tt_strike.specs.Work.{is_bounded}

-- each line has the size of the picture
all_alike : (e : LabelExtent) (how : Align) (inner step : ℕ) (rise : ℤ) (ls : List (List (ℕ × ℕ)))
    → All (λ (l : Placement). (l.width ≡ e.width) × (l.height ≡ e.height)) (lines_placed e how inner step rise ls)
all_alike e how inner step rise [] = All-nil (λ (l : Placement). (l.width ≡ e.width) × (l.height ≡ e.height))
all_alike e how inner step rise (l ∷ ls) =
    All-cons (λ (l : Placement). (l.width ≡ e.width) × (l.height ≡ e.height)) (line_placed e how inner rise l)
    (lines_placed e how inner step (rise +ℤ pos step) ls) (refl, refl) (all_alike e how inner step (rise +ℤ pos step) ls)

alike_as : (e : LabelExtent) (how : Align) (inner step : ℕ) (rise : ℤ) (ls : List (List (ℕ × ℕ)))
    → AreAlike (lines_placed e how inner step rise ls)
alike_as e how inner step rise [] = All-nil (λ (l : Placement). (l.width ≡ 1) × (l.height ≡ 1))
alike_as e how inner step rise (l ∷ ls) = all_alike e how inner step rise (l ∷ ls)

-- each line has its glyphs
numbers_placed : (e : LabelExtent) (how : Align) (inner step : ℕ) (rise : ℤ) (ls : List (List (ℕ × ℕ)))
    → map (λ (g : ℕ × ℕ). g.0) (flat_map (λ (l : Placement). l.glyphs) (lines_placed e how inner step rise ls))
    ≡ map (λ (g : ℕ × ℕ). g.0) (flat_map (λ (l : List (ℕ × ℕ)). l) ls)
numbers_placed e how inner step rise [] = refl
numbers_placed e how inner step rise (l ∷ ls) =
    let first : ℕ × ℕ → ℕ = λ g. g.0 in
    let its = (line_placed e how inner rise l).glyphs in
    let others = flat_map (λ (l : Placement). l.glyphs) (lines_placed e how inner step (rise +ℤ pos step) ls) in
    let one : map first its ≡ map first l =
    map-map first (λ (g : ℕ × ℕ). (g.0, g.1 + indent how inner (width_of l))) (glyphs_at_pens (map (λ g. g.0) l) (map (λ g. g.1) l))
    ∙ glyphs_by_steps (map (λ g. g.0) l) (map (λ g. g.1) l) in
    map-append first its others
    ∙ ap₂ (λ (a b : List ℕ). a ++ b) one (numbers_placed e how inner step (rise +ℤ pos step) ls)
    ∙ sym (map-append first l (flat_map (λ (l : List (ℕ × ℕ)). l) ls))

joined_as : (e : LabelExtent) (how : Align) (inner step : ℕ) (rise : ℤ) (ls : List (List (ℕ × ℕ)))
    → joint_numbers (lines_placed e how inner step rise ls) ≡ glyphs_in ls
joined_as e how inner step rise [] = refl
joined_as e how inner step rise (l ∷ ls) = numbers_placed e how inner step rise (l ∷ ls)

length_placed : (e : LabelExtent) (how : Align) (inner step : ℕ) (rise : ℤ) (ls : List (List (ℕ × ℕ)))
    → length (lines_placed e how inner step rise ls) ≡ length ls
length_placed e how inner step rise [] = refl
length_placed e how inner step rise (l ∷ ls) = rw (length_placed e how inner step (rise +ℤ pos step) ls) refl

-- lines that are laid out have one size, the glyphs of the text, and are as many as its lines
pub record ArePlaced (ls : List (List (ℕ × ℕ))) (lines : List Placement) : Type 0 where
  pub alike : AreAlike lines
  pub numbers : joint_numbers lines ≡ glyphs_in ls
  pub count : length lines ≡ length ls

pub placed_lines : (m : Metrics) (ppem margin : ℕ) (how : Align) (ls : List (List (ℕ × ℕ))) (lines : List Placement)
    → label_placement m ppem margin how ls ≡ Ok lines → ArePlaced ls lines
unfolding label_placement
placed_lines m ppem margin how ls lines is =
    let through = came-through (label_limited (label_extent (widest ls) margin (rise_of m ppem) (depth_of m ppem) (line_step_of m ppem) (length ls - 1)))
    (λ e. Ok (lines_placed e how (widest ls) (line_step_of m ppem) (rise_of m ppem) ls)) lines is in
    let e = through.value in
    let rest = through.rest in
    let same : lines_placed e how (widest ls) (line_step_of m ppem) (rise_of m ppem) ls ≡ lines = cc in
    rw (← same) (record {
      alike = alike_as e how (widest ls) (line_step_of m ppem) (rise_of m ppem) ls;
      numbers = joined_as e how (widest ls) (line_step_of m ppem) (rise_of m ppem) ls;
      count = length_placed e how (widest ls) (line_step_of m ppem) (rise_of m ppem) ls;
    })

-- the lines of a job's text that is laid out by advances
pub placed_by_advances : (face : Face) (a : Job) (how : Align) → tested a ≡ Ok tt → is_bounded a.fit ≡ false
    → label_placed face a how ≡ label_by_advances face a how
unfolding label_placed
placed_by_advances face a how passes unbounded = rw (passes, unbounded) refl

-- a label stops where its lines are not laid out, or where their glyphs are not made
pub shapes_stop : (face : Face) (a : Job) (how : Align) (lines : List Placement) (r : Refused) → label_placed face a how ≡ Ok lines
    → shapes_made face a (joint lines) ≡ Err r → label_shapes face a how ≡ Err r
shapes_stop face a how lines r placed fails = rw placed fails

pub lines_stop : (face : Face) (a : Job) (how : Align) (r : Refused) → label_placed face a how ≡ Err r → label_shapes face a how ≡ Err r
lines_stop face a how r fails = rw fails refl

-- the same of a call's error
pub lines_tell : {X : Type 0} (view : X → List Placement) (face : Face) (a : Job) (how : Align) (d : DrawFault)
    → GivesUnless refusal view (Err d) (label_placed face a how) → IfSome (refusal d) (λ r. label_shapes face a how ≡ Err r)
lines_tell view face a how (draw.Font f) gives = lines_stop face a how (font f) gives
lines_tell view face a how (draw.Job j) gives = lines_stop face a how (job j) gives
lines_tell view face a how draw.Memory gives = tt

pub shapes_tell : (face : Face) (a : Job) (how : Align) (lines : List Placement) (d : DrawFault) → label_placed face a how ≡ Ok lines
    → IfSome (refusal d) (λ r. shapes_made face a (joint lines) ≡ Err r) → IfSome (refusal d) (λ r. label_shapes face a how ≡ Err r)
shapes_tell face a how lines (draw.Font f) placed fails = shapes_stop face a how lines (font f) placed fails
shapes_tell face a how lines (draw.Job j) placed fails = shapes_stop face a how lines (job j) placed fails
shapes_tell face a how lines draw.Memory placed fails = tt

-- a layout by advances that is refused
pub refused_as_job : {W X Y : Type 0} (view : W → Y) (other : X → List Placement) (wanted : Result Y JobFault) (placed : Result (List Placement) Refused)
    (d : DrawFault) → JobGives view (Err d) wanted → ((j : JobFault) → wanted ≡ Err j → placed ≡ Err (job j))
    → GivesUnless refusal other (Err d) placed
refused_as_job view other wanted placed (draw.Font f) gives is = absurd gives
refused_as_job view other wanted placed (draw.Job j) gives is = is j gives
refused_as_job view other wanted placed draw.Memory gives is = tt

-- lines that are laid out, from lists of glyphs with their steps
pub laid_by : (face : Face) (ppem margin : ℕ) (how : Align) (steps : List (Vec (ℕ × ℕ) Global)) (lines : List Laid) → margin ≤ margin_limit
    → 1 ≤ length steps → length (flat_map (λ (v : Vec (ℕ × ℕ) Global). v.items) steps) ≤ text_limit
    → All (λ (g : ℕ × ℕ). g.0 < glyphs_of face.metrics) (flat_map (λ (v : Vec (ℕ × ℕ) Global). v.items) steps)
    → All (λ (l : Laid). l.margin ≡ margin) lines
    → label_placement face.metrics ppem margin how (map (λ (v : Vec (ℕ × ℕ) Global). v.items) steps) ≡ Ok (placements_of lines)
    → AreLaid face margin lines
laid_by face ppem margin how steps lines within some few known margins is =
    let items : Vec (ℕ × ℕ) Global → List (ℕ × ℕ) = λ v. v.items in
    let first : ℕ × ℕ → ℕ = λ g. g.0 in
    let ms = placements_of lines in
    let placed = placed_lines face.metrics ppem margin how (map items steps) ms is in
    let joined : map first (joint ms).glyphs ≡ map first (flat_map items steps) = placed.numbers ∙ ap (map first) (lists_joined steps) in
    let count : length lines ≡ length steps = sym (length-map lines (λ (l : Laid). placement_of l.line)) ∙ placed.count ∙ length-map steps items in
    let long : length (joint ms).glyphs ≡ length (flat_map items steps) =
    sym (length-map (joint ms).glyphs first) ∙ ap length joined ∙ length-map (flat_map items steps) first in
    record {
      some = omega (arith, some, count);
      within = within;
      margins = margins;
      alike = placed.alike;
      few = omega (arith, few, long);
      known = of_same_glyphs (λ n. n < glyphs_of face.metrics) (flat_map items steps) (joint ms).glyphs joined known;
    }

-- a job that is refused by its tests
pub untested_stops : (face : Face) (a : Job) (how : Align) (j : JobFault) → tested a ≡ Err j → label_shapes face a how ≡ Err (job j)
unfolding label_placed
untested_stops face a how j fails = rw fails refl
