-- The picture of rows whose glyphs are made.
use Rattle.std.proofs.Common.{◌≡◌, ◌∙◌, refl, sym, ℕ, ◌-◌, ◌*◌, ◌≤◌, true, List, length, map, Option, Result, Ok, Err, arith}
use Rattle.std.proofs.lemmas.List.{length-map}
use Rattle.std.specs.Prelude.{All, IfSome}
use Rattle.tt_bitmap.specs.declared.ink.LeastBox.{LeastBox}
use Rattle.tt_core.specs.declared.draw_fault.DrawFault.{DrawFault}
use Rattle.tt_core.specs.declared.draw_fault.DrawFault.TheVariants as draw
use Rattle.tt_core.specs.declared.fault.JobFault.{JobFault}
use Rattle.tt_core.specs.Outcomes.{GivesUnless, JobGives}
use Rattle.tt_face.specs.Faces.{Face}
use Rattle.tt_fit.specs.Fitting.{Fitter}
use Rattle.tt_label.specs.Begun.{CanFinish, HasFinish, begun_outcome}
use Rattle.tt_label.specs.declared.begun.Stage.{Stage}
use Rattle.tt_label.specs.declared.widths.LaidRows as declared
use Rattle.tt_label.specs.Made.{AreAlike}
use Rattle.tt_label.specs.RowViews.{AreRows}
use Rattle.tt_label.specs.Views.{placements_of}
use Rattle.tt_label.specs.Gathered.{AreReady, gathered, units_glyphs, units_in}
use Rattle.tt_label.specs.Label.{grown_lines, joint, label_ink}
use Rattle.tt_label.specs.Widths.{CutImage, LaidRows, columns_shown, cut_left, cut_right, laid_in_width, rows_drawn, rows_in_width, upright, width_outcome}
use Rattle.tt_label.proofs.Larger.{as_many, each_line, larger_height, of_larger, of_one_size}
use Rattle.tt_label.proofs.RowsPlaced.{HasSize, first_width, higher_alone, joint_have}
use Rattle.tt_label.proofs.UnitGlyphs.{at_zero, zero_had, zero_numbers}
use Rattle.tt_label_rows.specs.Rows.{text_rows}
use Rattle.tt_line.specs.declared.align.Align.{Align}
use Rattle.tt_line.specs.Layout.{Placement}
use Rattle.tt_line.specs.Outcome.{placement_of}
use Rattle.tt_metrics.specs.Metrics.{Metrics}
use Rattle.tt_picture.specs.declared.ink_box.InkBox.{InkBox}
use Rattle.tt_picture.specs.Distinct.{is_among}
use Rattle.tt_picture.specs.Glyphs.{AreDrawn, Glyph, inks_of, numbers_of}
use Rattle.tt_picture.proofs.Among.{all_among}
use Rattle.tt_rows.specs.declared.unit.RowUnit.{RowUnit}
use Rattle.tt_strike.specs.declared.laid.Laid.{Laid}
use Rattle.tt_strike.specs.Strikes.{SizedFace, job_by}
use Rattle.tt_strike.proofs.Made.{inks_as_made}
use Rattle.tt_strike.specs.Job.{Job}
use Rattle.tt_strike.specs.Made.{shapes_made}
use Rattle.tt_strike.specs.Measures.{line_ink}
use Rattle.tt_strike.specs.Picture.{setting_in}
use Rattle.tt_strike.specs.Refusals.{refusal}
use Rattle.tt_strike.specs.Work.{line_fitter}
use Rattle.tt_strike.proofs.Stopped.{stops}

-- rows that are enlarged, and those that are not
pub rows_as_drawn : (inked : ℕ → Option LeastBox) (maker : ℕ → Fitter) (margin n : ℕ) (laid : LaidRows) (ink : Option InkBox) (larger : List Placement)
    → ink ≡ label_ink inked margin laid.lines → grown_lines laid.lines (upright ink) ≡ Ok larger
    → rows_drawn inked maker margin n laid ≡ Ok (record {
      shown = columns_shown maker margin laid.picture.skipped n larger;
      left = cut_left laid.picture.skipped ink;
      right = cut_right laid.picture.skipped n ink;
    })
rows_as_drawn inked maker margin n laid ink larger is grows = let there = rw is at grows in rw (there, is) refl

pub rows_not_drawn : (inked : ℕ → Option LeastBox) (maker : ℕ → Fitter) (margin n : ℕ) (laid : LaidRows) (ink : Option InkBox) (j : JobFault)
    → ink ≡ label_ink inked margin laid.lines → grown_lines laid.lines (upright ink) ≡ Err j
    → rows_drawn inked maker margin n laid ≡ Err j
rows_not_drawn inked maker margin n laid ink j is fails = let there = rw is at fails in rw there refl

-- where the label stops
pub begun_stops_width : (face : Face) (a : Job) (how : Align) (n : ℕ) (e : DrawFault) → IfSome (refusal e) (λ r. begun_outcome face a ≡ Err r)
    → IfSome (refusal e) (λ r. width_outcome face a how n ≡ Err r)
unfolding width_outcome
begun_stops_width face a how n e = stops e (begun_outcome face a) (width_outcome face a how n) (λ r fails. rw fails refl)

pub rows_stop_width : {X : Type 0} (view : X → LaidRows) (face : Face) (a : Job) (how : Align) (n : ℕ) (s : Fitter) (e : DrawFault) → begun_outcome face a ≡ Ok s
    → JobGives view (Err e) (rows_in_width face a how n s) → IfSome (refusal e) (λ r. width_outcome face a how n ≡ Err r)
unfolding width_outcome
rows_stop_width view face a how n s (draw.Font f) begun gives = absurd gives
rows_stop_width view face a how n s (draw.Job j) begun gives = rw (begun, gives) refl
rows_stop_width view face a how n s draw.Memory begun gives = tt

pub shapes_stop_width : (face : Face) (a : Job) (how : Align) (n : ℕ) (s : Fitter) (laid : LaidRows) (e : DrawFault) → begun_outcome face a ≡ Ok s
    → setting_in face a ≡ Ok s → rows_in_width face a how n s ≡ Ok laid
    → IfSome (refusal e) (λ r. shapes_made face a (gathered (units_glyphs face a)) ≡ Err r)
    → IfSome (refusal e) (λ r. width_outcome face a how n ≡ Err r)
unfolding width_outcome
shapes_stop_width face a how n s laid e begun there rows =
    stops e (shapes_made face a (gathered (units_glyphs face a))) (width_outcome face a how n) (λ r fails.
    let told = rw there at fails in rw (begun, rows, told) refl)

-- and what it is
pub drawn_gives_width : {X : Type 0} (view : X → CutImage) (face : Face) (a : Job) (how : Align) (n m : ℕ) (s : Fitter) (laid : LaidRows) (made : List Glyph)
    (result : Result X DrawFault) → begun_outcome face a ≡ Ok s → rows_in_width face a how n s ≡ Ok laid
    → AreReady face a s (units_glyphs face a) made m
    → JobGives view result (rows_drawn (line_ink s (gathered (units_glyphs face a))) (line_fitter s (units_glyphs face a)) a.margin n laid)
    → GivesUnless refusal view result (width_outcome face a how n)
unfolding width_outcome
drawn_gives_width view face a how n m s laid made (Ok x) begun rows ready gives =
    let d = ready.drawn in
    let few = rw ready.setting at d.few in
    let fitted = rw ready.setting at d.fitted in
    let seldom = rw ready.setting at d.seldom in
    rw (begun, rows, few, fitted, seldom, gives) refl
drawn_gives_width view face a how n m s laid made (Err (draw.Font f)) begun rows ready gives = absurd gives
drawn_gives_width view face a how n m s laid made (Err (draw.Job j)) begun rows ready gives =
    let d = ready.drawn in
    let few = rw ready.setting at d.few in
    let fitted = rw ready.setting at d.fitted in
    let seldom = rw ready.setting at d.seldom in
    rw (begun, rows, few, fitted, seldom, gives) refl
drawn_gives_width view face a how n m s laid made (Err draw.Memory) begun rows ready gives = tt

-- rows that are too high once they are enlarged
pub growth_stops_rows : {X W : Type 0} (view : X → List Placement) (shown : W → CutImage) (inked : ℕ → Option LeastBox) (maker : ℕ → Fitter) (margin n : ℕ) (laid : LaidRows)
    (ink : Option InkBox) (e : DrawFault) → ink ≡ label_ink inked margin laid.lines → JobGives view (Err e) (grown_lines laid.lines (upright ink))
    → JobGives shown (Err e) (rows_drawn inked maker margin n laid)
growth_stops_rows view shown inked maker margin n laid ink (draw.Font f) is fails = absurd fails
growth_stops_rows view shown inked maker margin n laid ink (draw.Job j) is fails = rows_not_drawn inked maker margin n laid ink j is fails
growth_stops_rows view shown inked maker margin n laid ink draw.Memory is fails = tt

-- the enlarged rows
abbrev Sides : declared.LaidRows → Option InkBox → Placement → Type 0
Sides r ink = HasSize r.picture.width (larger_height r.picture.width r.picture.height (upright ink))

pub higher_rows : (margin : ℕ) (r : declared.LaidRows) (ink : Option InkBox) (larger : List Laid) → AreRows margin r
    → grown_lines (placements_of r.lines.items) (upright ink) ≡ Ok (placements_of larger) → All (Sides r ink) (placements_of larger)
higher_rows margin r ink larger are is =
    higher_alone r.picture.width r.picture.height ink (placements_of r.lines.items) (placements_of larger) are.picture.some_width are.sizes is

pub some_larger : (margin : ℕ) (r : declared.LaidRows) (ink : Option InkBox) (larger : List Laid) → AreRows margin r
    → grown_lines (placements_of r.lines.items) (upright ink) ≡ Ok (placements_of larger) → 1 ≤ length larger
some_larger margin r ink larger are is =
    let view : Laid → Placement = λ l. placement_of l.line in
    let count : length larger ≡ length r.lines.items =
    sym (length-map larger view) ∙ as_many (upright ink) (placements_of r.lines.items) (placements_of larger) is ∙ length-map r.lines.items view in
    let some = are.some in omega (arith, some, count)

pub alike_larger : (margin : ℕ) (r : declared.LaidRows) (ink : Option InkBox) (larger : List Laid) → AreRows margin r
    → grown_lines (placements_of r.lines.items) (upright ink) ≡ Ok (placements_of larger) → AreAlike (placements_of larger)
alike_larger margin r ink larger are is =
    of_one_size r.picture.width (larger_height r.picture.width r.picture.height (upright ink)) (placements_of larger) (higher_rows margin r ink larger are is)

-- they have the width of their picture
pub width_larger : (margin : ℕ) (r : declared.LaidRows) (ink : Option InkBox) (larger : List Laid) → AreRows margin r
    → grown_lines (placements_of r.lines.items) (upright ink) ≡ Ok (placements_of larger) → (joint (placements_of larger)).width ≡ r.picture.width
width_larger margin r ink larger are is =
    first_width r.picture.width (larger_height r.picture.width r.picture.height (upright ink)) (placements_of larger)
    (let some = some_larger margin r ink larger are is in let many = length-map larger (λ (l : Laid). placement_of l.line) in omega (arith, some, many))
    (higher_rows margin r ink larger are is)

-- and their glyphs are among the same
pub among_larger : (numbers : List ℕ) (r : declared.LaidRows) (ink : Option InkBox) (larger : List Laid)
    → grown_lines (placements_of r.lines.items) (upright ink) ≡ Ok (placements_of larger)
    → All (λ (l : Laid). All (λ (g : ℕ × ℕ). is_among g.0 numbers ≡ true) l.line.glyphs.items) r.lines.items
    → All (λ (l : Laid). All (λ (g : ℕ × ℕ). is_among g.0 numbers ≡ true) l.line.glyphs.items) larger
among_larger numbers r ink larger is among =
    each_line (λ (g : ℕ × ℕ). is_among g.0 numbers ≡ true) larger
    (of_larger (λ n. is_among n numbers ≡ true) (upright ink) (placements_of r.lines.items) (placements_of larger) is
    (joint_have (λ (g : ℕ × ℕ). is_among g.0 numbers ≡ true) r.lines.items among))

-- the rows of the text, whose units are these
pub rows_given : {X : Type 0} (view : X → LaidRows) (result : Result X DrawFault) (face : Face) (a : Job) (how : Align) (n ppem : ℕ) (m : Metrics) (s : Fitter)
    (us : List (List RowUnit)) → m ≡ face.metrics → ppem ≡ a.ppem → us ≡ units_in face a s
    → JobGives view result (laid_in_width m ppem a.margin how n (text_rows (n - 2 * a.margin) us))
    → JobGives view result (rows_in_width face a how n s)
rows_given view result face a how n ppem m s us same size are gives = rw (same, size, are) at gives

-- the line of the glyphs has the margin of the label
pub finish_at : (z : SizedFace) (text : List ℕ) (margin k : ℕ) (l : Laid) (st : Stage) (s : Fitter) → k ≡ margin
    → CanFinish z.face (job_by z text margin) s l st → HasFinish z.face (job_by z text k) l st
finish_at z text margin k l st s same can = rw same (s, can)

pub ready_at : (z : SizedFace) (text : List ℕ) (margin k : ℕ) (s : Fitter) (gs : List Glyph) (n : ℕ) → k ≡ margin → setting_in z.face (job_by z text margin) ≡ Ok s
    → ((t : Fitter) → setting_in z.face (job_by z text k) ≡ Ok t → AreReady z.face (job_by z text k) t (units_glyphs z.face (job_by z text k)) gs n)
    → AreReady z.face (job_by z text margin) s (units_glyphs z.face (job_by z text margin)) gs n
ready_at z text margin k s gs n same there ready = (rw same at ready) s there

pub unready_at : (z : SizedFace) (text : List ℕ) (margin k : ℕ) (e : DrawFault) → k ≡ margin
    → IfSome (refusal e) (λ r. shapes_made z.face (job_by z text k) (gathered (units_glyphs z.face (job_by z text k))) ≡ Err r)
    → IfSome (refusal e) (λ r. shapes_made z.face (job_by z text margin) (gathered (units_glyphs z.face (job_by z text margin))) ≡ Err r)
unready_at z text margin k e same fails = fails

-- the glyphs of the text are among those that are made
pub text_among : (face : Face) (a : Job) (s : Fitter) (gs : List ℕ) (made : List Glyph) (n : ℕ) → AreReady face a s gs made n
    → All (λ (g : ℕ). is_among g (numbers_of made) ≡ true) gs
text_among face a s gs made n ready =
    zero_had (λ (g : ℕ). is_among g (numbers_of made) ≡ true) gs (all_among (at_zero gs) (numbers_of made) ready.drawn.numbers)

-- their inks
pub text_inks : (face : Face) (a : Job) (s : Fitter) (gs : List ℕ) (made : List Glyph) (n : ℕ) → AreReady face a s gs made n
    → inks_of made ≡ map (line_ink s (gathered gs)) (numbers_of made)
text_inks face a s gs made n ready = rw ready.setting at (inks_as_made face a (gathered gs) made ready.drawn)

pub text_drawn : (face : Face) (a : Job) (s : Fitter) (gs : List ℕ) (made : List Glyph) (n : ℕ) → AreReady face a s gs made n
    → AreDrawn (line_fitter s gs) made
text_drawn face a s gs made n ready = rw (ready.setting, zero_numbers gs) at ready.drawn.drawn
