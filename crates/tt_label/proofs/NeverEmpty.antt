-- No label is refused for want of a pixel: no step of its making gives that refusal.
use Rattle.std.proofs.Common.{◌≡◌, ◌≢◌, ap, ℕ, ◌-◌, Bool, true, false, ◌||◌, ◌&&◌, if◌then◌else◌, nat_lt, List, [], ◌∷◌, chars, length, map, Option, None, Some, Result, Ok, Err}
use Rattle.tt_advances.specs.Found.{advances_tested}
use Rattle.tt_advances.specs.Lines.{advance_step}
use Rattle.tt_core.specs.declared.fault.JobFault.{JobFault}
use Rattle.tt_core.specs.declared.fault.JobFault.TheVariants as fault
use Rattle.tt_core.specs.Faults.{Fault}
use Rattle.tt_core.specs.Limits.{height_limit, margin_limit, point_work_limit, size_limit, text_limit, width_limit}
use Rattle.tt_core.specs.Outcomes.{◌>>=◌, each}
use Rattle.tt_face.specs.Faces.{Face}
use Rattle.tt_fit.specs.DeltaCounting.{delta_limit}
use Rattle.tt_fit.specs.Fitting.{Fitter}
use Rattle.tt_fit.specs.declared.programs.Fit.{Fit}
use Rattle.tt_label.specs.Label.{grown_lines, joint, joint_numbers, label_by_advances, label_by_steps, label_drawn, label_glyphs, label_grown, label_ink, label_outcome, label_placed, some_line_shows, stepped_lines}
use Rattle.tt_label.specs.LineLaws.{LabelsAreNeverEmpty}
use Rattle.tt_line.specs.declared.align.Align.{Align}
use Rattle.tt_line.specs.declared.label_extent.LabelExtent.{LabelExtent}
use Rattle.tt_line.specs.Labels.{label_extent, label_limited, label_placement, line_step_of, lines_placed, widest}
use Rattle.tt_line.specs.Layout.{Placement, depth_of, rise_of}
use Rattle.tt_metrics.specs.Metrics.{Metrics}
use Rattle.tt_picture.specs.declared.ink_box.InkBox.{InkBox}
use Rattle.tt_picture.specs.Pictures.{Image, image}
use Rattle.tt_picture.specs.Pixels.{Shape}
use Rattle.tt_picture.specs.Shapes.{crossings_in}
use Rattle.tt_picture.specs.Steps.{step_by}
use Rattle.tt_strike.specs.Grown.{grown, lacking, not_large, with_sides}
use Rattle.tt_strike.specs.Job.{Job, margin_tested, size_tested, tested, text_tested}
use Rattle.tt_strike.specs.Measures.{line_ink}
use Rattle.tt_strike.specs.Picture.{advance_with, edges_tested, frame_of, line_shapes, outlines_in, outlines_tested, points_tested, setting_in, shapes_in}
use Rattle.tt_strike.specs.Refusals.{Refused, as_font, as_job, job}
use Rattle.tt_strike.specs.Work.{asked_tested, chord_limit, chords_in, counts_tested, crossings_allowed, deltas_in, edges_limited, is_bounded, line_fitter, points_in, work_left, work_tested}

-- a chain gives an error only where a step of it does
chain_never : {A B E : Type 0} (e : E) (r : Result A E) (f : A → Result B E) → r ≢ Err e → ((x : A) → f x ≢ Err e) → (r >>= f) ≢ Err e
chain_never e (Ok x) f first later = later x
chain_never e (Err d) f first later = λ is. first (let same : d ≡ e = cc in ap Err same)

each_never : {A B E : Type 0} (e : E) (make : A → Result B E) (xs : List A) → ((x : A) → make x ≢ Err e) → each make xs ≢ Err e
each_never e make [] never = λ is. cc
each_never e make (x ∷ xs) never =
    chain_never e (make x) (λ y. each make xs >>= λ ys. Ok (y ∷ ys)) (never x)
    (λ y. chain_never e (each make xs) (λ ys. Ok (y ∷ ys)) (each_never e make xs never) (λ ys is. cc))

font_never : {A : Type 0} (r : Result A Fault) → as_font r ≢ Err (job fault.EmptyPicture)
font_never (Ok x) = λ is. cc
font_never (Err f) = λ is. cc

job_never : {A : Type 0} (r : Result A JobFault) → r ≢ Err fault.EmptyPicture → as_job r ≢ Err (job fault.EmptyPicture)
job_never (Ok x) never = λ is. cc
job_never (Err j) never = λ is. never (let same : j ≡ fault.EmptyPicture = cc in ap Err same)

test_never : {A : Type 0} (failed : Bool) (j : JobFault) (x : A) → j ≢ fault.EmptyPicture
    → ◌≢◌ {A = Result A JobFault} (if failed then Err j else Ok x) (Err fault.EmptyPicture)
test_never true j x other = λ is. other cc
test_never false j x other = λ is. cc

tested_never : (a : Job) → tested a ≢ Err fault.EmptyPicture
unfolding tested size_tested margin_tested text_tested
tested_never a =
    chain_never fault.EmptyPicture (size_tested a.ppem) (λ u. margin_tested a.margin >>= λ u. text_tested a.text)
    (test_never (nat_lt a.ppem 1 || nat_lt size_limit a.ppem) fault.SizeRange tt (λ is. cc))
    (λ u. chain_never fault.EmptyPicture (margin_tested a.margin) (λ u. text_tested a.text)
    (test_never (nat_lt margin_limit a.margin) fault.MarginRange tt (λ is. cc))
    (λ u. test_never (nat_lt text_limit (length (chars a.text))) fault.TextLong tt (λ is. cc)))

work_never : (how : Fit) (limit work : ℕ) → work_tested how limit work ≢ Err fault.EmptyPicture
unfolding work_tested
work_never how limit work = test_never (is_bounded how && nat_lt limit work) fault.WorkLarge tt (λ is. cc)

counts_never : (how : Fit) (points deltas : ℕ) → counts_tested how points deltas ≢ Err fault.EmptyPicture
unfolding counts_tested
counts_never how points deltas =
    chain_never fault.EmptyPicture (work_tested how point_work_limit points) (λ u. work_tested how delta_limit deltas)
    (work_never how point_work_limit points) (λ u. work_never how delta_limit deltas)

-- the lines are laid out

limited_never : (e : LabelExtent) → label_limited e ≢ Err fault.EmptyPicture
unfolding label_limited
limited_never e = test_never (nat_lt width_limit e.width || nat_lt height_limit e.height) fault.PictureLarge e (λ is. cc)

placement_never : (m : Metrics) (ppem margin : ℕ) (how : Align) (lines : List (List (ℕ × ℕ)))
    → label_placement m ppem margin how lines ≢ Err fault.EmptyPicture
unfolding label_placement
placement_never m ppem margin how lines =
    let e : LabelExtent =
    label_extent (widest lines) margin (rise_of m ppem) (depth_of m ppem) (line_step_of m ppem) (length lines - 1) in
    let placed : LabelExtent → Result (List Placement) JobFault =
    λ x. Ok (lines_placed x how (widest lines) (line_step_of m ppem) (rise_of m ppem) lines) in
    chain_never fault.EmptyPicture (label_limited e) placed (limited_never e) (λ x is. cc)

outlines_never : (s : Fitter) (how : Fit) (gs : List ℕ) → outlines_tested s how gs ≢ Err (job fault.EmptyPicture)
outlines_never s how gs =
    chain_never (job fault.EmptyPicture) (as_job (asked_tested how s gs)) (λ u. as_font (outlines_in s gs))
    (job_never (asked_tested how s gs) (counts_never how (points_in s gs) (deltas_in s gs)))
    (λ u. font_never (outlines_in s gs))

steps_never : (face : Face) (a : Job) (how : Align) → label_by_steps face a how ≢ Err (job fault.EmptyPicture)
steps_never face a how =
    let e = job fault.EmptyPicture in
    let m = face.metrics in
    let gs = label_glyphs face.cmap a.text in
    let laid : Fitter → Result (List Placement) JobFault =
    λ s. label_placement m a.ppem a.margin how (stepped_lines m (step_by m a.ppem (advance_with s gs)) face.cmap a.text) in
    chain_never e (as_font (setting_in face a)) (λ s. outlines_tested s a.fit gs >>= λ outlines. as_job (laid s))
    (font_never (setting_in face a))
    (λ s. chain_never e (outlines_tested s a.fit gs) (λ outlines. as_job (laid s)) (outlines_never s a.fit gs)
    (λ outlines. job_never (laid s) (placement_never m a.ppem a.margin how (stepped_lines m (step_by m a.ppem (advance_with s gs)) face.cmap a.text))))

advances_never : (face : Face) (a : Job) (how : Align) → label_by_advances face a how ≢ Err (job fault.EmptyPicture)
advances_never face a how =
    let lines = stepped_lines face.metrics (advance_step face a.ppem) face.cmap a.text in
    let found = advances_tested face (label_glyphs face.cmap a.text) in
    chain_never (job fault.EmptyPicture) (as_font found) (λ u. as_job (label_placement face.metrics a.ppem a.margin how lines)) (font_never found)
    (λ u. job_never (label_placement face.metrics a.ppem a.margin how lines) (placement_never face.metrics a.ppem a.margin how lines))

one_of_never : {A : Type 0} (b : Bool) (x y : Result A Refused) → x ≢ Err (job fault.EmptyPicture) → y ≢ Err (job fault.EmptyPicture)
    → (if b then x else y) ≢ Err (job fault.EmptyPicture)
one_of_never true x y first second = first
one_of_never false x y first second = second

placed_never : (face : Face) (a : Job) (how : Align) → label_placed face a how ≢ Err (job fault.EmptyPicture)
unfolding label_placed
placed_never face a how =
    chain_never (job fault.EmptyPicture) (as_job (tested a))
    (λ u. if is_bounded a.fit then label_by_steps face a how else label_by_advances face a how) (job_never (tested a) (tested_never a))
    (λ u. one_of_never (is_bounded a.fit) (label_by_steps face a how) (label_by_advances face a how) (steps_never face a how) (advances_never face a how))

-- their glyphs are made

edges_never : (s : Fitter) (a : Job) (line : Placement) (glyphs : List Shape) → edges_tested s a line glyphs ≢ Err fault.EmptyPicture
unfolding edges_limited
edges_never s a line glyphs =
    let gs = map (λ (g : ℕ × ℕ). g.0) line.glyphs in
    let crossings = crossings_in glyphs in
    let most = crossings_allowed (work_left s gs) in
    chain_never fault.EmptyPicture (work_tested a.fit chord_limit (chords_in s gs)) (λ u. work_tested a.fit most crossings)
    (work_never a.fit chord_limit (chords_in s gs)) (λ u. work_never a.fit most crossings)

shapes_never : (s : Fitter) (a : Job) (line : Placement) → line_shapes s a line ≢ Err (job fault.EmptyPicture)
shapes_never s a line =
    let e = job fault.EmptyPicture in
    let last : List Shape → Result (List Shape) Refused = λ glyphs. as_job (edges_tested s a line glyphs) >>= λ u. Ok glyphs in
    chain_never e (as_job (points_tested s a line)) (λ u. as_font (shapes_in s line) >>= last)
    (job_never (points_tested s a line)
    (counts_never a.fit (points_in s (map (λ (g : ℕ × ℕ). g.0) line.glyphs)) (deltas_in s (map (λ (g : ℕ × ℕ). g.0) line.glyphs))))
    (λ u. chain_never e (as_font (shapes_in s line)) last (font_never (shapes_in s line))
    (λ glyphs. chain_never e (as_job (edges_tested s a line glyphs)) (λ u. Ok glyphs)
    (job_never (edges_tested s a line glyphs) (edges_never s a line glyphs)) (λ u is. cc)))

-- the lines are enlarged, and drawn

large_never : (line : Placement) → not_large line ≢ Err fault.EmptyPicture
unfolding not_large
large_never line = test_never (nat_lt width_limit line.width || nat_lt height_limit line.height) fault.PictureLarge line (λ is. cc)

one_grown_never : (line : Placement) (ink : Option InkBox) → grown line ink ≢ Err fault.EmptyPicture
one_grown_never line None = λ is. cc
one_grown_never line (Some b) = large_never (with_sides line (lacking line.width line.height b))

grown_never : (face : Face) (a : Job) (lines : List Placement) → label_grown face a lines ≢ Err (job fault.EmptyPicture)
unfolding label_grown
grown_never face a lines =
    let e = job fault.EmptyPicture in
    let larger : Fitter → Result (List Placement) JobFault =
    λ s. grown_lines lines (label_ink (line_ink s (joint lines)) a.margin lines) in
    chain_never e (as_font (setting_in face a)) (λ s. line_shapes s a (joint lines) >>= λ glyphs. as_job (larger s))
    (font_never (setting_in face a))
    (λ s. chain_never e (line_shapes s a (joint lines)) (λ glyphs. as_job (larger s)) (shapes_never s a (joint lines))
    (λ glyphs. job_never (larger s) (each_never fault.EmptyPicture
    (λ (line : Placement). grown line (label_ink (line_ink s (joint lines)) a.margin lines)) lines
    (λ line. one_grown_never line (label_ink (line_ink s (joint lines)) a.margin lines)))))

drawn_never : (face : Face) (a : Job) (lines : List Placement) → label_drawn face a lines ≢ Err (job fault.EmptyPicture)
unfolding label_drawn
drawn_never face a lines =
    let e = job fault.EmptyPicture in
    let shown : Fitter → Image =
    λ s. image (frame_of (joint lines) a.margin) (some_line_shows (line_fitter s (joint_numbers lines)) a.margin lines) in
    chain_never e (as_font (setting_in face a)) (λ s. line_shapes s a (joint lines) >>= λ glyphs. Ok (shown s))
    (font_never (setting_in face a))
    (λ s. chain_never e (line_shapes s a (joint lines)) (λ glyphs. Ok (shown s)) (shapes_never s a (joint lines)) (λ glyphs is. cc))

pub labels_are_never_empty : LabelsAreNeverEmpty
unfolding label_outcome
labels_are_never_empty face a how =
    let e = job fault.EmptyPicture in
    chain_never e (label_placed face a how) (λ lines. label_grown face a lines >>= λ larger. label_drawn face a larger)
    (placed_never face a how)
    (λ lines. chain_never e (label_grown face a lines) (λ larger. label_drawn face a larger) (grown_never face a lines)
    (λ larger. drawn_never face a larger))
