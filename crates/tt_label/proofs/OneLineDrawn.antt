-- A label of one line is the grown picture of the line.
use Rattle.std.proofs.Common.{◌≡◌, ◌∙◌, refl, sym, ap, ℕ, List, [], ◌∷◌, append-nil, map, Option, Result, Ok, Err, inl, inr}
use Rattle.tt_core.specs.declared.fault.JobFault.TheVariants as fault
use Rattle.tt_core.specs.Chains.{came-through}
use Rattle.tt_core.specs.Faults.{Fault}
use Rattle.tt_core.specs.Outcomes.{◌>>=◌, each}
use Rattle.tt_face.specs.Faces.{Face}
use Rattle.tt_fit.specs.Fitting.{Fitter}
use Rattle.tt_label.specs.Label.{grown_lines, joint, label_drawn, label_grown, label_ink, label_outcome, label_placed, label_report, line_box, line_shows, some_line_shows}
use Rattle.tt_label.specs.LineLaws.{LinesMakeLabels, OneLineHasPixels, OneLineIsGrown, OneLineReports, line_with_a_pixel, outcome_with_a_pixel}
use Rattle.tt_label.proofs.Grown.{measured_box}
use Rattle.tt_label.proofs.OneLine.{job_one, label_is_line, line_or_empty}
use Rattle.tt_line.specs.Layout.{Placement}
use Rattle.tt_picture.specs.declared.ink_box.InkBox.{InkBox}
use Rattle.tt_picture.specs.Lines.{is_shown}
use Rattle.tt_picture.specs.Pictures.{Image, image, picture}
use Rattle.tt_picture.specs.Pixels.{Shape, is_black_pixel}
use Rattle.tt_picture.specs.Shapes.{glyph_shape}
use Rattle.tt_picture.proofs.Alike.{image_alike}
use Rattle.tt_picture.proofs.Blackened.{or_false}
use Rattle.tt_strike.specs.Grown.{grown, grown_line, grown_outcome, grown_placement}
use Rattle.tt_strike.specs.Job.{Job, tested}
use Rattle.tt_strike.specs.Measures.{Measure, line_ink, line_step, measure_by, measured_line}
use Rattle.tt_strike.specs.Picture.{drawn, edges_tested, frame_of, laid_out, line_shapes, points_tested, setting_in, shapes_in, text_placed}
use Rattle.tt_strike.specs.Refusals.{Refused, as_font, as_job, job}
use Rattle.tt_strike.specs.Report.{line_report, report_by}
use Rattle.tt_strike.specs.Work.{line_fitter}
use Rattle.tt_strike.proofs.Placed.{of-font}

-- the glyphs of one line are those of the line
joint_one : (l : Placement) → joint (l ∷ []) ≡ l
joint_one l =
    let with_glyphs : List (ℕ × ℕ) → Placement = λ gs. record l { glyphs = gs } in
    ap with_glyphs (append-nil l.glyphs)

-- one line is enlarged by its own ink

grown_then : (r : Result (List Shape) Refused) (m : Measure) (ink : Option InkBox) (l : Placement) → m.ink ≡ ink
    → (r >>= λ glyphs. as_job (grown_lines (l ∷ []) ink)) ≡ (((r >>= λ glyphs. Ok m) >>= λ d. as_job (grown l d.ink)) >>= λ p. Ok (p ∷ []))
grown_then (Ok glyphs) m ink l same =
    ap (λ (b : Option InkBox). as_job (grown_lines (l ∷ []) b)) (sym same) ∙ job_one (grown l m.ink)
grown_then (Err e) m ink l same = refl

grown_after : (r : Result Fitter Refused) (f : Fitter → Result (List Shape) Refused) (m : Fitter → Measure) (ink : Fitter → Option InkBox)
    (l : Placement) → ((s : Fitter) → (m s).ink ≡ ink s)
    → (r >>= λ s. f s >>= λ glyphs. as_job (grown_lines (l ∷ []) (ink s)))
    ≡ (((r >>= λ s. f s >>= λ glyphs. Ok (m s)) >>= λ d. as_job (grown l d.ink)) >>= λ p. Ok (p ∷ []))
grown_after (Ok s) f m ink l same = grown_then (f s) (m s) (ink s) l (same s)
grown_after (Err e) f m ink l same = refl

grown_as : (face : Face) (a : Job) (l j : Placement) → j ≡ l
    → (as_font (setting_in face a) >>= λ s. line_shapes s a j >>= λ glyphs.
    as_job (grown_lines (l ∷ []) (label_ink (line_ink s j) a.margin (l ∷ []))))
    ≡ (grown_line face a l >>= λ m. Ok (m ∷ []))
unfolding grown_line measured_line
grown_as face a l j same =
    let measure : Fitter → Measure = λ s. measure_by face.metrics (line_step face a s l) a.margin (line_ink s l) l in
    rw same (grown_after (as_font (setting_in face a)) (λ s. line_shapes s a l) measure (λ s. line_box (line_ink s l) a.margin l) l
    (λ s. measured_box face.metrics (line_step face a s l) a.margin (line_ink s l) l))

grown_one : (face : Face) (a : Job) (l : Placement) → label_grown face a (l ∷ []) ≡ (grown_line face a l >>= λ m. Ok (m ∷ []))
unfolding label_grown
grown_one face a l = grown_as face a l (joint (l ∷ [])) (joint_one l)

-- one line is drawn as the line

pub ok_same : {A E : Type 0} (x y : A) → ◌≡◌ {A = Result A E} (Ok x) (Ok y) → x ≡ y
ok_same x y is = cc

pub shapes_told : (s : Fitter) (a : Job) (l : Placement) (glyphs : List Shape) → line_shapes s a l ≡ Ok glyphs → shapes_in s l ≡ Ok glyphs
shapes_told s a l glyphs is =
    let points = came-through (as_job (points_tested s a l)) _ glyphs is in
    let shapes = came-through (as_font (shapes_in s l)) _ glyphs points.rest in
    let edges = came-through (as_job (edges_tested s a l shapes.value)) _ glyphs shapes.rest in
    of-font (shapes_in s l) shapes.value shapes.first ∙ ap Ok (ok_same shapes.value glyphs edges.rest)

alone : (s : Fitter) (a : Job) (l : Placement) (glyphs : List Shape) → line_shapes s a l ≡ Ok glyphs
    → image (frame_of l a.margin) (some_line_shows (line_fitter s (map (λ g. g.0) l.glyphs)) a.margin (l ∷ []))
    ≡ picture (frame_of l a.margin) glyphs
alone s a l glyphs is =
    let f = frame_of l a.margin in
    let maker = line_fitter s (map (λ (g : ℕ × ℕ). g.0) l.glyphs) in
    let made : each (glyph_shape maker) l.glyphs ≡ Ok glyphs = shapes_told s a l glyphs is in
    image_alike f (some_line_shows maker a.margin (l ∷ [])) (is_black_pixel f glyphs) (λ c r column row.
    or_false (line_shows maker a.margin l c r) ∙ ap (λ (x : Result (List Shape) Fault). is_shown f x c r) made)

drawn_then : (r : Result (List Shape) Refused) (p : Image) (q : List Shape → Image) → ((glyphs : List Shape) → r ≡ Ok glyphs → p ≡ q glyphs)
    → (r >>= λ glyphs. Ok p) ≡ (r >>= λ glyphs. Ok (q glyphs))
drawn_then (Ok glyphs) p q same = ap Ok (same glyphs refl)
drawn_then (Err e) p q same = refl

drawn_after : (r : Result Fitter Refused) (f : Fitter → Result (List Shape) Refused) (p : Fitter → Image) (q : List Shape → Image)
    → ((s : Fitter) (glyphs : List Shape) → f s ≡ Ok glyphs → p s ≡ q glyphs)
    → (r >>= λ s. f s >>= λ glyphs. Ok (p s)) ≡ (r >>= λ s. f s >>= λ glyphs. Ok (q glyphs))
drawn_after (Ok s) f p q same = drawn_then (f s) (p s) q (same s)
drawn_after (Err e) f p q same = refl

drawn_as : (face : Face) (a : Job) (l j : Placement) → j ≡ l
    → (as_font (setting_in face a) >>= λ s. line_shapes s a j >>= λ glyphs.
    Ok (image (frame_of j a.margin) (some_line_shows (line_fitter s (map (λ g. g.0) j.glyphs)) a.margin (l ∷ []))))
    ≡ drawn face a l
unfolding drawn
drawn_as face a l j same =
    let shown : Fitter → Image =
    λ s. image (frame_of l a.margin) (some_line_shows (line_fitter s (map (λ (g : ℕ × ℕ). g.0) l.glyphs)) a.margin (l ∷ [])) in
    rw same (drawn_after (as_font (setting_in face a)) (λ s. line_shapes s a l) shown (λ glyphs. picture (frame_of l a.margin) glyphs)
    (λ s glyphs is. alone s a l glyphs is))

drawn_one : (face : Face) (a : Job) (l : Placement) → label_drawn face a (l ∷ []) ≡ drawn face a l
unfolding label_drawn
drawn_one face a l = drawn_as face a l (joint (l ∷ [])) (joint_one l)

-- the label of one line

after_grown : (face : Face) (a : Job) (r : Result Placement Refused)
    → ((r >>= λ m. Ok (m ∷ [])) >>= λ larger. label_drawn face a larger) ≡ (r >>= λ m. drawn face a m)
after_grown face a (Ok m) = drawn_one face a m
after_grown face a (Err e) = refl

after_placed : (face : Face) (a : Job) (r : Result Placement Refused)
    → ((r >>= λ l. Ok (l ∷ [])) >>= λ lines. label_grown face a lines >>= λ larger. label_drawn face a larger)
    ≡ (r >>= λ l. grown_line face a l >>= λ m. drawn face a m)
after_placed face a (Ok l) = rw (grown_one face a l) (after_grown face a (grown_line face a l))
after_placed face a (Err e) = refl

pub one_line_has_pixels : OneLineHasPixels
unfolding label_outcome outcome_with_a_pixel
one_line_has_pixels face a how one = rw (label_is_line face a how one) (after_placed face a (line_with_a_pixel face a))

grouped : (face : Face) (a : Job) (r : Result Placement Refused)
    → (r >>= λ l. grown_line face a l >>= λ m. drawn face a m) ≡ ((r >>= λ l. grown_line face a l) >>= λ m. drawn face a m)
grouped face a (Ok l) = refl
grouped face a (Err e) = refl

empty_is_told : (face : Face) (a : Job) → laid_out face a ≡ Err (job fault.EmptyPicture) → grown_outcome face a ≡ Err (job fault.EmptyPicture)
unfolding grown_outcome grown_placement
empty_is_told face a none = rw none refl

as_laid_out : (face : Face) (a : Job) → line_with_a_pixel face a ≡ laid_out face a → outcome_with_a_pixel face a ≡ grown_outcome face a
unfolding outcome_with_a_pixel grown_outcome grown_placement
as_laid_out face a same = rw same (grouped face a (laid_out face a))

pub one_line_is_grown : OneLineIsGrown
one_line_is_grown face a how one some = elim (line_or_empty face a) [
  | inl none ↦ absurd (some (empty_is_told face a none))
  | inr same ↦ one_line_has_pixels face a how one ∙ as_laid_out face a same
]

after_text : (face : Face) (a : Job) (t : Result (Unit {0}) Refused) (r : Result Placement Refused)
    → (((t >>= λ u. r) >>= λ l. Ok (l ∷ [])) >>= λ lines. line_report face a (joint lines)) ≡ (t >>= λ u. r >>= λ line. line_report face a line)
after_text face a (Ok u) (Ok l) = ap (λ (p : Placement). line_report face a p) (joint_one l)
after_text face a (Ok u) (Err e) = refl
after_text face a (Err e) r = refl

reports_alike : (face : Face) (a : Job) (r : Result Placement Refused) → r ≡ laid_out face a
    → ((r >>= λ l. Ok (l ∷ [])) >>= λ lines. line_report face a (joint lines)) ≡ (as_job (tested a) >>= λ u. report_by face a)
unfolding report_by
reports_alike face a r same = rw same (after_text face a (as_job (tested a)) (text_placed face a))

pub one_line_reports : OneLineReports
unfolding label_report
one_line_reports face a how one some = elim (line_or_empty face a) [
  | inl none ↦ absurd (some (empty_is_told face a none))
  | inr same ↦ rw (label_is_line face a how one) (reports_alike face a (line_with_a_pixel face a) same)
]

-- a label goes by the lines of its text
pub lines_make_labels : LinesMakeLabels
unfolding label_outcome label_placed label_grown label_drawn
lines_make_labels face a other how lines passes also = rw (lines, passes, also) refl
