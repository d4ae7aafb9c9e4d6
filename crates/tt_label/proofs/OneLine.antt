-- A label of one line is laid out as the line, in a picture of at least one column and one row.
use Rattle.std.proofs.Common.{◌≡◌, ◌∙◌, refl, sym, ap, ap₂, ℕ, ◌+◌, ◌-◌, ◌*◌, ◌≤◌, Bool, true, false, ◌||◌, ◌==◌, if◌then◌else◌, nat_lt, ℤ, pos, negsuc, ◌+ℤ◌, int_lt, unsigned_abs, List, [], ◌∷◌, append-nil, map, sum, Result, Ok, Err, ◌⊎◌, inl, inr, arith}
use Rattle.std.proofs.lemmas.Bool.Decides.{nat_tests}
use Rattle.std.proofs.lemmas.Int.{ints}
use Rattle.tt_advances.specs.Found.{advances_tested}
use Rattle.tt_advances.specs.Lines.{advance_line, advance_step}
use Rattle.tt_core.specs.declared.fault.JobFault.{JobFault}
use Rattle.tt_core.specs.declared.fault.JobFault.TheVariants as fault
use Rattle.tt_core.specs.Limits.{height_limit, width_limit}
use Rattle.tt_core.specs.Outcomes.{◌>>=◌}
use Rattle.tt_face.specs.Faces.{Face}
use Rattle.tt_fit.specs.Fitting.{Fitter}
use Rattle.tt_fit.specs.outline.Outline.{Outline}
use Rattle.tt_label.specs.Label.{label_by_advances, label_by_steps, label_glyphs, label_placed}
use Rattle.tt_label.specs.LineLaws.{IsOneLine, laid_with_a_pixel, line_with_a_pixel, with_a_pixel}
use Rattle.tt_label.proofs.Drawn.{unmoved}
use Rattle.tt_line.specs.declared.align.Align.{Align}
use Rattle.tt_line.specs.declared.align.Align.TheVariants as align
use Rattle.tt_line.specs.declared.extent.PictureExtent.{PictureExtent}
use Rattle.tt_line.specs.declared.label_extent.LabelExtent.{LabelExtent}
use Rattle.tt_line.specs.Labels.{greater, indent, label_extent, label_limited, label_placement, line_placed, line_step_of, rows_of, widest, width_of}
use Rattle.tt_line.specs.Layout.{Placement, depth_of, extent_by, glyphs_at_pens, laid_at, placed_in, rise_of, text_glyphs, within_limits}
use Rattle.tt_line.specs.Steps.{at_least}
use Rattle.tt_line.proofs.Stepped.{firsts}
use Rattle.tt_metrics.specs.Metrics.{Metrics}
use Rattle.tt_picture.specs.Steps.{step_by}
use Rattle.tt_strike.specs.Job.{Job, tested}
use Rattle.tt_strike.specs.Layouts.{steps_outcome}
use Rattle.tt_strike.specs.Picture.{advance_with, laid_out, made_line, outlines_tested, placed_by_steps, placed_by_units, setting_in, text_placed}
use Rattle.tt_strike.specs.Refusals.{Refused, as_font, as_job, job}
use Rattle.tt_strike.specs.Work.{is_bounded}

-- numbers that are at least one

either : (b : Bool) (x y : ℕ) (P : ℕ → Type 0) → (b ≡ true → P x) → (b ≡ false → P y) → P (if b then x else y)
either true x y P first second = first refl
either false x y P first second = second refl

not_above : (n : ℕ) → nat_lt 0 n ≡ false → 0 ≡ n
not_above n is = grind (arith, nat_tests, is)

greater_none : (n : ℕ) → greater 0 n ≡ n
greater_none n = either (nat_lt 0 n) n 0 (λ (k : ℕ). k ≡ n) (λ above. refl) (λ is. not_above n is)

above_one : (n : ℕ) → nat_lt 1 n ≡ true → 1 ≤ n
above_one n is = grind (arith, nat_tests, is)

some_column : (n : ℕ) → 1 ≤ greater 1 n
some_column n = either (nat_lt 1 n) n 1 (λ (k : ℕ). 1 ≤ k) (λ is. above_one n is) (λ is. omega arith)

not_none : (n : ℕ) → nat_lt n 1 ≡ false → 1 ≤ n
not_none n is = grind (arith, nat_tests, is)

not_low : (h : ℤ) → int_lt h (pos 1) ≡ false → 1 ≤ unsigned_abs h
not_low (pos n) is = not_none n is
not_low (negsuc n) is = absurd cc

some_row : (h : ℤ) → 1 ≤ at_least 1 h
some_row h = either (int_lt h (pos 1)) 1 (unsigned_abs h) (λ (k : ℕ). 1 ≤ k) (λ is. omega arith) (λ is. not_low h is)

-- a picture that has a pixel is too large as a label where it is so as a line

abbrev as_picture : LabelExtent → PictureExtent
as_picture e = record { width = e.width; height = pos e.height }

abbrev limited : Bool → LabelExtent → Result LabelExtent JobFault
limited large e = if large then Err fault.PictureLarge else Ok e

abbrev limited_picture : Bool → Bool → PictureExtent → Result PictureExtent JobFault
limited_picture empty large e = if empty then Err fault.EmptyPicture else (if large then Err fault.PictureLarge else Ok e)

by_tests : (empty large : Bool) (e : LabelExtent) → empty ≡ false
    → limited_picture empty large (as_picture e) ≡ (limited large e >>= λ d. Ok (as_picture d))
by_tests true large e some = absurd cc
by_tests false true e some = refl
by_tests false false e some = refl

no_pixel : (w h : ℕ) → 1 ≤ w → 1 ≤ h → ((w == 0) || nat_lt h 1) ≡ false
no_pixel w h column row =
    let wide : (w == 0) ≡ false = grind (arith, nat_tests, column) in
    let high : nat_lt h 1 ≡ false = grind (arith, nat_tests, row) in
    rw (wide, high) refl

limits_alike : (e : LabelExtent) → 1 ≤ e.width → 1 ≤ e.height
    → within_limits (as_picture e) ≡ (label_limited e >>= λ d. Ok (as_picture d))
unfolding within_limits label_limited
limits_alike e column row =
    let large = nat_lt width_limit e.width || nat_lt height_limit e.height in
    by_tests ((e.width == 0) || nat_lt e.height 1) large e (no_pixel e.width e.height column row)

-- a line stands at the margin of a picture of its own width

no_indent : (how : Align) (w : ℕ) → indent how w w ≡ 0
no_indent align.Left w = refl
no_indent align.Centre w = let none : w - w ≡ 0 = omega arith in rw none refl
no_indent align.Right w = omega arith

placed_alone : (e : LabelExtent) (how : Align) (inner : ℕ) (rise : ℤ) (line : List (ℕ × ℕ)) → inner ≡ width_of line
    → line_placed e how inner rise line ≡ placed_in (map (λ g. g.0) line) (map (λ g. g.1) line) rise (as_picture e)
placed_alone e how inner rise line same =
    let gs = glyphs_at_pens (map (λ (g : ℕ × ℕ). g.0) line) (map (λ (g : ℕ × ℕ). g.1) line) in
    let none : indent how inner (width_of line) ≡ 0 = rw same (no_indent how (width_of line)) in
    let with_glyphs : List (ℕ × ℕ) → Placement =
    λ hs. record { width = e.width; height = e.height; rise = rise; glyphs = hs } in
    let moved : ℕ → List (ℕ × ℕ) = λ n. map (λ (g : ℕ × ℕ). (g.0, g.1 + n)) gs in
    ap with_glyphs (ap moved none ∙ sym (unmoved gs))

in_one : (r : Result LabelExtent JobFault) (how : Align) (inner : ℕ) (rise : ℤ) (line : List (ℕ × ℕ)) → inner ≡ width_of line
    → (r >>= λ e. Ok (line_placed e how inner rise line ∷ []))
    ≡ (((r >>= λ d. Ok (as_picture d)) >>= λ e. Ok (placed_in (map (λ g. g.0) line) (map (λ g. g.1) line) rise e)) >>= λ l. Ok (l ∷ []))
in_one (Ok e) how inner rise line same =
    let alone : Placement → Result (List Placement) JobFault = λ l. Ok (l ∷ []) in
    ap alone (placed_alone e how inner rise line same)
in_one (Err f) how inner rise line same = refl

sizes_alike : (inner margin step : ℕ) (rise depth : ℤ) (steps : List ℕ) → inner ≡ sum steps
    → as_picture (label_extent inner margin rise depth step 0) ≡ with_a_pixel (extent_by steps margin rise depth)
sizes_alike inner margin step rise depth steps same =
    let rows : rows_of (0 * step + 2 * margin) rise depth ≡ (rise +ℤ depth) +ℤ pos (2 * margin) = omega (arith, ints) in
    let sized : ℕ → ℤ → PictureExtent = λ w h. record { width = greater 1 (w + 2 * margin); height = pos (at_least 1 h) } in
    ap₂ sized same rows

-- so one line is laid out in a picture of at least one column and one row
one_line_laid : (m : Metrics) (ppem margin : ℕ) (how : Align) (line : List (ℕ × ℕ))
    → label_placement m ppem margin how (line ∷ []) ≡ (laid_with_a_pixel m ppem margin line >>= λ l. Ok (l ∷ []))
unfolding label_placement
one_line_laid m ppem margin how line =
    let rise = rise_of m ppem in
    let depth = depth_of m ppem in
    let step = line_step_of m ppem in
    let steps = map (λ (g : ℕ × ℕ). g.1) line in
    let inner = widest (line ∷ []) in
    let same : inner ≡ width_of line = greater_none (width_of line) in
    let e : LabelExtent = label_extent inner margin rise depth step 0 in
    let alike : within_limits (as_picture e) ≡ (label_limited e >>= λ d. Ok (as_picture d)) =
    limits_alike e (some_column (inner + 2 * margin)) (some_row (rows_of (0 * step + 2 * margin) rise depth)) in
    let sizes : as_picture e ≡ with_a_pixel (extent_by steps margin rise depth) =
    sizes_alike inner margin step rise depth steps same in
    let placed : Result PictureExtent JobFault → Result (List Placement) JobFault =
    λ r. (r >>= λ x. Ok (placed_in (map (λ (g : ℕ × ℕ). g.0) line) steps rise x)) >>= λ l. Ok (l ∷ []) in
    in_one (label_limited e) how inner rise line same ∙ sym (ap placed alike)
    ∙ ap (λ (x : PictureExtent). placed (within_limits x)) sizes

pub job_one : (r : Result Placement JobFault) → as_job (r >>= λ l. Ok (l ∷ [])) ≡ (as_job r >>= λ l. Ok (l ∷ []))
job_one (Ok l) = refl
job_one (Err f) = refl

one_line_placed : (m : Metrics) (ppem margin : ℕ) (how : Align) (line : List (ℕ × ℕ))
    → as_job (label_placement m ppem margin how (line ∷ [])) ≡ (as_job (laid_with_a_pixel m ppem margin line) >>= λ l. Ok (l ∷ []))
one_line_placed m ppem margin how line =
    ap (λ (r : Result (List Placement) JobFault). as_job r) (one_line_laid m ppem margin how line)
    ∙ job_one (laid_with_a_pixel m ppem margin line)

-- the lines of a text that is one line

after_outlines : {X : Type 0} (r : Result X Refused) (line : List (ℕ × ℕ)) (p : List (ℕ × ℕ) → Result (List Placement) Refused)
    (h : List (ℕ × ℕ) → Result Placement Refused) → p line ≡ (h line >>= λ l. Ok (l ∷ []))
    → (r >>= λ os. p line) ≡ (((r >>= λ os. Ok line) >>= h) >>= λ l. Ok (l ∷ []))
after_outlines (Ok os) line p h same = same
after_outlines (Err e) line p h same = refl

after_setting : (r : Result Fitter Refused) (f : Fitter → Result (List Outline) Refused) (line : Fitter → List (ℕ × ℕ))
    (p : List (ℕ × ℕ) → Result (List Placement) Refused) (h : List (ℕ × ℕ) → Result Placement Refused)
    → ((gs : List (ℕ × ℕ)) → p gs ≡ (h gs >>= λ l. Ok (l ∷ [])))
    → (r >>= λ s. f s >>= λ os. p (line s)) ≡ (((r >>= λ s. f s >>= λ os. Ok (line s)) >>= h) >>= λ l. Ok (l ∷ []))
after_setting (Ok s) f line p h same = after_outlines (f s) (line s) p h (same (line s))
after_setting (Err e) f line p h same = refl

abbrev laid_line : Face → Job → List (ℕ × ℕ) → Result Placement Refused
laid_line face a line = as_job (laid_with_a_pixel face.metrics a.ppem a.margin line)

abbrev placed_lines : Face → Job → Align → Result (List Placement) Refused
placed_lines face a how = if is_bounded a.fit then label_by_steps face a how else label_by_advances face a how

placed_by : (bounded : Bool) (face : Face) (a : Job) (how : Align) → is_bounded a.fit ≡ bounded → IsOneLine a.text
    → placed_lines face a how ≡ ((steps_outcome face a >>= laid_line face a) >>= λ l. Ok (l ∷ []))
unfolding steps_outcome
placed_by true face a how is one =
    let gs = text_glyphs face.cmap a.text in
    let all : label_glyphs face.cmap a.text ≡ gs = rw one (append-nil gs) in
    rw (is, all, one) (after_setting (as_font (setting_in face a)) (λ s. outlines_tested s a.fit gs) (λ s. made_line face.metrics a.ppem s gs)
    (λ line. as_job (label_placement face.metrics a.ppem a.margin how (line ∷ []))) (laid_line face a)
    (λ line. one_line_placed face.metrics a.ppem a.margin how line))
placed_by false face a how is one =
    let gs = text_glyphs face.cmap a.text in
    let all : label_glyphs face.cmap a.text ≡ gs = rw one (append-nil gs) in
    let line = advance_line face a.ppem gs in
    rw (is, all, one) (after_outlines (as_font (advances_tested face gs)) line
    (λ line. as_job (label_placement face.metrics a.ppem a.margin how (line ∷ []))) (laid_line face a)
    (one_line_placed face.metrics a.ppem a.margin how line))

after_test : (t : Result (Unit {0}) Refused) (x : Result (List Placement) Refused) (y : Result Placement Refused)
    → x ≡ (y >>= λ l. Ok (l ∷ [])) → (t >>= λ u. x) ≡ ((t >>= λ u. y) >>= λ l. Ok (l ∷ []))
after_test (Ok u) x y same = same
after_test (Err e) x y same = refl

pub label_is_line : (face : Face) (a : Job) (how : Align) → IsOneLine a.text
    → label_placed face a how ≡ (line_with_a_pixel face a >>= λ l. Ok (l ∷ []))
unfolding label_placed line_with_a_pixel
label_is_line face a how one =
    after_test (as_job (tested a)) (placed_lines face a how) (steps_outcome face a >>= laid_line face a)
    (placed_by (is_bounded a.fit) face a how refl one)

-- a line has no pixel, or is laid out as in a picture that has one

neither : (a b : Bool) → (a || b) ≡ false → (a ≡ false) × (b ≡ false)
neither true b is = absurd cc
neither false b is = (refl, is)

just_one : (w : ℕ) → (w == 0) ≡ false → nat_lt 1 w ≡ false → 1 ≡ w
just_one w some is = grind (arith, nat_tests, some, is)

width_kept : (w : ℕ) → (w == 0) ≡ false → greater 1 w ≡ w
width_kept w some = either (nat_lt 1 w) w 1 (λ (k : ℕ). k ≡ w) (λ is. refl) (λ is. just_one w some is)

row_kept : (h : ℤ) → int_lt h (pos 1) ≡ false → pos (unsigned_abs h) ≡ h
row_kept (pos n) is = refl
row_kept (negsuc n) is = absurd cc

height_kept : (h : ℤ) → int_lt h (pos 1) ≡ false → pos (at_least 1 h) ≡ h
height_kept h is =
    ap (λ (b : Bool). pos (if b then 1 else unsigned_abs h)) is ∙ row_kept h is

extent_kept : (e : PictureExtent) → ((e.width == 0) || int_lt e.height (pos 1)) ≡ false → with_a_pixel e ≡ e
extent_kept e some =
    let both = neither (e.width == 0) (int_lt e.height (pos 1)) some in
    let sized : ℕ → ℤ → PictureExtent = λ w h. record { width = w; height = h } in
    ap₂ sized (width_kept e.width both.0) (height_kept e.height both.1)

empty_or_kept : (empty : Bool) (e : PictureExtent) → ((e.width == 0) || int_lt e.height (pos 1)) ≡ empty
    → (within_limits e ≡ Err fault.EmptyPicture) ⊎ (with_a_pixel e ≡ e)
unfolding within_limits
empty_or_kept true e is = inl (rw is refl)
empty_or_kept false e is = inr (extent_kept e is)

-- the layout of some glyphs by their steps
abbrev laid_by_steps : Metrics → ℕ → ℕ → List ℕ → List (ℕ × ℕ) → Result Placement JobFault
laid_by_steps m ppem margin gs line = laid_at m ppem margin gs (map (λ g. g.1) line)

steps_laid : (m : Metrics) (ppem margin : ℕ) (gs : List ℕ) (line : List (ℕ × ℕ)) → map (λ (g : ℕ × ℕ). g.0) line ≡ gs
    → (as_job (laid_by_steps m ppem margin gs line) ≡ Err (job fault.EmptyPicture))
    ⊎ (as_job (laid_with_a_pixel m ppem margin line) ≡ as_job (laid_by_steps m ppem margin gs line))
steps_laid m ppem margin gs line numbers =
    let steps = map (λ (g : ℕ × ℕ). g.1) line in
    let e : PictureExtent = extent_by steps margin (rise_of m ppem) (depth_of m ppem) in
    let by : List ℕ → Result PictureExtent JobFault → Result Placement Refused =
    λ ns r. as_job (r >>= λ x. Ok (placed_in ns steps (rise_of m ppem) x)) in
    elim (empty_or_kept ((e.width == 0) || int_lt e.height (pos 1)) e refl) [
      | inl none ↦ inl (ap (by gs) none)
      | inr same ↦ inr (ap (λ (x : PictureExtent). by (map (λ (g : ℕ × ℕ). g.0) line) (within_limits x)) same
          ∙ ap (λ (ns : List ℕ). by ns (within_limits e)) numbers)
    ]

empty_after : {X : Type 0} (r : Result X Refused) (line : List (ℕ × ℕ)) (h k : List (ℕ × ℕ) → Result Placement Refused) (e : Refused)
    → (k line ≡ Err e) ⊎ (h line ≡ k line)
    → ((r >>= λ os. k line) ≡ Err e) ⊎ (((r >>= λ os. Ok line) >>= h) ≡ (r >>= λ os. k line))
empty_after (Ok os) line h k e told = told
empty_after (Err d) line h k e told = inr refl

empty_by_setting : (r : Result Fitter Refused) (f : Fitter → Result (List Outline) Refused) (line : Fitter → List (ℕ × ℕ))
    (h k : List (ℕ × ℕ) → Result Placement Refused) (e : Refused)
    → ((s : Fitter) → (k (line s) ≡ Err e) ⊎ (h (line s) ≡ k (line s)))
    → ((r >>= λ s. f s >>= λ os. k (line s)) ≡ Err e)
    ⊎ (((r >>= λ s. f s >>= λ os. Ok (line s)) >>= h) ≡ (r >>= λ s. f s >>= λ os. k (line s)))
empty_by_setting (Ok s) f line h k e told = empty_after (f s) (line s) h k e (told s)
empty_by_setting (Err d) f line h k e told = inr refl

text_laid : (bounded : Bool) (face : Face) (a : Job) → is_bounded a.fit ≡ bounded
    → (text_placed face a ≡ Err (job fault.EmptyPicture)) ⊎ ((steps_outcome face a >>= laid_line face a) ≡ text_placed face a)
unfolding text_placed placed_by_steps placed_by_units steps_outcome
text_laid true face a is =
    let gs = text_glyphs face.cmap a.text in
    let line : Fitter → List (ℕ × ℕ) = λ s. made_line face.metrics a.ppem s gs in
    let plain : List (ℕ × ℕ) → Result Placement Refused =
    λ steps. as_job (laid_by_steps face.metrics a.ppem a.margin gs steps) in
    rw is (empty_by_setting (as_font (setting_in face a)) (λ s. outlines_tested s a.fit gs) line (laid_line face a) plain (job fault.EmptyPicture)
    (λ s. steps_laid face.metrics a.ppem a.margin gs (line s) (firsts face.metrics (step_by face.metrics a.ppem (advance_with s gs)) gs)))
text_laid false face a is =
    let gs = text_glyphs face.cmap a.text in
    let line = advance_line face a.ppem gs in
    let plain : List (ℕ × ℕ) → Result Placement Refused =
    λ steps. as_job (laid_by_steps face.metrics a.ppem a.margin gs steps) in
    rw is (empty_after (as_font (advances_tested face gs)) line (laid_line face a) plain (job fault.EmptyPicture)
    (steps_laid face.metrics a.ppem a.margin gs line (firsts face.metrics (advance_step face a.ppem) gs)))

empty_after_test : (t : Result (Unit {0}) Refused) (x y : Result Placement Refused) (e : Refused) → (y ≡ Err e) ⊎ (x ≡ y)
    → ((t >>= λ u. y) ≡ Err e) ⊎ ((t >>= λ u. x) ≡ (t >>= λ u. y))
empty_after_test (Ok u) x y e told = told
empty_after_test (Err d) x y e told = inr refl

pub line_or_empty : (face : Face) (a : Job)
    → (laid_out face a ≡ Err (job fault.EmptyPicture)) ⊎ (line_with_a_pixel face a ≡ laid_out face a)
unfolding line_with_a_pixel
line_or_empty face a =
    empty_after_test (as_job (tested a)) (steps_outcome face a >>= laid_line face a) (text_placed face a) (job fault.EmptyPicture)
    (text_laid (is_bounded a.fit) face a refl)
