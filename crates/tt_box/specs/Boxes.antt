-- No part of the standard: the picture of a label that fills a box, at the greatest size that its text fits (profile). No
-- word is broken, no ink lies outside of the box, and the rows stand in the middle.
use Rattle.std.specs.Prelude.{◌≡◌, refl, ℕ, zero, suc, ◌+◌, ◌-◌, ◌*◌, Bool, true, false, not, ◌&&◌, nat_lt, if◌then◌else◌, pos, negsuc, int_le, int_lt, List, [], ◌∷◌, length, map, Option, None, Some, Result, Ok, Err}
use Rattle.tt_core.specs.declared.fault.JobFault.TheVariants as fault
use Rattle.tt_core.specs.Outcomes.{◌>>=◌}
use Rattle.tt_face.specs.Faces.{Face}
use Rattle.tt_fit.specs.declared.programs.Fit.{Fit}
use Rattle.tt_fit.specs.Fitting.{Fitter}
use Rattle.tt_label.specs.Begun.{begun_outcome}
use Rattle.tt_label.specs.Gathered.{gathered, units_glyphs, units_in}
use Rattle.tt_label.specs.Label.{joint, label_ink, some_line_shows}
use Rattle.tt_label_rows.specs.declared.heights.RowHeights.{RowHeights}
use Rattle.tt_label_rows.specs.Heights.{row_heights}
use Rattle.tt_label_rows.specs.Pictures.{box_picture, first_rise, is_low, rows_placed}
use Rattle.tt_label_rows.specs.Rows.{breaks_word, text_rows}
use Rattle.tt_line.specs.declared.align.Align.{Align}
use Rattle.tt_line.specs.declared.align.Align.TheVariants as align
use Rattle.tt_line.specs.Labels.{widest}
use Rattle.tt_line.specs.Layout.{Placement}
use Rattle.tt_picture.specs.declared.ink_box.InkBox.{InkBox}
use Rattle.tt_picture.specs.Pictures.{Image, image}
use Rattle.tt_picture.specs.Shapes.{crossings_in}
use Rattle.tt_rows.specs.declared.unit.RowUnit.{RowUnit}
use Rattle.tt_strike.specs.Costs.{cost_of}
use Rattle.tt_strike.specs.Job.{Job, job_for, margin_tested, text_tested}
use Rattle.tt_strike.specs.Measures.{line_ink}
use Rattle.tt_strike.specs.Picture.{frame_of, line_shapes}
use Rattle.tt_strike.specs.Refusals.{Refused, as_job, job}
use Rattle.tt_strike.specs.Work.{lays_after_glyphs, line_fitter, work_left}

-- a box, in pixels, with a margin on each side
pub record BoxPlace : Type 0 where
  pub width : ℕ
  pub height : ℕ
  pub margin : ℕ
  pub align : Align

-- rows in the middle of a box
abbrev pub laid_in_box : RowHeights → BoxPlace → List (List (ℕ × ℕ)) → List Placement
laid_in_box h b rows =
    rows_placed (box_picture b.width b.height b.margin b.align) h.step (first_rise h (length rows - 1) b.height b.margin) rows

-- rows of a text in a box, if no word is broken, no row is wider than the room, and they are low enough
abbrev pub laid_if_fits : RowHeights → BoxPlace → List (List RowUnit) → Option (List Placement)
laid_if_fits h b lines =
    let room = b.width - 2 * b.margin in
    let rows = text_rows room lines in
    if breaks_word room lines then None
    else if nat_lt room (widest rows) then None
    else if is_low h (length rows - 1) b.height b.margin then Some (laid_in_box h b rows) else None

-- ink lies in a picture
abbrev pub is_inside : ℕ → ℕ → Option InkBox → Bool
is_inside width height None = true
is_inside width height (Some i) =
    (int_le (pos 0) i.left && int_le (pos 0) i.top) && (int_lt i.right (pos width) && int_lt i.bottom (pos height))

-- a text at a size: its picture, if it fits, and what the size takes of the budget
pub record Tried : Type 0 where
  pub shown : Option Image
  pub cost : ℕ

-- rows whose glyphs are made, in a box, if their ink lies in it
abbrev pub shown_in_box : BoxPlace → ℕ → (ℕ → Fitter) → Option InkBox → List Placement → Option Image
shown_in_box b margin maker ink lines =
    if is_inside b.width b.height ink then Some (image (frame_of (joint lines) margin) (some_line_shows maker margin lines)) else None

-- rows that fit by words, width and height
abbrev pub drawn_in_box : Face → Job → BoxPlace → Fitter → List Placement → Result Tried Refused
drawn_in_box face a b s lines =
    let gs = units_glyphs face a in
    line_shapes s a (gathered gs) >>= λ shapes.
    Ok (record {
      shown = shown_in_box b a.margin (line_fitter s gs) (label_ink (line_ink s (gathered gs)) a.margin lines) lines;
      cost = cost_of (work_left s gs) (crossings_in shapes);
    })

-- what the glyphs of a size take of the budget that are not drawn: copies, programs, points and deltas
abbrev pub begun_cost : Face → Job → Fitter → ℕ
begun_cost face a s = if lays_after_glyphs a.fit then cost_of (work_left s (units_glyphs face a)) 0 else 0

abbrev pub tried_rows : Face → Job → BoxPlace → Fitter → Option (List Placement) → Result Tried Refused
tried_rows face a b s None = Ok (record { shown = None; cost = begun_cost face a s })
tried_rows face a b s (Some lines) = drawn_in_box face a b s lines

-- a text at the size of a job, or the first refusal
unfoldable pub size_tried : Face → Job → BoxPlace → Result Tried Refused
size_tried face a b =
    begun_outcome face a >>= λ s. tried_rows face a b s (laid_if_fits (row_heights face.metrics a.ppem) b (units_in face a s))

-- a row of a size is too high for a box, so no glyph is made
abbrev pub is_too_high : Face → BoxPlace → ℕ → Bool
is_too_high face b ppem = not (is_low (row_heights face.metrics ppem) 0 b.height b.margin)

-- the work that remains before the first size is tried, and after one: none where the size took more
abbrev pub box_work : ℕ
box_work = 10000000

abbrev pub left_after : ℕ → ℕ → Option ℕ
left_after left cost = if nat_lt (left + 4000000) cost then None else Some (left + 4000000 - cost)

-- the work that remains, or the refusal
abbrev pub some_left : Option ℕ → Result ℕ Refused
some_left None = Err (job fault.WorkLarge)
some_left (Some left) = Ok left

-- a size that was tried or is too high: its picture, if the text fits, and the work that remains
pub record Stepped : Type 0 where
  pub shown : Option Image
  pub left : Option ℕ

unfoldable pub step_at : Face → Job → BoxPlace → Option ℕ → Result Stepped Refused
step_at face a b left =
    if is_too_high face b a.ppem then Ok (record { shown = None; left = left })
    else some_left left >>= λ work.
    size_tried face a b >>= λ t.
    Ok (record { shown = t.shown; left = left_after work t.cost })

-- the size of a picture, and the picture
pub record Boxed : Type 0 where
  pub ppem : ℕ
  pub shown : Image

abbrev pub boxed_or : ℕ → Option Image → Result (Option Boxed) Refused → Result (Option Boxed) Refused
boxed_or ppem (Some i) others = Ok (Some (record { ppem = ppem; shown = i }))
boxed_or ppem None others = others

-- the first of n sizes that fits, from the greatest down to a least one, with the work that remains
abbrev pub boxed_from : Face → (ℕ → Job) → BoxPlace → ℕ → ℕ → Option ℕ → Result (Option Boxed) Refused
boxed_from face a b least zero left = Ok None
boxed_from face a b least (suc n) left =
    step_at face (a (least + n)) b left >>= λ t.
    boxed_or (least + n) t.shown (boxed_from face a b least n t.left)

-- sizes are tried down to 5, or to the greatest where that is less
abbrev pub least_size : ℕ → ℕ
least_size greatest = if nat_lt greatest 5 then greatest else 5

-- a text in a box at the greatest size, or the first refusal; none where it fits at no size
unfoldable pub box_outcome : Face → Fit → ℕ → List ℕ → BoxPlace → Result (Option Boxed) Refused
box_outcome face how greatest text b =
    as_job (margin_tested b.margin) >>= λ u.
    as_job (text_tested text) >>= λ u.
    boxed_from face (λ ppem. job_for ppem how text b.margin) b (least_size greatest) (suc (greatest - least_size greatest)) (Some box_work)

-- worked values: a row of 3 columns at the right of a room of 7, and in the middle of 10 rows of pixels
its_place : BoxPlace
its_place = record { width = 9; height = 12; margin = 1; align = align.Right }

a_row_in_a_box : laid_in_box (record { rise = pos 4; depth = pos 1; step = 6 }) its_place (((5, 3) ∷ []) ∷ [])
    ≡ record { width = 9; height = 12; rise = pos 6; glyphs = (5, 4) ∷ [] } ∷ []
unfolding its_place
a_row_in_a_box = refl

its_box : InkBox
its_box = record { left = pos 0; top = pos 1; right = pos 8; bottom = pos 4 }

ink_in_pictures : map (λ width. is_inside width 5 (Some its_box)) (9 ∷ 8 ∷ []) ≡ true ∷ false ∷ []
unfolding its_box
ink_in_pictures = refl

ink_before_the_first_column : is_inside 9 5 (Some (record its_box { left = negsuc 0 })) ≡ false
unfolding its_box
ink_before_the_first_column = refl

ink_below_the_last_row : is_inside 9 4 (Some its_box) ≡ false
unfolding its_box
ink_below_the_last_row = refl

least_sizes : map least_size (300 ∷ 5 ∷ 4 ∷ 1 ∷ []) ≡ 5 ∷ 5 ∷ 4 ∷ 1 ∷ []
least_sizes = refl

-- a size may take what remains and 4,000,000 more; the next is then refused
work_after : map (left_after 10000000) (5000000 ∷ 14000000 ∷ 14000001 ∷ []) ≡ Some 9000000 ∷ Some 0 ∷ None ∷ []
work_after = refl
