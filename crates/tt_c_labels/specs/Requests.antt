-- No part of the standard: the request of a label by C, and its tests before the font is read (profile).
use Rattle.std.specs.Prelude.{◌≡◌, refl, ℕ, ◌+◌, ◌-◌, ◌*◌, ◌≤◌, ◌==◌, nat_le, nat_lt, if◌then◌else◌, Bool, not, ◌&&◌, ◌||◌, List, [], ◌∷◌, map, replicate, Option, Result, Ok, Err, ⊤}
use Rattle.tt_core.specs.declared.collection.Reading.TheVariants as reading
use Rattle.tt_core.specs.Limits.{height_limit, width_limit}
use Rattle.tt_core.specs.Outcomes.{◌>>=◌}
use Rattle.tt_face.specs.declared.rules.Opening.{Opening}
use Rattle.tt_face.specs.Instance.{Asked}
use Rattle.tt_line.specs.declared.align.Align.{Align}
use Rattle.tt_line.specs.declared.align.Align.TheVariants as align
use Rattle.tt_render_settings.specs.Settings.{plain_setting, setting_tested}
use Rattle.tt_strike.specs.Job.{Job, job_for, job_view, tested}
use Rattle.tt_strike.specs.Refusals.{as_job}
use Rattle.tt_c_calls.specs.Asked.{fit_asked, heights_asked, text_asked}
use Rattle.tt_c_calls.specs.Variations.{axes_tested, instance_asked, no_axis}
use Rattle.tt_c_calls.specs.Refusals.{Refusal, as_call, axes_many, box_range, unknown_align, width_range}
use Rattle.tt_c_labels.specs.declared.request.AskedLabel.{AskedLabel}
use Rattle.tt_c_labels.specs.declared.request.CLabelJob.{CLabelJob}
use Rattle.tt_c_labels.specs.declared.request.LabelSpace.{LabelSpace}
use Rattle.tt_c_labels.specs.declared.request.LabelSpace.TheVariants as space

-- the alignment of a number
unfoldable pub align_asked : ℕ → Result Align Refusal
align_asked n =
    if n == 0 then Ok align.Left
    else if n == 1 then Ok align.Centre
    else if n == 2 then Ok align.Right
    else Err unknown_align

-- how the face of a label is opened: a number n + 1 is that of face n, and 0 that of face 0 too
abbrev pub label_opening : CLabelJob → Opening
label_opening j = record {
  reading = reading.Wide (j.face - 1);
  rules = record { heights = heights_asked j.rounded; kerned = not (j.kern == 0) };
}

-- the instance that the face of a label is opened at
abbrev pub label_instance : CLabelJob → Option Asked
label_instance j = instance_asked j.instance j.axes j.axis

-- a length of at most a limit has a pixel between two margins
abbrev pub leaves_room : ℕ → ℕ → ℕ → Bool
leaves_room limit margin n = nat_lt (2 * margin) n && nat_le n limit

-- whether the picture is to fill a box
abbrev pub is_boxed : CLabelJob → Bool
is_boxed j = not (j.box_width == 0) || not (j.box_height == 0)

-- the box that a label is to fill. No width stands beside a box
unfoldable pub box_asked : CLabelJob → Result LabelSpace Refusal
box_asked j =
    if not (j.width == 0) then Err box_range
    else if leaves_room width_limit j.margin j.box_width && leaves_room height_limit j.margin j.box_height
    then Ok (space.Box j.box_width j.box_height)
    else Err box_range

-- the picture that a label is to have
unfoldable pub space_asked : CLabelJob → Result LabelSpace Refusal
space_asked j =
    if is_boxed j then box_asked j
    else if j.width == 0 then Ok space.Lines
    else if leaves_room width_limit j.margin j.width then Ok (space.Width j.width)
    else Err width_range

-- a width has a column between two margins, and a box also a row
abbrev pub LeavesRoom : ℕ → LabelSpace → Type 0
LeavesRoom margin space.Lines = ⊤
LeavesRoom margin (space.Width n) = (2 * margin + 1 ≤ n) × (n ≤ width_limit)
LeavesRoom margin (space.Box n m) =
    (2 * margin + 1 ≤ n) × (n ≤ width_limit) × (2 * margin + 1 ≤ m) × (m ≤ height_limit)

-- a requested label: the job of its text, where shorter lines stand, and its picture
pub record LabelAsked : Type 0 where
  pub job : Job
  pub align : Align
  pub space : LabelSpace

abbrev pub asked_view : AskedLabel → LabelAsked
asked_view a = record { job = job_view a.job; align = a.align; space = a.space }

-- the label that a job requests, or the first refusal. The size and the margin are tested before the picture, the text
-- behind it
unfoldable pub label_asked : CLabelJob → List ℕ → Result LabelAsked Refusal
label_asked j text =
    fit_asked j.fit >>= λ how.
    axes_tested j.axes >>= λ u.
    align_asked j.align >>= λ side.
    text_asked text >>= λ t.
    as_call (as_job (setting_tested (plain_setting j.size j.margin how (label_opening j)))) >>= λ u.
    space_asked j >>= λ s.
    as_call (as_job (tested (job_for j.size how t j.margin))) >>= λ u.
    Ok (record { job = job_for j.size how t j.margin; align = side; space = s })

-- worked values: a plain job, of a margin of two pixels
plain : CLabelJob
plain = record {
  size = 16;
  margin = 2;
  fit = 3;
  face = 0;
  kern = 0;
  rounded = 0;
  align = 0;
  width = 0;
  box_width = 0;
  box_height = 0;
  instance = 0;
  axes = 0;
  axis = replicate 16 no_axis;
}

the_sides : map align_asked (0 ∷ 1 ∷ 2 ∷ 3 ∷ [])
    ≡ Ok align.Left ∷ Ok align.Centre ∷ Ok align.Right ∷ Err unknown_align ∷ []
unfolding align_asked
the_sides = refl

as_its_lines : space_asked plain ≡ Ok space.Lines
unfolding space_asked plain
as_its_lines = refl

widths : map (λ n. space_asked (record plain { width = n })) (4 ∷ 5 ∷ 16384 ∷ 16385 ∷ [])
    ≡ Err width_range ∷ Ok (space.Width 5) ∷ Ok (space.Width 16384) ∷ Err width_range ∷ []
unfolding space_asked plain
widths = refl

boxes : map (λ n. space_asked (record plain { box_width = n; box_height = 4096 })) (0 ∷ 4 ∷ 5 ∷ 16384 ∷ 16385 ∷ [])
    ≡ Err box_range ∷ Err box_range ∷ Ok (space.Box 5 4096) ∷ Ok (space.Box 16384 4096) ∷ Err box_range ∷ []
unfolding space_asked box_asked plain
boxes = refl

box_rows : map (λ n. space_asked (record plain { box_width = 9; box_height = n })) (0 ∷ 4 ∷ 5 ∷ 4097 ∷ [])
    ≡ Err box_range ∷ Err box_range ∷ Ok (space.Box 9 5) ∷ Err box_range ∷ []
unfolding space_asked box_asked plain
box_rows = refl

a_box_beside_a_width : space_asked (record plain { width = 9; box_width = 9; box_height = 9 }) ≡ Err box_range
unfolding space_asked box_asked plain
a_box_beside_a_width = refl

faces : map (λ n. (label_opening (record plain { face = n })).reading) (0 ∷ 1 ∷ 2 ∷ [])
    ≡ reading.Wide 0 ∷ reading.Wide 0 ∷ reading.Wide 1 ∷ []
unfolding plain
faces = refl

align_before_text : label_asked (record plain { align = 3 }) (255 ∷ []) ≡ Err unknown_align
unfolding label_asked plain fit_asked axes_tested align_asked
align_before_text = refl

values_before_align : label_asked (record plain { align = 3; axes = 17 }) (255 ∷ []) ≡ Err axes_many
unfolding label_asked plain fit_asked axes_tested
values_before_align = refl
