-- A label in C has the picture of the command.
use Rattle.std.proofs.Common.{◌≡◌, ℕ, Option, None, Some, Result, Ok, Err, refl}
use Rattle.tt_box.specs.Boxes.{Boxed, box_outcome}
use Rattle.tt_core.specs.Outcomes.{◌>>=◌}
use Rattle.tt_label.specs.Label.{label_outcome}
use Rattle.tt_label.specs.Widths.{CutImage, width_outcome}
use Rattle.tt_picture.specs.Pictures.{Image}
use Rattle.tt_render.specs.LabelSpaces.{fitting_image, whole_image}
use Rattle.tt_render_settings.specs.Texts.{as_misfit, as_text}
use Rattle.tt_strike.specs.Refusals.{Refused}
use Rattle.tt_c_labels.specs.declared.request.LabelSpace.TheVariants as space
use Rattle.tt_c_labels.specs.LabelLaws.{LabelsAreTheCommands, as_command}
use Rattle.tt_c_labels.specs.Labels.{box_place, label_drawn, of_box, of_lines, of_width}

lines_too : (size : ℕ) (r : Result Image Refused)
    → as_command (r >>= λ i. Ok (Some (of_lines size i))) ≡ as_text (r >>= λ i. Ok (whole_image i))
lines_too size (Ok i) = refl
lines_too size (Err why) = refl

width_too : (size : ℕ) (r : Result CutImage Refused) → as_command (r >>= λ c. Ok (Some (of_width size c))) ≡ as_text r
width_too size (Ok c) = refl
width_too size (Err why) = refl

box_too : (r : Result (Option Boxed) Refused)
    → as_command (r >>= λ b. Ok (of_box b)) ≡ (as_text r >>= λ b. as_misfit (fitting_image b))
box_too (Ok None) = refl
box_too (Ok (Some b)) = refl
box_too (Err why) = refl

pub labels_are_the_commands : LabelsAreTheCommands
unfolding label_drawn
labels_are_the_commands how space.Lines face a = lines_too a.ppem (label_outcome face a how)
labels_are_the_commands how (space.Width n) face a = width_too a.ppem (width_outcome face a how n)
labels_are_the_commands how (space.Box n m) face a =
    box_too (box_outcome face a.fit a.ppem a.text (box_place how a.margin n m))
