-- The law of labels: a label in C has the picture that the command `label` writes (profile).
use Rattle.std.specs.Prelude.{◌≡◌, Option, None, Some, Result, Ok, Err}
use Rattle.tt_core.specs.Outcomes.{◌>>=◌}
use Rattle.tt_face.specs.Faces.{Face}
use Rattle.tt_label.specs.Widths.{CutImage}
use Rattle.tt_line.specs.declared.align.Align.{Align}
use Rattle.tt_render.specs.LabelSpaces.{image_in}
use Rattle.tt_render_settings.specs.declared.space.Space.{Space}
use Rattle.tt_render_settings.specs.declared.space.Space.TheVariants as command
use Rattle.tt_render_settings.specs.Texts.{TextRefusal, as_misfit, as_text}
use Rattle.tt_render_texts.specs.declared.space_fault.SpaceFault.{SpaceFault}
use Rattle.tt_render_texts.specs.declared.space_fault.SpaceFault.TheVariants as fault
use Rattle.tt_strike.specs.Job.{Job}
use Rattle.tt_strike.specs.Refusals.{Refused}
use Rattle.tt_c_labels.specs.declared.request.LabelSpace.{LabelSpace}
use Rattle.tt_c_labels.specs.declared.request.LabelSpace.TheVariants as space
use Rattle.tt_c_labels.specs.Labels.{LabelImage, label_drawn}

-- the same space, as the command has it
abbrev pub command_space : LabelSpace → Space
command_space space.Lines = command.Free
command_space (space.Width n) = command.Width n
command_space (space.Box n m) = command.Box (record { width = n; height = m })

-- the same picture, or the same refusal
abbrev pub command_image : Option LabelImage → Result CutImage SpaceFault
command_image None = Err fault.BoxSmall
command_image (Some i) = Ok (record { shown = i.shown; left = i.left; right = i.right })

abbrev pub as_command : Result (Option LabelImage) Refused → Result CutImage TextRefusal
as_command r = as_text r >>= λ i. as_misfit (command_image i)

abbrev pub LabelsAreTheCommands : Type 0
LabelsAreTheCommands = (how : Align) (s : LabelSpace) (face : Face) (a : Job)
    → as_command (label_drawn how s face a) ≡ image_in (command_space s) face a how
