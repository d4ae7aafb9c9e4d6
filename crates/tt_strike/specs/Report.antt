-- No part of the standard: the unfitted glyphs of a text, whose points are only scaled, each with the fault of a
-- program (profile).
use Rattle.std.specs.Prelude.{ℕ, List, map, Option, Result, Ok}
use Rattle.tt_face.specs.declared.rules.Opening.{Opening}
use Rattle.tt_core.specs.Outcomes.{◌>>=◌}
use Rattle.tt_line.specs.Layout.{Placement}
use Rattle.tt_picture.specs.declared.report.Unfitted.{Unfitted}
use Rattle.tt_picture.specs.Distinct.{distinct}
use Rattle.tt_picture.specs.Unfitted.{unfitted_among}
use Rattle.tt_strike.specs.Job.{Job, by_face}
use Rattle.tt_strike.specs.Picture.{line_shapes, setting_in, text_placed}
use Rattle.tt_strike.specs.Refusals.{Refused, as_font}
use Rattle.tt_face.specs.Faces.{Face}
use Rattle.tt_face.specs.Instance.{Asked}
use Rattle.tt_strike.specs.Work.{line_fitter}

-- the unfitted glyphs of a drawn line, each once, in order of first appearance
unfoldable pub line_report : Face → Job → Placement → Result (List Unfitted) Refused
line_report face a line =
    as_font (setting_in face a) >>= λ s.
    line_shapes s a line >>= λ glyphs.
    Ok (unfitted_among (line_fitter s (map (λ g. g.0) line.glyphs)) (distinct (map (λ g. g.0) line.glyphs)))

-- the unfitted glyphs of a text by a font's tables, or the first refusal
unfoldable pub report_by : Face → Job → Result (List Unfitted) Refused
report_by face a = text_placed face a >>= λ line. line_report face a line

-- the unfitted glyphs of a text by a font file as it is opened, at the requested instance
unfoldable pub report_of : Opening → Option Asked → Job → List ℕ → Result (List Unfitted) Refused
report_of r i a file = by_face report_by r i a file
