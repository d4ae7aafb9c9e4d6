-- No part of the standard: the products of a text, by a font at a size (profile).
use Rattle.std.specs.Prelude.{◌≡◌, ℕ, Bool, true, false, List, Result, Ok, IsOkAnd}
use Rattle.tt_core.specs.declared.collection.Reading.{Reading}
use Rattle.tt_core.specs.Outcomes.{◌>>=◌}
use Rattle.tt_scan_edges.specs.declared.edge.Frame.{Frame}
use Rattle.tt_strike.specs.picture.Pictures.{Image, Picture}
use Rattle.tt_strike.specs.Costs.{cost_by}
use Rattle.tt_strike.specs.Grown.{grown_measured, grown_outcome, grown_placement}
use Rattle.tt_strike.specs.Job.{Job}
use Rattle.tt_strike.specs.Measures.{Measure, measured}
use Rattle.tt_strike.specs.Picture.{frame_of, line_outcome, text_placed}
use Rattle.tt_strike.specs.Refusals.{Refused}
use Rattle.tt_strike.specs.Report.{report_by}
use Rattle.tt_strike.specs.Strikes.{Strike, job_of}
use Rattle.tt_face.specs.Faces.{Face}
use Rattle.tt_render_settings.specs.declared.setting.Product.{Product}
use Rattle.tt_render_settings.specs.declared.setting.Product.TheVariants as product
use Rattle.tt_render_settings.specs.declared.setting.Setting.{Setting}
use Rattle.tt_render_settings.specs.MeasureText.{measure_text}
use Rattle.tt_render_texts.specs.streams.File.{as_file}

-- the image of the picture of a job by a font's tables: as it is, or enlarged so that no ink is cut
unfoldable pub picture_by : Bool → Face → Job → Result Image Refused
picture_by false face j = line_outcome face j
picture_by true face j = grown_outcome face j

-- the frame of that picture
abbrev pub IsFramed : Bool → Face → Job → Frame → Type 0
IsFramed false face j f = IsOkAnd (text_placed face j) (λ l. f ≡ frame_of l j.margin)
IsFramed true face j f = IsOkAnd (grown_placement face j) (λ l. f ≡ frame_of l j.margin)

-- a picture of a job by a font's tables: its frame, its unfitted glyphs, and what it takes of the budget of many lines
abbrev pub IsMadeBy : Bool → Job → Picture → Face → Type 0
IsMadeBy grow j p face =
    IsFramed grow face j p.frame × (report_by face j ≡ Ok p.unfitted) × (cost_by face j ≡ Ok p.cost)

-- the measure of that picture
unfoldable pub measure_by : Bool → Face → Job → Result Measure Refused
measure_by false face j = measured face j
measure_by true face j = grown_measured face j

-- the output of a job by the tables of a face, and by the reading that gave the face
abbrev pub product_by : Product → Bool → Reading → Face → Job → Result (List ℕ) Refused
product_by product.Picture grow r face j = as_file (picture_by grow face j)
product_by product.Measure grow r face j =
    measure_by grow face j >>= λ m. Ok (measure_text r face.directory.file face j.text m)

-- the output of a text that is drawn by a strike
unfoldable pub product_of : Setting → Strike → List ℕ → Result (List ℕ) Refused
product_of a s text = product_by a.product a.grow a.opening.reading s.face (job_of s text a.margin)
