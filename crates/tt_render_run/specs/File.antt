-- The file of the picture of a job.
use Rattle.std.specs.Prelude.{ℕ, List, Option, Result}
use Rattle.tt_face.specs.declared.rules.Opening.{Opening}
use Rattle.tt_face.specs.Instance.{Asked}
use Rattle.tt_render_streams.specs.File.{as_file}
use Rattle.tt_strike.specs.Job.{Job}
use Rattle.tt_strike.specs.Picture.{pictured}
use Rattle.tt_strike.specs.Refusals.{Refused}

-- the file of the picture of a job by a reading of a font file, at the requested instance
abbrev pub file_pictured : Opening → Option Asked → Job → List ℕ → Result (List ℕ) Refused
file_pictured r i a file = as_file (pictured r i a file)
