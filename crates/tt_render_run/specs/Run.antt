-- No part of the standard: the bytes of `run` for a reading, an instance, a job and a font file.
use Rattle.std.specs.Prelude.{ℕ, List, Option, Result}
use Rattle.tt_face.specs.declared.rules.Opening.{Opening}
use Rattle.tt_face.specs.Instance.{Asked}
use Rattle.tt_strike.specs.Job.{Job, tested}
use Rattle.tt_strike.specs.Refusals.{Refused}
use Rattle.tt_render_run.specs.File.{file_pictured}
use Rattle.tt_render_run.specs.Outcome.{Wanted, outcome_of}

-- the bytes for a job by a reading of a font file, at the requested instance, or the refusal: the job is tested first,
-- then the file's size
unfoldable pub run_outcome : Opening → Option Asked → Job → List ℕ → Result (List ℕ) Refused
run_outcome r i a file = outcome_of (tested a) (file_pictured r i a) file

abbrev pub run_wanted : Opening → Option Asked → Job → Wanted
run_wanted r i a = record { tested = tested a; bytes = run_outcome r i a }
