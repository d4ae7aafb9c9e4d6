use Rattle.std.proofs.Common.{◌<◌, List, ℕ, length, take, ap}
use Rattle.std.proofs.lemmas.Result.{err_from_is_err_and}
use Rattle.std.specs.Io.KnownBytes.{Appends}
use Rattle.std.specs.Prelude.{option_map}
use Rattle.tt_face.specs.Views.{asked_view}
use Rattle.tt_strike.specs.Job.{job_view}
use Rattle.tt_strike.specs.Defects.{IsRunDefect}
use Rattle.tt_strike.specs.Picture.{pictured}
use Rattle.tt_strike.specs.Refusals.{refusal}
use Rattle.tt_render_run.specs.Run.{run_wanted}
use Rattle.tt_render_streams.specs.File.{as_file, picture_bytes}
use Rattle.tt_render_run.specs.File.{file_pictured}
use Rattle.tt_render_run.proofs.Answered.{reading_job, reading_large, reading_defects, drawing_fails, drawing_job, drawing_large, drawing_defects}
use Rattle.tt_render_run.proofs.Calls.{IsRead, run_is_of_font, run_refused, job_fails, reading_fails, with_bytes, tells_of_known}
use Rattle.tt_render_run.proofs.Files.{no_file}
use Rattle.tt_render_run.proofs.running.run.Goals as goal

pub returns-in_err-test_job-clause-outcome : goal.returns-in_err-test_job-clause-outcome
returns-in_err-test_job-clause-outcome g c =
    let a = job_view c.args.job.now in
    let p = err_from_is_err_and c.from_residual.result c.from_residual.ensures.1 in
    let refused = c.in_err-test_job in
    rw (p.1, p.2) (job_fails (run_wanted c.args.job.now.opening (option_map asked_view c.args.instance) a) refused.field-0.0 (g.R.Source.left c.args.font.now)
    (g.W.Sink.written c.args.out.now) (g.R.Source.has_failed c.args.font.now)
    (g.W.Sink.has_failed c.args.out.now) refused.ensures.exact
    (run_refused c.args.job.now.opening (option_map asked_view c.args.instance) a refused.field-0.0 refused.ensures.exact) refused.ensures.first c.requires.font c.requires.out)

pub returns-in_err-test_job-clause-job : goal.returns-in_err-test_job-clause-job
returns-in_err-test_job-clause-job g c =
    let p = err_from_is_err_and c.from_residual.result c.from_residual.ensures.1 in
    let refused = c.in_err-test_job in
    rw (p.1, p.2, refused.ensures.first) refused.ensures.refused

pub returns-in_err-file-clause-outcome : goal.returns-in_err-file-clause-outcome
returns-in_err-file-clause-outcome g c =
    let left = g.R.Source.left in
    let a = job_view c.args.job.now in
    let p = err_from_is_err_and c.from_residual-in_err-file.result c.from_residual-in_err-file.ensures.1 in
    rw (p.1, p.2) (reading_fails (run_wanted c.args.job.now.opening (option_map asked_view c.args.instance) a) (file_pictured c.args.job.now.opening (option_map asked_view c.args.instance) a) (run_is_of_font c.args.job.now.opening (option_map asked_view c.args.instance) a c.in_ok-test_job.ensures.exact)
    c.in_err-file.field-0.0 (left c.args.font.now) (left c.read_font.new.font) (g.W.Sink.written c.args.out.now)
    (g.R.Source.has_failed c.read_font.new.font) (g.W.Sink.has_failed c.args.out.now) c.in_err-file.ensures
    c.requires.out)

pub returns-in_err-file-clause-defects : goal.returns-in_err-file-clause-defects
returns-in_err-file-clause-defects g c =
    let left = g.R.Source.left in
    let p = err_from_is_err_and c.from_residual-in_err-file.result c.from_residual-in_err-file.ensures.1 in
    rw (p.1, p.2) (reading_defects _ c.in_err-file.field-0.0 (left c.args.font.now) (left c.read_font.new.font)
    (g.R.Source.has_failed c.read_font.new.font) (IsRunDefect c.args.job.now.opening (option_map asked_view c.args.instance) (job_view c.args.job.now)) c.in_err-file.ensures)

pub returns-in_err-file-clause-job : goal.returns-in_err-file-clause-job
returns-in_err-file-clause-job g c =
    let left = g.R.Source.left in
    let p = err_from_is_err_and c.from_residual-in_err-file.result c.from_residual-in_err-file.ensures.1 in
    rw (p.1, p.2) (reading_job c.in_err-file.field-0.0 (left c.args.font.now) (left c.read_font.new.font)
    (g.R.Source.has_failed c.read_font.new.font) _ c.in_err-file.ensures)

pub returns-in_err-file-clause-large : goal.returns-in_err-file-clause-large
returns-in_err-file-clause-large g c =
    let left = g.R.Source.left in
    let p = err_from_is_err_and c.from_residual-in_err-file.result c.from_residual-in_err-file.ensures.1 in
    rw (p.1, p.2) (reading_large c.in_err-file.field-0.0 (left c.args.font.now) (left c.read_font.new.font)
    (g.R.Source.has_failed c.read_font.new.font) c.in_err-file.ensures)

pub returns-in_err-picture-clause-outcome : goal.returns-in_err-picture-clause-outcome
returns-in_err-picture-clause-outcome g c =
    let left = g.R.Source.left in
    let a = job_view c.args.job.now in
    let file = c.in_ok-file in
    let p = err_from_is_err_and c.from_residual-in_err-picture.result c.from_residual-in_err-picture.ensures.1 in
    let fails = no_file (pictured c.args.job.now.opening (option_map asked_view c.args.instance) a file.file.items) (refusal c.in_err-picture.field-0.0)
    (rw c.deref.ensures.value at c.in_err-picture.ensures.exact) in
    let extent = rw c.deref.ensures.value at c.in_err-picture.ensures.job in
    let read : IsRead (left c.args.font.now) (left c.read_font.new.font) file.file.items
    (g.R.Source.has_failed c.read_font.new.font) (g.W.Sink.has_failed c.args.out.now) =
    record { taken = file.ensures.0; end = file.ensures.1; small = file.ensures.2; reader_serves = file.ensures.3; writer_serves = c.requires.out } in
    rw (p.1, p.2) (drawing_fails (run_wanted c.args.job.now.opening (option_map asked_view c.args.instance) a) (file_pictured c.args.job.now.opening (option_map asked_view c.args.instance) a) (run_is_of_font c.args.job.now.opening (option_map asked_view c.args.instance) a c.in_ok-test_job.ensures.exact)
    c.args.job.now.opening (option_map asked_view c.args.instance) a
    c.in_err-picture.field-0.0 (left c.args.font.now) (left c.read_font.new.font)
    (g.W.Sink.written c.args.out.now) file.file.items (g.R.Source.has_failed c.read_font.new.font)
    (g.W.Sink.has_failed c.args.out.now) read fails extent)

pub returns-in_err-picture-clause-defects : goal.returns-in_err-picture-clause-defects
returns-in_err-picture-clause-defects g c =
    let left = g.R.Source.left in
    let file = c.in_ok-file in
    let p = err_from_is_err_and c.from_residual-in_err-picture.result c.from_residual-in_err-picture.ensures.1 in
    let tells = rw c.deref.ensures.value at c.in_err-picture.ensures.defects in
    rw (p.1, p.2) (drawing_defects _ c.in_err-picture.field-0.0 (left c.args.font.now)
    (left c.read_font.new.font) file.file.items (IsRunDefect c.args.job.now.opening (option_map asked_view c.args.instance) (job_view c.args.job.now)) file.ensures.0 file.ensures.1
    tells)

pub returns-in_err-picture-clause-job : goal.returns-in_err-picture-clause-job
returns-in_err-picture-clause-job g c =
    let left = g.R.Source.left in
    let file = c.in_ok-file in
    let p = err_from_is_err_and c.from_residual-in_err-picture.result c.from_residual-in_err-picture.ensures.1 in
    let extent = rw c.deref.ensures.value at c.in_err-picture.ensures.job in
    rw (p.1, p.2) (drawing_job c.args.job.now.opening (option_map asked_view c.args.instance) (job_view c.args.job.now) c.in_err-picture.field-0.0 (left c.args.font.now)
    (left c.read_font.new.font) file.file.items file.ensures.0 file.ensures.1 extent)

pub returns-in_err-picture-clause-large : goal.returns-in_err-picture-clause-large
returns-in_err-picture-clause-large g c =
    let p = err_from_is_err_and c.from_residual-in_err-picture.result c.from_residual-in_err-picture.ensures.1 in
    rw (p.1, p.2) (drawing_large c.in_err-picture.field-0.0 _)

pub returns-in_err-write_picture-clause-outcome : goal.returns-in_err-write_picture-clause-outcome
returns-in_err-write_picture-clause-outcome g c =
    let left = g.R.Source.left in
    let written = g.W.Sink.written in
    let a = job_view c.args.job.now in
    let of_font = run_is_of_font c.args.job.now.opening (option_map asked_view c.args.instance) a c.in_ok-test_job.ensures.exact in
    let file = c.in_ok-file in
    let bytes = picture_bytes c.in_ok-picture.picture.picture in
    let cut = c.in_err-write_picture in
    let made = ap as_file (rw c.deref.ensures.value at c.in_ok-picture.ensures.exact) in
    let Q : List ℕ → Type 0 = λ bs. (cut.field-0.0.sent < length bs) × Appends (written c.args.out.now)
    (written c.write_picture.new.out) (take cut.field-0.0.sent bs) in
    let p = err_from_is_err_and c.from_residual-in_err-write_picture.result
    c.from_residual-in_err-write_picture.ensures.1 in
    rw (p.1, p.2)
    (of_font.tested, with_bytes (run_wanted c.args.job.now.opening (option_map asked_view c.args.instance) a) (file_pictured c.args.job.now.opening (option_map asked_view c.args.instance) a) of_font Q (left c.args.font.now) (left c.read_font.new.font) file.file.items bytes file.ensures.0 file.ensures.1 file.ensures.2 made (cut.ensures.writes.within, cut.ensures.writes.part), (file.ensures.1, file.ensures.3), cut.ensures.writes.failure)

pub returns-in_err-write_picture-clause-defects : goal.returns-in_err-write_picture-clause-defects
returns-in_err-write_picture-clause-defects g c =
    let left = g.R.Source.left in
    let file = c.in_ok-file in
    let p = err_from_is_err_and c.from_residual-in_err-write_picture.result
    c.from_residual-in_err-write_picture.ensures.1 in
    let tells = rw c.deref.ensures.value at c.in_ok-picture.ensures.defects in
    rw (p.1, p.2) (tells_of_known (IsRunDefect c.args.job.now.opening (option_map asked_view c.args.instance) (job_view c.args.job.now)) (left c.args.font.now)
    (left c.read_font.new.font) file.file.items _ file.ensures.0 file.ensures.1 tells)

pub returns-clause-outcome : goal.returns-clause-outcome
returns-clause-outcome g c =
    let left = g.R.Source.left in
    let written = g.W.Sink.written in
    let a = job_view c.args.job.now in
    let of_font = run_is_of_font c.args.job.now.opening (option_map asked_view c.args.instance) a c.in_ok-test_job.ensures.exact in
    let file = c.in_ok-file in
    let bytes = picture_bytes c.in_ok-picture.picture.picture in
    let made = ap as_file (rw c.deref.ensures.value at c.in_ok-picture.ensures.exact) in
    let Q : List ℕ → Type 0 = Appends (written c.args.out.now) (written c.write_picture.new.out) in
    (of_font.tested, with_bytes (run_wanted c.args.job.now.opening (option_map asked_view c.args.instance) a) (file_pictured c.args.job.now.opening (option_map asked_view c.args.instance) a) of_font Q (left c.args.font.now) (left c.read_font.new.font) file.file.items bytes file.ensures.0 file.ensures.1 file.ensures.2 made c.in_ok-write_picture.ensures.writes.all, (file.ensures.1, file.ensures.3), c.in_ok-write_picture.ensures.writes.failure)

pub returns-clause-defects : goal.returns-clause-defects
returns-clause-defects g c =
    let left = g.R.Source.left in
    let file = c.in_ok-file in
    let tells = rw c.deref.ensures.value at c.in_ok-picture.ensures.defects in
    tells_of_known (IsRunDefect c.args.job.now.opening (option_map asked_view c.args.instance) (job_view c.args.job.now)) (left c.args.font.now)
    (left c.read_font.new.font) file.file.items _ file.ensures.0 file.ensures.1 tells
