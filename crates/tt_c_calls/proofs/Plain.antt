-- A picture without `grow` is the one that `run` writes.
use Rattle.std.proofs.Common.{◌≡◌, Bool, true, false, List, ℕ, Option, Result, Ok, Err, ap, refl, nat_lt, length}
use Rattle.std.specs.Prelude.{if◌then◌else◌}
use Rattle.tt_face.specs.declared.rules.Opening.{Opening}
use Rattle.tt_core.specs.declared.fault.JobFault.{JobFault}
use Rattle.tt_core.specs.Faults.{Fault}
use Rattle.tt_core.specs.Limits.{font_limit}
use Rattle.tt_core.specs.Outcomes.{◌>>=◌}
use Rattle.tt_picture.specs.Pictures.{Image}
use Rattle.tt_render_streams.specs.File.{as_file}
use Rattle.tt_render_run.specs.Run.{run_outcome}
use Rattle.tt_strike.specs.Job.{Job, tested}
use Rattle.tt_strike.specs.Picture.{line_outcome, pictured, pictured_by}
use Rattle.tt_strike.specs.Refusals.{Refused, as_font, large}
use Rattle.tt_face.specs.Faces.{Face}
use Rattle.tt_face.specs.Instance.{Asked, face_at_instance}
use Rattle.tt_c_calls.specs.Asked.{job_instance, job_opening}
use Rattle.tt_c_calls.specs.Laws.{PlainIsRun}
use Rattle.tt_c_calls.specs.Pictures.{made_for, made_of, picture_wanted}
use Rattle.tt_c_calls.specs.Refusals.{as_call}
use Rattle.tt_render_settings.specs.Products.{picture_by}

-- the tests of a line do not refuse the line of a tested job
line_drawn : (face : Face) (a : Job) → tested a ≡ Ok tt → line_outcome face a ≡ pictured_by face a
unfolding line_outcome
line_drawn face a passes = rw passes refl

by_size : (is_large : Bool) (face : Result Face Fault) (a : Job) → tested a ≡ Ok tt
    → as_file (if is_large then Err large else (as_font face >>= λ face. line_outcome face a))
    ≡ (if is_large then Err large else as_file (as_font face >>= λ face. pictured_by face a))
by_size true face a passes = refl
by_size false (Ok face) a passes = ap as_file (line_drawn face a passes)
by_size false (Err f) a passes = refl

by_test : (test : Result (Unit {0}) JobFault) (r : Opening) (i : Option Asked) (a : Job) (font : List ℕ) → tested a ≡ test
    → as_file (made_of (λ face. line_outcome face a) r i a font) ≡ run_outcome r i a font
unfolding run_outcome pictured
by_test (Ok u) r i a font is = rw is (by_size (nat_lt font_limit (length font)) (face_at_instance font r i) a is)
by_test (Err j) r i a font is = rw is refl

file_called : (made : Result Image Refused) → as_file (as_call made) ≡ as_call (as_file made)
file_called (Ok i) = refl
file_called (Err why) = refl

pub plain_is_run : PlainIsRun
unfolding picture_wanted picture_by
plain_is_run j text font a plain is =
    rw (is, plain, ← by_test (tested a) (job_opening j a.fit) (job_instance j) a font refl)
    (file_called (made_for (λ face. line_outcome face a) j a font))
