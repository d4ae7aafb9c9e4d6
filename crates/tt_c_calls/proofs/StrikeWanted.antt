-- The strike of a job is that of the font's tables.
use Rattle.std.proofs.Common.{◌≡◌, ◌≤◌, List, ℕ, Bool, true, false, None, Result, Ok, Err, IfSome, length, nat_lt, if◌then◌else◌, ap, arith, refl}
use Rattle.std.proofs.lemmas.Bool.Decides.{nat_tests}
use Rattle.tt_core.specs.declared.fault.JobFault.{JobFault}
use Rattle.tt_core.specs.Faults.{Fault}
use Rattle.tt_core.specs.Limits.{font_limit}
use Rattle.tt_face.specs.Faces.{Face}
use Rattle.tt_face.specs.Instance.{face_at_instance}
use Rattle.tt_fit.specs.declared.programs.Fit.{Fit}
use Rattle.tt_line.specs.declared.measured.LineSize.{LineSize}
use Rattle.tt_line.specs.Sizes.{line_size}
use Rattle.tt_metrics.specs.Metrics.{units_per_em_of}
use Rattle.tt_strike.specs.Refusals.{as_font, job, large}
use Rattle.tt_c_calls.specs.declared.asked.CJob.{CJob}
use Rattle.tt_c_calls.specs.declared.fault.CallFault.{CallFault}
use Rattle.tt_c_calls.specs.declared.strikes.CUnderline.{CUnderline}
use Rattle.tt_c_calls.specs.Asked.{job_instance, job_opening, job_reading}
use Rattle.tt_c_calls.specs.Fonts.{job_opened, opened_wanted}
use Rattle.tt_c_calls.specs.Lines.{lines_wanted}
use Rattle.tt_c_calls.specs.Refusals.{as_call, call_refusal, refused}
use Rattle.tt_c_calls.specs.Strikes.{strike_told, strike_wanted, underline_by, underline_in}
use Rattle.tt_c_calls.proofs.Answered.{first_stops}
use Rattle.tt_c_calls.proofs.AskedTables.{job_face_opened}
use Rattle.tt_c_calls.proofs.OpenedAt.{directory_opened}

-- the underline by a job's reading is the underline in its face's directory
pub underline_is : (j : CJob) (font : List ℕ) (how : Fit) (face : Face) (ppem em : ℕ)
    → job_opened j how font ≡ Ok face
    → underline_by font (job_reading j how) ppem em ≡ underline_in face.directory ppem em
underline_is j font how face ppem em read =
    rw (directory_opened font (job_opening j how) (job_instance j) face (job_face_opened j how font face read)) refl

-- a font that is opened is not too large

small_by : (is_large : Bool) (read : Result Face Fault) (face : Face)
    → as_call (if is_large then Err large else as_font read) ≡ Ok face → is_large ≡ false
small_by true read face is = absurd cc
small_by false read face is = refl

pub opened_small : (j : CJob) (how : Fit) (font : List ℕ) (face : Face) → job_opened j how font ≡ Ok face
    → length font ≤ font_limit
unfolding opened_wanted
opened_small j how font face read =
    let small =
    small_by (nat_lt font_limit (length font)) (face_at_instance font (job_opening j how) (job_instance j)) face read in
    grind (arith, nat_tests, small)

-- a refused way to fit, size, margin or font refuses the strike, and so does the height of a line

pub strike_stops : (j : CJob) (font : List ℕ) (e : CallFault) → IfSome (call_refusal e) (λ why. lines_wanted j font ≡ Err why)
    → IfSome (call_refusal e) (λ why. strike_wanted j font ≡ Err why)
unfolding strike_wanted
strike_stops j font e is = first_stops (lines_wanted j font) _ e is

pub height_stops : (j : CJob) (font : List ℕ) (face : Face) (why : JobFault) → lines_wanted j font ≡ Ok face
    → line_size face.metrics j.size j.margin 1 ≡ Err why → strike_wanted j font ≡ Err (refused (job why))
unfolding strike_wanted
height_stops j font face why read fails = rw (read, fails) refl

pub strike_is : (j : CJob) (font : List ℕ) (face : Face) (z : LineSize) (u : CUnderline) → lines_wanted j font ≡ Ok face
    → line_size face.metrics j.size j.margin 1 ≡ Ok z
    → u ≡ underline_in face.directory j.size (units_per_em_of face.metrics)
    → strike_wanted j font ≡ Ok (strike_told z u)
unfolding strike_wanted
strike_is j font face z u read sized is = rw (read, sized, is) refl
