-- Apple TrueType Reference Manual, "Instructing TrueType Glyphs": the state after the font program and the control
-- value program, before the first glyph. Without programs they are ignored. The control value program sees only the
-- definitions of the font program. This, and which of its own results the glyphs see, is this project's choice
-- (profile).
use Rattle.std.specs.Prelude.{ℕ, if◌then◌else◌, List, codes, Option, Some, None, Result, Ok, Err}
use Rattle.tt_core.specs.Faults.{Fault}
use Rattle.tt_core.specs.Outcomes.{◌>>=◌}
use Rattle.tt_fit_hinting.specs.step.MachineState.{Code}
use Rattle.tt_fit_hinting.specs.machine.Parts.{Parts}
use Rattle.tt_fit_hinting.specs.machine.Work.{Worked, enough, spent, then_work}
use Rattle.tt_face.specs.Faces.{FaceInstance}
use Rattle.tt_face.specs.Programs.{ProgramTables}
use Rattle.tt_glyf.specs.Loca.{Glyf}
use Rattle.tt_metrics.specs.Metrics.{Metrics, units_per_em_of}
use Rattle.tt_fit.specs.ControlValues.{places_of, varied_parts}
use Rattle.tt_fit.specs.DeltaCounting.{control_deltas_of}
use Rattle.tt_fit.specs.declared.programs.Fit.{Fit}
use Rattle.tt_fit.specs.declared.programs.Fit.TheVariants as fit
use Rattle.tt_fit.specs.declared.dropouts.DropoutsBy.TheVariants as by
use Rattle.tt_fit.specs.Fallback.{Fallback, never, where_refused, everywhere}
use Rattle.tt_fit.specs.Fitting.{Fitter}
use Rattle.tt_fit_hinting.specs.Hinting.{Hinting, off, ready, run_of}
use Rattle.tt_fit_hinting.specs.Parts.{begun_parts, left_to_glyphs}
use Rattle.tt_fit_outline.specs.Size.{size_by}
use Rattle.tt_fit.specs.Rules.{rules_of, grid_of, runs_programs, levels_of, work_of, cvt_read, instance_read, dropouts_by}
use Rattle.tt_fit_hinting.specs.Work.{if_ok, code_work}

abbrev pub font_program : List ℕ → Code
font_program fpgm = record { table = codes "fpgm"; base = 0; bytes = fpgm }

abbrev pub control_value_program : List ℕ → Code
control_value_program prep = record { table = codes "prep"; base = 0; bytes = prep }

-- the parts at the start of the control value program: only the definitions come from the font program
abbrev pub with_definitions : Parts → Parts → Parts
with_definitions parts font = record parts { functions = font.functions; instructions = font.instructions }

-- what the control value program gives to the glyphs: nothing where it switched glyph programs off
abbrev pub hinting_left : Parts → Hinting
hinting_left left = if left.skip_glyphs then off else ready (left_to_glyphs left)

-- the state after the two programs at a size, or their first fault
unfoldable pub left_by_programs : Parts → ProgramTables → Result Hinting Fault
left_by_programs parts programs = run_of (font_program programs.fpgm) parts >>= λ font.
    run_of (control_value_program programs.prep) (with_definitions parts font) >>= λ left. Ok
    (hinting_left left)

-- the work of the two programs
unfoldable pub programs_work : Parts → ProgramTables → Option ℕ → Worked
programs_work parts programs left = then_work (code_work (font_program programs.fpgm) parts left)
    (if_ok (run_of (font_program programs.fpgm) parts)
    (λ font. code_work (control_value_program programs.prep) (with_definitions parts font)))

-- the state for glyph programs, which glyphs are unfitted, and the job's remaining work
pub record Preparation : Type 0 where
  pub hinting : Hinting
  pub fallback : Fallback
  pub work : Option ℕ

-- no glyph is unfitted: the first fault is the answer
abbrev pub without_fallback : Hinting → Preparation
without_fallback hinting = record { hinting = hinting; fallback = never; work = None }

-- a fault of one of the two programs makes every glyph unfitted
abbrev pub with_fallback : Result Hinting Fault → Preparation
with_fallback (Ok hinting) = record { hinting = hinting; fallback = where_refused; work = None }
with_fallback (Err fault) = record { hinting = off; fallback = everywhere fault; work = None }

-- where work is bounded, exceeding it makes every glyph unfitted too
abbrev pub within_work : Worked → Result Hinting Fault → Preparation
within_work (enough left) by_programs = record (with_fallback by_programs) { work = left }
within_work (spent fault) by_programs = record { hinting = off; fallback = everywhere fault; work = Some 0 }

abbrev pub prepared_by : Fit → Worked → Result Hinting Fault → Result Preparation Fault
prepared_by fit.None worked by_programs = Ok (without_fallback off)
prepared_by fit.Full worked by_programs = by_programs >>= λ hinting. Ok (without_fallback hinting)
prepared_by fit.Fallback worked by_programs = Ok (with_fallback by_programs)
prepared_by fit.Best worked by_programs = Ok (within_work worked by_programs)

-- the parts by the font's default, at an instance's places that programs can read
abbrev pub default_parts : Metrics → List ℕ → Option FaceInstance → ℕ → Fit → Parts
default_parts m cvt instance ppem fit = begun_parts m cvt ppem (rules_of fit) (instance_read fit (places_of instance))

-- the parts at the start of the two programs at an instance and a size, by the rules of a fit
abbrev pub begun_at : Metrics → ProgramTables → Option FaceInstance → ℕ → Fit → Parts
begun_at m programs instance ppem fit =
    varied_parts instance fit (size_by (rules_of fit).scaling ppem (units_per_em_of m)).control_values
    (cvt_read fit programs.cvt) (default_parts m (cvt_read fit programs.cvt) instance ppem fit)

-- the state after the two programs, where they are run
abbrev pub left_at : Metrics → ProgramTables → Option FaceInstance → ℕ → Fit → Result Hinting Fault
left_at m programs instance ppem fit = if runs_programs fit programs.fpgm programs.prep then
    left_by_programs (begun_at m programs instance ppem fit) programs else Ok off

-- the work of the two programs from this work on, where they are run
abbrev pub work_from : Metrics → ProgramTables → Option FaceInstance → ℕ → Fit → Option ℕ → Worked
work_from m programs instance ppem fit left = if runs_programs fit programs.fpgm programs.prep then
    programs_work (begun_at m programs instance ppem fit) programs left else enough left

abbrev pub work_at : Metrics → ProgramTables → Option FaceInstance → ℕ → Fit → Worked
work_at m programs instance ppem fit = work_from m programs instance ppem fit (work_of fit)

unfoldable pub prepared : Metrics → ProgramTables → Option FaceInstance → ℕ → Fit → Result Preparation Fault
prepared m programs instance ppem fit =
    prepared_by fit (work_at m programs instance ppem fit) (left_at m programs instance ppem fit)

-- the fitter, by the state after the two programs, where no dropouts are filled, and control values ask for no deltas
abbrev pub fitter_with : Metrics → Glyf → Option FaceInstance → ℕ → Fit → Hinting → Fallback → Option ℕ → Fitter
fitter_with m tables instance ppem fit hinting fallback work = record {
  tables = tables;
  metrics = m;
  instance = instance;
  ppem = ppem;
  scaling = (rules_of fit).scaling;
  grid = grid_of fit;
  hinting = hinting;
  fallback = fallback;
  levels = levels_of fit;
  work = work;
  control_deltas = 0;
  dropouts = by.Nobody;
}

-- the fitter of a font at an instance and a size
unfoldable pub fitter_of : Metrics → Glyf → ProgramTables → Option FaceInstance → ℕ → Fit → Result Fitter Fault
fitter_of m tables programs instance ppem fit = do
  p ← prepared m programs instance ppem fit
  Ok (record (fitter_with m tables instance ppem fit p.hinting p.fallback p.work) {
    control_deltas = control_deltas_of instance fit programs.cvt;
    dropouts = dropouts_by fit;
  })
