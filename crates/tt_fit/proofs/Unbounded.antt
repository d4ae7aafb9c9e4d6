-- Unbounded work is always enough.
use Rattle.std.proofs.Common.{◌≡◌, ℕ, zero, suc, Bool, true, false, if◌then◌else◌, List, [], ◌∷◌, Option, None, Result, Ok, Err, ◌⊎◌, inl, inr, ap, refl}
use Rattle.tt_core.specs.Faults.{Fault}
use Rattle.tt_fit_hinting.proofs.machine.WorkPaid.{unbounded}
use Rattle.tt_fit_hinting.specs.machine.Machines.{fresh, run_from}
use Rattle.tt_fit_hinting.specs.step.MachineState.{Code}
use Rattle.tt_fit_hinting.specs.machine.Parts.{Parts}
use Rattle.tt_fit_hinting.specs.machine.Work.{Worked, enough, then_work}
use Rattle.tt_glyf.specs.declared.raw.Record.{Record}
use Rattle.tt_glyf.specs.GlyphData.{glyph_data_of}
use Rattle.tt_glyf.specs.Raw.{Raw}
use Rattle.tt_metrics.specs.Metrics.{Metrics}
use Rattle.tt_fit.specs.declared.programs.Fit.{Fit}
use Rattle.tt_fit.specs.declared.programs.Fit.TheVariants as fit
use Rattle.tt_fit_hinting.specs.declared.outline_fault.OutlineFault.{OutlineFault}
use Rattle.tt_fit_hinting.specs.declared.outline_fault.OutlineFault.TheVariants as outline
use Rattle.tt_fit.specs.Fitting.{Begun, Fitter, begun_glyph, joined, added, finished_work, made_work, work_by, added_work, outline_work}
use Rattle.tt_fit_hinting.specs.GlyphZone.{GlyphProgram, program_in_glyf, on_grid_at}
use Rattle.tt_fit_hinting.specs.Hinting.{Hinting, off, ready, is_run, run_of}
use Rattle.tt_fit_outline.specs.Outline.{Outline}
use Rattle.tt_fit_hinting.specs.Parts.{parts_with}
use Rattle.tt_face.specs.Faces.{FaceInstance}
use Rattle.tt_face.specs.Programs.{ProgramTables}
use Rattle.tt_fit.specs.Preparation.{Preparation, font_program, control_value_program, with_definitions, programs_work, with_fallback, within_work, begun_at, left_at, work_from, work_at, prepared}
use Rattle.tt_fit.specs.Rules.{runs_programs}
use Rattle.tt_fit_hinting.specs.Work.{IsUnbounded, RefusalLeaves, if_ok, code_work, program_work, hinted_work}
use Rattle.tt_fit.specs.Work.{joined_work}

pub after-ok : {X : Type 0} (x : Result X Fault) (more : X → Option ℕ → Worked) (left : Option ℕ)
    → ((y : X) → more y left ≡ enough left) → if_ok x more left ≡ enough left
after-ok (Ok y) more left is = is y
after-ok (Err f) more left is = refl

pub after-both : (worked : Worked) (more : Option ℕ → Worked) (left : Option ℕ) → worked ≡ enough left
    → more left ≡ enough left → then_work worked more ≡ enough left
after-both worked more left first is = rw first is

of-code : (program : Code) (parts : Parts) → code_work program parts None ≡ enough None
of-code program parts = unbounded (run_from program (fresh parts))

of-program : (parts : Parts) (p : GlyphProgram) (o : Outline) → program_work parts p o None ≡ enough None
unfolding program_work
of-program parts p o =
    after-ok (on_grid_at p.grid p.glyph_at o.phantom)
    (λ grid. code_work (program_in_glyf p) (parts_with parts p.units o grid)) None
    (λ grid. of-code (program_in_glyf p) (parts_with parts p.units o grid))

where-run : (is : Bool) (worked : Worked) → worked ≡ enough None → (if is then worked else enough None) ≡ enough None
where-run true worked free = free
where-run false worked free = refl

of-hinted : (hinting : Hinting) (p : GlyphProgram) (o : Outline) → hinted_work hinting p o None ≡ enough None
of-hinted off p o = refl
of-hinted (ready parts) p o = where-run (is_run p) (program_work parts p o None) (of-program parts p o)

-- a glyph whose programs, and whose components' programs, leave this work
of-joined : (add : Record → Outline → Result Outline Fault) (work : Record → Option ℕ → Worked) (left : Option ℕ)
    → ((r : Record) → work r left ≡ enough left) → (rs : List Record) (o : Outline)
    → joined_work add work rs o left ≡ enough left
of-joined add work left free [] o = refl
of-joined add work left free (r ∷ rs) o =
    after-both (work r left) (if_ok (add r o) (joined_work add work rs)) left (free r)
    (after-ok (add r o) (joined_work add work rs) left (of-joined add work left free rs))

abbrev HasFree : Fitter → Option ℕ → Type 0
HasFree s left = (p : GlyphProgram) (o : Outline) → hinted_work s.hinting p o left ≡ enough left

of-finished : (s : Fitter) (left : Option ℕ) → HasFree s left → (add : Record → Outline → Result Outline Fault)
    (work : Record → Option ℕ → Worked) → ((r : Record) → work r left ≡ enough left) → (b : Begun)
    → finished_work s add work b left ≡ enough left
of-finished s left has add work free b =
    after-both (joined_work add work b.records b.outline left)
    (if_ok (joined add b.records b.outline) (hinted_work s.hinting b.program)) left
    (of-joined add work left free b.records b.outline)
    (after-ok (joined add b.records b.outline) (hinted_work s.hinting b.program) left (has b.program))

of-made : (s : Fitter) (left : Option ℕ) → HasFree s left → (add : Record → Outline → Result Outline Fault)
    (work : Record → Option ℕ → Worked) → ((r : Record) → work r left ≡ enough left) → (g : ℕ) (d : Raw)
    → made_work s add work g d left ≡ enough left
of-made s left has add work free g d =
    after-ok (begun_glyph s g d) (finished_work s add work) left (of-finished s left has add work free)

of-one : (s : Fitter) (left : Option ℕ) → HasFree s left → (add : Record → Outline → Result Outline Fault)
    (work : Record → Option ℕ → Worked) → ((r : Record) → work r left ≡ enough left) → (g : ℕ)
    → work_by s add work g left ≡ enough left
of-one s left has add work free g =
    after-ok (glyph_data_of s.tables g) (made_work s add work g) left (of-made s left has add work free g)

of-added : (s : Fitter) (left : Option ℕ) → HasFree s left → (levels : ℕ) (r : Record)
    → added_work s levels r left ≡ enough left
unfolding added_work
of-added s left has zero r = refl
of-added s left has (suc levels) r =
    of-one s left has (added s levels) (added_work s levels) (of-added s left has levels) r.glyph

free-outline : (s : Fitter) (left : Option ℕ) → HasFree s left → (levels g : ℕ)
    → outline_work s levels g left ≡ enough left
free-outline s left has levels g =
    of-one s left has (added s levels) (added_work s levels) (of-added s left has levels) g

pub of-outline : (s : Fitter) (levels g : ℕ) → outline_work s levels g None ≡ enough None
of-outline s levels g = free-outline s None (of-hinted s.hinting) levels g

-- without programs
pub off-is-free : (s : Fitter) (levels g : ℕ) (left : Option ℕ) → s.hinting ≡ off
    → outline_work s levels g left ≡ enough left
off-is-free s levels g left is = free-outline s left (λ p o. rw is refl) levels g

pub of-programs : (parts : Parts) (programs : ProgramTables) → programs_work parts programs None ≡ enough None
unfolding programs_work
of-programs parts programs =
    after-both (code_work (font_program programs.fpgm) parts None)
    (if_ok (run_of (font_program programs.fpgm) parts)
    (λ font. code_work (control_value_program programs.prep) (with_definitions parts font))) None
    (of-code (font_program programs.fpgm) parts)
    (after-ok (run_of (font_program programs.fpgm) parts)
    (λ font. code_work (control_value_program programs.prep) (with_definitions parts font)) None
    (λ font. of-code (control_value_program programs.prep) (with_definitions parts font)))

pub of-left : (m : Metrics) (programs : ProgramTables) (instance : Option FaceInstance) (ppem : ℕ) (how : Fit)
    → work_from m programs instance ppem how None ≡ enough None
of-left m programs instance ppem how =
    let parts = begun_at m programs instance ppem how in
    where-run (runs_programs how programs.fpgm programs.prep) (programs_work parts programs None)
    (of-programs parts programs)

within : (left : Result Hinting Fault) → with_fallback left ≡ within_work (enough None) left
within (Ok hinting) = refl
within (Err f) = refl

told-free : (worked : Worked) (left : Result Hinting Fault) → worked ≡ enough None
    → ◌≡◌ {A = Result Preparation Fault} (Ok (with_fallback left)) (Ok (within_work worked left))
told-free worked left free = rw free (ap Ok (within left))

-- Fallback prepares the same result whether work is counted or not
pub prepared-falling : (m : Metrics) (programs : ProgramTables) (instance : Option FaceInstance) (ppem : ℕ) (how : Fit)
    → (how ≡ fit.Fallback) ⊎ (how ≡ fit.Best)
    → prepared m programs instance ppem how ≡ Ok
    (within_work (work_at m programs instance ppem how) (left_at m programs instance ppem how))
unfolding prepared
prepared-falling m programs instance ppem fit.Fallback is =
    told-free (work_at m programs instance ppem fit.Fallback) (left_at m programs instance ppem fit.Fallback)
    (of-left m programs instance ppem fit.Fallback)
prepared-falling m programs instance ppem fit.Best is = refl
prepared-falling m programs instance ppem fit.Full is = elim is [
  | inl fallback ↦ absurd cc
  | inr best ↦ absurd cc
]
prepared-falling m programs instance ppem fit.None is = elim is [
  | inl fallback ↦ absurd cc
  | inr best ↦ absurd cc
]

-- no call is refused for exceeded work
pub never-spent : (refusal : OutlineFault) (new : Option ℕ) (worked : Worked) → worked ≡ enough None
    → RefusalLeaves refusal new worked → IsUnbounded refusal
never-spent (outline.Font f) new worked free leaves = tt
never-spent outline.Memory new worked free leaves = tt
never-spent (outline.Spent f) new worked free leaves = absurd cc
