-- Which glyphs are unfitted, and their outlines.
use Rattle.std.proofs.Common.{◌≡◌, ◌≢◌, ◌∙◌, sym, ap, ℕ, true, Option, Some, None, Result, Ok, Err, OnOk, refl}
use Rattle.tt_core.specs.Faults.{Fault}
use Rattle.tt_core.specs.declared.font_fault.FontFault.{FontFault}
use Rattle.tt_core.specs.declared.font_fault.FontFault.TheVariants as font
use Rattle.tt_core.specs.Outcomes.{◌>>=◌, IfTold, font_fault}
use Rattle.tt_fit_hinting.specs.machine.Work.{Worked, enough, spent}
use Rattle.tt_glyf.specs.Loca.{Glyf}
use Rattle.tt_metrics.specs.Metrics.{Metrics}
use Rattle.tt_fit.specs.declared.dropouts.DropoutsBy.{DropoutsBy}
use Rattle.tt_fit.specs.declared.programs.Fit.{Fit}
use Rattle.tt_fit.specs.declared.programs.Fit.TheVariants as fit
use Rattle.tt_fit.specs.DeltaCounting.{control_deltas_of}
use Rattle.tt_fit.specs.Fallback.{Fallback, never, where_refused, everywhere, is_program_fault}
use Rattle.tt_fit.specs.Fitting.{Fitter, with_hinting, outline_at, outline_work, glyph_work, unfitted_fault, fitted_outline, left_after_glyph, after_glyph}
use Rattle.tt_fit.specs.Laws.{HasWork, ProgramsHaveWork, UnboundedIsEnough, OthersAreUnbounded, UnboundedStays, SpentWorkUnfits, SpentProgramsUnfitAll}
use Rattle.tt_fit_outline.specs.Outline.{Outline}
use Rattle.tt_face.specs.Faces.{FaceInstance}
use Rattle.tt_face.specs.Programs.{ProgramTables}
use Rattle.tt_fit.specs.Preparation.{left_at, work_at, prepared_by, prepared, fitter_with, fitter_of}
use Rattle.tt_fit_hinting.specs.Hinting.{Hinting, off}
use Rattle.tt_fit.specs.Rules.{levels_of, dropouts_by}
use Rattle.tt_fit.proofs.Unbounded.{of-outline, of-left}

-- for no glyph
pub never-unfitted : (s : Fitter) (g : ℕ) → s.fallback ≡ never → unfitted_fault s g ≡ None
unfolding unfitted_fault
never-unfitted s g is = rw is refl

-- for a glyph by its outline with programs
pub fitted-where-made : (s : Fitter) (g : ℕ) (o : Outline) → s.fallback ≡ where_refused → HasWork s g
    → outline_at (with_hinting s s.hinting) s.levels g ≡ Ok o → unfitted_fault s g ≡ None
unfolding unfitted_fault
fitted-where-made s g o is has made = rw (is, has.1, made) refl

pub unfitted-where-refused : (s : Fitter) (g : ℕ) (f : Fault) → s.fallback ≡ where_refused → HasWork s g
    → outline_at (with_hinting s s.hinting) s.levels g ≡ Err f → is_program_fault f ≡ true
    → unfitted_fault s g ≡ Some f
unfolding unfitted_fault
unfitted-where-refused s g f is has fails of_program = rw (is, has.1, fails, of_program) refl

-- for a glyph by its work
pub unfitted-where-spent : (s : Fitter) (g : ℕ) (f : Fault) → s.fallback ≡ where_refused
    → glyph_work s g s.work ≡ spent f → unfitted_fault s g ≡ Some f
unfolding unfitted_fault
unfitted-where-spent s g f is over = rw (is, over) refl

-- for every glyph
pub unfitted-everywhere : (s : Fitter) (g : ℕ) (f : Fault) → s.fallback ≡ everywhere f → unfitted_fault s g ≡ Some f
unfolding unfitted_fault
unfitted-everywhere s g f is = rw is refl

-- the outline in each case
pub made-fitted : (s : Fitter) (g : ℕ) → unfitted_fault s g ≡ None
    → fitted_outline s g ≡ outline_at (with_hinting s s.hinting) s.levels g
unfolding fitted_outline
made-fitted s g none = rw none refl

pub made-unfitted : (s : Fitter) (g : ℕ) (f : Fault) → unfitted_fault s g ≡ Some f
    → fitted_outline s g ≡ outline_at (with_hinting s off) s.levels g
unfolding fitted_outline
made-unfitted s g f some = rw some refl

-- an outline by programs is the answer, where their work is enough
pub pays-too : (s : Fitter) (g : ℕ) (hinting : Hinting) (left rest : Option ℕ) → s.hinting ≡ hinting → left ≡ s.work
    → outline_work (with_hinting s hinting) s.levels g left ≡ enough rest → glyph_work s g s.work ≡ enough rest
pays-too s g hinting left rest same at pays = rw (same, ← at) pays

pub made-by-programs : (s : Fitter) (g : ℕ) (hinting : Hinting) (o : Outline) (left rest : Option ℕ)
    → s.fallback ≡ where_refused → s.hinting ≡ hinting → left ≡ s.work
    → outline_work (with_hinting s hinting) s.levels g left ≡ enough rest
    → outline_at (with_hinting s hinting) s.levels g ≡ Ok o → fitted_outline s g ≡ Ok o
made-by-programs s g hinting o left rest is same at pays made =
    let by_own : outline_at (with_hinting s s.hinting) s.levels g ≡ Ok o = rw same made in
    let has : HasWork s g = (rest, pays-too s g hinting left rest same at pays) in
    made-fitted s g (fitted-where-made s g o is has by_own) ∙ by_own

-- the job's remaining work in this case
pub left-where-enough : (s : Fitter) (g : ℕ) (left : Option ℕ) → s.fallback ≡ where_refused
    → glyph_work s g s.work ≡ enough left → (after_glyph s g).work ≡ left
unfolding after_glyph
left-where-enough s g left is pays = rw (is, pays) refl

pub left-where-spent : (s : Fitter) (g : ℕ) (f : Fault) → s.fallback ≡ where_refused
    → glyph_work s g s.work ≡ spent f → (after_glyph s g).work ≡ Some 0
unfolding after_glyph
left-where-spent s g f is pays = rw (is, pays) refl

pub left-where-never : (s : Fitter) (g : ℕ) → s.fallback ≡ never → (after_glyph s g).work ≡ s.work
unfolding after_glyph
left-where-never s g is = rw is refl

pub left-where-everywhere : (s : Fitter) (g : ℕ) (f : Fault) → s.fallback ≡ everywhere f → (after_glyph s g).work ≡ s.work
unfolding after_glyph
left-where-everywhere s g f is = rw is refl

-- nothing else changes
pub after-is : (s : Fitter) (g : ℕ) (left : Option ℕ) → left ≡ (after_glyph s g).work
    → record s { work = left } ≡ after_glyph s g
unfolding after_glyph
after-is s g left is = ap (λ w. record s { work = w }) is

-- an unconditional fact holds where a call is Ok
pub on-ok : {X E : Type 0} (result : Result X E) (Q : Type 0) → Q → OnOk result Q
on-ok (Ok x) Q holds = holds
on-ok (Err e) Q holds = tt

pub on-told : {X : Type 0} (result : Result X FontFault) (Q : Type 0) → Q → IfTold font_fault result (λ f. Q)
on-told (Ok x) Q holds = tt
on-told (Err (font.Font f)) Q holds = holds
on-told (Err font.Memory) Q holds = tt

-- what a fitter has besides: the work of the deltas of control values, and the source of dropout rules
pub record Besides : Type 0 where
  pub deltas : ℕ
  pub dropouts : DropoutsBy

abbrev pub besides : Option FaceInstance → ProgramTables → Fit → Besides
besides instance programs how =
    record { deltas = control_deltas_of instance how programs.cvt; dropouts = dropouts_by how }

abbrev pub filled : Besides → Fitter → Fitter
filled who s = record s { control_deltas = who.deltas; dropouts = who.dropouts }

-- the fitter of a fit, by the state after the two programs, and their work
abbrev pub fitter_by : Metrics → Glyf → Option FaceInstance → ℕ → Fit → Besides → Worked → Result Hinting Fault → Result Fitter Fault
fitter_by m tables instance ppem how who worked left =
    prepared_by how worked left >>= λ p. Ok (filled who (fitter_with m tables instance ppem how p.hinting p.fallback p.work))

-- a fitter with no glyph unfitted
pub alone-is : (m : Metrics) (tables : Glyf) (instance : Option FaceInstance) (ppem : ℕ) (how : Fit) (hinting : Hinting) (fallback : Fallback)
    (work : Option ℕ) (g : ℕ) → fitted_outline (fitter_with m tables instance ppem how hinting never None) g
    ≡ outline_at (with_hinting (fitter_with m tables instance ppem how hinting fallback work) hinting) (levels_of how) g
alone-is m tables instance ppem how hinting fallback work g =
    let t = fitter_with m tables instance ppem how hinting never None in made-fitted t g (never-unfitted t g refl)

-- unbounded work
pub unbounded-is-enough : UnboundedIsEnough
unbounded-is-enough s g = of-outline (with_hinting s s.hinting) s.levels g

unbounded-by : (m : Metrics) (tables : Glyf) (instance : Option FaceInstance) (ppem : ℕ) (how : Fit) (who : Besides) (s : Fitter) (worked : Worked)
    (left : Result Hinting Fault) → how ≢ fit.Best → fitter_by m tables instance ppem how who worked left ≡ Ok s → s.work ≡ None
unbounded-by m tables instance ppem fit.None who s worked left other is =
    let same : filled who (fitter_with m tables instance ppem fit.None off never None) ≡ s = cc in rw (← same) refl
unbounded-by m tables instance ppem fit.Full who s worked (Ok hinting) other is =
    let same : filled who (fitter_with m tables instance ppem fit.Full hinting never None) ≡ s = cc in rw (← same) refl
unbounded-by m tables instance ppem fit.Full who s worked (Err f) other is = absurd cc
unbounded-by m tables instance ppem fit.Fallback who s worked (Ok hinting) other is =
    let same : filled who (fitter_with m tables instance ppem fit.Fallback hinting where_refused None) ≡ s = cc in
    rw (← same) refl
unbounded-by m tables instance ppem fit.Fallback who s worked (Err f) other is =
    let same : filled who (fitter_with m tables instance ppem fit.Fallback off (everywhere f) None) ≡ s = cc in
    rw (← same) refl
unbounded-by m tables instance ppem fit.Best who s worked left other is = absurd (other refl)

programs-unbounded : (m : Metrics) (programs : ProgramTables) (instance : Option FaceInstance) (ppem : ℕ) (how : Fit)
    → how ≢ fit.Best
    → ProgramsHaveWork m programs instance ppem how
programs-unbounded m programs instance ppem fit.Full other = (None, of-left m programs instance ppem fit.Full)
programs-unbounded m programs instance ppem fit.None other = (None, of-left m programs instance ppem fit.None)
programs-unbounded m programs instance ppem fit.Fallback other = (None, of-left m programs instance ppem fit.Fallback)
programs-unbounded m programs instance ppem fit.Best other = absurd (other refl)

pub others-are-unbounded : OthersAreUnbounded
unfolding fitter_of prepared
others-are-unbounded m tables programs instance ppem how s other is =
    let who = besides instance programs how in
    let worked = work_at m programs instance ppem how in (
      unbounded-by m tables instance ppem how who s worked (left_at m programs instance ppem how) other is,
      programs-unbounded m programs instance ppem how other,
    )

stays : (fallback : Fallback) (worked : Worked) (left : Option ℕ) → worked ≡ enough left
    → left_after_glyph fallback worked left ≡ left
stays never worked left is = refl
stays where_refused worked left is = rw is refl
stays (everywhere f) worked left is = refl

enough-of : (s : Fitter) (g : ℕ) → s.work ≡ None → glyph_work s g s.work ≡ enough s.work
enough-of s g is = rw is (of-outline (with_hinting s s.hinting) s.levels g)

pub unbounded-stays : UnboundedStays
unfolding after_glyph
unbounded-stays s g is =
    let pays = enough-of s g is in
    ((s.work, pays), ap (λ w. record s { work = w }) (stays s.fallback (glyph_work s g s.work) s.work pays))

-- spent work
pub spent-work-unfits : SpentWorkUnfits
spent-work-unfits s g f is over =
    let some = unfitted-where-spent s g f is over in (made-unfitted s g f some, some)

over-by : (m : Metrics) (tables : Glyf) (instance : Option FaceInstance) (ppem : ℕ) (who : Besides) (s : Fitter) (g : ℕ) (f : Fault)
    (worked : Worked) (left : Result Hinting Fault) → worked ≡ spent f
    → fitter_by m tables instance ppem fit.Best who worked left ≡ Ok s
    → (fitted_outline s g ≡ fitted_outline (fitter_with m tables instance ppem fit.Best off never None) g)
    × (unfitted_fault s g ≡ Some f)
over-by m tables instance ppem who s g f (enough l) left over is = absurd cc
over-by m tables instance ppem who s g f (spent told) left over is =
    let t = filled who (fitter_with m tables instance ppem fit.Best off (everywhere told) (Some 0)) in
    let known : told ≡ f = cc in
    let same : t ≡ s = cc in
    let some = unfitted-everywhere t g told refl in
    rw (← same, ← known)
    (made-unfitted t g told some ∙ sym (alone-is m tables instance ppem fit.Best off never None g), some)

pub spent-programs-unfit-all : SpentProgramsUnfitAll
unfolding fitter_of prepared
spent-programs-unfit-all m tables programs instance ppem fit.Full s g f falls is over = absurd cc
spent-programs-unfit-all m tables programs instance ppem fit.None s g f falls is over = absurd cc
spent-programs-unfit-all m tables programs instance ppem fit.Fallback s g f falls is over =
    let free : work_at m programs instance ppem fit.Fallback ≡ enough None = of-left m programs instance ppem fit.Fallback in absurd cc
spent-programs-unfit-all m tables programs instance ppem fit.Best s g f falls is over =
    let who = besides instance programs fit.Best in
    over-by m tables instance ppem who s g f (work_at m programs instance ppem fit.Best)
    (left_at m programs instance ppem fit.Best) over is
