-- The layout and the pens of a text are those of the font's tables.
use Rattle.std.proofs.Common.{◌≡◌, ◌≢◌, ◌≤◌, ◌∙◌, ◌==◌, ℕ, Bool, true, false, List, None, Ok, Err, arith, inl, inr, refl, rules}
use Rattle.std.specs.Prelude.{IfSome, if◌then◌else◌}
use Rattle.tt_core.specs.declared.draw_fault.DrawFault.{DrawFault}
use Rattle.tt_core.specs.declared.draw_fault.DrawFault.TheVariants as draw
use Rattle.tt_core.specs.declared.fault.JobFault.{JobFault}
use Rattle.tt_core.specs.Chains.{came-through}
use Rattle.tt_core.specs.Faults.{Fault}
use Rattle.tt_core.specs.Limits.{size_limit}
use Rattle.tt_core.specs.Outcomes.{◌>>=◌, draw_font_fault}
use Rattle.tt_face.specs.Faces.{Face}
use Rattle.tt_fit.specs.declared.programs.Fit.{Fit}
use Rattle.tt_fit.specs.declared.programs.Fit.TheVariants as fit
use Rattle.tt_line.specs.Layout.{text_glyphs}
use Rattle.tt_strike.specs.Defects.{IsLineDefect}
use Rattle.tt_strike.specs.Job.{IsSizeRefusal, Job, tested}
use Rattle.tt_strike.specs.Layouts.{HasLayoutDefect, IsNotMemory, LayoutDefectBy, ReadsNoGlyph, layout_outcome, pens_outcome}
use Rattle.tt_strike.specs.Work.{is_bounded, lays_after_glyphs}
use Rattle.tt_c_calls.specs.declared.asked.CJob.{CJob}
use Rattle.tt_c_calls.specs.declared.fault.CallFault.TheVariants as call
use Rattle.tt_c_calls.specs.Asked.{IsAskedDefect, asked, fit_asked, job_fit, job_instance, job_opening, text_asked}
use Rattle.tt_c_calls.specs.Fonts.{job_opened}
use Rattle.tt_c_calls.specs.Layouts.{layout_wanted, pens_wanted}
use Rattle.tt_c_calls.specs.Refusals.{as_call, call_font_fault, call_of_draw, unknown_fit}
use Rattle.tt_c_calls.proofs.Answered.{draw_tells}
use Rattle.tt_c_calls.proofs.AskedTables.{fit_of_job, job_face_opened, of_tables}
use Rattle.tt_c_calls.proofs.OpenedAt.{finds_none}
use Rattle.tt_c_calls.proofs.StrikeLines.{if_some_more}

pub layout_of_tables : (j : CJob) (text font : List ℕ) (a : Job) → asked j text ≡ Ok a → tested a ≡ Ok tt
    → layout_wanted j text font ≡ (job_opened j a.fit font >>= λ face. as_call (layout_outcome face a))
unfolding layout_wanted
layout_of_tables j text font a is passes = of_tables layout_outcome j text font a is passes

pub layout_of_face : (j : CJob) (text font : List ℕ) (a : Job) (face : Face) → asked j text ≡ Ok a → tested a ≡ Ok tt
    → job_opened j a.fit font ≡ Ok face → layout_wanted j text font ≡ as_call (layout_outcome face a)
layout_of_face j text font a face is passes read =
    layout_of_tables j text font a is passes ∙ rw read refl

pub pens_of_tables : (j : CJob) (text font : List ℕ) (a : Job) → asked j text ≡ Ok a → tested a ≡ Ok tt
    → pens_wanted j text font ≡ (job_opened j a.fit font >>= λ face. as_call (pens_outcome face a))
unfolding pens_wanted
pens_of_tables j text font a is passes = of_tables pens_outcome j text font a is passes

pub pens_of_face : (j : CJob) (text font : List ℕ) (a : Job) (face : Face) → asked j text ≡ Ok a → tested a ≡ Ok tt
    → job_opened j a.fit font ≡ Ok face → pens_wanted j text font ≡ as_call (pens_outcome face a)
pens_of_face j text font a face is passes read =
    pens_of_tables j text font a is passes ∙ rw read refl

-- a defect by which a text is not laid out is one that the job meets
laid_line : (after : Bool) (face : Face) (a : Job) (gs : List ℕ) (f : Fault) → lays_after_glyphs a.fit ≡ after
    → LayoutDefectBy after face a gs f → IsLineDefect face a gs f
laid_line true face a gs f is defect = defect
laid_line false face a gs f is defect = inr (is, defect)

pub line_stands : (j : CJob) (text font : List ℕ) (a : Job) (face : Face) (d : DrawFault) → asked j text ≡ Ok a
    → job_opened j a.fit font ≡ Ok face
    → IfSome (draw_font_fault d) (HasLayoutDefect face a (text_glyphs face.cmap a.text))
    → IfSome (call_font_fault (call_of_draw d)) (IsAskedDefect j text font)
line_stands j text font a face d is read tells =
    let gs = text_glyphs face.cmap a.text in
    if_some_more (call_font_fault (call_of_draw d)) (HasLayoutDefect face a gs) (IsAskedDefect j text font)
    (λ f h. rw (is, job_face_opened j a.fit font face read) (inr (laid_line (lays_after_glyphs a.fit) face a gs f refl h)))
    (draw_tells _ d tells)

-- a tested size is not refused again
pub not_refused : (size : ℕ) (j : JobFault) → IsSizeRefusal size j → 1 ≤ size → size ≤ size_limit → ⊥
not_refused size j refusal low high = elim refusal.1 [
  | inl few ↦ omega (arith, few, low)
  | inr many ↦ omega (arith, many, high)
]

-- only the number 3 asks for a bound of work
unbounded_by : (a b c d : Bool) (how : Fit)
    → (if a then Ok fit.Full else if b then Ok fit.None else if c then Ok fit.Fallback
    else if d then Ok fit.Best else Err unknown_fit) ≡ Ok how → d ≡ false → is_bounded how ≡ false
unbounded_by true b c d how is never = let same : how ≡ fit.Full = cc in rw same refl
unbounded_by false true c d how is never = let same : how ≡ fit.None = cc in rw same refl
unbounded_by false false true d how is never = let same : how ≡ fit.Fallback = cc in rw same refl
unbounded_by false false false true how is never = absurd cc
unbounded_by false false false false how is never = absurd cc

other_number : (n : ℕ) (b : Bool) → n ≢ 3 → (n == 3) ≡ b → b ≡ false
other_number n false other is = refl
other_number n true other is = absurd (other (search rules))

fit_unbounded : (n : ℕ) (how : Fit) → fit_asked n ≡ Ok how → n ≢ 3 → is_bounded how ≡ false
unfolding fit_asked
fit_unbounded n how is other =
    unbounded_by (n == 0) (n == 1) (n == 2) (n == 3) how is (other_number n (n == 3) other refl)

pub unbounded : (j : CJob) (text : List ℕ) (a : Job) → asked j text ≡ Ok a → j.fit ≢ 3 → is_bounded a.fit ≡ false
unfolding asked
unbounded j text a is other =
    let first = came-through (job_fit j) _ a is in
    let second = came-through (text_asked text) _ a first.rest in
    let same : first.value ≡ a.fit = cc in
    rw (← same) (fit_unbounded j.fit first.value (fit_of_job j first.value first.first) other)

-- a fault that is not for want of memory
pub serves_draw : (d : DrawFault) → IsNotMemory d → call_of_draw d ≢ call.Memory
serves_draw (draw.Font f) other = λ h. cc
serves_draw (draw.Job j) other = λ h. cc
serves_draw draw.Memory other = absurd other

-- without best and without an instance no glyph is read
pub reads_none : (j : CJob) (how : Fit) (font : List ℕ) (face : Face) → is_bounded how ≡ false → job_instance j ≡ None
    → job_opened j how font ≡ Ok face → ReadsNoGlyph face how
reads_none j how font face free none read =
    (free, finds_none font (job_opening j how) (job_instance j) face none (job_face_opened j how font face read))
