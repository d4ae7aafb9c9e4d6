-- What a call claims about the defects of a font, and why it refuses a job.
use Rattle.std.specs.Prelude.{List, ℕ, Option, Some, None, Result, Ok, Err, IfSome, Bool, true, false, ⊤}
use Rattle.tt_core.specs.Directory.{HasNo}
use Rattle.tt_face.specs.declared.rules.Opening.{Opening}
use Rattle.tt_face.specs.Instance.{Asked}
use Rattle.tt_core.specs.Faults.{Fault}
use Rattle.tt_core.specs.declared.fault.JobFault.{JobFault}
use Rattle.tt_strike.specs.Defects.{IsFontRefusal}
use Rattle.tt_strike.specs.Job.{ByFace, Job, IsTestRefusal}
use Rattle.tt_strike.specs.Refusals.{needs_font}
use Rattle.tt_render_streams.specs.declared.fault.RunFault.{RunFault}
use Rattle.tt_render_streams.specs.declared.fault.RunFault.TheVariants as run

-- a call that ends with Ok or Write found no defect, and a font fault in its error is one
abbrev pub CallTellsDefects : {V : Type 0} → (Fault → Type 0) → Result V RunFault → Type 0
CallTellsDefects IsOne (Ok v) = HasNo IsOne
CallTellsDefects IsOne (Err (run.Font f)) = IsOne f
CallTellsDefects IsOne (Err (run.Write sent)) = HasNo IsOne
CallTellsDefects IsOne (Err e) = ⊤

-- these claims for the bytes of a reader, where they are known
abbrev pub TellsDefectsOf : {V : Type 0} → Option (List ℕ) → (List ℕ → Fault → Type 0) → Result V RunFault → Type 0
TellsDefectsOf None IsOne result = ⊤
TellsDefectsOf (Some file) IsOne result = CallTellsDefects (IsOne file) result

-- the fact that refuses a job, alone or by a reading of a font file: the font comes second
abbrev pub IsRefusedBy : Bool → Opening → Option Asked → Job → Option (List ℕ) → JobFault → Type 0
IsRefusedBy true r i a left j = IfSome left (ByFace (λ face a. IsFontRefusal face a j) r i a)
IsRefusedBy false r i a left j = IsTestRefusal a j

abbrev pub IsJobRefusal : Opening → Option Asked → Job → Option (List ℕ) → JobFault → Type 0
IsJobRefusal r i a left j = IsRefusedBy (needs_font j) r i a left j
