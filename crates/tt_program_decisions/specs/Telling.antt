-- No part of the standard: the program's report of an answer, by its exit status and on standard error.
use Rattle.std.specs.Prelude.{◌≡◌, ◌⊎◌, ℕ, Bool, true, false, ◌||◌, List, ◌++◌, codes, Option, None, Some, Result, Ok, Err}
use Rattle.std.specs.Io.KnownBytes.{Keeps}
use Rattle.tt_advice.specs.declared.hint.Hint.{Hint}
use Rattle.tt_core.specs.Faults.{Fault}
use Rattle.tt_render_streams.specs.declared.fault.RunFault.{RunFault}
use Rattle.tt_render_streams.specs.declared.fault.RunFault.TheVariants as run
use Rattle.tt_render_run.specs.Defects.{TellsDefectsOf}
use Rattle.tt_render_run.specs.Outcome.{CallGives, Wanted}
use Rattle.tt_render_streams.specs.Traffic.{Traffic}
use Rattle.tt_render_texts.specs.Printing.{Errors, Prints, PrintsNothing}
use Rattle.tt_render_texts.specs.TextsMessages.{texts_line_of, texts_status_of}
use Rattle.tt_render_settings.specs.declared.label.Label.{Label}
use Rattle.tt_render_settings.specs.declared.label.LabelsDrawn.{LabelsDrawn}
use Rattle.tt_render_lines.specs.declared.drawing.LinesDrawn.{LinesDrawn}
use Rattle.tt_render_texts.specs.declared.refusal.TextsFault.{TextsFault}
use Rattle.tt_render_settings.specs.Help.{label_lines_of}
use Rattle.tt_render_streams.specs.Messages.{line_of, status_of}

-- the status and the line of one fault
abbrev pub TellsFault : RunFault → ℕ → Errors → Type 0
TellsFault fault status e = (status ≡ status_of fault) × Prints e (line_of fault ++ codes "\n")

-- a text is printed, with this status; if memory is refused for the text, the program reports that instead
abbrev pub TellsText : List ℕ → ℕ → ℕ → Errors → Type 0
TellsText text status_then status e =
    ((status ≡ status_then) × Prints e text) ⊎ TellsFault run.Memory status e

-- the same of a line
abbrev pub TellsLine : List ℕ → ℕ → ℕ → Errors → Type 0
TellsLine line status_then status e = TellsText (line ++ codes "\n") status_then status e

-- a fault of a call is reported by status and line; by the status alone, where the reader had closed the output
abbrev pub TellsFailure : Bool → RunFault → ℕ → Errors → Type 0
TellsFailure false fault status e = TellsLine (line_of fault) (status_of fault) status e
TellsFailure true fault status e = (status ≡ status_of fault) × PrintsNothing e

-- an answer of `map` is reported; nothing is printed where it is Ok. The Boolean says whether the reader had closed the
-- output
abbrev pub Tells : {V : Type 0} → Bool → Result V RunFault → ℕ → Errors → Type 0
Tells closed (Ok v) status e = (status ≡ 0) × PrintsNothing e
Tells closed (Err fault) status e = TellsFailure closed fault status e

-- a call gave some answer, with its contract about the devices, and the program reported that answer
pub record Does (wanted : Wanted) (IsDefect : List ℕ → Fault → Type 0) (closed : Bool) (t : Traffic) (e : Errors) (status : ℕ)
    : Type 0
  where
    pub answer : Result (Unit {0}) RunFault
    pub outcome : CallGives answer t wanted
    pub defects : TellsDefectsOf t.left_before IsDefect answer
    pub told : Tells closed answer status e

-- a status is all that is reported, where nobody reads the output, or where standard error had failed before
abbrev pub TellsStatus : ℕ → Bool → ℕ → Errors → Type 0
TellsStatus status_then had_failed status e =
    (status ≡ status_then) × Keeps e.before e.after × (e.failed ≡ had_failed)

-- a fault of a call that draws texts is reported by status and line, or silently
abbrev pub TellsTextsFailure : Bool → Bool → TextsFault → ℕ → Errors → Type 0
TellsTextsFailure false had_failed fault status e = TellsLine (texts_line_of fault) (texts_status_of fault) status e
TellsTextsFailure true had_failed fault status e = TellsStatus (texts_status_of fault) had_failed status e

-- an answer is reported after its reports; nothing is printed where it is Ok. The first Boolean says whether the reader
-- had closed the output
abbrev pub TellsTexts : {V : Type 0} → Bool → Bool → Result V TextsFault → ℕ → Errors → Type 0
TellsTexts closed had_failed (Ok v) status e = TellsStatus 0 had_failed status e
TellsTexts closed had_failed (Err fault) status e = TellsTextsFailure (closed || had_failed) had_failed fault status e

-- a call that draws texts gave some answer, with its contract about the devices. It had written the bytes `between` to
-- standard error, which had failed or not. The program reported the answer after them
pub record DoesTexts {V : Type 0} (Gives : Result V TextsFault → Errors → Type 0) (closed : Bool) (e : Errors) (status : ℕ)
    : Type 0
  where
    pub answer : Result V TextsFault
    pub between : Option (List ℕ)
    pub had_failed : Bool
    pub outcome : Gives answer (record { before = e.before; after = between; failed = had_failed })
    pub told : TellsTexts closed had_failed answer status (record { before = between; after = e.after; failed = e.failed })

-- the status where lines were drawn, by the first that was refused and passed over; that line was told already
abbrev pub passed_status : Option TextsFault → ℕ
passed_status None = 0
passed_status (Some fault) = texts_status_of fault

-- the same of lines
abbrev pub TellsLines : Bool → Bool → Result LinesDrawn TextsFault → ℕ → Errors → Type 0
TellsLines closed had_failed (Ok drawn) status e = TellsStatus (passed_status drawn.refused) had_failed status e
TellsLines closed had_failed (Err fault) status e = TellsTextsFailure (closed || had_failed) had_failed fault status e

pub record DoesLines (Gives : Result LinesDrawn TextsFault → Errors → Type 0) (closed : Bool) (e : Errors) (status : ℕ)
    : Type 0
  where
    pub answer : Result LinesDrawn TextsFault
    pub between : Option (List ℕ)
    pub had_failed : Bool
    pub outcome : Gives answer (record { before = e.before; after = between; failed = had_failed })
    pub told : TellsLines closed had_failed answer status (record { before = between; after = e.after; failed = e.failed })

-- it is reported as the refusal of a text, by the same status
abbrev pub TellsLabelFailure : Bool → Bool → Label → Bool → Option Hint → TextsFault → ℕ → Errors → Type 0
TellsLabelFailure false had_failed l folder hint fault status e =
    TellsText (label_lines_of l folder fault hint) (texts_status_of fault) status e
TellsLabelFailure true had_failed l folder hint fault status e = TellsStatus (texts_status_of fault) had_failed status e

abbrev pub TellsLabel
    : Bool → Bool → Label → Bool → Option Hint → Result (Option TextsFault) TextsFault → ℕ → Errors → Type 0
TellsLabel closed had_failed l folder hint (Ok first) status e = TellsStatus (passed_status first) had_failed status e
TellsLabel closed had_failed l folder hint (Err fault) status e =
    TellsLabelFailure (closed || had_failed) had_failed l folder hint fault status e

-- a call that draws labels gave some answer, with its contract about the devices, and the program reported that answer
-- after what the call had printed
pub record DoesLabel (Gives : LabelsDrawn → Errors → Type 0) (l : Label) (folder closed : Bool) (e : Errors) (status : ℕ)
    : Type 0
  where
    pub drawn : LabelsDrawn
    pub between : Option (List ℕ)
    pub had_failed : Bool
    pub outcome : Gives drawn (record { before = e.before; after = between; failed = had_failed })
    pub told : TellsLabel closed had_failed l folder drawn.hint drawn.answer status
        (record { before = between; after = e.after; failed = e.failed })
