-- No part of the standard: the performance of `bdf`, and its report (profile).
use Rattle.std.specs.Prelude.{◌≡◌, ◌⊎◌, ℕ, Bool, true, false, ◌||◌, List, ◌++◌, codes, Option, Some, None, is_some, IfSome, Result, Ok, Err}
use Rattle.tt_advice.specs.declared.hint.Hint.{Hint}
use Rattle.tt_bdf.specs.declared.range.CodeRange.{CodeRange}
use Rattle.tt_bitmap_font.specs.declared.font_file.FontFile.{FontFile}
use Rattle.tt_bitmap_font.specs.FontFiles.{FontFileGives, HintsBy, IsFileDefect}
use Rattle.tt_bitmap_font.specs.Help.{bdf_help}
use Rattle.tt_render_settings.specs.declared.label.Labelled.{Labelled}
use Rattle.tt_render_texts.specs.declared.refusal.TextsFault.{TextsFault}
use Rattle.tt_render_texts.specs.Printing.{Errors}
use Rattle.tt_render_texts.specs.TextsMessages.{texts_line_of, texts_status_of}
use Rattle.tt_render_settings.specs.TextsOutcome.{TextTellsDefectsOf}
use Rattle.tt_render_streams.specs.Traffic.{ReadsNothing, Traffic, WritesNothing}
use Rattle.tt_program_decisions.specs.declared.stopping.Stop.{Stop}
use Rattle.tt_program_decisions.specs.declared.stopping.Stop.TheVariants as stop
use Rattle.tt_program_decisions.specs.BdfRequests.{BdfAsked, ranges_asked}
use Rattle.tt_program_decisions.specs.Stops.{TellsStop}
use Rattle.tt_program_decisions.specs.Telling.{TellsStatus, TellsText}

abbrev pub face_or_first : Option ℕ → ℕ
face_or_first None = 0
face_or_first (Some n) = n

-- the file of a request with these ranges
pub record IsFileFor (b : BdfAsked) (rs : List CodeRange) (f : FontFile) : Type 0 where
  pub size : f.size ≡ b.size
  pub fit : f.fit ≡ b.fit
  pub face : f.face ≡ face_or_first b.face
  pub heights : f.heights ≡ b.heights
  pub ranges : f.ranges.now ≡ rs
  pub text : f.text.now ≡ b.text
  pub path : f.path.now ≡ b.font
  pub given : f.face_given ≡ is_some b.face
  pub instance : f.instance ≡ b.instance

-- the text about a refused file: the line of the refusal, and then the line that tells a person what to do, if there is
-- one
abbrev pub file_lines_of : FontFile → Bool → TextsFault → Option Hint → List ℕ
file_lines_of f folder fault hint = (texts_line_of fault ++ codes "\n") ++ bdf_help f folder fault hint

-- a refusal is reported by status and lines, or silently
abbrev pub TellsFileFailure : Bool → Bool → FontFile → Bool → Option Hint → TextsFault → ℕ → Errors → Type 0
TellsFileFailure false had_failed f folder hint fault status e =
    TellsText (file_lines_of f folder fault hint) (texts_status_of fault) status e
TellsFileFailure true had_failed f folder hint fault status e = TellsStatus (texts_status_of fault) had_failed status e

abbrev pub TellsFile : Bool → Bool → FontFile → Bool → Option Hint → Result (Unit {0}) TextsFault → ℕ → Errors → Type 0
TellsFile closed had_failed f folder hint (Ok v) status e = TellsStatus 0 had_failed status e
TellsFile closed had_failed f folder hint (Err fault) status e =
    TellsFileFailure (closed || had_failed) had_failed f folder hint fault status e

-- a call that writes a file gave some answer, with its contract about the devices, and the program reported that answer
-- after what the call had printed
pub record DoesFile (Gives : Labelled → Errors → Type 0) (f : FontFile) (folder closed : Bool) (e : Errors) (status : ℕ)
    : Type 0
  where
    pub written : Labelled
    pub between : Option (List ℕ)
    pub had_failed : Bool
    pub outcome : Gives written (record { before = e.before; after = between; failed = had_failed })
    pub told : TellsFile closed had_failed f folder written.hint written.answer status
        (record { before = between; after = e.after; failed = e.failed })

-- a request is stopped by its words, or by refused memory, before its font is read
abbrev pub IsStopped : Stop → Traffic → Errors → ℕ → Type 0
IsStopped why t e status = TellsStop why status e × ReadsNothing t × WritesNothing t

-- a file is written by the ranges of a request, if these are of the right form
abbrev pub PerformsBy : BdfAsked → Option (List CodeRange) → Bool → Bool → Traffic → Errors → ℕ → Type 0
PerformsBy b None folder closed t e status = IsStopped stop.Range t e status
PerformsBy b (Some rs) folder closed t e status =
    (f : FontFile) × IsFileFor b rs f
    × DoesFile (λ written told. FontFileGives f written.answer t told
    × TextTellsDefectsOf t.left_before (IsFileDefect f) written.answer
    × IfSome t.left_before (HintsBy f written)) f folder closed e status

-- so is the request performed, unless memory was refused for its ranges
abbrev pub PerformsBdf : BdfAsked → Bool → Bool → Traffic → Errors → ℕ → Type 0
PerformsBdf b folder closed t e status =
    PerformsBy b (ranges_asked b.range) folder closed t e status ⊎ IsStopped stop.Memory t e status
