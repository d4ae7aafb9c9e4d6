-- No part of the standard: the output of a text that is ready to be written (profile).
use Rattle.std.specs.Io.KnownBytes.{Appends}
use Rattle.std.specs.Prelude.{◌≡◌, ℕ, ◌<◌, List, length, take, Option, None, Some, Result, Ok, Err, string_bytes, ⊤}
use Rattle.tt_strike.specs.picture.declared.report.Unfitted.{Unfitted}
use Rattle.tt_strike.specs.picture.Pictures.{IsReady}
use Rattle.tt_render_streams.specs.File.{picture_bytes, piece_bytes}
use Rattle.tt_render_texts.specs.declared.refusal.Refusal.TheVariants as reason
use Rattle.tt_render_texts.specs.declared.refusal.TextsFault.{TextsFault}
use Rattle.tt_render_texts.specs.Answers.{TextAnswer}
use Rattle.tt_render_texts.specs.Reports.{report_text_of}
use Rattle.tt_render_settings.specs.Texts.{TextRefusal}
use Rattle.tt_render_settings.specs.TextsOutcome.{IsNotReady}
use Rattle.tt_render_lines.specs.declared.products.Output.{Output}
use Rattle.tt_render_lines.specs.declared.products.Output.TheVariants as output
use Rattle.tt_render_lines.specs.declared.text_answers.ReadyText.{ReadyText}
use Rattle.tt_strike.specs.Refusals.{Refused}
use Rattle.tt_strike.specs.Strikes.{Strike}

-- the bytes of an output, its unfitted glyphs, and what it takes of the budget of many lines
abbrev pub bytes_in : Output → List ℕ
bytes_in (output.Picture drawn) = picture_bytes drawn.picture
bytes_in (output.Text lines report) = lines.items

abbrev pub unfitted_in : Output → List Unfitted
unfitted_in (output.Picture drawn) = drawn.picture.unfitted
unfitted_in (output.Text text report) = report.unfitted.items

abbrev pub cost_in : Output → ℕ
cost_in (output.Picture drawn) = drawn.picture.cost
cost_in (output.Text text report) = report.cost

-- a picture with no row made yet, and memory for writing it
abbrev pub CanGoOut : Output → Type 0
CanGoOut (output.Picture drawn) =
    IsReady drawn.picture × (length drawn.piece.items ≡ piece_bytes drawn.picture)
CanGoOut (output.Text text report) = ⊤

-- the answer that is ready to be written
abbrev pub answer_view : ReadyText → TextAnswer
answer_view r = record {
  bytes = bytes_in r.output;
  unfitted = unfitted_in r.output;
  lacking = r.lacking.items;
  cost = cost_in r.output;
  label = None;
}

-- the report is this text's; the number is that of a line
abbrev pub TellsOf : Option ℕ → ReadyText → Type 0
TellsOf number r = string_bytes r.report ≡ report_text_of number (unfitted_in r.output) r.lacking.items

-- writing the output of a line failed, and a front of its bytes was written
abbrev pub IsNotSent : ℕ → Option (List ℕ) → Option (List ℕ) → List ℕ → TextsFault → Type 0
IsNotSent number before after bytes e =
    (sent : ℕ) × (e ≡ record { line = Some number; refusal = reason.Write sent }) × (sent < length bytes)
    × Appends before after (take sent bytes)

-- one text's output by an opened font, or the refusal
abbrev pub ReadiesText : (Strike → Result TextAnswer TextRefusal) → Result Strike Refused → Result ReadyText TextsFault
    → Type 0
ReadiesText answer opened (Ok r) = (s : Strike) × (opened ≡ Ok s) × (answer s ≡ Ok (answer_view r))
ReadiesText answer opened (Err fault) = IsNotReady answer opened fault.refusal fault.line
