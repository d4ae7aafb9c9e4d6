-- The output of a line that was written in part.
use Rattle.std.proofs.Common.{◌≡◌, ℕ, ◌+◌, ◌<◌, ◌≤◌, true, false, List, length, take, Option, None, Some, Ok}
use Rattle.std.specs.Io.KnownBytes.{Appends}
use Rattle.std.specs.Prelude.{IfSome}
use Rattle.tt_render_streams.specs.Traffic.{Traffic}
use Rattle.tt_render_settings.specs.Lines.{Drawing, lines_budget}
use Rattle.tt_render_settings.specs.TextsOutcome.{LinesFail}
use Rattle.tt_render_texts.specs.Answers.{TextAnswer}
use Rattle.tt_render_texts.specs.declared.refusal.Refusal.TheVariants as reason
use Rattle.tt_render_texts.specs.declared.refusal.TextsFault.{TextsFault}
use Rattle.tt_render_texts.specs.LineReading.{LosesLine}
use Rattle.tt_render_texts.specs.Printing.{Errors}
use Rattle.tt_render_settings.proofs.DrawnLines.{SoFar}
use Rattle.tt_render_settings.proofs.StoppedLines.{cut_sent}

pub if_some_all : {X : Type 0} (o : Option X) (P : X → Type 0) → ((x : X) → P x) → IfSome o P
if_some_all None P all = tt
if_some_all (Some x) P all = all x

pub line_cut : (d : Drawing) (left after b : Option (List ℕ)) (t : Traffic) (er : Errors) (number used : ℕ)
    (first : Option TextsFault) (line : List ℕ) (answer : TextAnswer) (e : TextsFault) (sent : ℕ)
    → e ≡ record { line = Some (number + 1); refusal = reason.Write sent } → sent < length answer.bytes
    → Appends b t.out_after (d.to.shown (Some (number + 1)) (take sent answer.bytes))
    → SoFar d t.left_before left t.out_before b er number used first → LosesLine left after line
    → used ≤ lines_budget number → d.answer line ≡ Ok answer → t.read_failed ≡ false → t.write_failed ≡ true
    → LinesFail d e.refusal e.line t er
line_cut d left after b t er number used first line answer e sent is few out so_far loses enough made reads fails =
    rw is (cut_sent d left after b t er number used sent first line answer so_far loses enough made few out, reads, fails)
