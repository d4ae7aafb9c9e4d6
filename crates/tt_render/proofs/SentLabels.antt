-- A label that is put into its place, or is not.
use Rattle.std.proofs.Common.{◌≡◌, ℕ, ◌+◌, ◌≤◌, true, false, List, Option, None, Some, Result, Ok, Err, refl}
use Rattle.tt_advice.specs.declared.hint.Hint.{Hint}
use Rattle.tt_core.specs.Directory.{HasNo}
use Rattle.tt_core.specs.Faults.{Fault}
use Rattle.tt_render.specs.Labels.{hint_for}
use Rattle.tt_render_streams.specs.declared.pictures.NotPut.{NotPut}
use Rattle.tt_render_streams.specs.declared.pictures.NotPut.TheVariants as put_fault
use Rattle.tt_render_streams.specs.Putting.{IsPart}
use Rattle.tt_render_streams.specs.Reading.{FontIsRead}
use Rattle.tt_render_streams.specs.Traffic.{Traffic, WriterFails}
use Rattle.tt_render_settings.specs.declared.setting.Setting.{Setting}
use Rattle.tt_render_settings.specs.Lines.{Drawing, Outlet, lines_budget}
use Rattle.tt_render_settings.specs.Settings.{job_by, strike_of}
use Rattle.tt_render_settings.specs.Texts.{TextRefusal}
use Rattle.tt_render_settings.specs.TextsOutcome.{FontAnswers, LinesFail, TellsFor, reader_in}
use Rattle.tt_render_texts.specs.Answers.{TextAnswer}
use Rattle.tt_render_texts.specs.declared.refusal.TextsFault.{TextsFault}
use Rattle.tt_render_texts.specs.LineReading.{LosesLine}
use Rattle.tt_render_texts.specs.Printing.{Errors, PrintsNothing}
use Rattle.tt_render_texts.specs.Views.{before_lines, refusal_of_put}
use Rattle.tt_render_settings.proofs.DrawnLines.{SoFar}
use Rattle.tt_render_settings.proofs.OneText.{text_cut, text_unplaced}
use Rattle.tt_render_settings.proofs.PassedOver.{appends_kept}
use Rattle.tt_render_settings.proofs.StoppedLines.{cut_sent, none_made}
use Rattle.tt_strike.specs.Job.{tested}
use Rattle.tt_strike.specs.Strikes.{Strike}

-- the one label of a text
pub not_put : (to : Outlet) (a : Setting) (answers : Strike → Result TextAnswer TextRefusal) (text file : List ℕ) (s : Strike)
    (answer : TextAnswer) (t : Traffic) (e : Errors) (f : NotPut) → to.creates ≡ true → tested (job_by a text) ≡ Ok tt
    → FontIsRead (reader_in t) file → strike_of a file ≡ Ok s → answers s ≡ Ok answer
    → IsPart (to.shown None) t.out_before t.out_after answer.bytes f → WriterFails t → PrintsNothing e
    → FontAnswers {V = Option TextsFault} to a answers text (Err (before_lines (refusal_of_put f))) t e
not_put to a answers text file s answer t e put_fault.Uncreated creates good read opened made kept fails silent =
    text_unplaced (Option TextsFault) to a answers text file s answer t e good read opened made creates kept fails silent
not_put to a answers text file s answer t e (put_fault.Cut sent) creates good read opened made part fails silent =
    text_cut (Option TextsFault) to a answers text file s answer sent t e good read opened made part.0 part.1 fails silent

-- the label of a line
pub unsent : (d : Drawing) (left after b : Option (List ℕ)) (t : Traffic) (er : Errors) (number used : ℕ)
    (first : Option TextsFault) (line : List ℕ) (answer : TextAnswer) (e : TextsFault) (f : NotPut) → d.to.creates ≡ true
    → e ≡ record { line = Some (number + 1); refusal = refusal_of_put f }
    → IsPart (d.to.shown (Some (number + 1))) b t.out_after answer.bytes f
    → SoFar d t.left_before left t.out_before b er number used first → LosesLine left after line
    → used ≤ lines_budget number → d.answer line ≡ Ok answer → t.read_failed ≡ false → t.write_failed ≡ true
    → LinesFail d e.refusal e.line t er
unsent d left after b t er number used first line answer e put_fault.Uncreated creates is kept so_far loses enough made reads fails =
    rw is (
      creates,
      none_made d left after b t er number used first line answer so_far loses enough made
          (appends_kept b t.out_after kept),
      reads,
      fails,
    )
unsent d left after b t er number used first line answer e (put_fault.Cut sent) creates is part so_far loses enough made reads fails =
    rw is (cut_sent d left after b t er number used sent first line answer so_far loses enough made part.0 part.1, reads, fails)

-- a label that is not put has no hint, and tells that the font has no defect
pub put_hints : (f : NotPut) (file : List ℕ) (a : Setting) → ◌≡◌ {A = Option Hint} None (hint_for (refusal_of_put f) file a)
put_hints put_fault.Uncreated file a = refl
put_hints (put_fault.Cut sent) file a = refl

pub put_tells : (IsOne : Fault → Type 0) (f : NotPut) → HasNo IsOne → TellsFor IsOne (refusal_of_put f)
put_tells IsOne put_fault.Uncreated none = none
put_tells IsOne (put_fault.Cut sent) none = none
