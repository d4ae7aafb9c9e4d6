-- The steps of a call that draws labels, joined.
use Rattle.std.proofs.Common.{◌≡◌, ℕ, Bool, List, Option, Some, None, Result, Ok, Err, inl, inr, refl}
use Rattle.std.specs.Prelude.{IfSome}
use Rattle.tt_advice.specs.declared.hint.Hint.{Hint}
use Rattle.tt_core.specs.declared.draw_fault.DrawFault.{DrawFault}
use Rattle.tt_core.specs.declared.draw_fault.DrawFault.TheVariants as draw
use Rattle.tt_render_streams.specs.declared.fault.RunFault.{RunFault}
use Rattle.tt_render_streams.specs.declared.fault.RunFault.TheVariants as run
use Rattle.tt_render_streams.specs.Traffic.{Traffic}
use Rattle.tt_render_streams.specs.Reading.{FontIsRead, FontReader, ReadFails}
use Rattle.tt_render_settings.specs.declared.label.Label.{Label}
use Rattle.tt_render_texts.specs.declared.refusal.Refusal.{Refusal}
use Rattle.tt_render_texts.specs.declared.refusal.Refusal.TheVariants as reason
use Rattle.tt_render_texts.specs.declared.refusal.TextsFault.{TextsFault}
use Rattle.tt_render_settings.specs.declared.setting.Setting.{Setting}
use Rattle.tt_render.specs.Labels.{FileLabelsGive, IsUnopened, OpenedLabelsGive, StopsUnopened, hint_for}
use Rattle.tt_render_texts.specs.Printing.{Errors}
use Rattle.tt_render_settings.specs.Lines.{Outlet}
use Rattle.tt_render_settings.specs.Settings.{setting_tested, strike_of}
use Rattle.tt_render_settings.specs.TextsOutcome.{StopsFor}
use Rattle.tt_render_texts.specs.Views.{before_lines, refusal_of_draw, refusal_of_run}
use Rattle.tt_render_settings.proofs.FontLines.{size_passes}
use Rattle.tt_strike.specs.Job.{size_tested}
use Rattle.tt_strike.specs.Refusals.{Refused, as_job}
use Rattle.tt_strike.specs.Refusals as drawing
use Rattle.tt_strike.specs.Strikes.{Strike}

pub if_some_all : {X : Type 0} (o : Option X) (P : X → Type 0) → ((x : X) → P x) → IfSome o P
if_some_all None P all = tt
if_some_all (Some x) P all = all x

-- a font that could not be read has no hint
pub reading_hints : (e : RunFault) (before after : Option (List ℕ)) (failed : Bool) (file : List ℕ) (a : Setting)
    → ReadFails e before after failed → ◌≡◌ {A = Option Hint} None (hint_for (refusal_of_run e) file a)
reading_hints (run.Font f) before after failed file a fails = absurd fails
reading_hints (run.Job j) before after failed file a fails = refl
reading_hints run.Read before after failed file a fails = refl
reading_hints run.FontLarge before after failed file a fails = refl
reading_hints (run.Write sent) before after failed file a fails = refl
reading_hints run.Memory before after failed file a fails = refl

-- a strike of a tested size is made, unless memory runs out
pub strike_unopened : (V : Type 0) (a : Setting) (opened : Result Strike Refused) (d : DrawFault)
    → setting_tested a ≡ Ok tt → IfSome (drawing.refusal d) (λ why. as_job (size_tested a.ppem) ≡ Err why)
    → StopsUnopened {V = V} opened (Err (before_lines (refusal_of_draw d)))
unfolding setting_tested
strike_unopened V a opened (draw.Font f) passes refused =
    absurd (size_passes (size_tested a.ppem) _ _ passes refused)
strike_unopened V a opened (draw.Job j) passes refused =
    absurd (size_passes (size_tested a.ppem) _ _ passes refused)
strike_unopened V a opened draw.Memory passes refused = tt

-- a call that stopped before it read a line, by the bytes of its font
stopped : (l : Label) (file : List ℕ) (why : Refusal) (line : Option ℕ) (f : FontReader) → setting_tested l.setting ≡ Ok tt
    → FontIsRead f file → IsUnopened (strike_of l.setting file) why line
    → StopsFor (setting_tested l.setting) (strike_of l.setting) why line f
stopped l file (reason.Font fault) None f passes read is = (passes, file, read, is)
stopped l file reason.Memory None f passes read is = (passes, ((file, read.0), read.2))
stopped l file (reason.Job j) None f passes read is = absurd is
stopped l file reason.NotUtf8 None f passes read is = absurd is
stopped l file (reason.Space wrong) None f passes read is = absurd is
stopped l file (reason.Missing c) None f passes read is = absurd is
stopped l file reason.FontRead None f passes read is = absurd is
stopped l file reason.FontLarge None f passes read is = absurd is
stopped l file reason.Read None f passes read is = absurd is
stopped l file reason.Create None f passes read is = absurd is
stopped l file (reason.Write sent) None f passes read is = absurd is
stopped l file reason.Many None f passes read is = absurd is
stopped l file (reason.Font fault) (Some n) f passes read is = absurd is
stopped l file reason.Memory (Some n) f passes read is = absurd is
stopped l file (reason.Job j) (Some n) f passes read is = absurd is
stopped l file reason.NotUtf8 (Some n) f passes read is = absurd is
stopped l file (reason.Space wrong) (Some n) f passes read is = absurd is
stopped l file (reason.Missing c) (Some n) f passes read is = absurd is
stopped l file reason.FontRead (Some n) f passes read is = absurd is
stopped l file reason.FontLarge (Some n) f passes read is = absurd is
stopped l file reason.Read (Some n) f passes read is = absurd is
stopped l file reason.Create (Some n) f passes read is = absurd is
stopped l file (reason.Write sent) (Some n) f passes read is = absurd is
stopped l file reason.Many (Some n) f passes read is = absurd is

-- the labels of lines by the bytes of a font, and by the reader that gave these
pub by_reader : (to : Outlet) (l : Label) (file : List ℕ) (r : Result (Option TextsFault) TextsFault) (f : FontReader)
    (t : Traffic) (e : Errors) → setting_tested l.setting ≡ Ok tt → FontIsRead f file → FileLabelsGive to l file r t e
    → OpenedLabelsGive to l r f t e
by_reader to l file (Ok v) f t e passes read (inl (stops, rest)) = absurd stops
by_reader to l file (Ok v) f t e passes read (inr (s, opened, gives)) = inr (passes, file, read, s, opened, gives)
by_reader to l file (Err fault) f t e passes read (inl (stops, rest)) =
    inl (stopped l file fault.refusal fault.line f passes read stops, rest)
by_reader to l file (Err fault) f t e passes read (inr (s, opened, gives)) = inr (passes, file, read, s, opened, gives)
