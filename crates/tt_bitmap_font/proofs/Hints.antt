-- The hint of each answer.
use Rattle.std.proofs.Common.{◌≡◌, refl, ℕ, Bool, List, Option, Some, None, Ok, Err}
use Rattle.std.specs.Prelude.{IfSome}
use Rattle.tt_advice.specs.declared.hint.Hint.{Hint}
use Rattle.tt_core.specs.declared.fault.JobFault.{JobFault}
use Rattle.tt_render_settings.specs.declared.label.Labelled.{Labelled}
use Rattle.tt_render_texts.specs.declared.refusal.Refusal.TheVariants as reason
use Rattle.tt_render_texts.specs.declared.refusal.TextsFault.{TextsFault}
use Rattle.tt_render_texts.specs.Views.{before_lines, refusal_of_run}
use Rattle.tt_render_streams.specs.declared.fault.RunFault.{RunFault}
use Rattle.tt_render_streams.specs.declared.fault.RunFault.TheVariants as run
use Rattle.tt_render_streams.specs.Reading.{ReadFails}
use Rattle.tt_bitmap_font.specs.declared.font_file.FontFile.{FontFile}
use Rattle.tt_bitmap_font.specs.FontFiles.{HintsBy, asked_tested, hint_for}

-- a fault with a hint, and all done
abbrev pub stopped : TextsFault → Option Hint → Labelled
stopped fault h = record { answer = Err fault; hint = h }

abbrev pub all_done : Labelled
all_done = record { answer = Ok tt; hint = None }

-- nothing of the font refused a request that its tests refuse
pub at_once : (a : FontFile) (j : JobFault) (o : Option (List ℕ)) → asked_tested a ≡ Err j
    → IfSome o (HintsBy a (stopped (before_lines (reason.Job j)) None))
at_once a j None refused = tt
at_once a j (Some file) refused = rw refused refl

-- nor of a font that could not be read
no_hint : (e : RunFault) (before after : Option (List ℕ)) (failed : Bool) (file : List ℕ) (a : FontFile)
    → ReadFails e before after failed → ◌≡◌ {A = Option Hint} None (hint_for (refusal_of_run e) file a)
no_hint (run.Font f) before after failed file a fails = absurd fails
no_hint (run.Job j) before after failed file a fails = absurd fails
no_hint run.Read before after failed file a fails = refl
no_hint run.FontLarge before after failed file a fails = refl
no_hint (run.Write sent) before after failed file a fails = refl
no_hint run.Memory before after failed file a fails = refl

pub unread : (a : FontFile) (e : RunFault) (before after : Option (List ℕ)) (failed : Bool) → asked_tested a ≡ Ok tt
    → ReadFails e before after failed → IfSome before (HintsBy a (stopped (before_lines (refusal_of_run e)) None))
unread a e None after failed passes fails = tt
unread a e (Some file) after failed passes fails = rw passes (no_hint e (Some file) after failed file a fails)

-- a fault behind the reading has its hint
pub behind : (a : FontFile) (fault : TextsFault) (file : List ℕ) → asked_tested a ≡ Ok tt
    → HintsBy a (stopped fault (hint_for fault.refusal file a)) file
behind a fault file passes = rw passes refl

-- a writer that failed has none
pub cut : (a : FontFile) (sent : ℕ) (o : Option (List ℕ)) → asked_tested a ≡ Ok tt
    → IfSome o (HintsBy a (stopped (before_lines (reason.Write sent)) None))
cut a sent None passes = tt
cut a sent (Some file) passes = rw passes refl

pub written : (a : FontFile) (o : Option (List ℕ)) → IfSome o (HintsBy a all_done)
written a None = tt
written a (Some file) = refl
