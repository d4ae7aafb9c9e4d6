-- No exit status is above 5.
use Rattle.std.proofs.Common.{◌≤◌, Option, None, Some, arith}
use Rattle.tt_render_streams.specs.declared.fault.RunFault.{RunFault}
use Rattle.tt_render_streams.specs.declared.fault.RunFault.TheVariants as run
use Rattle.tt_render_texts.specs.declared.refusal.Refusal.{Refusal}
use Rattle.tt_render_texts.specs.declared.refusal.Refusal.TheVariants as reason
use Rattle.tt_render_texts.specs.declared.refusal.TextsFault.{TextsFault}
use Rattle.tt_render_streams.specs.Messages.{status_of}
use Rattle.tt_render_texts.specs.TextsMessages.{refusal_status_of, texts_status_of}
use Rattle.tt_program_decisions.specs.declared.stopping.Stop.{Stop}
use Rattle.tt_program_decisions.specs.declared.stopping.Stop.TheVariants as stop
use Rattle.tt_program_decisions.specs.Stops.{stop_status}
use Rattle.tt_program_decisions.specs.Telling.{passed_status}

pub status_within : (fault : RunFault) → status_of fault ≤ 5
status_within (run.Font f) = omega arith
status_within (run.Job j) = omega arith
status_within run.Read = omega arith
status_within run.FontLarge = omega arith
status_within (run.Write sent) = omega arith
status_within run.Memory = omega arith

refusal_status_within : (why : Refusal) → refusal_status_of why ≤ 5
refusal_status_within (reason.Font f) = omega arith
refusal_status_within (reason.Job j) = omega arith
refusal_status_within reason.NotUtf8 = omega arith
refusal_status_within (reason.Space wrong) = omega arith
refusal_status_within (reason.Missing c) = omega arith
refusal_status_within reason.FontRead = omega arith
refusal_status_within reason.FontLarge = omega arith
refusal_status_within reason.Read = omega arith
refusal_status_within reason.Create = omega arith
refusal_status_within (reason.Write sent) = omega arith
refusal_status_within reason.Many = omega arith
refusal_status_within reason.Memory = omega arith

pub texts_status_within : (fault : TextsFault) → texts_status_of fault ≤ 5
texts_status_within fault = refusal_status_within fault.refusal

pub passed_status_within : (refused : Option TextsFault) → passed_status refused ≤ 5
passed_status_within None = omega arith
passed_status_within (Some fault) = texts_status_within fault

pub stop_within : (why : Stop) → stop_status why ≤ 5
stop_within stop.Shown = omega arith
stop_within stop.NotShown = omega arith
stop_within stop.Unread = omega arith
stop_within stop.NoText = omega arith
stop_within stop.Incomplete = omega arith
stop_within stop.Range = omega arith
stop_within stop.Axis = omega arith
stop_within stop.Unnumbered = omega arith
stop_within stop.OneStream = omega arith
stop_within stop.Unopened = omega arith
stop_within stop.Memory = omega arith
