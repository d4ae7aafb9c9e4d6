-- The definitions' views of the code's faults.
use Rattle.std.specs.Prelude.{None}
use Rattle.tt_core.specs.declared.draw_fault.DrawFault.{DrawFault}
use Rattle.tt_core.specs.declared.draw_fault.DrawFault.TheVariants as draw
use Rattle.tt_render_streams.specs.declared.fault.RunFault.{RunFault}
use Rattle.tt_render_streams.specs.declared.fault.RunFault.TheVariants as run
use Rattle.tt_render_streams.specs.declared.pictures.NotPut.{NotPut}
use Rattle.tt_render_streams.specs.declared.pictures.NotPut.TheVariants as not_put
use Rattle.tt_render_texts.specs.declared.refusal.Refusal.{Refusal}
use Rattle.tt_render_texts.specs.declared.refusal.Refusal.TheVariants as reason
use Rattle.tt_render_texts.specs.declared.refusal.TextsFault.{TextsFault}

-- a fault of making a picture, or a strike
abbrev pub refusal_of_draw : DrawFault → Refusal
refusal_of_draw (draw.Font f) = reason.Font f
refusal_of_draw (draw.Job j) = reason.Job j
refusal_of_draw draw.Memory = reason.Memory

-- a fault of reading a font
abbrev pub refusal_of_run : RunFault → Refusal
refusal_of_run (run.Font f) = reason.Font f
refusal_of_run (run.Job j) = reason.Job j
refusal_of_run run.Read = reason.FontRead
refusal_of_run run.FontLarge = reason.FontLarge
refusal_of_run (run.Write sent) = reason.Write sent
refusal_of_run run.Memory = reason.Memory

-- a picture that is not in its place
abbrev pub refusal_of_put : NotPut → Refusal
refusal_of_put not_put.Uncreated = reason.Create
refusal_of_put (not_put.Cut sent) = reason.Write sent

-- the fault of a call that no line stopped
abbrev pub before_lines : Refusal → TextsFault
before_lines why = record { line = None; refusal = why }
