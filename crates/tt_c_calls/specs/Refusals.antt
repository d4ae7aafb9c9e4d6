-- No part of the standard: why a call of C has no answer (profile).
use Rattle.std.specs.Prelude.{Option, Some, None, Result, Ok, Err}
use Rattle.tt_core.specs.Faults.{Fault}
use Rattle.tt_strike.specs.Refusals.{Refused, font, job, large}
use Rattle.tt_core.specs.declared.draw_fault.DrawFault.{DrawFault}
use Rattle.tt_core.specs.declared.draw_fault.DrawFault.TheVariants as draw
use Rattle.tt_c_calls.specs.declared.fault.CallFault.{CallFault}
use Rattle.tt_c_calls.specs.declared.fault.CallFault.TheVariants as call

-- the font or the job is refused as `run` refuses it; the way to fit has an unknown number; a job has too many values of
-- axes; a line ends past the texts or before it begins; the alignment has an unknown number; the width or the box of a label is out of its range, or
-- leaves no room between the margins; a text fits into its box at no size; the text is not UTF-8
pub data Refusal : Type 0 where
  refused : Refused → Refusal
  unknown_fit : Refusal
  axes_many : Refusal
  line_ends : Refusal
  unknown_align : Refusal
  width_range : Refusal
  box_range : Refusal
  box_small : Refusal
  not_utf8 : Refusal

abbrev pub as_call : {X : Type 0} → Result X Refused → Result X Refusal
as_call (Ok x) = Ok x
as_call (Err why) = Err (refused why)

-- the refusal that stops a call; None where memory ran out
abbrev pub call_refusal : CallFault → Option Refusal
call_refusal (call.Font f) = Some (refused (font f))
call_refusal (call.Job j) = Some (refused (job j))
call_refusal call.FontLarge = Some (refused large)
call_refusal call.UnknownFit = Some unknown_fit
call_refusal call.AxesMany = Some axes_many
call_refusal call.LineEnds = Some line_ends
call_refusal call.UnknownAlign = Some unknown_align
call_refusal call.WidthRange = Some width_range
call_refusal call.BoxRange = Some box_range
call_refusal call.BoxSmall = Some box_small
call_refusal call.NotUtf8 = Some not_utf8
call_refusal call.Memory = None

-- the fault of the font that stops a call
abbrev pub call_font_fault : CallFault → Option Fault
call_font_fault (call.Font f) = Some f
call_font_fault e = None

-- a fault of drawing stops the call
abbrev pub call_of_draw : DrawFault → CallFault
call_of_draw (draw.Font f) = call.Font f
call_of_draw (draw.Job j) = call.Job j
call_of_draw draw.Memory = call.Memory
