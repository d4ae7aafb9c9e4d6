-- No part of the standard: why a picture is not made, or not written (profile).
use Rattle.std.specs.Prelude.{Bool, true, false, Option, Some, None, Result, Ok, Err}
use Rattle.tt_core.specs.declared.fault.JobFault.{JobFault}
use Rattle.tt_core.specs.declared.fault.JobFault.TheVariants as fault
use Rattle.tt_core.specs.Faults.{Fault}
use Rattle.tt_core.specs.declared.draw_fault.DrawFault.{DrawFault}
use Rattle.tt_core.specs.declared.draw_fault.DrawFault.TheVariants as draw

-- why nothing is written though both devices work
pub data Refused : Type 0 where
  font : Fault → Refused
  job : JobFault → Refused
  large : Refused

abbrev pub as_font : {X : Type 0} → Result X Fault → Result X Refused
as_font (Ok x) = Ok x
as_font (Err fault) = Err (font fault)

abbrev pub as_job : {X : Type 0} → Result X JobFault → Result X Refused
as_job (Ok x) = Ok x
as_job (Err fault) = Err (job fault)

-- a job is tested before the font is read, except the extent of its picture and the work of its glyphs
abbrev pub needs_font : JobFault → Bool
needs_font fault.EmptyPicture = true
needs_font fault.PictureLarge = true
needs_font fault.WorkLarge = true
needs_font j = false

-- the refusal that stops the making of a picture; none where memory ran out
abbrev pub refusal : DrawFault → Option Refused
refusal (draw.Font f) = Some (font f)
refusal (draw.Job j) = Some (job j)
refusal draw.Memory = None
