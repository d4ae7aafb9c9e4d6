-- The definitions' views of the code's faults.
use Rattle.tt_core.specs.declared.font_fault.FontFault.{FontFault}
use Rattle.tt_core.specs.declared.font_fault.FontFault.TheVariants as font
use Rattle.tt_core.specs.declared.draw_fault.DrawFault.{DrawFault}
use Rattle.tt_core.specs.declared.draw_fault.DrawFault.TheVariants as draw
use Rattle.tt_render_streams.specs.declared.fault.RunFault.{RunFault}
use Rattle.tt_render_streams.specs.declared.fault.RunFault.TheVariants as run

-- a font fault that stopped a part of a call stops the call
abbrev pub run_fault_of_font : FontFault → RunFault
run_fault_of_font (font.Font f) = run.Font f
run_fault_of_font font.Memory = run.Memory

-- so does a fault that stopped a drawing
abbrev pub run_fault_of_draw : DrawFault → RunFault
run_fault_of_draw (draw.Font f) = run.Font f
run_fault_of_draw (draw.Job j) = run.Job j
run_fault_of_draw draw.Memory = run.Memory
