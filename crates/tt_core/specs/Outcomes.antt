-- How a call's result is tied to a definition that gives a value or the first fault.
use Rattle.std.specs.Prelude.{◌≡◌, List, [], ◌∷◌, ◌++◌, Option, Some, None, IfSome, Result, Ok, Err}
use Rattle.tt_core.specs.declared.draw_fault.DrawFault.{DrawFault}
use Rattle.tt_core.specs.declared.draw_fault.DrawFault.TheVariants as draw
use Rattle.tt_core.specs.declared.fault.JobFault.{JobFault}
use Rattle.tt_core.specs.declared.font_fault.FontFault.{FontFault}
use Rattle.tt_core.specs.declared.font_fault.FontFault.TheVariants as fault
use Rattle.tt_core.specs.Faults.{Fault}

-- two steps in sequence: the first fault is the result
infixl 10 ◌>>=◌
abbrev pub ◌>>=◌ : {A B E : Type 0} → Result A E → (A → Result B E) → Result B E
(Ok x) >>= f = f x
(Err e) >>= f = Err e

-- the results of a step for every element, or the first fault
abbrev pub each : {A B E : Type 0} → (A → Result B E) → List A → Result (List B) E
each make [] = Ok []
each make (x ∷ xs) = make x >>= λ y. each make xs >>= λ ys. Ok (y ∷ ys)

-- elements that exist already, then the results for the others, or the first fault
abbrev pub after_each : {A B E : Type 0} → (A → Result B E) → List A → List B → Result (List B) E
after_each make xs before = each make xs >>= λ ys. Ok (before ++ ys)

-- a call's result, seen by a view, is the definition's
abbrev pub Gives : {X Y E : Type 0} → (X → Y) → Result X E → Result Y E → Type 0
Gives view (Ok x) wanted = wanted ≡ Ok (view x)
Gives view (Err e) wanted = wanted ≡ Err e

-- for a call that allocates: an error carries the definition's fault, or no fault if memory ran out; memory may run out
-- at any growth
abbrev pub GivesUnless : {X Y D E : Type 0} → (D → Option E) → (X → Y) → Result X D → Result Y E → Type 0
GivesUnless told view (Ok x) wanted = wanted ≡ Ok (view x)
GivesUnless told view (Err d) wanted = IfSome (told d) (λ e. wanted ≡ Err e)

-- P holds for the fault that an error reports
abbrev pub IfTold : {X D E : Type 0} → (D → Option E) → Result X D → (E → Type 0) → Type 0
IfTold told (Ok x) P = Unit {0}
IfTold told (Err d) P = IfSome (told d) P

-- the fault of a font, if the error carries one
abbrev pub font_fault : FontFault → Option Fault
font_fault (fault.Font f) = Some f
font_fault fault.Memory = None

-- for a call that reads a font and allocates: its result is the definition's, unless memory ran out
abbrev pub FontGives : {X Y : Type 0} → (X → Y) → Result X FontFault → Result Y Fault → Type 0
FontGives view result wanted = GivesUnless font_fault view result wanted

-- if a call succeeds, the value that it leaves behind is the definition's; an error carries the definition's fault, or
-- no fault if memory ran out
abbrev pub Leaves : {X A : Type 0} → Result X FontFault → A → Result A Fault → Type 0
Leaves result new wanted = GivesUnless font_fault (λ x. new) result wanted

-- the fault of the font that stopped the drawing of a line
abbrev pub draw_font_fault : DrawFault → Option Fault
draw_font_fault (draw.Font f) = Some f
draw_font_fault (draw.Job j) = None
draw_font_fault draw.Memory = None

-- the fault of the job that stopped the drawing of a line
abbrev pub draw_job_fault : DrawFault → Option JobFault
draw_job_fault (draw.Font f) = None
draw_job_fault (draw.Job j) = Some j
draw_job_fault draw.Memory = None

-- a font fault that stopped a part of a drawing stops the drawing
abbrev pub draw_fault_of_font : FontFault → DrawFault
draw_fault_of_font (fault.Font f) = draw.Font f
draw_fault_of_font fault.Memory = draw.Memory

-- for a call that allocates and finds no defect of the font: its result is the definition's, unless memory ran out
abbrev pub JobGives : {X Y : Type 0} → (X → Y) → Result X DrawFault → Result Y JobFault → Type 0
JobGives view (Ok x) wanted = wanted ≡ Ok (view x)
JobGives view (Err (draw.Font f)) wanted = ⊥
JobGives view (Err (draw.Job j)) wanted = wanted ≡ Err j
JobGives view (Err draw.Memory) wanted = Unit {0}
