-- No part of the standard: a glyph's outline, or the fault that refuses the outline.
use Rattle.std.specs.Prelude.{◌≡◌, Some, Result, Ok, Err, ⊤}
use Rattle.tt_core.specs.declared.font_fault.FontFault.{FontFault}
use Rattle.tt_core.specs.Faults.{Fault}
use Rattle.tt_core.specs.Outcomes.{font_fault}
use Rattle.tt_fit.specs.declared.tried.TriedOutline.{TriedOutline}
use Rattle.tt_fit.specs.declared.tried.TriedOutline.TheVariants as tried
use Rattle.tt_fit_outline.specs.declared.outline.Outline as declared
use Rattle.tt_fit_outline.specs.Outline.{Outline}
use Rattle.tt_fit_outline.specs.Views.{outline_of}

abbrev pub outcome_of : TriedOutline → Result Outline Fault
outcome_of (tried.Made o) = Ok (outline_of o)
outcome_of (tried.Refused fault) = Err fault

abbrev pub IfMade : TriedOutline → (declared.Outline → Type 0) → Type 0
IfMade (tried.Made o) P = P o
IfMade (tried.Refused fault) P = ⊤

abbrev pub IfRefused : TriedOutline → (Fault → Type 0) → Type 0
IfRefused (tried.Made o) P = ⊤
IfRefused (tried.Refused fault) P = P fault

-- refused for a fault of the font
abbrev pub IsRefusedBy : FontFault → TriedOutline → Type 0
IsRefusedBy fault (tried.Made o) = ⊥
IsRefusedBy fault (tried.Refused f) = font_fault fault ≡ Some f
