-- The result of a call that reads a glyph, by the definition's.
use Rattle.std.proofs.Common.{◌≡◌, Result, Ok, Err}
use Rattle.std.specs.Prelude.{IfOk}
use Rattle.tt_core.specs.declared.font_fault.FontFault.{FontFault}
use Rattle.tt_core.specs.Faults.{Fault}
use Rattle.tt_core.specs.Outcomes.{FontGives}
use Rattle.tt_glyf.specs.declared.raw.Raw as declared
use Rattle.tt_glyf.specs.Raw.{Raw, raw_view}

pub if-read : (result : Result declared.Raw FontFault) (wanted : Result Raw Fault) (P : Raw → Type 0)
    → FontGives raw_view result wanted → ((d : Raw) → wanted ≡ Ok d → P d) → IfOk result (λ r. P (raw_view r))
if-read (Ok r) wanted P gives holds = holds (raw_view r) gives
if-read (Err e) wanted P gives holds = tt
