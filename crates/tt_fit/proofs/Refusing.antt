-- A glyph that is tried: what its refusal tells.
use Rattle.std.proofs.Common.{Option, None, Some, Result, Ok, Err, OnOk}
use Rattle.std.specs.Prelude.{IfOk, IfSome}
use Rattle.std.specs.declared.alloc.AllocError.{AllocError}
use Rattle.tt_core.specs.declared.font_fault.FontFault.{FontFault}
use Rattle.tt_core.specs.Faults.{Fault}
use Rattle.tt_core.specs.Outcomes.{font_fault}
use Rattle.tt_fit.specs.declared.tried.TriedOutline.{TriedOutline}
use Rattle.tt_fit.specs.declared.tried.TriedOutline.TheVariants as tried
use Rattle.tt_fit.specs.Tried.{IfRefused, IsRefusedBy}

pub refusal_tells : (r : Result TriedOutline AllocError) (fault : FontFault) (P : Fault → Type 0) → IfOk r (IsRefusedBy fault)
    → IfSome (font_fault fault) P → IfOk r (λ t. IfRefused t P)
refusal_tells (Ok (tried.Made o)) fault P never told = tt
refusal_tells (Ok (tried.Refused f)) fault P is told = rw is at told
refusal_tells (Err e) fault P is told = tt

pub where_refused : (r : Result TriedOutline AllocError) (fault : FontFault) (Q : Type 0) → IfOk r (IsRefusedBy fault)
    → IfSome (font_fault fault) (λ f. Q) → OnOk r Q
where_refused (Ok (tried.Made o)) fault Q never told = absurd never
where_refused (Ok (tried.Refused f)) fault Q is told = rw is at told
where_refused (Err e) fault Q is told = tt

pub some_then : (o : Option Fault) (P Q : Type 0) → (P → Q) → IfSome o (λ f. P) → IfSome o (λ f. Q)
some_then None P Q next holds = tt
some_then (Some f) P Q next holds = next holds
