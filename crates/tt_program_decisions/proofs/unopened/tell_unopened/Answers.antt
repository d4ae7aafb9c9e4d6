use Rattle.std.proofs.Common.{◌≡◌, ◌∙◌, Option, Some, None, sym}
use Rattle.tt_program_decisions.specs.declared.unfound.PathHint.{PathHint}
use Rattle.tt_program_decisions.specs.Unopened.{opening_text}
use Rattle.tt_program_decisions.proofs.unopened.tell_unopened.Goals as goal

pub returns-in-None-clause-told : goal.returns-in-None-clause-told
returns-in-None-clause-told g c =
    rw (← c.hint_of_open.ensures, c.in-None.is)
    (rw c.stop_of_open.ensures at c.tell_stop.ensures.status, rw c.stop_of_open.ensures at c.tell_stop.ensures.text)

pub returns-in-None-clause-plain : goal.returns-in-None-clause-plain
returns-in-None-clause-plain g c none =
    (rw c.stop_of_open.ensures at c.tell_stop.ensures.status, rw c.stop_of_open.ensures at c.tell_stop.ensures.text)

pub returns-in-Some-clause-told : goal.returns-in-Some-clause-told
returns-in-Some-clause-told g c =
    rw (← c.hint_of_open.ensures, c.in-Some.is)
    (rw c.font.ensures at
    (c.tell_text.ensures.told (opening_text c.font.result.now c.in-Some.hint) c.opening_text.ensures))

never : (o : Option PathHint) (h : PathHint) → o ≡ Some h → o ≡ None → ⊥
never o h some none = cc

pub returns-in-Some-clause-plain : goal.returns-in-Some-clause-plain
returns-in-Some-clause-plain g c none =
    absurd (never _ c.in-Some.hint (sym c.hint_of_open.ensures ∙ c.in-Some.is) none)
