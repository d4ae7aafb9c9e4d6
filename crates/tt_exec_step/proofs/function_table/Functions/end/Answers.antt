use Rattle.std.proofs.Common.{◌≡◌, ◌∙◌, sym, refl, ℕ, zero, suc, ◌≤◌, pos, map, List, [], ◌∷◌, length, slice_get, None, arith}
use Rattle.tt_exec_step.specs.FunctionTable.{body_at}
use Rattle.tt_exec_step.specs.Views.{body_of}
use Rattle.tt_exec_step.proofs.Entries.{number_at}
use Rattle.tt_exec_step.proofs.function_table.Functions.end.Goals as goal

none_past : (ps : List ℕ) (n : ℕ) → length ps ≤ n → slice_get ps n ≡ None
none_past [] n past = refl
none_past (p ∷ ps) zero past = absurd (omega arith)
none_past (p ∷ ps) (suc n) past = none_past ps n (omega arith)

pub returns-clause-none : goal.returns-clause-none
returns-clause-none c = λ n past few.
    let places = c.self.inside.places.items in
    let bodies = map body_of c.self.inside.bodies.items in
    let after : length places ≤ n = omega (arith, c.len.ensures) in
    let none : body_at n places bodies ≡ None = rw (none_past places n after) refl in
    rw (← c.self.view_is) (sym (number_at (pos n) n places bodies refl few) ∙ none)

pub returns-clause-exact : goal.returns-clause-exact
returns-clause-exact c = rw (← c.self.view_is) (omega (arith, c.len.ensures, c.self.invariant.ended))
