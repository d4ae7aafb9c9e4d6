use Rattle.std.proofs.Common.{◌≡◌, ℕ, ℤ, List, [], ◌∷◌, ◌++◌, length, reverse, Option, Some, None, refl, arith}
use Rattle.std.specs.Option.{MatchOption, ok_or, option_to_list}
use Rattle.std.proofs.lemmas.List.{reverse-append}
use Rattle.tt_core.specs.declared.fault.Why.TheVariants as why
use Rattle.tt_exec_stack.specs.Stack.{Pops}
use Rattle.tt_exec_stack.proofs.stack.Stack.pop.Goals as goal

-- the last element of a list is the top of its stack
last_is_top : (old left : List ℤ) (n m : ℕ) (P : ℤ → Type 0) (o : Option ℤ) → n ≡ length old
    → old ≡ left ++ option_to_list o → MatchOption o ((n ≡ 0) × (m ≡ 0)) P
    → Pops (reverse old) (ok_or o why.StackShort) (reverse left)
last_is_top old left n m P (Some x) many is cases = rw (is, reverse-append) refl
last_is_top [] left n m P None many is cases = (refl, refl)
last_is_top (x ∷ xs) left n m P None many is cases = absurd (omega (arith, cases.0))

pub returns-clause-exact : goal.returns-clause-exact
returns-clause-exact c =
    let taken = last_is_top _ _ _ _ _ c.pop.result c.self.inside.items.ok.0 c.pop.ensures.items c.pop.ensures.cases in
    rw (← c.self.view_is, c.ok_or.ensures.value) taken
