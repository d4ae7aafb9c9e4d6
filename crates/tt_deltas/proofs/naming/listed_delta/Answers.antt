use Rattle.std.proofs.Common.{◌∙◌, ◌<◌, length, get_or, pos, SFits, w16, sym, rules, arith}
use Rattle.std.proofs.lemmas.Int.{to_z-of_z}
use Rattle.tt_deltas.proofs.Listed.{at_place, no_place, passed_by, past_all}
use Rattle.tt_deltas.proofs.naming.listed_delta.Goals as goal
use Rattle.tt_deltas.proofs.naming.listed_delta.Goals.{else-next-numbers-via-then-next-numbers+else-from-i, else-next-numbers-via-else-next-numbers}

pub returns-then-from-i-clause-exact : goal.returns-then-from-i-clause-exact
returns-then-from-i-clause-exact c =
    let deltas = c.args.deltas.now in
    let k = c.args.next in
    let there : k < length deltas = omega (arith, c.if-next-numbers.true, c.requires.deltas) in
    let fits : SFits w16 (get_or deltas k (pos 0)) = search rules in
    let found = at_place c.args.numbers.now deltas c.args.i k c.if-next-numbers.true c.requires.deltas
    c.requires.place.before (sym c.from.ensures ∙ c.if-from-i.true) in
    simp to_z-of_z (sym found)

pub returns-clause-exact : goal.returns-clause-exact
returns-clause-exact c =
    let numbers = c.args.numbers.now in
    let place = c.requires.place in
    sym (no_place numbers c.args.deltas.now c.args.i (λ j there same. elim c.else-next-numbers.branch [
      | else-next-numbers-via-then-next-numbers+else-from-i w ↦
          passed_by numbers c.args.i c.args.next j c.requires.rising place w.if-next-numbers.true
          (λ is. w.if-from-i.false (w.from.ensures ∙ is)) there same
      | else-next-numbers-via-else-next-numbers w ↦ past_all numbers c.args.i c.args.next j place w.if-next-numbers.false
          there same
    ]))
