use Rattle.std.proofs.Common.{◌≡◌, replicate, arith}
use Rattle.std.proofs.lemmas.List.{length-replicate}
use Rattle.tt_strike.proofs.Cleared.{of_none, of_zeros}
use Rattle.tt_strike.proofs.place_table.PlaceTable.take.Goals as goal

pub returns-then-len-count-clause-room : goal.returns-then-len-count-clause-room
returns-then-len-count-clause-room c =
    let long = c.self.inside.spare.ok.0 in
    rw c.replace.ensures.value (omega (arith, c.len.ensures, long, c.if-len-count.true))

pub returns-then-len-count-clause-clear : goal.returns-then-len-count-clause-clear
returns-then-len-count-clause-clear c = rw c.replace.ensures.value c.self.invariant

pub invariant_of-self : goal.invariant_of-self
invariant_of-self c = rw (c.replace.ensures.after, c.new.ensures.items) of_none

pub returns-clause-room : goal.returns-clause-room
returns-clause-room c =
    let zeros : c.in_ok-made.made.items ≡ replicate c.args.count 0 = c.in_ok-made.ensures.items_if_clones_equal (λ x is. is) in
    rw zeros (length-replicate c.args.count 0)

pub returns-clause-clear : goal.returns-clause-clear
returns-clause-clear c =
    let zeros : c.in_ok-made.made.items ≡ replicate c.args.count 0 = c.in_ok-made.ensures.items_if_clones_equal (λ x is. is) in
    rw zeros (of_zeros c.args.count)
