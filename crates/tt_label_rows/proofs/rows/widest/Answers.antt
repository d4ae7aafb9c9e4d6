use Rattle.std.proofs.Common.{◌≡◌, ◌<◌, ◌≤◌, ◌^◌, ◌-◌, get_or, length, sym, take, arith}
use Rattle.std.proofs.lemmas.List.{drop_more, take_all, take_more}
use Rattle.std.proofs.lemmas.List.Elements.{All-push, All-weaker}
use Rattle.tt_line.specs.Labels.{greater, width_of}
use Rattle.tt_label_rows.proofs.rows.widest.Goals as goal

pub loop-row-preserved : goal.loop-row-preserved
loop-row-preserved c =
    let at = c.loop-row in
    let so_far = at.invariant in
    let lines = c.args.rows.now in
    let i = at.row-index in
    let line = c.row-item.result in
    let below : i < length lines = c.loop-row-test.true in
    let here : get_or lines i line ≡ line = sym c.row-item.is in
    let sum : c.width_of.result ≡ width_of line.items = rw c.deref.ensures.value at c.width_of.ensures.exact in
    let new : c.greater-most.result ≡ greater at.most (width_of line.items) = rw sum at c.greater-most.ensures.exact in
    let wide : width_of line.items ≤ c.greater-most.result = rw sum at c.greater-most.ensures.second in
    record {
      rest = rw new (rw (drop_more lines i line below, here) at so_far.rest);
      bound = let most = c.greater-most.ensures.least (2 ^ 45 - 1) (omega (arith, so_far.bound)) (omega (arith, c.width_of.ensures.bound)) in
          omega (arith, most);
      least = rw (take_more lines i line below, here) (All-push (λ v. width_of v.items ≤ c.greater-most.result) (take i lines) line
          (All-weaker (λ v. width_of v.items ≤ at.most) (λ v. width_of v.items ≤ c.greater-most.result)
          (λ v low. omega (arith, low, c.greater-most.ensures.first)) (take i lines) so_far.least) wide);
    }

pub returns-clause-least : goal.returns-clause-least
returns-clause-least c =
    let lines = c.args.rows.now in
    let over : length lines ≤ c.loop-row.row-index = omega (arith, c.loop-row-test.false) in
    rw (take_all c.loop-row.row-index lines over) at c.loop-row.invariant.least
