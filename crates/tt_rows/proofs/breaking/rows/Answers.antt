use Rattle.std.proofs.Common.{◌≡◌, sym, ◌<◌, ◌≤◌, ℕ, [], length, refl, arith}
use Rattle.std.proofs.lemmas.Bool.{cond-false, ne_eqb}
use Rattle.std.proofs.lemmas.Bool.Decides.{nat_tests}
use Rattle.std.proofs.lemmas.List.{length_push}
use Rattle.std.proofs.lemmas.List.Elements.{All-nil, All-push}
use Rattle.tt_rows.specs.declared.row.LineRow.{LineRow}
use Rattle.tt_rows.specs.Rows.{one_at_least, row_from}
use Rattle.tt_rows.proofs.RowLoops.{all_made, empty_rows, none_made, one_made}
use Rattle.tt_rows.proofs.breaking.rows.Goals as goal

abbrev IsDrawn : ℕ → LineRow → Type 0
IsDrawn n r = (r.from ≤ r.until) × (r.until ≤ n)

pub loop-from-init : goal.loop-from-init
loop-from-init c =
    let none = c.new-made.ensures.items in
    record {
      left = rw none (none_made c.args.line.now c.args.room);
      within = rw none (All-nil (IsDrawn (length c.args.line.now)));
      count = rw none (omega arith);
      inside = omega arith;
    }

pub loop-from-preserved : goal.loop-from-preserved
loop-from-preserved c =
    let at = c.loop-from in
    let was = at.invariant in
    let line = c.args.line.now in
    let some : at.from < length line = omega (arith, c.loop-from-test.true) in
    let row = c.row_from-row.ensures.exact in
    let order = c.row_from-row.ensures.drawn in
    let next = c.row_from-row.ensures.bound in
    let above = c.row_from-row.ensures.after in
    let after : at.from < (row_from line c.args.room at.from).next = rw row at above in
    let pushed = c.in_ok-push-2.ensures.items in
    let long = length_push at.made.items c.row_from-row.result in
    record {
      left = rw (pushed, row) (one_made line c.args.room at.made.items at.from some after was.left);
      within = rw pushed (All-push (IsDrawn (length line)) at.made.items c.row_from-row.result was.within (order.0, omega (arith, order.1, next)));
      count = let few = was.count in rw pushed (omega (arith, long, few, above));
      inside = next;
    }

some_units : (n : ℕ) → 0 < n → one_at_least n ≡ n
some_units n some = cond-false _ _ _ (ne_eqb n 0 (λ none. omega (arith, some, none)))

pub returns-clause-exact : goal.returns-clause-exact
returns-clause-exact c =
    let at = c.loop-from in
    let line = c.args.line.now in
    let over : length line ≤ at.from = omega (arith, c.loop-from-test.false) in
    let some : 0 < length line = grind (arith, nat_tests, c.if-is_empty.ensures, c.if-is_empty.false) in
    all_made line c.args.room at.made.items at.from some over at.invariant.left

pub returns-clause-count : goal.returns-clause-count
returns-clause-count c =
    let at = c.loop-from in
    let some : 0 < length c.args.line.now = grind (arith, nat_tests, c.if-is_empty.ensures, c.if-is_empty.false) in
    let few = at.invariant.count in
    let inside = at.invariant.inside in
    rw (some_units (length c.args.line.now) some) (omega (arith, few, inside))

pub returns-then-is_empty-clause-exact : goal.returns-then-is_empty-clause-exact
returns-then-is_empty-clause-exact c =
    let line = c.args.line.now in
    let none : length line ≡ 0 = grind (arith, nat_tests, c.if-is_empty.ensures, c.if-is_empty.true) in
    rw (c.in_ok-push.ensures.items, c.new-made.ensures.items) (sym (empty_rows line c.args.room none))

pub returns-then-is_empty-clause-within : goal.returns-then-is_empty-clause-within
returns-then-is_empty-clause-within c =
    rw (c.in_ok-push.ensures.items, c.new-made.ensures.items)
    (All-push (IsDrawn (length c.args.line.now)) [] _ (All-nil (IsDrawn (length c.args.line.now))) (omega arith, omega arith))

pub returns-then-is_empty-clause-count : goal.returns-then-is_empty-clause-count
returns-then-is_empty-clause-count c =
    let none : length c.args.line.now ≡ 0 = grind (arith, nat_tests, c.if-is_empty.ensures, c.if-is_empty.true) in
    rw (c.in_ok-push.ensures.items, c.new-made.ensures.items, none) (omega arith)
