use Rattle.std.proofs.Common.{◌≡◌, ◌∙◌, ap, ℕ, ◌+◌, ◌<◌, ◌≤◌, List, [], ◌∷◌, ◌++◌, append-nil, ◌||◌, Vec, Global, get_or, length, map, sym, take, refl, arith}
use Rattle.std.proofs.lemmas.Grind.{flat_map-append}
use Rattle.std.proofs.lemmas.List.{map_push, take_all, take_more}
use Rattle.std.proofs.lemmas.List.Sums.{sum_by_push}
use Rattle.std.specs.List.{sum_by}
use Rattle.tt_rows.specs.Rows.{one_at_least}
use Rattle.tt_label_rows.proofs.Broken.{any_last}
use Rattle.tt_label_rows.specs.Rows.{breaks_line, line_rows, text_rows}
use Rattle.tt_rows.specs.declared.unit.RowUnit.{RowUnit}
use Rattle.tt_label_rows.proofs.rows.text_rows.Goals as goal

pub push_rows-requires : goal.push_rows-requires
push_rows-requires c =
    let line = c.line-item.result in
    let here : get_or c.args.lines.now c.loop-line.line-index line ≡ line = sym c.line-item.is in
    rw c.deref.ensures.value (rw here at (c.requires c.loop-line.line-index line c.loop-line-test.true))

pub loop-line-preserved : goal.loop-line-preserved
loop-line-preserved c =
    let at = c.loop-line in
    let lines = c.args.lines.now in
    let i = at.line-index in
    let line = c.line-item.result in
    let its : Vec RowUnit Global → List RowUnit = λ v. v.items in
    let below : i < length lines = c.loop-line-test.true in
    let here : get_or lines i line ≡ line = sym c.line-item.is in
    let before = map its (take i lines) in
    let more : map its (take (i + 1) lines) ≡ before ++ line.items ∷ [] = rw (take_more lines i line below, here) (map_push its (take i lines) line) in
    record {
      rows = rw (c.in_ok-push_rows.ensures.rows, at.invariant.rows, c.deref.ensures.value, more, flat_map-append (line_rows c.args.room) before (line.items ∷ []))
          (ap (λ (rs : List (List (ℕ × ℕ))). text_rows c.args.room before ++ rs) (sym (append-nil (line_rows c.args.room line.items))));
      broken = rw (c.in_ok-push_rows.ensures.broken, at.invariant.broken, c.deref.ensures.value, more)
          (sym (any_last (breaks_line c.args.room) before line.items));
      count = let sums : sum_by (λ (v : Vec RowUnit Global). one_at_least (length v.items)) (take (i + 1) lines) ≡ sum_by (λ (v : Vec RowUnit Global). one_at_least (length v.items)) (take i lines) + one_at_least (length line.items) =
          rw (take_more lines i line below, here) (sum_by_push (λ (v : Vec RowUnit Global). one_at_least (length v.items)) (take i lines) line) in
          let few = at.invariant.count in
          let added = rw c.deref.ensures.value at c.in_ok-push_rows.ensures.count in
          omega (arith, sums, few, added);
      short = c.in_ok-push_rows.ensures.short at.invariant.short;
    }

pub returns-clause-rows : goal.returns-clause-rows
returns-clause-rows c =
    let lines = c.args.lines.now in
    let over : length lines ≤ c.loop-line.line-index = omega (arith, c.loop-line-test.false) in
    rw (take_all c.loop-line.line-index lines over) at c.loop-line.invariant.rows

pub returns-clause-broken : goal.returns-clause-broken
returns-clause-broken c =
    let lines = c.args.lines.now in
    let over : length lines ≤ c.loop-line.line-index = omega (arith, c.loop-line-test.false) in
    rw (take_all c.loop-line.line-index lines over) at c.loop-line.invariant.broken

pub returns-clause-count : goal.returns-clause-count
returns-clause-count c =
    let lines = c.args.lines.now in
    let over : length lines ≤ c.loop-line.line-index = omega (arith, c.loop-line-test.false) in
    rw (take_all c.loop-line.line-index lines over) at c.loop-line.invariant.count
