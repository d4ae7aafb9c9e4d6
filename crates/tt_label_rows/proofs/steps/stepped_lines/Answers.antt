use Rattle.std.proofs.Common.{◌≡◌, ◌<◌, ◌≤◌, List, Vec, Global, get_or, length, map, sym, take, refl, arith}
use Rattle.std.proofs.lemmas.List.{map_push, take_all, take_more}
use Rattle.tt_label_rows.specs.Units.{stepped_units}
use Rattle.tt_line.specs.Steps.{step_in_pixels}
use Rattle.tt_rows.specs.declared.unit.RowUnit.{RowUnit}
use Rattle.tt_label_rows.proofs.steps.stepped_lines.Goals as goal

pub stepped_line-requires-clause-known : goal.stepped_line-requires-clause-known
stepped_line-requires-clause-known c =
    let at = c.loop-line in
    let line = c.line-item.result in
    let here : get_or c.args.lines.now at.line-index line ≡ line = sym c.line-item.is in
    rw c.deref.ensures.value (rw here at (c.requires.known at.line-index line c.loop-line-test.true))

pub loop-line-preserved : goal.loop-line-preserved
loop-line-preserved c =
    let at = c.loop-line in
    let lines = c.args.lines.now in
    let i = at.line-index in
    let line = c.line-item.result in
    let its : Vec RowUnit Global → List RowUnit = λ v. v.items in
    let below : i < length lines = c.loop-line-test.true in
    let here : get_or lines i line ≡ line = sym c.line-item.is in
    let step = stepped_units c.args.metrics.now (step_in_pixels c.args.metrics.now c.args.ppem) in
    rw (
      c.in_ok-push.ensures.items,
      map_push its at.made.items _,
      at.invariant,
      c.in_ok-stepped_line.ensures,
      c.deref.ensures.value,
      take_more lines i line below,
      here,
      map_push its (take i lines) line,
      map_push step (map its (take i lines)) line.items,
    ) refl

pub returns : goal.returns
returns c =
    let lines = c.args.lines.now in
    let over : length lines ≤ c.loop-line.line-index = omega (arith, c.loop-line-test.false) in
    rw (take_all c.loop-line.line-index lines over) at c.loop-line.invariant
