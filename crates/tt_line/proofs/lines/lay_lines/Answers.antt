use Rattle.std.proofs.Common.{◌≡◌, ◌∙◌, sym, ap, ℕ, ◌-◌, List, length, map, Vec, Global, SFits, w32, Ok, arith}
use Rattle.std.proofs.lemmas.Int.{ints, to_z-of_z}
use Rattle.std.proofs.lemmas.List.{length-map}
use Rattle.std.proofs.lemmas.Result.{err_from_is_err_and}
use Rattle.tt_line.specs.Labels.{line_step_of, lines_placed, widest}
use Rattle.tt_line.specs.Layout.{rise_of}
use Rattle.tt_line.specs.Outcome.{placement_of}
use Rattle.tt_line.proofs.LabelLines.{extent_at, placement_made, placement_refused}
use Rattle.tt_line.proofs.lines.lay_lines.Goals.{After-label_extent}
use Rattle.tt_line.proofs.lines.lay_lines.Goals as goal

abbrev items_of : List (Vec (ℕ × ℕ) Global) → List (List (ℕ × ℕ))
items_of lines = map (λ (v : Vec (ℕ × ℕ) Global). v.items) lines

step_is : (c : After-label_extent) → c.line_step-step.result ≡ line_step_of c.args.metrics.now c.args.ppem
step_is c =
    let rise_fits : SFits w32 c.rise-rise.result = omega (arith, ints, c.rise-rise.ensures.bound) in
    let depth_fits : SFits w32 c.depth-depth.result = omega (arith, ints, c.depth-depth.ensures.bound) in
    let exact = simp to_z-of_z at c.line_step-step.ensures.exact in
    rw (c.rise-rise.ensures.exact, c.depth-depth.ensures.exact, c.gap.ensures.exact) at exact

inner_is : (c : After-label_extent) → c.widest-inner.result ≡ widest (items_of c.args.lines.items)
inner_is c = rw c.deref.ensures.value at c.widest-inner.ensures.exact

extent_is : (c : After-label_extent) → c.label_extent.result
    ≡ extent_at c.args.metrics.now c.args.ppem c.args.margin (items_of c.args.lines.items)
extent_is c =
    let rise_fits : SFits w32 c.rise-rise.result = omega (arith, ints, c.rise-rise.ensures.bound) in
    let depth_fits : SFits w32 c.depth-depth.result = omega (arith, ints, c.depth-depth.ensures.bound) in
    let many = length-map c.args.lines.items (λ (v : Vec (ℕ × ℕ) Global). v.items) in
    let more : c.saturating_sub-more.result ≡ length (items_of c.args.lines.items) - 1 =
    omega (arith, c.saturating_sub-more.ensures, c.len.ensures, c.args.lines.ok.0, many) in
    let exact = simp to_z-of_z at c.label_extent.ensures.exact in
    rw (inner_is c, c.rise-rise.ensures.exact, c.depth-depth.ensures.exact, step_is c, more) at exact

pub returns-in_err-extent : goal.returns-in_err-extent
returns-in_err-extent c =
    let is = extent_is (goal.at.returns-in_err-extent c).After-label_extent in
    let p = err_from_is_err_and c.from_residual.result c.from_residual.ensures.1 in
    rw (p.1, p.2) (placement_refused c.args.metrics.now c.args.ppem c.args.margin c.args.align (items_of c.args.lines.items) c.in_err-extent.field-0.0
    (rw is at c.in_err-extent.ensures.exact))

pub returns : goal.returns
returns c =
    let all = (goal.at.returns c).After-label_extent in
    let rise_fits : SFits w32 c.rise-rise.result = omega (arith, ints, c.rise-rise.ensures.bound) in
    let placed = simp to_z-of_z at c.in_ok-lay_below.ensures in
    let lines : map placement_of c.in_ok-lay_below.field-0.items
    ≡ lines_placed c.in_ok-extent.extent c.args.align (widest (items_of c.args.lines.items)) (line_step_of c.args.metrics.now c.args.ppem) (rise_of c.args.metrics.now c.args.ppem) (items_of c.args.lines.items) =
    rw (inner_is all, step_is all, c.rise-rise.ensures.exact) at placed in
    placement_made c.args.metrics.now c.args.ppem c.args.margin c.args.align (items_of c.args.lines.items) c.in_ok-extent.extent
    (rw (extent_is all) at c.in_ok-extent.ensures.exact) ∙ ap Ok (sym lines)
