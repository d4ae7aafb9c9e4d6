use Rattle.std.proofs.Common.{◌≡◌, ◌∙◌, sym}
use Rattle.std.proofs.lemmas.Result.{IfOk-weaker}
use Rattle.tt_scan_gaps.specs.Dots.{asks, asks_by_rows}
use Rattle.tt_scan_gaps.proofs.SmallContours.{asks_by_columns}
use Rattle.tt_scan_gaps.proofs.dots.asks.Goals as goal

pub returns : goal.returns
returns c =
    let es = c.args.edges.now in
    let ts = c.deref.result.now in
    let none = sym c.in_ok-asks_by_rows.ensures ∙ c.if-branch.false in
    IfOk-weaker c.asks_by_rows-2.result (λ r. r ≡ asks_by_rows c.args.stubs ts) (λ r. r ≡ asks c.args.stubs es)
    (λ r is. asks_by_columns c.args.stubs es ts r none (c.deref.ensures.value ∙ c.in_ok-turned.ensures.exact) is) c.asks_by_rows-2.ensures
