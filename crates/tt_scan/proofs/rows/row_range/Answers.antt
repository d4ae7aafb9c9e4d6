use Rattle.std.proofs.Common.{◌≡◌, pos, to_z, ◌∙◌, sym, ◌-ℤ◌, SFits, w32, rules, arith}
use Rattle.std.proofs.lemmas.Int.{ints, to_z-of_z}
use Rattle.tt_scan_edges.proofs.Ranges.{downwards}
use Rattle.tt_scan.proofs.rows.row_range.Goals as goal

pub returns-in-Some : goal.returns-in-Some
returns-in-Some c =
    let low : SFits w32 c.in-Some.low = search rules in
    let high : SFits w32 c.in-Some.high = search rules in
    let top : SFits w32 c.top_line-top.result = search rules in
    let from : SFits w32 (c.top_line-top.result -ℤ c.in-Some.high) = omega (arith, ints, c.top_line-top.ensures.small, c.in-Some.ensures.high) in
    let past : SFits w32 (c.top_line-top.result -ℤ c.in-Some.low) = omega (arith, ints, c.top_line-top.ensures.small, c.in-Some.ensures.low) in
    let height : to_z w32 c.args.frame.height ≡ pos c.args.frame.height = omega (arith, ints, c.requires.frame.height_high) in
    let met = c.in-Some.ensures.exact in
    let cut = rw height at (simp to_z-of_z at c.within.ensures.met) in
    record {
      met = λ row from below.
          sym (rw (← c.top_line-top.ensures.exact) (met (c.top_line-top.result -ℤ row)))
          ∙ downwards c.top_line-top.result c.in-Some.low c.in-Some.high row ∙ cut row from (omega (arith, ints));
      low = c.within.ensures.low;
      order = c.within.ensures.order;
      high = omega (arith, ints, height, c.within.ensures.high);
    }
