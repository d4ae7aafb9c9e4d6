use Rattle.std.proofs.Common.{◌≡◌, true, false, int_lt, SFits, w32, w64, rules, arith}
use Rattle.std.proofs.lemmas.Int.{ints, to_z-of_z}
use Rattle.tt_scan_edges.specs.Joined.{IsTest, line_at, line_below}
use Rattle.tt_scan_edges.proofs.Lines.{far_tells, open_tells}
use Rattle.tt_scan_edges.proofs.last.open_line.Goals as goal

pub returns-then-line-from : goal.returns-then-line-from
returns-then-line-from c =
    let v : SFits w32 c.args.v = search rules in
    let wide : SFits w64 c.args.v = omega (arith, ints, v) in
    let fits : SFits w64 c.line_below-line.result = search rules in
    let small = c.line_below-line.ensures.small in
    let is : c.line_below-line.result ≡ line_at (line_below c.args.v) = simp to_z-of_z at c.line_below-line.ensures.exact in
    let past : int_lt (line_at (line_below c.args.v)) c.args.v ≡ true =
    rw (← is) (simp to_z-of_z at (rw c.from.ensures at c.if-line-from.true)) in
    let test : IsTest c.args.v (line_at (line_below c.args.v)) = record {
      small = rw (← is) (omega (arith, small));
      tells = λ b few. open_tells c.args.v b past;
    } in
    simp to_z-of_z (rw is test)

pub returns-else-line-from : goal.returns-else-line-from
returns-else-line-from c =
    let v : SFits w32 c.args.v = search rules in
    let wide : SFits w64 c.args.v = omega (arith, ints, v) in
    let fits : SFits w64 c.line_below-line.result = search rules in
    let is : c.line_below-line.result ≡ line_at (line_below c.args.v) = simp to_z-of_z at c.line_below-line.ensures.exact in
    let on : int_lt (line_at (line_below c.args.v)) c.args.v ≡ false =
    rw (← is) (simp to_z-of_z at (rw c.from.ensures at c.if-line-from.false)) in
    record {
      small = omega arith;
      tells = λ b few. far_tells c.args.v b on few;
    }
