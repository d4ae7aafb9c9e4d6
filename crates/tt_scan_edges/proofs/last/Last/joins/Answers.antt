use Rattle.std.proofs.Common.{◌≡◌, Bool, true, false, ◌&&◌}
use Rattle.tt_scan_edges.specs.Joined.{goes_on, is_clear, join, leads_to}
use Rattle.tt_scan_edges.proofs.last.Last.joins.Goals as goal

-- three tests fail where the last of them does
last_fails : (a b c r : Bool) → r ≡ c → r ≡ false → r ≡ (a && (b && c))
last_fails true true c r is off = is
last_fails true false c r is off = off
last_fails false b c r is off = off

pub returns-else-goes_on : goal.returns-else-goes_on
returns-else-goes_on c =
    let e = c.self.inside.edge in
    let f = c.args.next in
    rw (← c.self.view_is) (last_fails (leads_to e f) (is_clear (join e f)) (goes_on e f) c.goes_on.result c.goes_on.ensures c.if-goes_on.false)
