use Rattle.std.proofs.Common.{◌<◌, ◌≤◌, sym, arith}
use Rattle.tt_cmap.specs.Ranges.{subtable_view, range_count, reaches, ends_read}
use Rattle.tt_cmap.specs.Halves.{reached}
use Rattle.tt_cmap.proofs.Halves.{found, nothing-found}
use Rattle.tt_cmap.proofs.subtable.Subtable.search.Goals as goal

pub returns-then-i-count-clause-exact : goal.returns-then-i-count-clause-exact
returns-then-i-count-clause-exact c =
    let s = subtable_view c.args.self.now in
    let below : reached (range_count s) (reaches s c.args.c) < range_count s
    = rw (c.reach-i.ensures.exact, c.count.ensures.exact) at c.if-i-count.true in
    rw c.reach-i.ensures.exact (sym (found s c.args.c c.requires.rises below))

pub returns-then-i-count-clause-count : goal.returns-then-i-count-clause-count
unfolding ends_read
returns-then-i-count-clause-count c = c.reach-i.ensures.count

pub returns-then-i-count-clause-few : goal.returns-then-i-count-clause-few
unfolding ends_read
returns-then-i-count-clause-few c = c.reach-i.ensures.few

pub returns-else-i-count-clause-exact : goal.returns-else-i-count-clause-exact
returns-else-i-count-clause-exact c =
    let s = subtable_view c.args.self.now in
    let past : c.count.result ≤ c.reach-i.result = omega (arith, c.if-i-count.false) in
    let past : range_count s ≤ reached (range_count s) (reaches s c.args.c)
    = rw (c.reach-i.ensures.exact, c.count.ensures.exact) at past in
    sym (nothing-found s c.args.c c.requires.rises past)

pub returns-else-i-count-clause-count : goal.returns-else-i-count-clause-count
unfolding ends_read
returns-else-i-count-clause-count c = c.reach-i.ensures.count

pub returns-else-i-count-clause-few : goal.returns-else-i-count-clause-few
unfolding ends_read
returns-else-i-count-clause-few c = c.reach-i.ensures.few
