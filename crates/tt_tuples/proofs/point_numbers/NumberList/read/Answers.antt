use Rattle.tt_tuples.specs.Views.{store_of}
use Rattle.tt_tuples.proofs.Rising.{read-rises}
use Rattle.tt_tuples.proofs.point_numbers.NumberList.read.Goals as goal

pub returns-clause-numbers : goal.returns-clause-numbers
returns-clause-numbers c =
    let listed = c.if-self.false in
    let count = c.in_ok-count.count in
    rw listed (read-rises (store_of c.args.store.now) c.read_numbers.new.numbers.items count.next count.count c.args.points
    c.read_numbers.result c.read_numbers.ensures.exact c.if-count-points.false)
