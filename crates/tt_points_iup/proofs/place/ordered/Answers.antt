use Rattle.std.proofs.Common.{SFits, w32, w64, rules}
use Rattle.std.proofs.lemmas.Int.{to_z-of_z}
use Rattle.tt_points_iup.proofs.place.ordered.Goals as goal

pub invariant_of-result : goal.invariant_of-result
invariant_of-result c =
    let low_cur : SFits w32 c.args.lo.cur = search rules in
    let high_cur : SFits w32 c.args.hi.cur = search rules in
    let low_from : SFits w32 c.args.lo.from = search rules in
    let high_from : SFits w32 c.args.hi.from = search rules in
    let multiplier : SFits w64 c.multiplier.result = search rules in
    let divisor : SFits w64 c.divisor.result = search rules in
    let way = simp to_z-of_z at c.distance_between-way.ensures.exact in
    let range = simp to_z-of_z at c.distance_between-range.ensures.exact in
    simp to_z-of_z (record {
      are = record {
        low = c.requires.low;
        high = c.requires.high;
        multiplied = rw (way, range) at c.multiplier.ensures.exact;
        divided = rw range at c.divisor.ensures;
        few = c.multiplier.ensures.few;
      };
    })
