use Rattle.std.proofs.Common.{SFits, w64}
use Rattle.std.proofs.lemmas.Int.{to_z-of_z}
use Rattle.tt_bitmap.proofs.Shares.{IsShared, lies_shared, row_shared}
use Rattle.tt_bitmap.proofs.shared.rows_shared.Goals as goal

pub returns-clause-lies : goal.returns-clause-lies
returns-clause-lies c = λ i below.
    let top : SFits w64 c.args.top = c.ranges.top in
    let line : SFits w64 c.args.line = c.ranges.line in
    let shared : IsShared c.args.top c.args.line c.args.height c.args.rows c.distance-first.result c.distance-own.result c.min.result = record {
      above = simp to_z-of_z at c.distance-first.ensures.before;
      from = simp to_z-of_z at c.distance-first.ensures.past;
      under = simp to_z-of_z at c.distance-own.ensures.before;
      beside = simp to_z-of_z at c.distance-own.ensures.past;
      first_most = c.distance-first.ensures.most;
      own_most = c.distance-own.ensures.most;
      is_count = c.min.ensures;
    } in
    lies_shared c.args.top c.args.line c.args.height c.args.rows c.distance-first.result c.distance-own.result c.min.result i shared below

pub returns-clause-row : goal.returns-clause-row
returns-clause-row c = λ i from to.
    let top : SFits w64 c.args.top = c.ranges.top in
    let line : SFits w64 c.args.line = c.ranges.line in
    let shared : IsShared c.args.top c.args.line c.args.height c.args.rows c.distance-first.result c.distance-own.result c.min.result = record {
      above = simp to_z-of_z at c.distance-first.ensures.before;
      from = simp to_z-of_z at c.distance-first.ensures.past;
      under = simp to_z-of_z at c.distance-own.ensures.before;
      beside = simp to_z-of_z at c.distance-own.ensures.past;
      first_most = c.distance-first.ensures.most;
      own_most = c.distance-own.ensures.most;
      is_count = c.min.ensures;
    } in
    row_shared c.args.top c.args.line c.args.height c.args.rows c.distance-first.result c.distance-own.result c.min.result i shared from to
