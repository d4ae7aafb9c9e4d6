use Rattle.std.proofs.Common.{◌≡◌, ◌∙◌, ◌<◌, ◌≤◌, length, map, take, arith}
use Rattle.std.proofs.lemmas.List.{length-map, length-take-le}
use Rattle.tt_kern.specs.Listed.{subtable_of}
use Rattle.tt_kern.proofs.Codes.{next}
use Rattle.tt_kern.proofs.pairs.list.PairList.get.Goals as goal

pub returns-clause-next : goal.returns-clause-next
returns-clause-next c =
    let k = c.self.inside.count in
    let codes = c.self.inside.codes in
    let v : map subtable_of (take k codes) ≡ c.args.self.now = c.self.view_is in
    let all = length-map (take k codes) subtable_of ∙ length-take-le k codes (omega (arith, c.self.invariant.0, c.self.invariant.1)) in
    let count = rw v at all in
    let below : c.args.i < k = omega (arith, count, c.requires) in
    let within : k ≤ length codes = omega (arith, c.self.invariant.0, c.self.invariant.1) in
    rw v at (next subtable_of codes c.args.i k below within)
