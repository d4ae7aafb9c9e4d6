use Rattle.std.proofs.Common.{◌≡◌, ◌∙◌, map, take, sym, arith}
use Rattle.std.proofs.lemmas.List.{length-map, length-take-le}
use Rattle.tt_kern.specs.Listed.{subtable_of}
use Rattle.tt_kern.proofs.pairs.list.PairList.count.Goals as goal

pub returns-clause-exact : goal.returns-clause-exact
returns-clause-exact c =
    let k = c.self.inside.count in
    let codes = c.self.inside.codes in
    let v : map subtable_of (take k codes) ≡ c.args.self.now = c.self.view_is in
    let all = length-map (take k codes) subtable_of ∙ length-take-le k codes (omega (arith, c.self.invariant.0, c.self.invariant.1)) in
    sym (rw v at all)
