use Rattle.std.proofs.Common.{◌≡◌, ◌+◌, ◌≤◌, length, arith}
use Rattle.tt_core.specs.Limits.{font_limit}
use Rattle.tt_kern.specs.Feature.{feature_of}
use Rattle.tt_kern.specs.Listed.{pairs_of}
use Rattle.tt_kern.specs.Reads.{feature_reads, pairs_reads, opening_reads}
use Rattle.tt_kern.proofs.kerning.Kerning.open.Goals as goal

pub invariant_of-result : goal.invariant_of-result
unfolding pairs_of opening_reads
invariant_of-result c =
    let gpos = c.new-gpos.result in
    let feature = c.feature_of-feature.ensures in
    let listed = c.pairs_of-pairs.ensures in
    let pairs = rw feature.exact at listed.exact in
    let kern : length c.new-kern.result ≤ font_limit = rw c.new-kern.ensures c.requires.kern in
    let of_pairs = rw feature.exact at listed.count in
    let reads : c.count.result ≡ feature_reads gpos + pairs_reads gpos (feature_of gpos)
    = omega (arith, c.none-reads.ensures.exact, feature.count, of_pairs, c.count.ensures.exact) in (
      feature.exact,
      pairs,
      kern,
      reads,
      omega (arith, c.none-reads.ensures.exact, feature.few, listed.few, c.count.ensures.exact),
    )
