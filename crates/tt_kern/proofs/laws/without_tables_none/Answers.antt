use Rattle.std.proofs.Common.{refl}
use Rattle.tt_kern.specs.Feature.{feature_of}
use Rattle.tt_kern.specs.KernTable.{kern_sum}
use Rattle.tt_kern.specs.Words.{word, long}
use Rattle.tt_kern.proofs.laws.without_tables_none.Goals as goal

pub returns : goal.returns
unfolding word long feature_of kern_sum
returns c = λ v g h. refl
