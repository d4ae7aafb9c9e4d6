use Rattle.std.proofs.Common.{None}
use Rattle.tt_variation_store.proofs.Shares.{parts, peaks, one-ends}
use Rattle.tt_variation_store.proofs.laws.regions_hold.Goals as goal

pub returns-clause-parts : goal.returns-clause-parts
returns-clause-parts c = parts c.shares_fall.ensures.regions

pub returns-clause-peaks : goal.returns-clause-peaks
returns-clause-peaks c = peaks (λ share peak e. (c.shares_fall.ensures.peak share peak None e).1)

pub returns-clause-one : goal.returns-clause-one
returns-clause-one c = one-ends c.shares_fall.ensures.regions
