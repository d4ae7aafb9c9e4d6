use Rattle.tt_core.specs.Chains.{on-gives}
use Rattle.tt_core.specs.Collections.{directory_by, IsDirectoryDefectBy}
use Rattle.tt_core.specs.Directory.{HasNo}
use Rattle.tt_core.proofs.Offsets.{readings-whole}
use Rattle.tt_core.proofs.directory.Dir.read.Goals as goal

pub returns-clause-exact : goal.returns-clause-exact
unfolding directory_by
returns-clause-exact c = rw c.in_ok-at.ensures.exact c.at.ensures.exact

pub returns-clause-sound : goal.returns-clause-sound
returns-clause-sound c =
    on-gives (λ d. d) c.at.result (directory_by c.args.file.now c.args.reading)
    (HasNo (IsDirectoryDefectBy c.args.file.now c.args.reading)) (returns-clause-exact c)
    (readings-whole c.args.file.now c.args.reading)
