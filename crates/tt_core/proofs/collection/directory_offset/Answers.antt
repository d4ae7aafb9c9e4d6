use Rattle.std.proofs.Common.{◌≡◌, false, length, rules}
use Rattle.std.specs.Prelude.{nat_lt}
use Rattle.tt_core.specs.Chains.{on-gives}
use Rattle.tt_core.specs.Collections.{offset_of, IsOffsetDefect}
use Rattle.tt_core.specs.Directory.{HasNo}
use Rattle.tt_core.proofs.Offsets.{offset-whole}
use Rattle.tt_core.proofs.collection.directory_offset.Goals as goal

pub returns-in-Wide-clause-exact : goal.returns-in-Wide-clause-exact
unfolding offset_of
returns-in-Wide-clause-exact c =
    let long : nat_lt (length c.args.file.now) 12 ≡ false = search rules in
    rw (long, c.in-Wide.is) c.face_offset.ensures.exact

pub returns-in-Wide-clause-sound : goal.returns-in-Wide-clause-sound
returns-in-Wide-clause-sound c =
    on-gives (λ at. at) c.face_offset.result (offset_of c.args.file.now c.args.reading)
    (HasNo (IsOffsetDefect c.args.file.now c.args.reading)) (returns-in-Wide-clause-exact c)
    (offset-whole c.args.file.now c.args.reading)
