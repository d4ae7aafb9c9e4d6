use Rattle.std.proofs.Common.{All, refl}
use Rattle.std.proofs.lemmas.List.Elements.{All-push}
use Rattle.tt_deltas.specs.Along.{IsStill}
use Rattle.tt_fit_variation.proofs.glyph.with_ends.Goals as goal

pub returns-clause-still : goal.returns-clause-still
returns-clause-still c =
    let one : All IsStill c.push.new.self.items = rw c.in_ok-push.ensures.items (All-push IsStill _ _ c.requires refl) in
    let two : All IsStill c.push-2.new.self.items = rw c.in_ok-push-2.ensures.items (All-push IsStill _ _ one refl) in
    let three : All IsStill c.push-3.new.self.items = rw c.in_ok-push-3.ensures.items (All-push IsStill _ _ two refl) in
    rw c.in_ok-push-4.ensures.items (All-push IsStill _ _ three refl)
