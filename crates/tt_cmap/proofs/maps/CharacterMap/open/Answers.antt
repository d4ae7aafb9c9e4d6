use Rattle.tt_cmap.proofs.maps.CharacterMap.open.Goals as goal

pub returns-in_ok-open-in-Strict-clause-sound : goal.returns-in_ok-open-in-Strict-clause-sound
returns-in_ok-open-in-Strict-clause-sound c = rw c.in-Strict.is c.in_ok-open-in-Strict.ensures.sound

pub returns-in_ok-open-in-Wide-clause-sound : goal.returns-in_ok-open-in-Wide-clause-sound
returns-in_ok-open-in-Wide-clause-sound c = rw c.in-Wide.is c.in_ok-open-in-Wide.ensures.sound
