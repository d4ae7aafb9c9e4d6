use Rattle.tt_cmap.proofs.maps.CharacterMap.units.Goals as goal

pub invariant_of-result : goal.invariant_of-result
invariant_of-result c = ∣ c.utf8.text ∣₁
