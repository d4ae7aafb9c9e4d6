use Rattle.std.proofs.Common.{◌≡◌, ◌∙◌, sym, refl, Bool, true, false, ◌&&◌, ◌||◌, ◌==◌}
use Rattle.tt_core.specs.Bits.{bit}
use Rattle.tt_picture.proofs.columns.copy_column.Goals as goal

with_black : (old here there : Bool) → there ≡ true → (old || here) ≡ (old || (here && there))
with_black true here there is = refl
with_black false true there is = sym is
with_black false false there is = refl

with_white : (old here there : Bool) → there ≡ false → old ≡ (old || (here && there))
with_white true here there is = refl
with_white false true there is = sym is
with_white false false there is = refl
