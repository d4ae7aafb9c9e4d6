use Rattle.std.proofs.Common.{◌≡◌, ◌/◌, min, arith}
use Rattle.tt_core.specs.Bits.{stride}
use Rattle.tt_picture.proofs.Bands.{band_some}
use Rattle.tt_picture.proofs.picture.Picture.band_rows.Goals as goal

pub returns-clause-some : goal.returns-clause-some
returns-clause-some c =
    let f = c.self.inside.frame in
    let fits = c.self.invariant.0 in
    let some = band_some f.width f.height fits.width_low fits.width_high fits.height_low in
    let is : c.min.result ≡ min f.height (65536 / stride f.width) = rw c.row_bytes.ensures at c.min.ensures in
    omega (arith, some, is)
