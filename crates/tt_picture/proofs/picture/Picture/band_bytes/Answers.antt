use Rattle.std.proofs.Common.{◌*◌, ◌/◌, ◌≤◌, min}
use Rattle.tt_core.specs.Bits.{stride}
use Rattle.tt_picture.proofs.Bands.{band_few}
use Rattle.tt_picture.proofs.picture.Picture.band_bytes.Goals as goal

pub returns-clause-limit : goal.returns-clause-limit
returns-clause-limit c =
    let f = c.args.self.now.frame in
    let few : stride f.width * min f.height (65536 / stride f.width) ≤ 65536 = band_few f.width f.height in
    rw (c.row_bytes.ensures, c.band_rows.ensures.exact) few
