use Rattle.std.proofs.Common.{SFits, w64, rules}
use Rattle.std.proofs.lemmas.Int.{to_z-of_z}
use Rattle.tt_scan_dropouts.proofs.Pixels.{turned_back}
use Rattle.tt_scan_dropouts.proofs.filling.pixel_at.Goals as goal

pub returns-in-Columns : goal.returns-in-Columns
returns-in-Columns c = λ col row.
    let column : SFits w64 c.args.pixel.column = search rules in
    let line : SFits w64 c.args.pixel.row = search rules in
    rw c.in-Columns.is (simp to_z-of_z (turned_back c.args.pixel col row))
