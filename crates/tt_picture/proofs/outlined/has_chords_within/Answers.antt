use Rattle.std.proofs.Common.{◌≡◌, ◌≤◌, ◌-ℤ◌, pos, unsigned_abs, SFits, w32, w64, get_or, rules, arith}
use Rattle.std.proofs.lemmas.Int.{ints, to_z-of_z}
use Rattle.tt_core.specs.Limits.{coordinate_limit}
use Rattle.tt_picture.proofs.outlined.has_chords_within.Goals as goal

pub returns : goal.returns
returns c =
    let origin : SFits w64 c.from.result = search rules in
    let bits : SFits w32 (get_or c.args.outline.now.phantom 0 (pos 0, pos 0)).0 = search rules in
    let within = c.requires.outline.phantom.left.0 in
    let is : c.from.result ≡ (get_or c.args.outline.now.phantom 0 (pos 0, pos 0)).0 = simp to_z-of_z at c.from.ensures in
    let small : unsigned_abs c.from.result ≤ coordinate_limit = rw is within in
    let fits : SFits w64 (pos 0 -ℤ c.from.result) = omega (arith, ints) in
    rw is at (simp to_z-of_z at c.has_chords_within.ensures)
