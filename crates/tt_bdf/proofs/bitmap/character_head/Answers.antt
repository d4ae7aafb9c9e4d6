use Rattle.std.proofs.Common.{append_assoc, rules, true, SFits, w32, w64, arith}
use Rattle.std.proofs.lemmas.Int.{ints, to_z-of_z}
use Rattle.std.specs.Fmt.{digits}
use Rattle.tt_bdf.proofs.Padded.{padded_to_four}
use Rattle.tt_bdf.proofs.bitmap.character_head.Goals as goal

pub returns : goal.returns
returns c =
    let left : SFits w32 c.args.c.left = omega (arith, ints, c.requires.limits.left) in
    let bottom : SFits w32 c.bottom_of-bottom.result = search rules in
    let scaled : SFits w64 c.scalable_width-scalable.result = search rules in
    let given = rw (c.laid_out.ensures, c.in_radix.ensures) at c.format.ensures.ok in
    let written = simp (to_z-of_z, append_assoc) at given in
    let named = rw (c.scalable_width-scalable.ensures, c.bottom_of-bottom.ensures) at written in
    rw (← padded_to_four (digits 16 true c.args.c.code)) named
