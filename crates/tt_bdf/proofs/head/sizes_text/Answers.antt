use Rattle.std.proofs.Common.{rules, SFits, w64}
use Rattle.std.proofs.lemmas.Int.{to_z-of_z}
use Rattle.tt_bdf.proofs.head.sizes_text.Goals as goal

pub returns : goal.returns
returns c =
    let average : SFits w64 c.args.spacing.average = search rules in
    rw (← c.spacing_name-spaced.ensures) (simp to_z-of_z at c.format.ensures.ok)
