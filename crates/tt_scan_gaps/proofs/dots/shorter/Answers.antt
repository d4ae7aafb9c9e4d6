use Rattle.std.proofs.Common.{refl, SFits, w64, rules}
use Rattle.std.proofs.lemmas.Int.{to_z-of_z}
use Rattle.tt_scan_gaps.proofs.dots.shorter.Goals as goal

pub returns : goal.returns
returns c =
    let wide : SFits w64 c.length_of.result = search rules in
    let high : SFits w64 c.length_of-2.result = search rules in
    let least : SFits w64 c.min.result = search rules in
    let is = simp to_z-of_z at c.min.ensures.value in
    simp to_z-of_z (rw (is, c.length_of.ensures.exact, c.length_of-2.ensures.exact) refl)
