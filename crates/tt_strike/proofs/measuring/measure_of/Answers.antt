use Rattle.std.proofs.Common.{◌≡◌, pos, ◌+ℤ◌, SFits, w32, w64, arith}
use Rattle.std.proofs.lemmas.Int.{ints, to_z-of_z}
use Rattle.tt_strike.proofs.measuring.measure_of.Goals as goal

pub returns-clause-exact : goal.returns-clause-exact
returns-clause-exact c =
    let f = c.args.frame in
    let rise : SFits w32 f.rise = let small = c.requires.rise in omega (arith, ints) in
    let up : c.from.result ≡ f.rise = simp to_z-of_z at c.from.ensures in
    let long : SFits w64 f.rise = let small = c.requires.rise in omega (arith, ints) in
    let margin : SFits w64 (pos f.margin) = let small = c.requires.margin in omega (arith, ints) in
    let sum : SFits w64 (f.rise +ℤ pos f.margin) =
    let small = c.requires.rise in let thin = c.requires.margin in omega (arith, ints) in
    rw (up, c.from-2.ensures, c.ink_of.ensures, c.deref.ensures.value) (simp to_z-of_z)
