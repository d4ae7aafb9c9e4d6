use Rattle.std.proofs.Common.{refl, pos, ◌+ℤ◌, SFits, w32, w64, arith}
use Rattle.std.proofs.lemmas.Int.{ints, to_z-of_z}
use Rattle.tt_scan_ink.specs.Least.{IsNear}
use Rattle.tt_glyphs.proofs.placing.place_of.Goals as goal

pub returns-in-Some-clause-exact : goal.returns-in-Some-clause-exact
returns-in-Some-clause-exact c =
    let ink = c.in-Some.ink in
    let near : IsNear ink = rw c.in-Some.is at c.requires in
    let left : SFits w64 ink.left = omega (arith, ints, near.left) in
    let left_32 : SFits w32 ink.left = omega (arith, ints, near.left) in
    let right : SFits w64 ink.right = omega (arith, ints, near.right) in
    let bottom : SFits w64 ink.bottom = omega (arith, ints, near.bottom) in
    let top : SFits w64 ink.top = omega (arith, ints, near.top) in
    let next : SFits w64 (ink.top +ℤ pos 1) = omega (arith, ints, near.top) in
    let next_32 : SFits w32 (ink.top +ℤ pos 1) = omega (arith, ints, near.top) in
    rw (c.in-Some.is, c.count.ensures.exact, c.count-in-Some.ensures.exact) (simp to_z-of_z refl)

pub returns-in-Some-clause-placed : goal.returns-in-Some-clause-placed
returns-in-Some-clause-placed c =
    let ink = c.in-Some.ink in
    let near : IsNear ink = rw c.in-Some.is at c.requires in
    let left : SFits w64 ink.left = omega (arith, ints, near.left) in
    let left_32 : SFits w32 ink.left = omega (arith, ints, near.left) in
    let top : SFits w64 ink.top = omega (arith, ints, near.top) in
    let next : SFits w64 (ink.top +ℤ pos 1) = omega (arith, ints, near.top) in
    let next_32 : SFits w32 (ink.top +ℤ pos 1) = omega (arith, ints, near.top) in
    simp to_z-of_z (record {
      left = near.left;
      top = omega (arith, ints, near.top);
      high = λ some. omega (arith, c.count-in-Some.ensures.exact);
    })
