use Rattle.std.proofs.Common.{◌≡◌, pos, ◌+ℤ◌, ◌-ℤ◌, ◌*ℤ◌, SFits, w64, refl, rules, arith}
use Rattle.std.proofs.lemmas.Int.{ints, to_z-of_z}
use Rattle.tt_arc.specs.Chords.{signed_bend}
use Rattle.tt_arc.proofs.Places.{begun}
use Rattle.tt_arc.proofs.quadratic.differences_at_start.Goals as goal

pub overflow_mul-result-2 : goal.overflow_mul-result-2
overflow_mul-result-2 c =
    let bend : SFits w64 c.signed_bend.result = search rules in
    let part : SFits w64 c.times-part.result = search rules in
    let last : SFits w64 c.times-2.result = search rules in
    let one = simp to_z-of_z at c.times-part.ensures.few in
    let two = simp to_z-of_z at c.times-2.ensures.few in
    simp to_z-of_z (omega (arith, ints, one, two, c.signed_bend.ensures.bound))

pub returns : goal.returns
returns c =
    let b = c.args.coordinates in
    let h = c.args.step in
    let start = c.requires.coordinates.from in
    let from : SFits w64 b.from = omega (arith, ints, start) in
    let value : SFits w64 (pos 1024 *ℤ b.from) = omega (arith, ints, start) in
    let bend : SFits w64 c.signed_bend.result = search rules in
    let part : SFits w64 c.times-part.result = search rules in
    let slope : SFits w64 c.slope.result = search rules in
    let first : SFits w64 c.times.result = search rules in
    let last : SFits w64 c.times-2.result = search rules in
    let one = simp to_z-of_z at c.times-part.ensures.few in
    let two = simp to_z-of_z at c.times-2.ensures.few in
    let sum : SFits w64 (c.slope.result +ℤ c.times-part.result) =
    omega (arith, ints, one, c.signed_bend.ensures.bound, c.slope.ensures.bound) in
    let twice : SFits w64 (pos 2 *ℤ c.times-2.result) = omega (arith, ints, one, two, c.signed_bend.ensures.bound) in
    let is_part : c.times-part.result ≡ pos h *ℤ signed_bend b =
    rw c.signed_bend.ensures.exact at (simp to_z-of_z at c.times-part.ensures.exact) in
    let is_first : c.times.result ≡ pos h *ℤ (pos 64 *ℤ (pos 2 *ℤ b.control -ℤ b.from) +ℤ pos h *ℤ signed_bend b) =
    rw (c.slope.ensures.exact, is_part) at (simp to_z-of_z at c.times.ensures.exact) in
    let is_last : c.times-2.result ≡ pos h *ℤ (pos h *ℤ signed_bend b) =
    rw is_part at (simp to_z-of_z at c.times-2.ensures.exact) in
    let is_second : pos 2 *ℤ c.times-2.result ≡ pos 2 *ℤ (pos h *ℤ (pos h *ℤ signed_bend b)) = rw is_last refl in
    simp to_z-of_z (begun b h (record {
      value = pos 1024 *ℤ b.from;
      first = c.times.result;
      second = pos 2 *ℤ c.times-2.result;
    }) c.requires.coordinates c.requires.step refl is_first is_second)
