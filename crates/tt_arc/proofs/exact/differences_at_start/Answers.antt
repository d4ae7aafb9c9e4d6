use Rattle.std.proofs.Common.{◌≡◌, pos, ◌+ℤ◌, ◌-ℤ◌, ◌*ℤ◌, SFits, w64, refl, rules, arith}
use Rattle.std.proofs.lemmas.Int.{ints, to_z-of_z}
use Rattle.tt_arc.specs.Chords.{signed_bend}
use Rattle.tt_arc.proofs.Whole.{exact_start, part_few}
use Rattle.tt_arc.proofs.exact.differences_at_start.Goals as goal

pub times-bend-requires-clause-count : goal.times-bend-requires-clause-count
times-bend-requires-clause-count c = let few = part_few c.args.part c.requires.part in omega (arith, few)

pub times-requires-clause-count : goal.times-requires-clause-count
times-requires-clause-count c = let few = part_few c.args.part c.requires.part in omega (arith, few)

pub times-requires-2-clause-count : goal.times-requires-2-clause-count
times-requires-2-clause-count c = let few = part_few c.args.part c.requires.part in omega (arith, few)

pub overflow_mul-result-2 : goal.overflow_mul-result-2
overflow_mul-result-2 c =
    let bend : SFits w64 c.signed_bend.result = search rules in
    let part : SFits w64 c.times-bend.result = search rules in
    let last : SFits w64 c.times-2.result = search rules in
    let one = simp to_z-of_z at c.times-bend.ensures.few in
    let two = simp to_z-of_z at c.times-2.ensures.few in
    simp to_z-of_z (omega (arith, ints, one, two, c.signed_bend.ensures.bound))

pub returns : goal.returns
returns c =
    let b = c.args.coordinates in
    let p = c.args.part in
    let start = c.requires.coordinates.from in
    let from : SFits w64 b.from = omega (arith, ints, start) in
    let value : SFits w64 (pos 64 *ℤ b.from) = omega (arith, ints, start) in
    let bend : SFits w64 c.signed_bend.result = search rules in
    let part : SFits w64 c.times-bend.result = search rules in
    let slope : SFits w64 c.slope.result = search rules in
    let first : SFits w64 c.times.result = search rules in
    let last : SFits w64 c.times-2.result = search rules in
    let one = simp to_z-of_z at c.times-bend.ensures.few in
    let two = simp to_z-of_z at c.times-2.ensures.few in
    let sum : SFits w64 (c.slope.result +ℤ c.times-bend.result) =
    omega (arith, ints, one, c.signed_bend.ensures.bound, c.slope.ensures.bound) in
    let twice : SFits w64 (pos 2 *ℤ c.times-2.result) = omega (arith, ints, one, two, c.signed_bend.ensures.bound) in
    let is_part : c.times-bend.result ≡ pos p *ℤ signed_bend b =
    rw c.signed_bend.ensures.exact at (simp to_z-of_z at c.times-bend.ensures.exact) in
    let is_first : c.times.result ≡ pos p *ℤ (pos 16 *ℤ (pos 2 *ℤ b.control -ℤ b.from) +ℤ pos p *ℤ signed_bend b) =
    rw (c.slope.ensures.exact, is_part) at (simp to_z-of_z at c.times.ensures.exact) in
    let is_last : c.times-2.result ≡ pos p *ℤ (pos p *ℤ signed_bend b) =
    rw is_part at (simp to_z-of_z at c.times-2.ensures.exact) in
    let is_second : pos 2 *ℤ c.times-2.result ≡ pos 2 *ℤ (pos p *ℤ (pos p *ℤ signed_bend b)) = rw is_last refl in
    simp to_z-of_z (exact_start b p (record {
      value = pos 64 *ℤ b.from;
      first = c.times.result;
      second = pos 2 *ℤ c.times-2.result;
    }) c.requires.coordinates c.requires.part refl is_first is_second)
