use Rattle.std.proofs.Common.{◌≡◌, ◌∙◌, refl, ap, sym, ℕ, ◌+◌, ◌*◌, ◌≤◌, ℤ, pos, ◌+ℤ◌, ◌-ℤ◌, ◌≤ℤ◌, unsigned_abs, SFits, w32, w64, to_z, of_z, arith, rules}
use Rattle.std.proofs.lemmas.Int.{ints, to_z-of_z}
use Rattle.tt_rows.specs.Places.{first_base_line, half, rows_height}
use Rattle.tt_label_rows.proofs.InTheMiddle.{AreFirst, first_bounds, low_rows}
use Rattle.tt_label_rows.specs.Pictures.{first_rise}
use Rattle.tt_label_rows.proofs.picture.first_rise.Goals.{After-from}
use Rattle.tt_label_rows.proofs.picture.first_rise.Goals as goal

-- the first base line is that of the definition
bounds_then : (c : After-from) → AreFirst c.args.heights c.args.more c.args.height c.args.margin
bounds_then c =
    first_bounds c.args.heights c.args.more c.args.height c.args.margin c.requires.heights c.requires.height.0
    (low_rows c.args.heights c.args.more c.args.height c.args.margin c.requires.low)

first_then : (c : After-from) → c.first_base_line-first.result -ℤ c.from.result ≡ first_rise c.args.heights c.args.more c.args.height c.args.margin
first_then c =
    let rise : SFits w32 c.args.heights.rise = omega (arith, ints, c.requires.heights.rise) in
    let depth : SFits w32 c.args.heights.depth = omega (arith, ints, c.requires.heights.depth) in
    let rows : SFits w64 c.rows_height-rows.result = omega (arith, ints, c.rows_height-rows.ensures.bound) in
    let height = simp to_z-of_z at c.rows_height-rows.ensures.exact in
    let first = simp to_z-of_z at c.first_base_line-first.ensures in
    let margin : c.from.result ≡ pos c.args.margin = search rules in
    rw (first, height, margin) refl

fits_then : (c : After-from) → SFits w64 (c.first_base_line-first.result -ℤ c.from.result)
fits_then c = let near = (bounds_then c).bound in let is = first_then c in omega (arith, ints, near, is, c.requires.height.1)

same_then : (c : After-from) → to_z w64 (of_z w64 c.first_base_line-first.result) -ℤ to_z w64 (of_z w64 c.from.result) ≡ first_rise c.args.heights c.args.more c.args.height c.args.margin
same_then c =
    let first : SFits w64 c.first_base_line-first.result = search rules in
    let margin : SFits w64 c.from.result = search rules in
    simp to_z-of_z (first_then c)

pub overflow_sub-result : goal.overflow_sub-result
overflow_sub-result c =
    let all = (goal.at.overflow_sub-result c).After-from in
    let near = (bounds_then all).bound in
    rw (same_then all) (omega (arith, ints, near, c.requires.height.1))

pub overflow_cast-result : goal.overflow_cast-result
overflow_cast-result c =
    let all = (goal.at.overflow_cast-result c).After-from in
    let near = (bounds_then all).bound in
    let fits : SFits w64 (first_rise c.args.heights c.args.more c.args.height c.args.margin) = omega (arith, ints, near, c.requires.height.1) in
    rw (same_then all) (simp to_z-of_z (omega (arith, ints, near, c.requires.height.1)))

whole_then : (c : After-from) → to_z w32 (of_z w32 (to_z w64 (of_z w64 (to_z w64 (of_z w64 c.first_base_line-first.result) -ℤ to_z w64 (of_z w64 c.from.result)))))
    ≡ first_rise c.args.heights c.args.more c.args.height c.args.margin
whole_then c =
    let near = (bounds_then c).bound in
    let long : SFits w64 (first_rise c.args.heights c.args.more c.args.height c.args.margin) = omega (arith, ints, near, c.requires.height.1) in
    let fits : SFits w32 (first_rise c.args.heights c.args.more c.args.height c.args.margin) = omega (arith, ints, near, c.requires.height.1) in
    rw (same_then c) (simp to_z-of_z refl)

pub returns-clause-exact : goal.returns-clause-exact
returns-clause-exact c = whole_then (goal.at.returns-clause-exact c).After-from

pub returns-clause-bound : goal.returns-clause-bound
returns-clause-bound c =
    let all = (goal.at.returns-clause-bound c).After-from in
    rw (whole_then all) (bounds_then all).bound

pub returns-clause-last : goal.returns-clause-last
returns-clause-last c =
    let all = (goal.at.returns-clause-last c).After-from in
    rw (whole_then all) (bounds_then all).last
