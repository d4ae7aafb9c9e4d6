use Rattle.std.proofs.Common.{◌≡◌, ◌∙◌, ℕ, Bool, true, Some, SFits, w32, w64, sym, refl, rules}
use Rattle.std.specs.Prelude.{int_lt}
use Rattle.std.proofs.lemmas.Int.{to_z-of_z}
use Rattle.tt_core.specs.Search.{first_from_here}
use Rattle.tt_axes.specs.Avar.{from_of, mapped, pair_above}
use Rattle.tt_axes.proofs.avar.Avar.mapped_at.Goals as goal

pub returns-then-coordinate-high-clause-exact : goal.returns-then-coordinate-high-clause-exact
unfolding mapped
returns-then-coordinate-high-clause-exact c =
    let fc = c.ranges.coordinate in
    let fh : SFits w32 c.pair-high.result.from = search rules in
    let fk : SFits w32 c.kept.result = search rules in
    let fb : SFits w64 c.between.result = search rules in
    let j = c.loop-j.j in
    let avar = c.args.self.now in
    let above : ℕ → Bool = λ j. int_lt c.args.coordinate (from_of avar c.args.at j) in
    let told = simp to_z-of_z at c.if-coordinate-high.true in
    let holds : above j ≡ true = rw c.pair-high.ensures.from at told in
    let here = first_from_here above j c.from-count.result c.loop-j-test.true holds in
    let all = simp to_z-of_z at c.loop-j.invariant in
    let found : pair_above avar c.args.at c.args.coordinate ≡ Some j = sym all ∙ here in
    let is_kept = simp to_z-of_z at c.kept.ensures.exact in
    let is_between = simp to_z-of_z at c.between.ensures in
    let whole = rw (c.pair.ensures.from, c.pair.ensures.to, c.pair-high.ensures.from, c.pair-high.ensures.to) at is_between in
    simp to_z-of_z (rw (found, is_kept, whole) refl)
