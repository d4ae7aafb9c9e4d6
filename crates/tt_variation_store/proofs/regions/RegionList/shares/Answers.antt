use Rattle.std.proofs.Common.{◌≡◌, ◌∙◌, ◌≤◌, ◌<◌, ℕ, ap, refl, slice_index, arith}
use Rattle.tt_variation_store.specs.Regions.{region_count, region_share}
use Rattle.tt_variation_store.proofs.Kept.{all-shares, none-yet}
use Rattle.tt_variation_store.proofs.regions.RegionList.shares.Goals as goal

pub loop-region-init : goal.loop-region-init
loop-region-init c = record {
  size = refl;
  all = c.self.invariant.4 ∙ ap region_count c.self.view_is;
  few = c.self.invariant.5;
  so_far = λ k h. (let no : ⊥ = omega arith in absurd no);
  rest = λ k h. none-yet 512 k;
}

pub returns-clause-each : goal.returns-clause-each
returns-clause-each c =
    let at = c.loop-region in
    let first : (k : ℕ) → k < region_count c.args.self.now → slice_index at.shares k ≡ region_share c.args.self.now k c.args.coordinates.now =
    λ k below. at.invariant.so_far k (omega (arith, below, at.invariant.all, c.loop-region-test.false)) in
    let rest : (k : ℕ) → region_count c.args.self.now ≤ k → slice_index at.shares k ≡ 0 =
    λ k past. at.invariant.rest k (omega (arith, past, at.invariant.all, at.auto.region-end)) in
    all-shares c.args.self.now c.args.coordinates.now at.shares first rest
