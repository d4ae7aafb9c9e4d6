use Rattle.tt_variation_store.specs.Store.{region_list}
use Rattle.tt_variation_store.proofs.Kept.{kept-part}
use Rattle.tt_variation_store.proofs.at_instance.StoreAtInstance.share.Goals as goal

pub invariant_of-result : goal.invariant_of-result
invariant_of-result c = record {
  most = kept-part c.shares_fall.ensures.regions (region_list c.self.inside.store) c.self.inside.coordinates c.self.inside.shares c.args.region c.self.invariant.1;
}
