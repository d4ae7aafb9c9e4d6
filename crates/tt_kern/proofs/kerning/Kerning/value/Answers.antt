use Rattle.std.proofs.Common.{◌≡◌, ◌∙◌, ◌+◌, ap, refl, sym, Some, SFits, w32, of_z, to_z, arith}
use Rattle.std.proofs.lemmas.Int.{ints, to_z-of_z}
use Rattle.tt_kern.specs.Feature.{feature_of}
use Rattle.tt_kern.specs.Listed.{pairs_of}
use Rattle.tt_kern.specs.Reads.{reads_from, reads_of}
use Rattle.tt_kern.proofs.LookupSums.{kerning-by-list}
use Rattle.tt_kern.proofs.kerning.Kerning.value.Goals as goal

pub returns-in-Some-clause-exact : goal.returns-in-Some-clause-exact
returns-in-Some-clause-exact c =
    let t = c.args.self.now in
    let fits : SFits w32 c.gpos_value.result = omega (arith, ints, c.gpos_value.ensures.bound) in
    let same : to_z w32 (of_z w32 c.gpos_value.result) ≡ c.gpos_value.result = simp to_z-of_z refl in
    let feature : feature_of t.gpos ≡ Some c.in-Some.field-0 = ap (λ t. feature_of t.gpos) (sym c.self.view_is) ∙ sym c.self.invariant.0 ∙ c.in-Some.is in
    rw same (c.gpos_value.ensures.exact ∙ kerning-by-list t c.args.left c.args.right c.in-Some.field-0 feature)

pub returns-in-Some-clause-count : goal.returns-in-Some-clause-count
returns-in-Some-clause-count c =
    let t = c.args.self.now in
    let feature : feature_of t.gpos ≡ Some c.in-Some.field-0 = ap (λ t. feature_of t.gpos) (sym c.self.view_is) ∙ sym c.self.invariant.0 ∙ c.in-Some.is in
    let count : reads_of t c.args.left c.args.right ≡ reads_from t.variation t.gpos c.args.left c.args.right 0 (pairs_of t.gpos) = rw feature refl in
    c.gpos_value.ensures.count ∙ ap (λ n. c.args.reads.now + n) (sym count)
