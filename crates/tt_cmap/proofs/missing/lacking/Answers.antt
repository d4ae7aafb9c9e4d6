use Rattle.std.proofs.Common.{◌≡◌, [], chars, refl, sym, ◌∙◌, rules}
use Rattle.tt_cmap.specs.Lacking.{lacking_of, with_unit}
use Rattle.tt_cmap.specs.Maps.{units_by}
use Rattle.tt_cmap.proofs.WithoutGlyphs.{one-more, lacking_missing, lacking_stand, lacking_every, lacking_once}
use Rattle.tt_cmap.proofs.missing.lacking.Goals as goal

pub loop-unit-init : goal.loop-unit-init
unfolding lacking_of
loop-unit-init c =
    let from : c.into_iter-unit-iterator.result ≡ units_by c.args.cmap.now (chars c.args.text.now) = cc in
    let empty : c.new-listed.result.items ≡ [] = search rules in
    record { same = c.new-known.ensures; listed = rw (empty, from) refl }

pub loop-unit-preserved : goal.loop-unit-preserved
loop-unit-preserved c =
    let was = c.loop-unit.invariant in
    let m = c.args.cmap.now in
    let items : c.list_missing.new.listed.items ≡ with_unit m c.loop-unit.listed.items c.in-Some.unit =
    rw was.same at c.in_ok-list_missing.ensures.exact in
    record {
      same = c.list_missing.ensures.same ∙ was.same;
      listed = rw items (sym (one-more m c.loop-unit.listed.items c.in-Some.unit _) ∙ (rw c.in-Some.ensures.steps at was.listed));
    }

pub returns-clause-exact : goal.returns-clause-exact
returns-clause-exact c = rw c.in-None.ensures.steps.0 at c.loop-unit.invariant.listed

pub returns-clause-missing : goal.returns-clause-missing
returns-clause-missing c = rw (returns-clause-exact c) (lacking_missing c.args.cmap.now (chars c.args.text.now))

pub returns-clause-stand : goal.returns-clause-stand
returns-clause-stand c = rw (returns-clause-exact c) (lacking_stand c.args.cmap.now (chars c.args.text.now))

pub returns-clause-every : goal.returns-clause-every
returns-clause-every c =
    let cs = chars c.args.text.now in
    rw (returns-clause-exact c) (λ u stands missing. lacking_every c.args.cmap.now cs u stands missing)

pub returns-clause-once : goal.returns-clause-once
returns-clause-once c = rw (returns-clause-exact c) (lacking_once c.args.cmap.now (chars c.args.text.now))
