use Rattle.std.proofs.Common.{◌≡◌, Option, subst, ◌∙◌}
use Rattle.tt_core.specs.Chains.{on-gives}
use Rattle.tt_core.specs.Directory.{HasNo}
use Rattle.tt_core.specs.Outcomes.{Gives}
use Rattle.tt_cmap.specs.declared.records.Choice.{Choice}
use Rattle.tt_cmap.specs.Defects.{IsBadCmap}
use Rattle.tt_cmap.specs.Lookup.{cmap_by, cmap_of}
use Rattle.tt_cmap.specs.Subtables.{chosen_subtable, chosen_serves, none_chosen}
use Rattle.tt_cmap.proofs.Whole.{cmap-whole}
use Rattle.tt_cmap.proofs.lookup.Cmap.open.Goals as goal

chosen-of : (c : goal.After-by_subtable) → c.chosen.result ≡ chosen_subtable c.args.table.now
chosen-of c = rw c.in_ok-records.ensures.whole at c.chosen.ensures.exact

pub returns-clause-exact : goal.returns-clause-exact
unfolding cmap_of
returns-clause-exact c =
    let table = c.args.table.now in
    let P : Option Choice → Type 0 = λ place. Gives (λ m. m) c.by_subtable.result (cmap_by table c.args.glyphs place) in
    subst P (chosen-of c) (rw c.in_ok-records.ensures.exact c.by_subtable.ensures.exact)

pub returns-clause-first : goal.returns-clause-first
returns-clause-first c = λ format i serves.
    let table = c.args.table.now in
    let P : Option Choice → Type 0 = λ place. Gives (λ m. m) c.by_subtable.result (cmap_by table c.args.glyphs place) in
    let chosen = chosen-of c ∙ chosen_serves format table i serves in
    subst P chosen (rw c.in_ok-records.ensures.exact c.by_subtable.ensures.exact)

pub returns-clause-absent : goal.returns-clause-absent
returns-clause-absent c = λ none.
    let table = c.args.table.now in
    let P : Option Choice → Type 0 = λ place. Gives (λ m. m) c.by_subtable.result (cmap_by table c.args.glyphs place) in
    let chosen = chosen-of c ∙ none_chosen table none in
    subst P chosen (rw c.in_ok-records.ensures.exact c.by_subtable.ensures.exact)

pub returns-clause-sound : goal.returns-clause-sound
returns-clause-sound c =
    let table = c.args.table.now in
    on-gives (λ m. m) c.by_subtable.result (cmap_of table c.args.glyphs) (HasNo (IsBadCmap table))
    (returns-clause-exact c) (cmap-whole table c.args.glyphs)
