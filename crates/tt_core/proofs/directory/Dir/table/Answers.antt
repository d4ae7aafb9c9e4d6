use Rattle.std.proofs.Common.{◌≡◌, ℕ, Option, Some, None, option_copied, subst, ◌∙◌}
use Rattle.tt_core.specs.Directory.{record_count, has_tag, named_by}
use Rattle.tt_core.specs.Outcomes.{Gives}
use Rattle.tt_core.specs.Search.{first_below_least, first_below_nothing}
use Rattle.tt_core.proofs.directory.Dir.table.Goals as goal

pub returns-clause-first : goal.returns-clause-first
returns-clause-first c = λ i least.
    let d = c.args.self.now in
    let found : c.record.result ≡ Some i = c.record.ensures.exact ∙ first_below_least (has_tag d c.args.tag)
    (record_count d) i least in
    let P : Option ℕ → Type 0 = λ r. Gives option_copied c.named.result (named_by d r) in
    subst P found c.named.ensures.exact

pub returns-clause-absent : goal.returns-clause-absent
returns-clause-absent c = λ fails.
    let d = c.args.self.now in
    let found : c.record.result ≡ None = c.record.ensures.exact ∙ first_below_nothing (has_tag d c.args.tag)
    (record_count d) fails in
    let P : Option ℕ → Type 0 = λ r. Gives option_copied c.named.result (named_by d r) in
    subst P found c.named.ensures.exact
