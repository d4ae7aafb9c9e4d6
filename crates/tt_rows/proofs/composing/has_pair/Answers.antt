use Rattle.std.proofs.Common.{◌≡◌, ◌∙◌, chars, length, sym, ap}
use Rattle.std.specs.Str.Iter.{chars_rest}
use Rattle.tt_rows.specs.ComposedLaws.{has_pair_after}
use Rattle.tt_rows.proofs.Letters.{no_pair, pair_begins}
use Rattle.tt_rows.proofs.composing.has_pair.Goals as goal

pub returns-in-Some : goal.returns-in-Some
returns-in-Some c =
    c.has_pair_after.ensures
    ∙ ap (λ bytes. has_pair_after c.args.cmap.now c.in-Some.first (chars bytes)) c.as_str.ensures
    ∙ sym (pair_begins c.args.cmap.now c.in-Some.first c.args.line.now (chars_rest c.next.new.self) c.utf8.line
    (sym c.chars-rest.ensures.rest ∙ c.in-Some.ensures.steps.0))

pub returns-in-None : goal.returns-in-None
returns-in-None c =
    let none : length c.args.line.now ≡ 0 = sym (ap length c.chars-rest.ensures.rest) ∙ c.in-None.ensures.steps.0.0 in
    sym (no_pair c.args.cmap.now c.args.line.now none)
