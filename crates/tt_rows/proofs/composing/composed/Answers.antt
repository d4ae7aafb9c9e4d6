use Rattle.std.proofs.Common.{◌≡◌, ◌∙◌, IfOk, chars, encode_utf8_all, length, string_bytes, sym, ap, subst}
use Rattle.std.proofs.lemmas.Str.{chars-nil}
use Rattle.std.specs.Str.Iter.{chars_rest}
use Rattle.tt_rows.specs.Composed.{composed, composed_after}
use Rattle.tt_rows.proofs.Letters.{empty_line, its_characters, line_begins, no_longer}
use Rattle.tt_rows.proofs.composing.composed.Goals as goal

pub returns-in-Some-clause-exact : goal.returns-in-Some-clause-exact
returns-in-Some-clause-exact c =
    let m = c.args.cmap.now in
    let line = c.args.line.now in
    let begins = line_begins m c.in-Some.first line (chars_rest c.next.new.self) c.utf8.line
    (sym c.chars-rest.ensures.rest ∙ c.in-Some.ensures.steps.0) in
    let whole : encode_utf8_all (composed_after m c.in-Some.first (chars c.as_str.result.now)) ≡ encode_utf8_all (composed m (chars line))
    = ap (λ bytes. encode_utf8_all (composed_after m c.in-Some.first (chars bytes))) c.as_str.ensures ∙ sym (ap encode_utf8_all begins) in
    subst (λ w. IfOk c.composed_after.result (λ s. string_bytes s ≡ w)) whole c.composed_after.ensures

pub returns-in-Some-clause-characters : goal.returns-in-Some-clause-characters
returns-in-Some-clause-characters c =
    its_characters c.composed_after.result (composed c.args.cmap.now (chars c.args.line.now)) (returns-in-Some-clause-exact c)

pub returns-in-Some-clause-few : goal.returns-in-Some-clause-few
returns-in-Some-clause-few c = no_longer c.args.cmap.now (chars c.args.line.now)

pub returns-in-None-clause-exact : goal.returns-in-None-clause-exact
returns-in-None-clause-exact c =
    let none : length c.args.line.now ≡ 0 = sym (ap length c.chars-rest.ensures.rest) ∙ c.in-None.ensures.steps.0.0 in
    c.new.ensures.bytes ∙ sym (ap encode_utf8_all (empty_line c.args.cmap.now c.args.line.now none))

pub returns-in-None-clause-characters : goal.returns-in-None-clause-characters
returns-in-None-clause-characters c =
    let none : length c.args.line.now ≡ 0 = sym (ap length c.chars-rest.ensures.rest) ∙ c.in-None.ensures.steps.0.0 in
    ap chars c.new.ensures.bytes ∙ chars-nil ∙ sym (empty_line c.args.cmap.now c.args.line.now none)

pub returns-in-None-clause-few : goal.returns-in-None-clause-few
returns-in-None-clause-few c = no_longer c.args.cmap.now (chars c.args.line.now)
