use Rattle.std.proofs.Common.{◌≡◌, ◌∙◌, [], ◌∷◌, length, chars, sym, ap, refl}
use Rattle.std.specs.Str.Iter.{chars_rest}
use Rattle.std.proofs.lemmas.Str.{chars_past_char}
use Rattle.tt_cmap.proofs.UnitSteps.{no-characters}
use Rattle.tt_cmap.proofs.units.first_selector.Goals as goal
use Rattle.tt_cmap.proofs.units.first_selector.Goals.{In-Some}

pub returns-in_default : goal.returns-in_default
returns-in_default c =
    let none : length c.args.text.now ≡ 0 = sym (ap length c.chars.ensures.rest) ∙ c.in_default.ensures.steps.0.0 in
    rw (no-characters c.args.text.now none) refl

spelled : (c : In-Some) → chars c.args.text.now ≡ c.in-Some.c ∷ chars (chars_rest c.next.new.self)
spelled c =
    chars_past_char c.args.text.now (chars_rest c.next.new.self) c.in-Some.c c.utf8.text
    (sym c.chars.ensures.rest ∙ c.in-Some.ensures.steps.0)

pub returns-then-is_selector : goal.returns-then-is_selector
returns-then-is_selector c =
    rw (spelled (goal.at.returns-then-is_selector c).In-Some, sym c.is_selector.ensures ∙ c.if-is_selector.true) refl

pub returns : goal.returns
returns c = rw (spelled (goal.at.returns c).In-Some, sym c.is_selector.ensures ∙ c.if-is_selector.false) refl
