use Rattle.std.proofs.Common.{◌≡◌, ◌∙◌, chars, IsUtf8, false, true, sym, ap, subst}
use Rattle.std.specs.Option.{is_some}
use Rattle.std.proofs.lemmas.Str.{IsUtf8-past_char}
use Rattle.tt_rows.specs.Composed.{composite_in}
use Rattle.tt_rows.specs.ComposedLaws.{has_pair_after}
use Rattle.tt_rows.proofs.Letters.{none_tested, one_tested}
use Rattle.tt_rows.proofs.composing.has_pair_after.Goals as goal

pub loop-c-init : goal.loop-c-init
loop-c-init c = record {
  utf8 = subst IsUtf8 (sym c.chars-rest.ensures.rest) c.utf8.text;
  left = ap (λ bytes. has_pair_after c.args.cmap.now c.args.before (chars bytes)) c.chars-rest.ensures.rest;
}

pub loop-c-preserved : goal.loop-c-preserved
loop-c-preserved c =
    let was = c.loop-c.invariant in
    let spelled = c.in-Some.ensures.steps.0 in
    let m = c.args.cmap.now in
    let tested = one_tested m c.loop-c.last c.in-Some.c _ _ was.utf8 spelled in
    let none : is_some (composite_in m c.loop-c.last c.in-Some.c) ≡ false
    = rw c.composite_in.ensures at (sym c.is_some.ensures ∙ c.if-is_some.false) in
    record {
      utf8 = IsUtf8-past_char _ _ c.in-Some.c was.utf8 spelled;
      left = sym (rw none at tested) ∙ was.left;
    }

pub returns-then-is_some : goal.returns-then-is_some
returns-then-is_some c =
    let was = c.loop-c.invariant in
    let m = c.args.cmap.now in
    let tested = one_tested m c.loop-c.last c.in-Some.c _ _ was.utf8 c.in-Some.ensures.steps.0 in
    let some : is_some (composite_in m c.loop-c.last c.in-Some.c) ≡ true
    = rw c.composite_in.ensures at (sym c.is_some.ensures ∙ c.if-is_some.true) in
    sym (rw some at tested) ∙ was.left

pub returns : goal.returns
returns c =
    sym (none_tested c.args.cmap.now c.loop-c.last _ c.in_default.ensures.steps.0.0) ∙ c.loop-c.invariant.left
