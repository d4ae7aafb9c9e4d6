use Rattle.std.proofs.Common.{◌∙◌, sym, rules}
use Rattle.std.proofs.lemmas.List.Elements.{All-push}
use Rattle.std.proofs.lemmas.Result.{err_from_is_err_and}
use Rattle.tt_glyf.specs.Meaning.{HasArguments}
use Rattle.tt_glyf.proofs.Components.{more, last, breaks, over}
use Rattle.tt_glyf.proofs.composite.read_records.Goals as goal

pub loop-i-preserved : goal.loop-i-preserved
loop-i-preserved c =
    let step = more c.args.glyphs c.args.glyph.now c.loop-i.records.items c.loop-i.next c.loop-i.i c.in_ok-part.part
    c.loop-i-test.true c.in_ok-part.ensures.exact (sym c.if-not-has_flag.ensures) in
    record {
      same = rw (c.in_ok-push.ensures.items, c.record_size-next.ensures.exact) (sym step ∙ c.loop-i.invariant.same);
      room = search rules;
      arguments = rw c.in_ok-push.ensures.items (All-push HasArguments _ _ c.loop-i.invariant.arguments
          c.in_ok-part.ensures.arguments);
    }

pub returns-then-not-has_flag-clause-exact : goal.returns-then-not-has_flag-clause-exact
returns-then-not-has_flag-clause-exact c =
    let step = last c.args.glyphs c.args.glyph.now c.loop-i.records.items c.loop-i.next c.loop-i.i c.in_ok-part.part
    c.loop-i-test.true c.in_ok-part.ensures.exact (sym c.if-not-has_flag.ensures) in
    rw (c.in_ok-push.ensures.items, c.record_size-next.ensures.exact) (sym c.loop-i.invariant.same ∙ step)

pub returns-then-not-has_flag-clause-arguments : goal.returns-then-not-has_flag-clause-arguments
returns-then-not-has_flag-clause-arguments c =
    rw c.in_ok-push.ensures.items (All-push HasArguments _ _ c.loop-i.invariant.arguments
    c.in_ok-part.ensures.arguments)

pub returns-in_err-part-clause-exact : goal.returns-in_err-part-clause-exact
returns-in_err-part-clause-exact c =
    let step = breaks c.args.glyphs c.args.glyph.now c.loop-i.records.items c.loop-i.next c.loop-i.i
    c.in_err-part.field-0.0 c.loop-i-test.true c.in_err-part.ensures.exact in
    let p = err_from_is_err_and c.from_residual.result c.from_residual.ensures.1 in
    rw (p.1, p.2) (sym c.loop-i.invariant.same ∙ step)

pub returns-clause-exact : goal.returns-clause-exact
returns-clause-exact c =
    let step = over c.args.glyphs c.args.glyph.now c.loop-i.records.items c.loop-i.next c.loop-i.i
    c.loop-i-test.false in
    rw c.fault.ensures.exact (sym c.loop-i.invariant.same ∙ step)
