use Rattle.std.proofs.Common.{◌<◌, arith}
use Rattle.std.proofs.lemmas.Grind.{common_steps}
use Rattle.std.proofs.lemmas.List.Elements.{All-push}
use Rattle.tt_glyf.specs.declared.raw.Record.{Record}
use Rattle.tt_glyf.specs.Meaning.{HasArguments}
use Rattle.tt_fit_variation.proofs.records.moved_records.Goals as goal

pub loop-i-preserved : goal.loop-i-preserved
loop-i-preserved c = record {
  so_far = grind (arith, common_steps);
  arguments = rw c.in_ok-push.ensures.items (All-push HasArguments _ _ c.loop-i.invariant.arguments c.in_ok-moved_record.ensures.arguments);
  known = λ glyphs all. rw c.in_ok-push.ensures.items (All-push (λ (r : Record). r.glyph < glyphs) _ _ (c.loop-i.invariant.known glyphs all)
      (rw c.in_ok-moved_record.ensures.glyph (all c.loop-i.i _ (omega (arith, c.loop-i-test.true)))));
}
