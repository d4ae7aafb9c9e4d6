use Rattle.std.proofs.Common.{◌∙◌, ◌+◌, arith, sym}
use Rattle.std.proofs.lemmas.Str.{IsUtf8-past_char}
use Rattle.tt_c_calls.proofs.OffsetSteps.{bytes_on, none_left, one_begun, one_more_passed}
use Rattle.tt_c_calls.proofs.offsets.offsets_of.Goals.{then-begins_unit+in_ok-push, else-begins_unit}
use Rattle.tt_c_calls.proofs.offsets.offsets_of.Goals as goal

pub loop-c-preserved : goal.loop-c-preserved
loop-c-preserved c =
    let was = c.loop-c.invariant in
    let spelled = c.in-Some.ensures.steps.0 in
    let utf8 = IsUtf8-past_char _ _ c.in-Some.c was.utf8 spelled in
    let bytes = bytes_on c.in-Some.c _ _ spelled in
    let step = c.len_utf8-at.ensures.value in
    elim c.if-begins_unit.branch [
      | then-begins_unit+in_ok-push w ↦ record {
        utf8 = utf8;
        bytes = omega (arith, was.bytes, bytes, step);
        split = rw (w.offsets-is, w.in_ok-push.ensures.items, step)
            (one_begun c.args.pairs c.in-Some.c c.loop-c.at _ _ c.loop-c.offsets.items _
            (sym c.begins_unit.ensures ∙ w.if-begins_unit.true) was.utf8 spelled was.split);
      }
      | else-begins_unit w ↦ record {
        utf8 = utf8;
        bytes = omega (arith, was.bytes, bytes, step);
        split = rw (w.offsets-is, step)
            (one_more_passed c.args.pairs c.in-Some.c c.loop-c.at _ _ c.loop-c.offsets.items _
            (sym c.begins_unit.ensures ∙ w.if-begins_unit.false) was.utf8 spelled was.split);
      }
    ]

pub returns : goal.returns
returns c =
    none_left c.args.pairs c.loop-c.at _ c.loop-c.offsets.items _ c.in_default.ensures.steps.0.0 c.loop-c.invariant.split
