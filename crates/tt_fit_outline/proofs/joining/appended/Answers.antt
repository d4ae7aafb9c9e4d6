use Rattle.std.proofs.Common.{rules, arith}
use Rattle.tt_fit_outline.specs.Outline.{phantom_of, ArePhantom}
use Rattle.tt_fit_outline.specs.Views.{outline_of}
use Rattle.tt_fit_outline.specs.Joining.{appended, within_point_limit}
use Rattle.tt_fit_outline.proofs.Outlines.{joined-is}
use Rattle.tt_fit_outline.proofs.joining.appended.Goals as goal
use Rattle.tt_fit_outline.proofs.joining.appended.Goals.{then-has, else-has}

pub invariant_of-result : goal.invariant_of-result
invariant_of-result c =
    let phantoms : ArePhantom (phantom_of c.if-has.phantom) = elim c.if-has.branch [
      | then-has w ↦ rw w.phantom-is c.args.component.now.valid.phantom
      | else-has w ↦ rw w.phantom-is
          c.args.so_far.valid.phantom
    ] in
    record {
      valid = joined-is (outline_of c.args.so_far) (outline_of c.args.component.now) c.push_placed.new.points.items
          c.push_ends.new.ends.items (phantom_of c.if-has.phantom) c.scan_after.result c.args.so_far.valid c.args.component.now.valid (search rules)
          (search rules) c.in_ok-push_placed.ensures.coordinates (search rules) phantoms;
    }

pub returns : goal.returns
unfolding appended within_point_limit
returns c =
    record {
      exact = grind (
        arith,
        c.in_ok-push_placed.ensures.exact,
        c.in_ok-push_ends.ensures,
        c.if-len-gt-POINT_LIMIT.false,
        c.len.ensures,
        c.len-before.ensures,
        c.scan_after.ensures,
        c.has.ensures,
        c.if-has.branch,
        c.deref-2.ensures.value,
        c.deref.ensures.value,
      );
    }
