use Rattle.std.proofs.Common.{◌≡◌, Some, inl, refl, rules}
use Rattle.tt_program_decisions.specs.BdfRequests.{bdf_view, ranges_asked}
use Rattle.tt_program_decisions.proofs.bdf.perform_bdf.Goals as goal

pub returns-in-Ok-Some-clause-outcome : goal.returns-in-Ok-Some-clause-outcome
returns-in-Ok-Some-clause-outcome g c =
    let there : ranges_asked (bdf_view c.args.asked.now).range ≡ Some c.in-Ok-Some.ranges.items = search rules in
    inl (rw there (
      record {
        size = c.args.asked.now.size;
        fit = c.args.asked.now.fit;
        face = c.face_or_first.result;
        heights = c.args.asked.now.heights;
        ranges = c.deref.result;
        text = c.args.asked.now.text;
        path = c.args.asked.now.font;
        face_given = c.is_some.result;
        instance = c.args.asked.now.instance;
      },
      record {
        size = refl;
        fit = refl;
        face = c.face_or_first.ensures;
        heights = refl;
        ranges = c.deref.ensures.value;
        text = refl;
        path = refl;
        given = c.is_some.ensures;
        instance = refl;
      },
      record {
        written = c.write_bdf-written.result;
        between = g.E.Sink.written c.write_bdf-written.new.error;
        had_failed = g.E.Sink.has_failed c.write_bdf-written.new.error;
        outcome = (c.write_bdf-written.ensures.outcome, c.write_bdf-written.ensures.defects, c.write_bdf-written.ensures.hint);
        told = rw c.is_closed.ensures at c.tell_bdf.ensures.told;
      },
    ))
