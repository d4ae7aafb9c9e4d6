use Rattle.tt_face.specs.Programs.{program_tables}
use Rattle.tt_fit.proofs.Unbounded.{of-left, never-spent, prepared-falling}
use Rattle.tt_fit.proofs.programs.ProgramsAtSize.prepared.Goals as goal

pub unbounded-requires : goal.unbounded-requires
unbounded-requires c =
    let sized = c.args.self.now in
    let tables = program_tables sized.programs in
    never-spent c.in-Err.refusal _ _
    (of-left sized.metrics.now tables sized.instance.now sized.ppem sized.fit)
    (rw c.unbounded-work.ensures at c.in-Err.ensures.work)

pub returns-in-Fallback : goal.returns-in-Fallback
returns-in-Fallback c =
    let sized = c.args.self.now in
    record {
      exact = rw (prepared-falling sized.metrics.now (program_tables sized.programs)
          sized.instance.now sized.ppem sized.fit c.in-Fallback.is)
          c.with_fallback.ensures.exact;
    }
