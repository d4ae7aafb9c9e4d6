use Rattle.std.proofs.Common.{◌≡◌, ◌+◌, ◌*◌, drop}
use Rattle.tt_fit.specs.Fitting.{with_hinting, joined, added, added_work}
use Rattle.tt_fit_outline.specs.Views.{outline_of}
use Rattle.tt_fit_hinting.specs.Views.{hinting_view}
use Rattle.tt_fit.specs.Work.{joined_work}
use Rattle.tt_fit.proofs.fitting.Fitter.+outlines.Given as goal

abbrev pub decreases-added : goal.decreases-added
decreases-added l = 4 * l.levels

abbrev pub decreases-joined : goal.decreases-joined
decreases-joined l = 4 * l.levels + 1

abbrev pub decreases-finished : goal.decreases-finished
decreases-finished l = 4 * l.levels + 2

abbrev pub decreases-outline : goal.decreases-outline
decreases-outline l = 4 * l.levels + 3

abbrev pub invariant-joined-loop-part : goal.invariant-joined-loop-part
invariant-joined-loop-part l = record {
  so_far : joined (added (with_hinting l.self (hinting_view l.hinting)) l.levels) (drop l.part-index l.records)
      (outline_of l.so_far) ≡ joined (added (with_hinting l.self (hinting_view l.hinting)) l.levels) l.records
      (outline_of l.fn.start);
  work : joined_work (added (with_hinting l.self (hinting_view l.hinting)) l.levels)
      (added_work (with_hinting l.self (hinting_view l.hinting)) l.levels) (drop l.part-index l.records)
      (outline_of l.so_far) l.runner.work.left
      ≡ joined_work (added (with_hinting l.self (hinting_view l.hinting)) l.levels)
      (added_work (with_hinting l.self (hinting_view l.hinting)) l.levels) l.records (outline_of l.fn.start)
      l.fn.runner.work.left;
}
