use Rattle.std.proofs.Common.{◌-◌}
use Rattle.tt_box.proofs.Sizes.{AreOn}
use Rattle.tt_box.specs.Views.{place_of}
use Rattle.tt_strike.specs.Job.{job_for}
use Rattle.tt_box.proofs.boxing.label_in_box.Given as goal

abbrev pub invariant-loop-ppem : goal.invariant-loop-ppem
invariant-loop-ppem l =
    AreOn l.source.face.now (λ n. job_for n l.source.fit l.text l.place.margin) (place_of l.place) l.least l.source.ppem l.ppem l.left

abbrev pub decreases-loop-ppem : goal.decreases-loop-ppem
decreases-loop-ppem l = l.ppem - l.least
