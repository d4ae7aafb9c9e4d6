-- Only with Best a program can read the instance.
use Rattle.std.proofs.Common.{refl}
use Rattle.tt_fit.specs.DeltaCounting.{DefaultsAskNoDeltas, deltas_asked}
use Rattle.tt_fit.specs.Laws.{BestReadsPlaces, OthersReadNoInstance}
use Rattle.tt_fit.specs.declared.programs.Fit.TheVariants as fit

pub others-read-no-instance : OthersReadNoInstance
others-read-no-instance m programs i ppem fit.Full other = refl
others-read-no-instance m programs i ppem fit.None other = refl
others-read-no-instance m programs i ppem fit.Fallback other = refl
others-read-no-instance m programs i ppem fit.Best other = absurd (other refl)

pub best-reads-places : BestReadsPlaces
best-reads-places m programs i ppem = refl

pub defaults-ask-no-deltas : DefaultsAskNoDeltas
unfolding deltas_asked
defaults-ask-no-deltas t levels g = refl
