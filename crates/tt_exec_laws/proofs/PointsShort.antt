-- With fewer values than it takes, an instruction on points is refused.
use Rattle.std.proofs.Common.{[], ◌∷◌, refl, arith}
use Rattle.tt_exec_stack.proofs.Takes.{short_of_one, short_of_two}
use Rattle.tt_exec_points.specs.Instruction.{on_points}
use Rattle.tt_exec_points.specs.Laws.{PointsAreShort}
use Rattle.tt_exec_points.specs.declared.instruction.OnPoints.TheVariants as instruction
use Rattle.tt_exec_points.specs.declared.lines.OnLines.TheVariants as line
use Rattle.tt_exec_points.specs.declared.measuring.Measuring.TheVariants as measure
use Rattle.tt_exec_points.specs.declared.moving.OnOne.TheVariants as single
use Rattle.tt_exec_points.specs.declared.several.InTurn.TheVariants as turn
use Rattle.tt_exec_points.specs.declared.several.OnRange.TheVariants as ranged

pub points_short : PointsAreShort
points_short (instruction.OnOne single.Utp) ppem t s z g cvt few =
    short_of_one (λ s. on_points t (instruction.OnOne single.Utp) ppem s z g cvt) refl s few
points_short (instruction.OnOne (single.Mdap round)) ppem t s z g cvt few =
    short_of_one (λ s. on_points t (instruction.OnOne (single.Mdap round)) ppem s z g cvt) refl s few
points_short (instruction.Iup axis) ppem t s z g cvt few = absurd (omega arith)
points_short (instruction.InTurn (turn.Shp which)) ppem t s z g cvt few = absurd (omega arith)
points_short (instruction.OnRange (ranged.Shc which)) ppem t s z g cvt few =
    short_of_one (λ s. on_points t (instruction.OnRange (ranged.Shc which)) ppem s z g cvt) refl s few
points_short (instruction.OnRange (ranged.Shz which)) ppem t s z g cvt few =
    short_of_one (λ s. on_points t (instruction.OnRange (ranged.Shz which)) ppem s z g cvt) refl s few
points_short (instruction.InTurn turn.Shpix) ppem t s z g cvt few =
    short_of_one (λ s. on_points t (instruction.InTurn turn.Shpix) ppem s z g cvt) refl s few
points_short (instruction.InTurn turn.Ip) ppem t s z g cvt few = absurd (omega arith)
points_short (instruction.OnOne (single.Msirp set_rp0)) ppem t s z g cvt few =
    short_of_two (λ s. on_points t (instruction.OnOne (single.Msirp set_rp0)) ppem s z g cvt) refl (λ a. refl) s few
points_short (instruction.InTurn turn.Alignrp) ppem t s z g cvt few = absurd (omega arith)
points_short (instruction.OnOne (single.Miap round)) ppem t s z g cvt few =
    short_of_two (λ s. on_points t (instruction.OnOne (single.Miap round)) ppem s z g cvt) refl (λ a. refl) s few
points_short (instruction.Measuring (measure.Gc of)) ppem t s z g cvt few =
    short_of_one (λ s. on_points t (instruction.Measuring (measure.Gc of)) ppem s z g cvt) refl s few
points_short (instruction.OnOne single.Scfs) ppem t s z g cvt few =
    short_of_two (λ s. on_points t (instruction.OnOne single.Scfs) ppem s z g cvt) refl (λ a. refl) s few
points_short (instruction.Measuring (measure.Md between)) ppem t s z g cvt few =
    short_of_two (λ s. on_points t (instruction.Measuring (measure.Md between)) ppem s z g cvt) refl (λ a. refl) s few
points_short (instruction.Deltap range) ppem t s z g cvt few =
    short_of_one (λ s. on_points t (instruction.Deltap range) ppem s z g cvt) refl s few
points_short (instruction.Deltac range) ppem t s z g cvt few =
    short_of_one (λ s. on_points t (instruction.Deltac range) ppem s z g cvt) refl s few
points_short (instruction.InTurn turn.Flippt) ppem t s z g cvt few = absurd (omega arith)
points_short (instruction.OnRange (ranged.Flip on)) ppem t s z g cvt few =
    short_of_two (λ s. on_points t (instruction.OnRange (ranged.Flip on)) ppem s z g cvt) refl (λ a. refl) s few
points_short (instruction.OnOne (single.Mdrp keeping)) ppem t s z g cvt few =
    short_of_one (λ s. on_points t (instruction.OnOne (single.Mdrp keeping)) ppem s z g cvt) refl s few
points_short (instruction.OnOne (single.Mirp keeping)) ppem t s z g cvt few =
    short_of_two (λ s. on_points t (instruction.OnOne (single.Mirp keeping)) ppem s z g cvt) refl (λ a. refl) s few
points_short (instruction.OnLines (line.Spvtl turned)) ppem t s z g cvt few =
    short_of_two (λ s. on_points t (instruction.OnLines (line.Spvtl turned)) ppem s z g cvt) refl (λ a. refl) s few
points_short (instruction.OnLines (line.Sfvtl turned)) ppem t s z g cvt few =
    short_of_two (λ s. on_points t (instruction.OnLines (line.Sfvtl turned)) ppem s z g cvt) refl (λ a. refl) s few
points_short (instruction.OnLines (line.Sdpvtl turned)) ppem t s z g cvt few =
    short_of_two (λ s. on_points t (instruction.OnLines (line.Sdpvtl turned)) ppem s z g cvt) refl (λ a. refl) s few
points_short (instruction.OnLines line.Isect) ppem t [] z g cvt few = refl
points_short (instruction.OnLines line.Isect) ppem t (b1 ∷ []) z g cvt few = refl
points_short (instruction.OnLines line.Isect) ppem t (b1 ∷ b0 ∷ []) z g cvt few = refl
points_short (instruction.OnLines line.Isect) ppem t (b1 ∷ b0 ∷ a1 ∷ []) z g cvt few = refl
points_short (instruction.OnLines line.Isect) ppem t (b1 ∷ b0 ∷ a1 ∷ a0 ∷ []) z g cvt few = refl
points_short (instruction.OnLines line.Isect) ppem t (b1 ∷ b0 ∷ a1 ∷ a0 ∷ p ∷ s) z g cvt few = absurd (omega arith)
points_short (instruction.OnLines line.Alignpts) ppem t s z g cvt few =
    short_of_two (λ s. on_points t (instruction.OnLines line.Alignpts) ppem s z g cvt) refl (λ a. refl) s few
