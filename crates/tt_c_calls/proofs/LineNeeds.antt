-- The need of a line is that of its picture.
use Rattle.std.proofs.Common.{◌≡◌, ℕ, List, false, length, IfSome, Ok, Err, refl}
use Rattle.tt_picture.specs.Pictures.{Picture}
use Rattle.tt_c_calls.specs.declared.asked.CJob.{CJob}
use Rattle.tt_c_calls.specs.declared.fault.CallFault.{CallFault}
use Rattle.tt_c_calls.specs.LineRooms.{line_room}
use Rattle.tt_c_calls.specs.Lines.{is_blank, line_taken}
use Rattle.tt_c_calls.specs.Pictures.{IsPictureOf, picture_wanted}
use Rattle.tt_c_calls.specs.Refusals.{call_refusal}
use Rattle.tt_c_calls.proofs.LinesDrawn.{cost_of_line}
use Rattle.tt_c_calls.proofs.StrikeLines.{if_some_more}

-- a line that is not blank is refused as its picture
pub refused_too : (j : CJob) (file line : List ℕ) (e : CallFault) → is_blank j line ≡ false
    → IfSome (call_refusal e) (λ why. picture_wanted j line file ≡ Err why)
    → IfSome (call_refusal e) (λ why. line_room j file line ≡ Err why)
refused_too j file line e other = if_some_more (call_refusal e) _ _ (λ why h. rw (other, h) refl)

-- it has the room of the picture's rows
pub room_of_picture : (j : CJob) (file line : List ℕ) (p : Picture) (bytes : ℕ) → is_blank j line ≡ false
    → IsPictureOf j line file p → length p.rows ≡ bytes → line_room j file line ≡ Ok bytes
room_of_picture j file line p bytes other of is = rw (other, of.image, is) refl

-- and it takes what the picture does
pub cost_of_picture : (j : CJob) (file line : List ℕ) (p : Picture) (cost : ℕ) → is_blank j line ≡ false
    → IsPictureOf j line file p → cost ≡ p.cost → line_taken j file line ≡ cost
cost_of_picture j file line p cost other of is = rw (other, is) (cost_of_line j file line p of)
