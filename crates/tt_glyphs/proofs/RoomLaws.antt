-- A room is large enough exactly where it has the bytes that are wanted.
use Rattle.std.proofs.Common.{◌≡◌, ◌∙◌, refl, sym, ℕ, ◌<◌, ◌≤◌, Bool, true, false, nat_lt, Result, Ok, arith}
use Rattle.std.specs.Prelude.{◌↔◌}
use Rattle.std.proofs.lemmas.Bool.Decides.{nat_tests}
use Rattle.tt_face.specs.Faces.{Face}
use Rattle.tt_strike.specs.Refusals.{Refused}
use Rattle.tt_glyphs.specs.GlyphLaws.{RoomIsExact}
use Rattle.tt_glyphs.specs.Requests.{Bitmaps, GlyphJob, Roomed, bitmaps_answer, bitmaps_outcome, done, in_room, small}

answer_is : (room : ℕ) (face : Face) (a : GlyphJob) (b : Bitmaps) → bitmaps_outcome face a ≡ Ok b
    → bitmaps_answer room face a ≡ Ok (in_room room b)
unfolding bitmaps_answer
answer_is room face a b is = rw is refl

apart : (b : Bitmaps) (n : ℕ) → ◌≡◌ {A = Result Roomed Refused} (Ok (small n)) (Ok (done b)) → ⊥
apart b n is = cc

exact_by : (room : ℕ) (b : Bitmaps) (r : Result Roomed Refused) (over : Bool) → nat_lt room b.wanted ≡ over
    → r ≡ Ok (in_room room b) → ((r ≡ Ok (done b)) ↔ (b.wanted ≤ room)) × (room < b.wanted → r ≡ Ok (small b.wanted))
exact_by room b r true is at =
    let past : room < b.wanted = grind (arith, nat_tests, is) in
    let answer : r ≡ Ok (small b.wanted) = at ∙ rw is refl in
    ((λ made. absurd (apart b b.wanted (sym answer ∙ made)), λ within. absurd (omega (arith, past, within))), λ more. answer)
exact_by room b r false is at =
    let within : b.wanted ≤ room = grind (arith, nat_tests, is) in
    let answer : r ≡ Ok (done b) = at ∙ rw is refl in
    ((λ made. within, λ enough. answer), λ past. absurd (omega (arith, within, past)))

pub room_is_exact : RoomIsExact
room_is_exact room face a b is =
    exact_by room b (bitmaps_answer room face a) (nat_lt room b.wanted) refl (answer_is room face a b is)
