-- The room that a call reports is the exact room of the call that draws the lines.
use Rattle.std.proofs.Common.{◌≡◌, ◌≢◌, ◌∙◌, sym, ap, refl, ℕ, zero, suc, ◌+◌, ◌-◌, ◌^◌, ◌≤◌, ◌<◌, min, List, [], ◌∷◌, length, take, drop, get_or, Result, Ok, Err, ◌⊎◌, inl, inr, arith, length-drop, length-take}
use Rattle.std.proofs.lemmas.List.Sums.{sum_by-append}
use Rattle.tt_face.specs.Faces.{Face}
use Rattle.tt_c_calls.specs.declared.answer.CAnswer.{CAnswer}
use Rattle.tt_c_calls.specs.declared.asked.CJob.{CJob}
use Rattle.tt_c_calls.specs.declared.line_drawing.CLine.{CLine}
use Rattle.tt_c_calls.specs.declared.pictures.CPicture.{CPicture}
use Rattle.tt_c_calls.specs.Answers.{refusal_answer}
use Rattle.tt_c_calls.specs.LineRooms.{AskedRoomIsEnough, DrawsInto, EndsRoom, IsLineAccepted, SmallerRoomIsRefused, TellsRoom, first_room, line_at, line_room, lines_room, most_bytes}
use Rattle.tt_c_calls.specs.Lines.{AreLinesDrawn, DrawsLines, EndsWith, IsLineStopped, IsShown, IsStopped, cost_taken, line_bytes, lines_bytes, lines_wanted, start_of, stopped_answer}
use Rattle.tt_c_calls.specs.Refusals.{Refusal, axes_many, box_range, box_small, line_ends, not_utf8, refused, unknown_align, unknown_fit, width_range}
use Rattle.tt_strike.specs.Refusals.{font, job, large}
use Rattle.tt_c_calls.proofs.LinesDrawn.{shown_bytes}
use Rattle.tt_c_calls.proofs.RoomAsked.{first_room_too}

-- a line that was drawn has the room of its rows
shown_room : (j : CJob) (file line : List ℕ) (told : CPicture) (rows : List ℕ) (cost : ℕ)
    → IsShown j file line told rows cost → line_room j file line ≡ Ok (length rows)
shown_room j file line told rows cost (inl (blank, is, none, free)) = rw (blank, none) refl
shown_room j file line told rows cost (inr (other, (p, of, is, those, takes))) = rw (other, of.image, those) refl

drawn_room : (j : CJob) (file room : List ℕ) (at : ℕ) (lines : List (List ℕ)) (told : List CLine)
    → AreLinesDrawn j file room at lines told → lines_bytes told ≡ lines_room j file lines
drawn_room j file room at [] [] drawn = refl
drawn_room j file room at [] (t ∷ ts) drawn = absurd drawn
drawn_room j file room at (l ∷ ls) [] drawn = absurd drawn
drawn_room j file room at (l ∷ ls) (t ∷ ts) ((rows, cost, shown, place, there), others) =
    let one : cost_taken (line_room j file l) ≡ length rows =
    ap cost_taken (shown_room j file l t.picture rows cost shown) in
    let many : length rows ≡ line_bytes t = shown_bytes j file l t.picture rows cost shown in
    let all : lines_room j file (l ∷ ls) ≡ 0 + cost_taken (line_room j file l) + lines_room j file ls =
    sum_by-append (λ (line : List ℕ). cost_taken (line_room j file line)) (l ∷ []) ls in
    omega (arith, all, one, many, drawn_room j file room (at + line_bytes t) ls ts others)

-- drawn lines lie in their room
part_within : (n at : ℕ) (room rows : List ℕ) → take n (drop at room) ≡ rows → length rows ≤ length room - at
part_within n at room rows is =
    omega (arith, ap length is, length-take n (drop at room), length-drop at room)

drawn_within : (j : CJob) (file room : List ℕ) (at : ℕ) (lines : List (List ℕ)) (told : List CLine)
    → at ≤ length room → AreLinesDrawn j file room at lines told → at + lines_bytes told ≤ length room
drawn_within j file room at [] [] within drawn = omega (arith, within)
drawn_within j file room at [] (t ∷ ts) within drawn = absurd drawn
drawn_within j file room at (l ∷ ls) [] within drawn = absurd drawn
drawn_within j file room at (l ∷ ls) (t ∷ ts) within ((rows, cost, shown, place, there), others) =
    let many : length rows ≡ line_bytes t = shown_bytes j file l t.picture rows cost shown in
    let fits : length rows ≤ length room - at = part_within (length rows) at room rows there in
    omega (
      arith,
      drawn_within j file room (at + line_bytes t) ls ts (omega (arith, many, fits, within)) others,
    )

-- more lines need no less room
more_room : (j : CJob) (file texts ends : List ℕ) (m k : ℕ)
    → ((i : ℕ) → i < length ends → IsLineAccepted j file texts ends i) → m + k ≤ length ends
    → first_room j file texts ends m ≤ first_room j file texts ends (m + k)
more_room j file texts ends m zero all within =
    let same : m + 0 ≡ m = omega arith in rw same (omega arith)
more_room j file texts ends m (suc k) all within =
    let less : m + k < length ends = omega (arith, within) in
    let same : m + suc k ≡ m + k + 1 = omega arith in
    let own = (all (m + k) less).picture in
    rw same (omega (
      arith,
      more_room j file texts ends m k all (omega (arith, less)),
      first_room_too j file texts ends (m + k) own.0 less own.1,
    ))

-- the room that a line lacked
record LacksRoom (j : CJob) (file texts ends : List ℕ) (room used : ℕ) (a : CAnswer) : Type 0 where
  few : a.count < length ends
  bytes : ℕ
  needs : line_room j file (line_at texts ends a.count) ≡ Ok bytes
  left : room - used < bytes
  status : a.status ≡ 7

abbrev status_of : CAnswer → ℕ
status_of a = a.status

of_line : (j : CJob) (file texts ends : List ℕ) (room used : ℕ) (a own : CAnswer)
    → IsLineAccepted j file texts ends a.count → a.status ≢ 5 → a.count < length ends
    → a ≡ stopped_answer own used a.count
    → IsLineStopped j file texts (start_of ends a.count) (get_or ends a.count 0) (room - used) own
    → LacksRoom j file texts ends room used a
of_line j file texts ends room used a own fine serves few is (inl (told, inl before)) =
    absurd (omega (arith, fine.line.0, before))
of_line j file texts ends room used a own fine serves few is (inl (told, inr past)) =
    absurd (omega (arith, fine.line.1, past))
of_line j file texts ends room used a own fine serves few is (inr (order, small, (other, inl memory))) =
    absurd (serves (ap status_of is ∙ ap status_of memory))
of_line j file texts ends room used a own fine serves few is (inr (order, small, (other, inr (inl (why, wanted, told))))) =
    let never = rw (other, wanted) at fine.picture.1 in absurd cc
of_line j file texts ends room used a own fine serves few is (inr (order, small, (other, inr (inr (p, of, left, told))))) =
    record {
      few = few;
      bytes = length p.rows;
      needs = rw (other, of.image) refl;
      left = left;
      status = ap status_of is ∙ ap status_of told;
    }

-- where all lines are accepted, only a room that is too small stops them
for_room : (j : CJob) (file texts ends : List ℕ) (room used : ℕ) (a : CAnswer) (face : Face)
    → ((i : ℕ) → i < length ends → IsLineAccepted j file texts ends i) → lines_wanted j file ≡ Ok face → a.status ≢ 5
    → IsStopped j file texts ends room used a → LacksRoom j file texts ends room used a
for_room j file texts ends room used a face all opened serves (inl (why, is, told)) =
    let never = rw opened at is in absurd cc
for_room j file texts ends room used a face all opened serves (inr (inl memory)) = absurd (serves (ap status_of memory))
for_room j file texts ends room used a face all opened serves (inr (inr (inl (own, few, is, why, budget)))) =
    of_line j file texts ends room used a own (all a.count few) serves few is why
for_room j file texts ends room used a face all opened serves (inr (inr (inr (few, line, spent, is)))) =
    absurd (omega (arith, (all a.count few).budget, spent))

-- a call that is done has counted all lines
record HasAll (j : CJob) (file texts ends : List ℕ) (asked : CAnswer) : Type 0 where
  face : Face
  opened : lines_wanted j file ≡ Ok face
  all : (i : ℕ) → i < length ends → IsLineAccepted j file texts ends i
  bytes : asked.bytes ≡ min (first_room j file texts ends (length ends)) most_bytes

refusal_stops : (why : Refusal) → (refusal_answer why).status ≢ 0
refusal_stops (refused (font f)) is = absurd (omega (arith, is))
refusal_stops (refused (job j)) is = absurd (omega (arith, is))
refusal_stops (refused large) is = absurd (omega (arith, is))
refusal_stops unknown_fit is = absurd (omega (arith, is))
refusal_stops axes_many is = absurd (omega (arith, is))
refusal_stops line_ends is = absurd (omega (arith, is))
refusal_stops unknown_align is = absurd (omega (arith, is))
refusal_stops width_range is = absurd (omega (arith, is))
refusal_stops box_range is = absurd (omega (arith, is))
refusal_stops box_small is = absurd (omega (arith, is))
refusal_stops not_utf8 is = absurd (omega (arith, is))

abbrev count_of : CAnswer → ℕ
count_of a = a.count

has_all : (j : CJob) (file texts ends : List ℕ) (asked : CAnswer) → TellsRoom j file texts ends asked
    → asked.status ≡ 0 → EndsRoom j file texts ends asked → HasAll j file texts ends asked
has_all j file texts ends asked told done (inl (face, opened, is)) =
    let count : asked.count ≡ length ends = ap count_of is in
    record {
      face = face;
      opened = opened;
      all = λ i less. told.counted.accepted i (omega (arith, less, count));
      bytes = told.counted.bytes ∙ ap (λ (n : ℕ). min (first_room j file texts ends n) most_bytes) count;
    }
has_all j file texts ends asked told done (inr (inl (why, wanted, is))) =
    absurd (refusal_stops why (sym (ap status_of is) ∙ done))
has_all j file texts ends asked told done (inr (inr (inl is))) =
    let five : asked.status ≡ 5 = ap status_of is in absurd (omega (arith, five, done))
has_all j file texts ends asked told done (inr (inr (inr (why, few, line, is)))) =
    absurd (refusal_stops why (sym (ap status_of is) ∙ done))

-- the room of the lines that were drawn
used_room : (j : CJob) (file texts ends before room : List ℕ) (told_before told : List CLine) (used count : ℕ)
    → DrawsLines j file texts ends before room told_before told used count
    → used ≡ first_room j file texts ends count
used_room j file texts ends before room told_before told used count d =
    d.bytes ∙ drawn_room j file room 0 _ (take count told) d.drawn

-- the line that lacks room needs more than there is of what was asked
lacks : (j : CJob) (file texts ends : List ℕ) (room used : ℕ) (asked a : CAnswer) → HasAll j file texts ends asked
    → used ≡ first_room j file texts ends a.count → LacksRoom j file texts ends room used a
    → room < first_room j file texts ends (length ends)
lacks j file texts ends room used asked a h is lacking =
    let rest = length ends - (a.count + 1) in
    let whole : a.count + 1 + rest ≡ length ends = omega (arith, lacking.few) in
    let more = more_room j file texts ends (a.count + 1) rest h.all (omega (arith, whole)) in
    let there : first_room j file texts ends (a.count + 1) ≤ first_room j file texts ends (length ends) = rw whole at more in
    let one = first_room_too j file texts ends a.count lacking.bytes lacking.few lacking.needs in
    omega (arith, is, there, one, lacking.left)

enough_by : (j : CJob) (file texts ends before rows : List ℕ) (told_before told : List CLine) (asked a : CAnswer)
    (room used : ℕ) → room < 2 ^ 63 → HasAll j file texts ends asked
    → DrawsLines j file texts ends before rows told_before told used a.count → length before ≡ room → a.status ≢ 5
    → asked.bytes ≤ room → EndsWith j file texts ends (length before) used a → a.status ≡ 0
enough_by j file texts ends before rows told_before told asked a room used small h d is serves fits
    (inl (face, opened, done)) = ap status_of done
enough_by j file texts ends before rows told_before told asked a room used small h d is serves fits
    (inr (stops, why)) =
    let lacking = for_room j file texts ends (length before) used a h.face h.all h.opened serves why in
    let used_is = used_room j file texts ends before rows told_before told used a.count d in
    let less = lacks j file texts ends (length before) used asked a h used_is lacking in
    absurd (omega (arith, less, h.bytes, fits, is, small))

pub asked_room_is_enough : AskedRoomIsEnough
asked_room_is_enough j file texts ends asked a room small told done into fits =
    let h = has_all j file texts ends asked told done told.end in
    let d = into.draws.drawn into.entries in
    enough_by j file texts ends into.rows_before into.rows into.lines_before into.lines asked a room d.0 small h d.1
    into.before into.memory fits d.2

refused_by : (j : CJob) (file texts ends before rows : List ℕ) (told_before told : List CLine) (asked a : CAnswer)
    (room used : ℕ) → HasAll j file texts ends asked
    → DrawsLines j file texts ends before rows told_before told used a.count → length rows ≡ room → a.status ≢ 5
    → room < asked.bytes → EndsWith j file texts ends (length before) used a → a.status ≡ 7
refused_by j file texts ends before rows told_before told asked a room used h d is serves short
    (inl (face, opened, done)) =
    let count : a.count ≡ length ends = ap count_of done in
    let used_is = used_room j file texts ends before rows told_before told used a.count d in
    let whole : used ≡ first_room j file texts ends (length ends) = rw count at used_is in
    let within = drawn_within j file rows 0 _ (take a.count told) (omega arith) d.drawn in
    absurd (omega (arith, whole, h.bytes, short, is, within, d.bytes))
refused_by j file texts ends before rows told_before told asked a room used h d is serves short
    (inr (stops, why)) =
    (for_room j file texts ends (length before) used a h.face h.all h.opened serves why).status

pub smaller_room_is_refused : SmallerRoomIsRefused
smaller_room_is_refused j file texts ends asked a room told done into short =
    let h = has_all j file texts ends asked told done told.end in
    let d = into.draws.drawn into.entries in
    refused_by j file texts ends into.rows_before into.rows into.lines_before into.lines asked a room d.0 h d.1
    into.after into.memory short d.2
