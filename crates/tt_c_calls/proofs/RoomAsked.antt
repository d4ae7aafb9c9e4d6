-- The room that lines need, one line more at a time, and why a line has none.
use Rattle.std.proofs.Common.{◌≡◌, ◌∙◌, sym, ap, refl, ℕ, suc, ◌+◌, ◌*◌, ◌≤◌, ◌<◌, min, List, [], ◌∷◌, ◌++◌, length, take, get_or, IfSome, Result, Ok, Err, ◌⊎◌, inl, inr, arith, subst}
use Rattle.std.proofs.lemmas.Bool.{cases_lt}
use Rattle.std.proofs.lemmas.List.Sums.{sum_by-append}
use Rattle.tt_core.specs.Faults.{Fault}
use Rattle.tt_face.specs.Faces.{Face}
use Rattle.tt_render_settings.specs.Lines.{lines_budget}
use Rattle.tt_strike.specs.Refusals.{font, job, large}
use Rattle.tt_c_calls.specs.declared.answer.CAnswer.{CAnswer}
use Rattle.tt_c_calls.specs.declared.asked.CJob.{CJob}
use Rattle.tt_c_calls.specs.declared.fault.CallFault.{CallFault}
use Rattle.tt_c_calls.specs.declared.fault.CallFault.TheVariants as call
use Rattle.tt_c_calls.specs.Answers.{call_answer, done_answer, refusal_answer}
use Rattle.tt_c_calls.specs.Asked.{IsAskedDefect}
use Rattle.tt_c_calls.specs.LineRooms.{CountsRoom, EndsRoom, IsLineAccepted, IsLineRefused, TellsRoom, first_room, line_at, line_room, lines_room, most_bytes}
use Rattle.tt_c_calls.specs.Lines.{IsLinesDefect, LineDefectStands, cost_taken, first_taken, line_between, line_taken, lines_by, lines_wanted, start_of, stopped_answer}
use Rattle.tt_c_calls.specs.Refusals.{axes_many, box_range, box_small, call_font_fault, call_refusal, line_ends, not_utf8, refused, unknown_align, unknown_fit, width_range}
use Rattle.tt_c_calls.proofs.Answered.{writes_none}
use Rattle.tt_c_calls.proofs.LinesDrawn.{first_taken_too, lines_behind, start_behind}
use Rattle.tt_c_calls.proofs.LinesStopped.{lines_defect_told}

-- the room of some lines, and one line more
none_plus : (n : ℕ) → 0 + n ≡ n
none_plus n = omega arith

room_too : (j : CJob) (file : List ℕ) (lines : List (List ℕ)) (line : List ℕ)
    → lines_room j file (lines ++ line ∷ []) ≡ lines_room j file lines + cost_taken (line_room j file line)
room_too j file lines line =
    sum_by-append (λ (l : List ℕ). cost_taken (line_room j file l)) lines (line ∷ [])
    ∙ ap (λ (n : ℕ). lines_room j file lines + n) (none_plus (cost_taken (line_room j file line)))

pub first_room_too : (j : CJob) (file texts ends : List ℕ) (i bytes : ℕ) → i < length ends
    → line_room j file (line_at texts ends i) ≡ Ok bytes
    → first_room j file texts ends (i + 1) ≡ first_room j file texts ends i + bytes
first_room_too j file texts ends i bytes few is =
    let line = line_at texts ends i in
    let next : i + 1 ≡ suc i = omega arith in
    let all : lines_by texts 0 (take (i + 1) ends) ≡ lines_by texts 0 (take i ends) ++ line ∷ [] =
    rw next (lines_behind texts 0 i ends few) in
    let own : cost_taken (line_room j file line) ≡ bytes = ap cost_taken is in
    ap (lines_room j file) all ∙ omega (arith, room_too j file (lines_by texts 0 (take i ends)) line, own)

-- the facts before each step of a loop over lines
pub record IsRoomTo (j : CJob) (file texts ends : List ℕ) (from used i taken : ℕ) : Type 0 where
  pub start : from ≡ start_of ends i
  pub accepted : (k : ℕ) → k < i → IsLineAccepted j file texts ends k
  pub bytes : used ≡ min (first_room j file texts ends i) most_bytes
  pub takes : first_taken j file texts ends i ≡ taken
  pub few : taken ≤ 18446744073709551615 * i

-- one line more is accepted
accepted_too : (j : CJob) (file texts ends : List ℕ) (i : ℕ)
    → ((k : ℕ) → k < i → IsLineAccepted j file texts ends k) → IsLineAccepted j file texts ends i
    → (k : ℕ) → k < i + 1 → IsLineAccepted j file texts ends k
accepted_too j file texts ends i before here k less = by (cases_lt k i)
  where
    by : (k < i) ⊎ (i ≤ k) → IsLineAccepted j file texts ends k
    by (inl less) = before k less
    by (inr more) =
        let last : i ≡ k = omega (arith, less, more) in
        subst (λ (n : ℕ). IsLineAccepted j file texts ends n) last here

-- the facts after one line more
pub room_on : (j : CJob) (file texts ends : List ℕ) (from used i taken bytes cost after used_after : ℕ)
    → IsRoomTo j file texts ends from used i taken → taken ≤ lines_budget i → cost ≤ 18446744073709551615
    → after ≡ taken + cost → used_after ≡ min (used + bytes) most_bytes → i < length ends → from ≤ get_or ends i 0
    → get_or ends i 0 ≤ length texts → line_room j file (line_between texts from (get_or ends i 0)) ≡ Ok bytes
    → line_taken j file (line_between texts from (get_or ends i 0)) ≡ cost
    → IsRoomTo j file texts ends (get_or ends i 0) used_after (i + 1) after
room_on j file texts ends from used i taken bytes cost after used_after so_far enough low is saturated few order small
    needs takes =
    let has : line_room j file (line_at texts ends i) ≡ Ok bytes = rw so_far.start at needs in
    let costs : line_taken j file (line_at texts ends i) ≡ cost = rw so_far.start at takes in
    let more = first_room_too j file texts ends i bytes few has in
    let one : IsLineAccepted j file texts ends i = record {
      line = (rw so_far.start at order, small);
      budget = omega (arith, so_far.takes, enough);
      picture = (bytes, has);
    } in
    record {
      start = start_behind ends i;
      accepted = accepted_too j file texts ends i so_far.accepted one;
      bytes = omega (arith, so_far.bytes, saturated, more);
      takes = omega (arith, first_taken_too j file texts ends i cost few costs, so_far.takes, is);
      few = omega (arith, so_far.few, low, is);
    }

-- why a call ends at a line
ends_at : (j : CJob) (file texts ends : List ℕ) (used i : ℕ) (e : CallFault) → i < length ends
    → IfSome (call_refusal e) (IsLineRefused j file texts ends i)
    → EndsRoom j file texts ends (stopped_answer (call_answer e) used i)
ends_at j file texts ends used i (call.Font f) few is = inr (inr (inr (refused (font f), few, is, refl)))
ends_at j file texts ends used i (call.Job why) few is = inr (inr (inr (refused (job why), few, is, refl)))
ends_at j file texts ends used i call.FontLarge few is = inr (inr (inr (refused large, few, is, refl)))
ends_at j file texts ends used i call.UnknownFit few is = inr (inr (inr (unknown_fit, few, is, refl)))
ends_at j file texts ends used i call.LineEnds few is = inr (inr (inr (line_ends, few, is, refl)))
ends_at j file texts ends used i call.UnknownAlign few is = inr (inr (inr (unknown_align, few, is, refl)))
ends_at j file texts ends used i call.AxesMany few is = inr (inr (inr (axes_many, few, is, refl)))
ends_at j file texts ends used i call.WidthRange few is = inr (inr (inr (width_range, few, is, refl)))
ends_at j file texts ends used i call.BoxRange few is = inr (inr (inr (box_range, few, is, refl)))
ends_at j file texts ends used i call.BoxSmall few is = inr (inr (inr (box_small, few, is, refl)))
ends_at j file texts ends used i call.NotUtf8 few is = inr (inr (inr (not_utf8, few, is, refl)))
ends_at j file texts ends used i call.Memory few is = inr (inr (inl refl))

stands_at : (IsOne : Fault → Type 0) (used i : ℕ) (e : CallFault) → IfSome (call_font_fault e) IsOne
    → LineDefectStands IsOne (stopped_answer (call_answer e) used i)
stands_at IsOne used i (call.Font f) stands is = (f, refl, stands)
stands_at IsOne used i (call.Job j) stands is = absurd (omega (arith, is))
stands_at IsOne used i call.FontLarge stands is = absurd (omega (arith, is))
stands_at IsOne used i call.UnknownFit stands is = absurd (omega (arith, is))
stands_at IsOne used i call.LineEnds stands is = absurd (omega (arith, is))
stands_at IsOne used i call.UnknownAlign stands is = absurd (omega (arith, is))
stands_at IsOne used i call.AxesMany stands is = absurd (omega (arith, is))
stands_at IsOne used i call.WidthRange stands is = absurd (omega (arith, is))
stands_at IsOne used i call.BoxRange stands is = absurd (omega (arith, is))
stands_at IsOne used i call.BoxSmall stands is = absurd (omega (arith, is))
stands_at IsOne used i call.NotUtf8 stands is = absurd (omega (arith, is))
stands_at IsOne used i call.Memory stands is = absurd (omega (arith, is))

-- a call that a line stopped, after those before it
pub line_has_none : (j : CJob) (file texts ends : List ℕ) (from used i taken : ℕ) (e : CallFault) → i < length ends
    → IsRoomTo j file texts ends from used i taken → IfSome (call_refusal e) (IsLineRefused j file texts ends i)
    → IfSome (call_font_fault e) (IsLinesDefect j file texts ends i)
    → TellsRoom j file texts ends (stopped_answer (call_answer e) used i)
line_has_none j file texts ends from used i taken e few so_far why defect = record {
  counted = record {
    few = omega (arith, few);
    accepted = so_far.accepted;
    bytes = omega (arith, so_far.bytes, writes_none e);
  };
  end = ends_at j file texts ends used i e few why;
  stands = stands_at (IsLinesDefect j file texts ends i) used i e defect;
}

-- the ends of a line are wrong
pub wrong_ends : (texts ends : List ℕ) (from i : ℕ) → from ≡ start_of ends i
    → (get_or ends i 0 < from) ⊎ ((from ≤ get_or ends i 0) × (length texts < get_or ends i 0))
    → (get_or ends i 0 < start_of ends i) ⊎ (length texts < get_or ends i 0)
wrong_ends texts ends from i start (inl before) = inl (rw start at before)
wrong_ends texts ends from i start (inr (order, past)) = inr past

-- the line itself is refused
pub refused_itself : (j : CJob) (file texts ends : List ℕ) (from i : ℕ) (e : CallFault) → from ≡ start_of ends i
    → from ≤ get_or ends i 0 → get_or ends i 0 ≤ length texts → first_taken j file texts ends i ≤ lines_budget i
    → IfSome (call_refusal e) (λ why. line_room j file (line_between texts from (get_or ends i 0)) ≡ Err why)
    → IfSome (call_refusal e) (IsLineRefused j file texts ends i)
refused_itself j file texts ends from i (call.Font f) start order small enough is =
    inr (inr ((rw start at order, small), enough, rw start at is))
refused_itself j file texts ends from i (call.Job why) start order small enough is =
    inr (inr ((rw start at order, small), enough, rw start at is))
refused_itself j file texts ends from i call.FontLarge start order small enough is =
    inr (inr ((rw start at order, small), enough, rw start at is))
refused_itself j file texts ends from i call.UnknownFit start order small enough is =
    inr (inr ((rw start at order, small), enough, rw start at is))
refused_itself j file texts ends from i call.LineEnds start order small enough is =
    inr (inr ((rw start at order, small), enough, rw start at is))
refused_itself j file texts ends from i call.UnknownAlign start order small enough is =
    inr (inr ((rw start at order, small), enough, rw start at is))
refused_itself j file texts ends from i call.AxesMany start order small enough is =
    inr (inr ((rw start at order, small), enough, rw start at is))
refused_itself j file texts ends from i call.WidthRange start order small enough is =
    inr (inr ((rw start at order, small), enough, rw start at is))
refused_itself j file texts ends from i call.BoxRange start order small enough is =
    inr (inr ((rw start at order, small), enough, rw start at is))
refused_itself j file texts ends from i call.BoxSmall start order small enough is =
    inr (inr ((rw start at order, small), enough, rw start at is))
refused_itself j file texts ends from i call.NotUtf8 start order small enough is =
    inr (inr ((rw start at order, small), enough, rw start at is))
refused_itself j file texts ends from i call.Memory start order small enough is = tt

-- the defect that a line met is one of the lines' data
pub line_told : (j : CJob) (file texts ends : List ℕ) (from i : ℕ) (e : CallFault) → from ≡ start_of ends i
    → IfSome (call_font_fault e) (IsAskedDefect j (line_between texts from (get_or ends i 0)) file)
    → IfSome (call_font_fault e) (IsLinesDefect j file texts ends i)
line_told j file texts ends from i (call.Font f) start stands = inr (rw start at stands)
line_told j file texts ends from i (call.Job why) start stands = tt
line_told j file texts ends from i call.FontLarge start stands = tt
line_told j file texts ends from i call.UnknownFit start stands = tt
line_told j file texts ends from i call.LineEnds start stands = tt
line_told j file texts ends from i call.UnknownAlign start stands = tt
line_told j file texts ends from i call.AxesMany start stands = tt
line_told j file texts ends from i call.WidthRange start stands = tt
line_told j file texts ends from i call.BoxRange start stands = tt
line_told j file texts ends from i call.BoxSmall start stands = tt
line_told j file texts ends from i call.NotUtf8 start stands = tt
line_told j file texts ends from i call.Memory start stands = tt

-- a call that counted all lines
pub all_counted : (j : CJob) (file texts ends : List ℕ) (from used i taken : ℕ) (face : Face) → i ≡ length ends
    → lines_wanted j file ≡ Ok face → IsRoomTo j file texts ends from used i taken
    → TellsRoom j file texts ends (done_answer used (length ends))
all_counted j file texts ends from used i taken face all opened so_far =
    let to = rw all at so_far in
    record {
      counted = record { few = omega arith; accepted = to.accepted; bytes = to.bytes };
      end = inl (face, opened, refl);
      stands = λ is. absurd (omega (arith, is));
    }

-- no line is counted where the font or the job is refused, or memory was
refused_early : (j : CJob) (file texts ends : List ℕ) (e : CallFault)
    → IfSome (call_refusal e) (λ why. lines_wanted j file ≡ Err why) → EndsRoom j file texts ends (call_answer e)
refused_early j file texts ends (call.Font f) is = inr (inl (refused (font f), is, refl))
refused_early j file texts ends (call.Job why) is = inr (inl (refused (job why), is, refl))
refused_early j file texts ends call.FontLarge is = inr (inl (refused large, is, refl))
refused_early j file texts ends call.UnknownFit is = inr (inl (unknown_fit, is, refl))
refused_early j file texts ends call.LineEnds is = inr (inl (line_ends, is, refl))
refused_early j file texts ends call.UnknownAlign is = inr (inl (unknown_align, is, refl))
refused_early j file texts ends call.AxesMany is = inr (inl (axes_many, is, refl))
refused_early j file texts ends call.WidthRange is = inr (inl (width_range, is, refl))
refused_early j file texts ends call.BoxRange is = inr (inl (box_range, is, refl))
refused_early j file texts ends call.BoxSmall is = inr (inl (box_small, is, refl))
refused_early j file texts ends call.NotUtf8 is = inr (inl (not_utf8, is, refl))
refused_early j file texts ends call.Memory is = inr (inr (inl refl))

counts_none : (e : CallFault) → (call_answer e).count ≡ 0
counts_none (call.Font f) = refl
counts_none (call.Job j) = refl
counts_none call.FontLarge = refl
counts_none call.UnknownFit = refl
counts_none call.LineEnds = refl
counts_none call.UnknownAlign = refl
counts_none call.AxesMany = refl
counts_none call.WidthRange = refl
counts_none call.BoxRange = refl
counts_none call.BoxSmall = refl
counts_none call.NotUtf8 = refl
counts_none call.Memory = refl

none_counted : (j : CJob) (file texts ends : List ℕ) (e : CallFault) → CountsRoom j file texts ends (call_answer e)
none_counted j file texts ends e =
    let none = counts_none e in
    let room : first_room j file texts ends (call_answer e).count ≡ 0 = rw none refl in
    record {
      few = omega (arith, none);
      accepted = λ i less. absurd (omega (arith, less, none));
      bytes = omega (arith, writes_none e, room);
    }

pub room_refused : (j : CJob) (file texts ends : List ℕ) (e : CallFault)
    → IfSome (call_refusal e) (λ why. lines_wanted j file ≡ Err why)
    → IfSome (call_font_fault e) (IsLinesDefect j file texts ends (call_answer e).count)
    → TellsRoom j file texts ends (call_answer e)
room_refused j file texts ends e is defect = record {
  counted = none_counted j file texts ends e;
  end = refused_early j file texts ends e is;
  stands = lines_defect_told (IsLinesDefect j file texts ends (call_answer e).count) e defect;
}
