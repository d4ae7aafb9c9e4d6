-- Lines drawn one after the other: one line more.
use Rattle.std.proofs.Common.{◌≡◌, ◌∙◌, sym, ap, refl, ℕ, zero, suc, ◌+◌, ◌-◌, ◌*◌, ◌≤◌, ◌<◌, List, [], ◌∷◌, ◌++◌, length, take, drop, get_or, set, Result, Ok, Err, Bool, arith, ◌⊎◌, inl, inr, length-append, length-drop, subst}
use Rattle.std.proofs.lemmas.Bool.{cases_lt}
use Rattle.std.proofs.lemmas.List.Sums.{sum_by-append}
use Rattle.std.proofs.lemmas.List.{take-append-le, append-nil, drop-drop, drop-set-lt, drop-take, drop_all, drop_at, length-take-le, take_all, take_at, take_more_set}
use Rattle.std.proofs.Math.Seq.{take-take}
use Rattle.std.proofs.lemmas.Slice.{take-put_mid_below}
use borrow.Rule.Slice.PartMut.{put_mid, same_len_mid}
use Rattle.std.specs.Prelude.{IsOkAnd}
use Rattle.tt_core.specs.declared.fault.JobFault.TheVariants as fault
use Rattle.tt_core.specs.Faults.{Fault}
use Rattle.tt_core.specs.Outcomes.{◌>>=◌}
use Rattle.tt_render_settings.specs.Lines.{lines_budget}
use Rattle.tt_strike.specs.Costs.{cost_by}
use Rattle.tt_strike.specs.Job.{Job}
use Rattle.tt_strike.specs.Refusals.{as_font}
use Rattle.tt_face.specs.Faces.{Face}
use Rattle.tt_face.specs.Files.{face_with}
use Rattle.tt_face.specs.Instance.{face_at_instance}
use Rattle.tt_fit.specs.declared.programs.Fit.{Fit}
use Rattle.tt_c_calls.specs.declared.answer.CAnswer.{CAnswer}
use Rattle.tt_c_calls.specs.declared.asked.CJob.{CJob}
use Rattle.tt_c_calls.specs.declared.line_drawing.CLine.{CLine}
use Rattle.tt_c_calls.specs.declared.pictures.CPicture.{CPicture}
use Rattle.tt_c_calls.specs.Asked.{asked, grows, job_instance, job_opening}
use Rattle.tt_c_calls.specs.Answers.{job_answer}
use Rattle.tt_c_calls.specs.Refusals.{Refusal, as_call}
use Rattle.tt_c_calls.specs.Lines.{AreAffordable, cost_asked, cost_taken, first_taken, lines_taken, AreEnds, AreLinesDrawn, DrawsLines, EndsWith, IsLineDrawn, IsLineWritten, IsShown, IsTextStopped, line_between, line_bytes, line_taken, lines_by, lines_bytes, start_of, stopped_answer}
use Rattle.tt_c_calls.specs.Pictures.{IsPictureOf, IsWritten}
use Rattle.tt_render_settings.specs.Products.{IsMadeBy}
use Rattle.tt_picture.specs.Pictures.{Picture}

-- equal lists have equal parts
same_part : (m at n : ℕ) (old new : List ℕ) → take m new ≡ take m old → at + n ≤ m
    → take n (drop at new) ≡ take n (drop at old)
same_part m at n old new same within =
    sym (drop-take at n new)
    ∙ ap (drop at) (sym (take-take (at + n) m new within) ∙ ap (take (at + n)) same ∙ take-take (at + n) m old within)
    ∙ drop-take at n old

-- the rows of a line have the bytes that its entry tells
pub shown_bytes : (j : CJob) (font line : List ℕ) (told : CPicture) (rows : List ℕ) (cost : ℕ)
    → IsShown j font line told rows cost → length rows ≡ told.row_bytes * told.height
shown_bytes j font line told rows cost (inl (blank, is, none, free)) = rw (is, none) refl
shown_bytes j font line told rows cost (inr (other, (p, of, is, those, takes))) = rw (is, those) of.ready.rows

-- a drawn line remains where the rows up to its end are unchanged
line_stays : (j : CJob) (font old new : List ℕ) (m at : ℕ) (line : List ℕ) (told : CLine) → take m new ≡ take m old
    → at + line_bytes told ≤ m → IsLineDrawn j font old at line told → IsLineDrawn j font new at line told
line_stays j font old new m at line told same within (rows, cost, shown, place, there) =
    let many : length rows ≡ line_bytes told = shown_bytes j font line told.picture rows cost shown in
    (rows, cost, shown, place, same_part m at (length rows) old new same (rw many within) ∙ there)

-- drawn lines remain where the rows up to their end are unchanged
lines_stay : (j : CJob) (font old new : List ℕ) (m at : ℕ) (lines : List (List ℕ)) (told : List CLine)
    → take m new ≡ take m old → at + lines_bytes told ≤ m → AreLinesDrawn j font old at lines told
    → AreLinesDrawn j font new at lines told
lines_stay j font old new m at [] [] same within drawn = tt
lines_stay j font old new m at [] (t ∷ ts) same within drawn = drawn
lines_stay j font old new m at (l ∷ ls) [] same within drawn = drawn
lines_stay j font old new m at (l ∷ ls) (t ∷ ts) same within drawn = (
  line_stays j font old new m at l t same (omega arith) drawn.0,
  lines_stay j font old new m (at + line_bytes t) ls ts same (omega arith) drawn.1,
)

-- a line is drawn after others
line_behind : (j : CJob) (font texts room : List ℕ) (from at i : ℕ) (ends : List ℕ) (told : List CLine) (x : CLine)
    → i < length ends → AreLinesDrawn j font room at (lines_by texts from (take i ends)) told
    → IsLineDrawn j font room (at + lines_bytes told)
    (line_between texts (get_or (from ∷ ends) i 0) (get_or ends i 0)) x
    → AreLinesDrawn j font room at (lines_by texts from (take (suc i) ends)) (told ++ x ∷ [])
line_behind j font texts room from at i [] told x few drawn next = absurd (omega arith)
line_behind j font texts room from at zero (e ∷ es) [] x few drawn next =
    let here : at + 0 ≡ at = omega arith in (rw here at next, tt)
line_behind j font texts room from at zero (e ∷ es) (t ∷ ts) x few drawn next = absurd drawn
line_behind j font texts room from at (suc i) (e ∷ es) [] x few drawn next = absurd drawn
line_behind j font texts room from at (suc i) (e ∷ es) (t ∷ ts) x few drawn next = (
  drawn.0,
  line_behind j font texts room e (at + line_bytes t) i es ts x (omega arith) drawn.1
      (let there : at + line_bytes t + lines_bytes ts ≡ at + lines_bytes (t ∷ ts) = omega arith in rw there next),
)

ends_behind : (bytes from i : ℕ) (ends : List ℕ) → i < length ends → AreEnds bytes from (take i ends)
    → get_or (from ∷ ends) i 0 ≤ get_or ends i 0 → get_or ends i 0 ≤ bytes → AreEnds bytes from (take (suc i) ends)
ends_behind bytes from i [] few within order small = absurd (omega arith)
ends_behind bytes from zero (e ∷ es) few within order small = (order, small, tt)
ends_behind bytes from (suc i) (e ∷ es) few within order small =
    (within.0, within.1, ends_behind bytes e i es (omega arith) within.2 order small)

bytes_behind : (told : List CLine) (x : CLine) → lines_bytes (told ++ x ∷ []) ≡ lines_bytes told + line_bytes x
bytes_behind [] x = omega arith
bytes_behind (t ∷ ts) x = omega (arith, bytes_behind ts x)

-- the lines up to one more
pub lines_behind : (texts : List ℕ) (from i : ℕ) (ends : List ℕ) → i < length ends
    → lines_by texts from (take (suc i) ends)
    ≡ lines_by texts from (take i ends) ++ line_between texts (get_or (from ∷ ends) i 0) (get_or ends i 0) ∷ []
lines_behind texts from i [] few = absurd (omega (arith, few))
lines_behind texts from zero (e ∷ es) few = refl
lines_behind texts from (suc i) (e ∷ es) few =
    ap (λ ls. line_between texts from e ∷ ls) (lines_behind texts e i es (omega (arith, few)))

lines_many : (texts : List ℕ) (from : ℕ) (ends : List ℕ) → length (lines_by texts from ends) ≡ length ends
lines_many texts from [] = refl
lines_many texts from (e ∷ es) = omega (arith, lines_many texts e es)

-- what the lines take with one more
none_plus : (n : ℕ) → 0 + n ≡ n
none_plus n = omega arith

taken_too : (j : CJob) (font : List ℕ) (lines : List (List ℕ)) (line : List ℕ)
    → lines_taken j font (lines ++ line ∷ []) ≡ lines_taken j font lines + line_taken j font line
taken_too j font lines line =
    sum_by-append (λ (l : List ℕ). line_taken j font l) lines (line ∷ [])
    ∙ ap (λ (n : ℕ). lines_taken j font lines + n) (none_plus (line_taken j font line))

-- the budget serves for one line more
affordable_behind : (j : CJob) (font : List ℕ) (first : List (List ℕ)) (line : List ℕ) → AreAffordable j font first
    → lines_taken j font first ≤ lines_budget (length first) → AreAffordable j font (first ++ line ∷ [])
affordable_behind j font first line before here i within = serves (cases_lt i (length first))
  where
    serves : (i < length first) ⊎ (length first ≤ i)
        → lines_taken j font (take i (first ++ line ∷ [])) ≤ lines_budget i
    serves (inl less) = rw (take-append-le i first (line ∷ []) (omega (arith, less))) (before i less)
    serves (inr more) =
        let last : length first ≡ i = omega (arith, more, within, length-append first (line ∷ [])) in
        let whole : take i (first ++ line ∷ []) ≡ first = take_at first (line ∷ []) i last in
        rw whole (subst (λ (n : ℕ). lines_taken j font first ≤ lines_budget n) last here)

-- what the line of a picture takes
cost_of_job : (a : Job) (f : Result Face Fault) (p : Picture) (grow : Bool) → IsOkAnd f (IsMadeBy grow a p)
    → as_call (as_font f >>= λ face. cost_by face a) ≡ Ok p.cost
cost_of_job a (Err f) p grow made = absurd made
cost_of_job a (Ok face) p grow made = rw made.2 refl

cost_found : (r : Result Job Refusal) (by : Fit → Result Face Fault) (p : Picture) (grow : Bool)
    → IsOkAnd r (λ a. IsOkAnd (by a.fit) (IsMadeBy grow a p))
    → (r >>= λ a. as_call (as_font (by a.fit) >>= λ face. cost_by face a)) ≡ Ok p.cost
cost_found (Err why) by p grow made = absurd made
cost_found (Ok a) by p grow made = cost_of_job a (by a.fit) p grow made

pub cost_of_line : (j : CJob) (font line : List ℕ) (p : Picture) → IsPictureOf j line font p
    → cost_taken (cost_asked j font line) ≡ p.cost
cost_of_line j font line p of =
    ap cost_taken (cost_found (asked j line) (λ how. face_at_instance font (job_opening j how) (job_instance j)) p (grows j) of.made)

shown_cost : (j : CJob) (font line : List ℕ) (told : CPicture) (rows : List ℕ) (cost : ℕ)
    → IsShown j font line told rows cost → line_taken j font line ≡ cost
shown_cost j font line told rows cost (inl (blank, is, none, free)) = rw (blank, free) refl
shown_cost j font line told rows cost (inr (other, (p, of, is, those, takes))) =
    rw (other, takes) (cost_of_line j font line p of)

-- what the lines so far take, and one line more
pub first_taken_too : (j : CJob) (font texts ends : List ℕ) (i cost : ℕ) → i < length ends
    → line_taken j font (line_between texts (start_of ends i) (get_or ends i 0)) ≡ cost
    → first_taken j font texts ends (i + 1) ≡ first_taken j font texts ends i + cost
first_taken_too j font texts ends i cost few takes =
    let line = line_between texts (start_of ends i) (get_or ends i 0) in
    let next : i + 1 ≡ suc i = omega arith in
    let all : lines_by texts 0 (take (i + 1) ends) ≡ lines_by texts 0 (take i ends) ++ line ∷ [] =
    rw next (lines_behind texts 0 i ends few) in
    ap (lines_taken j font) all
    ∙ omega (arith, taken_too j font (lines_by texts 0 (take i ends)) line, takes)

-- a room from a place on
room_behind : (room : List ℕ) (used : ℕ) → take (length room - used) (drop used room) ≡ drop used room
room_behind room used = take_all (length room - used) (drop used room) (omega (arith, length-drop used room))

-- there is room for rows that were written there
few_rows : (rows room new : List ℕ) (used : ℕ) → used ≤ length room → IsWritten rows (drop used room) new
    → length new ≡ length (drop used room) → used + length rows ≤ length room
few_rows rows room new used within written many =
    omega (
      arith,
      ap length written,
      length-append rows (drop (length rows) (drop used room)),
      length-drop used room,
      length-drop (length rows) (drop used room),
    )

-- the room from a place on begins with the rows that were written there
pub rows_behind : (rows room new : List ℕ) (used : ℕ) → used ≤ length room → IsWritten rows (drop used room) new
    → drop used (put_mid used (length room - used) room new) ≡ rows ++ drop (length rows) (drop used room)
rows_behind rows room new used within written =
    let none : drop (length room - used) (drop used room) ≡ [] =
    drop_all (length room - used) (drop used room) (omega (arith, length-drop used room)) in
    drop_at (take used room) (new ++ drop (length room - used) (drop used room)) used (length-take-le used room within)
    ∙ ap (λ l. new ++ l) none ∙ append-nil new ∙ written

-- the lines so far, and one line more
line_more : (j : CJob) (font texts ends before room new : List ℕ) (told_before told : List CLine) (used i : ℕ)
    (x : CLine) (rows : List ℕ) (cost : ℕ) → DrawsLines j font texts ends before room told_before told used i
    → first_taken j font texts ends i ≤ lines_budget i → i < length ends → i < length told → used ≤ length room → start_of ends i ≤ get_or ends i 0 → get_or ends i 0 ≤ length texts
    → IsShown j font (line_between texts (start_of ends i) (get_or ends i 0)) x.picture rows cost → x.at ≡ used
    → IsWritten rows (drop used room) new
    → DrawsLines j font texts ends before (put_mid used (length room - used) room new) told_before
    (set told i x) (used + length rows) (i + 1)
line_more j font texts ends before room new told_before told used i x rows cost so_far enough few room_few within order
    small shown stands written =
    let room_new = put_mid used (length room - used) room new in
    let n = length rows in
    let line = line_between texts (start_of ends i) (get_or ends i 0) in
    let next : i + 1 ≡ suc i = omega arith in
    let place : 0 + lines_bytes (take i told) ≡ used = omega (arith, so_far.bytes) in
    let lines : take (i + 1) (set told i x) ≡ take i told ++ x ∷ [] = take_more_set told i x room_few in
    let front : take used room_new ≡ take used room = take-put_mid_below used (length room - used) room new used
    (omega arith) within in
    let placed = rows_behind rows room new used within written in
    let many : n ≡ line_bytes x = shown_bytes j font line x.picture rows cost shown in
    let stay = lines_stay j font room room_new used 0 (lines_by texts 0 (take i ends)) (take i told) front
    (omega (arith, place)) so_far.drawn in
    let there : IsLineDrawn j font room_new used line x =
    (rows, cost, shown, stands, ap (take n) placed ∙ take_at rows _ n refl) in
    let one : IsLineDrawn j font room_new (0 + lines_bytes (take i told)) line x = rw place there in
    let so_many : length (lines_by texts 0 (take i ends)) ≡ i =
    lines_many texts 0 (take i ends) ∙ length-take-le i ends (omega (arith, few)) in
    let serves : lines_taken j font (lines_by texts 0 (take i ends))
    ≤ lines_budget (length (lines_by texts 0 (take i ends))) = omega (arith, so_many, enough) in
    let affords = affordable_behind j font (lines_by texts 0 (take i ends)) line so_far.affordable serves in
    record {
      few = omega arith;
      within = rw next (ends_behind (length texts) 0 i ends few so_far.within order small);
      drawn = rw (lines, next) (line_behind j font texts room_new 0 0 i ends (take i told) x few stay one);
      affordable = rw (next, lines_behind texts 0 i ends few) affords;
      bytes = rw (lines, bytes_behind (take i told) x) (omega (arith, many, so_far.bytes));
      rest = sym (drop-drop n used room_new) ∙ ap (drop n) placed ∙ drop_at rows _ n refl
          ∙ ap (drop n) so_far.rest ∙ drop-drop n used before;
      others = drop-set-lt (i + 1) told i x (omega arith) ∙ sym (drop-drop 1 i told) ∙ ap (drop 1) so_far.others
          ∙ drop-drop 1 i told_before;
    }

-- the facts before each step of a loop over lines
pub record IsDrawnTo (j : CJob) (font texts ends before room : List ℕ) (told_before told : List CLine)
    (from used i taken : ℕ) : Type 0 where
  pub start : from ≡ start_of ends i
  pub room_used : used ≤ length room
  pub so_far : DrawsLines j font texts ends before room told_before told used i
  pub takes : first_taken j font texts ends i ≡ taken
  pub few : taken ≤ 18446744073709551615 * i

-- the start of the next line
pub start_behind : (ends : List ℕ) (i : ℕ) → get_or ends i 0 ≡ start_of ends (i + 1)
start_behind ends i = let next : i + 1 ≡ suc i = omega arith in rw next refl

-- the facts after one line more
pub drawn_on : (j : CJob) (font texts ends before room new : List ℕ) (told_before told : List CLine) (told_new : CLine)
    (from used i taken : ℕ) (a : CAnswer) (cost after : ℕ)
    → IsDrawnTo j font texts ends before room told_before told from used i taken → taken ≤ lines_budget i
    → cost ≤ 18446744073709551615 → after ≡ taken + cost → i < length ends → i < length told → from ≤ get_or ends i 0 → get_or ends i 0 ≤ length texts
    → IsLineWritten j font (line_between texts from (get_or ends i 0)) used
    (take (length room - used) (drop used room)) new told_new a cost
    → length new ≡ length (take (length room - used) (drop used room))
    → IsDrawnTo j font texts ends before (put_mid used (length room - used) room new) told_before
    (set told i told_new) (get_or ends i 0) (used + a.bytes) (i + 1) after
drawn_on j font texts ends before room new told_before told told_new from used i taken a cost after so_far enough low is
    few room_few order small w many =
    let rows = w.bytes in
    let written : IsWritten rows (drop used room) new = rw (room_behind room used) at w.rows in
    let many_new : length new ≡ length (drop used room) = rw (room_behind room used) at many in
    let keeps : length (put_mid used (length room - used) room new) ≡ length room =
    same_len_mid used (length room - used) room new many in
    let line = line_between texts (start_of ends i) (get_or ends i 0) in
    let shown : IsShown j font line told_new.picture rows cost = rw so_far.start at w.shown in
    record {
      start = start_behind ends i;
      room_used = rw (w.answer, keeps) (few_rows rows room new used so_far.room_used written many_new);
      so_far = rw w.answer (line_more j font texts ends before room new told_before told used i told_new rows cost
          so_far.so_far (omega (arith, so_far.takes, enough)) few room_few so_far.room_used
          (rw so_far.start at order) small shown w.place written);
      takes = omega (
        arith,
        first_taken_too j font texts ends i cost few (shown_cost j font line told_new.picture rows cost shown),
        so_far.takes,
        is,
      );
      few = omega (arith, so_far.few, low, is);
    }

-- a call that a line stopped, after those before it
pub line_stops : (j : CJob) (font texts ends room : List ℕ) (used from i : ℕ) (own : CAnswer) (most : ℕ)
    → i < length ends
    → (own.status ≡ 0 → ⊥) → from ≡ start_of ends i → from ≤ get_or ends i 0 → get_or ends i 0 ≤ length texts
    → length room ≡ most
    → IsTextStopped j font (line_between texts from (get_or ends i 0))
    (length (take (length room - used) (drop used room))) own → first_taken j font texts ends i ≤ lines_budget i
    → EndsWith j font texts ends most used (stopped_answer own used i)
line_stops j font texts ends room used from i own most few not_done start order small same stopped enough =
    let left : length (take (length room - used) (drop used room)) ≡ most - used =
    rw (room_behind room used) (omega (arith, length-drop used room, same)) in
    let why = inr (rw start at order, small, rw (left, start) at stopped) in
    inr (not_done, inr (inr (inl (own, few, refl, why, inr enough))))

-- a call that the budget stops
pub budget_stops : (j : CJob) (font texts ends : List ℕ) (used from i most : ℕ) → i < length ends → from ≡ start_of ends i
    → from ≤ get_or ends i 0 → get_or ends i 0 ≤ length texts → lines_budget i < first_taken j font texts ends i
    → EndsWith j font texts ends most used (stopped_answer (job_answer fault.WorkLarge) used i)
budget_stops j font texts ends used from i most few start order small spent =
    inr ((λ h. omega (arith, h)), inr (inr (inr (few, (rw start at order, small), spent, refl))))
