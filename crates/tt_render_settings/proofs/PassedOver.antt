-- A refused line of a call that draws lines: the call passes over that line, or stops.
use Rattle.std.proofs.Common.{◌≡◌, inl, inr, ℕ, ◌+◌, ◌≤◌, Bool, true, false, nat_lt, if◌then◌else◌, List, [], Option, Some, None, IfSome, Result, Err, ap, sym, subst, refl, ◌∙◌, arith, append-nil}
use Rattle.std.proofs.lemmas.Bool.Decides.{nat_tests}
use Rattle.std.specs.Io.KnownBytes.{Appends, Keeps}
use Rattle.std.specs.Prelude.{is_some}
use Rattle.tt_core.specs.declared.fault.JobFault.{JobFault}
use Rattle.tt_core.specs.Faults.{Fault}
use Rattle.tt_strike.specs.Refusals.{job}
use Rattle.tt_render_texts.specs.declared.refusal.Refusal.{Refusal}
use Rattle.tt_render_texts.specs.declared.refusal.Refusal.TheVariants as reason
use Rattle.tt_render_texts.specs.declared.refusal.TextsFault.{TextsFault}
use Rattle.tt_render_texts.specs.LineReading.{LosesFirst, LosesLine}
use Rattle.tt_render_settings.specs.Lines.{Drawing, cost_behind, lines_budget, passing}
use Rattle.tt_render_settings.specs.LinesDefects.{LineTells}
use Rattle.tt_render_settings.specs.TextsOutcome.{IsNotBegun, LinesFail, SendsSome, StopsPassing, earlier, goes_on, line_fault, refused_cost, telling, told}
use Rattle.tt_render_texts.specs.streams.Traffic.{Traffic}
use Rattle.tt_render_texts.specs.Printing.{Errors, PrintsBehind}
use Rattle.tt_render_texts.specs.Answers.{TextAnswer}
use Rattle.tt_render_settings.specs.Texts.{TextRefusal, refused}
use Rattle.tt_render_settings.proofs.DrawnLines.{PrintedBehind, SoFar, some_sent}
use Rattle.tt_render_settings.proofs.StoppedLines.{IsPassedFor, IsRefused, RefusesLong, answer_refused, not_begun, one_passed, passes_for}

-- what is told of refused lines, by their faults
abbrev pub tells_by : (TextsFault → List ℕ) → ℕ → TextRefusal → List ℕ
tells_by words number why = words (line_fault number why)

-- a line is refused for each refusal that its fault tells
abbrev pub IsRefusedFor : Drawing → ℕ → ℕ → Refusal → Option (List ℕ) → Type 0
IsRefusedFor d number used why left = (r : TextRefusal) → told why ≡ Some r → IsRefused d number used r left

-- a line that is not begun, and one that is refused when it is drawn
pub unbegun : (d : Drawing) → RefusesLong d → (left : Option (List ℕ)) (number used : ℕ) (why : JobFault)
    → IsNotBegun number used why left → IsRefusedFor d number used (reason.Job why) left
unbegun d long left number used why begun r tells =
    let same : refused (job why) ≡ r = cc in
    subst (λ x. IsRefused d number used x left) same (not_begun d long left number used why begun)

pub undrawn : (d : Drawing) (other : List ℕ → Result TextAnswer TextRefusal) (why : Refusal) (left after : Option (List ℕ))
    (number used : ℕ) (line : List ℕ) → other ≡ d.answer → LosesLine left after line → used ≤ lines_budget number
    → IfSome (told why) (λ r. other line ≡ Err r) → IsRefusedFor d number used why left
undrawn d other why left after number used line same loses enough is r tells =
    let refuses : other line ≡ Err r = rw tells at is in
    let own : d.answer line ≡ Err r = subst (λ (answer : List ℕ → Result TextAnswer TextRefusal). answer line ≡ Err r) same refuses in
    answer_refused d left after number used line r loses enough own

-- what the lines took, behind one more that is refused
abbrev pub TakesFor : ℕ → ℕ → Refusal → ℕ → Type 0
TakesFor number used why later = (r : TextRefusal) → told why ≡ Some r → used + cost_behind number used (Err r) ≡ later

-- nothing more behind a line that is not begun
adds_none : (n : ℕ) (b : Bool) → n + (if b then 0 else 0) ≡ n
adds_none n true = omega arith
adds_none n false = omega arith

pub takes_none : (number used : ℕ) (why : JobFault) (left : Option (List ℕ)) → IsNotBegun number used why left
    → TakesFor number used (reason.Job why) used
takes_none number used why left (inl (is, long)) r tells =
    let same : refused (job why) ≡ r = cc in
    rw (← same, is) (adds_none used (nat_lt (lines_budget number) used))
takes_none number used why left (inr (is, spent, has)) r tells =
    let over : nat_lt (lines_budget number) used ≡ true = grind (arith, nat_tests) in
    let plain : used + 0 ≡ used = omega arith in
    rw over plain

-- what its refusal says, behind one that was begun
pub takes_refused : (number used : ℕ) (why : Refusal) → used ≤ lines_budget number
    → TakesFor number used why (used + refused_cost why)
takes_refused number used why enough r tells =
    let is : nat_lt (lines_budget number) used ≡ false = grind (arith, nat_tests) in
    rw (is, tells) refl

-- the line is told, and passed over
pub passed_on : (d : Drawing) (keeps : Bool) (words : TextsFault → List ℕ) (text left after a b x : Option (List ℕ))
    (e : PrintedBehind) (number used later : ℕ) (first : Option TextsFault) (why : Refusal)
    → d.tells ≡ telling keeps (tells_by words) → goes_on keeps why ≡ true
    → SoFar d text left a b (record { before = x; after = e.before; failed = e.failed }) number used first
    → LosesFirst left after → IsRefusedFor d number used why left → TakesFor number used why later
    → PrintsBehind e.failed (record { before = e.before; after = e.after; failed = e.now })
    (words (record { line = Some (number + 1); refusal = why }))
    → SoFar d text after a b (record { before = x; after = e.after; failed = e.now }) (number + 1) later
    (earlier first (Some (record { line = Some (number + 1); refusal = why })))
passed_on d keeps words text left after a b x e number used later first why tells goes so_far loses begins takes printed =
    let p : IsPassedFor keeps (tells_by words) (number + 1) why = passes_for keeps (tells_by words) (number + 1) why goes in
    let told_so : PrintsBehind e.failed (record { before = e.before; after = e.after; failed = e.now })
    (tells_by words (number + 1) p.refusal) =
    subst (λ f. PrintsBehind e.failed (record { before = e.before; after = e.after; failed = e.now }) (words f)) (sym p.fault) printed in
    let passed = one_passed d text left after a b x e number used first (record { line = Some (number + 1); refusal = why }) p.refusal
    (tells_by words (number + 1) p.refusal) so_far loses (begins p.refusal p.tells)
    (subst (λ o. passing o (number + 1) p.refusal ≡ Some (tells_by words (number + 1) p.refusal)) (sym tells) p.passes) (refl, p.tells) told_so in
    subst (λ (n : ℕ). SoFar d text after a b (record { before = x; after = e.after; failed = e.now }) (number + 1) n
    (earlier first (Some (record { line = Some (number + 1); refusal = why })))) (takes p.refusal p.tells) passed

-- only where this was asked for
pub passes_asked : (d : Drawing) (keeps : Bool) (tell : ℕ → TextRefusal → List ℕ) (why : Refusal)
    → d.tells ≡ telling keeps tell → goes_on keeps why ≡ true → is_some d.tells ≡ false → ⊥
passes_asked d keeps tell why tells goes none = by keeps goes (ap is_some (sym tells) ∙ none)
  where
    by : (keeps : Bool) → goes_on keeps why ≡ true → is_some (telling keeps tell) ≡ false → ⊥
    by false goes none = cc
    by true goes none = cc

pub goes_keeps : (keeps : Bool) (why : Refusal) → goes_on keeps why ≡ true → keeps ≡ true
goes_keeps true why goes = refl
goes_keeps false why goes = absurd cc

pub tells_asked : (keeps : Bool) (tell : ℕ → TextRefusal → List ℕ) → keeps ≡ true → is_some (telling keeps tell) ≡ true
tells_asked true tell asked = refl
tells_asked false tell asked = absurd cc

-- the call stops by the fault of the line, or memory ran out
pub fails_passing : (d : Drawing) (keeps : Bool) (t : Traffic) (er : Errors) (fault e : TextsFault) → StopsPassing keeps fault e
    → (goes_on keeps fault.refusal ≡ false → LinesFail d fault.refusal fault.line t er)
    → IfSome t.left_before (SendsSome d t er) → t.read_failed ≡ false → t.write_failed ≡ false
    → LinesFail d e.refusal e.line t er
fails_passing d keeps t er fault e (inl (stays, is)) fails sends reads writes = rw is (fails stays)
fails_passing d keeps t er fault e (inr is) fails sends reads writes = rw is (sends, reads, writes)

pub tells_passing : (IsOne : List ℕ → Fault → Type 0) (text : Option (List ℕ)) (keeps : Bool) (fault e : TextsFault)
    → StopsPassing keeps fault e → LineTells IsOne text fault.refusal fault.line → LineTells IsOne text e.refusal e.line
tells_passing IsOne text keeps fault e (inl (stays, is)) tells = rw is tells
tells_passing IsOne text keeps fault e (inr is) tells = rw is tt

-- where nothing was written, nothing more stands there
pub appends_kept : (a b : Option (List ℕ)) → Keeps a b → Appends a b []
appends_kept None b kept = tt
appends_kept (Some xs) None kept = absurd kept
appends_kept (Some xs) (Some ys) kept = kept ∙ sym (append-nil xs)

-- a call that does not pass over a line stops: by the line's own fault, or for lack of memory
pub refused_stops : (d : Drawing) (keeps : Bool) (left : Option (List ℕ)) (t : Traffic) (er : Errors) (number used : ℕ)
    (first : Option TextsFault) (why : Refusal) (fault e : TextsFault)
    → fault ≡ record { line = Some (number + 1); refusal = why } → StopsPassing keeps fault e
    → SoFar d t.left_before left t.out_before t.out_after er number used first
    → (goes_on keeps why ≡ false → LinesFail d why (Some (number + 1)) t er) → t.read_failed ≡ false
    → t.write_failed ≡ false → LinesFail d e.refusal e.line t er
refused_stops d keeps left t er number used first why fault e is stops so_far fails reads writes =
    fails_passing d keeps t er fault e stops (rw is fails) (some_sent d left t er number used first so_far) reads writes
