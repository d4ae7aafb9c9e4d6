-- The lines of a text up to one that is refused: that line stops the drawing, or is passed over.
use Rattle.std.proofs.Common.{◌≡◌, inl, inr, ℕ, ◌+◌, ◌<◌, ◌≤◌, Bool, true, false, List, [], ◌∷◌, ◌++◌, length, take, Option, Some, None, IfSome, Result, Ok, Err, ap, subst, refl, ◌∙◌, arith, append-nil}
use Rattle.std.specs.Io.KnownBytes.{Appends}
use Rattle.std.specs.Prelude.{is_some}
use Rattle.tt_core.specs.declared.fault.JobFault.{JobFault}
use Rattle.tt_core.specs.declared.fault.JobFault.TheVariants as fault
use Rattle.tt_strike.specs.Refusals.{font, job}
use Rattle.tt_render_texts.specs.declared.lines.LineReader.{LineReader}
use Rattle.tt_render_texts.specs.declared.refusal.Refusal.{Refusal}
use Rattle.tt_render_texts.specs.declared.refusal.Refusal.TheVariants as reason
use Rattle.tt_render_texts.specs.declared.refusal.TextsFault.{TextsFault}
use Rattle.tt_render_texts.specs.LineReading.{LosesFirst, LosesLine}
use Rattle.tt_render_settings.specs.Lines.{Drawing, cost_behind, drawn_from, lines_budget, passing, tried}
use Rattle.tt_render_texts.specs.Lines.{line_limit, lines_of}
use Rattle.tt_render_settings.specs.TextsOutcome.{BeginsDrawn, FailsByStop, FindsLine, HasLine, IsCut, IsNotBegun, IsOfText, LinesFail, MakesNoPlace, SendsDrawn, SendsFirstLines, SendsFront, StopsAtLine, earlier, goes_on, line_fault, telling, told}
use Rattle.tt_render_texts.specs.streams.Traffic.{Traffic}
use Rattle.tt_render_texts.specs.Printing.{Errors, PrintsBehind}
use Rattle.tt_render_texts.specs.Answers.{TextAnswer}
use Rattle.tt_render_settings.specs.Texts.{TextRefusal, misfit, missing, not_utf8, refused}
use Rattle.tt_render_settings.proofs.DrawnLines.{IsNext, PrintedBehind, SoFar, drawn_append, first_sent, is_passed_over, one_more, some_sent, tried_dear, tried_enough, tried_long}

-- the next line of a text, behind so many that took this much, is refused for this reason
abbrev BeginsRefused : Drawing → ℕ → ℕ → TextRefusal → List ℕ → Type 0
BeginsRefused d number used why text =
    (line : List ℕ) × (rest : List (List ℕ)) × (lines_of text ≡ line ∷ rest) × (tried d number used line ≡ Err why)

-- where the text is known
abbrev pub IsRefused : Drawing → ℕ → ℕ → TextRefusal → Option (List ℕ) → Type 0
IsRefused d number used why left = IfSome left (BeginsRefused d number used why)

-- the next line is refused, and stops the drawing
next_refused : (d : Drawing) (text rest : List ℕ) (t : Traffic) (e : Errors) (number used : ℕ) (first : Option TextsFault)
    (why : TextRefusal) → passing d.tells (number + 1) why ≡ None
    → SoFar d (Some text) (Some rest) t.out_before t.out_after e number used first
    → BeginsRefused d number used why rest → SendsDrawn d t e (Some (number + 1, why)) text
next_refused d text rest t e number used first why stops so_far begins =
    let lines = so_far.0 in
    let sent = so_far.3 in
    let front = drawn_from d 0 0 lines in
    let others = begins.0 ∷ begins.1 in
    let parts : lines_of text ≡ lines ++ others = so_far.1 ∙ ap (λ ls. lines ++ ls) begins.2 in
    let counted : 0 + length lines ≡ number = omega (arith, so_far.2) in
    let one : drawn_from d (0 + length lines) front.used others
    ≡ record { bytes = []; told = []; used = used; first = None; stop = Some (number + 1, why) } =
    rw (counted, sent.takes, begins.3, stops) refl in
    let joined = rw one at (drawn_append d 0 0 lines others sent.stop) in
    (rw parts joined.stop, rw (parts, joined.bytes, append-nil front.bytes) sent.bytes, rw (parts, joined.told, append-nil front.told) sent.told)

-- so the call stops
refused_at : (d : Drawing) (left : Option (List ℕ)) (t : Traffic) (e : Errors) (number used : ℕ) (first : Option TextsFault)
    (why : Refusal) (r : TextRefusal) → told why ≡ Some r → passing d.tells (number + 1) r ≡ None
    → SoFar d t.left_before left t.out_before t.out_after e number used first → IsRefused d number used r left
    → IfSome t.left_before (StopsAtLine d t e (number + 1) why)
refused_at d left t e number used first why r tells stops so_far begins = by t.left_before left so_far begins
  where
    by : (text left : Option (List ℕ)) → SoFar d text left t.out_before t.out_after e number used first
        → IsRefused d number used r left → IfSome text (StopsAtLine d t e (number + 1) why)
    by None left so_far begins = tt
    by (Some text) None so_far begins = absurd so_far
    by (Some text) (Some rest) so_far begins =
        (r, tells, next_refused d text rest t e number used first r stops so_far begins)

-- where nothing is told of refused lines, or the font refuses a line, that line stops the drawing; else it is passed over
none_told : (tell : ℕ → TextRefusal → List ℕ) (number : ℕ) (why : TextRefusal) → passing (telling false tell) number why ≡ None
none_told tell number why = refl

stops_all : (keeps : Bool) (tell : ℕ → TextRefusal → List ℕ) (number : ℕ) (why : Refusal) (r : TextRefusal) → told why ≡ Some r
    → goes_on keeps why ≡ false → passing (telling keeps tell) number r ≡ None
stops_all false tell number why r tells stops = refl
stops_all true tell number (reason.Font f) r tells stops = let is : refused (font f) ≡ r = cc in rw (← is) refl
stops_all true tell number (reason.Job j) r tells stops = absurd cc
stops_all true tell number reason.NotUtf8 r tells stops = absurd cc
stops_all true tell number (reason.Space wrong) r tells stops = absurd cc
stops_all true tell number (reason.Missing c) r tells stops = absurd cc
stops_all true tell number reason.FontRead r tells stops = absurd cc
stops_all true tell number reason.FontLarge r tells stops = absurd cc
stops_all true tell number reason.Read r tells stops = absurd cc
stops_all true tell number reason.Create r tells stops = absurd cc
stops_all true tell number (reason.Write sent) r tells stops = absurd cc
stops_all true tell number reason.Many r tells stops = absurd cc
stops_all true tell number reason.Memory r tells stops = absurd cc

-- the refusal of a line that is passed over, with what is told of it
pub record IsPassedFor (keeps : Bool) (tell : ℕ → TextRefusal → List ℕ) (number : ℕ) (why : Refusal) : Type 0 where
  pub refusal : TextRefusal
  pub tells : told why ≡ Some refusal
  pub passes : passing (telling keeps tell) number refusal ≡ Some (tell number refusal)
  pub fault : line_fault number refusal ≡ record { line = Some number; refusal = why }

pub passes_for : (keeps : Bool) (tell : ℕ → TextRefusal → List ℕ) (number : ℕ) (why : Refusal) → goes_on keeps why ≡ true
    → IsPassedFor keeps tell number why
passes_for false tell number why goes = absurd cc
passes_for true tell number (reason.Font f) goes = absurd cc
passes_for true tell number (reason.Job j) goes = record { refusal = refused (job j); tells = refl; passes = refl; fault = refl }
passes_for true tell number reason.NotUtf8 goes = record { refusal = not_utf8; tells = refl; passes = refl; fault = refl }
passes_for true tell number (reason.Space wrong) goes = record { refusal = misfit wrong; tells = refl; passes = refl; fault = refl }
passes_for true tell number (reason.Missing c) goes = record { refusal = missing c; tells = refl; passes = refl; fault = refl }
passes_for true tell number reason.FontRead goes = absurd cc
passes_for true tell number reason.FontLarge goes = absurd cc
passes_for true tell number reason.Read goes = absurd cc
passes_for true tell number reason.Create goes = absurd cc
passes_for true tell number (reason.Write sent) goes = absurd cc
passes_for true tell number reason.Many goes = absurd cc
passes_for true tell number reason.Memory goes = absurd cc

-- a line that is too long is refused
abbrev pub RefusesLong : Drawing → Type 0
RefusesLong d = (line : List ℕ) → line_limit < length line → d.answer line ≡ Err (refused (job fault.TextLong))

-- a line that is not begun is refused
pub not_begun : (d : Drawing) → RefusesLong d → (left : Option (List ℕ)) (number used : ℕ) (why : JobFault)
    → IsNotBegun number used why left → IsRefused d number used (refused (job why)) left
not_begun d long None number used why begun = tt
not_begun d long (Some text) number used why (inl (is, (line, rest, lines, more))) =
    let answer : tried d number used line ≡ Err (refused (job fault.TextLong)) =
    tried_long d number used line more ∙ long line more in
    rw is (line, rest, lines, answer)
not_begun d long (Some text) number used why (inr (is, spent, has)) = rw is (first_of (lines_of text) refl has)
  where
    first_of : (lines : List (List ℕ)) → lines_of text ≡ lines → HasLine lines
        → BeginsRefused d number used (refused (job fault.WorkLarge)) text
    first_of [] all none = absurd none
    first_of (line ∷ rest) all short = (line, rest, all, tried_dear d number used line spent short)

-- a line that was found is refused by its answer
pub answer_refused : (d : Drawing) (left after : Option (List ℕ)) (number used : ℕ) (line : List ℕ) (r : TextRefusal)
    → LosesLine left after line → used ≤ lines_budget number → d.answer line ≡ Err r → IsRefused d number used r left
answer_refused d None after number used line r loses enough is = tt
answer_refused d (Some text) None number used line r loses enough is = absurd loses
answer_refused d (Some text) (Some rest) number used line r loses enough is =
    (line, lines_of rest, loses, tried_enough d number used line enough ∙ is)

-- a refused line stops the call
pub stopped_for : (d : Drawing) (keeps : Bool) (tell : ℕ → TextRefusal → List ℕ) (left : Option (List ℕ)) (t : Traffic)
    (e : Errors) (number used : ℕ) (first : Option TextsFault) (why : Refusal) (r : TextRefusal) → d.tells ≡ telling keeps tell
    → goes_on keeps why ≡ false → told why ≡ Some r
    → SoFar d t.left_before left t.out_before t.out_after e number used first → IsRefused d number used r left
    → t.read_failed ≡ false → t.write_failed ≡ false → LinesFail d why (Some (number + 1)) t e
stopped_for d keeps tell left t e number used first why r telling_is stays tells so_far begins reads writes =
    by why tells
    (refused_at d left t e number used first why r tells
    (ap (λ o. passing o (number + 1) r) telling_is ∙ stops_all keeps tell (number + 1) why r tells stays) so_far begins)
  where
    by : (why : Refusal) → told why ≡ Some r → IfSome t.left_before (StopsAtLine d t e (number + 1) why)
        → LinesFail d why (Some (number + 1)) t e
    by (reason.Font f) tells at = (at, reads, writes)
    by (reason.Job j) tells at = (at, reads, writes)
    by reason.NotUtf8 tells at = (at, reads, writes)
    by (reason.Space wrong) tells at = (at, reads, writes)
    by (reason.Missing c) tells at = (at, reads, writes)
    by reason.FontRead tells at = absurd cc
    by reason.FontLarge tells at = absurd cc
    by reason.Read tells at = absurd cc
    by reason.Create tells at = absurd cc
    by (reason.Write sent) tells at = absurd cc
    by reason.Many tells at = absurd cc
    by reason.Memory tells at = absurd cc

-- a line that was not drawn stops the call
pub stopped_in : (V : Type 0) (d : Drawing) (keeps : Bool) (tell : ℕ → TextRefusal → List ℕ) (other : List ℕ → Result TextAnswer TextRefusal) (why : Refusal)
    (left after : Option (List ℕ)) (t : Traffic) (e : Errors) (number used : ℕ) (first : Option TextsFault) (line : List ℕ)
    → d.tells ≡ telling keeps tell → goes_on keeps why ≡ false → other ≡ d.answer
    → SoFar d t.left_before left t.out_before t.out_after e number used first → LosesLine left after line
    → used ≤ lines_budget number → IfSome (told why) (λ r. other line ≡ Err r) → IsOfText {V = V} (Err why)
    → t.read_failed ≡ false → t.write_failed ≡ false → LinesFail d why (Some (number + 1)) t e
stopped_in V d keeps tell other why left after t e number used first line telling_is stays same so_far loses enough is serves
    reads writes =
    by why stays (subst (λ (answer : List ℕ → Result TextAnswer TextRefusal). IfSome (told why) (λ r. answer line ≡ Err r)) same is) serves
  where
    at : (why : Refusal) (r : TextRefusal) → goes_on keeps why ≡ false → told why ≡ Some r → d.answer line ≡ Err r
        → LinesFail d why (Some (number + 1)) t e
    at why r stays tells is = stopped_for d keeps tell left t e number used first why r telling_is stays tells so_far
        (answer_refused d left after number used line r loses enough is) reads writes

    by : (why : Refusal) → goes_on keeps why ≡ false → IfSome (told why) (λ r. d.answer line ≡ Err r)
        → IsOfText {V = V} (Err why) → LinesFail d why (Some (number + 1)) t e
    by (reason.Font f) stays is serves = at (reason.Font f) _ stays refl is
    by (reason.Job j) stays is serves = at (reason.Job j) _ stays refl is
    by reason.NotUtf8 stays is serves = at reason.NotUtf8 _ stays refl is
    by (reason.Space wrong) stays is serves = at (reason.Space wrong) _ stays refl is
    by (reason.Missing c) stays is serves = at (reason.Missing c) _ stays refl is
    by reason.FontRead stays is serves = absurd serves
    by reason.FontLarge stays is serves = absurd serves
    by reason.Read stays is serves = absurd serves
    by reason.Create stays is serves = absurd serves
    by (reason.Write sent) stays is serves = absurd serves
    by reason.Many stays is serves = absurd serves
    by reason.Memory stays is serves = (some_sent d left t e number used first so_far, reads, writes)

-- the next line was not found
pub stopped_before : (d : Drawing) (keeps : Bool) (r : LineReader) (why : Refusal) (left after : Option (List ℕ)) (t : Traffic)
    (e : Errors) (number used : ℕ) (first : Option TextsFault) → (keeps ≡ true → is_some d.tells ≡ true)
    → SoFar d t.left_before left t.out_before t.out_after e number used first
    → FindsLine r keeps number used (Err why) left after → FailsByStop t.read_failed (Err why)
    → t.write_failed ≡ false → LinesFail d why (Some (number + 1)) t e
stopped_before d keeps r reason.Read left after t e number used first tells so_far found reads writes =
    (some_sent d left t e number used first so_far, reads, writes)
stopped_before d keeps r reason.Many left after t e number used first tells so_far found reads writes =
    (tells found, some_sent d left t e number used first so_far, reads, writes)
stopped_before d keeps r (reason.Font f) left after t e number used first tells so_far found reads writes = absurd found
stopped_before d keeps r (reason.Job j) left after t e number used first tells so_far found reads writes = absurd found
stopped_before d keeps r reason.NotUtf8 left after t e number used first tells so_far found reads writes = absurd found
stopped_before d keeps r (reason.Space wrong) left after t e number used first tells so_far found reads writes = absurd found
stopped_before d keeps r (reason.Missing c) left after t e number used first tells so_far found reads writes = absurd found
stopped_before d keeps r reason.FontRead left after t e number used first tells so_far found reads writes = absurd found
stopped_before d keeps r reason.FontLarge left after t e number used first tells so_far found reads writes = absurd found
stopped_before d keeps r reason.Create left after t e number used first tells so_far found reads writes = absurd found
stopped_before d keeps r (reason.Write sent) left after t e number used first tells so_far found reads writes = absurd found
stopped_before d keeps r reason.Memory left after t e number used first tells so_far found reads writes = absurd found

-- a refused line is passed over: the text has lost it, and it was told
pub one_passed : (d : Drawing) (text left after a b x : Option (List ℕ)) (e : PrintedBehind) (number used : ℕ)
    (first : Option TextsFault) (next : TextsFault) (why : TextRefusal) (words : List ℕ)
    → SoFar d text left a b (record { before = x; after = e.before; failed = e.failed }) number used first
    → LosesFirst left after → IsRefused d number used why left → passing d.tells (number + 1) why ≡ Some words
    → (next.line ≡ Some (number + 1)) × (told next.refusal ≡ Some why)
    → PrintsBehind e.failed (record { before = e.before; after = e.after; failed = e.now }) words
    → SoFar d text after a b (record { before = x; after = e.after; failed = e.now }) (number + 1)
    (used + cost_behind number used (Err why)) (earlier first (Some next))
one_passed d text left after a b x e number used first next why words so_far loses begins passes of printed =
    one_more d text left after a b b x e number loses.0 used (used + cost_behind number used (Err why)) first (Some next) so_far loses.1
    (own left after loses.1 begins)
  where
    own : (left after : Option (List ℕ)) → LosesLine left after loses.0 → IsRefused d number used why left
        → IfSome left (λ rest. IsNext d b b e number used loses.0 (used + cost_behind number used (Err why)) (Some next))
    own None after lost begins = tt
    own (Some rest) None lost begins = absurd lost
    own (Some rest) (Some more) lost begins =
        let same : begins.0 ≡ loses.0 = cc (begins.2, lost) in
        is_passed_over d b e number used loses.0 why words next (rw same at begins.3) passes of printed

-- what a front of an output shows, where this many lines are before it
abbrev shown_front : Drawing → ℕ → ℕ → TextAnswer → List ℕ
shown_front d number sent answer = d.to.shown (Some (number + 1)) (take sent answer.bytes)

abbrev IsCutNext : Drawing → ℕ → ℕ → TextAnswer → ℕ → List (List ℕ) → Type 0
IsCutNext d number sent answer = BeginsDrawn d number (IsCut d (number + 1) sent (shown_front d number sent answer))

with_front : (d : Drawing) (t : Traffic) (e : Errors) (number sent : ℕ) (answer : TextAnswer) (text : Option (List ℕ))
    → IfSome text (SendsFirstLines d t e number (shown_front d number sent answer) (IsCutNext d number sent answer))
    → IfSome text (SendsFront d t e (number + 1) sent)
with_front d t e number sent answer None sends = tt
with_front d t e number sent answer (Some text) sends = (number, shown_front d number sent answer, refl, sends)

next_begins : (d : Drawing) (P : TextAnswer → Type 0) (left after : Option (List ℕ)) (number used : ℕ) (line : List ℕ)
    (answer : TextAnswer) → LosesLine left after line → used ≤ lines_budget number → d.answer line ≡ Ok answer → P answer
    → IfSome left (λ rest. BeginsDrawn d number P used (lines_of rest))
next_begins d P None after number used line answer loses enough is holds = tt
next_begins d P (Some rest) None number used line answer loses enough is holds = absurd loses
next_begins d P (Some rest) (Some left) number used line answer loses enough is holds =
    rw loses (answer, tried_enough d number used line enough ∙ is, holds)

-- a front of the next line's output was written
pub cut_sent : (d : Drawing) (left after b : Option (List ℕ)) (t : Traffic) (e : Errors) (number used sent : ℕ)
    (first : Option TextsFault) (line : List ℕ) (answer : TextAnswer) → SoFar d t.left_before left t.out_before b e number used first
    → LosesLine left after line → used ≤ lines_budget number → d.answer line ≡ Ok answer → sent < length answer.bytes
    → Appends b t.out_after (d.to.shown (Some (number + 1)) (take sent answer.bytes))
    → IfSome t.left_before (SendsFront d t e (number + 1) sent)
cut_sent d left after b t e number used sent first line answer so_far loses enough is few out =
    with_front d t e number sent answer t.left_before
    (first_sent d t.left_before left b t e number used first (shown_front d number sent answer) (IsCutNext d number sent answer)
    so_far out (next_begins d (IsCut d (number + 1) sent (shown_front d number sent answer)) left after number used line answer
    loses enough is (few, refl)))

-- no place was made for the next line's output
abbrev IsMadeNext : Drawing → ℕ → ℕ → List (List ℕ) → Type 0
IsMadeNext d number = BeginsDrawn d number (λ a. Unit {0})

with_none : (d : Drawing) (t : Traffic) (e : Errors) (number : ℕ) (text : Option (List ℕ))
    → IfSome text (SendsFirstLines d t e number [] (IsMadeNext d number)) → IfSome text (MakesNoPlace d t e (number + 1))
with_none d t e number None sends = tt
with_none d t e number (Some text) sends = (number, refl, sends)

pub none_made : (d : Drawing) (left after b : Option (List ℕ)) (t : Traffic) (e : Errors) (number used : ℕ)
    (first : Option TextsFault) (line : List ℕ) (answer : TextAnswer)
    → SoFar d t.left_before left t.out_before b e number used first
    → LosesLine left after line → used ≤ lines_budget number → d.answer line ≡ Ok answer → Appends b t.out_after []
    → IfSome t.left_before (MakesNoPlace d t e (number + 1))
none_made d left after b t e number used first line answer so_far loses enough is kept =
    with_none d t e number t.left_before
    (first_sent d t.left_before left b t e number used first [] (IsMadeNext d number) so_far kept
    (next_begins d (λ a. Unit {0}) left after number used line answer loses enough is tt))
