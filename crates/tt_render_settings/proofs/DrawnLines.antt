-- The answer of a line, and the drawing of lines in order.
use Rattle.std.proofs.Common.{◌≡◌, ℕ, ◌+◌, ◌<◌, ◌≤◌, Bool, true, false, ◌&&◌, nat_le, nat_lt, List, [], ◌∷◌, ◌++◌, length, Option, Some, None, IfSome, Result, Ok, Err, ap, sym, subst, refl, ◌∙◌, arith, append_assoc, append-nil, length-append}
use Rattle.std.specs.Prelude.{IfOk, IsUtf8}
use Rattle.std.proofs.lemmas.Bool.Decides.{nat_tests}
use Rattle.std.proofs.lemmas.Str.{IsUtf8-from_is_utf8, is_utf8-from_IsUtf8}
use Rattle.std.specs.Io.KnownBytes.{Appends, IsAtEnd, Keeps, prepend_known}
use Rattle.std.specs.Str.{is_utf8}
use Rattle.tt_core.specs.declared.fault.JobFault.TheVariants as fault
use Rattle.tt_strike.specs.Refusals.{job}
use Rattle.tt_strike.specs.Strikes.{Strike}
use Rattle.tt_render_settings.specs.declared.setting.Setting.{Setting}
use Rattle.tt_render_texts.specs.declared.refusal.TextsFault.{TextsFault}
use Rattle.tt_render_texts.specs.LineReading.{BeginsLong, LosesLine}
use Rattle.tt_render_settings.specs.Lines.{Drawing, LinesDrawn, cost_behind, cost_drawn, drawn_from, drawn_with, line_drawn, lines_budget, passed_with, passing, text_drawn, tried}
use Rattle.tt_render_texts.specs.Lines.{line_limit, lines_of}
use Rattle.tt_render_settings.specs.TextsOutcome.{HasLine, IsFirst, SendsDrawn, SendsFirstLines, SendsSome, earlier, told}
use Rattle.tt_render_texts.specs.streams.Traffic.{Traffic}
use Rattle.tt_render_texts.specs.Printing.{Errors, Prints, PrintsBehind}
use Rattle.tt_render_texts.specs.Reports.{told_of}
use Rattle.tt_render_settings.specs.Products.{product_of}
use Rattle.tt_render_texts.specs.Answers.{TextAnswer}
use Rattle.tt_render_settings.specs.Texts.{TextRefusal, not_utf8, refused, text_answer}
use Rattle.tt_render_texts.proofs.Printed.{appends_nothing, nothing_printed, printed_behind}
use Rattle.tt_render_texts.proofs.streams.Sent.{appends_more}

pub long_line : (a : Setting) (s : Strike) (line : List ℕ) → line_limit < length line
    → line_drawn a s line ≡ Err (refused (job fault.TextLong))
unfolding line_drawn
long_line a s line long =
    let is : nat_lt line_limit (length line) ≡ true = grind (arith, nat_tests) in
    rw is refl

pub line_of_no_text : (a : Setting) (s : Strike) (line : List ℕ) → length line ≤ line_limit → (IsUtf8 line → ⊥)
    → line_drawn a s line ≡ Err not_utf8
unfolding line_drawn
line_of_no_text a s line short other =
    let is : nat_lt line_limit (length line) ≡ false = grind (arith, nat_tests) in
    let none : is_utf8 line ≡ false = no_test (is_utf8 line) refl in
    rw (is, none) refl
  where
    no_test : (b : Bool) → is_utf8 line ≡ b → is_utf8 line ≡ false
    no_test true is_text = absurd (other (IsUtf8-from_is_utf8 line is_text))
    no_test false is_not = is_not

pub line_of_text : (a : Setting) (s : Strike) (line text : List ℕ) → length line ≤ line_limit
    → (text ≡ line) × IsUtf8 line → line_drawn a s line ≡ text_answer a s text
unfolding line_drawn
line_of_text a s line text short is_text =
    let is : nat_lt line_limit (length line) ≡ false = grind (arith, nat_tests) in
    let yes = is_utf8-from_IsUtf8 line is_text.1 in
    rw (is, yes, is_text.0) refl

-- a line is drawn alike whatever glyphs are cached
kept_aside : (a : Setting) (s t : Strike) → line_drawn a (record s { kept = t.kept }) ≡ line_drawn a s
unfolding line_drawn text_answer product_of
kept_aside a s t = refl

pub drawn_alike : (a : Setting) (s t : Strike) → t ≡ record s { kept = t.kept } → line_drawn a t ≡ line_drawn a s
drawn_alike a s t alone = ap (λ (x : Strike). line_drawn a x) alone ∙ kept_aside a s t

-- a strike whose cached glyphs alone have changed, twice
pub kept_alone : (r s t : Strike) → s ≡ record r { kept = s.kept } → t ≡ record s { kept = t.kept }
    → t ≡ record r { kept = t.kept }
kept_alone r s t first second = second ∙ ap (λ (x : Strike). record x { kept = t.kept }) first

-- a strike that differs in its cached glyphs alone has the same limit
pub same_most : (s t : Strike) → t ≡ record s { kept = t.kept } → t.most ≡ s.most
same_most s t is = ap (λ (r : Strike). r.most) is

-- the limit of a cache by another name
pub kept_within : {V : Type 0} (kept : V → ℕ) (r : Result V TextsFault) (limit most : ℕ) → limit ≡ most
    → IfOk r (λ v. kept v ≤ limit) → IfOk r (λ v. kept v ≤ most)
kept_within kept r limit most same within = subst (λ (m : ℕ). IfOk r (λ v. kept v ≤ m)) same within

pub drawn_too : (draw other : List ℕ → Result TextAnswer TextRefusal) (line : List ℕ) (r : Result TextAnswer TextRefusal)
    → other ≡ draw → other line ≡ r → draw line ≡ r
drawn_too draw other line r same is = subst (λ (d : List ℕ → Result TextAnswer TextRefusal). d line ≡ r) same is

-- a line that was found too long
pub found_long : (before after : Option (List ℕ)) (line : List ℕ) → LosesLine before after line
    → line_limit < length line → IfSome before BeginsLong
found_long None after line loses long = tt
found_long (Some text) None line loses long = absurd loses
found_long (Some text) (Some rest) line loses long = (line, lines_of rest, loses, long)

-- a line that was found, and is not too long
pub found_line : (before after : Option (List ℕ)) (line : List ℕ) → LosesLine before after line
    → length line ≤ line_limit → IfSome before (λ text. HasLine (lines_of text))
found_line None after line loses short = tt
found_line (Some text) None line loses short = absurd loses
found_line (Some text) (Some rest) line loses short = rw loses short

-- standard error before a text is printed behind others, and after that: the printed bytes, and whether it has failed
pub record PrintedBehind : Type 0 where
  pub before : Option (List ℕ)
  pub after : Option (List ℕ)
  pub failed : Bool
  pub now : Bool

-- lines none of which stops the drawing, and then others
pub record AreJoined (front rest all : LinesDrawn) : Type 0 where
  pub stop : all.stop ≡ rest.stop
  pub used : all.used ≡ rest.used
  pub first : all.first ≡ earlier front.first rest.first
  pub bytes : all.bytes ≡ front.bytes ++ rest.bytes
  pub told : all.told ≡ front.told ++ rest.told

-- a line and those after it, followed by the rest
after_passed : (n used : ℕ) (why : TextRefusal) (words : Option (List ℕ)) (front all : LinesDrawn) (rest : ℕ → LinesDrawn)
    → (passed_with n used why words front).stop ≡ None → (front.stop ≡ None → AreJoined front (rest front.used) all)
    → AreJoined (passed_with n used why words front) (rest (passed_with n used why words front).used)
    (passed_with n used why words all)
after_passed n used why (Some words) front all rest none behind =
    let joined = behind none in
    record {
      stop = joined.stop;
      used = joined.used;
      first = refl;
      bytes = joined.bytes;
      told = ap (λ xs. words ++ xs) joined.told ∙ sym (append_assoc words front.told (rest front.used).told);
    }
after_passed n used why None front all rest none behind = absurd cc

after_drawn : (d : Drawing) (n used : ℕ) (r : Result TextAnswer TextRefusal) (front all : LinesDrawn) (rest : ℕ → LinesDrawn)
    → (drawn_with d n used r front).stop ≡ None → (front.stop ≡ None → AreJoined front (rest front.used) all)
    → AreJoined (drawn_with d n used r front) (rest (drawn_with d n used r front).used) (drawn_with d n used r all)
after_drawn d n used (Ok a) front all rest none behind =
    let joined = behind none in
    let shown = d.to.shown (Some n) a.bytes in
    record {
      stop = joined.stop;
      used = joined.used;
      first = joined.first;
      bytes = ap (λ xs. shown ++ xs) joined.bytes ∙ sym (append_assoc shown front.bytes (rest front.used).bytes);
      told = ap (λ xs. told_of (Some n) a ++ xs) joined.told
          ∙ sym (append_assoc (told_of (Some n) a) front.told (rest front.used).told);
    }
after_drawn d n used (Err why) front all rest none behind =
    after_passed n used why (passing d.tells n why) front all rest none behind

-- lines none of which stops the drawing, and then others
pub drawn_append : (d : Drawing) (n used : ℕ) (front rest : List (List ℕ)) → (drawn_from d n used front).stop ≡ None
    → AreJoined (drawn_from d n used front) (drawn_from d (n + length front) (drawn_from d n used front).used rest)
    (drawn_from d n used (front ++ rest))
drawn_append d n used [] rest none =
    let same : n + 0 ≡ n = omega arith in
    rw same (record { stop = refl; used = refl; first = refl; bytes = refl; told = refl })
drawn_append d n used (line ∷ lines) rest none =
    let same : n + length (line ∷ lines) ≡ n + 1 + length lines = omega arith in
    let r = tried d n used line in
    let later = used + cost_behind n used r in
    rw same (after_drawn d (n + 1) used r (drawn_from d (n + 1) later lines) (drawn_from d (n + 1) later (lines ++ rest))
    (λ u. drawn_from d (n + 1 + length lines) u rest) none (λ all. drawn_append d (n + 1) later lines rest all))

-- the answer of a line that the budget serves for; that of one that is too long; that of one behind dear lines
pub tried_enough : (d : Drawing) (before used : ℕ) (line : List ℕ) → used ≤ lines_budget before
    → tried d before used line ≡ d.answer line
tried_enough d before used line enough =
    let is : nat_lt (lines_budget before) used ≡ false = grind (arith, nat_tests) in
    rw is refl

pub cost_enough : (before used : ℕ) (answer : Result TextAnswer TextRefusal) → used ≤ lines_budget before
    → cost_behind before used answer ≡ cost_drawn answer
cost_enough before used answer enough =
    let is : nat_lt (lines_budget before) used ≡ false = grind (arith, nat_tests) in
    rw is refl

pub tried_long : (d : Drawing) (before used : ℕ) (line : List ℕ) → line_limit < length line
    → tried d before used line ≡ d.answer line
tried_long d before used line long =
    let is : nat_le (length line) line_limit ≡ false = grind (arith, nat_tests) in
    let both : (nat_lt (lines_budget before) used && nat_le (length line) line_limit) ≡ false =
    ap (λ b. nat_lt (lines_budget before) used && b) is ∙ none (nat_lt (lines_budget before) used) in
    rw both refl
  where
    none : (b : Bool) → (b && false) ≡ false
    none true = refl
    none false = refl

pub tried_dear : (d : Drawing) (before used : ℕ) (line : List ℕ) → lines_budget before < used → length line ≤ line_limit
    → tried d before used line ≡ Err (refused (job fault.WorkLarge))
tried_dear d before used line dear short =
    let over : nat_lt (lines_budget before) used ≡ true = grind (arith, nat_tests) in
    let few : nat_le (length line) line_limit ≡ true = grind (arith, nat_tests) in
    rw (over, few) refl

-- lines none of which stopped the drawing were written with their reports; they took this much, and this was the first that
-- was passed over
pub record AreSent (d : Drawing) (out_before out_after : Option (List ℕ)) (e : Errors) (lines : List (List ℕ)) (used : ℕ)
    (first : Option TextsFault) : Type 0 where
  pub stop : (drawn_from d 0 0 lines).stop ≡ None
  pub takes : (drawn_from d 0 0 lines).used ≡ used
  pub passed : IsFirst first (drawn_from d 0 0 lines).first
  pub bytes : Appends out_before out_after (drawn_from d 0 0 lines).bytes
  pub told : Prints e (drawn_from d 0 0 lines).told

-- the lines of a text so far, where it is known: this many, which took this much of the budget, of which this was the
-- first that was passed over; and these remain
abbrev pub SoFar : Drawing → Option (List ℕ) → Option (List ℕ) → Option (List ℕ) → Option (List ℕ) → Errors → ℕ → ℕ
    → Option TextsFault → Type 0
SoFar d None left out_before out_after e number used first = Unit {0}
SoFar d (Some text) None out_before out_after e number used first = ⊥
SoFar d (Some text) (Some rest) out_before out_after e number used first =
    (lines : List (List ℕ)) × (lines_of text ≡ lines ++ lines_of rest) × (length lines ≡ number)
    × AreSent d out_before out_after e lines used first

pub none_so_far : (d : Drawing) (text left out error : Option (List ℕ)) (failed : Bool) → Keeps text left
    → failed ≡ false → SoFar d text left out out (record { before = error; after = error; failed = failed }) 0 0 None
none_so_far d None left out error failed kept serves = tt
none_so_far d (Some text) None out error failed kept serves = absurd kept
none_so_far d (Some text) (Some rest) out error failed kept serves =
    let sent : AreSent d out out (record { before = error; after = error; failed = failed }) [] 0 None = record {
      stop = refl;
      takes = refl;
      passed = tt;
      bytes = appends_nothing out;
      told = nothing_printed error failed serves;
    } in
    ([], ap lines_of (sym kept), refl, sent)

-- the first of the lines that were passed over, and of the next one
first_too : (first next : Option TextsFault) (f n : Option (ℕ × TextRefusal)) → IsFirst first f → IsFirst next n
    → IsFirst (earlier first next) (earlier f n)
first_too None next None n is too = too
first_too None next (Some f) n is too = absurd is
first_too (Some fault) next None n is too = absurd is
first_too (Some fault) next (Some (number, why)) n is too = is

pub earlier_none : {X : Type 0} (o : Option X) → earlier o None ≡ o
earlier_none None = refl
earlier_none (Some x) = refl

-- a line after others, by its own drawing
pub record IsNext (d : Drawing) (b c : Option (List ℕ)) (e : PrintedBehind) (number used : ℕ) (line : List ℕ) (later : ℕ)
    (next : Option TextsFault) : Type 0 where
  pub stop : (drawn_from d number used (line ∷ [])).stop ≡ None
  pub takes : (drawn_from d number used (line ∷ [])).used ≡ later
  pub passed : IsFirst next (drawn_from d number used (line ∷ [])).first
  pub bytes : Appends b c (drawn_from d number used (line ∷ [])).bytes
  pub told : PrintsBehind e.failed (record { before = e.before; after = e.after; failed = e.now }) (drawn_from d number used (line ∷ [])).told

sent_too : (d : Drawing) (a b c x : Option (List ℕ)) (e : PrintedBehind) (lines : List (List ℕ)) (line : List ℕ)
    (used later : ℕ) (first next : Option TextsFault)
    → AreSent d a b (record { before = x; after = e.before; failed = e.failed }) lines used first
    → IsNext d b c e (length lines) used line later next
    → AreSent d a c (record { before = x; after = e.after; failed = e.now }) (lines ++ (line ∷ [])) later (earlier first next)
sent_too d a b c x e lines line used later first next sent more =
    let front = drawn_from d 0 0 lines in
    let one = drawn_from d (length lines) used (line ∷ []) in
    let number : 0 + length lines ≡ length lines = omega arith in
    let joined : AreJoined front one (drawn_from d 0 0 (lines ++ (line ∷ []))) =
    rw (number, sent.takes) at (drawn_append d 0 0 lines (line ∷ []) sent.stop) in
    record {
      stop = joined.stop ∙ more.stop;
      takes = joined.used ∙ more.takes;
      passed = rw joined.first (first_too first next front.first one.first sent.passed more.passed);
      bytes = rw joined.bytes (appends_more a b c front.bytes one.bytes (front.bytes ++ one.bytes) sent.bytes more.bytes refl);
      told = rw joined.told (printed_behind e.failed e.now x e.before e.after front.told one.told sent.told more.told);
    }

-- a line was drawn or passed over, and the text has lost it
pub one_more : (d : Drawing) (text left after a b c x : Option (List ℕ)) (e : PrintedBehind) (number : ℕ) (line : List ℕ)
    (used later : ℕ) (first next : Option TextsFault)
    → SoFar d text left a b (record { before = x; after = e.before; failed = e.failed }) number used first
    → LosesLine left after line → IfSome left (λ rest. IsNext d b c e number used line later next)
    → SoFar d text after a c (record { before = x; after = e.after; failed = e.now }) (number + 1) later (earlier first next)
one_more d None left after a b c x e number line used later first next so_far loses more = tt
one_more d (Some text) None after a b c x e number line used later first next so_far loses more = absurd so_far
one_more d (Some text) (Some rest) None a b c x e number line used later first next so_far loses more = absurd loses
one_more d (Some text) (Some rest) (Some left) a b c x e number line used later first next so_far loses more =
    let lines = so_far.0 in
    let joined : lines_of text ≡ (lines ++ (line ∷ [])) ++ lines_of left =
    so_far.1 ∙ ap (λ ls. lines ++ ls) loses ∙ sym (append_assoc lines (line ∷ []) (lines_of left)) in
    let own : IsNext d b c e (length lines) used line later next =
    subst (λ n. IsNext d b c e n used line later next) (sym so_far.2) more in (
      lines ++ (line ∷ []),
      joined,
      omega (arith, length-append lines (line ∷ []), so_far.2),
      sent_too d a b c x e lines line used later first next so_far.3 own,
    )

-- the drawing of the next line, which has an output
pub is_drawn : (d : Drawing) (b c : Option (List ℕ)) (e : PrintedBehind) (number used : ℕ) (line : List ℕ)
    (answer : TextAnswer) → used ≤ lines_budget number → d.answer line ≡ Ok answer
    → Appends b c (d.to.shown (Some (number + 1)) answer.bytes)
    → PrintsBehind e.failed (record { before = e.before; after = e.after; failed = e.now }) (told_of (Some (number + 1)) answer)
    → IsNext d b c e number used line (used + answer.cost) None
is_drawn d b c e number used line answer enough answers out printed =
    let is : tried d number used line ≡ Ok answer = tried_enough d number used line enough ∙ answers in
    let cost = cost_enough number used (Ok answer) enough in
    let shown = d.to.shown (Some (number + 1)) answer.bytes in
    let told = told_of (Some (number + 1)) answer in
    let one : drawn_from d number used (line ∷ [])
    ≡ record { bytes = shown ++ []; told = told ++ []; used = used + answer.cost; first = None; stop = None } =
    rw (is, cost) refl in
    let bytes : (drawn_from d number used (line ∷ [])).bytes ≡ shown = ap (λ (l : LinesDrawn). l.bytes) one ∙ append-nil shown in
    let told_is : (drawn_from d number used (line ∷ [])).told ≡ told = ap (λ (l : LinesDrawn). l.told) one ∙ append-nil told in
    let first : (drawn_from d number used (line ∷ [])).first ≡ None = ap (λ (l : LinesDrawn). l.first) one in
    record {
      stop = ap (λ (l : LinesDrawn). l.stop) one;
      takes = ap (λ (l : LinesDrawn). l.used) one;
      passed = rw first tt;
      bytes = rw bytes out;
      told = rw told_is printed;
    }

-- the drawing of the next line, which is refused and passed over
pub is_passed_over : (d : Drawing) (b : Option (List ℕ)) (e : PrintedBehind) (number used : ℕ) (line : List ℕ)
    (why : TextRefusal) (words : List ℕ) (next : TextsFault) → tried d number used line ≡ Err why
    → passing d.tells (number + 1) why ≡ Some words → (next.line ≡ Some (number + 1)) × (told next.refusal ≡ Some why)
    → PrintsBehind e.failed (record { before = e.before; after = e.after; failed = e.now }) words
    → IsNext d b b e number used line (used + cost_behind number used (Err why)) (Some next)
is_passed_over d b e number used line why words next is passes of printed =
    let one : drawn_from d number used (line ∷ [])
    ≡ record {
      bytes = [];
      told = words ++ [];
      used = used + cost_behind number used (Err why);
      first = Some (number + 1, why);
      stop = None;
    } =
    rw (is, passes) refl in
    let bytes : (drawn_from d number used (line ∷ [])).bytes ≡ [] = ap (λ (l : LinesDrawn). l.bytes) one in
    let told_is : (drawn_from d number used (line ∷ [])).told ≡ words = ap (λ (l : LinesDrawn). l.told) one ∙ append-nil words in
    let first : (drawn_from d number used (line ∷ [])).first ≡ Some (number + 1, why) = ap (λ (l : LinesDrawn). l.first) one in
    record {
      stop = ap (λ (l : LinesDrawn). l.stop) one;
      takes = ap (λ (l : LinesDrawn). l.used) one;
      passed = rw first of;
      bytes = rw bytes (appends_nothing b);
      told = rw told_is printed;
    }

-- no line remains
pub all_drawn : (d : Drawing) (left : Option (List ℕ)) (t : Traffic) (e : Errors) (number used : ℕ) (first : Option TextsFault)
    → SoFar d t.left_before left t.out_before t.out_after e number used first
    → IfSome left (λ rest. lines_of rest ≡ [])
    → IfSome t.left_before (λ text. SendsDrawn d t e None text × IsFirst first (text_drawn d text).first)
all_drawn d left t e number used first so_far none = all t.left_before left so_far none
  where
    all : (text left : Option (List ℕ)) → SoFar d text left t.out_before t.out_after e number used first
        → IfSome left (λ rest. lines_of rest ≡ [])
        → IfSome text (λ text. SendsDrawn d t e None text × IsFirst first (text_drawn d text).first)
    all None left so_far none = tt
    all (Some text) None so_far none = absurd so_far
    all (Some text) (Some rest) so_far none =
        let whole : lines_of text ≡ so_far.0 = so_far.1 ∙ ap (λ ls. so_far.0 ++ ls) none ∙ append-nil so_far.0 in
        let sent = so_far.3 in
        ((rw whole sent.stop, rw whole sent.bytes, rw whole sent.told), rw whole sent.passed)

-- the outputs of the lines so far were written, and then more
pub first_sent : (d : Drawing) (text left b : Option (List ℕ)) (t : Traffic) (e : Errors) (number used : ℕ)
    (first : Option TextsFault) (more : List ℕ) (P : ℕ → List (List ℕ) → Type 0)
    → SoFar d text left t.out_before b e number used first → Appends b t.out_after more
    → IfSome left (λ rest. P used (lines_of rest)) → IfSome text (SendsFirstLines d t e number more P)
first_sent d None left b t e number used first more P so_far out holds = tt
first_sent d (Some text) None b t e number used first more P so_far out holds = absurd so_far
first_sent d (Some text) (Some rest) b t e number used first more P so_far out holds =
    let lines = so_far.0 in
    let sent = so_far.3 in
    let bytes = (drawn_from d 0 0 lines).bytes in
    let all = appends_more t.out_before b t.out_after bytes more (bytes ++ more) sent.bytes out refl in (
      lines,
      lines_of rest,
      so_far.1,
      so_far.2,
      (sent.stop, all, sent.told),
      subst (λ u. P u (lines_of rest)) (sym sent.takes) holds,
    )

-- the outputs of this many lines were written
pub many_sent : (d : Drawing) (left : Option (List ℕ)) (t : Traffic) (e : Errors) (number many used : ℕ)
    (first : Option TextsFault) → number ≡ many → SoFar d t.left_before left t.out_before t.out_after e number used first
    → IfSome t.left_before (SendsFirstLines d t e many [] (λ used rest. Unit {0}))
many_sent d left t e number many used first is so_far = rw (← is)
    (first_sent d t.left_before left t.out_after t e number used first [] (λ used rest. Unit {0}) so_far
    (appends_nothing t.out_after) (always left))
  where
    always : (left : Option (List ℕ)) → IfSome left (λ rest. Unit {0})
    always None = tt
    always (Some rest) = tt

-- the outputs of some lines were written
pub some_sent : (d : Drawing) (left : Option (List ℕ)) (t : Traffic) (e : Errors) (number used : ℕ) (first : Option TextsFault)
    → SoFar d t.left_before left t.out_before t.out_after e number used first → IfSome t.left_before (SendsSome d t e)
some_sent d left t e number used first so_far =
    some t.left_before (many_sent d left t e number number used first refl so_far)
  where
    some : (text : Option (List ℕ)) → IfSome text (SendsFirstLines d t e number [] (λ used rest. Unit {0}))
        → IfSome text (SendsSome d t e)
    some None sends = tt
    some (Some text) sends = (number, sends)

-- the reader is at its end where nothing of its text remains
pub reader_at_end : (held : List ℕ) (left : Option (List ℕ)) → IsAtEnd (prepend_known held left) → IsAtEnd left
reader_at_end held None end = tt
reader_at_end [] (Some xs) end = end
reader_at_end (y ∷ ys) (Some xs) end = absurd cc

-- a reader that holds nothing has the whole text before it
pub whole_text : (held : List ℕ) (left : Option (List ℕ)) → held ≡ [] → Keeps left (prepend_known held left)
whole_text held None none = tt
whole_text held (Some xs) none = rw none refl
