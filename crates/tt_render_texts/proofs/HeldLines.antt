-- The bytes held by a reader of lines, and the lines of a text whose front is known.
use Rattle.std.proofs.Common.{◌≡◌, ◌≢◌, ℕ, ◌+◌, ◌-◌, ◌<◌, ◌≤◌, Bool, true, false, cond, eqb, List, [], ◌∷◌, ◌++◌, length, take, drop, All, Option, Some, None, ap, sym, refl, ◌∙◌, arith, append_assoc, append-nil, length-append, length-drop, get_or, get_or-drop, drop-cons, drop-drop, take-append-drop, subst, add-one, IfSome, length-take-le, ne_eqb}
use Rattle.std.proofs.Math.Seq.{take-add}
use Rattle.std.proofs.lemmas.List.{drop-append-le, drop-take}
use Rattle.std.proofs.lemmas.List.Edits.{take-paste}
use Rattle.std.proofs.lemmas.List.Elements.{All-head, All-tail, All-append}
use Rattle.std.specs.Io.BufRead.{ends_with_byte}
use Rattle.std.specs.Io.KnownBytes.{IsAtEnd, Keeps, prepend_known}
use Rattle.tt_render_texts.specs.LineReading.{BeginsLong, GetsMore, LosesLine}
use Rattle.tt_render_texts.specs.Lines.{IsFirstFeed, line_limit, before_feed, last_lines, lines_after, lines_of}
use lib.Seq.{paste}

-- a part of a buffer moved to its front
pub moved_to_front : (from until : ℕ) (bytes : List ℕ) → from ≤ until → until ≤ length bytes
    → take (until - from) (paste bytes 0 (drop from bytes) (until - from)) ≡ drop from (take until bytes)
moved_to_front from until bytes low high =
    let n = until - from in
    let enough : n ≤ length (drop from bytes) = omega (arith, length-drop from bytes) in
    let whole : from + n ≡ until = omega arith in
    let none : n ≡ 0 + n = omega arith in
    ap (λ k. take k (paste bytes 0 (drop from bytes) n)) none
    ∙ take-paste bytes 0 (drop from bytes) n (omega arith) enough
    ∙ sym (drop-take from n bytes) ∙ ap (λ k. drop from (take k bytes)) whole

-- a part of a buffer, with more bytes behind it
pub held_more : (from until n : ℕ) (old new : List ℕ) → from ≤ until → until ≤ length new
    → take until new ≡ take until old
    → drop from (take (until + n) new) ≡ drop from (take until old) ++ take n (drop until new)
held_more from until n old new low high front =
    let long : length (take until new) ≡ until = length-take-le until new high in
    ap (drop from) (take-add until n new)
    ∙ drop-append-le from (take until new) (take n (drop until new)) (omega (arith, long))
    ∙ ap (λ xs. drop from xs ++ take n (drop until new)) front

-- bytes without a line feed are the front of the first line
pub lines_without_feed : (front xs ys : List ℕ) → All (λ x. x ≢ 10) xs
    → lines_after front (xs ++ ys) ≡ lines_after (front ++ xs) ys
lines_without_feed front [] ys none = ap (λ l. lines_after l ys) (sym (append-nil front))
lines_without_feed front (x ∷ xs) ys none =
    ap (λ b. cond b (before_feed front ∷ lines_after [] (xs ++ ys)) (lines_after (front ++ (x ∷ [])) (xs ++ ys)))
    (ne_eqb x 10 (All-head (λ y. y ≢ 10) x xs none))
    ∙ lines_without_feed (front ++ (x ∷ [])) xs ys (All-tail (λ y. y ≢ 10) x xs none)
    ∙ ap (λ l. lines_after l ys) (append_assoc front (x ∷ []) xs)

-- the first line of a text ends before its first line feed
pub first_of_lines : (line rest : List ℕ) → All (λ x. x ≢ 10) line
    → lines_of (line ++ (10 ∷ rest)) ≡ before_feed line ∷ lines_of rest
unfolding lines_of
first_of_lines line rest none = lines_without_feed [] line (10 ∷ rest) none

-- a text without a line feed is a line, unless it is empty
pub only_of_lines : (line : List ℕ) → All (λ x. x ≢ 10) line → lines_of line ≡ last_lines line
unfolding lines_of
only_of_lines line none = ap (lines_after []) (sym (append-nil line)) ∙ lines_without_feed [] line [] none

-- the bytes behind a front of the held bytes
pub part_held : (from until known : ℕ) (bytes : List ℕ) → from + known ≤ until
    → drop known (drop from (take until bytes)) ≡ take (until - (from + known)) (drop (from + known) bytes)
part_held from until known bytes within =
    let whole : until ≡ from + known + (until - (from + known)) = omega arith in
    drop-drop known from (take until bytes) ∙ ap (λ k. drop (from + known) (take k bytes)) whole
    ∙ drop-take (from + known) (until - (from + known)) bytes

-- neither part has a line feed
pub none_in_both : (known : ℕ) (bytes : List ℕ) → All (λ x. x ≢ 10) (take known bytes)
    → All (λ x. x ≢ 10) (drop known bytes) → All (λ x. x ≢ 10) bytes
none_in_both known bytes front back =
    subst (All (λ x. x ≢ 10)) (take-append-drop known bytes)
    (All-append (λ x. x ≢ 10) (take known bytes) (drop known bytes) front back)

-- the first line feed is in the second part
pub first_feed_behind : (known at : ℕ) (bytes : List ℕ) → known ≤ length bytes → All (λ x. x ≢ 10) (take known bytes)
    → IsFirstFeed (drop known bytes) at → IsFirstFeed bytes (known + at)
first_feed_behind known at bytes within front first = record {
  within = omega (arith, length-drop known bytes, first.within);
  feed = sym (get_or-drop known bytes at 0) ∙ first.feed;
  before = subst (All (λ x. x ≢ 10)) (sym (take-add known at bytes))
      (All-append (λ x. x ≢ 10) (take known bytes) (take at (drop known bytes)) front first.before);
}

-- bytes before and after their first line feed
split_at_feed : (bytes : List ℕ) (at : ℕ) → IsFirstFeed bytes at → bytes ≡ take at bytes ++ (10 ∷ drop (at + 1) bytes)
split_at_feed bytes at first =
    let some = first.within in
    let here : drop at bytes ≡ get_or bytes at 0 ∷ drop (at + 1) bytes = rw add-one (drop-cons bytes at 0 some) in
    sym (take-append-drop at bytes)
    ∙ ap (λ xs. take at bytes ++ xs) (here ∙ ap (λ x. x ∷ drop (at + 1) bytes) first.feed)

-- a line given out up to its line feed
pub loses_line : (before left : Option (List ℕ)) (held rest line : List ℕ) (at : ℕ)
    → Keeps before (prepend_known held left) → IsFirstFeed held at → rest ≡ drop (at + 1) held → line ≡ before_feed (take at held)
    → LosesLine before (prepend_known rest left) line
loses_line None left held rest line at kept first behind is = tt
loses_line (Some text) None held rest line at kept first behind is = absurd kept
loses_line (Some text) (Some more) held rest line at kept first behind is =
    let cut : held ++ more ≡ take at held ++ (10 ∷ (drop (at + 1) held ++ more)) =
    ap (λ xs. xs ++ more) (split_at_feed held at first) ∙ append_assoc (take at held) (10 ∷ drop (at + 1) held) more in
    let parts : lines_of text ≡ before_feed (take at held) ∷ lines_of (drop (at + 1) held ++ more) =
    ap lines_of (sym kept ∙ cut) ∙ first_of_lines (take at held) (drop (at + 1) held ++ more) first.before in
    rw (is, behind) parts

-- the text is unchanged where bytes move from the source to the held bytes
pub keeps_more : (before left after : Option (List ℕ)) (held new : List ℕ) (n : ℕ)
    → Keeps before (prepend_known held left) → GetsMore held new left after n → Keeps before (prepend_known new after)
keeps_more None left after held new n kept more = tt
keeps_more (Some text) None after held new n kept more = absurd kept
keeps_more (Some text) (Some xs) None held new n kept more = absurd more.3
keeps_more (Some text) (Some xs) (Some ys) held new n kept more =
    ap (λ l. l ++ ys) more.2 ∙ append_assoc held more.0 ys ∙ ap (λ l. held ++ l) (sym more.3) ∙ kept

-- a line loses at most a byte before its line feed
few_before_feed : (line : List ℕ) → length line ≤ length (before_feed line) + 1
few_before_feed line = at (ends_with_byte 13 line)
  where
    at : (b : Bool) → length line ≤ length (cond b (take (length line - 1) line) line) + 1
    at true = omega (arith, length-take-le (length line - 1) line (omega arith))
    at false = omega arith

-- a text with this many bytes before any line feed begins with a line that is too long
abbrev LongAfter : List (List ℕ) → Type 0
LongAfter all = (line : List ℕ) × (lines : List (List ℕ)) × (all ≡ line ∷ lines) × (line_limit < length line)

long_after : (rest front : List ℕ) → line_limit + 1 < length front → LongAfter (lines_after front rest)
long_after [] [] long = absurd (omega (arith, long))
long_after [] (x ∷ xs) long = (x ∷ xs, [], refl, omega (arith, long))
long_after (y ∷ ys) front long =
    at (eqb y 10) (long_after ys (front ++ (y ∷ [])) (omega (arith, length-append front (y ∷ []), long)))
  where
    at : (b : Bool) → LongAfter (lines_after (front ++ (y ∷ [])) ys)
        → LongAfter (cond b (before_feed front ∷ lines_after [] ys) (lines_after (front ++ (y ∷ [])) ys))
    at true later = (before_feed front, lines_after [] ys, refl, omega (arith, few_before_feed front, long))
    at false later = later

pub begins_long : (before left : Option (List ℕ)) (held : List ℕ) → Keeps before (prepend_known held left)
    → All (λ x. x ≢ 10) held → line_limit + 1 < length held → IfSome before BeginsLong
unfolding lines_of
begins_long None left held kept none long = tt
begins_long (Some text) None held kept none long = absurd kept
begins_long (Some text) (Some more) held kept none long =
    let all : lines_of text ≡ lines_after held more = ap lines_of (sym kept) ∙ lines_without_feed [] held more none in
    let first : LongAfter (lines_after held more) = long_after more held long in
    (first.0, first.1, all ∙ first.2, first.3)

-- nothing remains
pub no_more_lines : (before after : Option (List ℕ)) (held : List ℕ) → Keeps before (prepend_known held after)
    → length held ≡ 0 → IsAtEnd after → IfSome before (λ text. lines_of text ≡ []) × IsAtEnd (prepend_known held after)
unfolding lines_of
no_more_lines None None held kept none end = (tt, tt)
no_more_lines None (Some xs) [] kept none end = (tt, end)
no_more_lines None (Some xs) (y ∷ ys) kept none end = absurd (omega (arith, none))
no_more_lines (Some text) None held kept none end = absurd kept
no_more_lines (Some text) (Some xs) [] kept none end = (ap lines_of (sym kept ∙ end), end)
no_more_lines (Some text) (Some xs) (y ∷ ys) kept none end = absurd (omega (arith, none))

-- the bytes held at the end are the last line
pub loses_rest : (before after : Option (List ℕ)) (held rest line : List ℕ) → Keeps before (prepend_known held after)
    → All (λ x. x ≢ 10) held → 0 < length held → IsAtEnd after → rest ≡ [] → line ≡ held
    → LosesLine before (prepend_known rest after) line
unfolding lines_of
loses_rest None after held rest line kept none some end behind is = tt
loses_rest (Some text) None held rest line kept none some end behind is = absurd kept
loses_rest (Some text) (Some xs) [] rest line kept none some end behind is = absurd (omega (arith, some))
loses_rest (Some text) (Some xs) (y ∷ ys) rest line kept none some end behind is =
    let whole : (y ∷ ys) ++ xs ≡ y ∷ ys = ap (λ l. (y ∷ ys) ++ l) end ∙ append-nil (y ∷ ys) in
    let all : lines_of text ≡ (y ∷ ys) ∷ [] = ap lines_of (sym kept ∙ whole) ∙ only_of_lines (y ∷ ys) none in
    rw (is, behind, end) all

-- a read of no bytes changed nothing
pub holds_the_same : (left after : Option (List ℕ)) (held new : List ℕ) (n : ℕ) → GetsMore held new left after n → n ≡ 0
    → new ≡ held
holds_the_same left after held new n more none = none_more more.0 (omega (arith, more.1, none)) more.2
  where
    none_more : (bytes : List ℕ) → length bytes ≡ 0 → new ≡ held ++ bytes → new ≡ held
    none_more [] empty is = is ∙ append-nil held
    none_more (b ∷ bytes) empty is = absurd (omega (arith, empty))
