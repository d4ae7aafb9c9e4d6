-- A pass gap by gap: the pixels that it has added, and the gap that needed one last.
use Rattle.std.proofs.Common.{◌≡◌, refl, ◌∙◌, ap, ℕ, zero, suc, ◌+◌, ◌-◌, ◌<◌, ◌≤◌, Bool, true, false, not, ◌&&◌, ◌||◌, Option, Some, List, [], ◌∷◌, ◌++◌, length, take, drop, get_or, slice_range, filter, min, if◌then◌else◌, ℤ, pos, ◌+ℤ◌, ◌-ℤ◌, inl, inr, arith}
use Rattle.std.proofs.lemmas.Bool.{cases_Bool}
use Rattle.std.proofs.lemmas.Int.{ints}
use Rattle.std.proofs.lemmas.List.Folds.{list_any-append}
use Rattle.std.specs.List.{list_any}
use Rattle.std.specs.Ordering.{int_eq}
use Rattle.tt_scan_gaps.specs.Gaps.{IsGroup, asked, asked_by, asked_rightwards, boxed, gap_marks, gives_way, in_gap, is_added, is_asked, is_free, is_up_to, leans_right, pixel_of, some_asks}
use Rattle.tt_scan_dropouts.specs.Passes.{asked_before, has_pixel}
use Rattle.tt_scan_gaps.specs.declared.mark.Columns.{Columns}
use Rattle.tt_scan_gaps.specs.declared.mark.Crossing.{Crossing}
use Rattle.tt_scan_gaps.specs.declared.mark.Mark.{Mark}
use Rattle.tt_scan_dropouts.specs.declared.pixel.Pixel.{Pixel}
use Rattle.tt_scan_gaps.specs.declared.mark.Rules.{Rules}
use Rattle.tt_scan_dropouts.specs.declared.pass.Wish.{Wish}

pub asks_for : (rules : Rules) (b : Columns) (black : ℤ → ℤ → Bool) (j c q : ℤ) (here : List Mark)
    → is_free black c j ≡ true → some_asks here ≡ true → q ≡ pixel_of rules b c here → Some q ≡ asked_by rules b black j c here
asks_for rules b black j c q here free some is = rw (free, some, is) refl

pub pixel_more : (ps : List Pixel) (x : Pixel) (p j : ℤ) → has_pixel (ps ++ x ∷ []) p j ≡ (has_pixel ps p j || (int_eq x.column p && int_eq x.row j))
pixel_more [] x p j = grind arith
pixel_more (y ∷ ps) x p j = let more = pixel_more ps x p j in grind (arith, more)

-- a gap needs only one of its two pixels, and none without a mark

none_asked : (j c : ℤ) (ms : List Mark) → list_any (in_gap j c) ms ≡ false → gap_marks ms j c ≡ []
none_asked j c [] none = refl
none_asked j c (m ∷ ms) none =
    let out : in_gap j c m ≡ false = grind (arith, none) in
    rw out (none_asked j c ms (grind (arith, none)))

by_none : (rules : Rules) (b : Columns) (black : ℤ → ℤ → Bool) (j c p : ℤ) → is_asked (asked_by rules b black j c []) p ≡ false
by_none rules b black j c p = elim (cases_Bool (is_free black c j)) [
  | inl free ↦ rw free refl
  | inr not_free ↦ rw not_free refl
]

pub unasked : (rules : Rules) (b : Columns) (ms : List Mark) (black : ℤ → ℤ → Bool) (j c p : ℤ) → list_any (in_gap j c) ms ≡ false
    → is_asked (asked rules b ms black j c) p ≡ false
unasked rules b ms black j c p none = rw (none_asked j c ms none) (by_none rules b black j c p)

boxed_near : (b : Columns) (c p : ℤ) (right : Bool) → int_eq (boxed b c (if right then c +ℤ pos 1 else c)) p ≡ true
    → (int_eq c p || int_eq (c +ℤ pos 1) p) ≡ true
boxed_near b c p true is = grind (arith, ints)
boxed_near b c p false is = grind (arith, ints)

pub asked_near : (rules : Rules) (b : Columns) (ms : List Mark) (black : ℤ → ℤ → Bool) (j c p : ℤ)
    → is_asked (asked rules b ms black j c) p ≡ true → (int_eq c p || int_eq (c +ℤ pos 1) p) ≡ true
asked_near rules b ms black j c p is = elim (cases_Bool (is_free black c j && some_asks (gap_marks ms j c))) [
  | inl some ↦ boxed_near b c p (rules.smart && leans_right (gap_marks ms j c)) (rw some at is)
  | inr none ↦ absurd (grind (arith, none, is))
]

-- the gaps of the marks before one

abbrev pub done : List Mark → ℕ → ℤ → ℤ → Bool
done ms start j c = list_any (in_gap j c) (take start ms)

abbrev the_none : List Mark
the_none = []

take-nil : (n : ℕ) → take n [] ≡ the_none
take-nil zero = refl
take-nil (suc n) = refl

take_split : (ms : List Mark) (from n : ℕ) → take (from + n) ms ≡ take from ms ++ take n (drop from ms)
take_split ms zero n = let same : zero + n ≡ n = omega arith in rw same refl
take_split [] (suc from) n = let on : suc from + n ≡ suc (from + n) = omega arith in rw (on, take-nil n) refl
take_split (m ∷ ms) (suc from) n = let on : suc from + n ≡ suc (from + n) = omega arith in rw on (ap (λ l. m ∷ l) (take_split ms from n))

any_in_one : (a b j c : ℤ) (ms : List Mark) → list_any (in_gap j c) (filter (in_gap a b) ms)
    ≡ ((int_eq a j && int_eq b c) && list_any (in_gap a b) ms)
any_in_one a b j c [] = grind arith
any_in_one a b j c (m ∷ ms) =
    let more = any_in_one a b j c ms in
    elim (cases_Bool (in_gap a b m)) [
      | inl here ↦
          let same : in_gap j c m ≡ (int_eq a j && int_eq b c) = grind (arith, ints, here) in
          rw (here, more, same) (grind arith)
      | inr out ↦ rw (out, more) refl
    ]

-- the step from one group to the next

some_in : (p : Mark → Bool) (ms : List Mark) (i : ℕ) (d : Mark) → i < length ms → p (get_or ms i d) ≡ true → list_any p ms ≡ true
some_in p [] i d below is = absurd (omega arith)
some_in p (m ∷ ms) zero d below is = rw is refl
some_in p (m ∷ ms) (suc i) d below is = let more = some_in p ms i d (omega arith) is in grind (arith, more)

pub none_in : (p : Mark → Bool) (ms : List Mark) → ((i : ℕ) (d : Mark) → i < length ms → p (get_or ms i d) ≡ false)
    → list_any p ms ≡ false
none_in p [] out = refl
none_in p (m ∷ ms) out = rw (out 0 m (omega arith), none_in p ms (λ i d below. out (suc i) d (omega arith))) refl

and_true : (x : Bool) → (x && true) ≡ x
and_true x = grind arith

itself : (a : Crossing) → (int_eq a.line a.line && int_eq a.gap a.gap) ≡ true
itself a = grind (arith, ints)

-- the gap of a mark
abbrev pub gap_of : List Mark → ℕ → Mark → ℤ → ℤ → Bool
gap_of ms i d j c = int_eq (get_or ms i d).at.line j && int_eq (get_or ms i d).at.gap c

pub done_more : (ms : List Mark) (start end : ℕ) (d : Mark) → start < length ms → IsGroup ms start end → (j c : ℤ)
    → done ms end j c ≡ (done ms start j c || gap_of ms start d j c)
done_more ms start end d below group j c =
    let whole : start + (end - start) ≡ end = omega (arith, group.order) in
    let split : take end ms ≡ take start ms ++ slice_range ms start end = rw whole at (take_split ms start (end - start)) in
    let some = some_in (in_gap (get_or ms start d).at.line (get_or ms start d).at.gap) ms start d below (itself (get_or ms start d).at) in
    let one = any_in_one (get_or ms start d).at.line (get_or ms start d).at.gap j c ms in
    let joined = list_any-append (in_gap j c) (take start ms) (slice_range ms start end) in
    let group_any : list_any (in_gap j c) (slice_range ms start end) ≡ list_any (in_gap j c) (gap_marks ms (get_or ms start d).at.line (get_or ms start d).at.gap) =
    ap (list_any (in_gap j c)) (group.all d) in
    rw split (joined ∙ ap (λ any. done ms start j c || any) (group_any ∙ one ∙ rw some (and_true (gap_of ms start d j c))))

-- the pixels added by the gaps so far
abbrev pub added_so_far : (ℤ → ℤ → Option ℤ) → List Mark → ℕ → ℤ → ℤ → ℤ → Bool
added_so_far ask ms start j c p = done ms start j c && (is_asked (ask j c) p && not (gives_way (ask j) c))

-- all marks before one are at its gap or before it
abbrev pub AreBefore : List Mark → ℕ → ℤ → ℤ → Type 0
AreBefore ms start j c = (i : ℕ) (d : Mark) → i < start → is_up_to (get_or ms i d).at (record { line = j; gap = c; place = 0; up = false }) ≡ true

-- how many gaps left of gap c need the pixel at their right, if a test of the gap before it holds
abbrev pub counted_if : Bool → (ℤ → Option ℤ) → ℤ → ℕ
counted_if right ask c = if right then min (asked_rightwards 4 ask (c -ℤ pos 1)) 3 + 1 else 0

-- the last gap so far that needed a pixel, as the next gaps see it
abbrev pub IsLast : (ℤ → ℤ → Option ℤ) → List Mark → ℕ → Option Wish → Type 0
IsLast ask ms start last = (j c : ℤ) → AreBefore ms start j (c -ℤ pos 1)
    → asked_before last j c ≡ counted_if (done ms start j (c -ℤ pos 1) && is_asked (ask j (c -ℤ pos 1)) c) (ask j) c

pub granted : (ps : List Pixel) (x : Pixel) (p j : ℤ)
    → has_pixel (ps ++ x ∷ []) p j ≡ (has_pixel ps p j || (not false && (int_eq x.column p && int_eq x.row j)))
granted ps x p j = pixel_more ps x p j

-- after all groups, the added pixels are those that a pass adds

take_whole : (ms : List Mark) (n : ℕ) → length ms ≤ n → take n ms ≡ ms
take_whole [] n over = take-nil n
take_whole (m ∷ ms) zero over = absurd (omega arith)
take_whole (m ∷ ms) (suc n) over = ap (λ l. m ∷ l) (take_whole ms n (omega arith))

all_of_gap : (asks any rest : Bool) → (any ≡ false → asks ≡ false) → (any && (asks && rest)) ≡ (asks && rest)
all_of_gap asks true rest none = refl
all_of_gap asks false rest none = rw (none refl) refl

pub all_added : (rules : Rules) (b : Columns) (ms : List Mark) (black : ℤ → ℤ → Bool) (start : ℕ) (p j : ℤ) → length ms ≤ start
    → (added_so_far (asked rules b ms black) ms start j p p || added_so_far (asked rules b ms black) ms start j (p -ℤ pos 1) p)
    ≡ is_added rules b ms black p j
all_added rules b ms black start p j over =
    rw (
      take_whole ms start over,
      all_of_gap (is_asked (asked rules b ms black j p) p) (list_any (in_gap j p) ms) (not (gives_way (asked rules b ms black j) p)) (unasked rules b ms black j p p),
      all_of_gap (is_asked (asked rules b ms black j (p -ℤ pos 1)) p) (list_any (in_gap j (p -ℤ pos 1)) ms) (not (gives_way (asked rules b ms black j) (p -ℤ pos 1))) (unasked rules b ms black j (p -ℤ pos 1) p),
    ) refl
