-- The step of a pass from one gap to the next: whether the gap gives way, and which gap needed a pixel last.
use Rattle.std.proofs.Common.{◌≡◌, refl, sym, ◌∙◌, ap, ap₂, min, if◌then◌else◌, ℕ, zero, suc, ◌+◌, ◌-◌, ◌<◌, ◌≤◌, Bool, true, false, not, ◌&&◌, ◌||◌, Option, Some, None, List, [], ◌∷◌, length, take, drop, get_or, slice_range, ℤ, pos, ◌+ℤ◌, ◌-ℤ◌, inl, inr, arith}
use Rattle.std.proofs.lemmas.Bool.{cases_Bool}
use Rattle.std.proofs.lemmas.Int.{ints}
use Rattle.std.proofs.lemmas.List.{get_or_default, get_or-drop, get_or-take}
use Rattle.std.specs.List.{list_any}
use Rattle.std.specs.Ordering.{int_eq}
use Rattle.tt_scan_gaps.specs.Gaps.{IsFirstInGap, IsGroup, IsInOrder, asked, asked_by, asked_rightwards, gives_way, in_gap, is_asked, is_odd, is_up_to}
use Rattle.tt_scan_dropouts.specs.Passes.{asked_before}
use Rattle.tt_scan_gaps.specs.declared.mark.Columns.{Columns}
use Rattle.tt_scan_gaps.specs.declared.mark.Crossing.{Crossing}
use Rattle.tt_scan_gaps.specs.declared.mark.Mark.{Mark}
use Rattle.tt_scan_gaps.specs.declared.mark.Rules.{Rules}
use Rattle.tt_scan_dropouts.specs.declared.pass.Wish.{Wish}
use Rattle.tt_scan_dropouts.proofs.PassSteps.{AreBefore, IsLast, added_so_far, counted_if, done, done_more, gap_of, none_in}
use Rattle.tt_scan_gaps.proofs.GivesWay.{counted_on}

-- a gap without a mark needs no pixel, and a gap that needs one takes one of its two pixels
abbrev pub IsUnasked : (ℤ → ℤ → Option ℤ) → List Mark → Type 0
IsUnasked ask ms = (j c p : ℤ) → list_any (in_gap j c) ms ≡ false → is_asked (ask j c) p ≡ false

abbrev pub IsNear : (ℤ → ℤ → Option ℤ) → Type 0
IsNear ask = (j c p : ℤ) → is_asked (ask j c) p ≡ true → (int_eq c p || int_eq (c +ℤ pos 1) p) ≡ true

-- the marks of a group are those of its gap

pub group_asks : (rules : Rules) (b : Columns) (ms : List Mark) (black : ℤ → ℤ → Bool) (start end : ℕ) (d : Mark)
    (r : Option ℤ) → IsGroup ms start end
    → r ≡ asked_by rules b black (get_or (slice_range ms start end) 0 d).at.line
    (get_or (slice_range ms start end) 0 d).at.gap (slice_range ms start end)
    → asked rules b ms black (get_or ms start d).at.line (get_or ms start d).at.gap ≡ r
group_asks rules b ms black start end d r group is =
    let some : 0 < end - start = omega (arith, group.order) in
    let on : start + 0 ≡ start = omega arith in
    let from : get_or (drop start ms) 0 d ≡ get_or ms start d = rw on at (get_or-drop start ms 0 d) in
    let first : get_or (slice_range ms start end) 0 d ≡ get_or ms start d =
    get_or-take (end - start) (drop start ms) 0 d some ∙ from in
    sym (rw (first, group.all d) at is)

-- the marks before the first of a gap; no mark from this one on lies in the gap before

at_gap_before : (a b : Crossing) → is_up_to a b ≡ true → (int_eq a.line b.line && int_eq a.gap b.gap) ≡ false
    → is_up_to a (record { line = b.line; gap = b.gap -ℤ pos 1; place = 0; up = false }) ≡ true
at_gap_before a b low other = grind (arith, ints)

are_before : (ms : List Mark) (start : ℕ) (d : Mark) → IsInOrder ms → IsFirstInGap ms start → start < length ms
    → AreBefore ms start (get_or ms start d).at.line ((get_or ms start d).at.gap -ℤ pos 1)
are_before ms start d order first below = λ i e under.
    rw (get_or_default ms i e d (omega arith))
    (at_gap_before (get_or ms i d).at (get_or ms start d).at (order i start d (omega arith) below) (first i d under))

not_in_gap_before : (a b : Crossing) → is_up_to a b ≡ true
    → (int_eq b.line a.line && int_eq b.gap (a.gap -ℤ pos 1)) ≡ false
not_in_gap_before a b up = grind (arith, ints)

none_from : (p : Mark → Bool) (ms : List Mark) (n : ℕ) → list_any p (take n ms) ≡ false
    → ((i : ℕ) (d : Mark) → n ≤ i → i < length ms → p (get_or ms i d) ≡ false) → list_any p ms ≡ false
none_from p ms zero none out = none_in p ms (λ i d below. out i d (omega arith) below)
none_from p [] (suc n) none out = refl
none_from p (m ∷ ms) (suc n) none out =
    let here : p m ≡ false = grind (arith, none) in
    let rest : list_any p (take n ms) ≡ false = grind (arith, none) in
    rw (here, none_from p ms n rest (λ i d from below. out (suc i) d (omega arith) (omega arith))) refl

none_in_gap_before : (ms : List Mark) (start : ℕ) (d : Mark) → IsInOrder ms
    → done ms start (get_or ms start d).at.line ((get_or ms start d).at.gap -ℤ pos 1) ≡ false
    → list_any (in_gap (get_or ms start d).at.line ((get_or ms start d).at.gap -ℤ pos 1)) ms ≡ false
none_in_gap_before ms start d order none =
    none_from (in_gap (get_or ms start d).at.line ((get_or ms start d).at.gap -ℤ pos 1)) ms start none
    (λ i e from below. rw (get_or_default ms i e d below)
    (not_in_gap_before (get_or ms start d).at (get_or ms i d).at (order start i d from below)))

-- whether a gap gives way

done_or_none : (any asks : Bool) → (any ≡ false → asks ≡ false) → (any && asks) ≡ asks
done_or_none true asks none = refl
done_or_none false asks none = sym (none refl)

pub asked_before_is : (ask : ℤ → ℤ → Option ℤ) (ms : List Mark) (start : ℕ) (d : Mark) (last : Option Wish)
    → IsUnasked ask ms → IsInOrder ms → IsFirstInGap ms start → start < length ms → IsLast ask ms start last
    → asked_before last (get_or ms start d).at.line (get_or ms start d).at.gap
    ≡ asked_rightwards 4 (ask (get_or ms start d).at.line) (get_or ms start d).at.gap
asked_before_is ask ms start d last unasked order first below is_last =
    let j = (get_or ms start d).at.line in
    let c = (get_or ms start d).at.gap in
    is_last j c (are_before ms start d order first below)
    ∙ ap (λ right. counted_if right (ask j) c) (done_or_none (done ms start j (c -ℤ pos 1)) (is_asked (ask j (c -ℤ pos 1)) c)
    (λ none. unasked j (c -ℤ pos 1) c (none_in_gap_before ms start d order none)))
    ∙ sym (counted_on (ask j) c)

pub gives_way_is : (ask : ℤ → Option ℤ) (c : ℤ) (n : ℕ) → n ≡ asked_rightwards 4 ask c → is_odd n ≡ gives_way ask c
unfolding gives_way
gives_way_is ask c n is = ap is_odd is

-- the pixel that one more gap adds

at_one_gap : (f : ℤ → ℤ → Bool) (a b j c : ℤ)
    → ((int_eq a j && int_eq b c) && f j c) ≡ ((int_eq a j && int_eq b c) && f a b)
at_one_gap f a b j c = elim (cases_Bool (int_eq a j && int_eq b c)) [
  | inl same ↦
      let line : a ≡ j = grind (arith, ints, same) in
      let gap : b ≡ c = grind (arith, ints, same) in
      rw (line, gap) refl
  | inr other ↦ rw other refl
]

one_more : (x g a : Bool) → ((x || g) && a) ≡ ((x && a) || (g && a))
one_more x g a = grind arith

-- a gap with marks adds a pixel
abbrev one_adds : (ℤ → ℤ → Option ℤ) → ℤ → ℤ → ℤ → Bool
one_adds ask j c p = is_asked (ask j c) p && not (gives_way (ask j) c)

gap_more : (ask : ℤ → ℤ → Option ℤ) (ms : List Mark) (start end : ℕ) (d : Mark) → start < length ms
    → IsGroup ms start end → (j c p : ℤ) → added_so_far ask ms end j c p ≡ (added_so_far ask ms start j c p
    || (gap_of ms start d j c && one_adds ask (get_or ms start d).at.line (get_or ms start d).at.gap p))
gap_more ask ms start end d below group j c p =
    rw (done_more ms start end d below group j c)
    (one_more (done ms start j c) (gap_of ms start d j c) (one_adds ask j c p)
    ∙ ap (λ some. (done ms start j c && one_adds ask j c p) || some)
    (at_one_gap (λ i b. one_adds ask i b p) (get_or ms start d).at.line (get_or ms start d).at.gap j c))

-- a gap that needs a pixel adds it, unless it gives way

one_pixel : (x y line at left takes gives : Bool) → (takes ≡ true → (at || left) ≡ true)
    → ((x || ((line && at) && (takes && not gives))) || (y || ((line && left) && (takes && not gives))))
    ≡ ((x || y) || (not gives && (takes && line)))
one_pixel x y line at left takes gives near = grind (arith, near)

near_of : (c q p : ℤ) → (int_eq q p ≡ true → (int_eq c p || int_eq (c +ℤ pos 1) p) ≡ true)
    → int_eq q p ≡ true → (int_eq c p || int_eq c (p -ℤ pos 1)) ≡ true
near_of c q p near takes = let one = near takes in grind (arith, ints, one)

pub added_asked : (ask : ℤ → ℤ → Option ℤ) (ms : List Mark) (start end : ℕ) (d : Mark) (q : ℤ) (gives : Bool)
    → IsNear ask → start < length ms → IsGroup ms start end
    → ask (get_or ms start d).at.line (get_or ms start d).at.gap ≡ Some q
    → gives ≡ gives_way (ask (get_or ms start d).at.line) (get_or ms start d).at.gap
    → (p j : ℤ) → (added_so_far ask ms end j p p || added_so_far ask ms end j (p -ℤ pos 1) p)
    ≡ ((added_so_far ask ms start j p p || added_so_far ask ms start j (p -ℤ pos 1) p)
    || (not gives && (int_eq q p && int_eq (get_or ms start d).at.line j)))
added_asked ask ms start end d q gives near below group asks give p j =
    let line = (get_or ms start d).at.line in
    let gap = (get_or ms start d).at.gap in
    let close : int_eq q p ≡ true → (int_eq gap p || int_eq (gap +ℤ pos 1) p) ≡ true = rw asks at (near line gap p) in
    let adds : one_adds ask line gap p ≡ (int_eq q p && not gives) = rw (asks, give) refl in
    let here = rw adds at (gap_more ask ms start end d below group j p p) in
    let left = rw adds at (gap_more ask ms start end d below group j (p -ℤ pos 1) p) in
    rw (here, left) (one_pixel (added_so_far ask ms start j p p) (added_so_far ask ms start j (p -ℤ pos 1) p)
    (int_eq line j) (int_eq gap p) (int_eq gap (p -ℤ pos 1)) (int_eq q p) gives (near_of gap q p close))

adds_nothing : (x g : Bool) → (x || (g && false)) ≡ x
adds_nothing x g = grind arith

pub added_unasked : (ask : ℤ → ℤ → Option ℤ) (ms : List Mark) (start end : ℕ) (d : Mark)
    → start < length ms → IsGroup ms start end
    → ask (get_or ms start d).at.line (get_or ms start d).at.gap ≡ None
    → (p j : ℤ) → (added_so_far ask ms end j p p || added_so_far ask ms end j (p -ℤ pos 1) p)
    ≡ (added_so_far ask ms start j p p || added_so_far ask ms start j (p -ℤ pos 1) p)
added_unasked ask ms start end d below group none p j =
    let line = (get_or ms start d).at.line in
    let gap = (get_or ms start d).at.gap in
    let adds : one_adds ask line gap p ≡ false = rw none refl in
    let here = rw adds at (gap_more ask ms start end d below group j p p) in
    let left = rw adds at (gap_more ask ms start end d below group j (p -ℤ pos 1) p) in
    rw (
      here,
      left,
      adds_nothing (added_so_far ask ms start j p p) (gap_of ms start d j p),
      adds_nothing (added_so_far ask ms start j (p -ℤ pos 1) p) (gap_of ms start d j (p -ℤ pos 1)),
    ) refl

-- the gap that needed a pixel last, after one more gap

not_yet_there : (a b : Crossing) (j c : ℤ) → is_up_to a b ≡ true
    → is_up_to b (record { line = j; gap = c -ℤ pos 1; place = 0; up = false }) ≡ true
    → (int_eq b.line j && int_eq b.gap (c -ℤ pos 1)) ≡ false
    → (int_eq a.line j && int_eq a.gap (c -ℤ pos 1)) ≡ false
not_yet_there a b j c low high other = grind (arith, ints)

none_taken : (p : Mark → Bool) (ms : List Mark) (n : ℕ)
    → ((i : ℕ) (d : Mark) → i < n → i < length ms → p (get_or ms i d) ≡ false) → list_any p (take n ms) ≡ false
none_taken p ms zero out = refl
none_taken p [] (suc n) out = refl
none_taken p (m ∷ ms) (suc n) out =
    let rest = none_taken p ms n (λ i d under below. out (suc i) d (omega arith) (omega arith)) in
    rw (out 0 m (omega arith) (omega arith), rest) refl

not_done : (ms : List Mark) (start : ℕ) (d : Mark) (j c : ℤ) → IsInOrder ms → start < length ms
    → is_up_to (get_or ms start d).at (record { line = j; gap = c -ℤ pos 1; place = 0; up = false }) ≡ true
    → gap_of ms start d j (c -ℤ pos 1) ≡ false → done ms start j (c -ℤ pos 1) ≡ false
not_done ms start d j c order below up other =
    none_taken (in_gap j (c -ℤ pos 1)) ms start (λ i e under within.
    rw (get_or_default ms i e d within)
    (not_yet_there (get_or ms i d).at (get_or ms start d).at j c (order i start d (omega arith) below) up other))

next_takes : (line gap q j c : ℤ) → (int_eq line j && (int_eq (gap +ℤ pos 1) c && int_eq q c))
    ≡ ((int_eq line j && int_eq gap (c -ℤ pos 1)) && int_eq q c)
next_takes line gap q j c = grind (arith, ints)

-- the last gap needed its right pixel, and that is gap c's left pixel
takes_it : (ask : ℤ → ℤ → Option ℤ) (ms : List Mark) (start end : ℕ) (d : Mark) (q : ℤ)
    → IsInOrder ms → start < length ms → IsGroup ms start end
    → ask (get_or ms start d).at.line (get_or ms start d).at.gap ≡ Some q
    → (j c : ℤ) → AreBefore ms end j (c -ℤ pos 1)
    → (int_eq (get_or ms start d).at.line j && (int_eq ((get_or ms start d).at.gap +ℤ pos 1) c && int_eq q c))
    ≡ (done ms end j (c -ℤ pos 1) && is_asked (ask j (c -ℤ pos 1)) c)
takes_it ask ms start end d q order below group asks j c before =
    let line = (get_or ms start d).at.line in
    let gap = (get_or ms start d).at.gap in
    let up = before start d group.order in
    let at_there = at_one_gap (λ j g. is_asked (ask j g) c) line gap j (c -ℤ pos 1) in
    let gives = next_takes line gap q j c in
    let more = done_more ms start end d below group j (c -ℤ pos 1) in
    elim (cases_Bool (gap_of ms start d j (c -ℤ pos 1))) [
      | inl same ↦ grind (arith, same, at_there, gives, more, asks)
      | inr other ↦
          let none = not_done ms start d j c order below up other in
          grind (arith, other, gives, more, none)
    ]

same_count : (a b : Bool) (m n : ℕ) → a ≡ b → (a ≡ true → m ≡ n) → (if a then m else 0) ≡ (if b then n else 0)
same_count true true m n is same = same refl
same_count false false m n is same = refl
same_count true false m n is same = absurd cc
same_count false true m n is same = absurd cc

its_line : (line gap q j c : ℤ) → (int_eq line j && (int_eq (gap +ℤ pos 1) c && int_eq q c)) ≡ true → line ≡ j
its_line line gap q j c is = grind (arith, ints, is)

its_gap : (line gap q j c : ℤ) → (int_eq line j && (int_eq (gap +ℤ pos 1) c && int_eq q c)) ≡ true → gap ≡ c -ℤ pos 1
its_gap line gap q j c is = grind (arith, ints, is)

pub last_asked : (ask : ℤ → ℤ → Option ℤ) (ms : List Mark) (start end : ℕ) (d : Mark) (q : ℤ) (n : ℕ)
    → IsInOrder ms → start < length ms → IsGroup ms start end
    → ask (get_or ms start d).at.line (get_or ms start d).at.gap ≡ Some q
    → n ≡ asked_rightwards 4 (ask (get_or ms start d).at.line) (get_or ms start d).at.gap
    → IsLast ask ms end
    (Some (record { line = (get_or ms start d).at.line; gap = (get_or ms start d).at.gap; pixel = q; before = n }))
last_asked ask ms start end d q n order below group asks is = λ j c before.
    let line = (get_or ms start d).at.line in
    let gap = (get_or ms start d).at.gap in
    let test = int_eq line j && (int_eq (gap +ℤ pos 1) c && int_eq q c) in
    let count = λ (m : ℕ). min m 3 + 1 in
    same_count test (done ms end j (c -ℤ pos 1) && is_asked (ask j (c -ℤ pos 1)) c) (count n)
    (count (asked_rightwards 4 (ask j) (c -ℤ pos 1)))
    (takes_it ask ms start end d q order below group asks j c before)
    (λ both. ap count (is ∙ ap₂ (λ l g. asked_rightwards 4 (ask l) g) (its_line line gap q j c both) (its_gap line gap q j c both)))

none_is_asked : (done here asks : Bool) → (here ≡ true → asks ≡ false) → (done && asks) ≡ ((done || here) && asks)
none_is_asked done here asks none = grind (arith, none)

pub last_unasked : (ask : ℤ → ℤ → Option ℤ) (ms : List Mark) (start end : ℕ) (d : Mark) (last : Option Wish)
    → start < length ms → IsGroup ms start end → IsLast ask ms start last
    → ask (get_or ms start d).at.line (get_or ms start d).at.gap ≡ None → IsLast ask ms end last
last_unasked ask ms start end d last below group is_last none = λ j c before.
    let same : (gap_of ms start d j (c -ℤ pos 1) && is_asked (ask j (c -ℤ pos 1)) c)
    ≡ (gap_of ms start d j (c -ℤ pos 1) && false) =
    rw none at (at_one_gap (λ j g. is_asked (ask j g) c) (get_or ms start d).at.line (get_or ms start d).at.gap
    j (c -ℤ pos 1)) in
    is_last j c (λ i e under. before i e (omega (arith, group.order)))
    ∙ ap (λ right. counted_if right (ask j) c)
    (none_is_asked (done ms start j (c -ℤ pos 1)) (gap_of ms start d j (c -ℤ pos 1))
    (is_asked (ask j (c -ℤ pos 1)) c) (λ here. grind (arith, same, here))
    ∙ ap (λ more. more && is_asked (ask j (c -ℤ pos 1)) c) (sym (done_more ms start end d below group j (c -ℤ pos 1))))
