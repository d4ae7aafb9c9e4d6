-- The gaps of a line: which of them need a pixel, and which pixel. OpenType, "TrueType Fundamentals", rules 3 and 4 and
-- the smart ones. The numbers and the glyph's box are profile. Places are in 1/8192 pixel.
use Rattle.std.specs.Prelude.{◌≡◌, refl, ℕ, zero, suc, ◌+◌, ◌%◌, ◌==◌, ◌<◌, ◌≤◌, Bool, true, false, not, ◌&&◌, ◌||◌, nat_le, if◌then◌else◌, ℤ, pos, ◌+ℤ◌, ◌-ℤ◌, int_le, int_lt, min, get_or, length, List, [], ◌∷◌, Option, Some, None}
use Rattle.std.specs.List.{filter, slice_range}
use Rattle.std.specs.Ordering.{int_eq}
use Rattle.tt_scan_gaps.specs.Crossings.{agree}
use Rattle.tt_scan_gaps.specs.declared.mark.Columns.{Columns}
use Rattle.tt_scan_gaps.specs.declared.mark.Crossing.{Crossing}
use Rattle.tt_scan_gaps.specs.declared.mark.Mark.{Mark}
use Rattle.tt_scan_gaps.specs.declared.mark.Rules.{Rules}

-- the marks in gap c of line j
abbrev pub in_gap : ℤ → ℤ → Mark → Bool
in_gap j c m = int_eq m.at.line j && int_eq m.at.gap c

abbrev pub gap_marks : List Mark → ℤ → ℤ → List Mark
gap_marks ms j c = filter (in_gap j c) ms

-- some mark of a gap needs a pixel
abbrev pub some_asks : List Mark → Bool
some_asks [] = false
some_asks (m ∷ ms) = m.asks || some_asks ms

-- the least place of the marks of one direction; a whole pixel where there is none
abbrev pub least_place : Bool → List Mark → ℕ
least_place up [] = 8192
least_place up (m ∷ ms) = if agree m.at.up up then min m.at.place (least_place up ms) else least_place up ms

-- the middle of the marks in a gap is so far right that the right pixel is taken: 65/64 of a pixel, halved
abbrev pub leans_right : List Mark → Bool
leans_right ms = nat_le 8320 (least_place true ms + least_place false ms)

-- a gap's pixel, moved into the box
abbrev pub boxed : Columns → ℤ → ℤ → ℤ
boxed b c p = if int_lt p b.first then c +ℤ pos 1 else (if int_lt b.last p then c else p)

abbrev pub pixel_of : Rules → Columns → ℤ → List Mark → ℤ
pixel_of rules b c ms = boxed b c (if rules.smart && leans_right ms then c +ℤ pos 1 else c)

-- a gap is free where both its pixels are white
abbrev pub is_free : (ℤ → ℤ → Bool) → ℤ → ℤ → Bool
is_free black c j = not (black c j) && not (black (c +ℤ pos 1) j)

-- the marks in free gaps; no other mark counts
abbrev pub in_free_gap : (ℤ → ℤ → Bool) → Mark → Bool
in_free_gap black m = is_free black m.at.gap m.at.line

abbrev pub free_marks : (ℤ → ℤ → Bool) → List Mark → List Mark
free_marks black ms = filter (in_free_gap black) ms

-- the pixel that gap c of line j needs by its marks; None where one of its pixels is black
abbrev pub asked_by : Rules → Columns → (ℤ → ℤ → Bool) → ℤ → ℤ → List Mark → Option ℤ
asked_by rules b black j c here =
    if is_free black c j && some_asks here then Some (pixel_of rules b c here) else None

abbrev pub asked : Rules → Columns → List Mark → (ℤ → ℤ → Bool) → ℤ → ℤ → Option ℤ
asked rules b ms black j c = asked_by rules b black j c (gap_marks ms j c)

abbrev pub is_asked : Option ℤ → ℤ → Bool
is_asked None p = false
is_asked (Some q) p = int_eq q p

-- how many gaps side by side, the last of them left of gap c, each need the pixel at their right; counted to `most`
abbrev pub asked_rightwards : ℕ → (ℤ → Option ℤ) → ℤ → ℕ
asked_rightwards zero ask c = 0
asked_rightwards (suc most) ask c =
    if is_asked (ask (c -ℤ pos 1)) c then suc (asked_rightwards most ask (c -ℤ pos 1)) else 0

abbrev pub is_odd : ℕ → Bool
is_odd n = n % 2 == 1

-- a gap that needs a pixel gives way where the gap left of it takes the pixel in common: where the number of these gaps,
-- counted to four, is odd (profile)
unfoldable pub gives_way : (ℤ → Option ℤ) → ℤ → Bool
gives_way ask c = is_odd (asked_rightwards 4 ask c)

-- gap c of line j adds pixel p: it needs the pixel, and does not give way
abbrev pub adds : Rules → Columns → List Mark → (ℤ → ℤ → Bool) → ℤ → ℤ → ℤ → Bool
adds rules b ms black j c p =
    is_asked (asked rules b ms black j c) p && not (gives_way (asked rules b ms black j) c)

-- a pass over all gaps adds the pixel of column p and line j, by the gap right or left of its centre
abbrev pub is_added : Rules → Columns → List Mark → (ℤ → ℤ → Bool) → ℤ → ℤ → Bool
is_added rules b ms black p j = adds rules b ms black j p p || adds rules b ms black j (p -ℤ pos 1) p

-- marks in order of their lines, and on a line of their gaps
abbrev pub is_up_to : Crossing → Crossing → Bool
is_up_to a b = int_lt a.line b.line || (int_eq a.line b.line && int_le a.gap b.gap)

abbrev pub IsInOrder : List Mark → Type 0
IsInOrder ms = (i j : ℕ) (d : Mark) → i ≤ j → j < length ms → is_up_to (get_or ms i d).at (get_or ms j d).at ≡ true

-- in marks in order, no mark before `start` lies in its gap
abbrev pub IsFirstInGap : List Mark → ℕ → Type 0
IsFirstInGap ms start = (i : ℕ) (d : Mark) → i < start
    → in_gap (get_or ms start d).at.line (get_or ms start d).at.gap (get_or ms i d) ≡ false

-- the marks from `start` up to `end` are all the marks in the gap of the first of them
pub record IsGroup (ms : List Mark) (start end : ℕ) : Type 0 where
  pub order : start < end
  pub within : end ≤ length ms
  pub all : (d : Mark) → slice_range ms start end
      ≡ gap_marks ms (get_or ms start d).at.line (get_or ms start d).at.gap

-- worked values: from gap 1 on each gap needs the pixel at its right
all_to_the_right : ℤ → Option ℤ
all_to_the_right c = if int_le (pos 1) c then Some (c +ℤ pos 1) else None

no_gap_before_the_first : gives_way all_to_the_right (pos 1) ≡ false
unfolding gives_way all_to_the_right
no_gap_before_the_first = refl

the_second_gives_way : gives_way all_to_the_right (pos 2) ≡ true
unfolding gives_way all_to_the_right
the_second_gives_way = refl

the_third_does_not : gives_way all_to_the_right (pos 3) ≡ false
unfolding gives_way all_to_the_right
the_third_does_not = refl

the_fourth_gives_way : gives_way all_to_the_right (pos 4) ≡ true
unfolding gives_way all_to_the_right
the_fourth_gives_way = refl

-- four gaps count, and no more
no_later_one_does : (gives_way all_to_the_right (pos 5) || gives_way all_to_the_right (pos 6)) ≡ false
unfolding gives_way all_to_the_right
no_later_one_does = refl

-- gap 3 needs its left pixel, so gap 4 does not give way
one_to_the_left : ℤ → Option ℤ
one_to_the_left c = if int_eq c (pos 3) then Some c else Some (c +ℤ pos 1)

the_chain_ends_there : gives_way one_to_the_left (pos 4) ≡ false
unfolding gives_way one_to_the_left
the_chain_ends_there = refl

-- pictures: Examples.antt of tt_scan_dropouts
