-- No part of the standard: the lines of a label's text, and their places in one picture (profile). The gap between two
-- lines is the line gap of the Apple TrueType Reference Manual, "The 'hhea' table", in whole pixels.
use Rattle.std.specs.Prelude.{◌≡◌, ℕ, ◌+◌, ◌-◌, ◌*◌, ◌/◌, ◌==◌, ◌||◌, ◌&&◌, Bool, nat_lt, if◌then◌else◌, ℤ, pos, negsuc, ◌+ℤ◌, ◌*ℤ◌, List, [], ◌∷◌, length, drop, map, slice_index, sum, codes, None, Result, Ok, Err, refl}
use Rattle.std.specs.Str.Lines.{lines}
use Rattle.tt_core.specs.declared.fault.JobFault.{JobFault}
use Rattle.tt_core.specs.declared.fault.JobFault.TheVariants as job
use Rattle.tt_core.specs.Limits.{width_limit, height_limit}
use Rattle.tt_core.specs.Numbers.{rounded_quotient}
use Rattle.tt_core.specs.Outcomes.{◌>>=◌}
use Rattle.tt_line.specs.declared.align.Align.{Align}
use Rattle.tt_line.specs.declared.align.Align.TheVariants as align
use Rattle.tt_line.specs.declared.label_extent.LabelExtent.{LabelExtent}
use Rattle.tt_line.specs.Layout.{Placement, depth_of, glyphs_at_pens, rise_of}
use Rattle.tt_line.specs.Steps.{at_least}
use Rattle.tt_metrics.specs.declared.head.LocaFormat.TheVariants.{Short}
use Rattle.tt_metrics.specs.declared.heights.Heights.TheVariants.{Exact}
use Rattle.tt_metrics.specs.Metrics.{Metrics, line_gap_of, units_per_em_of}

-- a text begins with U+FEFF, the mark of a byte order, which has three bytes
abbrev pub is_marked : List ℕ → Bool
is_marked text = (slice_index text 0 == 0xEF) && (slice_index text 1 == 0xBB) && (slice_index text 2 == 0xBF)

-- a text without a mark at its start
abbrev pub unmarked : List ℕ → List ℕ
unmarked text = if is_marked text then drop 3 text else text

-- one empty line in place of none
abbrev pub some_line : {A : Type 0} → List (List A) → List (List A)
some_line [] = [] ∷ []
some_line (l ∷ ls) = l ∷ ls

-- the lines of a text: a line feed ends a line, and a carriage return just before it is no part of the line
unfoldable pub label_lines : List ℕ → List (List ℕ)
label_lines text = some_line (lines (unmarked text))

-- pixels between the depth of a line and the rise of the next; a negative gap is none
abbrev pub gap_of : Metrics → ℕ → ℕ
gap_of m ppem = at_least 0 (rounded_quotient (line_gap_of m *ℤ pos ppem) (pos (units_per_em_of m)))

-- the rise and the depth of a line, and so many pixels
abbrev pub rows_of : ℕ → ℤ → ℤ → ℤ
rows_of more rise depth = pos more +ℤ rise +ℤ depth

-- pixels from a base line down to the next
abbrev pub line_step : ℤ → ℤ → ℕ → ℕ
line_step rise depth gap = at_least 1 (rows_of gap rise depth)

abbrev pub line_step_of : Metrics → ℕ → ℕ
line_step_of m ppem = line_step (rise_of m ppem) (depth_of m ppem) (gap_of m ppem)

-- the width of a line, which is its glyphs with their steps
abbrev pub width_of : List (ℕ × ℕ) → ℕ
width_of line = sum (map (λ g. g.1) line)

abbrev pub greater : ℕ → ℕ → ℕ
greater a b = if nat_lt a b then b else a

-- the width of the widest line, if it is above a number
abbrev pub widest_after : ℕ → List (List (ℕ × ℕ)) → ℕ
widest_after most [] = most
widest_after most (line ∷ lines) = widest_after (greater most (width_of line)) lines

abbrev pub widest : List (List (ℕ × ℕ)) → ℕ
widest lines = widest_after 0 lines

-- the pixels before a line of this width, beside lines of which the widest has this width
abbrev pub indent : Align → ℕ → ℕ → ℕ
indent align.Left inner width = 0
indent align.Centre inner width = (inner - width) / 2
indent align.Right inner width = inner - width

-- the size of the picture of a line and this many more, with a margin: at least a column and a row
abbrev pub label_extent : ℕ → ℕ → ℤ → ℤ → ℕ → ℕ → LabelExtent
label_extent inner margin rise depth step more = record {
  width = greater 1 (inner + 2 * margin);
  height = at_least 1 (rows_of (more * step + 2 * margin) rise depth);
}

-- a picture that is too large is refused
unfoldable pub label_limited : LabelExtent → Result LabelExtent JobFault
label_limited e = if nat_lt width_limit e.width || nat_lt height_limit e.height then Err job.PictureLarge else Ok e

-- a line in this picture, at this distance of its base line below the upper margin
abbrev pub line_placed : LabelExtent → Align → ℕ → ℤ → List (ℕ × ℕ) → Placement
line_placed e how inner rise line = record {
  width = e.width;
  height = e.height;
  rise = rise;
  glyphs = map (λ g. (g.0, g.1 + indent how inner (width_of line)))
      (glyphs_at_pens (map (λ g. g.0) line) (map (λ g. g.1) line));
}

-- lines one below the other
abbrev pub lines_placed : LabelExtent → Align → ℕ → ℕ → ℤ → List (List (ℕ × ℕ)) → List Placement
lines_placed e how inner step rise [] = []
lines_placed e how inner step rise (line ∷ lines) =
    line_placed e how inner rise line ∷ lines_placed e how inner step (rise +ℤ pos step) lines

-- the layout of some lines, each its glyphs with their steps
abbrev pub lines_laid : Align → ℕ → ℤ → ℤ → ℕ → List (List (ℕ × ℕ)) → Result (List Placement) JobFault
lines_laid how margin rise depth step lines =
    label_limited (label_extent (widest lines) margin rise depth step (length lines - 1)) >>= λ e.
    Ok (lines_placed e how (widest lines) step rise lines)

-- the layout of some lines at a size in pixels per em with a margin, or the refusal
unfoldable pub label_placement : Metrics → ℕ → ℕ → Align → List (List (ℕ × ℕ)) → Result (List Placement) JobFault
label_placement m ppem margin how lines =
    lines_laid how margin (rise_of m ppem) (depth_of m ppem) (line_step_of m ppem) lines

-- worked values: the lines of a text
no_character_is_a_line : label_lines [] ≡ [] ∷ []
unfolding label_lines
no_character_is_a_line = refl

a_feed_is_an_empty_line : label_lines (codes "\n") ≡ [] ∷ []
unfolding label_lines
a_feed_is_an_empty_line = refl

the_last_feed_begins_no_line : label_lines (codes "A\n") ≡ codes "A" ∷ []
unfolding label_lines
the_last_feed_begins_no_line = refl

an_empty_line_between_two : label_lines (codes "A\r\n\nB\r") ≡ codes "A" ∷ ([] ∷ (codes "B\r" ∷ []))
unfolding label_lines
an_empty_line_between_two = refl

a_mark_and_a_letter : label_lines (0xEF ∷ 0xBB ∷ 0xBF ∷ 65 ∷ []) ≡ codes "A" ∷ []
unfolding label_lines
a_mark_and_a_letter = refl

a_later_mark_is_a_character : label_lines (65 ∷ 0xEF ∷ 0xBB ∷ 0xBF ∷ []) ≡ (65 ∷ 0xEF ∷ 0xBB ∷ 0xBF ∷ []) ∷ []
unfolding label_lines
a_later_mark_is_a_character = refl

-- worked values: 256 units in an em
with_gap : ℤ → Metrics
with_gap gap = record {
  head = record { units_per_em = 256; loca_format = Short };
  maxp = record { glyphs = 1; twilight = 0; storage = 0 };
  hhea = record { ascent = pos 192; descent = negsuc 63; line_gap = gap; long_metrics = 1 };
  hmtx = [];
  heights = Exact;
  kerning = None;
  advances = None;
}

-- 4, 0.5, a little less, and -8
gaps_at_sixteen : map (λ gap. gap_of (with_gap gap) 16) (pos 64 ∷ pos 8 ∷ pos 7 ∷ negsuc 127 ∷ []) ≡ 4 ∷ 1 ∷ 0 ∷ 0 ∷ []
unfolding with_gap
gaps_at_sixteen = refl

-- 12 above the base line and 4 below it
its_step : map (λ gap. line_step_of (with_gap gap) 16) (pos 64 ∷ negsuc 127 ∷ []) ≡ 20 ∷ 16 ∷ []
unfolding with_gap
its_step = refl

no_step_below_one : map (λ depth. line_step (pos 0) depth 1) (pos 0 ∷ negsuc 0 ∷ negsuc 8 ∷ []) ≡ 1 ∷ 1 ∷ 1 ∷ []
no_step_below_one = refl

-- of five columns beside eight
beside_a_wider_line : map (λ how. indent how 8 5) (align.Left ∷ align.Centre ∷ align.Right ∷ []) ≡ 0 ∷ 1 ∷ 3 ∷ []
beside_a_wider_line = refl

-- worked values: two lines of five and of eight columns, four rows above the base line and one below it
two_lines : List (List (ℕ × ℕ))
two_lines = ((1, 5) ∷ []) ∷ ((1, 5) ∷ (2, 3) ∷ []) ∷ []

in_the_centre : lines_laid align.Centre 0 (pos 4) (pos 1) 6 two_lines ≡ Ok (
    record { width = 8; height = 11; rise = pos 4; glyphs = (1, 1) ∷ [] }
    ∷ record { width = 8; height = 11; rise = pos 10; glyphs = (1, 0) ∷ (2, 5) ∷ [] }
    ∷ []
    )
unfolding two_lines label_limited
in_the_centre = refl

the_margin_stands_on_both_sides : label_extent 8 2 (pos 4) (pos 1) 6 1 ≡ record { width = 12; height = 15 }
the_margin_stands_on_both_sides = refl

-- no column, and less than a row
a_column_and_a_row : label_extent 0 0 (pos 0) (negsuc 2) 1 2 ≡ record { width = 1; height = 1 }
a_column_and_a_row = refl

-- a base line above the picture
above_the_picture : lines_laid align.Left 0 (negsuc 1) (pos 3) 2 ([] ∷ [] ∷ []) ≡ Ok (
    record { width = 1; height = 3; rise = negsuc 1; glyphs = [] } ∷ record { width = 1; height = 3; rise = pos 0; glyphs = [] } ∷ []
    )
unfolding label_limited
above_the_picture = refl

as_large_as_may_be : label_limited (record { width = 16384; height = 4096 }) ≡ Ok (record { width = 16384; height = 4096 })
unfolding label_limited
as_large_as_may_be = refl

a_row_too_many : label_limited (record { width = 1; height = 4097 }) ≡ Err job.PictureLarge
unfolding label_limited
a_row_too_many = refl
