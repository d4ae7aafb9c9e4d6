-- Worked pictures of outlines by the scan types 0, 1, 4 and 5, side by side, from the top row down. Points are in 26.6,
-- so pixel centres are at 32, 96, 160 and 224. `#` is black by rules 1 and 2, `r` is added by the rows and `c` by the
-- columns; `d` is a dot.
use Rattle.std.specs.Prelude.{◌≡◌, refl, ℕ, zero, suc, ◌+◌, ◌*◌, true, false, if◌then◌else◌, pos, List, [], ◌∷◌, ◌++◌, map, codes}
use Rattle.std.specs.List.{range_with_len}
use Rattle.tt_scan_edges.specs.declared.edge.Edge.{Edge}
use Rattle.tt_scan_dropouts.specs.Dropouts.{is_inked, is_added_by_rows, is_added_by_columns, is_dotted}
use Rattle.tt_scan_gaps.specs.Boxes.{greatest_x, least_x}
use Rattle.tt_scan_gaps.specs.Dots.{is_dot}
use Rattle.tt_scan_gaps.specs.Gaps.{gives_way}
use Rattle.tt_scan_gaps.specs.Seen.{turned_round}
use Rattle.tt_scan_gaps.specs.declared.extent.Extents.{Extents}
use Rattle.tt_scan_gaps.specs.declared.mark.Rules.{Rules}
use Rattle.tt_scan_dropouts.specs.declared.boxed.BoxedRules.{BoxedRules}

-- the edge between two points
line : ℕ × ℕ → ℕ × ℕ → Edge
line a b = record { ax = pos (128 * a.0); ay = pos (128 * a.1); bx = pos (128 * b.0); by = pos (128 * b.1) }

-- the edges from a point through others to a last one
path : ℕ × ℕ → List (ℕ × ℕ) → ℕ × ℕ → List Edge
path a [] last = line a last ∷ []
path a (b ∷ ps) last = line a b ∷ path b ps last

polygon : List (ℕ × ℕ) → List Edge
polygon [] = []
polygon (p ∷ ps) = path p ps p

-- the box of edges
extents_of : List Edge → Extents
extents_of [] = record { across = record { low = pos 0; high = pos 0 }; up = record { low = pos 0; high = pos 0 } }
extents_of (e ∷ es) = record {
  across = record { low = least_x e.ax (e ∷ es); high = greatest_x e.ax (e ∷ es) };
  up = record { low = least_x e.ay (map turned_round (e ∷ es)); high = greatest_x e.ay (map turned_round (e ∷ es)) };
}

shown : BoxedRules → List Edge → ℕ → ℕ → List ℕ
shown rules es j c =
    if is_inked (es ∷ []) (pos c) (pos j) then codes "#" else (
    if is_added_by_rows rules (es ∷ []) (pos c) (pos j) then codes "r" else (
    if is_added_by_columns rules (es ∷ []) (pos c) (pos j) then codes "c" else (
    if is_dotted rules (es ∷ []) (pos c) (pos j) then codes "d" else codes ".")))

texts : List (List ℕ) → List ℕ
texts [] = []
texts (t ∷ ts) = t ++ texts ts

row_shown : List Edge → ℕ → BoxedRules → ℕ → List ℕ
row_shown es width rules j = texts (map (shown rules es j) (range_with_len 0 width))

type_0 : Rules
type_0 = record { stubs = true; smart = false; dots = false }

type_1 : Rules
type_1 = record { stubs = false; smart = false; dots = false }

type_4 : Rules
type_4 = record { stubs = true; smart = true; dots = false }

type_5 : Rules
type_5 = record { stubs = false; smart = true; dots = false }

-- type 1 with dots
type_1_dots : Rules
type_1_dots = record { stubs = false; smart = false; dots = true }

type_4_dots : Rules
type_4_dots = record { stubs = true; smart = true; dots = true }

in_box : Extents → Rules → BoxedRules
in_box b rules = record { rules = rules; extents = b }

row_by_each : Extents → List Edge → ℕ → ℕ → List ℕ
row_by_each b es width j = row_shown es width (in_box b type_0) j ++ (codes "  " ++ (row_shown es width (in_box b type_1) j
    ++ (codes "  " ++ (row_shown es width (in_box b type_4) j ++ (codes "  " ++ row_shown es width (in_box b type_5) j)))))

-- four rows, in a box and in the box of the edges
drawn_in : Extents → List Edge → ℕ → List (List ℕ)
drawn_in b es width = map (row_by_each b es width) (3 ∷ 2 ∷ 1 ∷ 0 ∷ [])

drawn : List Edge → ℕ → List (List ℕ)
drawn es width = drawn_in (extents_of es) es width

-- an upright stem; the box decides that the left pixel is taken
upright_stem : List Edge
upright_stem = polygon ((40, 0) ∷ (40, 256) ∷ (56, 256) ∷ (56, 0) ∷ [])

upright_stem_is_drawn : drawn upright_stem 3 ≡
    codes "r..  ...  r..  ..."
    ∷ codes "r..  r..  r..  r.."
    ∷ codes "r..  r..  r..  r.."
    ∷ codes "r..  ...  r..  ..." ∷ []
unfolding gives_way drawn drawn_in extents_of in_box row_by_each row_shown shown texts type_0 type_1 type_4 type_5 polygon path line upright_stem
upright_stem_is_drawn = refl

-- a stem nearer the right: the right pixel is taken
stem_nearer_the_right : List Edge
stem_nearer_the_right = polygon ((72, 0) ∷ (72, 256) ∷ (88, 256) ∷ (88, 0) ∷ [])

stem_nearer_the_right_is_drawn : drawn stem_nearer_the_right 3 ≡
    codes ".r.  ...  .r.  ..."
    ∷ codes ".r.  .r.  .r.  .r."
    ∷ codes ".r.  .r.  .r.  .r."
    ∷ codes ".r.  ...  .r.  ..." ∷ []
unfolding gives_way drawn drawn_in extents_of in_box row_by_each row_shown shown texts type_0 type_1 type_4 type_5 polygon path line stem_nearer_the_right
stem_nearer_the_right_is_drawn = refl

-- the same stem with a point at 16 in 26.6, which widens the box: the left pixel is taken
box_from_16 : Extents
box_from_16 = record { across = record { low = pos 2048; high = pos 11264 }; up = record { low = pos 0; high = pos 32768 } }

a_point_widens_the_box : drawn_in box_from_16 stem_nearer_the_right 3 ≡
    codes "r..  ...  r..  ..."
    ∷ codes "r..  r..  r..  r.."
    ∷ codes "r..  r..  r..  r.."
    ∷ codes "r..  ...  r..  ..." ∷ []
unfolding gives_way drawn_in in_box row_by_each row_shown shown texts type_0 type_1 type_4 type_5 polygon path line stem_nearer_the_right box_from_16
a_point_widens_the_box = refl

-- a stem on a foot, so that the glyph's box is wider than the stem
stem_on_a_foot : List Edge
stem_on_a_foot = polygon ((16, 0) ∷ (16, 64) ∷ (72, 64) ∷ (72, 256) ∷ (88, 256) ∷ (88, 64) ∷ (160, 64) ∷ (160, 0) ∷ [])

stem_on_a_foot_is_drawn : drawn stem_on_a_foot 3 ≡
    codes "r..  ...  .r.  ..."
    ∷ codes "r..  r..  .r.  .r."
    ∷ codes "r..  r..  .r.  .r."
    ∷ codes "###  ###  ###  ###" ∷ []
unfolding gives_way drawn drawn_in extents_of in_box row_by_each row_shown shown texts type_0 type_1 type_4 type_5 polygon path line stem_on_a_foot
stem_on_a_foot_is_drawn = refl

-- a stem exactly in the middle between two centres
stem_in_the_middle : List Edge
stem_in_the_middle = polygon ((16, 0) ∷ (16, 64) ∷ (48, 64) ∷ (48, 256) ∷ (80, 256) ∷ (80, 64) ∷ (160, 64) ∷ (160, 0) ∷ [])

stem_in_the_middle_is_drawn : drawn stem_in_the_middle 3 ≡
    codes "r..  r..  r..  r.."
    ∷ codes "r..  r..  r..  r.."
    ∷ codes "r..  r..  r..  r.."
    ∷ codes "###  ###  ###  ###" ∷ []
unfolding gives_way drawn drawn_in extents_of in_box row_by_each row_shown shown texts type_0 type_1 type_4 type_5 polygon path line stem_in_the_middle
stem_in_the_middle_is_drawn = refl

-- a stem 1/64 pixel right of the middle
stem_past_the_middle : List Edge
stem_past_the_middle = polygon ((16, 0) ∷ (16, 64) ∷ (49, 64) ∷ (49, 256) ∷ (80, 256) ∷ (80, 64) ∷ (160, 64) ∷ (160, 0) ∷ [])

stem_past_the_middle_is_drawn : drawn stem_past_the_middle 3 ≡
    codes "r..  ...  .r.  ..."
    ∷ codes "r..  r..  .r.  .r."
    ∷ codes "r..  r..  .r.  .r."
    ∷ codes "###  ###  ###  ###" ∷ []
unfolding gives_way drawn drawn_in extents_of in_box row_by_each row_shown shown texts type_0 type_1 type_4 type_5 polygon path line stem_past_the_middle
stem_past_the_middle_is_drawn = refl

-- a stem left of all other centres, with a bar
stem_at_the_left_edge : List Edge
stem_at_the_left_edge = polygon ((40, 0) ∷ (40, 256) ∷ (56, 256) ∷ (56, 192) ∷ (168, 192) ∷ (168, 128) ∷ (56, 128) ∷ (56, 0) ∷ [])

stem_at_the_left_edge_is_drawn : drawn stem_at_the_left_edge 3 ≡
    codes ".r.  ...  .r.  ..."
    ∷ codes ".##  .##  .##  .##"
    ∷ codes ".r.  .r.  .r.  .r."
    ∷ codes ".r.  ...  .r.  ..." ∷ []
unfolding gives_way drawn drawn_in extents_of in_box row_by_each row_shown shown texts type_0 type_1 type_4 type_5 polygon path line stem_at_the_left_edge
stem_at_the_left_edge_is_drawn = refl

-- a level bar: the columns alone add pixels
level_bar : List Edge
level_bar = polygon ((0, 104) ∷ (0, 120) ∷ (256, 120) ∷ (256, 104) ∷ [])

level_bar_is_drawn : drawn level_bar 4 ≡
    codes "....  ....  ....  ...."
    ∷ codes "....  ....  ....  ...."
    ∷ codes "cccc  .cc.  cccc  .cc."
    ∷ codes "....  ....  ....  ...." ∷ []
unfolding gives_way drawn drawn_in extents_of in_box row_by_each row_shown shown texts type_0 type_1 type_4 type_5 polygon path line level_bar
level_bar_is_drawn = refl

-- a dot between four centres crosses no line
dot_between_centres : List Edge
dot_between_centres = polygon ((104, 104) ∷ (104, 152) ∷ (152, 152) ∷ (152, 104) ∷ [])

dot_between_centres_is_drawn : drawn dot_between_centres 4 ≡
    codes "....  ....  ....  ...."
    ∷ codes "....  ....  ....  ...."
    ∷ codes "....  ....  ....  ...."
    ∷ codes "....  ....  ....  ...." ∷ []
unfolding gives_way drawn drawn_in extents_of in_box row_by_each row_shown shown texts type_0 type_1 type_4 type_5 polygon path line dot_between_centres
dot_between_centres_is_drawn = refl

-- a tip that reaches less than half a pixel beyond a line
low_tip : List Edge
low_tip = polygon ((32, 0) ∷ (32, 96) ∷ (105, 96) ∷ (105, 190) ∷ (150, 190) ∷ (150, 96) ∷ (224, 96) ∷ (224, 0) ∷ [])

-- a tip that reaches further, but is less than half a pixel wide
narrow_tip : List Edge
narrow_tip = polygon ((32, 0) ∷ (32, 96) ∷ (105, 96) ∷ (105, 200) ∷ (133, 200) ∷ (133, 96) ∷ (224, 96) ∷ (224, 0) ∷ [])

-- both are stubs
stub_drawn : List (List ℕ)
stub_drawn =
    codes "....  ....  ....  ...."
    ∷ codes ".r..  ....  .r..  ...."
    ∷ codes "####  ####  ####  ####"
    ∷ codes "####  ####  ####  ####" ∷ []

both_tips_are_drawn : map (λ es. drawn es 4) (low_tip ∷ narrow_tip ∷ []) ≡ stub_drawn ∷ stub_drawn ∷ []
unfolding gives_way drawn drawn_in extents_of in_box row_by_each row_shown shown texts type_0 type_1 type_4 type_5 polygon path line low_tip narrow_tip stub_drawn
both_tips_are_drawn = refl

-- a tip that reaches further, and is more than half a pixel wide
wide_tip : List Edge
wide_tip = polygon ((32, 0) ∷ (32, 96) ∷ (105, 96) ∷ (105, 200) ∷ (150, 200) ∷ (150, 96) ∷ (224, 96) ∷ (224, 0) ∷ [])

wide_tip_is_drawn : drawn wide_tip 4 ≡
    codes "....  ....  ....  ...."
    ∷ codes ".r..  .r..  .r..  .r.."
    ∷ codes "####  ####  ####  ####"
    ∷ codes "####  ####  ####  ####" ∷ []
unfolding gives_way drawn drawn_in extents_of in_box row_by_each row_shown shown texts type_0 type_1 type_4 type_5 polygon path line wide_tip
wide_tip_is_drawn = refl

-- a thin diagonal stroke
diagonal : List Edge
diagonal = polygon ((4, 0) ∷ (20, 0) ∷ (252, 240) ∷ (236, 240) ∷ [])

diagonal_is_drawn : drawn diagonal 4 ≡
    codes "...#  ...#  ...#  ...#"
    ∷ codes "..#.  ..#.  ..#.  ..#."
    ∷ codes ".r..  .r..  .r..  .r.."
    ∷ codes "r...  ....  r...  ...." ∷ []
unfolding gives_way drawn drawn_in extents_of in_box row_by_each row_shown shown texts type_0 type_1 type_4 type_5 polygon path line diagonal
diagonal_is_drawn = refl

-- a triangle whose tip touches a line
tip_on_a_line : List Edge
tip_on_a_line = polygon ((40, 0) ∷ (64, 160) ∷ (88, 0) ∷ [])

tip_on_a_line_is_drawn : drawn tip_on_a_line 3 ≡
    codes "...  ...  ...  ..."
    ∷ codes ".r.  ...  .r.  ..."
    ∷ codes ".r.  .r.  .r.  .r."
    ∷ codes ".r.  .r.  .r.  .r." ∷ []
unfolding gives_way drawn drawn_in extents_of in_box row_by_each row_shown shown texts type_0 type_1 type_4 type_5 polygon path line tip_on_a_line
tip_on_a_line_is_drawn = refl

-- a stem of no width
stem_of_no_width : List Edge
stem_of_no_width = polygon ((50, 0) ∷ (50, 192) ∷ [])

stem_of_no_width_is_drawn : drawn stem_of_no_width 3 ≡
    codes "...  ...  ...  ..."
    ∷ codes "r..  ...  r..  ..."
    ∷ codes "r..  r..  r..  r.."
    ∷ codes "r..  ...  r..  ..." ∷ []
unfolding gives_way drawn drawn_in extents_of in_box row_by_each row_shown shown texts type_0 type_1 type_4 type_5 polygon path line stem_of_no_width
stem_of_no_width_is_drawn = refl

-- a dot that crosses one line: a stub twice
dot_on_one_line : List Edge
dot_on_one_line = polygon ((40, 80) ∷ (40, 120) ∷ (80, 120) ∷ (80, 80) ∷ [])

dot_on_one_line_is_drawn : drawn dot_on_one_line 3 ≡
    codes "...  ...  ...  ..."
    ∷ codes "...  ...  ...  ..."
    ∷ codes "r..  ...  r..  ..."
    ∷ codes "...  ...  ...  ..." ∷ []
unfolding gives_way drawn drawn_in extents_of in_box row_by_each row_shown shown texts type_0 type_1 type_4 type_5 polygon path line dot_on_one_line
dot_on_one_line_is_drawn = refl

-- two stems; the right one gives way
two_stems : List Edge
two_stems = polygon ((16, 0) ∷ (16, 64) ∷ (80, 64) ∷ (80, 256) ∷ (92, 256) ∷ (92, 64)
    ∷ (140, 64) ∷ (140, 256) ∷ (156, 256) ∷ (156, 64) ∷ (240, 64) ∷ (240, 0) ∷ [])

two_stems_is_drawn : drawn two_stems 4 ≡
    codes "rr..  ....  .r..  ...."
    ∷ codes "rr..  rr..  .r..  .r.."
    ∷ codes "rr..  rr..  .r..  .r.."
    ∷ codes "####  ####  ####  ####" ∷ []
unfolding gives_way drawn drawn_in extents_of in_box row_by_each row_shown shown texts type_0 type_1 type_4 type_5 polygon path line two_stems
two_stems_is_drawn = refl

-- the two dots by type 1 and by type 4, where dots are drawn: a dot that needs a pixel by type 4 is none
with_dots : List Edge → ℕ → List (List ℕ)
with_dots es width = map (λ j. row_shown es width (in_box (extents_of es) type_1_dots) j
    ++ (codes "  " ++ row_shown es width (in_box (extents_of es) type_4_dots) j)) (3 ∷ 2 ∷ 1 ∷ 0 ∷ [])

a_dot_between_centres : with_dots dot_between_centres 4 ≡
    codes "....  ...."
    ∷ codes "..d.  ..d."
    ∷ codes "....  ...."
    ∷ codes "....  ...." ∷ []
unfolding gives_way is_dot with_dots extents_of in_box row_shown shown texts type_1_dots type_4_dots polygon path line dot_between_centres
a_dot_between_centres = refl

a_dot_on_one_line : with_dots dot_on_one_line 3 ≡
    codes "...  ..."
    ∷ codes "...  ..."
    ∷ codes "d..  r.."
    ∷ codes "...  ..." ∷ []
unfolding gives_way is_dot with_dots extents_of in_box row_shown shown texts type_1_dots type_4_dots polygon path line dot_on_one_line
a_dot_on_one_line = refl

-- stems side by side on a foot, each of which needs the pixel at its right
rectangle : ℕ → ℕ → ℕ → ℕ → List Edge
rectangle l b r t = polygon ((l, b) ∷ (l, t) ∷ (r, t) ∷ (r, b) ∷ [])

stems : ℕ → List Edge
stems zero = rectangle 0 0 448 64
stems (suc n) = stems n ++ rectangle (80 + 64 * n) 32 (92 + 64 * n) 256

stems_shown : ℕ → List ℕ
stems_shown n = row_shown (stems n) 7 (in_box (extents_of (stems n)) type_4) 2

-- the gaps before one count to four: of six stems the last one gives way no longer
three_stems : stems_shown 3 ≡ codes ".r.r..."
unfolding gives_way stems_shown stems rectangle extents_of in_box row_shown shown texts type_4 polygon path line
three_stems = refl

six_stems : stems_shown 6 ≡ codes ".r.r.rr"
unfolding gives_way stems_shown stems rectangle extents_of in_box row_shown shown texts type_4 polygon path line
six_stems = refl
