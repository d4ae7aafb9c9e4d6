-- The black pixels with a greater margin, beside other glyphs, and without filled dropouts.
use Rattle.std.proofs.Common.{◌≡◌, refl, ℕ, ◌+◌, Bool, true, false, ◌||◌, ℤ, pos, ◌+ℤ◌, ◌-ℤ◌, ◌*ℤ◌, List, [], ◌∷◌, ◌++◌, None, arith}
use Rattle.std.proofs.lemmas.Int.{ints}
use Rattle.std.proofs.lemmas.List.Elements.{All-head, All-tail}
use Rattle.tt_scan_edges.specs.declared.edge.Frame.{Frame}
use Rattle.tt_scan_edges.specs.Winding.{is_black, column_x, row_y}
use Rattle.tt_scan_dropouts.specs.Pictures.{column_at, line_at}
use Rattle.tt_strike_laws.specs.Laws.{MarginMoves, GlyphsByThemselves, AreUnfilled, UnfilledAreEdges}
use Rattle.tt_glyph_pixels.specs.Shown.{is_filled}
use Rattle.tt_picture.specs.Pixels.{Shape, some_black, some_filled}
use Rattle.tt_picture.proofs.Blackened.{or_false, or_or}

-- a greater margin does not move a column and a row of the outline
same_x : (margin m c : ℕ) → column_x (margin + m) (pos (c + m)) ≡ column_x margin (pos c)
same_x margin m c = omega (arith, ints)

same_y : (rise : ℤ) (margin m r : ℕ) → pos 8192 *ℤ ((rise +ℤ pos (margin + m)) -ℤ pos (r + m)) -ℤ pos 4096
    ≡ pos 8192 *ℤ ((rise +ℤ pos margin) -ℤ pos r) -ℤ pos 4096
same_y rise margin m r = omega (arith, ints)

same_column : (margin m c : ℕ) → (pos (c + m) -ℤ pos (margin + m)) -ℤ pos 0 ≡ (pos c -ℤ pos margin) -ℤ pos 0
same_column margin m c = omega (arith, ints)

same_line : (rise : ℤ) (margin m r : ℕ) → ((rise +ℤ pos (margin + m)) -ℤ pos 1) -ℤ pos (r + m)
    ≡ ((rise +ℤ pos margin) -ℤ pos 1) -ℤ pos r
same_line rise margin m r = omega (arith, ints)

same_filled : (f g : Frame) (m : ℕ) (glyphs : List Shape) (c r : ℕ) → g.margin ≡ f.margin + m → g.rise ≡ f.rise
    → some_filled g glyphs (c + m) (r + m) ≡ some_filled f glyphs c r
same_filled f g m [] c r margin rise = refl
same_filled f g m (s ∷ ss) c r margin rise =
    let rest = same_filled f g m ss c r margin rise in
    rw (margin, rise, same_column f.margin m c, same_line f.rise f.margin m r, rest) refl

pub margins_move : MarginMoves
margins_move f g m glyphs c r margin rise =
    rw (same_filled f g m glyphs c r margin rise, margin, rise, same_x f.margin m c, same_y f.rise f.margin m r) refl

-- glyphs beside others

exchanged : (a b c d : Bool) → ((a || b) || (c || d)) ≡ ((a || c) || (b || d))
exchanged true b c d = refl
exchanged false true true d = refl
exchanged false true false d = refl
exchanged false false c d = refl

black_beside : (glyphs others : List Shape) (x y : ℤ)
    → some_black (glyphs ++ others) x y ≡ (some_black glyphs x y || some_black others x y)
black_beside [] others x y = refl
black_beside (s ∷ ss) others x y =
    rw (black_beside ss others x y) (or_or (is_black s.edges x y) (some_black ss x y) (some_black others x y))

filled_beside : (f : Frame) (glyphs others : List Shape) (c r : ℕ)
    → some_filled f (glyphs ++ others) c r ≡ (some_filled f glyphs c r || some_filled f others c r)
filled_beside f [] others c r = refl
filled_beside f (s ∷ ss) others c r = rw (filled_beside f ss others c r)
    (or_or (is_filled s.filled s.contours (column_at f 0 c) (line_at f r)) (some_filled f ss c r)
    (some_filled f others c r))

pub by_themselves : GlyphsByThemselves
by_themselves f glyphs others c r =
    let x = column_x f.margin (pos c) in
    let y = row_y f (pos r) in
    rw (black_beside glyphs others x y, filled_beside f glyphs others c r)
    (exchanged (some_black glyphs x y) (some_black others x y) (some_filled f glyphs c r) (some_filled f others c r))

-- glyphs whose dropouts are not filled

none_filled : (f : Frame) (glyphs : List Shape) (c r : ℕ) → AreUnfilled glyphs → some_filled f glyphs c r ≡ false
none_filled f [] c r none = refl
none_filled f (s ∷ ss) c r none =
    let IsUnfilled : Shape → Type 0 = λ s. s.filled ≡ None in
    rw (All-head IsUnfilled s ss none, none_filled f ss c r (All-tail IsUnfilled s ss none)) refl

pub unfilled_are_edges : UnfilledAreEdges
unfilled_are_edges f glyphs c r none =
    rw (none_filled f glyphs c r none) (or_false (some_black glyphs (column_x f.margin (pos c)) (row_y f (pos r))))
