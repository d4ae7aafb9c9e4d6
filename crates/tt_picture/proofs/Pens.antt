-- The pixels of a glyph without a bitmap at its pens: what its spans cover there is what its edges blacken.
use Rattle.std.proofs.Common.{◌≡◌, ◌∙◌, ℕ, ◌+◌, ◌^◌, ◌<◌, ◌≤◌, Bool, true, false, ◌&&◌, ◌||◌, ◌==◌, nat_lt, Some, None, List, [], ◌∷◌, ◌++◌, length, drop, get_or, ℤ, pos, ◌-ℤ◌, ◌<ℤ◌, if◌then◌else◌, refl, sym, ap, ap₂, add-one, append_assoc, drop-cons, arith}
use Rattle.std.specs.Prelude.{All}
use Rattle.std.proofs.lemmas.Bool.Decides.{nat_tests}
use Rattle.std.proofs.lemmas.Int.{ints}
use Rattle.std.proofs.lemmas.List.Elements.{All-cons, All-head, All-nil, All-tail}
use Rattle.tt_core.specs.Limits.{width_limit}
use Rattle.tt_glyph_pixels.specs.Shown.{is_filled}
use Rattle.tt_picture.specs.Glyphs as glyphs
use Rattle.tt_picture.specs.Glyphs.{Glyph, LargeGlyph, large_shows}
use Rattle.tt_picture.specs.Large.{is_black_from, is_filled_from, large_shows_from, pens_in}
use Rattle.tt_picture.specs.Placed.{glyph_has, in_edges, place_has}
use Rattle.tt_picture.proofs.Blackened.{both_more}
use Rattle.tt_scan.specs.Contours.{contours_at}
use Rattle.tt_scan_dropouts.specs.Pictures.{column_at, is_dropout_from, line_at}
use Rattle.tt_scan_dropouts.specs.declared.boxed.BoxedRules.{BoxedRules}
use Rattle.tt_scan_edges.specs.Marks.{covers, covers_from}
use Rattle.tt_scan_edges.specs.Winding.{is_black, column_x, row_y, rows_met, is_between}
use Rattle.tt_scan_edges.specs.declared.edge.Edge.{Edge}
use Rattle.tt_scan_edges.specs.declared.edge.Frame.{Frame}
use Rattle.tt_scan_edges.specs.declared.mark.Span.{Span}
use Rattle.tt_scan_gaps.specs.Crossings.{centre}

-- edges that blacken no column of a row blacken none from any pen
pub none_from : (f : Frame) (es : List Edge) (pens : List ℕ) (k r : ℕ) (old inside : Bool)
    → ((c : ℤ) → is_black es (column_x f.margin c) (row_y f (pos r)) ≡ false)
    → old ≡ (old || (inside && is_black_from f es pens k r))
none_from f es [] k r true inside white = refl
none_from f es [] k r false true white = refl
none_from f es [] k r false false white = refl
none_from f es (p ∷ ps) k r old inside white =
    rw (white (pos k -ℤ pos p)) (none_from f es ps k r old inside white)

same_from : (f : Frame) (es : List Edge) (ss : List Span) (pens : List ℕ) (k r : ℕ) → k < 2 ^ 63
    → ((c : ℤ) → c <ℤ pos (2 ^ 63) → covers ss c ≡ is_black es (column_x f.margin c) (row_y f (pos r)))
    → covers_from ss pens k ≡ is_black_from f es pens k r
same_from f es ss [] k r small black = refl
same_from f es ss (p ∷ ps) k r small black =
    let near : (pos k -ℤ pos p) <ℤ pos (2 ^ 63) = omega (arith, ints, small) in
    rw (black (pos k -ℤ pos p) near, same_from f es ss ps k r small black) refl

guarded : (inside a b : Bool) → (inside ≡ true → a ≡ b) → (inside && a) ≡ (inside && b)
guarded true a b same = same refl
guarded false a b same = refl

pub painted_from : (f : Frame) (es : List Edge) (ss : List Span) (pens : List ℕ) (k r w : ℕ) (old : Bool) → w < 2 ^
    63
    → ((c : ℤ) → c <ℤ pos (2 ^ 63) → covers ss c ≡ is_black es (column_x f.margin c) (row_y f (pos r)))
    → (old || (nat_lt k w && covers_from ss pens k)) ≡ (old || (nat_lt k w && is_black_from f es pens k r))
painted_from f es ss pens k r w old small black =
    let same = guarded (nat_lt k w) (covers_from ss pens k) (is_black_from f es pens k r)
    (λ inside. same_from f es ss pens k r (grind (arith, nat_tests)) black) in
    rw same refl

-- a row meets each edge at most once
one_or_none : (b : Bool) → (if b then 1 else 0) ≤ 1
one_or_none true = omega arith
one_or_none false = omega arith

pub met_few : (es : List Edge) (y : ℤ) → rows_met es y ≤ length es
met_few [] y = omega arith
met_few (e ∷ es) y = omega (arith, one_or_none (is_between e.ay e.by y), met_few es y)

-- the dropouts: with rules, and without
pub filled_from : (f : Frame) (rules : BoxedRules) (contours : List (List Edge)) (pens : List ℕ) (c r : ℕ)
    → is_dropout_from f rules contours pens c r ≡ is_filled_from f (Some rules) contours pens c r
filled_from f rules contours [] c r = refl
filled_from f rules contours (pen ∷ pens) c r = rw (filled_from f rules contours pens c r) refl

pub none_filled : (f : Frame) (contours : List (List Edge)) (pens : List ℕ) (c r : ℕ)
    → is_filled_from f None contours pens c r ≡ false
none_filled f contours [] c r = refl
none_filled f contours (pen ∷ pens) c r = none_filled f contours pens c r

-- a glyph's pixels are those that its edges cover, and its dropouts
one_shows : (f : Frame) (g : LargeGlyph) (pen c r : ℕ) → large_shows g (column_at f pen c) (line_at f r)
    ≡ (is_black g.edges (column_x f.margin (pos c -ℤ pos pen)) (row_y f (pos r))
    || is_filled g.filled (contours_at g.edges g.ends) (column_at f pen c) (line_at f r))
one_shows f g pen c r =
    let column : centre (column_at f pen c) ≡ column_x f.margin (pos c -ℤ pos pen) = omega (arith, ints) in
    let line : centre (line_at f r) ≡ row_y f (pos r) = omega (arith, ints) in
    ap (λ b. b || is_filled g.filled (contours_at g.edges g.ends) (column_at f pen c) (line_at f r))
    (ap₂ (is_black g.edges) column line)

pub shown_from : (f : Frame) (g : LargeGlyph) (pens : List ℕ) (c r : ℕ) → large_shows_from f g pens c r
    ≡ (is_black_from f g.edges pens c r || is_filled_from f g.filled (contours_at g.edges g.ends) pens c r)
shown_from f g [] c r = refl
shown_from f g (pen ∷ pens) c r =
    ap₂ (λ a b. a || b) (one_shows f g pen c r) (shown_from f g pens c r)
    ∙ both_more (is_black g.edges (column_x f.margin (pos c -ℤ pos pen)) (row_y f (pos r)))
    (is_filled g.filled (contours_at g.edges g.ends) (column_at f pen c) (line_at f r))
    (is_black_from f g.edges pens c r) (is_filled_from f g.filled (contours_at g.edges g.ends) pens c r)

-- a glyph's places in a line are its pens there
by_test : (here : Bool) (f : Frame) (g : LargeGlyph) (pen c r : ℕ) (pens : List ℕ) (rest : Bool)
    → rest ≡ large_shows_from f g pens c r
    → ((here && large_shows g (column_at f pen c) (line_at f r)) || rest)
    ≡ large_shows_from f g (if here then pen ∷ pens else pens) c r
by_test true f g pen c r pens rest same = ap (λ b. large_shows g (column_at f pen c) (line_at f r) || b) same
by_test false f g pen c r pens rest same = same

pub at_pens : (f : Frame) (h : Glyph) (g : LargeGlyph) (line : List (ℕ × ℕ)) (c r : ℕ) → h.body ≡ glyphs.large g
    → place_has (glyph_has in_edges h) f line c r ≡ large_shows_from f g (pens_in h.number line) c r
at_pens f h g [] c r is = refl
at_pens f h g (p ∷ ps) c r is =
    let rest = at_pens f h g ps c r is in
    let here : glyph_has in_edges h p.0 (column_at f p.1 c) (line_at f r)
    ≡ (p.0 == h.number && large_shows g (column_at f p.1 c) (line_at f r)) =
    ap (λ body. p.0 == h.number && in_edges body (column_at f p.1 c) (line_at f r)) is in
    ap (λ b. b || place_has (glyph_has in_edges h) f ps c r) here
    ∙ by_test (p.0 == h.number) f g p.1 c r (pens_in h.number ps) (place_has (glyph_has in_edges h) f ps c r) rest

-- no pen
pub no_pen : (f : Frame) (g : LargeGlyph) (pens : List ℕ) (c r : ℕ) → length pens ≡ 0 → large_shows_from f g pens c r ≡ false
no_pen f g [] c r none = refl
no_pen f g (p ∷ ps) c r none = absurd (omega (arith, none))

-- pens within the width
within_by : (here : Bool) (pen : ℕ) (pens : List ℕ) → pen ≤ width_limit → All (λ p. p ≤ width_limit) pens
    → All (λ p. p ≤ width_limit) (if here then pen ∷ pens else pens)
within_by true pen pens low all = All-cons (λ p. p ≤ width_limit) pen pens low all
within_by false pen pens low all = all

pub pens_within : (n : ℕ) (line : List (ℕ × ℕ)) → All (λ (g : ℕ × ℕ). g.1 ≤ width_limit) line
    → All (λ p. p ≤ width_limit) (pens_in n line)
pens_within n [] all = All-nil _
pens_within n (p ∷ ps) all =
    within_by (p.0 == n) p.1 (pens_in n ps) (All-head (λ (g : ℕ × ℕ). g.1 ≤ width_limit) p ps all)
    (pens_within n ps (All-tail (λ (g : ℕ × ℕ). g.1 ≤ width_limit) p ps all))

-- the pens so far, and those of the places that are left
pub pen_taken : (n : ℕ) (line : List (ℕ × ℕ)) (i : ℕ) (p : ℕ × ℕ) (so_far : List ℕ) → i < length line → get_or line i p ≡ p
    → (p.0 == n) ≡ true → so_far ++ pens_in n (drop i line) ≡ pens_in n line
    → (so_far ++ p.1 ∷ []) ++ pens_in n (drop (i + 1) line) ≡ pens_in n line
pen_taken n line i p so_far below here is all =
    let left : drop i line ≡ get_or line i p ∷ drop (i + 1) line = rw add-one (drop-cons line i p below) in
    let first : drop i line ≡ p ∷ drop (i + 1) line = rw here at left in
    let taken : pens_in n (drop i line) ≡ p.1 ∷ pens_in n (drop (i + 1) line) = rw (first, is) refl in
    append_assoc so_far (p.1 ∷ []) (pens_in n (drop (i + 1) line)) ∙ ap (λ ps. so_far ++ ps) (sym taken) ∙ all

pub pen_passed : (n : ℕ) (line : List (ℕ × ℕ)) (i : ℕ) (p : ℕ × ℕ) (so_far : List ℕ) → i < length line → get_or line i p ≡ p
    → (p.0 == n) ≡ false → so_far ++ pens_in n (drop i line) ≡ pens_in n line
    → so_far ++ pens_in n (drop (i + 1) line) ≡ pens_in n line
pen_passed n line i p so_far below here is all =
    let left : drop i line ≡ get_or line i p ∷ drop (i + 1) line = rw add-one (drop-cons line i p below) in
    let first : drop i line ≡ p ∷ drop (i + 1) line = rw here at left in
    let passed : pens_in n (drop i line) ≡ pens_in n (drop (i + 1) line) = rw (first, is) refl in
    ap (λ ps. so_far ++ ps) (sym passed) ∙ all
