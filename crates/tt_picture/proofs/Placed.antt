-- The pixels of glyphs at the places of lines, a glyph, a place or a line more at a time.
use Rattle.std.proofs.Common.{◌≡◌, ◌∙◌, refl, sym, ap, ap₂, ℕ, zero, suc, ◌+◌, ◌<◌, Bool, true, false, ◌&&◌, ◌||◌, ◌==◌, ℤ, List, [], ◌∷◌, ◌++◌, length, take, get_or, slice_index, arith}
use Rattle.std.proofs.lemmas.Bool.Decides.{nat_tests}
use Rattle.std.proofs.lemmas.List.{take_more}
use Rattle.tt_picture.specs.Glyphs.{ArePlaces, Glyph, GlyphBody, body_shows, large, numbers_of, small}
use Rattle.tt_picture.specs.Placed.{glyph_has, in_bitmap, in_edges, lines_have, number_has, place_has}
use Rattle.tt_picture.specs.Stamps.{some_stamp_shows, stamp_shows}
use Rattle.tt_picture.specs.declared.lines.PlacedLine.{PlacedLine}
use Rattle.tt_picture.specs.declared.stamp.PlacedBitmap.{PlacedBitmap}
use Rattle.tt_picture.proofs.Blackened.{both_more, or_false, or_or, parted}
use Rattle.tt_scan_dropouts.specs.Pictures.{column_at, line_at}
use Rattle.tt_scan_edges.specs.declared.edge.Frame.{Frame}

-- two parts of the pixels

pub place_parts : (both one other : ℕ → ℤ → ℤ → Bool) (f : Frame) (line : List (ℕ × ℕ)) (c r : ℕ)
    → ((n : ℕ) (k j : ℤ) → both n k j ≡ (one n k j || other n k j))
    → place_has both f line c r ≡ (place_has one f line c r || place_has other f line c r)
place_parts both one other f [] c r same = refl
place_parts both one other f (p ∷ ps) c r same =
    let k = column_at f p.1 c in
    let j = line_at f r in
    ap₂ (λ a b. a || b) (same p.0 k j) (place_parts both one other f ps c r same)
    ∙ both_more (one p.0 k j) (other p.0 k j) (place_has one f ps c r) (place_has other f ps c r)

pub lines_parts : (both one other : ℕ → ℤ → ℤ → Bool) (lines : List PlacedLine) (c r : ℕ)
    → ((n : ℕ) (k j : ℤ) → both n k j ≡ (one n k j || other n k j))
    → lines_have both lines c r ≡ (lines_have one lines c r || lines_have other lines c r)
lines_parts both one other [] c r same = refl
lines_parts both one other (l ∷ ls) c r same =
    ap₂ (λ a b. a || b) (place_parts both one other l.frame l.glyphs.now c r same) (lines_parts both one other ls c r same)
    ∙ both_more (place_has one l.frame l.glyphs.now c r) (place_has other l.frame l.glyphs.now c r) (lines_have one ls c r) (lines_have other ls c r)

body_parts : (b : GlyphBody) (c j : ℤ) → body_shows b c j ≡ (in_edges b c j || in_bitmap b c j)
body_parts (small b ink) c j = refl
body_parts (large g) c j = sym (or_false _)

-- a glyph has its pixels in a bitmap, or by its edges
pub number_parts : (gs : List Glyph) (n : ℕ) (c j : ℤ)
    → number_has body_shows gs n c j ≡ (number_has in_edges gs n c j || number_has in_bitmap gs n c j)
number_parts [] n c j = refl
number_parts (g ∷ gs) n c j =
    ap₂ (λ a b. ((n == g.number) && a) || b) (body_parts g.body c j) (number_parts gs n c j)
    ∙ parted (n == g.number) (in_edges g.body c j) (in_bitmap g.body c j) (number_has in_edges gs n c j) (number_has in_bitmap gs n c j)

-- no pixel

pub none_placed : (has : ℕ → ℤ → ℤ → Bool) (f : Frame) (line : List (ℕ × ℕ)) (c r : ℕ)
    → ((n : ℕ) (k j : ℤ) → has n k j ≡ false) → place_has has f line c r ≡ false
none_placed has f [] c r none = refl
none_placed has f (p ∷ ps) c r none =
    ap₂ (λ a b. a || b) (none p.0 (column_at f p.1 c) (line_at f r)) (none_placed has f ps c r none)

pub none_lined : (has : ℕ → ℤ → ℤ → Bool) (lines : List PlacedLine) (c r : ℕ)
    → ((n : ℕ) (k j : ℤ) → has n k j ≡ false) → lines_have has lines c r ≡ false
none_lined has [] c r none = refl
none_lined has (l ∷ ls) c r none =
    ap₂ (λ a b. a || b) (none_placed has l.frame l.glyphs.now c r none) (none_lined has ls c r none)

off : (b : Bool) → (b && false) ≡ false
off true = refl
off false = refl

-- a glyph with a bitmap
pub none_in_edges : (g : Glyph) (n : ℕ) (c j : ℤ) → in_edges g.body c j ≡ false → glyph_has in_edges g n c j ≡ false
none_in_edges g n c j none = ap (λ b. n == g.number && b) none ∙ off (n == g.number)

-- one more

number_pushed : (has : GlyphBody → ℤ → ℤ → Bool) (gs : List Glyph) (g : Glyph) (n : ℕ) (c j : ℤ)
    → number_has has (gs ++ g ∷ []) n c j ≡ (number_has has gs n c j || glyph_has has g n c j)
number_pushed has [] g n c j = or_false _
number_pushed has (h ∷ hs) g n c j =
    ap (λ b. glyph_has has h n c j || b) (number_pushed has hs g n c j)
    ∙ or_or (glyph_has has h n c j) (number_has has hs n c j) (glyph_has has g n c j)

pub number_more : (has : GlyphBody → ℤ → ℤ → Bool) (gs : List Glyph) (i : ℕ) (g : Glyph) (n : ℕ) (c j : ℤ) → i < length gs
    → get_or gs i g ≡ g → number_has has (take (i + 1) gs) n c j ≡ (number_has has (take i gs) n c j || glyph_has has g n c j)
number_more has gs i g n c j below is =
    ap (λ hs. number_has has hs n c j) (take_more gs i g below ∙ ap (λ h. take i gs ++ h ∷ []) is)
    ∙ number_pushed has (take i gs) g n c j

place_pushed : (has : ℕ → ℤ → ℤ → Bool) (f : Frame) (line : List (ℕ × ℕ)) (p : ℕ × ℕ) (c r : ℕ)
    → place_has has f (line ++ p ∷ []) c r ≡ (place_has has f line c r || has p.0 (column_at f p.1 c) (line_at f r))
place_pushed has f [] p c r = or_false _
place_pushed has f (q ∷ qs) p c r =
    ap (λ b. has q.0 (column_at f q.1 c) (line_at f r) || b) (place_pushed has f qs p c r)
    ∙ or_or (has q.0 (column_at f q.1 c) (line_at f r)) (place_has has f qs c r) (has p.0 (column_at f p.1 c) (line_at f r))

pub place_more : (has : ℕ → ℤ → ℤ → Bool) (f : Frame) (line : List (ℕ × ℕ)) (i : ℕ) (p : ℕ × ℕ) (c r : ℕ) → i < length line
    → get_or line i p ≡ p
    → place_has has f (take (i + 1) line) c r ≡ (place_has has f (take i line) c r || has p.0 (column_at f p.1 c) (line_at f r))
place_more has f line i p c r below is =
    ap (λ qs. place_has has f qs c r) (take_more line i p below ∙ ap (λ q. take i line ++ q ∷ []) is)
    ∙ place_pushed has f (take i line) p c r

line_pushed : (has : ℕ → ℤ → ℤ → Bool) (lines : List PlacedLine) (l : PlacedLine) (c r : ℕ)
    → lines_have has (lines ++ l ∷ []) c r ≡ (lines_have has lines c r || place_has has l.frame l.glyphs.now c r)
line_pushed has [] l c r = or_false _
line_pushed has (m ∷ ms) l c r =
    ap (λ b. place_has has m.frame m.glyphs.now c r || b) (line_pushed has ms l c r)
    ∙ or_or (place_has has m.frame m.glyphs.now c r) (lines_have has ms c r) (place_has has l.frame l.glyphs.now c r)

pub line_more : (has : ℕ → ℤ → ℤ → Bool) (lines : List PlacedLine) (i : ℕ) (l : PlacedLine) (c r : ℕ) → i < length lines
    → get_or lines i l ≡ l
    → lines_have has (take (i + 1) lines) c r ≡ (lines_have has (take i lines) c r || place_has has l.frame l.glyphs.now c r)
line_more has lines i l c r below is =
    ap (λ ms. lines_have has ms c r) (take_more lines i l below ∙ ap (λ m. take i lines ++ m ∷ []) is)
    ∙ line_pushed has (take i lines) l c r

pub stamp_pushed : (stamps : List PlacedBitmap) (s : PlacedBitmap) (c r : ℕ)
    → some_stamp_shows (stamps ++ s ∷ []) c r ≡ (some_stamp_shows stamps c r || stamp_shows s c r)
stamp_pushed [] s c r = or_false _
stamp_pushed (t ∷ ts) s c r =
    ap (λ b. stamp_shows t c r || b) (stamp_pushed ts s c r) ∙ or_or (stamp_shows t c r) (some_stamp_shows ts c r) (stamp_shows s c r)

pub stamp_more : (stamps : List PlacedBitmap) (i : ℕ) (s : PlacedBitmap) (c r : ℕ) → i < length stamps → get_or stamps i s ≡ s
    → some_stamp_shows (take (i + 1) stamps) c r ≡ (some_stamp_shows (take i stamps) c r || stamp_shows s c r)
stamp_more stamps i s c r below is =
    ap (λ ts. some_stamp_shows ts c r) (take_more stamps i s below ∙ ap (λ t. take i stamps ++ t ∷ []) is)
    ∙ stamp_pushed (take i stamps) s c r

-- the glyph that a number has, where no two glyphs have one number

head_not : (here : Bool) (n m : ℕ) → (n == m) ≡ here → (m ≡ n → ⊥) → here ≡ false
head_not true n m is not = absurd (not (grind (arith, nat_tests, is)))
head_not false n m is not = refl

none_there : (has : GlyphBody → ℤ → ℤ → Bool) (gs : List Glyph) (n : ℕ) (c j : ℤ)
    → ((k : ℕ) → k < length gs → slice_index (numbers_of gs) k ≡ n → ⊥) → number_has has gs n c j ≡ false
none_there has [] n c j none = refl
none_there has (g ∷ gs) n c j none =
    let other : (n == g.number) ≡ false = head_not (n == g.number) n g.number refl (none 0 (omega arith)) in
    rw other (none_there has gs n c j (λ k under there. none (suc k) (omega (arith, under)) there))

only_at : (has : GlyphBody → ℤ → ℤ → Bool) (gs : List Glyph) (n i : ℕ) (d : Glyph) (c j : ℤ) → i < length gs
    → slice_index (numbers_of gs) i ≡ n → ((k : ℕ) → k < length gs → slice_index (numbers_of gs) k ≡ n → k ≡ i)
    → number_has has gs n c j ≡ has (get_or gs i d).body c j
only_at has [] n i d c j below is one = absurd (omega (arith, below))
only_at has (g ∷ gs) n zero d c j below is one =
    let same : (n == g.number) ≡ true = grind (arith, nat_tests, is) in
    let rest : number_has has gs n c j ≡ false =
    none_there has gs n c j (λ k under there. absurd (omega (arith, one (suc k) (omega (arith, under)) there))) in
    rw (same, rest) (or_false (has g.body c j))
only_at has (g ∷ gs) n (suc i) d c j below is one =
    let other : (n == g.number) ≡ false =
    head_not (n == g.number) n g.number refl (λ same. absurd (omega (arith, one 0 (omega arith) same))) in
    rw other (only_at has gs n i d c j (omega (arith, below)) is
    (λ k under there. let next = one (suc k) (omega (arith, under)) there in omega (arith, next)))

pub number_at : (has : GlyphBody → ℤ → ℤ → Bool) (table : List ℕ) (gs : List Glyph) (n i : ℕ) (g : Glyph) (c j : ℤ)
    → ArePlaces table (numbers_of gs) → length (numbers_of gs) ≡ length gs → i < length gs → slice_index (numbers_of gs) i ≡ n
    → get_or gs i g ≡ g → number_has has gs n c j ≡ has g.body c j
number_at has table gs n i g c j places many below there is =
    let seat : slice_index table n ≡ i + 1 = rw there at (places.there i (omega (arith, below, many))) in
    only_at has gs n i g c j below there
    (λ k under same.
    let other : slice_index table n ≡ k + 1 = rw same at (places.there k (omega (arith, under, many))) in
    omega (arith, seat, other))
    ∙ ap (λ (h : Glyph). has h.body c j) is
