-- The black pixels of a region made of two parts, one after the other.
use Rattle.std.proofs.Common.{◌≡◌, ◌≢◌, ◌∙◌, ap, sym, refl, ℕ, zero, suc, ◌+◌, ◌^◌, Bool, true, false, ◌&&◌, ◌||◌, if◌then◌else◌, List, [], ◌∷◌, ◌++◌, Option, Some, None, ℤ, pos, ◌+ℤ◌, ◌-ℤ◌, ◌≤ℤ◌, ◌<ℤ◌, int_le, int_lt, arith}
use Rattle.std.specs.Int.{int_max, int_min}
use Rattle.std.specs.Ordering.{int_eq}
use Rattle.std.proofs.lemmas.Int.{by_lt_z, clamps, ints}
use Rattle.tt_scan_edges.specs.Marks.{covers}
use Rattle.tt_scan_edges.specs.Winding.{column_x, is_black, row_y}
use Rattle.tt_scan_edges.specs.declared.edge.Edge.{Edge}
use Rattle.tt_scan_edges.specs.declared.edge.Frame.{Frame}
use Rattle.tt_scan_edges.specs.declared.mark.Span.{Span}
use Rattle.tt_scan_edges.proofs.Visits.{covers_more}
use Rattle.tt_scan_gaps.specs.Crossings.{centre}
use Rattle.tt_scan_dropouts.specs.Passes.{has_pixel}
use Rattle.tt_scan_gaps.specs.Boxes.{is_column_of}
use Rattle.tt_scan_dropouts.specs.Windows.{has, is_within}
use Rattle.tt_scan_gaps.specs.declared.mark.Columns.{Columns}
use Rattle.tt_scan_dropouts.specs.declared.pixel.Pixel.{Pixel}
use Rattle.tt_scan_ink.specs.Ink.{count_of, ink_in, line_ink, lines_ink, pixel_box}
use Rattle.tt_bitmap.specs.Inks.{IsInk, IsLeastBox}
use Rattle.tt_scan_ink.specs.Least.{AreNear, covered, is_inked_by, shown}
use Rattle.tt_bitmap.specs.declared.ink.LeastBox.{LeastBox}
use Rattle.tt_scan_ink.proofs.Together.{ink_alike, joined_is, one_ink}

same_number : (a b : ℤ) → int_eq a b ≡ true → a ≡ b
same_number a b is = grind (arith, ints)

le : (a b : ℤ) → a ≤ℤ b → int_le a b ≡ true
le a b order = grind (arith, ints)

not_le : (a b : ℤ) → b <ℤ a → int_le a b ≡ false
not_le a b order = grind (arith, ints)

lt : (a b : ℤ) → a <ℤ b → int_lt a b ≡ true
lt a b order = grind (arith, ints)

not_lt : (a b : ℤ) → b ≤ℤ a → int_lt a b ≡ false
not_lt a b order = grind (arith, ints)

not_eq : (a b : ℤ) → a ≢ b → int_eq a b ≡ false
not_eq a b other = grind (arith, ints)

or_false : (b : Bool) → (b || false) ≡ b
or_false true = refl
or_false false = refl

same_or : (b : Bool) → b ≡ (b || b)
same_or true = refl
same_or false = refl

never : (b : Bool) → (b && false) ≡ false
never true = refl
never false = refl

-- one pixel

pixel_least : (s : ℤ → ℤ → Bool) (c j : ℤ) → s c j ≡ true → ((k l : ℤ) → s k l ≡ true → (c ≡ k) × (j ≡ l))
    → IsLeastBox s (pixel_box c j)
pixel_least s c j is only = record {
  within = λ k l here. let at = only k l here in record {
    left = omega (arith, ints, at.0);
    right = omega (arith, ints, at.0);
    bottom = omega (arith, ints, at.1);
    top = omega (arith, ints, at.1);
  };
  left = (j, is);
  right = (j, is);
  bottom = (c, is);
  top = (c, is);
}

only_there : (p : Pixel) (k l : ℤ) → has_pixel (p ∷ []) k l ≡ true → (p.column ≡ k) × (p.row ≡ l)
only_there p k l is = (grind (arith, ints), grind (arith, ints))

there : (p : Pixel) → has_pixel (p ∷ []) p.column p.row ≡ true
there p = grind (arith, ints)

pub pixel_is : (p : Pixel) → IsInk (has_pixel (p ∷ [])) (Some (pixel_box p.column p.row))
pixel_is p = pixel_least (has_pixel (p ∷ [])) p.column p.row (there p) (only_there p)

pub pixels_more : (ps qs : List Pixel) (c j : ℤ) → has_pixel (ps ++ qs) c j ≡ (has_pixel ps c j || has_pixel qs c j)
pixels_more [] qs c j = refl
pixels_more (p ∷ ps) qs c j = let rest = pixels_more ps qs c j in grind (arith)

-- the columns that spans cover of a line

not_true : (b : Bool) → (b ≡ true → false ≡ true) → b ≡ false
not_true true never_is = sym (never_is refl)
not_true false never_is = refl

-- the start and the end of a span in some columns
pub record IsClipped (columns : Columns) (s : Span) (from to : ℤ) : Type 0 where
  pub left : from ≡ int_max s.first columns.first
  pub right : to ≡ int_min s.last columns.last

span_within : (columns : Columns) (s : Span) (line left right c j : ℤ) → IsClipped columns s left right
    → covered columns line (s ∷ []) c j ≡ true → (left ≤ℤ c) × (c ≤ℤ right) × (line ≡ j)
span_within columns s line left right c j clip is =
    let low : columns.first ≤ℤ c = grind (arith, ints) in
    let high : c ≤ℤ columns.last = grind (arith, ints) in
    let from : s.first ≤ℤ c = grind (arith, ints) in
    let to : c ≤ℤ s.last = grind (arith, ints) in
    let here : line ≡ j = grind (arith, ints) in
    (omega (arith, ints, clamps, clip.left, low, from), omega (arith, ints, clamps, clip.right, high, to), here)

span_covers : (columns : Columns) (s : Span) (line left right c : ℤ) → IsClipped columns s left right
    → left ≤ℤ c → c ≤ℤ right → covered columns line (s ∷ []) c line ≡ true
span_covers columns s line left right c clip above below =
    let low : int_le columns.first c ≡ true = le columns.first c (omega (arith, ints, clamps, clip.left, above)) in
    let high : int_le c columns.last ≡ true = le c columns.last (omega (arith, ints, clamps, clip.right, below)) in
    let from : int_le s.first c ≡ true = le s.first c (omega (arith, ints, clamps, clip.left, above)) in
    let to : int_le c s.last ≡ true = le c s.last (omega (arith, ints, clamps, clip.right, below)) in
    let here : int_eq line line ≡ true = grind (arith, ints) in
    rw (low, high, from, to, here) refl

pub span_is : (columns : Columns) (s : Span) (line left right : ℤ) → IsClipped columns s left right → left ≤ℤ right
    → IsLeastBox (covered columns line (s ∷ [])) (record { left = left; bottom = line; right = right; top = line })
span_is columns s line left right clip order =
    let first = span_covers columns s line left right left clip (omega (arith, ints)) order in
    let last = span_covers columns s line left right right clip order (omega (arith, ints)) in
    record {
      within = λ k l here. let at = span_within columns s line left right k l clip here in record {
        left = at.0;
        right = at.1;
        bottom = omega (arith, ints, at.2);
        top = omega (arith, ints, at.2);
      };
      left = (line, first);
      right = (line, last);
      bottom = (left, first);
      top = (left, first);
    }

pub span_none : (columns : Columns) (s : Span) (line left right c j : ℤ) → IsClipped columns s left right
    → right <ℤ left → covered columns line (s ∷ []) c j ≡ false
span_none columns s line left right c j clip none = not_true (covered columns line (s ∷ []) c j) (λ is.
    let at = span_within columns s line left right c j clip is in absurd (omega (arith, ints, at.0, at.1, none)))

spread : (a l v s : Bool) → (a && (l && (v || s))) ≡ ((a && (l && v)) || (a && (l && (s || false))))
spread false l v s = refl
spread true false v s = refl
spread true true true s = refl
spread true true false true = refl
spread true true false false = refl

pub spans_more : (columns : Columns) (line : ℤ) (ss : List Span) (s : Span) (c j : ℤ)
    → covered columns line (ss ++ s ∷ []) c j ≡ (covered columns line ss c j || covered columns line (s ∷ []) c j)
spans_more columns line ss s c j =
    rw (covers_more ss s c) (spread (is_column_of columns c) (int_eq line j) (covers ss c)
    (int_le s.first c && int_le c s.last))

pub no_spans : (columns : Columns) (line c j : ℤ) → covered columns line [] c j ≡ false
no_spans columns line c j = grind (arith)

-- the lines of a frame, one below the other

next_below : (past j : ℤ) (r : ℕ) → is_within (past -ℤ pos (r + 1)) (r + 1) j
    ≡ (is_within (past -ℤ pos r) r j || int_eq ((past -ℤ pos 1) -ℤ pos r) j)
next_below past j r =
    let end : (past -ℤ pos (r + 1)) +ℤ pos (r + 1) ≡ past = omega (arith, ints) in
    let same : (past -ℤ pos r) +ℤ pos r ≡ past = omega (arith, ints) in
    rw (end, same)
    (by_lt_z j (past -ℤ pos r)
    (λ less.
    let none : int_le (past -ℤ pos r) j ≡ false = not_le (past -ℤ pos r) j less in
    rw none
    (by_lt_z j (past -ℤ pos (r + 1))
    (λ below.
    let low : int_le (past -ℤ pos (r + 1)) j ≡ false = not_le (past -ℤ pos (r + 1)) j below in
    let other : int_eq ((past -ℤ pos 1) -ℤ pos r) j ≡ false =
    not_eq ((past -ℤ pos 1) -ℤ pos r) j (omega (arith, ints, below)) in
    rw (low, other) refl)
    (λ there.
    let low : int_le (past -ℤ pos (r + 1)) j ≡ true = le (past -ℤ pos (r + 1)) j there in
    let high : int_lt j past ≡ true = lt j past (omega (arith, ints, less)) in
    let at : (past -ℤ pos 1) -ℤ pos r ≡ j = omega (arith, ints, less, there) in
    let here : int_eq ((past -ℤ pos 1) -ℤ pos r) j ≡ true = grind (arith, ints, at) in
    rw (low, high, here) refl)))
    (λ more.
    let low : int_le (past -ℤ pos r) j ≡ true = le (past -ℤ pos r) j more in
    let lower : int_le (past -ℤ pos (r + 1)) j ≡ true = le (past -ℤ pos (r + 1)) j (omega (arith, ints, more)) in
    let other : int_eq ((past -ℤ pos 1) -ℤ pos r) j ≡ false =
    not_eq ((past -ℤ pos 1) -ℤ pos r) j (omega (arith, ints, more)) in
    rw (low, lower, other) (sym (or_false (int_lt j past)))))

one_line : (a b more l k v : Bool) → more ≡ (b || l) → (a ≡ true → l ≡ true → v ≡ k)
    → (a && (more && k)) ≡ ((a && (b && k)) || (a && (l && v)))
one_line false b more l k v is alike = refl
one_line true b more false k v is alike = grind (arith, is)
one_line true true more true k v is alike = rw (is, alike refl refl) (same_or k)
one_line true false more true k v is alike = rw (is, alike refl refl) refl

pub rows_more : (columns : Columns) (es : List Edge) (f : Frame) (past : ℤ) (r : ℕ) (ss : List Span)
    → AreNear columns → f.margin ≡ 0 → f.rise ≡ past
    → ((c : ℤ) → c <ℤ pos (2 ^ 63) → covers ss c ≡ is_black es (column_x f.margin c) (row_y f (pos r)))
    → (c j : ℤ) → shown columns (past -ℤ pos (r + 1)) (r + 1) (is_inked_by es) c j
    ≡ (shown columns (past -ℤ pos r) r (is_inked_by es) c j || covered columns ((past -ℤ pos 1) -ℤ pos r) ss c j)
rows_more columns es f past r ss near margin rise cut c j =
    one_line (is_column_of columns c) (is_within (past -ℤ pos r) r j) (is_within (past -ℤ pos (r + 1)) (r + 1) j)
    (int_eq ((past -ℤ pos 1) -ℤ pos r) j) (is_inked_by es c j) (covers ss c) (next_below past j r)
    (λ inside here.
    let last : c ≤ℤ columns.last = grind (arith, ints) in
    let at : (past -ℤ pos 1) -ℤ pos r ≡ j = same_number ((past -ℤ pos 1) -ℤ pos r) j here in
    let x : column_x f.margin c ≡ centre c = omega (arith, ints, margin) in
    let y : row_y f (pos r) ≡ centre j = omega (arith, ints, margin, rise, at) in
    cut c (omega (arith, ints, last, near.last)) ∙ rw (x, y) refl)

none_of : (first c : ℤ) → is_within first 0 c ≡ false
none_of first c = grind (arith, ints)

pub no_rows : (columns : Columns) (black : ℤ → ℤ → Bool) (first c j : ℤ) → shown columns first 0 black c j ≡ false
no_rows columns black first c j = rw (none_of first j) (never (is_column_of columns c))

-- bands of lines, one above the other

next_above : (first j : ℤ) (a b : ℕ) → is_within first (a + b) j
    ≡ (is_within first a j || is_within (first +ℤ pos a) b j)
next_above first j a b =
    let end : first +ℤ pos (a + b) ≡ (first +ℤ pos a) +ℤ pos b = omega (arith, ints) in
    rw end
    (by_lt_z j (first +ℤ pos a)
    (λ below.
    let none : int_le (first +ℤ pos a) j ≡ false = not_le (first +ℤ pos a) j below in
    let first_part : int_lt j (first +ℤ pos a) ≡ true = lt j (first +ℤ pos a) below in
    let both : int_lt j ((first +ℤ pos a) +ℤ pos b) ≡ true =
    lt j ((first +ℤ pos a) +ℤ pos b) (omega (arith, ints, below)) in
    rw (none, first_part, both) (sym (or_false (int_le first j && true))))
    (λ above.
    let low : int_le (first +ℤ pos a) j ≡ true = le (first +ℤ pos a) j above in
    let from : int_le first j ≡ true = le first j (omega (arith, ints, above)) in
    let past : int_lt j (first +ℤ pos a) ≡ false = not_lt j (first +ℤ pos a) above in
    rw (low, from, past) refl))

parted : (a more b l k : Bool) → more ≡ (b || l) → (a && (more && k)) ≡ ((a && (b && k)) || (a && (l && k)))
parted false more b l k is = refl
parted true more true true k is = rw is (same_or k)
parted true more true false k is = rw is (sym (or_false k))
parted true more false l k is = rw is refl

pub bands_more : (columns : Columns) (black : ℤ → ℤ → Bool) (first : ℤ) (a b : ℕ) (c j : ℤ)
    → shown columns first (a + b) black c j
    ≡ (shown columns first a black c j || shown columns (first +ℤ pos a) b black c j)
bands_more columns black first a b c j =
    parted (is_column_of columns c) (is_within first (a + b) j) (is_within first a j) (is_within (first +ℤ pos a) b j)
    (black c j) (next_above first j a b)

-- the pixels of a window

pub counted : (columns : Columns) (c : ℤ) → columns.first ≤ℤ columns.last
    → is_within columns.first (count_of columns) c ≡ is_column_of columns c
counted columns c order =
    let end : columns.first +ℤ pos (count_of columns) ≡ columns.last +ℤ pos 1 = omega (arith, ints, order) in
    rw end
    (by_lt_z columns.last c
    (λ over.
    let past : int_lt c (columns.last +ℤ pos 1) ≡ false =
    not_lt c (columns.last +ℤ pos 1) (omega (arith, ints, over)) in
    let out : int_le c columns.last ≡ false = not_le c columns.last over in
    rw (past, out) refl)
    (λ within.
    let before : int_lt c (columns.last +ℤ pos 1) ≡ true =
    lt c (columns.last +ℤ pos 1) (omega (arith, ints, within)) in
    let inside : int_le c columns.last ≡ true = le c columns.last within in
    rw (before, inside) refl))

and_and : (a b c : Bool) → ((a && b) && c) ≡ (a && (b && c))
and_and true b c = refl
and_and false b c = refl

pub window_is : (columns : Columns) (black : ℤ → ℤ → Bool) (first : ℤ) (n : ℕ) (c j : ℤ) → AreNear columns
    → shown columns first n black c j
    ≡ (has (record { left = columns.first; bottom = first; width = count_of columns; height = n }) c j && black c j)
window_is columns black first n c j near =
    rw (counted columns c near.order) (sym (and_and (is_column_of columns c) (is_within first n j) (black c j)))

-- the box in some columns and lines, pixel by pixel and line by line

only_one : (first c : ℤ) → is_within first 1 c ≡ int_eq first c
only_one first c =
    by_lt_z c first
    (λ below.
    let low : int_le first c ≡ false = not_le first c below in
    let other : int_eq first c ≡ false = not_eq first c (λ same. absurd (omega (arith, ints, below, same))) in
    rw (low, other) refl)
    (λ above. by_lt_z first c
    (λ over.
    let high : int_lt c (first +ℤ pos 1) ≡ false = not_lt c (first +ℤ pos 1) (omega (arith, ints, over)) in
    let other : int_eq first c ≡ false = not_eq first c (λ same. absurd (omega (arith, ints, over, same))) in
    rw (high, other) (never (int_le first c)))
    (λ at.
    let low : int_le first c ≡ true = le first c above in
    let high : int_lt c (first +ℤ pos 1) ≡ true = lt c (first +ℤ pos 1) (omega (arith, ints, at)) in
    let same : first ≡ c = omega (arith, ints, at, above) in
    let here : int_eq first c ≡ true = grind (arith, ints, same) in
    rw (low, high, here) refl))

first_of : (first c : ℤ) (n : ℕ) → is_within first (suc n) c ≡ (int_eq first c || is_within (first +ℤ pos 1) n c)
first_of first c n =
    let one : is_within first 1 c ≡ int_eq first c = only_one first c in
    let more : suc n ≡ 1 + n = omega arith in
    rw more (next_above first c 1 n ∙ rw one refl)

in_column : (c j k l : ℤ) (b : Bool) → (int_eq c k && (int_eq j l && b)) ≡ true → c ≡ k
in_column c j k l b is = grind (arith, ints)

in_line : (c j k l : ℤ) (b : Bool) → (int_eq c k && (int_eq j l && b)) ≡ true → j ≡ l
in_line c j k l b is = grind (arith, ints)

third : (a b c : Bool) → (a && (b && c)) ≡ true → c ≡ true
third a b c is = grind (arith)

itself : (c : ℤ) → int_eq c c ≡ true
itself c = grind (arith, ints)

is_pixel : (black : ℤ → ℤ → Bool) (c j : ℤ) → black c j ≡ true
    → IsLeastBox (λ (k : ℤ) (l : ℤ). int_eq c k && (int_eq j l && black k l)) (pixel_box c j)
is_pixel black c j is =
    pixel_least (λ (k : ℤ) (l : ℤ). int_eq c k && (int_eq j l && black k l)) c j (rw (itself c, itself j, is) refl)
    (λ k l here. (in_column c j k l (black k l) here, in_line c j k l (black k l) here))

no_pixel : (black : ℤ → ℤ → Bool) (c j k l : ℤ) → black c j ≡ false
    → (int_eq c k && (int_eq j l && black k l)) ≡ false
no_pixel black c j k l is = not_true (int_eq c k && (int_eq j l && black k l)) (λ here.
    let at : c ≡ k = in_column c j k l (black k l) here in
    let to : j ≡ l = in_line c j k l (black k l) here in
    sym is ∙ ap (λ z. black z j) at ∙ ap (black k) to ∙ third (int_eq c k) (int_eq j l) (black k l) here)

pixel_ink : (black : ℤ → ℤ → Bool) (c j : ℤ) (is : Bool) → black c j ≡ is
    → IsInk (λ (k : ℤ) (l : ℤ). int_eq c k && (int_eq j l && black k l))
    (if is then Some (pixel_box c j) else None)
pixel_ink black c j true is = is_pixel black c j is
pixel_ink black c j false is = λ k l. no_pixel black c j k l is

either_and : (a b k : Bool) → ((a || b) && k) ≡ ((a && k) || (b && k))
either_and true true k = same_or k
either_and true false k = sym (or_false k)
either_and false b k = refl

line_is : (black : ℤ → ℤ → Bool) (j c : ℤ) (n : ℕ)
    → IsInk (λ k l. is_within c n k && (int_eq j l && black k l)) (line_ink black j c n)
line_is black j c zero = λ k l. rw (none_of c k) refl
line_is black j c (suc n) =
    joined_is (λ k l. int_eq c k && (int_eq j l && black k l))
    (λ k l. is_within (c +ℤ pos 1) n k && (int_eq j l && black k l))
    (λ k l. is_within c (suc n) k && (int_eq j l && black k l)) _ _
    (λ k l. rw (first_of c k n) (either_and (int_eq c k) (is_within (c +ℤ pos 1) n k) (int_eq j l && black k l)))
    (pixel_ink black c j (black c j) refl) (line_is black j (c +ℤ pos 1) n)

lines_are : (black : ℤ → ℤ → Bool) (columns : Columns) (j : ℤ) (n : ℕ)
    → IsInk (λ k l. is_within columns.first (count_of columns) k && (is_within j n l && black k l))
    (lines_ink black columns j n)
lines_are black columns j zero = λ k l. rw (none_of j l) (never (is_within columns.first (count_of columns) k))
lines_are black columns j (suc n) =
    let m = count_of columns in
    joined_is (λ k l. is_within columns.first m k && (int_eq j l && black k l))
    (λ k l. is_within columns.first m k && (is_within (j +ℤ pos 1) n l && black k l))
    (λ k l. is_within columns.first m k && (is_within j (suc n) l && black k l)) _ _
    (λ k l. parted (is_within columns.first m k) (is_within j (suc n) l) (int_eq j l) (is_within (j +ℤ pos 1) n l)
    (black k l) (first_of j l n))
    (line_is black j columns.first m) (lines_are black columns (j +ℤ pos 1) n)

pub ink_is : (black : ℤ → ℤ → Bool) (columns rows : Columns) → columns.first ≤ℤ columns.last
    → IsInk (shown columns rows.first (count_of rows) black) (ink_in black columns rows)
unfolding ink_in
ink_is black columns rows order =
    ink_alike (λ k l. is_within columns.first (count_of columns) k
    && (is_within rows.first (count_of rows) l && black k l))
    (shown columns rows.first (count_of rows) black) (ink_in black columns rows)
    (λ k l. rw (counted columns k order) refl)
    (lines_are black columns rows.first (count_of rows))

-- the least box of the region is the box of the definition
pub found_is : (black : ℤ → ℤ → Bool) (columns rows : Columns) (x : Option LeastBox) → AreNear columns
    → IsInk (shown columns rows.first (count_of rows) black) x → x ≡ ink_in black columns rows
found_is black columns rows x near is =
    one_ink (shown columns rows.first (count_of rows) black) x (ink_in black columns rows) is
    (ink_is black columns rows near.order)

none_shown : (a b black : Bool) → black ≡ false → (a && (b && black)) ≡ false
none_shown true true black none = none
none_shown true false black none = refl
none_shown false b black none = refl

-- where nothing is black, the box is none
pub none_is : (black : ℤ → ℤ → Bool) (columns rows : Columns) → AreNear columns → ((c j : ℤ) → black c j ≡ false)
    → None ≡ ink_in black columns rows
none_is black columns rows near none =
    found_is black columns rows None near (λ c j. none_shown (is_column_of columns c)
    (is_within rows.first (count_of rows) j) (black c j) (none c j))
