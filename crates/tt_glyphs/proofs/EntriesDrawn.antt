-- The rows and the advance of an entry are those of its glyph in a line, where both make the glyph alike.
use Rattle.std.proofs.Common.{◌≡◌, ◌∙◌, refl, sym, ap, ap₂, ℕ, ◌+◌, ◌-◌, ◌*◌, ◌/◌, ◌%◌, ◌<◌, Bool, true, false, ◌&&◌, ◌==◌, nat_lt, if◌then◌else◌, ℤ, pos, ◌+ℤ◌, ◌-ℤ◌, ◌≤ℤ◌, ◌<ℤ◌, int_le, int_lt, unsigned_abs, List, length, slice_index, Option, Some, None, Result, Ok, Err, arith}
use Rattle.std.specs.Int.{bit_at}
use Rattle.std.proofs.lemmas.Bool.{and_parts}
use Rattle.std.proofs.lemmas.Int.{ints}
use Rattle.tt_arc.specs.declared.rule.ChordRule.{ChordRule}
use Rattle.tt_core.specs.Bits.{stride}
use Rattle.tt_core.specs.Faults.{Fault}
use Rattle.tt_fit.specs.declared.programs.Fit.{Fit}
use Rattle.tt_fit.specs.Dropouts.{dropouts_of}
use Rattle.tt_fit.specs.Fallback.{hinting_for}
use Rattle.tt_fit.specs.Fitting.{Fitter, fitted_outline, outline_at, unfitted_fault, with_hinting}
use Rattle.tt_fit.specs.GlyphCost.{all_used, without_work}
use Rattle.tt_fit.specs.Laws.{UnboundedStays}
use Rattle.tt_fit.proofs.WorkApart.{work-is-apart}
use Rattle.tt_fit.specs.outline.Outline.{Outline}
use Rattle.tt_fit.specs.outline.Steps.{pixels_of}
use Rattle.tt_line.specs.Layout.{units_in_pixels}
use Rattle.tt_metrics.specs.Metrics.{glyphs_of}
use Rattle.tt_picture.specs.Distinct.{distinct, is_among}
use Rattle.tt_picture.specs.Ink.{glyph_ink, ink_by}
use Rattle.tt_picture.specs.Pixels.{Shape}
use Rattle.tt_picture.specs.Shapes.{chords_with, contours_of, edges_at, extents_of, filled_at, filled_by, rule_by, rules_for, shape_at}
use Rattle.tt_picture.specs.Steps.{glyph_advance, glyph_step, outline_advance}
use Rattle.tt_picture.proofs.RowBytes.{length-rows}
use Rattle.tt_scan_dropouts.specs.Pictures.{column_at, line_at}
use Rattle.tt_scan_dropouts.specs.declared.boxed.BoxedRules.{BoxedRules}
use Rattle.tt_scan_edges.specs.declared.edge.Frame.{Frame}
use Rattle.tt_strike.specs.Work.{lays_after_glyphs, line_fitter}
use Rattle.tt_strike.proofs.Setting.{maker_alike}
use Rattle.tt_glyphs.specs.Bitmaps.{bitmap, bitmap_pixel, is_black_at, is_large, place_bytes, place_of}
use Rattle.tt_glyphs.specs.declared.place.InkPlace.{InkPlace}
use Rattle.tt_glyphs.specs.declared.told.MadeBitmap.{MadeBitmap}
use Rattle.tt_glyphs.specs.declared.told.Told.TheVariants as told
use Rattle.tt_glyphs.specs.Entries.{fitter_units, advance_by, all_rows, entry_of, glyph_told, known, number_bytes, number_rows, number_told, outline_rows, told_rows}
use Rattle.tt_glyphs.specs.EntryLaws.{AdvancesAreDrawn, AdvancesAreRounded, RowsAreDrawn, UnboundedAreAlike, has_bit}
use Rattle.tt_glyphs.specs.GlyphLaws.{entry_shows, lies_in, outline_shows}
use Rattle.tt_glyphs.proofs.BitmapRows.{row_within}
use Rattle.tt_glyphs.proofs.DrawnGlyphs.{told_is, told_refused}
use Rattle.tt_glyphs.proofs.EntryBytes.{byte_among, row_bit}
use Rattle.tt_glyphs.proofs.LeastBitmaps.{ink_of}
use Rattle.tt_glyphs.proofs.ListLaws.{alone, number_length}
use Rattle.tt_glyphs.proofs.Numbers.{among_distinct}

-- fitters that differ in their remaining work alone make a glyph alike, if the same fault makes it unfitted

outline_alike : (t u : Fitter) (g : ℕ) → without_work u ≡ without_work t → unfitted_fault u g ≡ unfitted_fault t g
    → fitted_outline u g ≡ fitted_outline t g
unfolding fitted_outline
outline_alike t u g same alike =
    ap₂ (λ (f : Fitter) (x : Option Fault). outline_at (with_hinting f (hinting_for x f.hinting)) f.levels g) same alike

filled_alike : (t u : Fitter) (g : ℕ) (o : Outline) → without_work u ≡ without_work t
    → unfitted_fault u g ≡ unfitted_fault t g → filled_by u g o ≡ filled_by t g o
filled_alike t u g o same alike =
    ap₂ (λ (f : Fitter) (x : Option Fault). rules_for (extents_of o) (dropouts_of f x o)) same alike

rule_alike : (a b : Option ℕ) → all_used b ≡ all_used a → rule_by b ≡ rule_by a
rule_alike None None same = refl
rule_alike None (Some n) same = absurd cc
rule_alike (Some m) None same = absurd cc
rule_alike (Some m) (Some n) same = refl

chords_alike : (t u : Fitter) → without_work u ≡ without_work t → chords_with u ≡ chords_with t
chords_alike t u same = rule_alike t.work u.work (work-is-apart t u same).bound

abbrev shape_by : ℕ → Outline → ChordRule → Option BoxedRules → Shape
shape_by pen o way filled = record { edges = edges_at way pen o; contours = contours_of way pen o; filled = filled_at pen filled }

shown_alike : (t u : Fitter) (f : Frame) (g : ℕ × ℕ) (o : Outline) (c r : ℕ) → without_work u ≡ without_work t
    → unfitted_fault u g.0 ≡ unfitted_fault t g.0 → fitted_outline t g.0 ≡ Ok o
    → entry_shows u f g c r ≡ outline_shows t f g c r (Ok o)
shown_alike t u f g o c r same alike made =
    let there : fitted_outline u g.0 ≡ Ok o = outline_alike t u g.0 same alike ∙ made in
    let way = chords_alike t u same in
    let filled = filled_alike t u g.0 o same alike in
    let ink : glyph_ink u g.0 ≡ glyph_ink t g.0 =
    ink_of u g.0 o there
    ∙ ap₂ (λ (w : ChordRule) (x : Option BoxedRules). ink_by (edges_at w 0 o) (contours_of w 0 o) x) way filled
    ∙ sym (ink_of t g.0 o made) in
    let shape : shape_at u (g.0, 0) o ≡ shape_at t (g.0, 0) o = ap₂ (shape_by 0 o) way filled in
    let k = column_at f g.1 c in
    let j = line_at f r in
    ap (λ (x : Result Outline Fault). outline_shows u f g c r x) there
    ∙ ap₂ (λ (p : InkPlace) (s : Shape). lies_in p k j && is_black_at s k j) (ap place_of ink) shape

advance_alike : (how : Fit) (t u : Fitter) (g : ℕ) → without_work u ≡ without_work t
    → unfitted_fault u g ≡ unfitted_fault t g → advance_by how u g ≡ advance_by how t g
unfolding glyph_advance
advance_alike how t u g same alike =
    let apart = work-is-apart t u same in
    let step : glyph_step u g ≡ glyph_step t g =
    ap (λ (x : Result Outline Fault). pixels_of (outline_advance x)) (outline_alike t u g same alike) in
    let linear : units_in_pixels u.metrics u.ppem (fitter_units u g) ≡ units_in_pixels t.metrics t.ppem (fitter_units t g) =
    rw (apart.metrics, apart.ppem, apart.instance, apart.tables) refl in
    ap₂ (λ (x y : ℕ). if lays_after_glyphs how then x else y) step linear

-- a bitmap that is made is that of the glyph's outline

record IsMadeBy (how : Fit) (t : Fitter) (g : ℕ) (m : MadeBitmap) : Type 0 where
  outline : Outline
  fitted : fitted_outline t g ≡ Ok outline
  is : m ≡ record {
    advance = advance_by how t g;
    advance_left = glyph_advance t g;
    place = place_of (glyph_ink t g);
    unfitted = unfitted_fault t g;
  }

made_is : (large : Bool) (b m : MadeBitmap) → (if large then told.Large else told.Made b) ≡ told.Made m → m ≡ b
made_is true b m is = absurd cc
made_is false b m is = let same : b ≡ m = cc in sym same

made_by : (how : Fit) (t : Fitter) (g : ℕ) (m : MadeBitmap) (x : Result Outline Fault) → fitted_outline t g ≡ x
    → glyph_told how t g ≡ told.Made m → IsMadeBy how t g m
made_by how t g m (Ok o) is report =
    let p = place_of (glyph_ink t g) in
    let b : MadeBitmap = record {
      advance = advance_by how t g;
      advance_left = glyph_advance t g;
      place = p;
      unfitted = unfitted_fault t g;
    } in
    record { outline = o; fitted = is; is = made_is (is_large p) b m (sym (told_is how t g o p is refl) ∙ report) }
made_by how t g m (Err fault) is report =
    absurd (let broken : told.Broken fault ≡ told.Made m = sym (told_refused how t g fault is) ∙ report in cc)

known_by : (how : Fit) (t : Fitter) (g : ℕ) (m : MadeBitmap) (b : Bool)
    → (if b then glyph_told how t g else told.Unknown) ≡ told.Made m → glyph_told how t g ≡ told.Made m
known_by how t g m true is = is
known_by how t g m false is = absurd cc

is_made : (how : Fit) (s : Fitter) (gs : List ℕ) (g : ℕ) (m : MadeBitmap) → number_told how s gs g ≡ told.Made m
    → IsMadeBy how (line_fitter s (known s gs) g) g m
is_made how s gs g m report =
    let t = line_fitter s (known s gs) g in
    made_by how t g m (fitted_outline t g) refl (known_by how t g m (nat_lt g (glyphs_of s.metrics)) report)

-- the rows of the number

rows_are : (how : Fit) (s : Fitter) (gs : List ℕ) (g : ℕ) (m : MadeBitmap) (o : Outline) → number_told how s gs g ≡ told.Made m
    → fitted_outline (line_fitter s (known s gs) g) g ≡ Ok o
    → number_rows how s gs g ≡ bitmap (shape_at (line_fitter s (known s gs) g) (g, 0) o) m.place
rows_are how s gs g m o report made =
    let t = line_fitter s (known s gs) g in
    ap (told_rows t g) report ∙ ap (outline_rows t g m.place) made

guarded : (inside a b : Bool) → (inside ≡ true → a ≡ b) → (inside && a) ≡ (inside && b)
guarded true a b same = same refl
guarded false a b same = refl

-- column c of row r of a bitmap among all rows
bit_there : (how : Fit) (s : Fitter) (gs : List ℕ) (g : ℕ) (shape : Shape) (p : InkPlace) (c r : ℕ)
    → number_rows how s gs g ≡ bitmap shape p → is_among g (distinct gs) ≡ true → c < p.width → r < p.height
    → has_bit (all_rows how s gs) (entry_of how s gs g).at p.width c r ≡ bitmap_pixel shape p c r
bit_there how s gs g shape p c r own there column row =
    let at : ℕ = stride p.width * r + c / 8 in
    let row_ends = row_within p r row in
    let inside : at < place_bytes p = omega (arith, row_ends, column) in
    let long : length (number_rows how s gs g) ≡ place_bytes p =
    ap length own ∙ length-rows p.width (bitmap_pixel shape p) 0 (place_bytes p) in
    let within : at < length (number_rows how s gs g) = omega (arith, inside, long) in
    let byte = byte_among (number_rows how s gs) (number_bytes how s gs) (number_length how s gs) (distinct gs) g at there within in
    ap (λ (b : ℕ). bit_at b (7 - c % 8) == 1) (byte ∙ ap (λ (bs : List ℕ). slice_index bs at) own)
    ∙ row_bit p.width (place_bytes p) c r (bitmap_pixel shape p) column inside

le_of : (a b : ℤ) → int_le a b ≡ true → a ≤ℤ b
le_of a b is = grind (arith, ints, is)

lt_of : (a b : ℤ) → int_lt a b ≡ true → a <ℤ b
lt_of a b is = grind (arith, ints, is)

-- a column and a line of the glyph's place among all rows
pixel_there : (how : Fit) (s : Fitter) (gs : List ℕ) (g : ℕ) (shape : Shape) (p : InkPlace) (k j : ℤ)
    → number_rows how s gs g ≡ bitmap shape p → is_among g (distinct gs) ≡ true → lies_in p k j ≡ true
    → is_black_at shape k j
    ≡ has_bit (all_rows how s gs) (entry_of how s gs g).at p.width (unsigned_abs (k -ℤ p.left)) (unsigned_abs ((p.top -ℤ pos 1) -ℤ j))
pixel_there how s gs g shape p k j own there lies =
    let parts = and_parts (int_le p.left k && int_lt k (p.left +ℤ pos p.width)) (int_le (p.top -ℤ pos p.height) j && int_lt j p.top) lies in
    let across = and_parts (int_le p.left k) (int_lt k (p.left +ℤ pos p.width)) parts.0 in
    let up = and_parts (int_le (p.top -ℤ pos p.height) j) (int_lt j p.top) parts.1 in
    let left = le_of p.left k across.0 in
    let right = lt_of k (p.left +ℤ pos p.width) across.1 in
    let bottom = le_of (p.top -ℤ pos p.height) j up.0 in
    let top = lt_of j p.top up.1 in
    let c : ℕ = unsigned_abs (k -ℤ p.left) in
    let r : ℕ = unsigned_abs ((p.top -ℤ pos 1) -ℤ j) in
    let column : c < p.width = omega (arith, ints, left, right) in
    let row : r < p.height = omega (arith, ints, bottom, top) in
    let back : p.left +ℤ pos c ≡ k = omega (arith, ints, left) in
    let down : (p.top -ℤ pos 1) -ℤ pos r ≡ j = omega (arith, ints, top) in
    sym (bit_there how s gs g shape p c r own there column row ∙ ap₂ (λ (x y : ℤ). is_black_at shape x y) back down)

pub rows_are_drawn : RowsAreDrawn
rows_are_drawn how s gs line g m f c r there report alike =
    let n : ℕ = g.0 in
    let t = line_fitter s (known s gs) n in
    let u = line_fitter s line n in
    let same : without_work u ≡ without_work t = maker_alike s line n ∙ sym (maker_alike s (known s gs) n) in
    let of = is_made how s gs n m report in
    let o = of.outline in
    let shape = shape_at t (n, 0) o in
    let own = rows_are how s gs n m o report of.fitted in
    let place : m.place ≡ place_of (glyph_ink t n) = ap (λ (b : MadeBitmap). b.place) of.is in
    let among : is_among n (distinct gs) ≡ true = among_distinct n gs ∙ there in
    let k = column_at f g.1 c in
    let j = line_at f r in
    shown_alike t u f g o c r same (sym alike) of.fitted
    ∙ ap (λ (p : InkPlace). lies_in p k j && is_black_at shape k j) (sym place)
    ∙ guarded (lies_in m.place k j) (is_black_at shape k j)
    (has_bit (all_rows how s gs) (entry_of how s gs n).at m.place.width (unsigned_abs (k -ℤ m.place.left)) (unsigned_abs ((m.place.top -ℤ pos 1) -ℤ j)))
    (λ lies. pixel_there how s gs n shape m.place k j own among lies)

pub advances_are_drawn : AdvancesAreDrawn
advances_are_drawn how s gs line g m report alike =
    let t = line_fitter s (known s gs) g in
    let u = line_fitter s line g in
    let same : without_work u ≡ without_work t = maker_alike s line g ∙ sym (maker_alike s (known s gs) g) in
    let of = is_made how s gs g m report in
    ap (λ (b : MadeBitmap). b.advance) of.is ∙ sym (advance_alike how t u g same (sym alike))

pub advances_are_rounded : AdvancesAreRounded
advances_are_rounded how s gs g m report lays =
    let of = is_made how s gs g m report in
    let t = line_fitter s (known s gs) g in
    let left : m.advance_left ≡ glyph_advance t g = ap (λ (b : MadeBitmap). b.advance_left) of.is in
    let step : advance_by how t g ≡ glyph_step t g = rw lays refl in
    ap (λ (b : MadeBitmap). b.advance) of.is ∙ step ∙ sym (ap pixels_of left)

pub unbounded_are_alike : UnboundedStays → UnboundedAreAlike
unbounded_are_alike stays s gs line g none =
    ap (λ (t : Fitter). unfitted_fault t g) (alone stays s (known s gs) g none ∙ sym (alone stays s line g none))
