-- The rows of a text in their picture.
use Rattle.std.proofs.Common.{◌≡◌, ◌∙◌, refl, ℕ, ◌+◌, ◌-◌, ◌*◌, ◌≤◌, ◌||◌, nat_lt, inl, inr, Err, ℤ, pos, ◌+ℤ◌, List, [], ◌∷◌, length, map, drop, Vec, Global, Option, None, Some, Ok, arith}
use Rattle.std.proofs.lemmas.Bool.{cases_lt, cond-false, cond-true, le-ltb, lt-ltb}
use Rattle.std.proofs.lemmas.List.{length-append, length-map}
use Rattle.std.proofs.lemmas.List.Elements.{All-append, All-cons, All-drop, All-head, All-nil, All-tail, All-take}
use Rattle.std.proofs.lemmas.Simd.{map-map}
use Rattle.std.specs.Prelude.{All}
use Rattle.tt_core.specs.Chains.{came-through, passed-on}
use Rattle.tt_core.specs.declared.fault.JobFault.{JobFault}
use Rattle.tt_core.specs.declared.fault.JobFault.TheVariants as fault
use Rattle.tt_core.specs.Limits.{height_limit, width_limit}
use Rattle.tt_label.specs.Label.{grown_lines, joint}
use Rattle.tt_label.specs.Widths.{LaidRows, laid_in_width, upright}
use Rattle.tt_label.specs.Views.{placements_of}
use Rattle.tt_label.proofs.Drawn.{joint_glyphs}
use Rattle.tt_label.proofs.Joined.{all_flat, glyphs_joined}
use Rattle.tt_label.proofs.UnitGlyphs.{its_units, units_have}
use Rattle.tt_label.proofs.Larger.{all_large, larger_height, larger_width}
use Rattle.tt_label_rows.specs.declared.picture.RowsPicture.{RowsPicture}
use Rattle.tt_label_rows.specs.declared.heights.RowHeights.{RowHeights}
use Rattle.tt_label_rows.specs.Heights.{row_heights}
use Rattle.tt_label_rows.specs.Pictures.{row_placed, rows_placed, skipped_by, start_of, width_picture}
use Rattle.tt_label_rows.specs.Rows.{line_rows, row_glyphs, text_rows}
use Rattle.tt_label_rows.specs.Units.{all_glyphs}
use Rattle.tt_line.specs.declared.align.Align.{Align}
use Rattle.tt_line.specs.declared.label_extent.LabelExtent.{LabelExtent}
use Rattle.tt_line.specs.Labels.{greater, label_limited, line_step_of, rows_of, widest, width_of}
use Rattle.tt_line.specs.Steps.{at_least}
use Rattle.tt_metrics.specs.Metrics.{Metrics}
use Rattle.tt_line.specs.Layout.{Placement, glyphs_at_pens, rise_of}
use Rattle.tt_line.proofs.Pens.{glyphs_by_steps}
use Rattle.tt_line.specs.Outcome.{placement_of}
use Rattle.tt_picture.specs.declared.ink_box.InkBox.{InkBox}
use Rattle.tt_picture.proofs.Among.{of_same_glyphs}
use Rattle.tt_rows.specs.declared.row.LineRow.{LineRow}
use Rattle.tt_rows.specs.declared.unit.RowUnit.{RowUnit}
use Rattle.tt_rows.specs.Rows.{rows, rows_from}
use Rattle.tt_rows.specs.Widths.{part, stepped_row}
use Rattle.tt_strike.specs.declared.laid.Laid.{Laid}

abbrev pub HasSize : ℕ → ℕ → Placement → Type 0
HasSize w h l = (l.width ≡ w) × (l.height ≡ h)

-- each row has the size of the picture
pub rows_sized : (p : RowsPicture) (step : ℕ) (rise : ℤ) (rs : List (List (ℕ × ℕ))) → All (HasSize p.width p.height) (rows_placed p step rise rs)
rows_sized p step rise [] = All-nil (HasSize p.width p.height)
rows_sized p step rise (r ∷ rs) =
    All-cons (HasSize p.width p.height) (row_placed p rise r) (rows_placed p step (rise +ℤ pos step) rs) (refl, refl)
    (rows_sized p step (rise +ℤ pos step) rs)

pub rows_counted : (p : RowsPicture) (step : ℕ) (rise : ℤ) (rs : List (List (ℕ × ℕ))) → length (rows_placed p step rise rs) ≡ length rs
rows_counted p step rise [] = refl
rows_counted p step rise (r ∷ rs) = let rest = rows_counted p step (rise +ℤ pos step) rs in omega (arith, rest)

-- a fact of each glyph of the units is one of each glyph of the rows
stepped_have : (P : ℕ → Type 0) (us : List RowUnit) → All (λ (u : RowUnit). P u.glyph) us → All (λ (g : ℕ × ℕ). P g.0) (stepped_row us)
stepped_have P [] all = All-nil (λ (g : ℕ × ℕ). P g.0)
stepped_have P (u ∷ us) all =
    let Q : RowUnit → Type 0 = λ u. P u.glyph in
    All-cons (λ (g : ℕ × ℕ). P g.0) _ (stepped_row us) (All-head Q u us all) (stepped_have P us (All-tail Q u us all))

row_has : (P : ℕ → Type 0) (us : List RowUnit) (r : LineRow) → All (λ (u : RowUnit). P u.glyph) us → All (λ (g : ℕ × ℕ). P g.0) (row_glyphs us r)
row_has P us r all =
    let Q : RowUnit → Type 0 = λ u. P u.glyph in
    stepped_have P (part us r.from r.until) (All-take Q (r.until - r.from) (drop r.from us) (All-drop Q r.from us all))

rows_have_of : (P : ℕ → Type 0) (us : List RowUnit) (rs : List LineRow) → All (λ (u : RowUnit). P u.glyph) us
    → All (λ (row : List (ℕ × ℕ)). All (λ (g : ℕ × ℕ). P g.0) row) (map (row_glyphs us) rs)
rows_have_of P us [] all = All-nil (λ (row : List (ℕ × ℕ)). All (λ (g : ℕ × ℕ). P g.0) row)
rows_have_of P us (r ∷ rs) all =
    All-cons (λ (row : List (ℕ × ℕ)). All (λ (g : ℕ × ℕ). P g.0) row) (row_glyphs us r) (map (row_glyphs us) rs) (row_has P us r all) (rows_have_of P us rs all)

pub text_rows_have : (P : ℕ → Type 0) (room : ℕ) (ls : List (Vec RowUnit Global)) → All (λ (v : Vec RowUnit Global). All (λ (u : RowUnit). P u.glyph) v.items) ls
    → All (λ (row : List (ℕ × ℕ)). All (λ (g : ℕ × ℕ). P g.0) row) (text_rows room (map (λ (v : Vec RowUnit Global). v.items) ls))
text_rows_have P room [] all = All-nil (λ (row : List (ℕ × ℕ)). All (λ (g : ℕ × ℕ). P g.0) row)
text_rows_have P room (l ∷ ls) all =
    let Q : Vec RowUnit Global → Type 0 = λ v. All (λ (u : RowUnit). P u.glyph) v.items in
    All-append (λ (row : List (ℕ × ℕ)). All (λ (g : ℕ × ℕ). P g.0) row) (line_rows room l.items) (text_rows room (map (λ (v : Vec RowUnit Global). v.items) ls))
    (rows_have_of P l.items (rows l.items room) (All-head Q l ls all)) (text_rows_have P room ls (All-tail Q l ls all))

-- and one of each glyph of the rows that are laid out
row_placed_has : (P : ℕ → Type 0) (p : RowsPicture) (rise : ℤ) (row : List (ℕ × ℕ)) → All (λ (g : ℕ × ℕ). P g.0) row
    → All (λ (g : ℕ × ℕ). P g.0) (row_placed p rise row).glyphs
row_placed_has P p rise row all =
    let first : ℕ × ℕ → ℕ = λ g. g.0 in
    of_same_glyphs P row (row_placed p rise row).glyphs
    (map-map first (λ (g : ℕ × ℕ). (g.0, g.1 + start_of p (width_of row))) (glyphs_at_pens (map (λ g. g.0) row) (map (λ g. g.1) row))
    ∙ glyphs_by_steps (map (λ g. g.0) row) (map (λ g. g.1) row)) all

pub placed_have : (P : ℕ → Type 0) (p : RowsPicture) (step : ℕ) (rise : ℤ) (rs : List (List (ℕ × ℕ)))
    → All (λ (row : List (ℕ × ℕ)). All (λ (g : ℕ × ℕ). P g.0) row) rs
    → All (λ (l : Placement). All (λ (g : ℕ × ℕ). P g.0) l.glyphs) (rows_placed p step rise rs)
placed_have P p step rise [] all = All-nil (λ (l : Placement). All (λ (g : ℕ × ℕ). P g.0) l.glyphs)
placed_have P p step rise (r ∷ rs) all =
    let Q : List (ℕ × ℕ) → Type 0 = λ row. All (λ (g : ℕ × ℕ). P g.0) row in
    All-cons (λ (l : Placement). All (λ (g : ℕ × ℕ). P g.0) l.glyphs) (row_placed p rise r) (rows_placed p step (rise +ℤ pos step) rs)
    (row_placed_has P p rise r (All-head Q r rs all)) (placed_have P p step (rise +ℤ pos step) rs (All-tail Q r rs all))

-- facts of placements are facts of the lines
pub of_placements : (P : Placement → Type 0) (ls : List Laid) → All P (placements_of ls) → All (λ (l : Laid). P (placement_of l.line)) ls
of_placements P [] all = All-nil (λ (l : Laid). P (placement_of l.line))
of_placements P (l ∷ ls) all =
    All-cons (λ (l : Laid). P (placement_of l.line)) l ls (All-head P (placement_of l.line) (placements_of ls) all)
    (of_placements P ls (All-tail P (placement_of l.line) (placements_of ls) all))

-- a line has a row
some_row : (us : List RowUnit) (room : ℕ) → 1 ≤ length (rows us room)
unfolding rows rows_from
some_row [] room = omega arith
some_row (u ∷ us) room = rw (lt-ltb 0 (length (u ∷ us)) (omega arith)) (omega arith)

pub some_rows : (room : ℕ) (lines : List (List RowUnit)) → 1 ≤ length lines → 1 ≤ length (text_rows room lines)
some_rows room [] some = absurd (omega (arith, some))
some_rows room (us ∷ lines) some =
    let one = some_row us room in
    let many = length-map (rows us room) (row_glyphs us) in
    let all = length-append (line_rows room us) (text_rows room lines) in
    omega (arith, one, many, all)

-- no column is added
upright_width : (w h : ℕ) (ink : Option InkBox) → 1 ≤ w → larger_width w h (upright ink) ≡ w
upright_width w h None some = refl
upright_width w h (Some b) some = omega (arith, some)

pub higher_alone : (w h : ℕ) (ink : Option InkBox) (ls ms : List Placement) → 1 ≤ w → All (HasSize w h) ls → grown_lines ls (upright ink) ≡ Ok ms
    → All (HasSize w (larger_height w h (upright ink))) ms
higher_alone w h ink ls ms some sizes is = rw (upright_width w h ink some) at (all_large w h (upright ink) ls ms sizes is)

-- a picture of a width has room for its columns and those that are skipped
no_less : (a b : ℕ) → a ≤ greater a b
no_less a b = elim (cases_lt a b) [
  | inl below ↦ (let is : greater a b ≡ b = cond-true _ _ _ (lt-ltb a b below) in omega (arith, is, below))
  | inr over ↦ (let is : greater a b ≡ a = cond-false _ _ _ (le-ltb a b over) in omega (arith, is))
]

limited_as : (e f : LabelExtent) → label_limited e ≡ Ok f → e ≡ f
unfolding label_limited
limited_as e f is =
    let same = (passed-on (nat_lt width_limit e.width || nat_lt height_limit e.height) fault.PictureLarge (Ok e) f is).1 in cc

pub wide_picture : (h : RowHeights) (more widest n margin : ℕ) (how : Align) (p : RowsPicture) → width_picture h more widest n margin how ≡ Ok p
    → p.skipped + n ≤ p.width
unfolding width_picture
wide_picture h more widest n margin how p is =
    let skipped = skipped_by how (n - 2 * margin) widest in
    let ext : LabelExtent = record { width = skipped + greater n widest; height = at_least 1 (rows_of (more * h.step + 2 * margin) h.rise h.depth) } in
    let through = came-through (label_limited ext)
    (λ e. Ok (record { width = e.width; height = e.height; align = how; room = n - 2 * margin; skipped = skipped })) p is in
    let same : ext ≡ through.value = limited_as ext through.value through.first in
    let last = through.rest in
    let whole : record { width = through.value.width; height = through.value.height; align = how; room = n - 2 * margin; skipped = skipped } ≡ p = cc in
    let least = no_less n widest in
    rw (← whole, ← same) (omega (arith, least))

-- the rows are laid out in this picture
pub laid_rows : (m : Metrics) (ppem margin : ℕ) (how : Align) (n : ℕ) (rs : List (List (ℕ × ℕ))) (p : RowsPicture) (h : RowHeights)
    → h ≡ row_heights m ppem → width_picture h (length rs - 1) (widest rs) n margin how ≡ Ok p
    → laid_in_width m ppem margin how n rs ≡ Ok (record { picture = p; lines = rows_placed p h.step h.rise rs })
laid_rows m ppem margin how n rs p h is made = let there = rw is at made in rw (there, is) refl

pub laid_rows_fail : (m : Metrics) (ppem margin : ℕ) (how : Align) (n : ℕ) (rs : List (List (ℕ × ℕ))) (j : JobFault) (h : RowHeights)
    → h ≡ row_heights m ppem → width_picture h (length rs - 1) (widest rs) n margin how ≡ Err j
    → laid_in_width m ppem margin how n rs ≡ Err j
laid_rows_fail m ppem margin how n rs j h is made = let there = rw is at made in rw there refl

-- rows that are laid out are those of the definition
pub laid_as : (m : Metrics) (ppem margin : ℕ) (how : Align) (n : ℕ) (rs : List (List (ℕ × ℕ))) (l : LaidRows) → laid_in_width m ppem margin how n rs ≡ Ok l
    → l.lines ≡ rows_placed l.picture (line_step_of m ppem) (rise_of m ppem) rs
laid_as m ppem margin how n rs l is =
    let through = came-through (width_picture (row_heights m ppem) (length rs - 1) (widest rs) n margin how)
    (λ p. Ok (record { picture = p; lines = rows_placed p (line_step_of m ppem) (rise_of m ppem) rs })) l is in
    let last = through.rest in
    let whole : record { picture = through.value; lines = rows_placed through.value (line_step_of m ppem) (rise_of m ppem) rs } ≡ l = cc in
    rw (← whole) refl

-- the width of the joint line
pub first_width : (w h : ℕ) (ls : List Placement) → 1 ≤ length ls → All (HasSize w h) ls → (joint ls).width ≡ w
first_width w h [] some all = absurd (omega (arith, some))
first_width w h (l ∷ ls) some all = (All-head (HasSize w h) l ls all).0

-- a fact of the glyphs of each line is one of all
pub joint_have : (P : ℕ × ℕ → Type 0) (ls : List Laid) → All (λ (l : Laid). All P l.line.glyphs.items) ls → All P (joint (placements_of ls)).glyphs
joint_have P ls all = rw (joint_glyphs (placements_of ls), glyphs_joined ls) (all_flat P (λ (l : Laid). l.line.glyphs.items) ls all)

-- facts of the glyphs of the text hold for the rows that are laid out
pub rows_have : (P : ℕ → Type 0) (m : Metrics) (ppem margin : ℕ) (how : Align) (n room : ℕ) (us : List (Vec RowUnit Global)) (l : LaidRows) (ls : List Laid)
    → placements_of ls ≡ l.lines → laid_in_width m ppem margin how n (text_rows room (its_units us)) ≡ Ok l
    → All P (all_glyphs (its_units us)) → All (λ (l : Laid). All (λ (g : ℕ × ℕ). P g.0) l.line.glyphs.items) ls
rows_have P m ppem margin how n room us l ls same is all =
    let rs = text_rows room (its_units us) in
    of_placements (λ (l : Placement). All (λ (g : ℕ × ℕ). P g.0) l.glyphs) ls
    (rw (same, laid_as m ppem margin how n rs l is)
    (placed_have P l.picture (line_step_of m ppem) (rise_of m ppem) rs (text_rows_have P room us (units_have P us all))))
