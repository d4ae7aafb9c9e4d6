-- Whether a list has a pixel, when one more is put at the end.
use Rattle.std.proofs.Common.{◌≡◌, refl, sym, ◌∙◌, ℕ, ◌+◌, ◌<◌, Bool, true, false, ◌&&◌, ◌||◌, List, [], ◌∷◌, ◌++◌, length, take, get_or, ap, arith}
use Rattle.std.specs.Prelude.{ℤ}
use Rattle.std.proofs.lemmas.Int.{ints}
use Rattle.std.proofs.lemmas.List.{take_more}
use Rattle.std.specs.Ordering.{int_eq}
use Rattle.tt_scan_dropouts.specs.Passes.{has_pixel}
use Rattle.tt_scan_dropouts.specs.Windows.{has, has_pixel_by}
use Rattle.tt_scan_dropouts.specs.declared.pixel.Pixel.{Pixel}
use Rattle.tt_scan_dropouts.specs.declared.window.Window.{Window}
use Rattle.tt_scan_gaps.specs.declared.seen.Over.{Over}
use Rattle.tt_scan_gaps.specs.declared.seen.Over.TheVariants as over

or_false : (b : Bool) → (b || false) ≡ b
or_false true = refl
or_false false = refl

both_false : (a b x : Bool) → x ≡ false → (a && x) ≡ (b && x)
both_false true true x is = refl
both_false true false x is = is
both_false false true x is = sym is
both_false false false x is = refl

has_more : (ps qs : List Pixel) (c j : ℤ) → has_pixel (ps ++ qs) c j ≡ (has_pixel ps c j || has_pixel qs c j)
has_more [] qs c j = refl
has_more (p ∷ ps) qs c j =
    let rest = has_more ps qs c j in
    grind (arith)

has_more_by : (o : Over) (ps qs : List Pixel) (c j : ℤ)
    → has_pixel_by o (ps ++ qs) c j ≡ (has_pixel_by o ps c j || has_pixel_by o qs c j)
has_more_by over.Rows ps qs c j = has_more ps qs c j
has_more_by over.Columns ps qs c j = has_more ps qs j c

there : (w : Window) (p : Pixel) (c j : ℤ) → (int_eq p.column c && int_eq p.row j) ≡ true
    → has w c j ≡ has w p.column p.row
there w p c j is =
    let column : p.column ≡ c = grind (arith, ints) in
    let row : p.row ≡ j = grind (arith, ints) in
    rw (column, row) refl

only_inside : (w : Window) (p : Pixel) (c j : ℤ) (here : Bool) → (int_eq p.column c && int_eq p.row j) ≡ here
    → (has w p.column p.row && (int_eq p.column c && int_eq p.row j))
    ≡ (has w c j && (int_eq p.column c && int_eq p.row j))
only_inside w p c j true is = rw (there w p c j is) refl
only_inside w p c j false is = both_false (has w p.column p.row) (has w c j) (int_eq p.column c && int_eq p.row j) is

-- a pixel of the window is added
pub within : (w : Window) (ps : List Pixel) (p : Pixel) (c j : ℤ) → has w p.column p.row ≡ true
    → has_pixel (ps ++ p ∷ []) c j ≡ (has_pixel ps c j || (has w c j && (int_eq p.column c && int_eq p.row j)))
within w ps p c j inside =
    let only = only_inside w p c j (int_eq p.column c && int_eq p.row j) refl in
    has_more ps (p ∷ []) c j
    ∙ ap (λ b. has_pixel ps c j || b) (or_false (int_eq p.column c && int_eq p.row j) ∙ rw inside at only)

-- a pixel outside the window is not added
pub outside : (w : Window) (ps : List Pixel) (p : Pixel) (c j : ℤ) → has w p.column p.row ≡ false
    → has_pixel ps c j ≡ (has_pixel ps c j || (has w c j && (int_eq p.column c && int_eq p.row j)))
outside w ps p c j out =
    let only = only_inside w p c j (int_eq p.column c && int_eq p.row j) refl in
    sym (ap (λ b. has_pixel ps c j || b) (sym (rw out at only)) ∙ or_false (has_pixel ps c j))

-- the pixels of a window in a list so far, and one more
so_far : (old found new h by one : Bool) → found ≡ (old || (h && by)) → new ≡ (found || (h && one))
    → new ≡ (old || (h && (by || one)))
so_far true found new h by one is next = rw (next, is) refl
so_far false found new true by one is next = rw (next, is) refl
so_far false found new false by one is next = rw (next, is) refl

pub one_more : (w : Window) (o : Over) (ps : List Pixel) (i : ℕ) (d : Pixel) (old found new : Bool) (c j : ℤ)
    → i < length ps
    → found ≡ (old || (has w c j && has_pixel_by o (take i ps) c j))
    → new ≡ (found || (has w c j && has_pixel_by o (get_or ps i d ∷ []) c j))
    → new ≡ (old || (has w c j && has_pixel_by o (take (i + 1) ps) c j))
one_more w o ps i d old found new c j lt is next =
    so_far old found new (has w c j) (has_pixel_by o (take i ps) c j) (has_pixel_by o (get_or ps i d ∷ []) c j) is next
    ∙ ap (λ b. old || (has w c j && b)) (sym (has_more_by o (take i ps) (get_or ps i d ∷ []) c j)
    ∙ ap (λ qs. has_pixel_by o qs c j) (sym (take_more ps i d lt)))

-- a pixel of a pass over columns, by its column and its row
pub turned_back : (p : Pixel) (c j : ℤ) → (int_eq p.row c && int_eq p.column j) ≡ has_pixel_by over.Columns (p ∷ []) c j
turned_back p c j = grind (arith)
