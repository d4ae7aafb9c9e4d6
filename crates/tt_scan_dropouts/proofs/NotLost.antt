-- No dot is lost: its pixel is black.
use Rattle.std.proofs.Common.{◌≡◌, refl, Bool, true, false, not, ◌&&◌, ◌||◌, List, Option, Some, get_or, arith}
use Rattle.std.specs.Prelude.{ℤ}
use Rattle.std.specs.Ordering.{int_eq}
use Rattle.std.proofs.lemmas.Int.{ints}
use Rattle.std.proofs.lemmas.List.Folds.{list_any_at}
use Rattle.tt_scan_edges.specs.declared.edge.Edge.{Edge}
use Rattle.tt_scan_gaps.specs.Dots.{asks, ends_box, has_dot, is_dot, is_dot_box, is_dot_in, middle}
use Rattle.tt_scan_gaps.specs.declared.extent.Extents.{Extents}
use Rattle.tt_scan_dropouts.specs.Dropouts.{is_bridged, is_inked}
use Rattle.tt_scan_dropouts.specs.Laws.{NoDotIsLost}

itself : (a : ℤ) → int_eq a a ≡ true
itself a = grind (arith, ints)

-- a contour that needs no pixel is a dot at the middle of its box
at_middle : (box : Option Extents) (b : Extents) (asking : Bool) → box ≡ Some b → is_dot_box b ≡ true → asking ≡ false
    → is_dot_in box asking (middle b.across) (middle b.up) ≡ true
at_middle box b asking is small silent = rw (is, small, silent, itself (middle b.across), itself (middle b.up)) refl

dot_there : (stubs : Bool) (es : List Edge) (b : Extents) → ends_box es ≡ Some b → is_dot_box b ≡ true → asks stubs es ≡ false
    → is_dot stubs es (middle b.across) (middle b.up) ≡ true
unfolding is_dot
dot_there stubs es b is small silent = at_middle (ends_box es) b (asks stubs es) is small silent

black_there : (ink bridged dots dot : Bool) → dots ≡ true → dot ≡ true → (ink || (bridged || (dots && (not ink && dot)))) ≡ true
black_there true bridged dots dot drawn is = refl
black_there false true dots dot drawn is = refl
black_there false false dots dot drawn is = rw (drawn, is) refl

pub no_dot_is_lost : NoDotIsLost
no_dot_is_lost rules contours k d b dots within box small silent =
    let c : ℤ = middle b.across in
    let j : ℤ = middle b.up in
    let stubs = rules.rules.stubs in
    let one : is_dot stubs (get_or contours k d) c j ≡ true =
    dot_there stubs (get_or contours k d) b box small silent in
    black_there (is_inked contours c j) (is_bridged rules contours c j) rules.rules.dots (has_dot stubs contours c j) dots
    (list_any_at (λ es. is_dot stubs es c j) contours k d within one)
