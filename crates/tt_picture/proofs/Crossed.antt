-- The crossings of a line's glyphs, one place more at a time.
use Rattle.std.proofs.Common.{◌≡◌, ◌∙◌, refl, sym, ℕ, ◌+◌, ◌≤◌, min, Option, Some, None, List, [], ◌∷◌, ◌++◌, length, map, drop, Result, Ok, append-nil, arith}
use Rattle.std.specs.Prelude.{pos}
use Rattle.tt_core.specs.Faults.{Fault}
use Rattle.tt_core.specs.Outcomes.{each, after_each}
use Rattle.tt_scan_edges.specs.declared.edge.Edge.{Edge}
use Rattle.tt_scan_dropouts.specs.Counted.{edges_counted}
use Rattle.tt_scan_dropouts.specs.Laws.{moved}
use Rattle.tt_scan_dropouts.specs.declared.boxed.BoxedRules.{BoxedRules}
use Rattle.tt_scan_dropouts.proofs.Counts.{filling_stays}
use Rattle.tt_picture.specs.Pixels.{Shape}
use Rattle.tt_picture.specs.Shapes.{crossings_in, filled_at, filling_crossings}
use Rattle.tt_picture.proofs.Parts.{none_left}

-- edges moved to a pen with their box count as much where dropouts are filled
pub filling_moved : (filled : Option BoxedRules) (pen : ℕ) (es : List Edge)
    → filling_crossings (filled_at pen filled) (map (moved (pos pen) (pos 0)) es) ≡ filling_crossings filled es
filling_moved None pen es = refl
filling_moved (Some rules) pen es = filling_stays (pos pen) (pos 0) rules.extents es

crossings_more : (shapes : List Shape) (s : Shape) → crossings_in (shapes ++ s ∷ [])
    ≡ crossings_in shapes + (edges_counted s.edges + filling_crossings s.filled s.edges)
crossings_more [] s = omega arith
crossings_more (h ∷ hs) s = let rest = crossings_more hs s in omega (arith, rest)

-- a saturated sum, and one shape more
pub one_shape_crosses : (shapes : List Shape) (s : Shape) (all own most : ℕ) → all ≡ min (crossings_in shapes) most
    → own ≡ edges_counted s.edges + filling_crossings s.filled s.edges
    → min (all + own) most ≡ min (crossings_in (shapes ++ s ∷ [])) most
one_shape_crosses shapes s all own most so_far is =
    let more = crossings_more shapes s in omega (arith, so_far, is, more)

-- after the last place the sum is complete
pub all_crossed : (make : ℕ × ℕ → Result Shape Fault) (line : List (ℕ × ℕ)) (i : ℕ) (done shapes : List Shape) (all most : ℕ)
    → length line ≤ i → after_each make (drop i line) done ≡ each make line → each make line ≡ Ok shapes
    → all ≡ min (crossings_in done) most → all ≡ min (crossings_in shapes) most
all_crossed make line i done shapes all most over made is so_far =
    let whole : ◌≡◌ {A = Result (List Shape) Fault} (Ok (done ++ [])) (Ok shapes) = rw (none_left line i over) at made ∙ is in
    let same : done ++ [] ≡ shapes = cc in
    rw (sym same ∙ append-nil done) so_far
