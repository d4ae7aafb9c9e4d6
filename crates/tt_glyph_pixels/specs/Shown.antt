-- The black pixels of one glyph at pen 0: OpenType, "TrueType Fundamentals", the scan converter's rules 1 and 2, and then
-- the dropouts, where they are filled. A column counts rightwards from the pen, a line upwards from the base line.
use Rattle.std.specs.Prelude.{◌≡◌, refl, Bool, true, false, ◌||◌, ℤ, pos, negsuc, All, List, [], ◌∷◌, map, Option, Some, None}
use Rattle.std.proofs.lemmas.List.Elements.{All-cons, All-nil}
use Rattle.tt_scan.specs.Contours.{IsClosed}
use Rattle.tt_scan_dropouts.specs.Dropouts.{edges_of, is_dropout}
use Rattle.tt_scan_dropouts.specs.declared.boxed.BoxedRules.{BoxedRules}
use Rattle.tt_scan_edges.specs.Winding.{is_black}
use Rattle.tt_scan_edges.specs.declared.edge.Edge.{Edge}
use Rattle.tt_scan_gaps.specs.Crossings.{centre}
use Rattle.tt_scan_gaps.specs.Gaps.{gives_way}

-- contours have a pixel as a dropout, by these rules and in this box; none have where dropouts are not filled
abbrev pub is_filled : Option BoxedRules → List (List Edge) → ℤ → ℤ → Bool
is_filled None contours c j = false
is_filled (Some rules) contours c j = is_dropout rules contours c j

-- the centre of a pixel is black, or the pixel is a dropout
abbrev pub shows : List Edge → List (List Edge) → Option BoxedRules → ℤ → ℤ → Bool
shows es contours filled c j = is_black es (centre c) (centre j) || is_filled filled contours c j

-- edges are those of closed contours, one contour after the other
abbrev pub AreClosed : List Edge → Type 0
AreClosed es = (contours : List (List Edge)) × All IsClosed contours × (edges_of contours ≡ es)

-- worked values: a stem one line high, from 5000 to 6000 / 8192 of a pixel. It passes between the centres of columns 0 and
-- 1, and is nearer to that of column 0
stem : List Edge
stem = record { ax = pos 5000; ay = pos 0; bx = pos 5000; by = pos 8192 }
    ∷ record { ax = pos 5000; ay = pos 8192; bx = pos 6000; by = pos 8192 }
    ∷ record { ax = pos 6000; ay = pos 8192; bx = pos 6000; by = pos 0 }
    ∷ record { ax = pos 6000; ay = pos 0; bx = pos 5000; by = pos 0 } ∷ []

all_rules : BoxedRules
all_rules = record {
  rules = record { stubs = true; smart = true; dots = false };
  extents = record { across = record { low = pos 5000; high = pos 6000 }; up = record { low = pos 0; high = pos 8192 } };
}

without_dropouts_it_is_lost : map (λ c. shows stem (stem ∷ []) None c (pos 0)) (negsuc 0 ∷ pos 0 ∷ pos 1 ∷ []) ≡ false ∷ false ∷ false ∷ []
unfolding stem
without_dropouts_it_is_lost = refl

with_dropouts_its_column_is_black : map (λ c. shows stem (stem ∷ []) (Some all_rules) c (pos 0)) (negsuc 0 ∷ pos 0 ∷ pos 1 ∷ []) ≡ false ∷ true ∷ false ∷ []
unfolding stem all_rules gives_way
with_dropouts_its_column_is_black = refl

in_no_other_line : map (shows stem (stem ∷ []) (Some all_rules) (pos 0)) (negsuc 0 ∷ pos 1 ∷ []) ≡ false ∷ false ∷ []
unfolding stem all_rules gives_way
in_no_other_line = refl

it_is_closed : AreClosed stem
unfolding stem
it_is_closed = (
  stem ∷ [],
  All-cons IsClosed stem [] ((refl, refl), ((refl, refl), ((refl, refl), (refl, refl)))) (All-nil IsClosed),
  refl,
)
