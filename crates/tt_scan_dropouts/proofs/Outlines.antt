-- The contours of an outline are its edges, cut; turning the edges round turns the contours round.
use Rattle.std.proofs.Common.{◌≡◌, refl, ℕ, ◌-◌, List, [], ◌∷◌, ◌++◌, map, take, drop, length, ap, ap₂, ◌∙◌, sym, get_or}
use Rattle.std.proofs.lemmas.List.{drop-map, length-map, take-map}
use Rattle.std.specs.Prelude.{All}
use Rattle.std.specs.List.{slice_range}
use Rattle.std.proofs.lemmas.List.Elements.{All-map}
use Rattle.std.proofs.lemmas.List.Folds.{drop_split}
use Rattle.tt_scan.specs.Contours.{AreEnds, AreEndsFrom, contours_at, contours_from}
use Rattle.tt_scan_edges.specs.Winding.{EdgeFits}
use Rattle.tt_scan_edges.specs.declared.edge.Edge.{Edge}
use Rattle.tt_scan_gaps.specs.Seen.{turned_round}
use Rattle.tt_scan_dropouts.specs.Dropouts.{edges_of, outline_turned}

drop_whole : (es : List Edge) → drop (length es) es ≡ []
drop_whole [] = refl
drop_whole (e ∷ es) = drop_whole es

edges_from : (from : ℕ) (es : List Edge) (ends : List ℕ) → AreEndsFrom from (length es) ends
    → edges_of (contours_from from es ends) ≡ drop from es
edges_from from es [] h = rw h (sym (drop_whole es))
edges_from from es (end ∷ ends) h =
    ap (λ rest. slice_range es from end ++ rest) (edges_from end es ends h.1) ∙ sym (drop_split es from end h.0)

-- the edges of the contours are all
pub edges_at : (es : List Edge) (ends : List ℕ) → AreEnds (length es) ends → edges_of (contours_at es ends) ≡ es
edges_at es ends h = edges_from 0 es ends h

range_turned : (es : List Edge) (from end : ℕ)
    → slice_range (map turned_round es) from end ≡ map turned_round (slice_range es from end)
range_turned es from end =
    ap (take (end - from)) (drop-map turned_round from es) ∙ take-map turned_round (end - from) (drop from es)

turned_from : (from : ℕ) (es : List Edge) (ends : List ℕ)
    → contours_from from (map turned_round es) ends ≡ outline_turned (contours_from from es ends)
turned_from from es [] = refl
turned_from from es (end ∷ ends) = ap₂ (λ c cs. c ∷ cs) (range_turned es from end) (turned_from end es ends)

-- the contours of the turned edges are the turned contours
pub turned_at : (es : List Edge) (ends : List ℕ)
    → contours_at (map turned_round es) ends ≡ outline_turned (contours_at es ends)
turned_at es ends = turned_from 0 es ends

edge_turned : (e : Edge) → EdgeFits e → EdgeFits (turned_round e)
edge_turned e h = record { ax = h.ay; ay = h.ax; bx = h.by; by = h.bx }

pub fits_turned : (es : List Edge) → All EdgeFits es → All EdgeFits (map turned_round es)
fits_turned es h = All-map EdgeFits turned_round es (λ i d lt. edge_turned (get_or es i d) (h i d lt))

pub ends_turned : (es : List Edge) (ends : List ℕ) → AreEnds (length es) ends
    → AreEnds (length (map turned_round es)) ends
ends_turned es ends h = rw length-map h
