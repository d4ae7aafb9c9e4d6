-- Worked values of chords and edges: quadratics with ends in 1/128 pixel and the control point in 26.6, and outlines
-- with points in 26.6.
use Rattle.std.specs.Prelude.{◌≡◌, ℕ, Bool, true, false, ℤ, pos, negsuc, List, [], ◌∷◌, length, map, take, get_or, refl}
use Rattle.tt_scan_edges.specs.declared.edge.Edge.{Edge}
use Rattle.tt_arc.specs.declared.quadratic.EdgeEnd.{EdgeEnd}
use Rattle.tt_arc.specs.declared.quadratic.Quadratic.{Quadratic}
use Rattle.tt_arc.specs.declared.rule.ChordRule.TheVariants as rule
use Rattle.tt_arc.specs.Chords.{chords_of_bend, chord_count, chord_end, first_chords, chords_by, edges_of, chord_edges, chord_contours, chords_counted}

-- the number of chords at each threshold and past it
counts_at_the_thresholds : map chords_of_bend (0 ∷ 1 ∷ 2 ∷ 3 ∷ 8 ∷ 9 ∷ 32 ∷ 33 ∷ 128 ∷ 129 ∷ 67108864 ∷ [])
    ≡ 1 ∷ 2 ∷ 2 ∷ 4 ∷ 4 ∷ 8 ∷ 8 ∷ 16 ∷ 16 ∷ 32 ∷ 32 ∷ []
counts_at_the_thresholds = refl

curve : ℤ → ℤ → ℤ → ℤ → ℤ → ℤ → Quadratic
curve ax ay cx cy bx by = record { from = record { x = ax; y = ay }; control = record { x = cx; y = cy; on = false }; to = record { x = bx; y = by } }

end : ℤ → ℤ → EdgeEnd
end x y = record { x = x; y = y }

-- the ends of the chords by bend, of these numbers
ends : Quadratic → List ℕ → List EdgeEnd
ends c ks = map (chord_end (chord_count rule.ByBend c) c) ks

straight_curve : Quadratic
straight_curve = curve (pos 0) (pos 0) (pos 32) (pos 0) (pos 128) (pos 0)

straight_curve_has_1 : chord_count rule.ByBend straight_curve ≡ 1
unfolding straight_curve curve
straight_curve_has_1 = refl

straight_curve_ends : ends straight_curve (0 ∷ 1 ∷ [])
    ≡ end (pos 0) (pos 0) ∷ end (pos 8192) (pos 0) ∷ []
unfolding straight_curve curve ends end
straight_curve_ends = refl

bent_by_four : Quadratic
bent_by_four = curve (pos 0) (pos 0) (pos 33) (pos 0) (pos 128) (pos 0)

bent_by_four_has_4 : chord_count rule.ByBend bent_by_four ≡ 4
unfolding bent_by_four curve
bent_by_four_has_4 = refl

bent_by_four_ends : ends bent_by_four (0 ∷ 1 ∷ 2 ∷ 3 ∷ 4 ∷ [])
    ≡ end (pos 0) (pos 0) ∷ end (pos 2096) (pos 0) ∷ end (pos 4160) (pos 0) ∷ end (pos 6192) (pos 0) ∷ end (pos 8192) (pos 0) ∷ []
unfolding bent_by_four curve ends end
bent_by_four_ends = refl

bent_by_32 : Quadratic
bent_by_32 = curve (pos 0) (pos 0) (pos 40) (pos 1) (pos 128) (pos 0)

bent_by_32_has_8 : chord_count rule.ByBend bent_by_32 ≡ 8
unfolding bent_by_32 curve
bent_by_32_has_8 = refl

bent_by_32_ends : ends bent_by_32 (0 ∷ 1 ∷ 2 ∷ 3 ∷ 4 ∷ 5 ∷ 6 ∷ 7 ∷ 8 ∷ [])
    ≡ end (pos 0) (pos 0) ∷ end (pos 1248) (pos 28) ∷ end (pos 2432) (pos 48) ∷ end (pos 3552) (pos 60) ∷ end (pos 4608) (pos 64) ∷ end (pos 5600) (pos 60) ∷ end (pos 6528) (pos 48) ∷ end (pos 7392) (pos 28) ∷ end (pos 8192) (pos 0) ∷ []
unfolding bent_by_32 curve ends end
bent_by_32_ends = refl

bent_by_80 : Quadratic
bent_by_80 = curve (pos 0) (pos 0) (pos 64) (pos 20) (pos 256) (pos 0)

bent_by_80_has_16 : chord_count rule.ByBend bent_by_80 ≡ 16
unfolding bent_by_80 curve
bent_by_80_has_16 = refl

bent_by_80_ends : ends bent_by_80 (0 ∷ 1 ∷ 2 ∷ 3 ∷ 8 ∷ 15 ∷ 16 ∷ [])
    ≡ end (pos 0) (pos 0) ∷ end (pos 1024) (pos 300) ∷ end (pos 2048) (pos 560) ∷ end (pos 3072) (pos 780) ∷ end (pos 8192) (pos 1280) ∷ end (pos 15360) (pos 300) ∷ end (pos 16384) (pos 0) ∷ []
unfolding bent_by_80 curve ends end
bent_by_80_ends = refl

bent_by_128 : Quadratic
bent_by_128 = curve (pos 0) (pos 0) (pos 64) (pos 64) (pos 256) (pos 128)

bent_by_128_has_16 : chord_count rule.ByBend bent_by_128 ≡ 16
unfolding bent_by_128 curve
bent_by_128_has_16 = refl

bent_by_128_ends : ends bent_by_128 (0 ∷ 1 ∷ 2 ∷ 3 ∷ 8 ∷ 15 ∷ 16 ∷ [])
    ≡ end (pos 0) (pos 0) ∷ end (pos 1024) (pos 992) ∷ end (pos 2048) (pos 1920) ∷ end (pos 3072) (pos 2784) ∷ end (pos 8192) (pos 6144) ∷ end (pos 15360) (pos 8160) ∷ end (pos 16384) (pos 8192) ∷ []
unfolding bent_by_128 curve ends end
bent_by_128_ends = refl

bent_by_800 : Quadratic
bent_by_800 = curve (pos 0) (pos 0) (pos 100) (pos 200) (pos 500) (pos 0)

bent_by_800_has_32 : chord_count rule.ByBend bent_by_800 ≡ 32
unfolding bent_by_800 curve
bent_by_800_has_32 = refl

bent_by_800_ends : ends bent_by_800 (0 ∷ 1 ∷ 2 ∷ 3 ∷ 16 ∷ 31 ∷ 32 ∷ [])
    ≡ end (pos 0) (pos 0) ∷ end (pos 806) (pos 1550) ∷ end (pos 1625) (pos 3000) ∷ end (pos 2456) (pos 4350) ∷ end (pos 14400) (pos 12800) ∷ end (pos 30806) (pos 1550) ∷ end (pos 32000) (pos 0) ∷ []
unfolding bent_by_800 curve ends end
bent_by_800_ends = refl

bent_by_3606 : Quadratic
bent_by_3606 = curve (negsuc 2) (pos 5) (pos 700) (negsuc 899) (pos 2000) (pos 1)

bent_by_3606_has_32 : chord_count rule.ByBend bent_by_3606 ≡ 32
unfolding bent_by_3606 curve
bent_by_3606_has_32 = refl

bent_by_3606_ends : ends bent_by_3606 (0 ∷ 1 ∷ 2 ∷ 3 ∷ 16 ∷ 31 ∷ 32 ∷ [])
    ≡ end (negsuc 191) (pos 320) ∷ end (pos 5370) (negsuc 6674) ∷ end (pos 10831) (negsuc 13217) ∷ end (pos 16192) (negsuc 19311) ∷ end (pos 76752) (negsuc 57503) ∷ end (pos 125550) (negsuc 6914) ∷ end (pos 128000) (pos 64) ∷ []
unfolding bent_by_3606 curve ends end
bent_by_3606_ends = refl

-- halves go up, below 0 too: 32 chords of a curve that bends by 520, at one thirty-second
half_up : Quadratic
half_up = curve (pos 0) (pos 0) (pos 130) (negsuc 129) (pos 0) (pos 0)

a_half_goes_up : ends half_up (1 ∷ []) ≡ end (pos 1008) (negsuc 1006) ∷ []
unfolding half_up curve ends end
a_half_goes_up = refl

-- where the bend needs eight chords, they are the eight exact ones
eight_by_bend : chords_by rule.ByBend bent_by_32 ≡ chords_by rule.Eight bent_by_32
unfolding bent_by_32 curve first_chords
eight_by_bend = refl

-- eight exact chords however far a curve bends
eight_exact : map (chord_end 8 bent_by_800) (0 ∷ 1 ∷ 4 ∷ 8 ∷ []) ≡ end (pos 0) (pos 0) ∷ end (pos 3300) (pos 5600) ∷ end (pos 14400) (pos 12800) ∷ end (pos 32000) (pos 0) ∷ []
unfolding bent_by_800 curve end
eight_exact = refl

point : ℕ → ℕ → Bool → ℤ × ℤ × Bool
point x y on = (pos x, pos y, on)

edge : ℕ → ℕ → ℕ → ℕ → Edge
edge ax ay bx by = record { ax = pos ax; ay = pos ay; bx = pos bx; by = pos by }

square_of_four_edges : chord_edges rule.Eight (point 0 0 true ∷ point 0 2 true ∷ point 2 2 true ∷ point 2 0 true ∷ []) (4 ∷ []) (pos 1)
    (pos 3) ≡ edge 128 384 128 640 ∷ edge 128 640 384 640 ∷ edge 384 640 384 384 ∷ edge 384 384 128 384 ∷ []
unfolding edges_of point edge
square_of_four_edges = refl

a_point_alone_has_no_edge : chord_edges rule.Eight (point 1 1 true ∷ []) (1 ∷ []) (pos 0) (pos 0) ≡ []
unfolding point
a_point_alone_has_no_edge = refl

-- the second contour has no points
contours_do_not_touch : chord_edges rule.Eight (point 0 0 true ∷ point 0 1 true ∷ point 5 5 true ∷ point 5 6 true ∷ []) (2 ∷ 2 ∷ 4 ∷ [])
    (pos 0) (pos 0) ≡ edge 0 0 0 128 ∷ edge 0 128 0 0 ∷ edge 640 640 640 768 ∷ edge 640 768 640 640 ∷ []
unfolding edges_of point edge
contours_do_not_touch = refl

a_contour_of_one_point_is_empty : chord_contours rule.Eight (point 5 5 true ∷ point 0 0 true ∷ point 0 1 true ∷ []) (1 ∷ 3 ∷ [])
    (pos 0) (pos 0) ≡ [] ∷ (edge 0 0 0 128 ∷ edge 0 128 0 0 ∷ []) ∷ []
unfolding edges_of point edge
a_contour_of_one_point_is_empty = refl

-- the edge before the curve, then the curve's first chord
first_chord : take 2 (chord_edges rule.Eight (point 8 8 true ∷ point 0 0 true ∷ point 8 0 false ∷ []) (3 ∷ []) (pos 0) (pos 0))
    ≡ edge 1024 1024 0 0 ∷ edge 0 0 240 16 ∷ []
unfolding edges_of first_chords point edge
first_chord = refl

-- four points off the curve, and the fourth chord of the first one, which ends halfway
four_off : ℕ → ℕ → List (ℤ × ℤ × Bool)
four_off a b = point a a false ∷ point b a false ∷ point b b false ∷ point a b false ∷ []

halfway : List Edge → Edge
halfway edges = get_or edges 3 (edge 0 0 0 0)

halfway_from_0_to_256 : halfway (chord_edges rule.Eight (four_off 0 256) (4 ∷ []) (pos 0) (pos 0)) ≡ edge 2304 6400 4096 4096
unfolding edges_of first_chords point edge four_off halfway
halfway_from_0_to_256 = refl

halfway_from_2_to_254 : halfway (chord_edges rule.Eight (four_off 2 254) (4 ∷ []) (pos 0) (pos 0)) ≡ edge 2524 6556 4288 4288
unfolding edges_of first_chords point edge four_off halfway
halfway_from_2_to_254 = refl

-- a bow of one curve, whose 32 chords and one straight edge become 5 edges
bow : List (ℤ × ℤ × Bool)
bow = point 0 0 true ∷ point 20 60 false ∷ point 100 0 true ∷ []

wide : ℤ → ℤ → ℤ → ℤ → Edge
wide ax ay bx by = record { ax = ax; ay = ay; bx = bx; by = by }

chords_of_the_bow : chords_counted rule.ByBend bow (3 ∷ []) (pos 0) (pos 0) ≡ 33
unfolding bow point edges_of first_chords
chords_of_the_bow = refl

edges_of_the_bow : chord_edges rule.ByBend bow (3 ∷ []) (pos 0) (pos 0)
    ≡ wide (pos 0) (pos 0) (pos 4088) (pos 3825) ∷ wide (pos 4088) (pos 3825) (pos 4480) (pos 3840) ∷ wide (pos 4480) (pos 3840) (pos 12168) (pos 465) ∷ wide (pos 12168) (pos 465) (pos 12800) (pos 0) ∷ wide (pos 12800) (pos 0) (pos 0) (pos 0) ∷ []
unfolding bow point edges_of first_chords wide
edges_of_the_bow = refl

eight_chords_of_the_bow : length (chord_edges rule.Eight bow (3 ∷ []) (pos 0) (pos 0)) ≡ 9
unfolding bow point edges_of first_chords
eight_chords_of_the_bow = refl

-- straight edges are joined too, but not where chords are eight
a_triangle_between_lines : chord_edges rule.ByBend (point 0 0 true ∷ point 5 9 true ∷ point 9 20 true ∷ []) (3 ∷ []) (pos 0) (pos 0)
    ≡ wide (pos 0) (pos 0) (pos 1152) (pos 2560) ∷ wide (pos 1152) (pos 2560) (pos 0) (pos 0) ∷ []
unfolding point edges_of wide
a_triangle_between_lines = refl

eight_joins_none : chord_edges rule.Eight (point 0 0 true ∷ point 5 9 true ∷ point 9 20 true ∷ []) (3 ∷ []) (pos 0) (pos 0)
    ≡ wide (pos 0) (pos 0) (pos 640) (pos 1152) ∷ wide (pos 640) (pos 1152) (pos 1152) (pos 2560) ∷ wide (pos 1152) (pos 2560) (pos 0) (pos 0) ∷ []
unfolding point edges_of wide
eight_joins_none = refl

-- the second contour begins where the first one ends, and their edges there could be joined
contours_stay_apart : chord_contours rule.ByBend (point 5 9 true ∷ point 0 0 true ∷ point 5 9 true ∷ point 9 20 true ∷ []) (2 ∷ 4 ∷ []) (pos 0) (pos 0)
    ≡ (wide (pos 640) (pos 1152) (pos 0) (pos 0) ∷ wide (pos 0) (pos 0) (pos 640) (pos 1152) ∷ []) ∷ (wide (pos 640) (pos 1152) (pos 1152) (pos 2560) ∷ wide (pos 1152) (pos 2560) (pos 640) (pos 1152) ∷ []) ∷ []
unfolding point edges_of wide
contours_stay_apart = refl
