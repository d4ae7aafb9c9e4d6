-- The crossings of a moved edge: moved by as many lines and gaps as the edge by whole pixels.
use Rattle.std.proofs.Common.{◌≡◌, refl, sym, ◌∙◌, ap, ℕ, ◌+◌, ◌==◌, Bool, true, false, ◌&&◌, if◌then◌else◌, List, [], ◌∷◌, arith}
use Rattle.std.specs.Prelude.{ℤ, pos, negsuc, ◌+ℤ◌, ◌-ℤ◌, ◌*ℤ◌, ◌≤ℤ◌, ◌<ℤ◌, int_lt, unsigned_abs, map}
use Rattle.std.specs.Int.{int_div_euclid, int_rem_euclid}
use Rattle.std.specs.List.{range_with_len}
use Rattle.std.proofs.lemmas.Int.{ints}
use Rattle.tt_scan_edges.specs.declared.edge.Edge.{Edge}
use Rattle.tt_scan_gaps.specs.Crossings.{centre, crossing, crossing_at, crossings, edge_x, gap_at, is_rising, line_crossed, line_from, lines_crossed, place_at, touches, upward}
use Rattle.tt_scan_dropouts.specs.Laws.{moved}
use Rattle.tt_scan_gaps.specs.declared.mark.Crossing.{Crossing}
use Rattle.tt_scan_gaps.proofs.Lines.{floor_high, floor_low}

-- floors

only_floor : (n a b : ℤ) → (pos 8192 *ℤ a) ≤ℤ n → n <ℤ (pos 8192 *ℤ a +ℤ pos 8192) → (pos 8192 *ℤ b) ≤ℤ n
    → n <ℤ (pos 8192 *ℤ b +ℤ pos 8192) → a ≡ b
only_floor n a b low high from to = omega (arith, ints)

floor_at : (n q : ℤ) → (pos 8192 *ℤ q) ≤ℤ n → n <ℤ (pos 8192 *ℤ q +ℤ pos 8192) → int_div_euclid n (pos 8192) ≡ q
floor_at n q low high = only_floor n (int_div_euclid n (pos 8192)) q (floor_low n) (floor_high n) low high

low_moved : (n q k : ℤ) → (pos 8192 *ℤ q) ≤ℤ n → (pos 8192 *ℤ (q +ℤ k)) ≤ℤ (n +ℤ pos 8192 *ℤ k)
low_moved n q k low = omega (arith, ints)

high_moved : (n q k : ℤ) → n <ℤ (pos 8192 *ℤ q +ℤ pos 8192)
    → (n +ℤ pos 8192 *ℤ k) <ℤ (pos 8192 *ℤ (q +ℤ k) +ℤ pos 8192)
high_moved n q k high = omega (arith, ints)

floor_moved : (n k : ℤ) → int_div_euclid (n +ℤ pos 8192 *ℤ k) (pos 8192) ≡ int_div_euclid n (pos 8192) +ℤ k
floor_moved n k = floor_at (n +ℤ pos 8192 *ℤ k) (int_div_euclid n (pos 8192) +ℤ k)
    (low_moved n (int_div_euclid n (pos 8192)) k (floor_low n))
    (high_moved n (int_div_euclid n (pos 8192)) k (floor_high n))

rest_is : (n : ℤ) → int_rem_euclid n (pos 8192) ≡ n -ℤ pos 8192 *ℤ int_div_euclid n (pos 8192)
rest_is (pos a) = omega (arith, ints)
rest_is (negsuc a) = omega (arith, ints)

less_its_floor : (n q k : ℤ) → (n +ℤ pos 8192 *ℤ k) -ℤ pos 8192 *ℤ (q +ℤ k) ≡ n -ℤ pos 8192 *ℤ q
less_its_floor n q k = omega (arith, ints)

rest_moved : (n k : ℤ) → int_rem_euclid (n +ℤ pos 8192 *ℤ k) (pos 8192) ≡ int_rem_euclid n (pos 8192)
rest_moved n k = rest_is (n +ℤ pos 8192 *ℤ k)
    ∙ ap (λ q. (n +ℤ pos 8192 *ℤ k) -ℤ pos 8192 *ℤ q) (floor_moved n k)
    ∙ less_its_floor n (int_div_euclid n (pos 8192)) k ∙ sym (rest_is n)

-- lines, gaps and places

swapped : (x d a : ℤ) → (x +ℤ d) +ℤ a ≡ (x +ℤ a) +ℤ d
swapped x d a = omega (arith, ints)

swapped_off : (x d a : ℤ) → (x +ℤ d) -ℤ a ≡ (x -ℤ a) +ℤ d
swapped_off x d a = omega (arith, ints)

pub line_from_moved : (y m : ℤ) → line_from (y +ℤ pos 8192 *ℤ m) ≡ line_from y +ℤ m
line_from_moved y m = ap (λ n. int_div_euclid n (pos 8192)) (swapped y (pos 8192 *ℤ m) (pos 4095))
    ∙ floor_moved (y +ℤ pos 4095) m

pub gap_moved : (x k : ℤ) → gap_at (x +ℤ pos 8192 *ℤ k) ≡ gap_at x +ℤ k
gap_moved x k = ap (λ n. int_div_euclid n (pos 8192)) (swapped_off x (pos 8192 *ℤ k) (pos 4096))
    ∙ floor_moved (x -ℤ pos 4096) k

rest_kept : (x k : ℤ)
    → int_rem_euclid ((x +ℤ pos 8192 *ℤ k) -ℤ pos 4096) (pos 8192) ≡ int_rem_euclid (x -ℤ pos 4096) (pos 8192)
rest_kept x k = ap (λ n. int_rem_euclid n (pos 8192)) (swapped_off x (pos 8192 *ℤ k) (pos 4096))
    ∙ rest_moved (x -ℤ pos 4096) k

place_kept : (x k : ℤ) → place_at (x +ℤ pos 8192 *ℤ k) ≡ place_at x
place_kept x k = ap unsigned_abs (rest_kept x k)

pub centre_moved : (j m : ℤ) → centre (j +ℤ m) ≡ centre j +ℤ pos 8192 *ℤ m
centre_moved j m = omega (arith, ints)

-- crossings

abbrev pub crossing_moved : ℤ → ℤ → Crossing → Crossing
crossing_moved k m c = record { line = c.line +ℤ m; gap = c.gap +ℤ k; place = c.place; up = c.up }

pub apart_moved : (a b d : ℤ) → (a +ℤ d) -ℤ (b +ℤ d) ≡ a -ℤ b
apart_moved a b d = omega (arith, ints)

pub less_moved : (a b d : ℤ) → int_lt (a +ℤ d) (b +ℤ d) ≡ int_lt a b
less_moved a b d = grind (arith, ints)

rising_kept : (k m : ℤ) (e : Edge) → is_rising (moved k m e) ≡ is_rising e
rising_kept k m e = less_moved e.ay e.by (pos 8192 *ℤ m)

upward_by : (k m : ℤ) (e : Edge) (falls : Bool) → int_lt e.by e.ay ≡ falls → upward (moved k m e) ≡ moved k m (upward e)
upward_by k m e true is = rw (less_moved e.by e.ay (pos 8192 *ℤ m), is) refl
upward_by k m e false is = rw (less_moved e.by e.ay (pos 8192 *ℤ m), is) refl

upward_moved : (k m : ℤ) (e : Edge) → upward (moved k m e) ≡ moved k m (upward e)
upward_moved k m e = upward_by k m e (int_lt e.by e.ay) refl

lines_kept : (k m : ℤ) (e : Edge) → lines_crossed (moved k m e) ≡ lines_crossed e
lines_kept k m e =
    rw (line_from_moved e.by m, line_from_moved e.ay m)
    (ap unsigned_abs (apart_moved (line_from e.by) (line_from e.ay) m))

line_by : (up : Bool) (a m : ℤ) (n : ℕ) → (if up then (a +ℤ m) +ℤ pos n else (a +ℤ m) -ℤ pos (n + 1))
    ≡ (if up then a +ℤ pos n else a -ℤ pos (n + 1)) +ℤ m
line_by true a m n = swapped a m (pos n)
line_by false a m n = swapped_off a m (pos (n + 1))

line_moved : (k m : ℤ) (e : Edge) (n : ℕ) → line_crossed (moved k m e) n ≡ line_crossed e n +ℤ m
line_moved k m e n = rw (rising_kept k m e, line_from_moved e.ay m) (line_by (is_rising e) (line_from e.ay) m n)

x_of : (k m : ℤ) (u : Edge) (y : ℤ) → (u.ax +ℤ pos 8192 *ℤ k)
    +ℤ int_div_euclid
    (((u.bx +ℤ pos 8192 *ℤ k) -ℤ (u.ax +ℤ pos 8192 *ℤ k)) *ℤ ((y +ℤ pos 8192 *ℤ m) -ℤ (u.ay +ℤ pos 8192 *ℤ m)))
    ((u.by +ℤ pos 8192 *ℤ m) -ℤ (u.ay +ℤ pos 8192 *ℤ m))
    ≡ (u.ax +ℤ int_div_euclid ((u.bx -ℤ u.ax) *ℤ (y -ℤ u.ay)) (u.by -ℤ u.ay)) +ℤ pos 8192 *ℤ k
x_of k m u y =
    rw (
      apart_moved u.bx u.ax (pos 8192 *ℤ k),
      apart_moved y u.ay (pos 8192 *ℤ m),
      apart_moved u.by u.ay (pos 8192 *ℤ m),
    ) (swapped u.ax (pos 8192 *ℤ k) (int_div_euclid ((u.bx -ℤ u.ax) *ℤ (y -ℤ u.ay)) (u.by -ℤ u.ay)))

x_moved : (k m : ℤ) (e : Edge) (y : ℤ) → edge_x (moved k m e) (y +ℤ pos 8192 *ℤ m) ≡ edge_x e y +ℤ pos 8192 *ℤ k
x_moved k m e y = rw (upward_moved k m e) (x_of k m (upward e) y)

at_moved : (k m : ℤ) (up : Bool) (j x : ℤ)
    → crossing_at up (j +ℤ m) (x +ℤ pos 8192 *ℤ k) ≡ crossing_moved k m (crossing_at up j x)
at_moved k m up j x = rw (gap_moved x k, place_kept x k) refl

crossed_moved : (k m : ℤ) (e : Edge) (j : ℤ) → crossing (moved k m e) (j +ℤ m) ≡ crossing_moved k m (crossing e j)
crossed_moved k m e j =
    rw (rising_kept k m e, centre_moved j m, x_moved k m e (centre j))
    (at_moved k m (is_rising e) j (edge_x e (centre j)))

pub map_by : {A B C : Type 0} (f : A → C) (g : B → C) (h : A → B) (xs : List A) → ((x : A) → f x ≡ g (h x))
    → map f xs ≡ map g (map h xs)
map_by f g h [] same = refl
map_by f g h (x ∷ xs) same = rw (same x, map_by f g h xs same) refl

pub crossings_moved : (k m : ℤ) (e : Edge) → crossings (moved k m e) ≡ map (crossing_moved k m) (crossings e)
crossings_moved k m e =
    ap (λ n. map (λ i. crossing (moved k m e) (line_crossed (moved k m e) i)) (range_with_len 0 n)) (lines_kept k m e)
    ∙ map_by (λ i. crossing (moved k m e) (line_crossed (moved k m e) i)) (crossing_moved k m)
    (λ i. crossing e (line_crossed e i))
    (range_with_len 0 (lines_crossed e))
    (λ i. ap (λ j. crossing (moved k m e) j) (line_moved k m e i) ∙ crossed_moved k m e (line_crossed e i))

touch_by : (k m : ℤ) (up touches : Bool) (u : Edge) →
    (if touches then crossing_at up (gap_at u.by +ℤ m) (u.bx +ℤ pos 8192 *ℤ k) ∷ [] else [])
    ≡ map (crossing_moved k m) (if touches then crossing_at up (gap_at u.by) u.bx ∷ [] else [])
touch_by k m up true u = ap (λ c. c ∷ []) (at_moved k m up (gap_at u.by) u.bx)
touch_by k m up false u = refl

pub touches_moved : (k m : ℤ) (e : Edge) → touches (moved k m e) ≡ map (crossing_moved k m) (touches e)
touches_moved k m e =
    rw (
      upward_moved k m e,
      rising_kept k m e,
      less_moved (upward e).ay (upward e).by (pos 8192 *ℤ m),
      rest_kept (upward e).by m,
      gap_moved (upward e).by m,
    ) (touch_by k m (is_rising e) (int_lt (upward e).ay (upward e).by
    && (unsigned_abs (int_rem_euclid ((upward e).by -ℤ pos 4096) (pos 8192)) == 0)) (upward e))
