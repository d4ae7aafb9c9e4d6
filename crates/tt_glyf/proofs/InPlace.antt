-- The points read in one list, one at a time, are those of the definition.
use Rattle.std.proofs.Common.{◌≡◌, ℕ, zero, suc, ◌+◌, ◌<◌, ◌≤◌, List, [], ◌∷◌, ◌++◌, length, map, drop, take, set, get_or, All, Result, Ok, Err, ℤ, refl, arith, add-one, append-nil, drop-cons, ap, ◌∙◌, sym}
use Rattle.std.proofs.Math.ListN.{replicate}
use Rattle.std.proofs.lemmas.List.{drop_all, drop_more, drop-set-lt, take_all, take_more_set}
use Rattle.std.proofs.lemmas.List.Elements.{All-rest}
use Rattle.tt_core.specs.Chains.{came-through}
use Rattle.tt_core.specs.Faults.{Fault}
use Rattle.tt_core.specs.Outcomes.{◌>>=◌}
use Rattle.tt_glyf.specs.declared.coordinates.DeltaAxis.{DeltaAxis}
use Rattle.tt_glyf.specs.declared.coordinates.DeltaAxis.TheVariants as axis
use Rattle.tt_glyf.specs.declared.raw.RawPoint.{RawPoint}
use Rattle.tt_glyf.specs.Bytes.{GlyphBytes, Listing, after}
use Rattle.tt_glyf.specs.Coordinates.{AxisFlags, Coordinate, coordinate_at, coordinates_from, coordinates_of, origin, x_axis, y_axis}
use Rattle.tt_glyf.specs.Flags.{flags_of}
use Rattle.tt_glyf.specs.Format.{has, on_curve_point}
use Rattle.tt_glyf.specs.Simple.{points_from, points_of}
use Rattle.tt_glyf.specs.InPlace.{all_held, held, held_flag, held_of, HoldsFlag, placed_from, placed_of, put_along, put_x, put_y}
use Rattle.tt_glyf.proofs.Chains.{after-after, came-after}

-- points after their x, or their y, are put in
abbrev with_x : GlyphBytes → List RawPoint → ℕ → Result (Listing RawPoint) Fault
with_x g points at = placed_from g x_axis put_x points (origin at)

abbrev with_y : GlyphBytes → List RawPoint → ℕ → Result (Listing RawPoint) Fault
with_y g points at = placed_from g y_axis put_y points (origin at)

pub turn : (g : GlyphBytes) (a : AxisFlags) (put : RawPoint → ℤ → RawPoint) (before ps : List RawPoint) (i : ℕ)
    (d : RawPoint)
    (last c : Coordinate) → i < length ps → coordinate_at g a (held_flag (get_or ps i d)) last ≡ Ok c
    → after before (placed_from g a put (drop i ps) last) ≡ after (before ++ put (get_or ps i d) c.value ∷ [])
    (placed_from g a put (drop (i + 1) ps) c)
unfolding placed_from
turn g a put before ps i d last c below was = rw (add-one, drop-cons ps i d, was, after-after) refl

pub breaks : (g : GlyphBytes) (a : AxisFlags) (put : RawPoint → ℤ → RawPoint) (before ps : List RawPoint) (i : ℕ)
    (d : RawPoint)
    (last : Coordinate) (f : Fault) → i < length ps → coordinate_at g a (held_flag (get_or ps i d)) last ≡ Err f
    → after before (placed_from g a put (drop i ps) last) ≡ Err f
unfolding placed_from
breaks g a put before ps i d last f below was = rw (drop-cons ps i d, was) refl

pub done : (g : GlyphBytes) (a : AxisFlags) (put : RawPoint → ℤ → RawPoint) (before ps : List RawPoint) (i : ℕ)
    (last : Coordinate) → length ps ≤ i
    → after before (placed_from g a put (drop i ps) last) ≡ Ok (record { items = before; next = last.next })
unfolding placed_from
done g a put before ps i last none = rw (drop_all i ps none, append-nil) refl

-- each point with the coordinate of its index
abbrev put_all : (RawPoint → ℤ → RawPoint) → List RawPoint → List ℤ → List RawPoint
put_all put (p ∷ ps) (v ∷ vs) = put p v ∷ put_all put ps vs
put_all put ps vs = []

abbrev put_listing : (RawPoint → ℤ → RawPoint) → List RawPoint → Listing ℤ → Listing RawPoint
put_listing put ps vs = record { items = put_all put ps vs.items; next = vs.next }

put-after : (put : RawPoint → ℤ → RawPoint) (p : RawPoint) (ps : List RawPoint) (v : ℤ) (r : Result (Listing ℤ) Fault)
    → after (put p v ∷ []) (r >>= λ l. Ok (put_listing put ps l))
    ≡ (after (v ∷ []) r >>= λ l. Ok (put_listing put (p ∷ ps) l))
put-after put p ps v (Ok l) = refl
put-after put p ps v (Err f) = refl

placed-step : (g : GlyphBytes) (a : AxisFlags) (put : RawPoint → ℤ → RawPoint) (p : RawPoint) (ps : List RawPoint)
    (r : Result Coordinate Fault)
    → ((c : Coordinate) → placed_from g a put ps c ≡ (coordinates_from g a (map held_flag ps) c >>= λ l. Ok
    (put_listing put ps l)))
    → (r >>= λ c. after (put p c.value ∷ []) (placed_from g a put ps c))
    ≡ ((r >>= λ c. after (c.value ∷ []) (coordinates_from g a (map held_flag ps) c)) >>= λ l. Ok (put_listing put
    (p ∷ ps) l))
placed-step g a put p ps (Err f) rest = refl
placed-step g a put p ps (Ok c) rest = rw (rest c) (put-after put p ps c.value (coordinates_from g a
    (map held_flag ps) c))

-- the coordinates by the points' flags, put in
pub placed-is : (g : GlyphBytes) (a : AxisFlags) (put : RawPoint → ℤ → RawPoint) (ps : List RawPoint) (before : Coordinate)
    → placed_from g a put ps before ≡ (coordinates_from g a (map held_flag ps) before >>= λ l. Ok
    (put_listing put ps l))
unfolding placed_from coordinates_from
placed-is g a put [] before = refl
placed-is g a put (p ∷ ps) before =
    placed-step g a put p ps (coordinate_at g a (held_flag p) before) (λ c. placed-is g a put ps c)

-- a run of points that hold a flag
held-run : (n flag : ℕ) → map held_flag (replicate n (held flag)) ≡ replicate n flag
held-run zero flag = refl
held-run (suc n) flag = ap (λ (fs : List ℕ). flag ∷ fs) (held-run n flag)

pub flags-more : (ps : List RawPoint) (n flag : ℕ) → map held_flag (ps ++ replicate n (held flag))
    ≡ map held_flag ps ++ replicate n flag
flags-more [] n flag = held-run n flag
flags-more (p ∷ ps) n flag = ap (λ (fs : List ℕ). held_flag p ∷ fs) (flags-more ps n flag)

run-held : (n flag : ℕ) → map held (replicate n flag) ≡ replicate n (held flag)
run-held zero flag = refl
run-held (suc n) flag = ap (λ (ps : List RawPoint). held flag ∷ ps) (run-held n flag)

held-append : (fs : List ℕ) (n flag : ℕ) → map held (fs ++ replicate n flag) ≡ map held fs ++ replicate n (held flag)
held-append [] n flag = run-held n flag
held-append (f ∷ fs) n flag = ap (λ (ps : List RawPoint). held f ∷ ps) (held-append fs n flag)

pub held-more : (ps : List RawPoint) (n flag : ℕ) → map held (map held_flag ps) ≡ ps
    → map held (map held_flag (ps ++ replicate n (held flag))) ≡ ps ++ replicate n (held flag)
held-more ps n flag are = rw (flags-more ps n flag, held-append (map held_flag ps) n flag, are) refl

-- one point put in at its index
pub set-turn : (g : GlyphBytes) (a : AxisFlags) (put : RawPoint → ℤ → RawPoint) (ps : List RawPoint) (i : ℕ) (d : RawPoint)
    (last c : Coordinate) → i < length ps → coordinate_at g a (held_flag (get_or ps i d)) last ≡ Ok c
    → after (take (i + 1) (set ps i (put (get_or ps i d) c.value)))
    (placed_from g a put (drop (i + 1) (set ps i (put (get_or ps i d) c.value))) c)
    ≡ after (take i ps) (placed_from g a put (drop i ps) last)
set-turn g a put ps i d last c below was =
    let v = put (get_or ps i d) c.value in
    let one : i < i + 1 = omega arith in
    rw (take_more_set ps i v below, drop-set-lt (i + 1) ps i v one) (sym (turn g a put
    (take i ps) ps i d last c below was))

pub set-done : (g : GlyphBytes) (a : AxisFlags) (put : RawPoint → ℤ → RawPoint) (ps : List RawPoint) (i : ℕ)
    (last : Coordinate) → length ps ≤ i
    → after (take i ps) (placed_from g a put (drop i ps) last) ≡ Ok (record { items = ps; next = last.next })
set-done g a put ps i last all = done g a put (take i ps) ps i last all ∙ rw (take_all i ps all) refl

-- the others still hold their flags
pub others-hold : (ps : List RawPoint) (i : ℕ) (v : RawPoint) → i < length ps → All HoldsFlag (drop i ps)
    → All HoldsFlag (drop (i + 1) (set ps i v))
others-hold ps i v below all =
    let one : i < i + 1 = omega arith in
    rw (drop-set-lt (i + 1) ps i v one) (All-rest HoldsFlag (get_or ps i (held 0)) (drop (i + 1) ps) (drop i ps)
    (drop_more ps i (held 0) below) all)

-- a point still holds its flag after its x is put in
pub still-holds : (a : DeltaAxis) (p : RawPoint) (v : ℤ) → a ≡ axis.X → HoldsFlag p → HoldsFlag (put_along a p v)
still-holds a p v is holds = rw is holds

-- as many coordinates as flags
coordinates-many : (g : GlyphBytes) (a : AxisFlags) (flags : List ℕ) (before : Coordinate) (read : Listing ℤ)
    → coordinates_from g a flags before ≡ Ok read → length read.items ≡ length flags
unfolding coordinates_from
coordinates-many g a [] before read was =
    let is : read ≡ record { items = []; next = before.next } = cc in
    rw is refl
coordinates-many g a (flag ∷ flags) before read was =
    let through = came-through (coordinate_at g a flag before) (λ c. after (c.value ∷ [])
    (coordinates_from g a flags c)) read was in
    let later = came-after (through.value.value ∷ []) (coordinates_from g a flags through.value) read through.rest in
    let is = later.is in
    rw is (ap suc (coordinates-many g a flags through.value later.read later.was))

held-back : (flags : List ℕ) → map held_flag (map held flags) ≡ flags
held-back [] = refl
held-back (flag ∷ flags) = ap (λ (fs : List ℕ). flag ∷ fs) (held-back flags)

flags-kept : (flags : List ℕ) (xs : List ℤ) → length xs ≡ length flags
    → map held_flag (put_all put_x (map held flags) xs) ≡ flags
flags-kept [] xs many = refl
flags-kept (flag ∷ flags) [] many = absurd (omega arith)
flags-kept (flag ∷ flags) (x ∷ xs) many = ap (λ (fs : List ℕ). flag ∷ fs) (flags-kept flags xs (omega arith))

points-are : (flags : List ℕ) (xs ys : List ℤ) → put_all put_y (put_all put_x (map held flags) xs) ys
    ≡ points_from flags xs ys
points-are [] xs ys = refl
points-are (flag ∷ flags) [] ys = refl
points-are (flag ∷ flags) (x ∷ xs) [] = refl
points-are (flag ∷ flags) (x ∷ xs) (y ∷ ys) =
    ap (λ (ps : List RawPoint). record { x = x; y = y; on = has flag on_curve_point } ∷ ps) (points-are flags xs ys)

y-values : (flags : List ℕ) (xs : List ℤ) (r : Result (Listing ℤ) Fault)
    → ((r >>= λ l. Ok (put_listing put_y (put_all put_x (map held flags) xs) l)) >>= λ ys. Ok ys.items)
    ≡ (r >>= λ ys. Ok (points_from flags xs ys.items))
y-values flags xs (Ok l) = ap Ok (points-are flags xs l.items)
y-values flags xs (Err f) = refl

y-step : (g : GlyphBytes) (flags : List ℕ) (xs : List ℤ) (next : ℕ) → length xs ≡ length flags
    → (with_y g (put_all put_x (map held flags) xs) next >>= λ ys. Ok ys.items)
    ≡ (coordinates_of g y_axis flags next >>= λ ys. Ok (points_from flags xs ys.items))
y-step g flags xs next many =
    rw (placed-is g y_axis put_y (put_all put_x (map held flags) xs) (origin next), flags-kept flags xs many)
    (y-values flags xs (coordinates_of g y_axis flags next))

x-cases : (g : GlyphBytes) (flags : List ℕ) (next : ℕ) (r : Result (Listing ℤ) Fault)
    → coordinates_of g x_axis flags next ≡ r
    → ((r >>= λ l. Ok (put_listing put_x (map held flags) l)) >>= λ xs. with_y g xs.items xs.next >>= λ ys. Ok ys.items)
    ≡ (r >>= λ xs. coordinates_of g y_axis flags xs.next >>= λ ys. Ok (points_from flags xs.items ys.items))
x-cases g flags next (Ok l) was = y-step g flags l.items l.next (coordinates-many g x_axis flags (origin next) l was)
x-cases g flags next (Err f) was = refl

x-step : (g : GlyphBytes) (flags : List ℕ) (next : ℕ)
    → (with_x g (map held flags) next >>= λ xs. with_y g xs.items xs.next >>= λ ys. Ok ys.items)
    ≡ (coordinates_of g x_axis flags next >>= λ xs. coordinates_of g y_axis flags xs.next >>= λ ys. Ok
    (points_from flags xs.items ys.items))
x-step g flags next =
    rw (placed-is g x_axis put_x (map held flags) (origin next), held-back flags)
    (x-cases g flags next (coordinates_of g x_axis flags next) refl)

flags-step : (g : GlyphBytes) (r : Result (Listing ℕ) Fault)
    → ((r >>= λ flags. Ok (all_held flags)) >>= λ begun. with_x g begun.items begun.next >>= λ xs. with_y g xs.items
    xs.next
    >>= λ ys. Ok ys.items)
    ≡ (r >>= λ flags. coordinates_of g x_axis flags.items flags.next >>= λ xs. coordinates_of g y_axis flags.items
    xs.next
    >>= λ ys. Ok (points_from flags.items xs.items ys.items))
flags-step g (Ok flags) = x-step g flags.items flags.next
flags-step g (Err f) = refl

-- the points read in one list are those of the definition
pub placed-are : (g : GlyphBytes) (at points : ℕ) → placed_of g at points ≡ points_of g at points
unfolding placed_of held_of points_of
placed-are g at points = flags-step g (flags_of g at points)
