-- Where the ends of chords are: the laws of chords.
use Rattle.std.proofs.Common.{◌≡◌, ◌∙◌, refl, ap, ap₂, ℕ, suc, ◌+◌, ◌-◌, ◌*◌, ◌<◌, ◌≤◌, max, nat_le, true, false, ℤ, pos, ◌+ℤ◌, ◌-ℤ◌, ◌*ℤ◌, unsigned_abs, arith}
use Rattle.std.specs.Prelude.{◌≤ℤ◌}
use Rattle.std.proofs.lemmas.Int.{ints}
use Rattle.tt_core.specs.Numbers.{nearest_quotient}
use Rattle.tt_core.specs.Products.{mul_mono, mul_assoc_z}
use Rattle.tt_arc.specs.declared.quadratic.Coordinates.{Coordinates}
use Rattle.tt_arc.specs.declared.quadratic.Quadratic.{Quadratic}
use Rattle.tt_arc.specs.declared.rule.ChordRule.{ChordRule}
use Rattle.tt_arc.specs.declared.rule.ChordRule.TheVariants as rule
use Rattle.tt_arc.specs.Chords.{along_x, along_y, bend_of, chord_count, chord_place, chords_of_bend, first_chords, signed_bend, weighed}
use Rattle.tt_arc.specs.ChordLaws.{ChordsJoin, ChordsMove, ChordsNest, ChordsTurned, EightAreExact, EightByBend, EndsAreNear, EndsRise, curve_back, curve_moved}
use Rattle.tt_arc.proofs.Counts.{by_count}
use Rattle.tt_arc.proofs.Places.{end_among, near}
use Rattle.tt_arc.proofs.Weights.{coordinates_back, coordinates_moved, weighed_back, weighed_moved}

-- the first and the last place
abbrev BeginsAt : ℕ → Type 0
BeginsAt n = (b : Coordinates) → chord_place n 0 b ≡ pos 64 *ℤ b.from

begins_1 : BeginsAt 1
begins_1 b = let a = near (pos 64 *ℤ weighed 1 0 b) 1 (omega arith) in omega (arith, ints, a.low, a.high)

begins_2 : BeginsAt 2
begins_2 b = let a = near (pos 64 *ℤ weighed 2 0 b) 4 (omega arith) in omega (arith, ints, a.low, a.high)

begins_4 : BeginsAt 4
begins_4 b = let a = near (pos 64 *ℤ weighed 4 0 b) 16 (omega arith) in omega (arith, ints, a.low, a.high)

begins_8 : BeginsAt 8
begins_8 b = let a = near (pos 64 *ℤ weighed 8 0 b) 64 (omega arith) in omega (arith, ints, a.low, a.high)

begins_16 : BeginsAt 16
begins_16 b = let a = near (pos 64 *ℤ weighed 16 0 b) 256 (omega arith) in omega (arith, ints, a.low, a.high)

begins_32 : BeginsAt 32
begins_32 b = let a = near (pos 64 *ℤ weighed 32 0 b) 1024 (omega arith) in omega (arith, ints, a.low, a.high)

pub first_place : (r : ChordRule) (c : Quadratic) (b : Coordinates) → chord_place (chord_count r c) 0 b ≡ pos 64 *ℤ b.from
first_place r c b = by_count BeginsAt begins_1 begins_2 begins_4 begins_8 begins_16 begins_32 r c b

abbrev EndsAt : ℕ → Type 0
EndsAt n = (b : Coordinates) → chord_place n n b ≡ pos 64 *ℤ b.to

ends_1 : EndsAt 1
ends_1 b = let a = near (pos 64 *ℤ weighed 1 1 b) 1 (omega arith) in omega (arith, ints, a.low, a.high)

ends_2 : EndsAt 2
ends_2 b = let a = near (pos 64 *ℤ weighed 2 2 b) 4 (omega arith) in omega (arith, ints, a.low, a.high)

ends_4 : EndsAt 4
ends_4 b = let a = near (pos 64 *ℤ weighed 4 4 b) 16 (omega arith) in omega (arith, ints, a.low, a.high)

ends_8 : EndsAt 8
ends_8 b = let a = near (pos 64 *ℤ weighed 8 8 b) 64 (omega arith) in omega (arith, ints, a.low, a.high)

ends_16 : EndsAt 16
ends_16 b = let a = near (pos 64 *ℤ weighed 16 16 b) 256 (omega arith) in omega (arith, ints, a.low, a.high)

ends_32 : EndsAt 32
ends_32 b = let a = near (pos 64 *ℤ weighed 32 32 b) 1024 (omega arith) in omega (arith, ints, a.low, a.high)

pub last_place : (r : ChordRule) (c : Quadratic) (b : Coordinates)
    → chord_place (chord_count r c) (chord_count r c) b ≡ pos 64 *ℤ b.to
last_place r c b = by_count EndsAt ends_1 ends_2 ends_4 ends_8 ends_16 ends_32 r c b

pub chords_join : ChordsJoin
chords_join r c = (
  rw (first_place r c (along_x c), first_place r c (along_y c)) refl,
  rw (last_place r c (along_x c), last_place r c (along_y c)) refl,
)

-- moved
abbrev MovesBy : ℕ → Type 0
MovesBy n = (w d : ℤ) → nearest_quotient (pos 64 *ℤ (w +ℤ pos (2 * (n * n)) *ℤ d)) (pos (n * n))
    ≡ nearest_quotient (pos 64 *ℤ w) (pos (n * n)) +ℤ pos 128 *ℤ d

moves_1 : MovesBy 1
moves_1 w d =
    let a = near (pos 64 *ℤ w) 1 (omega arith) in
    let b = near (pos 64 *ℤ (w +ℤ pos 2 *ℤ d)) 1 (omega arith) in
    omega (arith, ints, a.low, a.high, b.low, b.high)

moves_2 : MovesBy 2
moves_2 w d =
    let a = near (pos 64 *ℤ w) 4 (omega arith) in
    let b = near (pos 64 *ℤ (w +ℤ pos 8 *ℤ d)) 4 (omega arith) in
    omega (arith, ints, a.low, a.high, b.low, b.high)

moves_4 : MovesBy 4
moves_4 w d =
    let a = near (pos 64 *ℤ w) 16 (omega arith) in
    let b = near (pos 64 *ℤ (w +ℤ pos 32 *ℤ d)) 16 (omega arith) in
    omega (arith, ints, a.low, a.high, b.low, b.high)

moves_8 : MovesBy 8
moves_8 w d =
    let a = near (pos 64 *ℤ w) 64 (omega arith) in
    let b = near (pos 64 *ℤ (w +ℤ pos 128 *ℤ d)) 64 (omega arith) in
    omega (arith, ints, a.low, a.high, b.low, b.high)

moves_16 : MovesBy 16
moves_16 w d =
    let a = near (pos 64 *ℤ w) 256 (omega arith) in
    let b = near (pos 64 *ℤ (w +ℤ pos 512 *ℤ d)) 256 (omega arith) in
    omega (arith, ints, a.low, a.high, b.low, b.high)

moves_32 : MovesBy 32
moves_32 w d =
    let a = near (pos 64 *ℤ w) 1024 (omega arith) in
    let b = near (pos 64 *ℤ (w +ℤ pos 2048 *ℤ d)) 1024 (omega arith) in
    omega (arith, ints, a.low, a.high, b.low, b.high)

pub place_moved : (r : ChordRule) (c : Quadratic) (k : ℕ) (d : ℤ) (b : Coordinates) → k ≤ chord_count r c
    → chord_place (chord_count r c) k (coordinates_moved d b) ≡ chord_place (chord_count r c) k b +ℤ pos 128 *ℤ d
place_moved r c k d b le =
    let n = chord_count r c in
    ap (λ w. nearest_quotient (pos 64 *ℤ w) (pos (n * n))) (weighed_moved n k d b le)
    ∙ by_count MovesBy moves_1 moves_2 moves_4 moves_8 moves_16 moves_32 r c (weighed n k b) d

pub bend_moved : (d : ℤ) (b : Coordinates) → signed_bend (coordinates_moved d b) ≡ signed_bend b
bend_moved d b = omega (arith, ints)

pub count_moved : (r : ChordRule) (c : Quadratic) (dx dy : ℤ) → chord_count r (curve_moved dx dy c) ≡ chord_count r c
count_moved rule.Eight c dx dy = refl
count_moved rule.ByBend c dx dy =
    ap₂ (λ a b. chords_of_bend (max (unsigned_abs a) (unsigned_abs b))) (bend_moved dx (along_x c)) (bend_moved dy (along_y c))

pub chords_move : ChordsMove
chords_move r c dx dy k le = (
  count_moved r c dx dy,
  rw (place_moved r c k dx (along_x c) le, place_moved r c k dy (along_y c) le) refl,
)

-- among the ends of 32 chords
pub chords_nest : ChordsNest
chords_nest r c k le = end_among r c k le

-- walked back
bend_back : (b : Coordinates) → signed_bend (coordinates_back b) ≡ signed_bend b
bend_back b = omega (arith, ints)

pub count_back : (r : ChordRule) (c : Quadratic) → chord_count r (curve_back c) ≡ chord_count r c
count_back rule.Eight c = refl
count_back rule.ByBend c =
    ap₂ (λ a b. chords_of_bend (max (unsigned_abs a) (unsigned_abs b))) (bend_back (along_x c)) (bend_back (along_y c))

place_back : (n k : ℕ) (b : Coordinates) → k ≤ n → chord_place n k (coordinates_back b) ≡ chord_place n (n - k) b
place_back n k b le = ap (λ w. nearest_quotient (pos 64 *ℤ w) (pos (n * n))) (weighed_back n k b le)

pub chords_turned : ChordsTurned
chords_turned r c k le = (
  count_back r c,
  rw (place_back (chord_count r c) k (along_x c) le, place_back (chord_count r c) k (along_y c) le) refl,
)

-- near
abbrev NearTo : ℕ → Type 0
NearTo n = (w : ℤ) → 2 * unsigned_abs (pos (n * n) *ℤ nearest_quotient (pos 64 *ℤ w) (pos (n * n)) -ℤ pos 64 *ℤ w) ≤ n * n

near_1 : NearTo 1
near_1 w = let a = near (pos 64 *ℤ w) 1 (omega arith) in omega (arith, ints, a.low, a.high)

near_2 : NearTo 2
near_2 w = let a = near (pos 64 *ℤ w) 4 (omega arith) in omega (arith, ints, a.low, a.high)

near_4 : NearTo 4
near_4 w = let a = near (pos 64 *ℤ w) 16 (omega arith) in omega (arith, ints, a.low, a.high)

near_8 : NearTo 8
near_8 w = let a = near (pos 64 *ℤ w) 64 (omega arith) in omega (arith, ints, a.low, a.high)

near_16 : NearTo 16
near_16 w = let a = near (pos 64 *ℤ w) 256 (omega arith) in omega (arith, ints, a.low, a.high)

near_32 : NearTo 32
near_32 w = let a = near (pos 64 *ℤ w) 1024 (omega arith) in omega (arith, ints, a.low, a.high)

pub ends_are_near : EndsAreNear
ends_are_near r c k b le = by_count NearTo near_1 near_2 near_4 near_8 near_16 near_32 r c (weighed (chord_count r c) k b)

-- rising
abbrev RisesBy : ℕ → Type 0
RisesBy n = (w v : ℤ) → w ≤ℤ v → nearest_quotient (pos 64 *ℤ w) (pos (n * n)) ≤ℤ nearest_quotient (pos 64 *ℤ v) (pos (n * n))

rises_1 : RisesBy 1
rises_1 w v less =
    let a = near (pos 64 *ℤ w) 1 (omega arith) in
    let b = near (pos 64 *ℤ v) 1 (omega arith) in
    omega (arith, ints, less, a.low, a.high, b.low, b.high)

rises_2 : RisesBy 2
rises_2 w v less =
    let a = near (pos 64 *ℤ w) 4 (omega arith) in
    let b = near (pos 64 *ℤ v) 4 (omega arith) in
    omega (arith, ints, less, a.low, a.high, b.low, b.high)

rises_4 : RisesBy 4
rises_4 w v less =
    let a = near (pos 64 *ℤ w) 16 (omega arith) in
    let b = near (pos 64 *ℤ v) 16 (omega arith) in
    omega (arith, ints, less, a.low, a.high, b.low, b.high)

rises_8 : RisesBy 8
rises_8 w v less =
    let a = near (pos 64 *ℤ w) 64 (omega arith) in
    let b = near (pos 64 *ℤ v) 64 (omega arith) in
    omega (arith, ints, less, a.low, a.high, b.low, b.high)

rises_16 : RisesBy 16
rises_16 w v less =
    let a = near (pos 64 *ℤ w) 256 (omega arith) in
    let b = near (pos 64 *ℤ v) 256 (omega arith) in
    omega (arith, ints, less, a.low, a.high, b.low, b.high)

rises_32 : RisesBy 32
rises_32 w v less =
    let a = near (pos 64 *ℤ w) 1024 (omega arith) in
    let b = near (pos 64 *ℤ v) 1024 (omega arith) in
    omega (arith, ints, less, a.low, a.high, b.low, b.high)

step_by : (j k : ℕ) (x y z : ℤ) → x ≤ℤ (pos 2 *ℤ y) → (pos 2 *ℤ y) ≤ℤ z
    → ((pos (suc j * suc j) *ℤ x +ℤ pos (4 * k * suc j) *ℤ y) +ℤ pos (k * k) *ℤ z)
    ≤ℤ ((pos (j * j) *ℤ x +ℤ pos (4 * (k + 1) * j) *ℤ y) +ℤ pos ((k + 1) * (k + 1)) *ℤ z)
step_by j k x y z low high =
    let one = mul_mono (pos (2 * j + 1)) x (pos 2 *ℤ y) (omega (arith, ints)) low in
    let two = mul_mono (pos (2 * k + 1)) (pos 2 *ℤ y) z (omega (arith, ints)) high in
    let first = mul_assoc_z (pos (2 * j + 1)) (pos 2) y in
    let second = mul_assoc_z (pos (2 * k + 1)) (pos 2) y in
    omega (arith, ints, one, two, first, second)

weighed_rises : (n k : ℕ) (b : Coordinates) → k < n → b.from ≤ℤ (pos 2 *ℤ b.control) → (pos 2 *ℤ b.control) ≤ℤ b.to
    → weighed n k b ≤ℤ weighed n (k + 1) b
weighed_rises n k b below low high =
    let more : n - k ≡ suc (n - (k + 1)) = omega (arith, below) in
    rw more (step_by (n - (k + 1)) k b.from b.control b.to low high)

pub ends_rise : EndsRise
ends_rise r c k b below low high =
    let n = chord_count r c in
    by_count RisesBy rises_1 rises_2 rises_4 rises_8 rises_16 rises_32 r c (weighed n k b) (weighed n (k + 1) b)
    (weighed_rises n k b below low high)

-- eight exact chords
exact_8 : (w : ℤ) → nearest_quotient (pos 64 *ℤ w) (pos 64) ≡ w
exact_8 w = let a = near (pos 64 *ℤ w) 64 (omega arith) in omega (arith, ints, a.low, a.high)

pub eight_are_exact : EightAreExact
eight_are_exact c k = rw (exact_8 (weighed 8 k (along_x c)), exact_8 (weighed 8 k (along_y c))) refl

no_fewer : (bend m : ℕ) → m < 2 * bend → nat_le (2 * bend) m ≡ false
no_fewer bend m less = grind (arith, less)

eight_suffice : (bend : ℕ) → bend ≤ 32 → nat_le (2 * bend) 64 ≡ true
eight_suffice bend few = grind (arith, few)

eight_of_bend : (bend : ℕ) → 8 < bend → bend ≤ 32 → chords_of_bend bend ≡ 8
eight_of_bend bend more few =
    rw (
      no_fewer bend 1 (omega (arith, more)),
      no_fewer bend 4 (omega (arith, more)),
      no_fewer bend 16 (omega (arith, more)),
      eight_suffice bend few,
    ) refl

pub eight_by_bend : EightByBend
eight_by_bend c more few = ap (λ n. first_chords n c n) (eight_of_bend (bend_of c) more few)
