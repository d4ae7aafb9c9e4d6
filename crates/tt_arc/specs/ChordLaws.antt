-- Laws of chords: how many a quadratic has, and where their ends are.
use Rattle.std.specs.Prelude.{◌≡◌, ℕ, ◌+◌, ◌-◌, ◌*◌, ◌/◌, ◌<◌, ◌≤◌, ℤ, pos, ◌+ℤ◌, ◌-ℤ◌, ◌*ℤ◌, ◌≤ℤ◌, unsigned_abs, Contains, [], ◌∷◌}
use Rattle.tt_arc.specs.declared.quadratic.Coordinates.{Coordinates}
use Rattle.tt_arc.specs.declared.quadratic.CurveEnd.{CurveEnd}
use Rattle.tt_arc.specs.declared.quadratic.Quadratic.{Quadratic}
use Rattle.tt_arc.specs.declared.rule.ChordRule.{ChordRule}
use Rattle.tt_arc.specs.declared.rule.ChordRule.TheVariants as rule
use Rattle.tt_arc.specs.Chords.{along_x, along_y, bend_of, chord_count, chord_end, chord_place, chords_by, chords_of_bend, signed_bend, weighed}

-- a number of chords is one of six, and the least of them that suffices; 32 where none does
pub record IsLeastCount (bend n : ℕ) : Type 0 where
  pub one_of : Contains (1 ∷ 2 ∷ 4 ∷ 8 ∷ 16 ∷ 32 ∷ []) n
  pub enough : n < 32 → 2 * bend ≤ n * n
  pub least : 1 < n → n / 2 * (n / 2) < 2 * bend

abbrev pub CountsAreLeast : Type 0
CountsAreLeast = (bend : ℕ) → IsLeastCount bend (chords_of_bend bend)

-- a quadratic moved by dx and dy, which are in 26.6: its ends are in 1/128 pixel
abbrev pub end_moved : ℤ → ℤ → CurveEnd → CurveEnd
end_moved dx dy j = record { x = j.x +ℤ pos 2 *ℤ dx; y = j.y +ℤ pos 2 *ℤ dy }

abbrev pub curve_moved : ℤ → ℤ → Quadratic → Quadratic
curve_moved dx dy c = record {
  from = end_moved dx dy c.from;
  control = record { x = c.control.x +ℤ dx; y = c.control.y +ℤ dy; on = c.control.on };
  to = end_moved dx dy c.to;
}

-- a quadratic moved has as many chords, and each of their ends moves as far, exactly
abbrev pub ChordsMove : Type 0
ChordsMove = (r : ChordRule) (c : Quadratic) (dx dy : ℤ) (k : ℕ) → k ≤ chord_count r c
    → (chord_count r (curve_moved dx dy c) ≡ chord_count r c)
    × (chord_end (chord_count r c) (curve_moved dx dy c) k ≡ record {
      x = (chord_end (chord_count r c) c k).x +ℤ pos 128 *ℤ dx;
      y = (chord_end (chord_count r c) c k).y +ℤ pos 128 *ℤ dy;
    })

-- the first chord begins at the start of the quadratic, and the last ends at the quadratic's end
abbrev pub ChordsJoin : Type 0
ChordsJoin = (r : ChordRule) (c : Quadratic)
    → (chord_end (chord_count r c) c 0 ≡ record { x = pos 64 *ℤ c.from.x; y = pos 64 *ℤ c.from.y })
    × (chord_end (chord_count r c) c (chord_count r c) ≡ record { x = pos 64 *ℤ c.to.x; y = pos 64 *ℤ c.to.y })

-- the ends of any number of chords are among those of 32
abbrev pub ChordsNest : Type 0
ChordsNest = (r : ChordRule) (c : Quadratic) (k : ℕ) → k ≤ chord_count r c
    → chord_end (chord_count r c) c k ≡ chord_end 32 c (32 / chord_count r c * k)

-- a quadratic walked from its end to its start has the same chords
abbrev pub curve_back : Quadratic → Quadratic
curve_back c = record { from = c.to; control = c.control; to = c.from }

abbrev pub ChordsTurned : Type 0
ChordsTurned = (r : ChordRule) (c : Quadratic) (k : ℕ) → k ≤ chord_count r c
    → (chord_count r (curve_back c) ≡ chord_count r c)
    × (chord_end (chord_count r c) (curve_back c) k ≡ chord_end (chord_count r c) c (chord_count r c - k))

-- an end is within 1/16384 pixel of the quadratic's own place, along either axis
abbrev pub EndsAreNear : Type 0
EndsAreNear = (r : ChordRule) (c : Quadratic) (k : ℕ) (b : Coordinates) → k ≤ chord_count r c
    → 2 * unsigned_abs (pos (chord_count r c * chord_count r c) *ℤ chord_place (chord_count r c) k b -ℤ pos 64 *ℤ weighed (chord_count r c) k b)
    ≤ chord_count r c * chord_count r c

-- of n chords, chord k after i of i + j parts is within 1/1024 + 1/16384 pixel of the quadratic's own place there, which
-- is a place of n (i + j) chords
abbrev pub IsNearAlong : ℕ → ℕ → ℕ → ℕ → Coordinates → Type 0
IsNearAlong n k i j b =
    2 * unsigned_abs (pos (n * n * (i + j)) *ℤ (pos j *ℤ chord_place n k b +ℤ pos i *ℤ chord_place n (k + 1) b)
    -ℤ pos 64 *ℤ weighed (n * (i + j)) (k * (i + j) + i) b)
    ≤ 17 * (n * n * ((i + j) * (i + j)))

-- where there are fewer than 32 chords, each place of a chord is as near, along either axis
abbrev pub ChordsAreNear : Type 0
ChordsAreNear = (c : Quadratic) (k i j : ℕ) (b : Coordinates) → unsigned_abs (signed_bend b) ≤ bend_of c
    → chord_count rule.ByBend c < 32 → k < chord_count rule.ByBend c → IsNearAlong (chord_count rule.ByBend c) k i j b

-- where a quadratic never falls along an axis, the ends of its chords do not fall
abbrev pub EndsRise : Type 0
EndsRise = (r : ChordRule) (c : Quadratic) (k : ℕ) (b : Coordinates) → k < chord_count r c
    → b.from ≤ℤ (pos 2 *ℤ b.control) → (pos 2 *ℤ b.control) ≤ℤ b.to
    → chord_place (chord_count r c) k b ≤ℤ chord_place (chord_count r c) (k + 1) b

-- eight chords are exact, and a quadratic whose bend needs eight has the same eight
abbrev pub EightAreExact : Type 0
EightAreExact = (c : Quadratic) (k : ℕ) → chord_end 8 c k ≡ record { x = weighed 8 k (along_x c); y = weighed 8 k (along_y c) }

abbrev pub EightByBend : Type 0
EightByBend = (c : Quadratic) → 8 < bend_of c → bend_of c ≤ 32 → chords_by rule.ByBend c ≡ chords_by rule.Eight c
