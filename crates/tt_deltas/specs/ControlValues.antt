-- OpenType, "cvar": control values at an instance. A tuple without a peak of its own has that of one of gvar's shared
-- tuples. A table with a defect in what is read, or of another version, is taken
-- as missing (profile).
use Rattle.std.specs.Prelude.{◌≡◌, ℕ, ℤ, pos, negsuc, Bool, ◌&&◌, ◌==◌, nat_le, if◌then◌else◌, List, [], ◌∷◌, length, map, Result, Ok, Err, refl}
use Rattle.std.specs.Int.{int_max, int_min}
use Rattle.tt_core.specs.Numbers.{unsigned_at}
use Rattle.tt_core.specs.Outcomes.{◌>>=◌}
use Rattle.tt_core.specs.Faults.{Fault}
use Rattle.tt_tuples.specs.declared.source.TupleTable.TheVariants as table
use Rattle.tt_tuples.specs.Sources.{Source, Tuple}
use Rattle.tt_tuples.specs.Tuples.{tuples_of}
use Rattle.tt_deltas.specs.Along.{varied_along}
use Rattle.tt_deltas.specs.Glyphs.{numbers_of}
use Rattle.tt_deltas.specs.Gvar.{Gvar, shared_bytes_of}
use Rattle.tt_deltas.specs.Units.{moved_sixty_fourths}
use Rattle.tt_deltas.specs.declared.varied.Varied.{Varied}

-- a header of eight bytes, of version 1.0
abbrev pub is_cvar : List ℕ → Bool
is_cvar table = nat_le 8 (length table) && (unsigned_at table 0 4 == 0x00010000)

-- a value that has not moved
abbrev pub still_at : ℤ → Varied
still_at v = record { at = v; delta = pos 0 }

-- the values after tuples: control values have no contours, and nothing is inferred
abbrev pub after_tuples : List Varied → List Tuple → List Varied
after_tuples vs [] = vs
after_tuples vs (t ∷ ts) = after_tuples (varied_along t.share (numbers_of t.points) t.xs [] vs) ts

unfoldable pub values_by_all : List Varied → Result (List Tuple) Fault → Result (List Varied) Fault
values_by_all vs tuples = tuples >>= λ ts. Ok (after_tuples vs ts)

-- the source of the tuples
abbrev pub source_for : Gvar → List ℕ → List ℤ → ℕ → Source
source_for g cvar coordinates values =
    record {
      store = record { table = table.Cvar; start = 0; bytes = cvar };
      shared = shared_bytes_of g;
      coordinates = coordinates;
      points = values;
    }

-- without a cvar that is whole the values stay
abbrev pub or_still : List Varied → Result (List Varied) Fault → List Varied
or_still vs (Ok varied) = varied
or_still vs (Err e) = vs

-- the control values with their deltas
unfoldable pub varied_values : Gvar → List ℕ → List ℤ → List ℤ → List Varied
varied_values g cvar coordinates values =
    if is_cvar cvar
    then or_still (map still_at values)
    (values_by_all (map still_at values) (tuples_of (source_for g cvar coordinates (length values))))
    else map still_at values

-- a control value in 1/64 of a font unit, kept within 64 times an int16 (profile)
abbrev pub kept : ℤ → ℤ
kept u = int_max (negsuc 2097151) (int_min u (pos 2097088))

abbrev pub moved_control_value : Varied → ℤ
moved_control_value v = kept (moved_sixty_fourths v)

-- worked values: halves of a 64th go up, and values are kept to their range
abbrev by : ℤ → ℤ → Varied
by at delta = record { at = at; delta = delta }

moved_values : map moved_control_value (by (pos 10) (pos 65536) ∷ by (pos 10) (pos 512) ∷ by (pos 10) (negsuc 511) ∷ by (negsuc 9) (negsuc 512) ∷ [])
    ≡ pos 704 ∷ pos 641 ∷ pos 640 ∷ negsuc 640 ∷ []
moved_values = refl

kept_values : map moved_control_value (by (pos 32767) (pos 1024) ∷ by (negsuc 32767) (negsuc 65535) ∷ by (pos 32767) (pos 0) ∷ by (negsuc 32767) (pos 0) ∷ [])
    ≡ pos 2097088 ∷ negsuc 2097151 ∷ pos 2097088 ∷ negsuc 2097151 ∷ []
kept_values = refl
