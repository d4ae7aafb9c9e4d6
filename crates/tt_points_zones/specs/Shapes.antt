-- No part of the standard: zones have the same shape after a point is replaced, and after one step follows another.
use Rattle.std.proofs.Common.{◌∙◌, ℤ, unsigned_abs, Result, Ok, Err, IfOk, refl, length-set}
use Rattle.tt_core.specs.Outcomes.{◌>>=◌}
use Rattle.tt_core.specs.declared.fault.Why.{Why}
use Rattle.tt_state.specs.declared.graphics_state.Zone.{Zone}
use Rattle.tt_state.specs.declared.graphics_state.Zone.TheVariants as zone
use Rattle.tt_state.specs.declared.point.Point.{Point}
use Rattle.tt_points_zones.specs.Points.{with_point}
use Rattle.tt_points_zones.specs.Zones.{ZoneLists, SameShape, KeepsShape}

-- a property of the second step, whatever the first gives
pub whatever : {A B : Type 0} (P : B → Type 0) (r : Result A Why) (f : A → Result B Why) → ((x : A) → IfOk (f x) P)
    → IfOk (r >>= f) P
whatever P (Ok x) f every = every x
whatever P (Err why) f every = tt

-- a property of the second step, from a property of the first
pub through : {A B : Type 0} (P : A → Type 0) (Q : B → Type 0) (r : Result A Why) (f : A → Result B Why) → IfOk r P
    → ((x : A) → P x → IfOk (f x) Q) → IfOk (r >>= f) Q
through P Q (Ok x) f holds next = next x holds
through P Q (Err why) f holds next = tt

pub same : (z : ZoneLists) → SameShape z z
same z = record { twilight = refl; glyph = refl; contours = refl; originals = refl }

pub joined : (a b c : ZoneLists) → SameShape a b → SameShape b c → SameShape a c
joined a b c first second = record {
  twilight = second.twilight ∙ first.twilight;
  glyph = second.glyph ∙ first.glyph;
  contours = second.contours ∙ first.contours;
  originals = second.originals ∙ first.originals;
}

pub put_one : (zone : Zone) (n : ℤ) (p : Point) (z : ZoneLists) → SameShape z (with_point zone n p z)
put_one zone.Twilight n p z =
    record { twilight = length-set z.twilight (unsigned_abs n) p; glyph = refl; contours = refl; originals = refl }
put_one zone.Glyph n p z =
    record { twilight = refl; glyph = length-set z.glyph (unsigned_abs n) p; contours = refl; originals = refl }

-- a point replaced
pub put : (zone : Zone) (n : ℤ) (z : ZoneLists) (r : Result Point Why)
    → KeepsShape z (r >>= λ q. Ok (with_point zone n q z))
put zone n z (Ok q) = put_one zone n q z
put zone n z (Err why) = tt
