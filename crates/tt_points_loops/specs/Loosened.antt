-- No part of the standard: instructions on several points. A tolerant machine gives the result of a strict one, unless
-- that is a refusal that tolerance lifts.
use Rattle.std.proofs.Common.{◌≡◌, ℕ, ◌%◌, ◌≤◌, nat_lt, ℤ, pos, negsuc, Bool, true, false, ◌||◌, if◌then◌else◌, List, [], ◌∷◌, reverse, Result, Ok, Err, ap, refl, arith}
use Rattle.std.proofs.lemmas.Bool.Decides.{nat_tests}
use Rattle.tt_core.specs.declared.fault.Why.{Why}
use Rattle.tt_core.specs.declared.fault.Why.TheVariants as why
use Rattle.tt_state.specs.Loosening.{Loosens, same, chained, after, passed_over, strict}
use Rattle.tt_state.specs.Tolerance.{unless_missing}
use Rattle.tt_state.specs.declared.graphics_state.GraphicsState.{GraphicsState}
use Rattle.tt_state.specs.declared.tolerance.Tolerance.TheVariants as tolerance
use Rattle.tt_points_zones.specs.Points.{point_in, with_point}
use Rattle.tt_points_zones.specs.Zones.{ZoneLists}
use Rattle.tt_points_loops.specs.declared.deltas.DeltaRange.{DeltaRange}
use Rattle.tt_points_loops.specs.declared.shifting.ReferencePoint.{ReferencePoint}
use Rattle.tt_points_loops.specs.Deltas.{byte_of, delta_of, exception_at, move_by, except, pairs_of}
use Rattle.tt_points_loops.specs.Flipping.{flip}
use Rattle.tt_points_loops.specs.Moving.{align, kept_between, scale_among, other_end, in_between, interpolate, push}
use Rattle.tt_points_loops.specs.Series.{one_by_one, passing_over, looped, set_back}
use Rattle.tt_points_loops.specs.Shifting.{reference, shift}
use Rattle.tt_points_loops.specs.Deltas as deltas
use Rattle.tt_points_loops.specs.Flipping as flipping
use Rattle.tt_points_loops.specs.Moving as moving
use Rattle.tt_points_loops.specs.Shifting as shifting

-- a result beside the same one, or another where something is missing
pub passed : {A : Type 0} (instead : A) (r loose : Result A Why) → Loosens r loose
    → Loosens (unless_missing tolerance.Strict instead r) (unless_missing tolerance.Tolerant instead loose)
passed instead r loose loosens = rw (strict instead r) (passed_over instead r loose loosens)

-- steps one after another, and loops
series : {N S : Type 0} (step loose : N → S → Result S Why) → ((n : N) (s : S) → Loosens (step n s) (loose n s))
    → (ns : List N) (s : S) → Loosens (one_by_one step ns s) (one_by_one loose ns s)
series step loose loosens [] s = refl
series step loose loosens (n ∷ ns) s =
    chained (step n s) (loose n s) (one_by_one step ns) (one_by_one loose ns) (loosens n s)
    (λ t. series step loose loosens ns t)

pub passing : {N S : Type 0} (step loose : N → S → Result S Why) → ((n : N) (s : S) → Loosens (step n s) (loose n s))
    → (ns : List N) (s : S)
    → Loosens (one_by_one (passing_over tolerance.Strict step) ns s)
    (one_by_one (passing_over tolerance.Tolerant loose) ns s)
passing step loose loosens ns s =
    series (passing_over tolerance.Strict step) (passing_over tolerance.Tolerant loose)
    (λ n w. passed w (step n w) (loose n w) (loosens n w)) ns s

loop : (step loose : ℤ → ZoneLists → Result ZoneLists Why)
    → ((n : ℤ) (z : ZoneLists) → Loosens (step n z) (loose n z)) → (points : List ℤ) (z : ZoneLists) (g : GraphicsState)
    → Loosens (looped tolerance.Strict step points z g) (looped tolerance.Tolerant loose points z g)
loop step loose loosens points z g =
    chained (one_by_one (passing_over tolerance.Strict step) (reverse points) z)
    (one_by_one (passing_over tolerance.Tolerant loose) (reverse points) z)
    (λ w. Ok (w, set_back g)) (λ w. Ok (w, set_back g)) (passing step loose loosens (reverse points) z) (λ w. refl)

alike : (step : ℤ → ZoneLists → Result ZoneLists Why) (points : List ℤ) (z : ZoneLists) (g : GraphicsState)
    → Loosens (looped tolerance.Strict step points z g) (looped tolerance.Tolerant step points z g)
alike step points z g = loop step step (λ n w. same (step n w)) points z g

-- the instructions
interpolates : (g : GraphicsState) (n : ℤ) (z : ZoneLists)
    → Loosens (interpolate tolerance.Strict g n z) (interpolate tolerance.Tolerant g n z)
interpolates g n z =
    let halves = z.originals.halves in
    let s = scale_among g z in
    after (point_in g.zp2 n z) _ _ (λ p.
    chained (in_between tolerance.Strict g z p) (in_between tolerance.Tolerant g z p)
    (λ q. Ok (with_point g.zp2 n q z)) (λ q. Ok (with_point g.zp2 n q z))
    (after (point_in g.zp0 g.rp1 z) _ _ (λ a.
    chained (other_end tolerance.Strict g z a) (other_end tolerance.Tolerant g z a)
    (λ b. kept_between halves s g a b p) (λ b. kept_between halves s g a b p)
    (passed a (point_in g.zp1 g.rp2 z) (point_in g.zp1 g.rp2 z) (same (point_in g.zp1 g.rp2 z)))
    (λ b. same (kept_between halves s g a b p)))) (λ q. refl))

small : (n : ℕ) (b : Bool) → (nat_lt n 0 || nat_lt 255 n) ≡ b
    → Loosens (if b then Err why.BadArgument else Ok n) (Ok (n % 256))
small n true is = λ other. absurd cc
small n false is =
    let byte : n ≤ 255 = grind (arith, nat_tests) in
    let whole : n % 256 ≡ n = omega arith in
    ap (λ m. Ok m) whole

byte_loosens : (argument : ℤ) → Loosens (byte_of tolerance.Strict argument) (byte_of tolerance.Tolerant argument)
byte_loosens (pos n) = small n (nat_lt n 0 || nat_lt 255 n) refl
byte_loosens (negsuc n) = λ other. absurd cc

pub delta_loosens : (range : DeltaRange) (argument : ℤ) (ppem : ℕ) (g : GraphicsState)
    → Loosens (delta_of tolerance.Strict range argument ppem g) (delta_of tolerance.Tolerant range argument ppem g)
delta_loosens range argument ppem g =
    chained (byte_of tolerance.Strict argument) (byte_of tolerance.Tolerant argument)
    (λ byte. Ok (exception_at range byte ppem g)) (λ byte. Ok (exception_at range byte ppem g)) (byte_loosens argument)
    (λ byte. refl)

excepts : (range : DeltaRange) (ppem : ℕ) (g : GraphicsState) (pair : ℤ × ℤ) (z : ZoneLists)
    → Loosens (except tolerance.Strict range ppem g pair z) (except tolerance.Tolerant range ppem g pair z)
excepts range ppem g pair z =
    chained (delta_of tolerance.Strict range (pair.0) ppem g) (delta_of tolerance.Tolerant range (pair.0) ppem g)
    (λ d. move_by d g (pair.1) z) (λ d. move_by d g (pair.1) z) (delta_loosens range (pair.0) ppem g)
    (λ d. same (move_by d g (pair.1) z))

pub record SeveralLoosened (z : ZoneLists) (g : GraphicsState) : Type 0 where
  pub alignrp : (points : List ℤ)
      → Loosens (moving.alignrp tolerance.Strict points z g) (moving.alignrp tolerance.Tolerant points z g)
  pub ip : (points : List ℤ) → Loosens (moving.ip tolerance.Strict points z g) (moving.ip tolerance.Tolerant points z g)
  pub shpix : (points : List ℤ) (amount : ℤ)
      → Loosens (moving.shpix tolerance.Strict points amount z g) (moving.shpix tolerance.Tolerant points amount z g)
  pub flippt : (points : List ℤ)
      → Loosens (flipping.flippt tolerance.Strict points z g) (flipping.flippt tolerance.Tolerant points z g)
  pub shp : (which : ReferencePoint) (points : List ℤ)
      → Loosens (shifting.shp tolerance.Strict which points z g) (shifting.shp tolerance.Tolerant which points z g)
  pub deltap : (range : DeltaRange) (ppem : ℕ) (pairs : List ℤ)
      → Loosens (deltas.deltap tolerance.Strict range ppem pairs z g)
      (deltas.deltap tolerance.Tolerant range ppem pairs z g)

pub several_loosened : (z : ZoneLists) (g : GraphicsState) → SeveralLoosened z g
several_loosened z g = record {
  alignrp = λ points. alike (align g) points z g;
  ip = λ points. loop (interpolate tolerance.Strict g) (interpolate tolerance.Tolerant g) (interpolates g) points z g;
  shpix = λ points amount. alike (push amount g) points z g;
  flippt = λ points. alike flip points z g;
  shp = λ which points. alike (shift g (reference which g z)) points z g;
  deltap = λ range ppem pairs.
      passing (except tolerance.Strict range ppem g) (except tolerance.Tolerant range ppem g) (excepts range ppem g)
      (reverse (pairs_of pairs)) z;
}
