-- No part of the standard: a result without the whole instruction set is the result with it too, unless it is a refusal
-- by the profile.
use Rattle.std.proofs.Common.{◌≡◌, Bool, true, false, ◌||◌, if◌then◌else◌, Result, Ok, Err, refl}
use Rattle.tt_core.specs.Outcomes.{◌>>=◌}
use Rattle.tt_core.specs.declared.fault.Why.{Why}
use Rattle.tt_core.specs.declared.fault.Why.TheVariants as why
use Rattle.tt_state.specs.Tolerance.{is_missing, passes_over, unless_missing}
use Rattle.tt_state.specs.declared.graphics_state.GraphicsState.{GraphicsState}
use Rattle.tt_state.specs.declared.tolerance.Tolerance.{Tolerance}
use Rattle.tt_state.specs.declared.tolerance.Tolerance.TheVariants as tolerance
use Rattle.tt_points_zones.specs.Motions.{direction, is_same, vectors_of}
use Rattle.tt_points_zones.specs.declared.motion.Motion.{Motion}

-- a graphics state with the whole instruction set
abbrev pub with_all : GraphicsState → GraphicsState
with_all g = record g { whole = true }

-- the refusals that come only without the whole instruction set
abbrev pub is_of_profile : Why → Bool
is_of_profile why.OffProfile = true
is_of_profile why.Perpendicular = true
is_of_profile _ = false

-- two results, without the whole instruction set and with it. The second is the first after a change, or the same
-- refusal; after a refusal of the profile, it is any
abbrev pub Stays : {A : Type 0} → (A → A) → Result A Why → Result A Why → Type 0
Stays all (Ok a) with = with ≡ Ok (all a)
Stays all (Err e) with = is_of_profile e ≡ false → with ≡ Err e

-- a result without a graphics state
abbrev pub StaysSame : {A : Type 0} → Result A Why → Result A Why → Type 0
StaysSame r with = Stays (λ a. a) r with

pub same : {A : Type 0} (r : Result A Why) → StaysSame r r
same (Ok a) = refl
same (Err e) = λ other. refl

-- one step after another
pub chained : {A B : Type 0} (all : A → A) (more : B → B) (r with : Result A Why) (f g : A → Result B Why)
    → Stays all r with → ((a : A) → Stays more (f a) (g (all a))) → Stays more (r >>= f) (with >>= g)
chained all more (Ok a) with f g stays next = rw stays (next a)
chained all more (Err e) with f g stays next = λ other. rw (stays other) refl

-- a step after one whose result has no graphics state
pub after : {A B : Type 0} (more : B → B) (r : Result A Why) (f g : A → Result B Why)
    → ((a : A) → Stays more (f a) (g a)) → Stays more (r >>= f) (r >>= g)
after more (Ok a) f g next = next a
after more (Err e) f g next = λ other. refl

-- a result, or another where something is missing
of_profile : (e : Why) → is_missing e ≡ true → is_of_profile e ≡ false
of_profile why.PointRange missing = refl
of_profile why.ContourRange missing = refl
of_profile why.ZoneRange missing = refl
of_profile why.CvtRange missing = refl
of_profile why.StorageRange missing = refl
of_profile why.OffProfile missing = absurd cc
of_profile why.Perpendicular missing = absurd cc
of_profile _ missing = refl

missing_of : (t : Tolerance) (e : Why) → passes_over t e ≡ true → is_missing e ≡ true
missing_of tolerance.Strict e passed = absurd cc
missing_of tolerance.Tolerant e passed = passed

refused : {A : Type 0} (all : A → A) (t : Tolerance) (instead : A) (e : Why) (with : Result A Why) (passes : Bool)
    → passes_over t e ≡ passes → (is_of_profile e ≡ false → with ≡ Err e)
    → Stays all (if passes then Ok instead else Err e) (unless_missing t (all instead) with)
refused all t instead e with true is stays = rw (stays (of_profile e (missing_of t e is))) (rw is refl)
refused all t instead e with false is stays = λ other. rw (stays other) (rw is refl)

pub passed_over : {A : Type 0} (all : A → A) (t : Tolerance) (instead : A) (r with : Result A Why) → Stays all r with
    → Stays all (unless_missing t instead r) (unless_missing t (all instead) with)
passed_over all t instead (Ok a) with stays = rw stays refl
passed_over all t instead (Err e) with stays = refused all t instead e with (passes_over t e) refl stays

permitted : (b : Bool) (m : Motion) → StaysSame (if b then Ok m else Err why.Perpendicular) (Ok m)
permitted true m = refl
permitted false m = λ other. absurd cc

pub directed : (g : GraphicsState) → StaysSame (direction g) (direction (with_all g))
unfolding direction
directed g = permitted (g.whole || is_same g.proj g.free) (vectors_of g)

-- the graphics state after an instruction, beside the zones
abbrev pub beside : {A : Type 0} → A × GraphicsState → A × GraphicsState
beside t = (t.0, with_all t.1)

abbrev pub StaysBeside : {A : Type 0} → Result (A × GraphicsState) Why → Result (A × GraphicsState) Why → Type 0
StaysBeside r with = Stays beside r with

-- a step that uses the vectors
pub by_vectors : {A : Type 0} (g : GraphicsState) (f : Motion → Result A Why)
    → StaysSame (direction g >>= f) (direction (with_all g) >>= f)
by_vectors g f = chained (λ m. m) (λ a. a) (direction g) (direction (with_all g)) f f (directed g) (λ m. same (f m))
