-- The whole instruction set changes no result, except for the refusals of the profile. Without it vectors stay on the
-- axes.
use Rattle.std.proofs.Common.{◌≡◌, ℤ, pos, Bool, true, false, ◌&&◌, ◌||◌, if◌then◌else◌, int_eq, int_lt, List, [], ◌∷◌, Result, Ok, Err, IfOk, refl}
use Rattle.std.proofs.lemmas.Bool.{and_parts}
use Rattle.std.proofs.lemmas.Bool.Decides.{Decides-int_eq}
use Rattle.tt_core.specs.Outcomes.{◌>>=◌}
use Rattle.tt_core.specs.declared.fault.Why.{Why}
use Rattle.tt_core.specs.declared.fault.Why.TheVariants as why
use Rattle.tt_state.specs.Axes.{vector_of}
use Rattle.tt_state.specs.Vectors.{unit, root}
use Rattle.tt_state.specs.declared.graphics_state.Axis.{Axis}
use Rattle.tt_state.specs.declared.graphics_state.Axis.TheVariants as axis
use Rattle.tt_state.specs.declared.graphics_state.GraphicsState.{GraphicsState}
use Rattle.tt_state.specs.Tolerance.{is_missing, passes_over, unless_missing}
use Rattle.tt_state.specs.declared.tolerance.Tolerance.{Tolerance}
use Rattle.tt_state.specs.declared.tolerance.Tolerance.TheVariants as tolerance
use Rattle.tt_state.specs.declared.vector.Vector.{Vector}
use Rattle.tt_state.specs.declared.vector.Vector.TheVariants as vector
use Rattle.tt_points_zones.specs.WithAll.{with_all, is_of_profile, Stays, StaysSame, chained, after}
use Rattle.tt_points_zones.specs.ZoneNumbers.{zone_of}
use Rattle.tt_exec_state.specs.Size.{in_pixels}
use Rattle.tt_exec_state.specs.Vectors.{along, part, vector_given, vector_pushed, vectors_accessed}
use Rattle.tt_exec_state.specs.WithAll.{beside, VectorsStay, SettingsStay, IsAxis, AreOnAxes, AxesAreKept}
use Rattle.tt_exec_state.specs.declared.instruction.GraphicsSetting.TheVariants as setting
use Rattle.tt_exec_state.specs.declared.instruction.Vectors.TheVariants as op

-- a pair that is an axis, in 2.14, is its unit vector
abbrev given : ℤ → ℤ → Vector
given x y = vector_of (unit (part x) (part y))

on_x : (x y : ℤ) → (int_eq x (pos 16384) && int_eq y (pos 0)) ≡ true → given x y ≡ vector.X
unfolding unit root part vector_of
on_x x y is =
    let both = and_parts (int_eq x (pos 16384)) (int_eq y (pos 0)) is in
    rw ((Decides-int_eq x (pos 16384)).0 both.0, (Decides-int_eq y (pos 0)).0 both.1) refl

on_y : (x y : ℤ) → (int_eq x (pos 0) && int_eq y (pos 16384)) ≡ true → given x y ≡ vector.Y
unfolding unit root part vector_of
on_y x y is =
    let both = and_parts (int_eq x (pos 0)) (int_eq y (pos 16384)) is in
    rw ((Decides-int_eq x (pos 0)).0 both.0, (Decides-int_eq y (pos 16384)).0 both.1) refl

chosen : (v : Vector) (is_x is_y : Bool) → (is_x ≡ true → v ≡ vector.X) → (is_y ≡ true → v ≡ vector.Y)
    → StaysSame (if is_x then Ok vector.X else (if is_y then Ok vector.Y else Err why.OffProfile)) (Ok v)
chosen v true is_y x y = rw (x refl) refl
chosen v false true x y = rw (y refl) refl
chosen v false false x y = λ other. absurd cc

given_stays : (x y : ℤ) (whole : Bool) → StaysSame (vector_given x y whole) (vector_given x y true)
given_stays x y true = refl
given_stays x y false = chosen (given x y) _ _ (on_x x y) (on_y x y)

spvfs : (s : List ℤ) (g : GraphicsState)
    → Stays beside (vectors_accessed op.Spvfs s g) (vectors_accessed op.Spvfs s (with_all g))
spvfs (y ∷ x ∷ s) g =
    chained (λ v. v) beside (vector_given x y g.whole) (vector_given x y true) _ _ (given_stays x y g.whole) (λ v. refl)
spvfs (y ∷ []) g = λ other. refl
spvfs [] g = λ other. refl

sfvfs : (s : List ℤ) (g : GraphicsState)
    → Stays beside (vectors_accessed op.Sfvfs s g) (vectors_accessed op.Sfvfs s (with_all g))
sfvfs (y ∷ x ∷ s) g =
    chained (λ v. v) beside (vector_given x y g.whole) (vector_given x y true) _ _ (given_stays x y g.whole) (λ v. refl)
sfvfs (y ∷ []) g = λ other. refl
sfvfs [] g = λ other. refl

pub vectors_stay : VectorsStay
vectors_stay (op.Svtca a) s g = refl
vectors_stay (op.Spvtca a) s g = refl
vectors_stay (op.Sfvtca a) s g = refl
vectors_stay op.Spvfs s g = spvfs s g
vectors_stay op.Sfvfs s g = sfvfs s g
vectors_stay op.Gpv s g = after beside (vector_pushed g.proj s) _ _ (λ t. refl)
vectors_stay op.Gfv s g = after beside (vector_pushed g.free s) _ _ (λ t. refl)
vectors_stay op.Sfvtpv s g = refl

-- one of two results
tested : {A : Type 0} (all : A → A) (b : Bool) (a : A) (e : Why)
    → Stays all (if b then Err e else Ok a) (if b then Err e else Ok (all a))
tested all true a e = λ other. refl
tested all false a e = refl

-- a missing thing is no refusal of the profile
not_of_profile : (e : Why) → is_missing e ≡ true → is_of_profile e ≡ false
not_of_profile why.OffProfile missing = absurd cc
not_of_profile why.Perpendicular missing = absurd cc
not_of_profile _ missing = refl

over_is_missing : (t : Tolerance) (e : Why) → passes_over t e ≡ true → is_missing e ≡ true
over_is_missing tolerance.Strict e over = absurd cc
over_is_missing tolerance.Tolerant e over = over

-- the replacement for a refusal is the same with the whole instruction set
replaced : {A : Type 0} (all : A → A) (t : Tolerance) (instead : A) (e : Why) (over : Bool) → passes_over t e ≡ over
    → (with : Result A Why) → (is_of_profile e ≡ false → with ≡ Err e)
    → Stays all (if over then Ok instead else Err e) (unless_missing t (all instead) with)
replaced all t instead e true is with stays =
    rw (stays (not_of_profile e (over_is_missing t e is))) (rw is refl)
replaced all t instead e false is with stays = λ other. rw (stays other) (rw is refl)

passed_over : {A : Type 0} (all : A → A) (t : Tolerance) (instead : A) (r with : Result A Why) → Stays all r with
    → Stays all (unless_missing t instead r) (unless_missing t (all instead) with)
passed_over all t instead (Ok a) with stays = rw stays refl
passed_over all t instead (Err e) with stays = replaced all t instead e (passes_over t e) refl with stays

pub settings_stay : SettingsStay
settings_stay setting.Srp0 ppem scale t (p ∷ s) g = refl
settings_stay setting.Srp0 ppem scale t [] g = λ other. refl
settings_stay setting.Srp1 ppem scale t (p ∷ s) g = refl
settings_stay setting.Srp1 ppem scale t [] g = λ other. refl
settings_stay setting.Srp2 ppem scale t (p ∷ s) g = refl
settings_stay setting.Srp2 ppem scale t [] g = λ other. refl
settings_stay setting.Szp0 ppem scale t (n ∷ s) g = passed_over beside t (s, g) _ _ (after beside (zone_of n) _ _ (λ z. refl))
settings_stay setting.Szp0 ppem scale t [] g = λ other. refl
settings_stay setting.Szp1 ppem scale t (n ∷ s) g = passed_over beside t (s, g) _ _ (after beside (zone_of n) _ _ (λ z. refl))
settings_stay setting.Szp1 ppem scale t [] g = λ other. refl
settings_stay setting.Szp2 ppem scale t (n ∷ s) g = passed_over beside t (s, g) _ _ (after beside (zone_of n) _ _ (λ z. refl))
settings_stay setting.Szp2 ppem scale t [] g = λ other. refl
settings_stay setting.Szps ppem scale t (n ∷ s) g = passed_over beside t (s, g) _ _ (after beside (zone_of n) _ _ (λ z. refl))
settings_stay setting.Szps ppem scale t [] g = λ other. refl
settings_stay setting.Sloop ppem scale t (n ∷ s) g = tested beside (int_lt n (pos 0)) _ why.BadArgument
settings_stay setting.Sloop ppem scale t [] g = λ other. refl
settings_stay (setting.RoundTo round) ppem scale t s g = refl
settings_stay setting.Sround ppem scale t (n ∷ s) g = refl
settings_stay setting.Sround ppem scale t [] g = λ other. refl
settings_stay setting.S45round ppem scale t (n ∷ s) g = refl
settings_stay setting.S45round ppem scale t [] g = λ other. refl
settings_stay setting.Smd ppem scale t (d ∷ s) g = refl
settings_stay setting.Smd ppem scale t [] g = λ other. refl
settings_stay setting.Scvtci ppem scale t (n ∷ s) g = refl
settings_stay setting.Scvtci ppem scale t [] g = λ other. refl
settings_stay setting.Sswci ppem scale t (n ∷ s) g = refl
settings_stay setting.Sswci ppem scale t [] g = λ other. refl
settings_stay setting.Ssw ppem scale t (n ∷ s) g = after beside (in_pixels scale n) _ _ (λ w. refl)
settings_stay setting.Ssw ppem scale t [] g = λ other. refl
settings_stay (setting.Flip on) ppem scale t s g = refl
settings_stay setting.Sdb ppem scale t (n ∷ s) g = refl
settings_stay setting.Sdb ppem scale t [] g = λ other. refl
settings_stay setting.Sds ppem scale t (n ∷ s) g = tested beside (int_lt n (pos 0) || int_lt (pos 6) n) _ why.BadArgument
settings_stay setting.Sds ppem scale t [] g = λ other. refl
settings_stay setting.Scanctrl ppem scale t (v ∷ s) g = refl
settings_stay setting.Scanctrl ppem scale t [] g = λ other. refl
settings_stay setting.Scantype ppem scale t (v ∷ s) g = refl
settings_stay setting.Scantype ppem scale t [] g = λ other. refl
settings_stay setting.Ignored ppem scale t (n ∷ s) g = refl
settings_stay setting.Ignored ppem scale t [] g = λ other. refl

-- the axes
along_is : (a : Axis) → IsAxis (along a)
along_is axis.X = tt
along_is axis.Y = tt

given_is : (is_x is_y : Bool)
    → IfOk (if is_x then Ok vector.X else (if is_y then Ok vector.Y else Err why.OffProfile)) IsAxis
given_is true is_y = tt
given_is false true = tt
given_is false false = tt

given_off : (x y : ℤ) (whole : Bool) → whole ≡ false → IfOk (vector_given x y whole) IsAxis
given_off x y whole off = rw off (given_is _ _)

abbrev Left : List ℤ × GraphicsState → Type 0
Left t = AreOnAxes t.1

set : (r : Result Vector Why) (f : Vector → List ℤ × GraphicsState) → IfOk r IsAxis
    → ((v : Vector) → IsAxis v → Left (f v)) → IfOk (r >>= λ v. Ok (f v)) Left
set (Ok v) f is next = next v is
set (Err e) f is next = tt

told : (r : Result (List ℤ) Why) (g : GraphicsState) → AreOnAxes g → IfOk (r >>= λ t. Ok (t, g)) Left
told (Ok t) g are = are
told (Err e) g are = tt

spvfs_kept : (s : List ℤ) (g : GraphicsState) → AreOnAxes g → IfOk (vectors_accessed op.Spvfs s g) Left
spvfs_kept (y ∷ x ∷ s) g are =
    set (vector_given x y g.whole) _ (given_off x y g.whole are.whole)
    (λ v is. record { whole = are.whole; projection = is; dual = refl; freedom = are.freedom })
spvfs_kept (y ∷ []) g are = tt
spvfs_kept [] g are = tt

sfvfs_kept : (s : List ℤ) (g : GraphicsState) → AreOnAxes g → IfOk (vectors_accessed op.Sfvfs s g) Left
sfvfs_kept (y ∷ x ∷ s) g are =
    set (vector_given x y g.whole) _ (given_off x y g.whole are.whole)
    (λ v is. record { whole = are.whole; projection = are.projection; dual = are.dual; freedom = is })
sfvfs_kept (y ∷ []) g are = tt
sfvfs_kept [] g are = tt

pub axes_kept : AxesAreKept
axes_kept (op.Svtca a) s g are =
    record { whole = are.whole; projection = along_is a; dual = refl; freedom = along_is a }
axes_kept (op.Spvtca a) s g are =
    record { whole = are.whole; projection = along_is a; dual = refl; freedom = are.freedom }
axes_kept (op.Sfvtca a) s g are =
    record { whole = are.whole; projection = are.projection; dual = are.dual; freedom = along_is a }
axes_kept op.Spvfs s g are = spvfs_kept s g are
axes_kept op.Sfvfs s g are = sfvfs_kept s g are
axes_kept op.Gpv s g are = told (vector_pushed g.proj s) g are
axes_kept op.Gfv s g are = told (vector_pushed g.free s) g are
axes_kept op.Sfvtpv s g are =
    record { whole = are.whole; projection = are.projection; dual = are.dual; freedom = are.projection }
