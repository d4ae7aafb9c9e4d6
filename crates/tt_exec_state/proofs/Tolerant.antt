-- The tolerant machine beside a strict one, and too few values.
use Rattle.std.proofs.Common.{◌≡◌, ℕ, Bool, true, false, ◌&&◌, ◌||◌, nat_le, if◌then◌else◌, ℤ, pos, int_eq, int_lt, unsigned_abs, get_or, slice_set, List, [], ◌∷◌, length, Result, Ok, Err, refl, arith}
use Rattle.std.specs.Int.{int_rem_euclid}
use Rattle.tt_core.specs.declared.scaling.Scale.{Scale}
use Rattle.tt_core.specs.Outcomes.{◌>>=◌}
use Rattle.tt_core.specs.Scales.{scaled_by}
use Rattle.tt_core.specs.declared.fault.Why.{Why}
use Rattle.tt_core.specs.declared.fault.Why.TheVariants as why
use Rattle.tt_state.specs.Axes.{pair_of}
use Rattle.tt_state.specs.Loosening.{Loosens, IsTotal, Enough, is_short, same, after, chained, passed_over, total_after, total_passed_over, enough_after}
use Rattle.tt_state.specs.Tolerance.{unless_missing}
use Rattle.tt_state.specs.declared.graphics_state.GraphicsState.{GraphicsState}
use Rattle.tt_state.specs.declared.graphics_state.Zone.{Zone}
use Rattle.tt_state.specs.declared.graphics_state.Zone.TheVariants as zone
use Rattle.tt_state.specs.declared.tolerance.Tolerance.TheVariants as tolerance
use Rattle.tt_state.specs.declared.vector.Vector.{Vector}
use Rattle.tt_points_zones.specs.ZoneNumbers.{zone_of}
use Rattle.tt_exec_stack.specs.Stack.{is_value, pushed}
use Rattle.tt_exec_stack.proofs.Takes.{of_one, of_two, short_of_one, short_of_two, either, pushed_total}
use Rattle.tt_exec_state.specs.Instances.{has_instance}
use Rattle.tt_exec_state.specs.Laws.{SettingIsLoosened, ValuesAreLoosened, SettingIsTotal, ValuesAreTotal, VectorsAreTotal, QueriesAreTotal, SettingIsShort, ValuesAreShort, VectorsAreShort, QueriesAreShort}
use Rattle.tt_exec_state.specs.Queries as queries
use Rattle.tt_exec_state.specs.Settings as settings
use Rattle.tt_exec_state.specs.Size.{in_pixels}
use Rattle.tt_exec_state.specs.StoredValues as values
use Rattle.tt_exec_state.specs.StoredValues.{place, value_at, value_set}
use Rattle.tt_exec_state.specs.Vectors as vectors
use Rattle.tt_exec_state.specs.Vectors.{vector_given, vector_pushed}
use Rattle.tt_exec_state.specs.declared.instruction.Query.TheVariants as query
use Rattle.tt_exec_state.specs.declared.instruction.GraphicsSetting.TheVariants as setting
use Rattle.tt_exec_state.specs.declared.instruction.StoredValues.TheVariants as value
use Rattle.tt_exec_state.specs.declared.instruction.Vectors.TheVariants as op

-- a result, or another where something is missing, in both machines
unless : {A : Type 0} (instead : A) (r : Result A Why)
    → Loosens (unless_missing tolerance.Strict instead r) (unless_missing tolerance.Tolerant instead r)
unless instead (Ok a) = refl
unless instead (Err e) = passed_over instead (Err e) (Err e) (same (Err e))

-- a function of a result
made : {A B : Type 0} (f : A → B) (r loose : Result A Why) → Loosens r loose
    → Loosens (r >>= λ a. Ok (f a)) (loose >>= λ a. Ok (f a))
made f r loose stays = chained r loose _ _ stays (λ a. refl)

-- an instruction that takes a value
taken : {A : Type 0} (f g : List ℤ → Result A Why) → Loosens (f []) (g [])
    → ((n : ℤ) (s : List ℤ) → Loosens (f (n ∷ s)) (g (n ∷ s))) → (s : List ℤ) → Loosens (f s) (g s)
taken f g none next [] = none
taken f g none next (n ∷ s) = next n s

both_taken : {A : Type 0} (f g : List ℤ → Result A Why) → Loosens (f []) (g [])
    → ((n : ℤ) → Loosens (f (n ∷ [])) (g (n ∷ [])))
    → ((v n : ℤ) (s : List ℤ) → Loosens (f (v ∷ n ∷ s)) (g (v ∷ n ∷ s))) → (s : List ℤ) → Loosens (f s) (g s)
both_taken f g none one next [] = none
both_taken f g none one next (n ∷ []) = one n
both_taken f g none one next (v ∷ n ∷ s) = next v n s

pub setting_loosened : SettingIsLoosened
setting_loosened setting.Szp0 ppem scale s g =
    taken (λ s. settings.szp0 tolerance.Strict s g) (λ s. settings.szp0 tolerance.Tolerant s g) (λ other. refl)
    (λ n s. unless (s, g) _) s
setting_loosened setting.Szp1 ppem scale s g =
    taken (λ s. settings.szp1 tolerance.Strict s g) (λ s. settings.szp1 tolerance.Tolerant s g) (λ other. refl)
    (λ n s. unless (s, g) _) s
setting_loosened setting.Szp2 ppem scale s g =
    taken (λ s. settings.szp2 tolerance.Strict s g) (λ s. settings.szp2 tolerance.Tolerant s g) (λ other. refl)
    (λ n s. unless (s, g) _) s
setting_loosened setting.Szps ppem scale s g =
    taken (λ s. settings.szps tolerance.Strict s g) (λ s. settings.szps tolerance.Tolerant s g) (λ other. refl)
    (λ n s. unless (s, g) _) s
setting_loosened setting.Srp0 ppem scale s g = same (settings.srp0 s g)
setting_loosened setting.Srp1 ppem scale s g = same (settings.srp1 s g)
setting_loosened setting.Srp2 ppem scale s g = same (settings.srp2 s g)
setting_loosened setting.Sloop ppem scale s g = same (settings.sloop s g)
setting_loosened (setting.RoundTo round) ppem scale s g = refl
setting_loosened setting.Sround ppem scale s g = same (settings.sround s g)
setting_loosened setting.S45round ppem scale s g = same (settings.s45round s g)
setting_loosened setting.Smd ppem scale s g = same (settings.smd s g)
setting_loosened setting.Scvtci ppem scale s g = same (settings.scvtci s g)
setting_loosened setting.Sswci ppem scale s g = same (settings.sswci s g)
setting_loosened setting.Ssw ppem scale s g = same (settings.ssw scale s g)
setting_loosened (setting.Flip on) ppem scale s g = refl
setting_loosened setting.Sdb ppem scale s g = same (settings.sdb s g)
setting_loosened setting.Sds ppem scale s g = same (settings.sds s g)
setting_loosened setting.Scanctrl ppem scale s g = same (settings.scanctrl ppem s g)
setting_loosened setting.Scantype ppem scale s g = same (settings.scantype s g)
setting_loosened setting.Ignored ppem scale s g = after (settings.ignored s) _ _ (λ t. refl)

read_loosened : (n : ℤ) (xs : List ℤ) (why : Why) (s : List ℤ)
    → Loosens (value_at tolerance.Strict n xs why >>= λ v. pushed v s)
    (value_at tolerance.Tolerant n xs why >>= λ v. pushed v s)
read_loosened n xs why s = chained _ _ _ _ (unless (pos 0) _) (λ v. same (pushed v s))

set_loosened : (n v : ℤ) (xs : List ℤ) (why : Why) (s : List ℤ)
    → Loosens {A = List ℤ × List ℤ} (value_set tolerance.Strict n v xs why >>= λ ys. Ok (s, ys))
    (value_set tolerance.Tolerant n v xs why >>= λ ys. Ok (s, ys))
set_loosened n v xs why s =
    made (λ (ys : List ℤ). (s, ys)) (value_set tolerance.Strict n v xs why) (value_set tolerance.Tolerant n v xs why)
    (unless xs _)

ws_loosened : (s storage : List ℤ)
    → Loosens (values.ws tolerance.Strict s storage) (values.ws tolerance.Tolerant s storage)
ws_loosened s storage =
    both_taken (λ s. values.ws tolerance.Strict s storage) (λ s. values.ws tolerance.Tolerant s storage)
    (λ other. refl) (λ n other. refl) (λ v n s. set_loosened n v storage why.StorageRange s) s

rs_loosened : (s storage : List ℤ)
    → Loosens (values.rs tolerance.Strict s storage) (values.rs tolerance.Tolerant s storage)
rs_loosened s storage =
    taken (λ s. values.rs tolerance.Strict s storage) (λ s. values.rs tolerance.Tolerant s storage)
    (λ other. refl) (λ n s. read_loosened n storage why.StorageRange s) s

wcvtp_loosened : (s cvt : List ℤ)
    → Loosens (values.wcvtp tolerance.Strict s cvt) (values.wcvtp tolerance.Tolerant s cvt)
wcvtp_loosened s cvt =
    both_taken (λ s. values.wcvtp tolerance.Strict s cvt) (λ s. values.wcvtp tolerance.Tolerant s cvt)
    (λ other. refl) (λ n other. refl) (λ v n s. set_loosened n v cvt why.CvtRange s) s

wcvtf_loosened : (scale : Scale) (s cvt : List ℤ)
    → Loosens (values.wcvtf scale tolerance.Strict s cvt) (values.wcvtf scale tolerance.Tolerant s cvt)
wcvtf_loosened scale s cvt =
    both_taken (λ s. values.wcvtf scale tolerance.Strict s cvt) (λ s. values.wcvtf scale tolerance.Tolerant s cvt)
    (λ other. refl) (λ n other. refl) (λ v n s. unless (s, cvt) _) s

rcvt_loosened : (s cvt : List ℤ) → Loosens (values.rcvt tolerance.Strict s cvt) (values.rcvt tolerance.Tolerant s cvt)
rcvt_loosened s cvt =
    taken (λ s. values.rcvt tolerance.Strict s cvt) (λ s. values.rcvt tolerance.Tolerant s cvt)
    (λ other. refl) (λ n s. read_loosened n cvt why.CvtRange s) s

pub values_loosened : ValuesAreLoosened
values_loosened value.Ws scale s storage cvt =
    made (λ (r : List ℤ × List ℤ). (r.0, r.1, cvt)) (values.ws tolerance.Strict s storage) (values.ws tolerance.Tolerant s storage)
    (ws_loosened s storage)
values_loosened value.Rs scale s storage cvt =
    made (λ (r : List ℤ). (r, storage, cvt)) (values.rs tolerance.Strict s storage) (values.rs tolerance.Tolerant s storage)
    (rs_loosened s storage)
values_loosened value.Wcvtp scale s storage cvt =
    made (λ (r : List ℤ × List ℤ). (r.0, storage, r.1)) (values.wcvtp tolerance.Strict s cvt) (values.wcvtp tolerance.Tolerant s cvt)
    (wcvtp_loosened s cvt)
values_loosened value.Wcvtf scale s storage cvt =
    made (λ (r : List ℤ × List ℤ). (r.0, storage, r.1)) (values.wcvtf scale tolerance.Strict s cvt) (values.wcvtf scale tolerance.Tolerant s cvt)
    (wcvtf_loosened scale s cvt)
values_loosened value.Rcvt scale s storage cvt =
    made (λ (r : List ℤ). (r, storage, cvt)) (values.rcvt tolerance.Strict s cvt) (values.rcvt tolerance.Tolerant s cvt)
    (rcvt_loosened s cvt)

-- zones never fail with too few values, and a missing zone is passed over
zone_tests : (a b : Bool) → Enough (if a then Ok zone.Twilight else (if b then Ok zone.Glyph else Err why.ZoneRange))
zone_tests true b = record {}
zone_tests false true = record {}
zone_tests false false = refl

pointed : (n : ℤ) (f : Zone → List ℤ × GraphicsState) (instead : List ℤ × GraphicsState)
    → IsTotal (unless_missing tolerance.Tolerant instead (zone_of n >>= λ z. Ok (f z)))
pointed n f instead =
    total_passed_over instead _
    (enough_after (zone_of n) _ (zone_tests (int_eq n (pos 0)) (int_eq n (pos 1))) (λ z. record {}))

pixels_total : (scale : Scale) (units : ℤ) → IsTotal (in_pixels scale units)
pixels_total scale units = either (is_value (scaled_by scale units)) _ _ (record {}) refl

pub setting_total : SettingIsTotal
setting_total setting.Srp0 ppem scale s g enough = of_one (λ s. settings.srp0 s g) (λ n s. record {}) s enough
setting_total setting.Srp1 ppem scale s g enough = of_one (λ s. settings.srp1 s g) (λ n s. record {}) s enough
setting_total setting.Srp2 ppem scale s g enough = of_one (λ s. settings.srp2 s g) (λ n s. record {}) s enough
setting_total setting.Szp0 ppem scale s g enough =
    of_one (λ s. settings.szp0 tolerance.Tolerant s g) (λ n s. pointed n _ (s, g)) s enough
setting_total setting.Szp1 ppem scale s g enough =
    of_one (λ s. settings.szp1 tolerance.Tolerant s g) (λ n s. pointed n _ (s, g)) s enough
setting_total setting.Szp2 ppem scale s g enough =
    of_one (λ s. settings.szp2 tolerance.Tolerant s g) (λ n s. pointed n _ (s, g)) s enough
setting_total setting.Szps ppem scale s g enough =
    of_one (λ s. settings.szps tolerance.Tolerant s g) (λ n s. pointed n _ (s, g)) s enough
setting_total setting.Sloop ppem scale s g enough =
    of_one (λ s. settings.sloop s g) (λ n s. either (int_lt n (pos 0)) _ _ refl (record {})) s enough
setting_total (setting.RoundTo round) ppem scale s g enough = record {}
setting_total setting.Sround ppem scale s g enough = of_one (λ s. settings.sround s g) (λ n s. record {}) s enough
setting_total setting.S45round ppem scale s g enough = of_one (λ s. settings.s45round s g) (λ n s. record {}) s enough
setting_total setting.Smd ppem scale s g enough = of_one (λ s. settings.smd s g) (λ n s. record {}) s enough
setting_total setting.Scvtci ppem scale s g enough = of_one (λ s. settings.scvtci s g) (λ n s. record {}) s enough
setting_total setting.Sswci ppem scale s g enough = of_one (λ s. settings.sswci s g) (λ n s. record {}) s enough
setting_total setting.Ssw ppem scale s g enough =
    of_one (λ s. settings.ssw scale s g)
    (λ n s. total_after (in_pixels scale n) _ (pixels_total scale n) (λ w. record {})) s enough
setting_total (setting.Flip on) ppem scale s g enough = record {}
setting_total setting.Sdb ppem scale s g enough = of_one (λ s. settings.sdb s g) (λ n s. record {}) s enough
setting_total setting.Sds ppem scale s g enough =
    of_one (λ s. settings.sds s g)
    (λ n s. either (int_lt n (pos 0) || int_lt (pos 6) n) _ _ refl (record {})) s enough
setting_total setting.Scanctrl ppem scale s g enough = of_one (λ s. settings.scanctrl ppem s g) (λ n s. record {}) s enough
setting_total setting.Scantype ppem scale s g enough = of_one (λ s. settings.scantype s g) (λ n s. record {}) s enough
setting_total setting.Ignored ppem scale s g enough =
    total_after (settings.ignored s) _ (of_one settings.ignored (λ n s. record {}) s enough) (λ t. record {})

place_tests : (past : Bool) (i : ℕ) (why : Why) → is_short why ≡ false → Enough (if past then Err why else Ok i)
place_tests true i why enough = enough
place_tests false i why enough = record {}

place_enough : (n : ℤ) (many : ℕ) (why : Why) → is_short why ≡ false → Enough (place n many why)
place_enough n many why enough =
    place_tests (int_lt n (pos 0) || nat_le many (unsigned_abs n)) (unsigned_abs n) why enough

-- a missing value is read as 0
read_total : (n : ℤ) (xs : List ℤ) (why : Why) (s : List ℤ) → is_short why ≡ false
    → IsTotal (value_at tolerance.Tolerant n xs why >>= λ v. pushed v s)
read_total n xs why s enough =
    let found : Enough (place n (length xs) why >>= λ i. Ok (get_or xs i (pos 0))) =
    enough_after (place n (length xs) why) _ (place_enough n (length xs) why enough) (λ i. record {}) in
    total_after (value_at tolerance.Tolerant n xs why) _ (total_passed_over (pos 0) _ found) (λ v. pushed_total v s)

-- a missing place is not written
set_total : (n v : ℤ) (xs : List ℤ) (why : Why) (s : List ℤ) → is_short why ≡ false
    → IsTotal {A = List ℤ × List ℤ} (value_set tolerance.Tolerant n v xs why >>= λ ys. Ok (s, ys))
set_total n v xs why s enough =
    let found : Enough (place n (length xs) why >>= λ i. Ok (slice_set xs i v)) =
    enough_after (place n (length xs) why) _ (place_enough n (length xs) why enough) (λ i. record {}) in
    total_after (value_set tolerance.Tolerant n v xs why) _ (total_passed_over xs _ found) (λ ys. record {})

pixels_enough : (a : Bool) (v : ℤ) → Enough (if a then Ok v else Err why.ValueRange)
pixels_enough true v = record {}
pixels_enough false v = refl

wcvtf_total : (scale : Scale) (units n : ℤ) (s cvt : List ℤ)
    → IsTotal (values.wcvtf scale tolerance.Tolerant (units ∷ n ∷ s) cvt)
wcvtf_total scale units n s cvt =
    total_passed_over (s, cvt) _
    (enough_after (place n (length cvt) why.CvtRange) _ (place_enough n (length cvt) why.CvtRange refl) (λ i.
    enough_after (in_pixels scale units) _ (pixels_enough (is_value (scaled_by scale units)) _) (λ v. record {})))

pub values_total : ValuesAreTotal
values_total value.Ws scale s storage cvt enough =
    total_after (values.ws tolerance.Tolerant s storage) _
    (of_two (λ s. values.ws tolerance.Tolerant s storage) (λ v n s. set_total n v storage why.StorageRange s refl) s enough)
    (λ r. record {})
values_total value.Rs scale s storage cvt enough =
    total_after (values.rs tolerance.Tolerant s storage) _
    (of_one (λ s. values.rs tolerance.Tolerant s storage) (λ n s. read_total n storage why.StorageRange s refl) s enough)
    (λ r. record {})
values_total value.Wcvtp scale s storage cvt enough =
    total_after (values.wcvtp tolerance.Tolerant s cvt) _
    (of_two (λ s. values.wcvtp tolerance.Tolerant s cvt) (λ v n s. set_total n v cvt why.CvtRange s refl) s enough)
    (λ r. record {})
values_total value.Wcvtf scale s storage cvt enough =
    total_after (values.wcvtf scale tolerance.Tolerant s cvt) _
    (of_two (λ s. values.wcvtf scale tolerance.Tolerant s cvt) (λ u n s. wcvtf_total scale u n s cvt) s enough)
    (λ r. record {})
values_total value.Rcvt scale s storage cvt enough =
    total_after (values.rcvt tolerance.Tolerant s cvt) _
    (of_one (λ s. values.rcvt tolerance.Tolerant s cvt) (λ n s. read_total n cvt why.CvtRange s refl) s enough)
    (λ r. record {})

-- vectors never fail with too few values
given_total : (x y : ℤ) (whole : Bool) → IsTotal (vector_given x y whole)
given_total x y true = record {}
given_total x y false =
    either (int_eq x (pos 16384) && int_eq y (pos 0)) _ _ (record {})
    (either (int_eq x (pos 0) && int_eq y (pos 16384)) _ _ (record {}) refl)

told_total : (v : Vector) (s : List ℤ) (g : GraphicsState) → IsTotal {A = List ℤ × GraphicsState} (vector_pushed v s >>= λ t. Ok (t, g))
told_total v s g =
    total_after (vector_pushed v s) _
    (total_after (pushed (pair_of v).x s) _ (pushed_total (pair_of v).x s) (λ t. pushed_total (pair_of v).y t))
    (λ t. record {})

pub vectors_total : VectorsAreTotal
vectors_total (op.Svtca a) s g enough = record {}
vectors_total (op.Spvtca a) s g enough = record {}
vectors_total (op.Sfvtca a) s g enough = record {}
vectors_total op.Spvfs s g enough =
    of_two (λ s. vectors.spvfs s g)
    (λ y x s. total_after (vector_given x y g.whole) _ (given_total x y g.whole) (λ v. record {})) s enough
vectors_total op.Sfvfs s g enough =
    of_two (λ s. vectors.sfvfs s g)
    (λ y x s. total_after (vector_given x y g.whole) _ (given_total x y g.whole) (λ v. record {})) s enough
vectors_total op.Gpv s g enough = told_total g.proj s g
vectors_total op.Gfv s g enough = told_total g.free s g
vectors_total op.Sfvtpv s g enough = record {}

pub queries_total : QueriesAreTotal
queries_total query.Mppem ppem instance s enough = pushed_total (pos ppem) s
queries_total query.Mps ppem instance s enough = pushed_total (pos ppem) s
queries_total query.Getinfo ppem instance s enough =
    of_one (queries.getinfo instance)
    (λ n s. pushed_total (pos (queries.information (has_instance instance) n)) s) s enough

-- too few values

pub setting_short : SettingIsShort
setting_short setting.Srp0 ppem scale t s g few = short_of_one (λ s. settings.srp0 s g) refl s few
setting_short setting.Srp1 ppem scale t s g few = short_of_one (λ s. settings.srp1 s g) refl s few
setting_short setting.Srp2 ppem scale t s g few = short_of_one (λ s. settings.srp2 s g) refl s few
setting_short setting.Szp0 ppem scale t s g few = short_of_one (λ s. settings.szp0 t s g) refl s few
setting_short setting.Szp1 ppem scale t s g few = short_of_one (λ s. settings.szp1 t s g) refl s few
setting_short setting.Szp2 ppem scale t s g few = short_of_one (λ s. settings.szp2 t s g) refl s few
setting_short setting.Szps ppem scale t s g few = short_of_one (λ s. settings.szps t s g) refl s few
setting_short setting.Sloop ppem scale t s g few = short_of_one (λ s. settings.sloop s g) refl s few
setting_short (setting.RoundTo round) ppem scale t s g few = absurd (omega arith)
setting_short setting.Sround ppem scale t s g few = short_of_one (λ s. settings.sround s g) refl s few
setting_short setting.S45round ppem scale t s g few = short_of_one (λ s. settings.s45round s g) refl s few
setting_short setting.Smd ppem scale t s g few = short_of_one (λ s. settings.smd s g) refl s few
setting_short setting.Scvtci ppem scale t s g few = short_of_one (λ s. settings.scvtci s g) refl s few
setting_short setting.Sswci ppem scale t s g few = short_of_one (λ s. settings.sswci s g) refl s few
setting_short setting.Ssw ppem scale t s g few = short_of_one (λ s. settings.ssw scale s g) refl s few
setting_short (setting.Flip on) ppem scale t s g few = absurd (omega arith)
setting_short setting.Sdb ppem scale t s g few = short_of_one (λ s. settings.sdb s g) refl s few
setting_short setting.Sds ppem scale t s g few = short_of_one (λ s. settings.sds s g) refl s few
setting_short setting.Scanctrl ppem scale t s g few = short_of_one (λ s. settings.scanctrl ppem s g) refl s few
setting_short setting.Scantype ppem scale t s g few = short_of_one (λ s. settings.scantype s g) refl s few
setting_short setting.Ignored ppem scale t s g few =
    short_of_one (λ s. settings.ignored s >>= λ t. Ok (t, g)) refl s few

pub values_short : ValuesAreShort
values_short value.Ws scale t s storage cvt few =
    short_of_two (λ s. values.values_accessed value.Ws scale t s storage cvt) refl (λ n. refl) s few
values_short value.Rs scale t s storage cvt few =
    short_of_one (λ s. values.values_accessed value.Rs scale t s storage cvt) refl s few
values_short value.Wcvtp scale t s storage cvt few =
    short_of_two (λ s. values.values_accessed value.Wcvtp scale t s storage cvt) refl (λ n. refl) s few
values_short value.Wcvtf scale t s storage cvt few =
    short_of_two (λ s. values.values_accessed value.Wcvtf scale t s storage cvt) refl (λ n. refl) s few
values_short value.Rcvt scale t s storage cvt few =
    short_of_one (λ s. values.values_accessed value.Rcvt scale t s storage cvt) refl s few

pub vectors_short : VectorsAreShort
vectors_short (op.Svtca a) s g few = absurd (omega arith)
vectors_short (op.Spvtca a) s g few = absurd (omega arith)
vectors_short (op.Sfvtca a) s g few = absurd (omega arith)
vectors_short op.Spvfs s g few = short_of_two (λ s. vectors.spvfs s g) refl (λ y. refl) s few
vectors_short op.Sfvfs s g few = short_of_two (λ s. vectors.sfvfs s g) refl (λ y. refl) s few
vectors_short op.Gpv s g few = absurd (omega arith)
vectors_short op.Gfv s g few = absurd (omega arith)
vectors_short op.Sfvtpv s g few = absurd (omega arith)

pub queries_short : QueriesAreShort
queries_short query.Mppem ppem instance s few = absurd (omega arith)
queries_short query.Mps ppem instance s few = absurd (omega arith)
queries_short query.Getinfo ppem instance s few = short_of_one (queries.getinfo instance) refl s few
