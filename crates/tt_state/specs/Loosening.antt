-- Not from the standard: a tolerant machine gives the result of a strict one, unless that is a refusal that tolerance
-- lifts.
use Rattle.std.specs.Bool.{⊤}
use Rattle.std.proofs.Common.{◌≡◌, Bool, true, false, ◌||◌, if◌then◌else◌, Result, Ok, Err, refl}
use Rattle.tt_core.specs.Outcomes.{◌>>=◌}
use Rattle.tt_core.specs.declared.fault.Why.{Why}
use Rattle.tt_core.specs.declared.fault.Why.TheVariants as why
use Rattle.tt_state.specs.Tolerance.{is_missing, unless_missing}
use Rattle.tt_state.specs.declared.tolerance.Tolerance.TheVariants as tolerance

-- refusals about stack values: too few of them, or a bad argument; for some of these a tolerant machine uses the low
-- byte, or nothing
abbrev pub is_of_values : Why → Bool
is_of_values why.StackShort = true
is_of_values why.BadArgument = true
is_of_values _ = false

-- the refusals that a tolerant machine lacks, at all instructions or at some
abbrev pub is_lifted : Why → Bool
is_lifted why = is_missing why || is_of_values why

-- the results of a strict machine and of a tolerant one: they are equal, unless the first is a lifted refusal
abbrev pub Loosens : {A : Type 0} → Result A Why → Result A Why → Type 0
Loosens (Ok a) loose = loose ≡ Ok a
Loosens (Err e) loose = is_lifted e ≡ false → loose ≡ Err e

pub same : {A : Type 0} (r : Result A Why) → Loosens r r
same (Ok a) = refl
same (Err e) = λ other. refl

-- one result after another
pub chained : {A B : Type 0} (r loose : Result A Why) (f g : A → Result B Why)
    → Loosens r loose → ((a : A) → Loosens (f a) (g a)) → Loosens (r >>= f) (loose >>= g)
chained (Ok a) loose f g stays next = rw stays (next a)
chained (Err e) loose f g stays next = λ other. rw (stays other) refl

pub after : {A B : Type 0} (r : Result A Why) (f g : A → Result B Why)
    → ((a : A) → Loosens (f a) (g a)) → Loosens (r >>= f) (r >>= g)
after (Ok a) f g next = next a
after (Err e) f g next = λ other. refl

not_missing : (missing of_values : Bool) → (missing || of_values) ≡ false → missing ≡ false
not_missing false of_values other = refl
not_missing true of_values other = absurd cc

-- a loosened result stays so if missing items are passed over
pub passed_over : {A : Type 0} (instead : A) (r loose : Result A Why) → Loosens r loose
    → Loosens r (unless_missing tolerance.Tolerant instead loose)
passed_over instead (Ok a) loose stays = rw stays refl
passed_over instead (Err e) loose stays = λ other.
    let there : is_missing e ≡ false = not_missing (is_missing e) (is_of_values e) other in
    rw (stays other) (rw there refl)

-- a strict machine passes over nothing
pub strict : {A : Type 0} (instead : A) (r : Result A Why) → unless_missing tolerance.Strict instead r ≡ r
strict instead (Ok a) = refl
strict instead (Err e) = refl

-- the refusals that a tolerant machine never has if the instruction's values exist
abbrev pub is_short : Why → Bool
is_short why.StackShort = true
is_short _ = false

abbrev pub is_never : Why → Bool
is_never why = is_missing why || is_short why

abbrev pub IsTotal : {A : Type 0} → Result A Why → Type 0
IsTotal (Ok a) = ⊤
IsTotal (Err e) = is_never e ≡ false

-- one total result after another
pub total_after : {A B : Type 0} (r : Result A Why) (f : A → Result B Why)
    → IsTotal r → ((a : A) → IsTotal (f a)) → IsTotal (r >>= f)
total_after (Ok a) f total next = next a
total_after (Err e) f total next = total

not_never : (missing short : Bool) → missing ≡ false → short ≡ false → (missing || short) ≡ false
not_never false short there enough = enough
not_never true short there enough = absurd cc

-- a result that is no shortage of values; passing over missing items makes it total
abbrev pub Enough : {A : Type 0} → Result A Why → Type 0
Enough (Ok a) = ⊤
Enough (Err e) = is_short e ≡ false

passed : {A : Type 0} (instead : A) (e : Why) (missing : Bool) → is_missing e ≡ missing → is_short e ≡ false
    → IsTotal {A = A} (if missing then Ok instead else Err e)
passed instead e true is enough = record {}
passed instead e false is enough = not_never (is_missing e) (is_short e) is enough

pub total_passed_over : {A : Type 0} (instead : A) (r : Result A Why) → Enough r
    → IsTotal (unless_missing tolerance.Tolerant instead r)
total_passed_over instead (Ok a) enough = record {}
total_passed_over instead (Err e) enough = passed instead e (is_missing e) refl enough

pub enough_after : {A B : Type 0} (r : Result A Why) (f : A → Result B Why)
    → Enough r → ((a : A) → Enough (f a)) → Enough (r >>= f)
enough_after (Ok a) f enough next = next a
enough_after (Err e) f enough next = enough
