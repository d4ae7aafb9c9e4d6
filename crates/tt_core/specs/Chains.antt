-- Not from the standard. A chain of steps: which steps succeeded, and where the chain failed. Statements about the
-- definition's result hold for a call's result too.
use Rattle.std.specs.Prelude.{◌≡◌, ℕ, ◌<◌, ◌==◌, nat_lt, Bool, true, false, not, if◌then◌else◌, Result, Ok, Err, OnOk, ◌⊎◌, refl}
use Rattle.std.proofs.Common.{inl, inr, arith}
use Rattle.std.proofs.lemmas.Bool.Decides.{nat_tests}
use Rattle.tt_core.specs.declared.font_fault.FontFault.{FontFault}
use Rattle.tt_core.specs.declared.font_fault.FontFault.TheVariants as fault
use Rattle.tt_core.specs.Faults.{Fault}
use Rattle.tt_core.specs.Outcomes.{◌>>=◌, Gives, FontGives, IfTold, font_fault}

-- a chain that succeeded: its first step succeeded, and then the rest
pub record CameThrough {A B E : Type 0} (x : Result A E) (f : A → Result B E) (y : B) : Type 0 where
  pub value : A
  pub first : x ≡ Ok value
  pub rest : f value ≡ Ok y

pub came-through : {A B E : Type 0} (x : Result A E) (f : A → Result B E) (y : B) → (x >>= f) ≡ Ok y → CameThrough x f y
came-through (Ok v) f y was = record { value = v; first = refl; rest = was }
came-through (Err e) f y was = absurd cc

-- a chain that failed later: its first step succeeded, and then the rest failed
pub record BrokeLater {A B E : Type 0} (x : Result A E) (f : A → Result B E) (e : E) : Type 0 where
  pub value : A
  pub first : x ≡ Ok value
  pub rest : f value ≡ Err e

-- where a chain failed
pub was-err : {A B E : Type 0} (x : Result A E) (f : A → Result B E) (e : E) → (x >>= f) ≡ Err e → (x ≡ Err e)
    ⊎ BrokeLater x f e
was-err (Ok v) f e was = inr (record { value = v; first = refl; rest = was })
was-err (Err d) f e was = inl cc

-- a passed test, and what follows the test
pub passed-on : {A E : Type 0} (failed : Bool) (e : E) (x : Result A E) (y : A) → (if failed then Err e else x) ≡ Ok y
    → (failed ≡ false) × (x ≡ Ok y)
passed-on true e x y was = absurd cc
passed-on false e x y was = (refl, was)

-- a passed test
pub passed : {A E : Type 0} (failed : Bool) (e : E) (x y : A)
    → ◌≡◌ {A = Result A E} (if failed then Err e else Ok x) (Ok y) → (failed ≡ false) × (x ≡ y)
passed true e x y was = absurd cc
passed false e x y was = (refl, cc)

pub passed-else : {A E : Type 0} (holds : Bool) (e : E) (x y : A)
    → ◌≡◌ {A = Result A E} (if holds then Ok x else Err e) (Ok y) → (holds ≡ true) × (x ≡ y)
passed-else true e x y was = (refl, cc)
passed-else false e x y was = absurd cc

-- a failed test
pub failed : {A E : Type 0} (holds : Bool) (e : E) (x : A) (f : E)
    → ◌≡◌ {A = Result A E} (if holds then Err e else Ok x) (Err f) → (holds ≡ true) × (f ≡ e)
failed true e x f was = (refl, cc)
failed false e x f was = absurd cc

pub failed-else : {A E : Type 0} (holds : Bool) (e : E) (x : A) (f : E)
    → ◌≡◌ {A = Result A E} (if holds then Ok x else Err e) (Err f) → (holds ≡ false) × (f ≡ e)
failed-else true e x f was = absurd cc
failed-else false e x f was = (refl, cc)

-- a test cannot both hold and fail
pub not-both : (b : Bool) → b ≡ true → b ≡ false → ⊥
not-both true holds fails = cc
not-both false holds fails = cc

pub not-neither : (b : Bool) → not b ≡ false → b ≡ false → ⊥
not-neither true holds fails = cc
not-neither false holds fails = cc

-- a test of two numbers cannot both fail and be true
pub not-below : (a b : ℕ) → nat_lt a b ≡ false → a < b → ⊥
not-below a b is below = grind (arith, nat_tests)

pub not-zero : (n : ℕ) → (n == 0) ≡ false → n ≡ 0 → ⊥
not-zero n is zero = grind (arith, nat_tests)

-- a statement that holds where the definition gives a value also holds where the call returns Ok
pub on-gives : {X Y E : Type 0} (view : X → Y) (result : Result X E) (wanted : Result Y E) (Q : Type 0)
    → Gives view result wanted → ((y : Y) → wanted ≡ Ok y → Q) → OnOk result Q
on-gives view (Ok x) wanted Q gives holds = holds (view x) gives
on-gives view (Err e) wanted Q gives holds = tt

-- the corresponding statement for a call that allocates
pub on-given : {X Y : Type 0} (view : X → Y) (result : Result X FontFault) (wanted : Result Y Fault) (Q : Type 0)
    → FontGives view result wanted → ((y : Y) → wanted ≡ Ok y → Q) → OnOk result Q
on-given view (Ok x) wanted Q gives holds = holds (view x) gives
on-given view (Err e) wanted Q gives holds = tt

-- a statement about the definition's fault also holds for the fault that the call reports
pub if-told : {X Y : Type 0} (view : X → Y) (result : Result X FontFault) (wanted : Result Y Fault)
    (P : Fault → Type 0) → FontGives view result wanted → ((f : Fault) → wanted ≡ Err f → P f)
    → IfTold font_fault result P
if-told view (Ok x) wanted P gives stands = tt
if-told view (Err (fault.Font f)) wanted P gives stands = stands f gives
if-told view (Err fault.Memory) wanted P gives stands = tt
