-- The stack of a tolerant machine, beside that of a strict one.
use Rattle.std.proofs.Common.{◌≡◌, ℕ, ◌<◌, ◌≤◌, Bool, true, false, if◌then◌else◌, ℤ, pos, int_eq, int_lt, unsigned_abs, slice_get, ◌-◌, List, [], ◌∷◌, ◌++◌, length, take, drop, nat_lt, Option, Some, None, Result, Ok, Err, refl, arith}
use Rattle.std.specs.Option.{ok_or}
use Rattle.std.proofs.lemmas.Bool.Decides.{nat_tests}
use Rattle.std.proofs.lemmas.List.{length-replicate}
use Rattle.tt_core.specs.Outcomes.{◌>>=◌}
use Rattle.tt_core.specs.declared.fault.Why.{Why}
use Rattle.tt_core.specs.declared.fault.Why.TheVariants as why
use Rattle.tt_state.specs.Loosening.{Loosens, IsTotal, same, chained, total_after}
use Rattle.tt_state.specs.declared.tolerance.Tolerance.TheVariants as tolerance
use Rattle.tt_exec_stack.specs.Arithmetic as arithmetic
use Rattle.tt_exec_stack.specs.Laws.{ManagingIsLoosened, ManagingIsTotal, ArithmeticIsTotal, LogicIsTotal, ManagingIsShort, ArithmeticIsShort, LogicIsShort, PaddedIsEnough, EnoughStays}
use Rattle.tt_exec_stack.specs.Logic as logic
use Rattle.tt_exec_stack.specs.Managing as managing
use Rattle.tt_exec_stack.specs.Managing.{unless_refused}
use Rattle.tt_exec_stack.specs.Stack.{kth, padded, pushed}
use Rattle.tt_exec_stack.specs.declared.instruction.Arithmetic.TheVariants as computing
use Rattle.tt_exec_stack.specs.declared.instruction.Logic.TheVariants as deciding
use Rattle.tt_exec_stack.specs.declared.instruction.Managing.TheVariants as op
use Rattle.tt_exec_stack.proofs.Takes.{of_one, of_two, short_of_one, short_of_two, either, pushed_total}

-- a function of an entry, which may be missing on a tolerant machine
found : {A : Type 0} (instead : A) (low : Bool) (entry : Option ℤ) (f : ℤ → A)
    → let r = (if low then Err why.BadArgument else ok_or entry why.StackShort) >>= λ e. Ok (f e) in
    Loosens (unless_refused tolerance.Strict instead r) (unless_refused tolerance.Tolerant instead r)
found instead true entry f = λ other. absurd cc
found instead false (Some e) f = refl
found instead false None f = λ other. absurd cc

entry_of : (low : Bool) (entry : Option ℤ)
    → let r = if low then Err why.BadArgument else ok_or entry why.StackShort in
    Loosens (unless_refused tolerance.Strict (pos 0) r) (unless_refused tolerance.Tolerant (pos 0) r)
entry_of true entry = λ other. absurd cc
entry_of false (Some e) = refl
entry_of false None = λ other. absurd cc

cindex_loosened : (s : List ℤ) → Loosens (managing.cindex tolerance.Strict s) (managing.cindex tolerance.Tolerant s)
cindex_loosened (k ∷ s) =
    chained _ _ _ _ (entry_of (int_lt k (pos 1)) (slice_get s (unsigned_abs k - 1))) (λ e. same (pushed e s))
cindex_loosened [] = λ other. refl

mindex_loosened : (s : List ℤ) → Loosens (managing.mindex tolerance.Strict s) (managing.mindex tolerance.Tolerant s)
mindex_loosened (k ∷ s) =
    found s (int_lt k (pos 1)) (slice_get s (unsigned_abs k - 1))
    (λ e. e ∷ (take (unsigned_abs k - 1) s ++ drop (unsigned_abs k) s))
mindex_loosened [] = λ other. refl

pub managing_loosened : ManagingIsLoosened
managing_loosened op.Dup s = same (managing.dup s)
managing_loosened op.Pop s = same (managing.pop s)
managing_loosened op.Clear s = refl
managing_loosened op.Swap s = same (managing.swap s)
managing_loosened op.Depth s = same (managing.depth s)
managing_loosened op.Cindex s = cindex_loosened s
managing_loosened op.Mindex s = mindex_loosened s
managing_loosened op.Roll s = same (managing.roll s)

-- nothing is refused
unrefused : {A : Type 0} (instead : A) (r : Result A Why) → IsTotal (unless_refused tolerance.Tolerant instead r)
unrefused instead (Ok a) = record {}
unrefused instead (Err e) = record {}

roll_total : (s : List ℤ) → 3 ≤ length s → IsTotal (managing.roll s)
roll_total (c ∷ b ∷ a ∷ s) enough = record {}
roll_total (c ∷ b ∷ []) enough = absurd (omega arith)
roll_total (c ∷ []) enough = absurd (omega arith)
roll_total [] enough = absurd (omega arith)

pub managing_total : ManagingIsTotal
managing_total op.Dup s enough = of_one managing.dup (λ e s. pushed_total e (e ∷ s)) s enough
managing_total op.Pop s enough = of_one managing.pop (λ e s. record {}) s enough
managing_total op.Clear s enough = record {}
managing_total op.Swap s enough = of_two managing.swap (λ b a s. record {}) s enough
managing_total op.Depth s enough = pushed_total (pos (length s)) s
managing_total op.Cindex s enough =
    of_one (managing.cindex tolerance.Tolerant)
    (λ k s. total_after _ _ (unrefused (pos 0) (kth k s)) (λ e. pushed_total e s)) s enough
managing_total op.Mindex s enough =
    of_one (managing.mindex tolerance.Tolerant) (λ k s. unrefused s _) s enough
managing_total op.Roll s enough = roll_total s enough

pub arithmetic_total : ArithmeticIsTotal
arithmetic_total computing.Add state s enough = of_two arithmetic.add (λ b a s. pushed_total _ s) s enough
arithmetic_total computing.Sub state s enough = of_two arithmetic.sub (λ b a s. pushed_total _ s) s enough
arithmetic_total computing.Div state s enough =
    of_two arithmetic.div (λ b a s. either (int_eq b (pos 0)) _ _ refl (pushed_total _ s)) s enough
arithmetic_total computing.Mul state s enough = of_two arithmetic.mul (λ b a s. pushed_total _ s) s enough
arithmetic_total computing.Abs state s enough = of_one arithmetic.abs (λ n s. pushed_total _ s) s enough
arithmetic_total computing.Neg state s enough = of_one arithmetic.neg (λ n s. pushed_total _ s) s enough
arithmetic_total computing.Floor state s enough = of_one arithmetic.floor (λ n s. pushed_total _ s) s enough
arithmetic_total computing.Ceiling state s enough = of_one arithmetic.ceiling (λ n s. pushed_total _ s) s enough
arithmetic_total computing.Round state s enough = of_one (arithmetic.round state) (λ n s. pushed_total _ s) s enough
arithmetic_total computing.Nround state s enough = of_one arithmetic.nround (λ n s. pushed_total _ s) s enough
arithmetic_total computing.Max state s enough = of_two arithmetic.max (λ b a s. pushed_total _ s) s enough
arithmetic_total computing.Min state s enough = of_two arithmetic.min (λ b a s. pushed_total _ s) s enough

pub logic_total : LogicIsTotal
logic_total deciding.Lt state s enough = of_two logic.lt (λ b a s. pushed_total _ s) s enough
logic_total deciding.Lteq state s enough = of_two logic.lteq (λ b a s. pushed_total _ s) s enough
logic_total deciding.Gt state s enough = of_two logic.gt (λ b a s. pushed_total _ s) s enough
logic_total deciding.Gteq state s enough = of_two logic.gteq (λ b a s. pushed_total _ s) s enough
logic_total deciding.Eq state s enough = of_two logic.eq (λ b a s. pushed_total _ s) s enough
logic_total deciding.Neq state s enough = of_two logic.neq (λ b a s. pushed_total _ s) s enough
logic_total deciding.Odd state s enough = of_one (logic.odd state) (λ e s. pushed_total _ s) s enough
logic_total deciding.Even state s enough = of_one (logic.even state) (λ e s. pushed_total _ s) s enough
logic_total deciding.And state s enough = of_two logic.and (λ b a s. pushed_total _ s) s enough
logic_total deciding.Or state s enough = of_two logic.or (λ b a s. pushed_total _ s) s enough
logic_total deciding.Not state s enough = of_one logic.negated (λ e s. pushed_total _ s) s enough

roll_short : (s : List ℤ) → length s < 3 → managing.roll s ≡ Err why.StackShort
roll_short [] few = refl
roll_short (c ∷ []) few = refl
roll_short (c ∷ b ∷ []) few = refl
roll_short (c ∷ b ∷ a ∷ s) few = absurd (omega arith)

pub managing_short : ManagingIsShort
managing_short op.Dup t s few = short_of_one managing.dup refl s few
managing_short op.Pop t s few = short_of_one managing.pop refl s few
managing_short op.Clear t s few = absurd (omega arith)
managing_short op.Swap t s few = short_of_two managing.swap refl (λ a. refl) s few
managing_short op.Depth t s few = absurd (omega arith)
managing_short op.Cindex t s few = short_of_one (managing.cindex t) refl s few
managing_short op.Mindex t s few = short_of_one (managing.mindex t) refl s few
managing_short op.Roll t s few = roll_short s few

pub arithmetic_short : ArithmeticIsShort
arithmetic_short computing.Add state s few = short_of_two arithmetic.add refl (λ a. refl) s few
arithmetic_short computing.Sub state s few = short_of_two arithmetic.sub refl (λ a. refl) s few
arithmetic_short computing.Div state s few = short_of_two arithmetic.div refl (λ a. refl) s few
arithmetic_short computing.Mul state s few = short_of_two arithmetic.mul refl (λ a. refl) s few
arithmetic_short computing.Abs state s few = short_of_one arithmetic.abs refl s few
arithmetic_short computing.Neg state s few = short_of_one arithmetic.neg refl s few
arithmetic_short computing.Floor state s few = short_of_one arithmetic.floor refl s few
arithmetic_short computing.Ceiling state s few = short_of_one arithmetic.ceiling refl s few
arithmetic_short computing.Round state s few = short_of_one (arithmetic.round state) refl s few
arithmetic_short computing.Nround state s few = short_of_one arithmetic.nround refl s few
arithmetic_short computing.Max state s few = short_of_two arithmetic.max refl (λ a. refl) s few
arithmetic_short computing.Min state s few = short_of_two arithmetic.min refl (λ a. refl) s few

pub logic_short : LogicIsShort
logic_short deciding.Lt state s few = short_of_two logic.lt refl (λ a. refl) s few
logic_short deciding.Lteq state s few = short_of_two logic.lteq refl (λ a. refl) s few
logic_short deciding.Gt state s few = short_of_two logic.gt refl (λ a. refl) s few
logic_short deciding.Gteq state s few = short_of_two logic.gteq refl (λ a. refl) s few
logic_short deciding.Eq state s few = short_of_two logic.eq refl (λ a. refl) s few
logic_short deciding.Neq state s few = short_of_two logic.neq refl (λ a. refl) s few
logic_short deciding.Odd state s few = short_of_one (logic.odd state) refl s few
logic_short deciding.Even state s few = short_of_one (logic.even state) refl s few
logic_short deciding.And state s few = short_of_two logic.and refl (λ a. refl) s few
logic_short deciding.Or state s few = short_of_two logic.or refl (λ a. refl) s few
logic_short deciding.Not state s few = short_of_one logic.negated refl s few

padded_by : (few : Bool) (n : ℕ) (s : List ℤ) → nat_lt (length s) n ≡ few → n ≤ length (padded n s)
padded_by true n s is = rw is (omega (arith, length-replicate n (pos 0)))
padded_by false n s is = rw is (grind (arith, nat_tests))

pub padded_enough : PaddedIsEnough
padded_enough n s = padded_by (nat_lt (length s) n) n s refl

pub enough_stays : EnoughStays
enough_stays n s enough =
    let is : nat_lt (length s) n ≡ false = grind (arith, nat_tests) in
    rw is refl
