-- The runs of flags, one at a time.
use Rattle.std.proofs.Common.{◌≡◌, ℕ, zero, suc, ◌+◌, ◌-◌, ◌<◌, ◌≤◌, List, ◌++◌, Ok, Err, refl, ap, arith, add-one, append-nil}
use Rattle.std.proofs.Math.ListN.{replicate}
use Rattle.tt_core.specs.Faults.{Fault}
use Rattle.tt_glyf.specs.Bytes.{GlyphBytes, after}
use Rattle.tt_glyf.specs.Flags.{Run, run_at, flags_from}
use Rattle.tt_glyf.proofs.Chains.{chain-same, after-after}

-- all bounds of runs that are at least the number of points give the same flags
pub enough : (a b : ℕ) (g : GlyphBytes) (at left : ℕ) → left ≤ a → left ≤ b
    → flags_from a g at left ≡ flags_from b g at left
unfolding flags_from
enough a b g at zero la lb = refl
enough zero b g at (suc l) la lb = absurd (omega arith)
enough (suc a) zero g at (suc l) la lb = absurd (omega arith)
enough (suc a) (suc b) g at (suc l) la lb =
    chain-same (run_at g at (suc l)) _ _ (λ r. ap (after (replicate (suc r.copies) r.flag))
    (enough a b g r.next (l - r.copies) (omega arith) (omega arith)))

-- a run, then the runs after it
pub turn : (g : GlyphBytes) (before : List ℕ) (at left : ℕ) (r : Run) → 0 < left → r.copies < left
    → run_at g at left ≡ Ok r → after before (flags_from left g at left) ≡ after
    (before ++ replicate (r.copies + 1) r.flag) (flags_from (left - (r.copies + 1)) g r.next (left - (r.copies + 1)))
unfolding flags_from
turn g before at zero r some within was = absurd (omega arith)
turn g before at (suc l) r some within was =
    let rest : suc l - (r.copies + 1) ≡ l - r.copies = omega arith in
    let fuel = enough l (l - r.copies) g r.next (l - r.copies) (omega arith) (omega arith) in
    rw (rest, was, after-after, fuel, add-one) refl

-- a run that is refused
pub breaks : (g : GlyphBytes) (before : List ℕ) (at left : ℕ) (f : Fault) → 0 < left → run_at g at left ≡ Err f
    → after before (flags_from left g at left) ≡ Err f
unfolding flags_from
breaks g before at zero f some was = absurd (omega arith)
breaks g before at (suc l) f some was = rw was refl

-- no points remain
pub done : (g : GlyphBytes) (before : List ℕ) (at left : ℕ) → left ≡ 0
    → after before (flags_from left g at left) ≡ Ok (record { items = before; next = at })
unfolding flags_from
done g before at left none = rw (none, append-nil) refl
