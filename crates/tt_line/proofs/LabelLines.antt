-- The lines of a label, one below the other.
use Rattle.std.proofs.Common.{◌≡◌, refl, ap, ℕ, ◌+◌, ◌-◌, ◌*◌, ◌<◌, ◌≤◌, ℤ, pos, ◌+ℤ◌, ◌≤ℤ◌, unsigned_abs, List, [], ◌∷◌, length, map, Ok, Err, arith}
use Rattle.std.proofs.lemmas.Int.{ints}
use Rattle.std.proofs.lemmas.Nat.{mul-le}
use Rattle.tt_core.specs.declared.fault.JobFault.{JobFault}
use Rattle.tt_line.specs.declared.align.Align.{Align}
use Rattle.tt_line.specs.declared.label_extent.LabelExtent.{LabelExtent}
use Rattle.tt_line.specs.Labels.{label_extent, label_limited, label_placement, line_step_of, lines_placed, some_line, widest}
use Rattle.tt_line.specs.Layout.{depth_of, rise_of}
use Rattle.tt_metrics.specs.Metrics.{Metrics}

-- a base line is no lower than that of the last line
pub below_last : (k n step h : ℕ) (rise : ℤ) → k < n → (pos ((n - 1) * step) +ℤ rise) ≤ℤ pos (614400 + h)
    → unsigned_abs rise ≤ 614400 → unsigned_abs (pos (k * step) +ℤ rise) ≤ 614400 + h
below_last k n step h rise below last first =
    let most : k * step ≤ (n - 1) * step = mul-le k step (n - 1) step (omega (arith, below)) (omega arith) in
    omega (arith, ints, most, last, first)

pub one_step_more : (k step : ℕ) (rise : ℤ) → (pos (k * step) +ℤ rise) +ℤ pos step ≡ pos ((k + 1) * step) +ℤ rise
one_step_more k step rise = omega (arith, ints)

-- the extent of some lines at a size
abbrev pub extent_at : Metrics → ℕ → ℕ → List (List (ℕ × ℕ)) → LabelExtent
extent_at m ppem margin lines =
    label_extent (widest lines) margin (rise_of m ppem) (depth_of m ppem) (line_step_of m ppem) (length lines - 1)

pub placement_refused : (m : Metrics) (ppem margin : ℕ) (how : Align) (lines : List (List (ℕ × ℕ))) (e : JobFault)
    → label_limited (extent_at m ppem margin lines) ≡ Err e → label_placement m ppem margin how lines ≡ Err e
unfolding label_placement
placement_refused m ppem margin how lines e is = rw is refl

pub placement_made : (m : Metrics) (ppem margin : ℕ) (how : Align) (lines : List (List (ℕ × ℕ))) (e : LabelExtent)
    → label_limited (extent_at m ppem margin lines) ≡ Ok e
    → label_placement m ppem margin how lines ≡ Ok (lines_placed e how (widest lines) (line_step_of m ppem) (rise_of m ppem) lines)
unfolding label_placement
placement_made m ppem margin how lines e is = rw is refl

-- what is made of each of some lines, and of one empty line in place of none
pub some_made : {A B : Type 0} (f : List A → List B) (ls : List (List A)) (made : List (List B)) → made ≡ map f ls
    → 0 < length made → made ≡ map f (some_line ls)
some_made f [] made is some = absurd (let none = ap length is in omega (arith, none, some))
some_made f (l ∷ ls) made is some = is

pub none_made : {A B : Type 0} (f : List A → List B) (ls : List (List A)) (made : List (List B)) → made ≡ map f ls
    → length made ≡ 0 → f [] ≡ [] → [] ∷ [] ≡ map f (some_line ls)
none_made f [] made is none empty = rw empty refl
none_made f (l ∷ ls) made is none empty = absurd (let some = ap length is in omega (arith, none, some))
