-- The rows of a window, a few at a time.
use Rattle.std.proofs.Common.{◌≡◌, refl, sym, ℕ, ◌+◌, Bool, true, false, ◌&&◌, ◌||◌, arith}
use Rattle.std.specs.Prelude.{ℤ, pos, ◌+ℤ◌, ◌≤ℤ◌, ◌<ℤ◌, int_le, int_lt}
use Rattle.std.proofs.lemmas.Int.{by_lt_z, ints}
use Rattle.tt_scan_dropouts.specs.Windows.{has, is_within}
use Rattle.tt_scan_dropouts.specs.declared.window.Window.{Window}

le : (a b : ℤ) → a ≤ℤ b → int_le a b ≡ true
le a b order = grind (arith, ints)

not_le : (a b : ℤ) → b <ℤ a → int_le a b ≡ false
not_le a b order = grind (arith, ints)

lt : (a b : ℤ) → a <ℤ b → int_lt a b ≡ true
lt a b order = grind (arith, ints)

not_lt : (a b : ℤ) → b ≤ℤ a → int_lt a b ≡ false
not_lt a b order = grind (arith, ints)

or_false : (b : Bool) → (b || false) ≡ b
or_false true = refl
or_false false = refl

none_of : (first j : ℤ) → is_within first 0 j ≡ false
none_of first j = grind (arith, ints)

outside : (a k : Bool) → false ≡ ((a && false) && k)
outside true k = refl
outside false k = refl

-- no row yet
pub no_rows : (w : Window) (c j : ℤ) (is : Bool)
    → false ≡ (has (record { left = w.left; bottom = w.bottom; width = w.width; height = 0 }) c j && is)
no_rows w c j is = rw (none_of w.bottom j) (outside (is_within w.left w.width c) is)

next_above : (first j : ℤ) (a b : ℕ) → is_within first (a + b) j
    ≡ (is_within first a j || is_within (first +ℤ pos a) b j)
next_above first j a b =
    let end : first +ℤ pos (a + b) ≡ (first +ℤ pos a) +ℤ pos b = omega (arith, ints) in
    rw end
    (by_lt_z j (first +ℤ pos a)
    (λ below.
    let none : int_le (first +ℤ pos a) j ≡ false = not_le (first +ℤ pos a) j below in
    let first_part : int_lt j (first +ℤ pos a) ≡ true = lt j (first +ℤ pos a) below in
    let both : int_lt j ((first +ℤ pos a) +ℤ pos b) ≡ true =
    lt j ((first +ℤ pos a) +ℤ pos b) (omega (arith, ints, below)) in
    rw (none, first_part, both) (sym (or_false (int_le first j && true))))
    (λ above.
    let low : int_le (first +ℤ pos a) j ≡ true = le (first +ℤ pos a) j above in
    let from : int_le first j ≡ true = le first j (omega (arith, ints, above)) in
    let past : int_lt j (first +ℤ pos a) ≡ false = not_lt j (first +ℤ pos a) above in
    rw (low, from, past) refl))

absorbed : (k l : Bool) → (k || (l && k)) ≡ k
absorbed true l = refl
absorbed false true = refl
absorbed false false = refl

halves : (a b more l k : Bool) → more ≡ (b || l) → (((a && b) && k) || ((a && l) && k)) ≡ ((a && more) && k)
halves false b more l k is = refl
halves true true more l k is = rw is (absorbed k l)
halves true false more l k is = rw is refl

-- a few rows more
pub rows_more : (w : Window) (done height : ℕ) (c j : ℤ) (is : Bool)
    → ((has (record { left = w.left; bottom = w.bottom; width = w.width; height = done }) c j && is)
    || (has (record { left = w.left; bottom = w.bottom +ℤ pos done; width = w.width; height = height }) c j && is))
    ≡ (has (record { left = w.left; bottom = w.bottom; width = w.width; height = done + height }) c j && is)
rows_more w done height c j is =
    halves (is_within w.left w.width c) (is_within w.bottom done j) (is_within w.bottom (done + height) j)
    (is_within (w.bottom +ℤ pos done) height j) is (next_above w.bottom j done height)
