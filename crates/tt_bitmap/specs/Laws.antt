-- Lemmas about painting and ink, as statements.
use Rattle.std.specs.Prelude.{◌≡◌, ℕ, ◌*◌, ◌<◌, Bool, ◌||◌, ℤ, ◌-ℤ◌, List, Option}
use Rattle.tt_bitmap.specs.Bands.{IsBandBlackened, column}
use Rattle.tt_bitmap.specs.Inks.{IsInk, IsLeastBox, joined, moved_box}
use Rattle.tt_bitmap.specs.declared.ink.LeastBox.{LeastBox}

-- two bands show the same
abbrev pub AreAlike : ℕ → ℕ → List ℕ → List ℕ → Type 0
AreAlike bytes rows one other = (i c : ℕ) → i < rows → c < 8 * bytes → column bytes one i c ≡ column bytes other i c

-- where one is painted and then another, a pixel is black by either
abbrev pub PaintingIsOr : Type 0
PaintingIsOr = (bytes rows : ℕ) (f g : ℕ → ℕ → Bool) (old mid new : List ℕ) → IsBandBlackened bytes rows f old mid
    → IsBandBlackened bytes rows g mid new → IsBandBlackened bytes rows (λ i c. f i c || g i c) old new

-- either order shows the same
abbrev pub OrderChangesNothing : Type 0
OrderChangesNothing = (bytes rows : ℕ) (f g : ℕ → ℕ → Bool) (old f_first both g_first other : List ℕ)
    → IsBandBlackened bytes rows f old f_first → IsBandBlackened bytes rows g f_first both
    → IsBandBlackened bytes rows g old g_first → IsBandBlackened bytes rows f g_first other → AreAlike bytes rows both other

-- painting twice shows what painting once does
abbrev pub TwiceIsOnce : Type 0
TwiceIsOnce = (bytes rows : ℕ) (f : ℕ → ℕ → Bool) (old once twice : List ℕ) → IsBandBlackened bytes rows f old once
    → IsBandBlackened bytes rows f once twice → AreAlike bytes rows twice once

-- two boxes joined are the box of the pixels that are black in either
abbrev pub JoinedHoldsBoth : Type 0
JoinedHoldsBoth = (black other : ℤ → ℤ → Bool) (a b : Option LeastBox) → IsInk black a → IsInk other b
    → IsInk (λ c j. black c j || other c j) (joined a b)

-- the box of moved pixels is the moved box
abbrev pub InkMoves : Type 0
InkMoves = (black : ℤ → ℤ → Bool) (b : LeastBox) (right up : ℤ) → IsLeastBox black b
    → IsLeastBox (λ c j. black (c -ℤ right) (j -ℤ up)) (moved_box right up b)
