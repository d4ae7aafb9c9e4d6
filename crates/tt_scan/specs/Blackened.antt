-- No part of the standard: a row of bytes where more pixels are black.
use Rattle.std.specs.Prelude.{◌≡◌, ℕ, Bool, ◌||◌, List, length}
use Rattle.tt_core.specs.Bits.{bit}

-- the bits of some columns are set, and all other bits are unchanged
pub record IsBlackened (black : ℕ → Bool) (old new : List ℕ) : Type 0 where
  pub bits : (k : ℕ) → bit new k ≡ (bit old k || black k)
  pub len : length new ≡ length old
