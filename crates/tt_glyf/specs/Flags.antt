-- OpenType, "The 'glyf' table", "Simple Glyph Flags". A flag byte is for one point, or for a run of points if it says
-- that the next byte counts further copies. Bits 64 and 128 are ignored (profile).
use Rattle.std.specs.Prelude.{ℕ, zero, suc, ◌+◌, ◌-◌, nat_lt, if◌then◌else◌, [], replicate, Result, Ok, Err}
use Rattle.tt_core.specs.Faults.{Fault}
use Rattle.tt_core.specs.declared.fault.Why.TheVariants as why
use Rattle.tt_core.specs.Outcomes.{◌>>=◌}
use Rattle.tt_glyf.specs.Format.{has, repeat_flag}
use Rattle.tt_glyf.specs.Bytes.{GlyphBytes, Listing, byte_in, glyph_fault, after}

-- a flag, the number of its further points, and the offset after it
pub record Run : Type 0 where
  pub flag : ℕ
  pub copies : ℕ
  pub next : ℕ

-- copies past the last point are refused
abbrev pub run_within : GlyphBytes → ℕ → ℕ → Run → Result Run Fault
run_within g at left r = if nat_lt r.copies left then Ok r else Err (glyph_fault g at why.FlagRun)

-- the run at an offset; the last argument is the number of remaining points
unfoldable pub run_at : GlyphBytes → ℕ → ℕ → Result Run Fault
run_at g at left = do
  flag ← byte_in g at
  if has flag repeat_flag
      then (byte_in g (at + 1) >>= λ copies. run_within g at left
      (record { flag = flag; copies = copies; next = at + 2 }))
      else Ok (record { flag = flag; copies = 0; next = at + 1 })

-- the flags of all remaining points, run by run; there are at most as many runs as points
unfoldable pub flags_from : ℕ → GlyphBytes → ℕ → ℕ → Result (Listing ℕ) Fault
flags_from runs g at zero = Ok (record { items = []; next = at })
flags_from zero g at (suc left) = Ok (record { items = []; next = at })
flags_from (suc runs) g at (suc left) = do
  r ← run_at g at (suc left)
  after (replicate (suc r.copies) r.flag) (flags_from runs g r.next (left - r.copies))

-- the flags of the given number of points
abbrev pub flags_of : GlyphBytes → ℕ → ℕ → Result (Listing ℕ) Fault
flags_of g at points = flags_from points g at points
