-- A number in hexadecimal as it is formatted.
use Rattle.std.proofs.Common.{◌≡◌, ℕ, ◌-◌, ◌^◌, false, List, [], arith}
use Rattle.std.specs.Fmt.{char_count, format_spec, padded_integral}
use Rattle.std.proofs.lemmas.List.{append-nil}
use Rattle.tt_bdf.specs.Bitmap.{at_least_four}

minus_none : (n : ℕ) → n - 0 ≡ n
minus_none n = omega arith

-- `{:04X}` of some digits
pub padded_to_four : (ds : List ℕ) → padded_integral (format_spec 32 0 4 4 (2 ^ 64 - 1)) false [] ds ≡ at_least_four ds
unfolding padded_integral char_count
padded_to_four ds = simp (append-nil, minus_none)
