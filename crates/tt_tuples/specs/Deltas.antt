-- OpenType, "OpenType Font Variations Common Table Formats", "Packed deltas": runs of zeros, bytes or words. A run past
-- the last delta is refused (profile).
use Rattle.std.specs.Prelude.{◌≡◌, refl, ℕ, zero, suc, ◌+◌, ◌-◌, ◌%◌, ◌==◌, nat_lt, nat_le, if◌then◌else◌, ℤ, pos, negsuc, List, [], ◌∷◌, Result, Ok, Err}
use Rattle.tt_core.specs.Outcomes.{◌>>=◌}
use Rattle.tt_tuples.specs.declared.deltas.DeltaSize.{DeltaSize}
use Rattle.tt_tuples.specs.declared.deltas.DeltaSize.TheVariants as size
use Rattle.tt_core.specs.Faults.{Fault}
use Rattle.tt_tuples.specs.Bytes.{TupleStore, Read, after, broken, byte_in, glyph_at_100, gvar_fault, signed8, signed_in}

-- a run of deltas: the place of the next one, how many remain, and their size
pub record DeltaRun : Type 0 where
  pub at : ℕ
  pub left : ℕ
  pub size : DeltaSize

-- no run, before a place
abbrev pub no_deltas : ℕ → DeltaRun
no_deltas at = record { at = at; left = 0; size = size.Zeros }

-- the size in the highest bits of a run's first byte
abbrev pub size_in : ℕ → DeltaSize
size_in c = if nat_le 128 c then size.Zeros else (if nat_le 64 c then size.Words else size.Bytes)

-- the run that begins at a place; the last argument is the number of deltas to be read
unfoldable pub delta_run_at : TupleStore → ℕ → ℕ → Result DeltaRun Fault
delta_run_at store at count = do
  c ← byte_in store at
  if nat_lt count (c % 64 + 1) then Err (broken store at)
      else Ok (record { at = at + 1; left = c % 64 + 1; size = size_in c })

-- the run of the next delta: a run that has ended is followed by another
abbrev pub delta_run : TupleStore → DeltaRun → ℕ → Result DeltaRun Fault
delta_run store r count = if r.left == 0 then delta_run_at store r.at count else Ok r

-- the delta at a place, and the bytes that it takes
abbrev pub sized_delta : DeltaSize → TupleStore → ℕ → Result ℤ Fault
sized_delta size.Zeros store at = Ok (pos 0)
sized_delta size.Bytes store at = byte_in store at >>= λ n. Ok (signed8 n)
sized_delta size.Words store at = signed_in store at

abbrev pub bytes_of : DeltaSize → ℕ
bytes_of size.Zeros = 0
bytes_of size.Bytes = 1
bytes_of size.Words = 2

-- a run after its next delta
abbrev pub delta_passed : DeltaRun → DeltaRun
delta_passed r = record { at = r.at + bytes_of r.size; left = r.left - 1; size = r.size }

-- a delta, and the run after it
pub record PackedDelta : Type 0 where
  pub delta : ℤ
  pub run : DeltaRun

unfoldable pub next_delta : TupleStore → DeltaRun → ℕ → Result PackedDelta Fault
next_delta store r count = do
  run ← delta_run store r count
  delta ← sized_delta run.size store run.at
  Ok (record { delta = delta; run = delta_passed run })

-- the given number of deltas
unfoldable pub deltas_from : TupleStore → ℕ → DeltaRun → Result (Read (List ℤ)) Fault
deltas_from store zero r = Ok (record { value = []; next = r.at })
deltas_from store (suc count) r =
    next_delta store r (suc count) >>= λ d. after (d.delta ∷ []) (deltas_from store count d.run)

-- the deltas at a place
abbrev pub deltas_at : TupleStore → ℕ → ℕ → Result (Read (List ℤ)) Fault
deltas_at store at count = deltas_from store count (no_deltas at)

-- worked values
abbrev deltas_are : List ℕ → ℕ → List ℤ → ℕ → Type 0
deltas_are bytes count deltas next = deltas_at (glyph_at_100 bytes) 0 count ≡ Ok (record { value = deltas; next = next })

zeros_and_bytes : deltas_are (0x81 ∷ 1 ∷ 64 ∷ 192 ∷ 0x80 ∷ 9 ∷ []) 5 (pos 0 ∷ pos 0 ∷ pos 64 ∷ negsuc 63 ∷ pos 0 ∷ []) 5
unfolding deltas_from next_delta delta_run_at byte_in
zeros_and_bytes = refl

words : deltas_are (0x41 ∷ 1 ∷ 44 ∷ 255 ∷ 254 ∷ []) 2 (pos 300 ∷ negsuc 1 ∷ []) 5
unfolding deltas_from next_delta delta_run_at byte_in signed_in
words = refl

-- with both bits zeros
zeros_with_both_bits : deltas_are (0xC1 ∷ []) 2 (pos 0 ∷ pos 0 ∷ []) 1
unfolding deltas_from next_delta delta_run_at byte_in
zeros_with_both_bits = refl

no_delta_reads_nothing : deltas_at (glyph_at_100 []) 7 0 ≡ Ok (record { value = []; next = 7 })
unfolding deltas_from
no_delta_reads_nothing = refl

a_run_past_the_last : deltas_at (glyph_at_100 (0 ∷ 5 ∷ 0x82 ∷ [])) 0 3 ≡ Err (gvar_fault 102)
unfolding deltas_from next_delta delta_run_at byte_in
a_run_past_the_last = refl

deltas_that_end_early : deltas_at (glyph_at_100 (0x41 ∷ 1 ∷ 44 ∷ 255 ∷ [])) 0 2 ≡ Err (gvar_fault 104)
unfolding deltas_from next_delta delta_run_at byte_in signed_in
deltas_that_end_early = refl
