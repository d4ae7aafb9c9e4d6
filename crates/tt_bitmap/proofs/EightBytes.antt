-- Eight bytes of a row as one number.
use Rattle.std.proofs.Common.{◌≡◌, ◌∙◌, sym, ap, refl, ℕ, zero, suc, ◌+◌, ◌-◌, ◌*◌, ◌/◌, ◌%◌, ◌<◌, ◌≤◌, Bool, true, false, ◌&&◌, ◌||◌, ◌==◌, nat_le, nat_lt, List, length, take, drop, slice_index, bit_or, w64, arith, inl, inr, length-take}
use Rattle.std.specs.Int.{bit_at, to_le_bytes, to_be_bytes, from_le_bytes, swap_bytes}
use Rattle.std.proofs.lemmas.Bool.Decides.{nat_tests}
use Rattle.std.proofs.lemmas.Bool.{cases_lt}
use Rattle.std.proofs.lemmas.List.{get_or-take, get_or-drop, get_or_past}
use Rattle.std.proofs.lemmas.Nat.{le_bytes_8, be_bytes_8}
use Rattle.tt_core.specs.Bits.{bit}
use Rattle.tt_bitmap.specs.Words.{in_eight}
use Rattle.tt_bitmap.proofs.Turns.{low_bit, byte_bit, or_bit}

-- bit b of byte i, the lowest byte first and the highest first

le_byte : (n i b : ℕ) → i < 8 → b < 8 → bit_at (slice_index (to_le_bytes w64 n) i) b ≡ bit_at n (8 * i + b)
le_byte n zero b within low = low_bit n b low ∙ ap (λ x. bit_at n x) (omega arith)
le_byte n (suc zero) b within low = byte_bit n 8 b low
le_byte n (suc (suc zero)) b within low = byte_bit n 16 b low
le_byte n (suc (suc (suc zero))) b within low = byte_bit n 24 b low
le_byte n (suc (suc (suc (suc zero)))) b within low = byte_bit n 32 b low
le_byte n (suc (suc (suc (suc (suc zero))))) b within low = byte_bit n 40 b low
le_byte n (suc (suc (suc (suc (suc (suc zero)))))) b within low = byte_bit n 48 b low
le_byte n (suc (suc (suc (suc (suc (suc (suc zero))))))) b within low = byte_bit n 56 b low
le_byte n (suc (suc (suc (suc (suc (suc (suc (suc i)))))))) b within low = absurd (omega arith)

be_byte : (n i b : ℕ) → i < 8 → b < 8 → bit_at (slice_index (to_be_bytes w64 n) i) b ≡ bit_at n (8 * (7 - i) + b)
be_byte n zero b within low = byte_bit n 56 b low
be_byte n (suc zero) b within low = byte_bit n 48 b low
be_byte n (suc (suc zero)) b within low = byte_bit n 40 b low
be_byte n (suc (suc (suc zero))) b within low = byte_bit n 32 b low
be_byte n (suc (suc (suc (suc zero)))) b within low = byte_bit n 24 b low
be_byte n (suc (suc (suc (suc (suc zero))))) b within low = byte_bit n 16 b low
be_byte n (suc (suc (suc (suc (suc (suc zero)))))) b within low = byte_bit n 8 b low
be_byte n (suc (suc (suc (suc (suc (suc (suc zero))))))) b within low = low_bit n b low ∙ ap (λ x. bit_at n x) (omega arith)
be_byte n (suc (suc (suc (suc (suc (suc (suc (suc i)))))))) b within low = absurd (omega arith)

le_small : (n i : ℕ) → slice_index (to_le_bytes w64 n) i < 256
le_small n zero = omega arith
le_small n (suc zero) = omega arith
le_small n (suc (suc zero)) = omega arith
le_small n (suc (suc (suc zero))) = omega arith
le_small n (suc (suc (suc (suc zero)))) = omega arith
le_small n (suc (suc (suc (suc (suc zero))))) = omega arith
le_small n (suc (suc (suc (suc (suc (suc zero)))))) = omega arith
le_small n (suc (suc (suc (suc (suc (suc (suc zero))))))) = omega arith
le_small n (suc (suc (suc (suc (suc (suc (suc (suc i)))))))) = omega arith

pub read_bit : (bytes : List ℕ) (n i b : ℕ) → length bytes ≡ 8 → ((j : ℕ) → slice_index bytes j < 256) → n ≡ from_le_bytes w64 bytes → i < 8 → b < 8
    → bit_at n (8 * i + b) ≡ bit_at (slice_index bytes i) b
read_bit bytes n i b eight small is within low =
    sym (le_byte n i b within low) ∙ ap (λ bs. bit_at (slice_index bs i) b) (le_bytes_8 bytes n eight small is)

pub written_bit : (n i b : ℕ) → i < 8 → b < 8 → bit_at (slice_index (to_le_bytes w64 n) i) b ≡ bit_at n (8 * i + b)
written_bit n i b within low = le_byte n i b within low

pub swapped_bit : (n i b : ℕ) → i < 8 → b < 8 → bit_at (swap_bytes w64 n) (8 * i + b) ≡ bit_at n (8 * (7 - i) + b)
swapped_bit n i b within low =
    let turned : to_be_bytes w64 (swap_bytes w64 n) ≡ to_le_bytes w64 n =
    be_bytes_8 (to_le_bytes w64 n) (swap_bytes w64 n) refl (le_small n) refl in
    let back : 8 * (7 - (7 - i)) + b ≡ 8 * i + b = omega arith in
    let one = be_byte (swap_bytes w64 n) (7 - i) b (omega arith) low in
    let two = le_byte n (7 - i) b (omega arith) low in
    sym (rw back at one) ∙ ap (λ bs. bit_at (slice_index bs (7 - i)) b) turned ∙ two

-- eight bytes within a row

pub eight_at : (row : List ℕ) (start i : ℕ) → i < 8 → slice_index (take (start + 8 - start) (drop start row)) i ≡ slice_index row (start + i)
eight_at row start i within = get_or-take (start + 8 - start) (drop start row) i 0 (omega arith) ∙ get_or-drop start row i 0

pub eight_small : (row : List ℕ) (start i : ℕ) → ((at : ℕ) → slice_index row at < 256) → slice_index (take (start + 8 - start) (drop start row)) i < 256
eight_small row start i small = elim (cases_lt i 8) [
  | inl within ↦ rw (eight_at row start i within) (small (start + i))
  | inr past ↦
      let short : length (take (start + 8 - start) (drop start row)) ≤ i = omega (arith, length-take {A = ℕ}) in
      rw (get_or_past (take (start + 8 - start) (drop start row)) i 0 short) (omega arith)
]

-- a word's columns in eight bytes of a row

shown : (b on from to : Bool) → from ≡ true → to ≡ true → (b || on) ≡ (b || ((from && to) && on))
shown b on from to one two = rw (one, two) refl

kept_left : (b s t : Bool) → b ≡ (b || ((false && s) && t))
kept_left true s t = refl
kept_left false s t = refl

kept_right : (b s t : Bool) → b ≡ (b || ((s && false) && t))
kept_right true s t = refl
kept_right false true t = refl
kept_right false false t = refl

pub eight_ored : (old new : List ℕ) (start word eight swapped k : ℕ) → swapped ≡ swap_bytes w64 word
    → ((i : ℕ) → i < 8 → (b : ℕ) → b < 8 → bit_at eight (8 * i + b) ≡ bit_at (slice_index old (start + i)) b)
    → ((i : ℕ) → i < 8 → (b : ℕ) → b < 8 → bit_at (slice_index new (start + i)) b ≡ bit_at (bit_or eight swapped) (8 * i + b))
    → ((at : ℕ) → at < start → slice_index new at ≡ slice_index old at)
    → ((at : ℕ) → start + 8 ≤ at → slice_index new at ≡ slice_index old at)
    → bit new k ≡ (bit old k || in_eight start word k)
eight_ored old new start word eight swapped k is read written before after = elim (cases_lt k (8 * start)) [
  | inl left ↦
      let off : nat_le (8 * start) k ≡ false = grind (arith, nat_tests) in
      let same = before (k / 8) (omega arith) in
      rw (same, off) (kept_left (bit old k) (nat_lt k (8 * start + 64)) (bit_at word (63 - (k - 8 * start)) == 1))
  | inr from ↦ elim (cases_lt k (8 * start + 64)) [
    | inl within ↦
        let here : start + (k / 8 - start) ≡ k / 8 = omega arith in
        let place : 8 * (7 - (k / 8 - start)) + (7 - k % 8) ≡ 63 - (k - 8 * start) = omega arith in
        let now : bit_at (slice_index new (k / 8)) (7 - k % 8) ≡ bit_at (bit_or eight swapped) (8 * (k / 8 - start) + (7 - k % 8)) =
        rw here at (written (k / 8 - start) (omega arith) (7 - k % 8) (omega arith)) in
        let was : bit_at eight (8 * (k / 8 - start) + (7 - k % 8)) ≡ bit_at (slice_index old (k / 8)) (7 - k % 8) =
        rw here at (read (k / 8 - start) (omega arith) (7 - k % 8) (omega arith)) in
        let turned : bit_at swapped (8 * (k / 8 - start) + (7 - k % 8)) ≡ bit_at word (63 - (k - 8 * start)) =
        ap (λ n. bit_at n (8 * (k / 8 - start) + (7 - k % 8))) is
        ∙ swapped_bit word (k / 8 - start) (7 - k % 8) (omega arith) (omega arith) ∙ ap (λ x. bit_at word x) place in
        let one : nat_le (8 * start) k ≡ true = grind (arith, nat_tests) in
        let two : nat_lt k (8 * start + 64) ≡ true = grind (arith, nat_tests) in
        ap (λ n. n == 1) now ∙ or_bit eight swapped (8 * (k / 8 - start) + (7 - k % 8))
        ∙ rw (was, turned) (shown (bit old k) (bit_at word (63 - (k - 8 * start)) == 1) (nat_le (8 * start) k) (nat_lt k (8 * start + 64)) one two)
    | inr past ↦
        let off : nat_lt k (8 * start + 64) ≡ false = grind (arith, nat_tests) in
        let same = after (k / 8) (omega arith) in
        rw (same, off) (kept_right (bit old k) (nat_le (8 * start) k) (bit_at word (63 - (k - 8 * start)) == 1))
  ]
]
