-- The bytes of a number's rows among those of all numbers, and the bits of a bitmap's rows.
use Rattle.std.proofs.Common.{◌≡◌, ◌∙◌, refl, sym, ap, subst, ℕ, zero, suc, ◌+◌, ◌-◌, ◌*◌, ◌/◌, ◌%◌, ◌<◌, Bool, true, false, ◌||◌, ◌==◌, nat_lt, if◌then◌else◌, List, [], ◌∷◌, length, slice_index, arith}
use Rattle.std.specs.Int.{bit_at}
use Rattle.std.specs.Prelude.{flat_map}
use Rattle.std.proofs.lemmas.Bool.{eqb-true}
use Rattle.std.proofs.lemmas.Bool.Decides.{nat_tests}
use Rattle.std.proofs.lemmas.List.{get_or-append-add, get_or_append_left}
use Rattle.std.proofs.lemmas.List.FromFn.{get_or-map-range_with_len}
use Rattle.std.proofs.lemmas.Nat.{div-mul-add, mod-mul-add}
use Rattle.std.proofs.lemmas.Nat.Bits.{bit_at-suc, bit_at_lowest}
use Rattle.tt_core.specs.Bits.{stride}
use Rattle.tt_picture.specs.Distinct.{is_among}
use Rattle.tt_picture.specs.Rows.{byte_at, byte_of, columns, rows, shows}
use Rattle.tt_glyphs.specs.Entries.{bytes_before}

-- the bytes of a number begin behind those of the numbers before it

byte_by : (rows : ℕ → List ℕ) (bytes : ℕ → ℕ) (n : ℕ) (ns : List ℕ) (g i : ℕ) (here : Bool) → length (rows n) ≡ bytes n
    → (n == g) ≡ here → (here || is_among g ns) ≡ true → i < length (rows g)
    → (is_among g ns ≡ true → slice_index (flat_map rows ns) (bytes_before bytes ns g + i) ≡ slice_index (rows g) i)
    → slice_index (flat_map rows (n ∷ ns)) ((if here then 0 else bytes n + bytes_before bytes ns g) + i) ≡ slice_index (rows g) i
byte_by rows bytes n ns g i true long here there within rest =
    let same : n ≡ g = eqb-true n g here in
    let inside : i < length (rows n) = subst (λ (k : ℕ). i < length (rows k)) (sym same) within in
    let start : 0 + i ≡ i = omega arith in
    ap (slice_index (flat_map rows (n ∷ ns))) start ∙ get_or_append_left (rows n) (flat_map rows ns) 0 i inside
    ∙ ap (λ (k : ℕ). slice_index (rows k) i) same
byte_by rows bytes n ns g i false long here there within rest =
    let before : ℕ = bytes_before bytes ns g in
    let at : (bytes n + before) + i ≡ length (rows n) + (before + i) = omega (arith, long) in
    ap (slice_index (flat_map rows (n ∷ ns))) at ∙ get_or-append-add (rows n) (flat_map rows ns) (before + i) 0 ∙ rest there

pub byte_among : (rows : ℕ → List ℕ) (bytes : ℕ → ℕ) → ((n : ℕ) → length (rows n) ≡ bytes n) → (ns : List ℕ) (g i : ℕ)
    → is_among g ns ≡ true → i < length (rows g)
    → slice_index (flat_map rows ns) (bytes_before bytes ns g + i) ≡ slice_index (rows g) i
byte_among rows bytes long [] g i there within = absurd cc
byte_among rows bytes long (n ∷ ns) g i there within =
    byte_by rows bytes n ns g i (n == g) (long n) refl there within
    (λ behind. byte_among rows bytes long ns g i behind within)

-- the bits of columns

columns_bit : (n i : ℕ) (is_black : ℕ → Bool) → i < n
    → bit_at (columns n is_black) i ≡ (if is_black (n - 1 - i) then 1 else 0)
columns_bit zero i is_black within = absurd (omega (arith, within))
columns_bit (suc n) zero is_black within =
    let last : suc n - 1 - 0 ≡ n = omega arith in
    let low : (2 * columns n is_black + (if is_black n then 1 else 0)) % 2 ≡ (if is_black n then 1 else 0) =
    lowest (columns n is_black) (is_black n) in
    rw (bit_at_lowest, last) low
  where
    lowest : (k : ℕ) (b : Bool) → (2 * k + (if b then 1 else 0)) % 2 ≡ (if b then 1 else 0)
    lowest k true = omega arith
    lowest k false = omega arith
columns_bit (suc n) (suc i) is_black within =
    let earlier : suc n - 1 - suc i ≡ n - 1 - i = omega arith in
    let half : (2 * columns n is_black + (if is_black n then 1 else 0)) / 2 ≡ columns n is_black =
    halved (columns n is_black) (is_black n) in
    rw (bit_at-suc, half, earlier) (columns_bit n i is_black (omega (arith, within)))
  where
    halved : (k : ℕ) (b : Bool) → (2 * k + (if b then 1 else 0)) / 2 ≡ k
    halved k true = omega arith
    halved k false = omega arith

one_or_zero : (b : Bool) → ((if b then 1 else 0) == 1) ≡ b
one_or_zero true = refl
one_or_zero false = refl

-- column c of row r among the bytes of a bitmap's rows
pub row_bit : (w n c r : ℕ) (black : ℕ → ℕ → Bool) → c < w → stride w * r + c / 8 < n
    → (bit_at (slice_index (rows w black 0 n) (stride w * r + c / 8)) (7 - c % 8) == 1) ≡ black c r
row_bit w n c r black inside within =
    let at : ℕ = stride w * r + c / 8 in
    let low : c / 8 < stride w = omega (arith, inside) in
    let place : at ≡ r * stride w + c / 8 = omega arith in
    let row : at / stride w ≡ r = rw place (div-mul-add r (stride w) (c / 8) low) in
    let byte : at % stride w ≡ c / 8 = rw place (mod-mul-add r (stride w) (c / 8) low) in
    let there : slice_index (rows w black 0 n) at ≡ byte_at w black at =
    get_or-map-range_with_len (byte_at w black) 0 n at at 0 within (omega arith) in
    let its : byte_at w black at ≡ byte_of w black r (c / 8) = rw (row, byte) refl in
    let back : 8 - 1 - (7 - c % 8) ≡ c % 8 = omega arith in
    let column : 8 * (c / 8) + c % 8 ≡ c = omega arith in
    let shown : nat_lt c w ≡ true = grind (arith, nat_tests, inside) in
    let black_there : shows w black r (8 * (c / 8) + c % 8) ≡ black c r = rw (column, shown) refl in
    let bit : bit_at (byte_of w black r (c / 8)) (7 - c % 8) ≡ (if shows w black r (8 * (c / 8) + c % 8) then 1 else 0) =
    rw back at (columns_bit 8 (7 - c % 8) (λ j. shows w black r (8 * (c / 8) + j)) (omega arith)) in
    ap (λ (b : ℕ). bit_at b (7 - c % 8) == 1) (there ∙ its) ∙ ap (λ (b : ℕ). b == 1) bit
    ∙ one_or_zero (shows w black r (8 * (c / 8) + c % 8)) ∙ black_there
