-- The columns of a picture's rows.
use Rattle.std.proofs.Common.{◌≡◌, ◌∙◌, ap, sym, refl, ℕ, ◌+◌, ◌-◌, ◌*◌, ◌/◌, ◌%◌, ◌<◌, ◌≤◌, Bool, true, false, ◌&&◌, ◌||◌, ◌==◌, nat_lt, if◌then◌else◌, List, slice_index, suc, inl, inr, take, drop, arith}
use Rattle.std.specs.Int.{bit_at}
use Rattle.std.proofs.lemmas.Bool.{cases_eq, cases_lt, eq-eqb, le-ltb, lt-ltb, ne_eqb}
use Rattle.std.proofs.lemmas.Bool.Decides.{nat_tests}
use Rattle.std.proofs.lemmas.List.FromFn.{get_or-map-range_with_len}
use Rattle.std.proofs.lemmas.Nat.{div-mul-add, mod-mul-add, mul-le}
use Rattle.tt_bitmap.specs.Bands.{column}
use Rattle.tt_core.specs.Bits.{bit, stride}
use Rattle.tt_picture.specs.Rows.{byte_at, byte_of, columns, rows, shows}
use Rattle.tt_picture.proofs.Bands.{column_cut, column_in}
use Rattle.tt_picture.proofs.RowBytes.{columns_bit}

of_test : (b : Bool) → ((if b then 1 else 0) == 1) ≡ b
of_test true = refl
of_test false = refl

-- a column of the rows of a picture
pub row_column : (w h : ℕ) (black : ℕ → ℕ → Bool) (r c : ℕ) → r < h → c < 8 * stride w
    → column (stride w) (rows w black 0 (stride w * h)) r c ≡ (nat_lt c w && black c r)
row_column w h black r c below inside =
    let n = stride w in
    let b : ℕ = c / 8 in
    let k : ℕ = c % 8 in
    let low : b < n = omega (arith, inside) in
    let ends : n * (r + 1) ≤ n * h = mul-le n (r + 1) n h (omega arith) (omega (arith, below)) in
    let at : n * r + b < n * h = omega (arith, ends, low) in
    let here : n * r + b ≡ r * n + b = omega arith in
    let row : (n * r + b) / n ≡ r = rw here (div-mul-add r n b low) in
    let place : (n * r + b) % n ≡ b = rw here (mod-mul-add r n b low) in
    let byte : slice_index (rows w black 0 (n * h)) (n * r + b) ≡ byte_of w black r b =
    get_or-map-range_with_len (byte_at w black) 0 (n * h) (n * r + b) (n * r + b) 0 at (omega arith) ∙ rw (row, place) refl in
    let back : 8 - 1 - (7 - k) ≡ k = omega arith in
    let whole : 8 * b + k ≡ c = omega arith in
    let one : bit_at (byte_of w black r b) (7 - k) ≡ (if shows w black r (8 * b + k) then 1 else 0) =
    rw back at (columns_bit 8 (7 - k) (λ j. shows w black r (8 * b + j)) (omega arith)) in
    column_in n (rows w black 0 (n * h)) r c
    ∙ ap (λ byte. bit_at byte (7 - k) == 1) byte ∙ ap (λ n. n == 1) one ∙ of_test (shows w black r (8 * b + k))
    ∙ ap (λ c. shows w black r c) whole

or_true : (b : Bool) → (b || true) ≡ true
or_true true = refl
or_true false = refl

-- a column more is copied
pub copied : (old low here there last : Bool) → (here ≡ true → last ≡ there)
    → ((old || (low && there)) || (here && last)) ≡ (old || ((low || here) && there))
copied true low here there last same = refl
copied false true true true last same = refl
copied false true true false last same = rw (same refl) refl
copied false true false true last same = refl
copied false true false false last same = refl
copied false false true there last same = same refl
copied false false false there last same = refl

pub one_column_more : (k c : ℕ) → nat_lt k (c + 1) ≡ (nat_lt k c || (k == c))
one_column_more k c = elim (cases_eq k c) [
  | inl same ↦ rw (lt-ltb k (c + 1) (omega (arith, same)), eq-eqb k c same) (sym (or_true (nat_lt k c)))
  | inr other ↦ elim (cases_lt k c) [
    | inl below ↦ rw (lt-ltb k (c + 1) (omega (arith, below)), lt-ltb k c below) refl
    | inr over ↦ (let past : c + 1 ≤ k = omega (arith, over, other) in rw (le-ltb k (c + 1) past, le-ltb k c over, ne_eqb k c other) refl)
  ]
]

-- a column of a row of many
pub in_row : (n r c : ℕ) (bytes : List ℕ) → c < 8 * n → bit (take n (drop (n * r) bytes)) c ≡ column n bytes r c
in_row n r c bytes inside =
    let one : n ≡ n * 1 = omega arith in
    let zero_row : 8 * (n * 0) + c ≡ c = omega arith in
    ap (bit (take n (drop (n * r) bytes))) (sym zero_row)
    ∙ column_cut n r 1 0 c (n * r) n bytes refl one (omega arith) inside ∙ ap (λ k. column n bytes k c) (omega arith)

-- a copied column of a row of many
pub within_row : (n r from width k : ℕ) (bytes : List ℕ) → from + width ≤ 8 * n
    → (nat_lt k width && bit (take n (drop (n * r) bytes)) (from + k)) ≡ (nat_lt k width && column n bytes r (from + k))
within_row n r from width k bytes within = elim (cases_lt k width) [
  | inl below ↦ ap (λ b. nat_lt k width && b) (in_row n r (from + k) bytes (omega (arith, below, within)))
  | inr over ↦ rw (le-ltb k width over) refl
]
