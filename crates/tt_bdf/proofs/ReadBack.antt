-- The lines of a bitmap's rows are read as its rows.
use Rattle.std.proofs.Common.{◌≡◌, ◌∙◌, refl, ap, ap₂, ℕ, ◌+◌, ◌-◌, ◌*◌, ◌/◌, ◌%◌, ◌<◌, ◌≤◌, ◌⊎◌, inl, inr, ◌==◌, nat_le, nat_lt, true, false, List, [], ◌∷◌, ◌++◌, All, flat_map, map, drop, arith}
use Rattle.std.specs.Fmt.{digit_glyph}
use Rattle.std.specs.List.{range_with_len}
use Rattle.std.proofs.lemmas.Bool.{cases_lt}
use Rattle.std.proofs.lemmas.Bool.Decides.{nat_tests}
use Rattle.std.proofs.lemmas.List.Elements.{All-drop, All-head, All-tail, All-take}
use Rattle.tt_bdf.specs.Bitmap.{byte_digits, row_at, row_text}
use Rattle.tt_core.specs.Cutting.{pieces}
use Rattle.tt_bdf.specs.Reading.{RowsReadBack, bytes_of_line, digit_value, rows_in}

-- a digit has its value, and is no line feed

record IsDigit (n d : ℕ) : Type 0 where
  value : digit_value d ≡ n
  other : (d == 10) ≡ false

digit_by : (n : ℕ) → n < 16 → (n < 10) ⊎ (10 ≤ n) → IsDigit n (digit_glyph true n)
digit_by n small (inl below) =
    let test : nat_lt n 10 ≡ true = grind (arith, nat_tests, below) in
    let low : nat_le 48 (48 + n) ≡ true = grind (arith, nat_tests) in
    let high : nat_le (48 + n) 57 ≡ true = grind (arith, nat_tests, below) in
    let value : 48 + n - 48 ≡ n = omega arith in
    let other : (48 + n == 10) ≡ false = grind (arith, nat_tests) in
    record { value = rw (test, low, high) value; other = rw test other }
digit_by n small (inr above) =
    let test : nat_lt n 10 ≡ false = grind (arith, nat_tests, above) in
    let low : nat_le 48 (55 + n) ≡ true = grind (arith, nat_tests) in
    let past : nat_le (55 + n) 57 ≡ false = grind (arith, nat_tests, above) in
    let letter : nat_le 65 (55 + n) ≡ true = grind (arith, nat_tests, above) in
    let high : nat_le (55 + n) 70 ≡ true = grind (arith, nat_tests, small) in
    let value : 55 + n - 55 ≡ n = omega arith in
    let other : (55 + n == 10) ≡ false = grind (arith, nat_tests) in
    record { value = rw (test, low, past, letter, high) value; other = rw test other }

digit_is : (n : ℕ) → n < 16 → IsDigit n (digit_glyph true n)
digit_is n small = digit_by n small (cases_lt n 10)

-- the digits of a row are its line, and have its bytes

bytes_read : (row : List ℕ) → All (λ (b : ℕ). b < 256) row → bytes_of_line (flat_map byte_digits row) ≡ row
bytes_read [] all = refl
bytes_read (b ∷ bs) all =
    let P : ℕ → Type 0 = λ c. c < 256 in
    let small : b < 256 = All-head P b bs all in
    let high = digit_is (b / 16) (omega (arith, small)) in
    let low = digit_is (b % 16) (omega arith) in
    let byte : 16 * digit_value (digit_glyph true (b / 16)) + digit_value (digit_glyph true (b % 16)) ≡ b =
    omega (arith, high.value, low.value) in
    ap₂ (λ (c : ℕ) (cs : List ℕ). c ∷ cs) byte (bytes_read bs (All-tail P b bs all))

line_cut : (row rest : List ℕ) → All (λ (b : ℕ). b < 256) row
    → pieces 10 (row_text row ++ rest) ≡ flat_map byte_digits row ∷ pieces 10 rest
line_cut [] rest all = refl
line_cut (b ∷ bs) rest all =
    let P : ℕ → Type 0 = λ c. c < 256 in
    let small : b < 256 = All-head P b bs all in
    let high = digit_is (b / 16) (omega (arith, small)) in
    let low = digit_is (b % 16) (omega arith) in
    rw (high.other, low.other, line_cut bs rest (All-tail P b bs all)) refl

lines_read : (row : ℕ → List ℕ) (ns : List ℕ) → ((n : ℕ) → All (λ (b : ℕ). b < 256) (row n))
    → rows_in (flat_map (λ n. row_text (row n)) ns) ≡ map row ns ++ [] ∷ []
lines_read row [] all = refl
lines_read row (n ∷ ns) all =
    ap (map bytes_of_line) (line_cut (row n) (flat_map (λ k. row_text (row k)) ns) (all n))
    ∙ ap₂ (λ (r : List ℕ) (rs : List (List ℕ)). r ∷ rs) (bytes_read (row n) (all n)) (lines_read row ns all)

pub rows_read_back : RowsReadBack
rows_read_back bitmap stride height all =
    let P : ℕ → Type 0 = λ b. b < 256 in
    lines_read (row_at bitmap stride) (range_with_len 0 height)
    (λ n. All-take P (stride * (n + 1) - stride * n) (drop (stride * n) bitmap) (All-drop P (stride * n) bitmap all))
