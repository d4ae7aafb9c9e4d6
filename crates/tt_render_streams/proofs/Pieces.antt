-- The pieces that a picture's file is written by.
use Rattle.std.proofs.Common.{◌≡◌, ◌∙◌, ℕ, zero, suc, ◌+◌, ◌-◌, ◌*◌, ◌<◌, ◌≤◌, List, [], ◌∷◌, ◌++◌, length, take, drop, ap, sym, refl, append_assoc, length-append, length-drop, length-take, length-take-le, arith, take_at}
use Rattle.std.proofs.Math.Seq.{take-append-add}
use Rattle.std.proofs.lemmas.List.{take-append-drop}
use Rattle.std.proofs.lemmas.Nat.{mul-le}
use Rattle.std.proofs.lemmas.Slice.{take-put_mid}
use borrow.Rule.Slice.PartMut.{put_mid}

-- a header, and then rows, at the front of a piece
pub first_piece : (h len : ℕ) (piece head band : List ℕ) → length head ≡ h → h + length band ≡ len
    → take len (put_mid h (len - h) (head ++ drop h piece) band) ≡ head ++ band
first_piece h len piece head band long ends =
    take-put_mid h (len - h) (head ++ drop h piece) band len (sym ends) (omega (arith, length-append head (drop h piece), long))
    ∙ ap (λ xs. xs ++ band) (take_at head (drop h piece) h long)

-- the number of bytes of rows that are there
pub rows_long : (n r count height : ℕ) (rows : List ℕ) → r + count ≤ height → length rows ≡ n * height
    → length (take (n * count) (drop (n * r) rows)) ≡ n * count
rows_long n r count height rows within whole =
    let most : n * (r + count) ≤ n * height = mul-le n (r + count) n height (omega arith) within in
    length-take-le (n * count) (drop (n * r) rows) (omega (arith, length-drop (n * r) rows, whole, most))

-- the first rows, and then the others
pub split_rows : (m : ℕ) (first rows : List ℕ) → (first ++ take m rows) ++ drop m rows ≡ first ++ rows
split_rows m first rows =
    append_assoc first (take m rows) (drop m rows) ∙ ap (λ xs. first ++ xs) (take-append-drop m rows)

-- fewer bytes of a front
fewer : (n m : ℕ) (bytes : List ℕ) → n ≤ m → take n (take m bytes) ≡ take n bytes
fewer zero m bytes within = refl
fewer (suc n) zero bytes within = absurd (omega (arith, within))
fewer (suc n) (suc m) [] within = refl
fewer (suc n) (suc m) (b ∷ bytes) within = ap (λ bs. b ∷ bs) (fewer n m bytes (omega (arith, within)))

pub part_of_first : (sent m : ℕ) (first rows : List ℕ) → sent ≤ length first + m
    → take sent (first ++ take m rows) ≡ take sent (first ++ rows)
part_of_first sent m first rows few =
    ap (take sent) (sym (take-append-add first rows m)) ∙ fewer sent (length first + m) (first ++ rows) few

pub sent_within : (sent m : ℕ) (first rows : List ℕ) → sent < length (first ++ take m rows)
    → (sent ≤ length first + m) × (sent < length (first ++ rows))
sent_within sent m first rows within =
    let front = length-append first (take m rows) in
    let whole = length-append first rows in
    let few : length (take m rows) ≤ m = omega (arith, length-take {A = ℕ}) in
    let part : length (take m rows) ≤ length rows = omega (arith, length-take {A = ℕ}) in
    (omega (arith, within, front, few), omega (arith, within, front, whole, part))

-- rows from the first on
pub first_rows : (n count : ℕ) (rows : List ℕ) → take (n * count) (drop (n * 0) rows) ≡ take (n * count) rows
first_rows n count rows = let none : n * 0 ≡ 0 = omega arith in rw none refl

-- some rows end within all of them
pub rows_end : (n r count height : ℕ) (rows : List ℕ) → r + count ≤ height → length rows ≡ n * height
    → n * r + n * count ≤ length rows
rows_end n r count height rows within whole =
    let most : n * (r + count) ≤ n * height = mul-le n (r + count) n height (omega arith) within in
    omega (arith, most, whole)

-- bytes written at the front of a piece do not change its length
pub piece_stays : (k : ℕ) (piece band : List ℕ) → k ≤ length piece → length band ≡ length (take k piece)
    → length (band ++ drop k piece) ≡ length piece
piece_stays k piece band within same =
    let cut = length-take-le k piece within in
    omega (arith, length-append band (drop k piece), length-drop k piece, same, cut, within)
