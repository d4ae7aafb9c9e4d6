-- Rows of bytes one after the other, painted row by row, and a part of them painted.
use Rattle.std.proofs.Common.{◌≡◌, ◌≢◌, ◌∙◌, sym, ap, refl, ℕ, ◌+◌, ◌-◌, ◌*◌, ◌/◌, ◌%◌, ◌<◌, ◌≤◌, Bool, true, false, ◌&&◌, ◌||◌, ◌==◌, nat_le, nat_lt, List, length, take, drop, slice_index, arith, inl, inr, length-drop, length-take-le}
use Rattle.std.specs.Int.{bit_at}
use Rattle.std.proofs.lemmas.Bool.{cases_lt}
use Rattle.std.proofs.lemmas.Bool.Decides.{nat_tests}
use Rattle.std.proofs.lemmas.List.{get_or-take, get_or-drop}
use Rattle.std.proofs.lemmas.Nat.{mul-le}
use Rattle.std.proofs.lemmas.Slice.{between-put_mid, drop-put_mid, take-put_mid_below}
use Rattle.tt_core.specs.Bits.{bit}
use Rattle.tt_bitmap.specs.Bands.{IsBandBlackened, IsRowBlackened, column}
use Rattle.tt_bitmap.proofs.Bools.{or_assoc, or_false, or_off}
use borrow.Rule.Slice.PartMut.{put_mid, same_len_mid}

-- the bytes of a list of which a part was written

byte_here : (band part : List ℕ) (a k i : ℕ) → a ≤ length band → length part ≡ k → i < k
    → slice_index (put_mid a k band part) (a + i) ≡ slice_index part i
byte_here band part a k i within long below =
    let here : take (a + k - a) (drop a (put_mid a k band part)) ≡ part =
    between-put_mid a k band part (a + k) within (omega (arith, long)) in
    sym (get_or-drop a (put_mid a k band part) i 0)
    ∙ sym (get_or-take (a + k - a) (drop a (put_mid a k band part)) i 0 (omega (arith, below)))
    ∙ ap (λ l. slice_index l i) here

byte_before : (band part : List ℕ) (a k i : ℕ) → i < a → a ≤ length band
    → slice_index (put_mid a k band part) i ≡ slice_index band i
byte_before band part a k i below within =
    sym (get_or-take a (put_mid a k band part) i 0 below)
    ∙ ap (λ l. slice_index l i) (take-put_mid_below a k band part a (omega arith) within)
    ∙ get_or-take a band i 0 below

byte_after : (band part : List ℕ) (a k i : ℕ) → a + k ≤ i → a ≤ length band → length part ≡ k
    → slice_index (put_mid a k band part) i ≡ slice_index band i
byte_after band part a k i past within long =
    let at : a + k + (i - (a + k)) ≡ i = omega (arith, past) in
    ap (λ n. slice_index (put_mid a k band part) n) (sym at)
    ∙ sym (get_or-drop (a + k) (put_mid a k band part) (i - (a + k)) 0)
    ∙ ap (λ l. slice_index l (i - (a + k))) (drop-put_mid a k band part (a + k) (omega arith) within long)
    ∙ get_or-drop (a + k) band (i - (a + k)) 0
    ∙ ap (λ n. slice_index band n) at

column_byte : (bytes : ℕ) (band : List ℕ) (i c : ℕ)
    → column bytes band i c ≡ (bit_at (slice_index band (bytes * i + c / 8)) (7 - c % 8) == 1)
column_byte bytes band i c =
    let byte : (8 * (bytes * i) + c) / 8 ≡ bytes * i + c / 8 = omega arith in
    let place : (8 * (bytes * i) + c) % 8 ≡ c % 8 = omega arith in
    rw (byte, place) refl

same_byte : (bytes : ℕ) (old new : List ℕ) (i j c : ℕ)
    → slice_index new (bytes * i + c / 8) ≡ slice_index old (bytes * j + c / 8) → column bytes new i c ≡ column bytes old j c
same_byte bytes old new i j c same =
    column_byte bytes new i c ∙ ap (λ b. bit_at b (7 - c % 8) == 1) same ∙ sym (column_byte bytes old j c)

-- a row of a band that was painted

pub row_put : (bytes i k : ℕ) (band row : List ℕ) (black : ℕ → Bool) → bytes * i + bytes ≤ length band → k ≡ bytes
    → length row ≡ bytes → ((c : ℕ) → c < 8 * bytes → bit row c ≡ (bit (take k (drop (bytes * i) band)) c || black c))
    → IsRowBlackened bytes i black band (put_mid (bytes * i) k band row)
row_put bytes i k band row black within whole long painted =
    let start : bytes * i ≤ length band = omega (arith, within) in
    let full : length row ≡ k = omega (arith, long, whole) in
    record {
      row = λ c inside.
          let low : c / 8 < k = omega (arith, inside, whole) in
          let new = byte_here band row (bytes * i) k (c / 8) start full low in
          let old : slice_index (take k (drop (bytes * i) band)) (c / 8) ≡ slice_index band (bytes * i + c / 8) =
          get_or-take k (drop (bytes * i) band) (c / 8) 0 low ∙ get_or-drop (bytes * i) band (c / 8) 0 in
          column_byte bytes (put_mid (bytes * i) k band row) i c ∙ ap (λ b. bit_at b (7 - c % 8) == 1) new ∙ painted c inside
          ∙ ap (λ b. (bit_at b (7 - c % 8) == 1) || black c) old
          ∙ ap (λ b. b || black c) (sym (column_byte bytes band i c));
      others = λ j c differs inside. elim (cases_lt j i) [
        | inl before ↦
            let ends : bytes * (j + 1) ≤ bytes * i = mul-le bytes (j + 1) bytes i (omega arith) (omega (arith, before)) in
            same_byte bytes band (put_mid (bytes * i) k band row) j j c
            (byte_before band row (bytes * i) k (bytes * j + c / 8) (omega (arith, ends, inside)) start)
        | inr from ↦ elim (cases_lt i j) [
          | inl after ↦
              let ends : bytes * (i + 1) ≤ bytes * j = mul-le bytes (i + 1) bytes j (omega arith) (omega (arith, after)) in
              same_byte bytes band (put_mid (bytes * i) k band row) j j c
              (byte_after band row (bytes * i) k (bytes * j + c / 8) (omega (arith, ends, whole)) start full)
          | inr to ↦ absurd (differs (omega (arith, from, to)))
        ]
      ];
      len = same_len_mid (bytes * i) k band row (omega (
        arith,
        length-take-le k (drop (bytes * i) band)
            (omega (arith, length-drop (bytes * i) band, whole, within)),
        full,
      ));
    }

-- a row ends within the band
pub row_ends : (bytes i rows : ℕ) (band : List ℕ) → length band ≡ bytes * rows → i < rows → bytes * i + bytes ≤ length band
row_ends bytes i rows band whole below =
    let ends : bytes * (i + 1) ≤ bytes * rows = mul-le bytes (i + 1) bytes rows (omega arith) (omega (arith, below)) in
    omega (arith, ends, whole)

-- the rows so far

pub no_row_painted : (bytes rows : ℕ) (black : ℕ → ℕ → Bool) (band : List ℕ)
    → IsBandBlackened bytes rows (λ i c. nat_lt i 0 && black i c) band band
no_row_painted bytes rows black band = record {
  columns = λ i c below inside. or_off (column bytes band i c) (nat_lt i 0) (black i c) (grind (arith, nat_tests));
  len = refl;
}

now_on : (b t s black : Bool) → t ≡ false → s ≡ true → ((b || (t && black)) || black) ≡ (b || (s && black))
now_on true t s black off on = refl
now_on false t s black off on = rw (off, on) refl

pub one_row_painted : (bytes rows i : ℕ) (black : ℕ → ℕ → Bool) (old mid new : List ℕ)
    → IsBandBlackened bytes rows (λ j c. nat_lt j i && black j c) old mid → IsRowBlackened bytes i (black i) mid new
    → IsBandBlackened bytes rows (λ j c. nat_lt j (i + 1) && black j c) old new
one_row_painted bytes rows i black old mid new so_far row = record {
  columns = λ j c below inside. elim (cases_lt j i) [
    | inl before ↦
        let other : j ≢ i = λ e. absurd (omega (arith, e, before)) in
        let tests : nat_lt j i ≡ nat_lt j (i + 1) = grind (arith, nat_tests) in
        row.others j c other inside ∙ so_far.columns j c below inside ∙ ap (λ t. column bytes old j c || (t && black j c)) tests
    | inr from ↦ elim (cases_lt i j) [
      | inl after ↦
          let other : j ≢ i = λ e. absurd (omega (arith, e, after)) in
          let tests : nat_lt j i ≡ nat_lt j (i + 1) = grind (arith, nat_tests) in
          row.others j c other inside ∙ so_far.columns j c below inside ∙ ap (λ t. column bytes old j c || (t && black j c)) tests
      | inr to ↦
          let same : j ≡ i = omega (arith, from, to) in
          let off : nat_lt i i ≡ false = grind (arith, nat_tests) in
          let on : nat_lt i (i + 1) ≡ true = grind (arith, nat_tests) in
          let within : i < rows = omega (arith, same, below) in
          rw same (row.row c inside ∙ ap (λ b. b || black i c) (so_far.columns i c within inside)
          ∙ now_on (column bytes old i c) (nat_lt i i) (nat_lt i (i + 1)) (black i c) off on)
    ]
  ];
  len = row.len ∙ so_far.len;
}

pub all_rows_painted : (bytes rows : ℕ) (black : ℕ → ℕ → Bool) (old new : List ℕ)
    → IsBandBlackened bytes rows (λ i c. nat_lt i rows && black i c) old new → IsBandBlackened bytes rows black old new
all_rows_painted bytes rows black old new is = record {
  columns = λ i c below inside.
      let on : nat_lt i rows ≡ true = grind (arith, nat_tests) in
      is.columns i c below inside ∙ ap (λ t. column bytes old i c || (t && black i c)) on;
  len = is.len;
}

-- one painted over the other, and the same pixels said otherwise

pub painted_over : (bytes rows : ℕ) (f g h : ℕ → ℕ → Bool) (old mid new : List ℕ) → IsBandBlackened bytes rows f old mid
    → IsBandBlackened bytes rows g mid new → ((i c : ℕ) → i < rows → (f i c || g i c) ≡ h i c) → IsBandBlackened bytes rows h old new
painted_over bytes rows f g h old mid new one two same = record {
  columns = λ i c below inside.
      two.columns i c below inside ∙ ap (λ (b : Bool). b || g i c) (one.columns i c below inside)
      ∙ or_assoc (column bytes old i c) (f i c) (g i c) ∙ ap (λ (b : Bool). column bytes old i c || b) (same i c below);
  len = two.len ∙ one.len;
}

pub repainted : (bytes rows : ℕ) (f g : ℕ → ℕ → Bool) (old new : List ℕ) → IsBandBlackened bytes rows f old new
    → ((i c : ℕ) → i < rows → f i c ≡ g i c) → IsBandBlackened bytes rows g old new
repainted bytes rows f g old new is same = record {
  columns = λ i c below inside. is.columns i c below inside ∙ ap (λ (b : Bool). column bytes old i c || b) (same i c below);
  len = is.len;
}

pub not_painted : (bytes rows : ℕ) (f : ℕ → ℕ → Bool) (band : List ℕ) → ((i c : ℕ) → f i c ≡ false) → IsBandBlackened bytes rows f band band
not_painted bytes rows f band none = record {
  columns = λ i c below inside. or_false (column bytes band i c) ∙ ap (λ (b : Bool). column bytes band i c || b) (sym (none i c));
  len = refl;
}

-- some rows of a band, painted as a band of their own
pub part_painted : (bytes rows first count a k : ℕ) (black : ℕ → ℕ → Bool) (band part : List ℕ) → a ≡ bytes * first → k ≡ bytes * count
    → a + k ≤ length band → IsBandBlackened bytes count black (take k (drop a band)) part
    → IsBandBlackened bytes rows (λ i c. (nat_le first i && nat_lt i (first + count)) && black (i - first) c) band (put_mid a k band part)
part_painted bytes rows first count a k black band part is_a is_k within is =
    let start : a ≤ length band = omega (arith, within) in
    let cut : length (take k (drop a band)) ≡ k = length-take-le k (drop a band) (omega (arith, length-drop a band, within)) in
    let long : length part ≡ k = is.len ∙ cut in
    record {
      columns = λ i c below inside. elim (cases_lt i first) [
        | inl before ↦
            let ends : bytes * (i + 1) ≤ bytes * first = mul-le bytes (i + 1) bytes first (omega arith) (omega (arith, before)) in
            same_byte bytes band (put_mid a k band part) i i c
            (byte_before band part a k (bytes * i + c / 8) (omega (arith, ends, inside, is_a)) start)
            ∙ or_off (column bytes band i c) (nat_le first i && nat_lt i (first + count)) (black (i - first) c) (grind (arith, nat_tests))
        | inr from ↦ elim (cases_lt i (first + count)) [
          | inl to ↦
              let own : i - first < count = omega (arith, from, to) in
              let ends : bytes * ((i - first) + 1) ≤ bytes * count =
              mul-le bytes ((i - first) + 1) bytes count (omega arith) (omega (arith, own)) in
              let low : bytes * (i - first) + c / 8 < k = omega (arith, ends, inside, is_k) in
              let at : bytes * i + c / 8 ≡ a + (bytes * (i - first) + c / 8) =
              let sum : bytes * (first + (i - first)) ≡ bytes * first + bytes * (i - first) = omega arith in
              let whole : first + (i - first) ≡ i = omega (arith, from) in
              omega (arith, rw whole at sum, is_a) in
              let new : slice_index (put_mid a k band part) (bytes * i + c / 8) ≡ slice_index part (bytes * (i - first) + c / 8) =
              ap (λ n. slice_index (put_mid a k band part) n) at ∙ byte_here band part a k (bytes * (i - first) + c / 8) start long low in
              let old : slice_index (take k (drop a band)) (bytes * (i - first) + c / 8) ≡ slice_index band (bytes * i + c / 8) =
              get_or-take k (drop a band) (bytes * (i - first) + c / 8) 0 low ∙ get_or-drop a band (bytes * (i - first) + c / 8) 0
              ∙ ap (λ n. slice_index band n) (sym at) in
              let on : (nat_le first i && nat_lt i (first + count)) ≡ true = grind (arith, nat_tests) in
              same_byte bytes part (put_mid a k band part) i (i - first) c new ∙ is.columns (i - first) c own inside
              ∙ ap (λ (b : Bool). b || black (i - first) c) (same_byte bytes band (take k (drop a band)) (i - first) i c old)
              ∙ ap (λ (t : Bool). column bytes band i c || (t && black (i - first) c)) (sym on)
          | inr past ↦
              let ends : bytes * (first + count) ≤ bytes * i = mul-le bytes (first + count) bytes i (omega arith) (omega (arith, past)) in
              same_byte bytes band (put_mid a k band part) i i c
              (byte_after band part a k (bytes * i + c / 8) (omega (arith, ends, is_a, is_k)) start long)
              ∙ or_off (column bytes band i c) (nat_le first i && nat_lt i (first + count)) (black (i - first) c) (grind (arith, nat_tests))
        ]
      ];
      len = same_len_mid a k band part (omega (arith, cut, long));
    }
