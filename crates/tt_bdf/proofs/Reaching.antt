-- How far the ranges go that begin before a code point, and the code points below one that are listed.
use Rattle.std.proofs.Common.{◌≡◌, ◌∙◌, refl, sym, ap, ℕ, zero, suc, ◌+◌, ◌-◌, ◌<◌, ◌≤◌, max, ◌==◌, nat_lt, nat_le, Bool, true, false, ◌&&◌, ◌||◌, if◌then◌else◌, ◌⊎◌, inl, inr, List, [], ◌∷◌, ◌++◌, length, take, drop, set, get_or, slice_index, Some, None, All, arith}
use Rattle.std.proofs.lemmas.Bool.{cases_lt, cases_eq}
use Rattle.std.proofs.lemmas.Bool.Decides.{nat_tests}
use Rattle.std.proofs.lemmas.List.{append-nil, at_drop_more, get_or-set_other, get_or-set_same, length-take, take_all, take_at}
use Rattle.std.proofs.lemmas.List.Elements.{All-head, All-tail}
use Rattle.std.specs.List.{filter, range_with_len}
use Rattle.tt_bdf.specs.declared.range.CodeRange.{CodeRange}
use Rattle.tt_bdf.specs.Asked.{characters_of, code_count, end_of, far_before, found_at, is_asked, is_shown, listed_below, reach_at}
use Rattle.tt_bdf.specs.Ranges.{IsCodeRange}
use Rattle.tt_cmap.specs.Maps.{CharacterMap}
use Rattle.tt_core.specs.Limits.{text_limit}
use Rattle.tt_bdf.proofs.Behind.{range-more}

-- one range, as it begins before a code point, at it, or before the next
begins_by : (a l n : ℕ) → (a < n) ⊎ (n ≤ a) → (a ≡ n) ⊎ (a ≡ n → ⊥)
    → max (if nat_lt a n then l else 0) (if a == n then l else 0) ≡ (if nat_lt a (n + 1) then l else 0)
begins_by a l n (inl less) same =
    let before : nat_lt a n ≡ true = grind (arith, nat_tests, less) in
    let apart : (a == n) ≡ false = grind (arith, nat_tests, less) in
    let next : nat_lt a (n + 1) ≡ true = grind (arith, nat_tests, less) in
    rw (before, apart, next) (omega arith)
begins_by a l n (inr more) (inl same) =
    let before : nat_lt a n ≡ false = grind (arith, nat_tests, more) in
    let here : (a == n) ≡ true = grind (arith, nat_tests, same) in
    let next : nat_lt a (n + 1) ≡ true = grind (arith, nat_tests, same) in
    rw (before, here, next) (omega arith)
begins_by a l n (inr more) (inr apart) =
    let later : n < a = grind (arith, more, apart) in
    let before : nat_lt a n ≡ false = grind (arith, nat_tests, later) in
    let there : (a == n) ≡ false = grind (arith, nat_tests, later) in
    let next : nat_lt a (n + 1) ≡ false = grind (arith, nat_tests, later) in
    rw (before, there, next) (omega arith)

begins_next : (a l n : ℕ) → max (if nat_lt a n then l else 0) (if a == n then l else 0) ≡ (if nat_lt a (n + 1) then l else 0)
begins_next a l n = begins_by a l n (cases_lt a n) (cases_eq a n)

mixed : (a b c d e : ℕ) → max a c ≡ e → max (max a b) (max c d) ≡ max e (max b d)
mixed a b c d e is = omega (arith, is)

-- the ranges that begin before the next code point
pub far_next : (rs : List CodeRange) (n : ℕ) → max (far_before rs n) (reach_at rs n) ≡ far_before rs (n + 1)
far_next [] n = refl
far_next (r ∷ rs) n =
    let first = begins_next r.first (r.last + 1) n in
    rw (← far_next rs n)
    (mixed (if nat_lt r.first n then r.last + 1 else 0) (far_before rs n) (if r.first == n then r.last + 1 else 0)
    (reach_at rs n) (if nat_lt r.first (n + 1) then r.last + 1 else 0) first)

lt_max : (n a b : ℕ) → nat_lt n (max a b) ≡ (nat_lt n a || nat_lt n b)
lt_max n a b = grind (arith, nat_tests)

within_by : (a l n : ℕ) → (n < a) ⊎ (a ≤ n) → (nat_le a n && nat_le n l) ≡ nat_lt n (if nat_lt a (n + 1) then l + 1 else 0)
within_by a l n (inl later) =
    let out : nat_le a n ≡ false = grind (arith, nat_tests, later) in
    let past : nat_lt a (n + 1) ≡ false = grind (arith, nat_tests, later) in
    let none : nat_lt n 0 ≡ false = grind (arith, nat_tests) in
    rw (out, past, none) refl
within_by a l n (inr before) =
    let in_it : nat_le a n ≡ true = grind (arith, nat_tests, before) in
    let begun : nat_lt a (n + 1) ≡ true = grind (arith, nat_tests, before) in
    let ends : nat_le n l ≡ nat_lt n (l + 1) = grind (arith, nat_tests) in
    rw (in_it, begun, ends) refl

within_is : (a l n : ℕ) → (nat_le a n && nat_le n l) ≡ nat_lt n (if nat_lt a (n + 1) then l + 1 else 0)
within_is a l n = within_by a l n (cases_lt n a)

-- a code point is asked for where the ranges that begin before the next go past it
pub asked_is : (rs : List CodeRange) (n : ℕ) → is_asked rs n ≡ nat_lt n (far_before rs (n + 1))
asked_is [] n = grind (arith, nat_tests)
asked_is (r ∷ rs) n =
    rw (lt_max n (if nat_lt r.first (n + 1) then r.last + 1 else 0) (far_before rs (n + 1)), within_is r.first r.last n, asked_is rs n)
    refl

filter_by : (p : ℕ → Bool) (x : ℕ) (xs ys : List ℕ) (b : Bool) → p x ≡ b
    → filter p (xs ++ ys) ≡ filter p xs ++ filter p ys → filter p ((x ∷ xs) ++ ys) ≡ filter p (x ∷ xs) ++ filter p ys
filter_by p x xs ys true is rest = rw is (ap (λ zs. x ∷ zs) rest)
filter_by p x xs ys false is rest = rw is rest

filter_behind : (p : ℕ → Bool) (xs ys : List ℕ) → filter p (xs ++ ys) ≡ filter p xs ++ filter p ys
filter_behind p [] ys = refl
filter_behind p (x ∷ xs) ys = filter_by p x xs ys (p x) refl (filter_behind p xs ys)

-- the code points listed below the next
pub listed_more : (shown : ℕ → Bool) (rs : List CodeRange) (n : ℕ) → is_asked rs n ≡ true → shown n ≡ true
    → listed_below shown rs (n + 1) ≡ listed_below shown rs n ++ n ∷ []
listed_more shown rs n asked is =
    rw (range-more n, filter_behind (λ c. is_asked rs c && shown c) (range_with_len 0 n) (n ∷ []), asked, is) refl

pub listed_same : (shown : ℕ → Bool) (rs : List CodeRange) (n : ℕ) → (is_asked rs n && shown n) ≡ false
    → listed_below shown rs (n + 1) ≡ listed_below shown rs n
listed_same shown rs n none =
    rw (range-more n, filter_behind (λ c. is_asked rs c && shown c) (range_with_len 0 n) (n ∷ []), none)
    (append-nil (listed_below shown rs n))

ranges_joined : (a m n : ℕ) → range_with_len a (m + n) ≡ range_with_len a m ++ range_with_len (a + m) n
ranges_joined a zero n = let same : a + 0 ≡ a = omega arith in let none : 0 + n ≡ n = omega arith in rw (same, none) refl
ranges_joined a (suc m) n =
    let more : suc m + n ≡ suc (m + n) = omega arith in
    let next : a + suc m ≡ (a + 1) + m = omega arith in
    rw (more, next) (ap (λ ks. a ∷ ks) (ranges_joined (a + 1) m n))

-- the code points listed below one are the first of those listed below a later one
pub listed_first : (shown : ℕ → Bool) (rs : List CodeRange) (m n : ℕ) → m ≤ n
    → take (length (listed_below shown rs m)) (listed_below shown rs n) ≡ listed_below shown rs m
listed_first shown rs m n before =
    let k = n - m in
    let whole : n ≡ m + k = omega (arith, before) in
    rw (whole, ranges_joined 0 m k, filter_behind (λ c. is_asked rs c && shown c) (range_with_len 0 m) (range_with_len (0 + m) k))
    (take_at (listed_below shown rs m) _ _ refl)

neither : (b : Bool) → ((b && false) || false) ≡ false
neither true = refl
neither false = refl

-- no code point is asked for past the end of all ranges
asked_within : (rs : List CodeRange) (n : ℕ) → end_of rs ≤ n → is_asked rs n ≡ false
asked_within [] n past = refl
asked_within (r ∷ rs) n past =
    let rest = asked_within rs n (omega (arith, past)) in
    let out : nat_le n r.last ≡ false = grind (arith, nat_tests, past) in
    rw (rest, out) (neither (nat_le r.first n))

listed_past : (shown : ℕ → Bool) (rs : List CodeRange) (n k : ℕ) → end_of rs ≤ n
    → listed_below shown rs (n + k) ≡ listed_below shown rs n
listed_past shown rs n zero past = let same : n + 0 ≡ n = omega arith in rw same refl
listed_past shown rs n (suc k) past =
    let more : n + suc k ≡ (n + k) + 1 = omega arith in
    let out = asked_within rs (n + k) (omega (arith, past)) in
    rw more (listed_same shown rs (n + k) (rw out refl) ∙ listed_past shown rs n k past)

-- the code points below the end of all ranges are all that are listed
pub listed_all : (shown : ℕ → Bool) (rs : List CodeRange) (n : ℕ) → end_of rs ≤ n
    → listed_below shown rs (end_of rs) ≡ listed_below shown rs n
listed_all shown rs n past =
    let k = n - end_of rs in
    let whole : n ≡ end_of rs + k = omega (arith, past) in
    rw whole (sym (listed_past shown rs (end_of rs) k (omega arith)))

some_is : {n c : ℕ} → Some n ≡ Some c → n ≡ c
some_is is = cc

some_is_none : {n : ℕ} → Some n ≡ None → ⊥
some_is_none is = cc

shown_by : (shown : ℕ → Bool) (rs : List CodeRange) (n c : ℕ) (b : Bool) → shown n ≡ b → is_asked rs n ≡ true
    → (if true && shown n then Some n else None) ≡ Some c
    → listed_below shown rs (n + 1) ≡ listed_below shown rs n ++ c ∷ []
shown_by shown rs n c false is asked found = absurd (some_is_none (sym (rw is at found)))
shown_by shown rs n c true is asked found =
    let same : n ≡ c = some_is (rw is at found) in
    listed_more shown rs n asked is ∙ ap (λ k. listed_below shown rs n ++ k ∷ []) same

found_by : (shown : ℕ → Bool) (rs : List CodeRange) (n far c : ℕ) (b : Bool) → nat_lt n far ≡ b
    → is_asked rs n ≡ nat_lt n far → found_at shown far n ≡ Some c
    → listed_below shown rs (n + 1) ≡ listed_below shown rs n ++ c ∷ []
found_by shown rs n far c false is asked found = absurd (some_is_none (sym (rw is at found)))
found_by shown rs n far c true is asked found = shown_by shown rs n c (shown n) refl (asked ∙ is) (rw is at found)

-- a code point that is found is the next one listed
pub found_more : (shown : ℕ → Bool) (rs : List CodeRange) (n far c : ℕ) → far ≡ far_before rs (n + 1)
    → found_at shown far n ≡ Some c → listed_below shown rs (n + 1) ≡ listed_below shown rs n ++ c ∷ []
found_more shown rs n far c is found =
    let asked : is_asked rs n ≡ nat_lt n far = rw is (asked_is rs n) in
    found_by shown rs n far c (nat_lt n far) refl asked found

none_by : (b : Bool) (n : ℕ) → (if b then Some n else None) ≡ None → b ≡ false
none_by true n found = absurd (some_is_none found)
none_by false n found = refl

pub found_none : (shown : ℕ → Bool) (rs : List CodeRange) (n far : ℕ) → far ≡ far_before rs (n + 1)
    → found_at shown far n ≡ None → listed_below shown rs (n + 1) ≡ listed_below shown rs n
found_none shown rs n far is found =
    let asked : is_asked rs n ≡ nat_lt n far = rw is (asked_is rs n) in
    listed_same shown rs n (rw asked (none_by (nat_lt n far && shown n) n found))

-- a list of which at most 4,097 elements were taken
pub few_taken : (xs ys : List ℕ) → ys ≡ take (text_limit + 1) xs → length ys ≤ text_limit → ys ≡ xs
few_taken xs ys is few = is ∙ take_all (text_limit + 1) xs (omega (arith, few, ap length is, length-take (text_limit + 1) xs))

pub many_taken : (xs ys : List ℕ) → ys ≡ take (text_limit + 1) xs → text_limit < length ys → text_limit < length xs
many_taken xs ys is many = omega (arith, many, ap length is, length-take (text_limit + 1) xs)

-- the ranges end within the code points
pub end_is_code : (rs : List CodeRange) → All IsCodeRange rs → end_of rs ≤ code_count
unfolding code_count
end_is_code [] codes = omega arith
end_is_code (r ∷ rs) codes =
    let first = All-head IsCodeRange r rs codes in
    omega (arith, first.codes, end_is_code rs (All-tail IsCodeRange r rs codes))

pub listed_to_end : (m : CharacterMap) (rs : List CodeRange) → All IsCodeRange rs
    → listed_below (is_shown m) rs (end_of rs) ≡ characters_of m rs
listed_to_end m rs codes = listed_all (is_shown m) rs code_count (end_is_code rs codes)

-- one more range
abbrev pub no_range : CodeRange
no_range = record { first = 0; last = 0 }

pub end_more : (end : ℕ) (rs : List CodeRange) (i : ℕ) → i < length rs
    → max (max end ((get_or rs i no_range).last + 1)) (end_of (drop (i + 1) rs)) ≡ max end (end_of (drop i rs))
end_more end rs i below =
    let rest : end_of (drop i rs) ≡ max ((get_or rs i no_range).last + 1) (end_of (drop (i + 1) rs)) =
    at_drop_more end_of rs i no_range below in
    omega (arith, rest)

-- a number in a list was raised to another
raised_by : (xs : List ℕ) (a n v : ℕ) → a < length xs → (a ≡ n) ⊎ (a ≡ n → ⊥)
    → slice_index (set xs a (max (slice_index xs a) v)) n ≡ max (slice_index xs n) (if a == n then v else 0)
raised_by xs a n v below (inl same) =
    let here : (a == n) ≡ true = grind (arith, nat_tests, same) in
    let read : slice_index (set xs a (max (slice_index xs a) v)) a ≡ max (slice_index xs a) v = get_or-set_same xs a _ 0 below in
    rw (here, ← same) read
raised_by xs a n v below (inr other) =
    let there : (a == n) ≡ false = grind (arith, nat_tests, other) in
    let read : slice_index (set xs a (max (slice_index xs a) v)) n ≡ slice_index xs n = get_or-set_other xs a n _ 0 (λ is. other (sym is)) in
    rw (there, read) (omega arith)

pub reach_more : (xs : List ℕ) (rs : List CodeRange) (i n : ℕ) → i < length rs → (get_or rs i no_range).first < length xs
    → max (slice_index (set xs (get_or rs i no_range).first (max (slice_index xs (get_or rs i no_range).first) ((get_or rs i no_range).last + 1))) n) (reach_at (drop (i + 1) rs) n)
    ≡ max (slice_index xs n) (reach_at (drop i rs) n)
reach_more xs rs i n below within =
    let r = get_or rs i no_range in
    let rest : reach_at (drop i rs) n ≡ max (if r.first == n then r.last + 1 else 0) (reach_at (drop (i + 1) rs) n) =
    at_drop_more (λ rs. reach_at rs n) rs i no_range below in
    let raised = raised_by xs r.first n (r.last + 1) within (cases_eq r.first n) in
    omega (arith, rest, raised)

-- a range ends before the end of all
pub end_above : (rs : List CodeRange) (i : ℕ) → i < length rs → (get_or rs i no_range).last + 1 ≤ end_of rs
end_above [] i below = absurd (omega (arith, below))
end_above (r ∷ rs) zero below = omega arith
end_above (r ∷ rs) (suc i) below =
    let rest = end_above rs i (omega (arith, below)) in
    omega (arith, rest)

-- no range begins before 0
pub far_none : (rs : List CodeRange) → 0 ≡ far_before rs 0
far_none [] = refl
far_none (r ∷ rs) =
    let none : nat_lt r.first 0 ≡ false = grind (arith, nat_tests) in
    rw (none, ← far_none rs) refl
