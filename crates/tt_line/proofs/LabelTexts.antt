-- The lines of a label's text: the mark at its start, and the characters of its lines.
use Rattle.std.proofs.Common.{◌≡◌, ◌≢◌, ◌∙◌, refl, sym, ap, ℕ, ◌+◌, ◌<◌, ◌≤◌, List, [], ◌∷◌, ◌++◌, IsUtf8, chars, length, take, drop, slice_index, inl, inr, ◌⊎◌, subst, arith}
use Rattle.std.proofs.lemmas.Bool.{cases_Bool, cases_lt}
use Rattle.std.proofs.lemmas.Bool.Decides.{nat_tests}
use Rattle.std.proofs.Math.Seq.{drop-append-add}
use Rattle.std.proofs.lemmas.List.{get_or_at, length-append, length-drop, nil_from_length, take-append-drop, take_at}
use Rattle.std.proofs.lemmas.Str.{IsCharBoundary-after_ascii, IsCharBoundary-at_seam, IsUtf8-append, IsUtf8-drop, IsUtf8-encode, IsUtf8-nil, IsUtf8-take, chars-append, chars-nil, chars_past_char, encode_ascii, encodes-chars}
use Rattle.std.proofs.Math.Utf8.{encode}
use Rattle.std.specs.Str.Lines.{IsFirstLine, StripsCarriageReturn}
use Rattle.tt_line.specs.Labels.{is_marked, unmarked}

-- the bytes of the mark
abbrev pub marked : List ℕ → List ℕ
marked rest = 0xEF ∷ 0xBB ∷ 0xBF ∷ rest

three_bytes : (s : List ℕ) → slice_index s 0 ≡ 0xEF → slice_index s 1 ≡ 0xBB → slice_index s 2 ≡ 0xBF → s ≡ marked (drop 3 s)
three_bytes [] a b c = absurd (omega (arith, a))
three_bytes (x ∷ []) a b c = absurd (omega (arith, b))
three_bytes (x ∷ y ∷ []) a b c = absurd (omega (arith, c))
three_bytes (x ∷ y ∷ z ∷ s) a b c = rw (a, b, c) refl

pub without_mark : (s : List ℕ) → ((rest : List ℕ) → s ≢ marked rest) → unmarked s ≡ s
without_mark s none = elim (cases_Bool (is_marked s)) [
  | inl is ↦
      let a : slice_index s 0 ≡ 0xEF = grind (arith, nat_tests, is) in
      let b : slice_index s 1 ≡ 0xBB = grind (arith, nat_tests, is) in
      let c : slice_index s 2 ≡ 0xBF = grind (arith, nat_tests, is) in
      absurd (none (drop 3 s) (three_bytes s a b c))
  | inr not ↦ rw not refl
]

pub the_mark_at : (rest : List ℕ) → encode 0xFEFF ++ rest ≡ marked rest
unfolding encode
the_mark_at rest = refl

pub after_mark : (s rest : List ℕ) → s ≡ marked rest → unmarked s ≡ rest
after_mark s rest is = rw is refl

drop_more_at : (front : List ℕ) (b : ℕ) (rest : List ℕ) → drop (length front + 1) (front ++ b ∷ rest) ≡ rest
drop_more_at front b rest = drop-append-add front (b ∷ rest) 1

newline_text : IsUtf8 (10 ∷ [])
newline_text = subst IsUtf8 (encode_ascii 10 (omega arith)) (IsUtf8-encode 10 refl)

return_text : IsUtf8 (13 ∷ [])
return_text = subst IsUtf8 (encode_ascii 13 (omega arith)) (IsUtf8-encode 13 refl)

-- a text of some bytes has a character
some_or_none : (cs : List ℕ) → (0 < length cs) ⊎ (cs ≡ [])
some_or_none [] = inr refl
some_or_none (c ∷ cs) = inl (omega arith)

some_characters : (t : List ℕ) → IsUtf8 t → 0 < length t → 0 < length (chars t)
some_characters t is some = elim (some_or_none (chars t)) [
  | inl it ↦ it
  | inr none ↦ let empty : [] ≡ t = rw none at (encodes-chars t is) in let bad : 0 < length {A = ℕ} [] = rw (sym empty) at some in absurd (omega (arith, bad))
]

-- a line and the rest of the text have no more characters than both, and the rest has fewer
pub record AreParts (w x rest : List ℕ) : Type 0 where
  pub text : IsUtf8 rest
  pub all : length (chars x) + length (chars rest) ≤ length (chars w)
  pub fewer : 1 + length (chars rest) ≤ length (chars w)

-- a line without its carriage return has no more characters
stripped_counts : (front x : List ℕ) → IsUtf8 front → StripsCarriageReturn front x → length (chars x) ≤ length (chars front)
stripped_counts front x is strips = elim strips [
  | inl same ↦ rw same.0 (omega arith)
  | inr split ↦
      let seam = IsCharBoundary-at_seam front x (13 ∷ []) split return_text in
      let mine : IsUtf8 x = rw (split, take_at x (13 ∷ []) (length x) refl) at (IsUtf8-take front (length x) is seam) in
      let all : chars front ≡ chars x ++ chars (13 ∷ []) = ap chars split ∙ chars-append x (13 ∷ []) mine in
      let many = length-append (chars x) (chars (13 ∷ [])) in
      omega (arith, ap length all, many)
]

past_newline : (w x rest front : List ℕ) → IsUtf8 w → w ≡ front ++ 10 ∷ rest → StripsCarriageReturn front x → AreParts w x rest
past_newline w x rest front is split strips =
    let many = length-append front (10 ∷ rest) in
    let long = ap length split in
    let byte : slice_index w (length front) ≡ 10 = rw split (get_or_at front 10 rest 0 (length front) refl) in
    let place = IsCharBoundary-after_ascii w (length front) is (omega (arith, many, long)) (omega (arith, byte)) in
    let cut : drop (length front + 1) w ≡ rest = rw split (drop_more_at front 10 rest) in
    let text : IsUtf8 rest = rw cut at (IsUtf8-drop w (length front + 1) is place) in
    let after : IsUtf8 (10 ∷ rest) = IsUtf8-append (10 ∷ []) rest newline_text text in
    let seam = IsCharBoundary-at_seam w front (10 ∷ rest) split after in
    let before : IsUtf8 front = rw (split, take_at front (10 ∷ rest) (length front) refl) at (IsUtf8-take w (length front) is seam) in
    let encoded : 10 ∷ rest ≡ encode 10 ++ rest = ap (λ v. v ++ rest) (sym (encode_ascii 10 (omega arith))) in
    let all : chars w ≡ chars front ++ 10 ∷ chars rest =
    ap chars split ∙ chars-append front (10 ∷ rest) before ∙ ap (λ cs. chars front ++ cs) (chars_past_char (10 ∷ rest) rest 10 after encoded) in
    let sum = length-append (chars front) (10 ∷ chars rest) in
    let fewer = stripped_counts front x before strips in
    record {
      text = text;
      all = omega (arith, ap length all, sum, fewer);
      fewer = omega (arith, ap length all, sum);
    }

pub first_counts : (w x rest : List ℕ) → IsUtf8 w → 0 < length w → IsFirstLine w x rest → AreParts w x rest
first_counts w x rest is some h = elim (cases_lt h.0 (length w)) [
  | inl below ↦
      let o = h.2 (omega (arith, length-drop h.0 w, below)) in
      let feed : o.0 ≡ 10 = grind (arith, nat_tests, o.1) in
      let after : drop h.0 w ≡ 10 ∷ rest = o.2 ∙ ap (λ d. encode d ++ rest) feed ∙ ap (λ v. v ++ rest) (encode_ascii 10 (omega arith)) in
      let split : w ≡ take h.0 w ++ 10 ∷ rest = sym (take-append-drop h.0 w) ∙ ap (λ v. take h.0 w ++ v) after in
      past_newline w x rest (take h.0 w) is split (h.5 below)
  | inr over ↦
      let all : h.0 ≡ length w = omega (arith, h.3, over) in
      let none : rest ≡ [] = nil_from_length rest (omega (arith, h.3, over)) in
      let same : x ≡ w = h.4 all in
      let one = some_characters w is some in
      let left : length (chars rest) ≡ 0 = ap (λ v. length (chars v)) none ∙ ap length chars-nil in
      let line : length (chars x) ≡ length (chars w) = ap (λ v. length (chars v)) same in
      record {
        text = rw none IsUtf8-nil;
        all = omega (arith, left, line);
        fewer = omega (arith, left, one);
      }
]

-- a text without its mark has no more characters
pub unmarked_counts : (s : List ℕ) → IsUtf8 s → length (chars (unmarked s)) ≤ length (chars s)
unmarked_counts s text = elim (cases_Bool (is_marked s)) [
  | inl is ↦
      let a : slice_index s 0 ≡ 0xEF = grind (arith, nat_tests, is) in
      let b : slice_index s 1 ≡ 0xBB = grind (arith, nat_tests, is) in
      let c : slice_index s 2 ≡ 0xBF = grind (arith, nat_tests, is) in
      let split = three_bytes s a b c in
      let all : chars s ≡ 0xFEFF ∷ chars (drop 3 s) = chars_past_char s (drop 3 s) 0xFEFF text (split ∙ sym (the_mark_at (drop 3 s))) in
      rw is (omega (arith, ap length all))
  | inr not ↦ rw not (omega arith)
]
