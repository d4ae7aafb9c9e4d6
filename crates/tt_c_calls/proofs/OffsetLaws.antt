-- The offsets of a text's units rise, and cut the text into its units.
use Rattle.std.proofs.Common.{◌≡◌, ◌∙◌, ℕ, ◌+◌, ◌-◌, ◌≤◌, ◌++◌, true, false, not, Bool, List, [], ◌∷◌, length, drop, map, encode_utf8, encode_utf8_all, slice_range, ◌⊎◌, inl, inr, ap, ap₂, append_assoc, if◌then◌else◌, refl, arith}
use Rattle.std.specs.Prelude.{◌&&◌}
use Rattle.std.specs.Char.{len_utf8}
use Rattle.std.specs.Str.{chars}
use Rattle.std.proofs.Math.Utf8.{scalar, scalars}
use Rattle.std.proofs.lemmas.List.{append-nil, drop_at, length-append, take_at}
use Rattle.std.proofs.lemmas.Str.{chars-encodes, encodes-append, len_utf8_bounds, length-encode}
use Rattle.tt_cmap.specs.declared.units.TextUnit.{TextUnit}
use Rattle.tt_cmap.specs.Units.{is_selector, unit_before, units}
use Rattle.tt_c_calls.specs.Offsets.{AreRising, OffsetsCutTexts, OffsetsRise, begins_unit, offsets_from, pieces, unit_offsets}

-- the bytes of a character and of others
bytes_more : (c : ℕ) (cs : List ℕ) → length (encode_utf8_all (c ∷ cs)) ≡ len_utf8 c + length (encode_utf8_all cs)
bytes_more c cs = length-append (encode_utf8 c) (encode_utf8_all cs) ∙ ap (λ n. n + length (encode_utf8_all cs)) (length-encode c)

not_not : (b : Bool) → not b ≡ false → b ≡ true
not_not true is = refl
not_not false is = absurd cc

not_so : (b : Bool) → not b ≡ true → b ≡ false
not_so true is = absurd cc
not_so false is = refl

both_hold : (a b : Bool) → (a && b) ≡ true → (a ≡ true) × (b ≡ true)
both_hold true b is = (refl, is)
both_hold false b is = absurd cc

scalars_front : (xs ys : List ℕ) → scalars (xs ++ ys) ≡ true → scalars xs ≡ true
scalars_front [] ys valid = refl
scalars_front (x ∷ xs) ys valid =
    let both = both_hold (scalar x) (scalars (xs ++ ys)) valid in
    rw (both.0, scalars_front xs ys both.1) refl

first_same : (pairs : Bool) (d : ℕ) (ds es : List ℕ) (c : ℕ) → unit_before pairs c (d ∷ ds) ≡ unit_before pairs c (d ∷ es)
first_same false d ds es c = refl
first_same true d ds es c = refl

-- rising

one_rises : (b : Bool) (low at width end : ℕ) (later : List ℕ) → low ≤ at → 1 ≤ width → at + width ≤ end
    → ((n : ℕ) → n ≤ at + width → AreRising n later end) → AreRising low (if b then at ∷ later else later) end
one_rises true low at width end later above some within rest = (above, omega arith, rest (at + 1) (omega arith))
one_rises false low at width end later above some within rest = rest low (omega arith)

rise_from : (pairs : Bool) (cs : List ℕ) (low at end : ℕ) → low ≤ at → at + length (encode_utf8_all cs) ≡ end
    → AreRising low (offsets_from pairs cs at) end
rise_from pairs [] low at end above ends = tt
rise_from pairs (c ∷ cs) low at end above ends =
    let more = bytes_more c cs in
    one_rises (begins_unit pairs c) low at (len_utf8 c) end (offsets_from pairs cs (at + len_utf8 c)) above
    (len_utf8_bounds c).0 (omega (arith, more, ends))
    (λ n upto. rise_from pairs cs n (at + len_utf8 c) end upto (omega (arith, more, ends)))

rise_of : (pairs : Bool) (cs text : List ℕ) → scalars cs ≡ true → encode_utf8_all cs ≡ text
    → AreRising 0 (unit_offsets pairs text) (length text)
rise_of pairs cs text valid is =
    rw (← is, chars-encodes cs valid) (rise_from pairs cs 0 0 (length (encode_utf8_all cs)) (omega arith) (omega arith))

pub offsets_rise : OffsetsRise
offsets_rise pairs text utf8 = rise_of pairs utf8.0 text utf8.1.0 utf8.1.1

-- the characters up to the next unit

record Passed (pairs : Bool) (cs : List ℕ) (at : ℕ) : Type 0 where
  passed : List ℕ
  rest : List ℕ
  split : cs ≡ passed ++ rest
  none : units pairs passed ≡ []
  same : (c : ℕ) → unit_before pairs c passed ≡ unit_before pairs c cs
  next : ((rest ≡ []) × (offsets_from pairs cs at ≡ []))
      ⊎ ((others : List ℕ) × (offsets_from pairs cs at ≡ (at + length (encode_utf8_all passed)) ∷ others))

-- no selector stands before a character that begins a unit
unselected_by : (b : Bool) (d : ℕ) (ds : List ℕ) → is_selector d ≡ b → not b ≡ true → (c : ℕ)
    → unit_before true c [] ≡ unit_before true c (d ∷ ds)
unselected_by true d ds is begins c = absurd cc
unselected_by false d ds is begins c = rw is refl

unselected : (pairs : Bool) (d : ℕ) (ds : List ℕ) → begins_unit pairs d ≡ true → (c : ℕ)
    → unit_before pairs c [] ≡ unit_before pairs c (d ∷ ds)
unselected false d ds begins c = refl
unselected true d ds begins c = unselected_by (is_selector d) d ds refl begins c

one_passed : (pairs : Bool) (b : Bool) (d : ℕ) (ds : List ℕ) (at : ℕ) → begins_unit pairs d ≡ b → Passed pairs ds (at + len_utf8 d)
    → Passed pairs (d ∷ ds) at
one_passed pairs true d ds at is on = record {
  passed = [];
  rest = d ∷ ds;
  split = refl;
  none = refl;
  same = unselected pairs d ds is;
  next = inr (offsets_from pairs ds (at + len_utf8 d), let here : at ≡ at + 0 = omega arith in rw (is, ← here) refl);
}
one_passed pairs false d ds at is on =
    let over : (pairs && is_selector d) ≡ true = not_not (pairs && is_selector d) is in
    record {
      passed = d ∷ on.passed;
      rest = on.rest;
      split = ap (λ (xs : List ℕ). d ∷ xs) on.split;
      none = rw over on.none;
      same = first_same pairs d on.passed ds;
      next = elim on.next [
        | inl none ↦ inl (none.0, rw is none.1)
        | inr more ↦ inr (
          more.0,
          let far : at + len_utf8 d + length (encode_utf8_all on.passed) ≡ at + length (encode_utf8_all (d ∷ on.passed)) =
              omega (arith, bytes_more d on.passed) in
              rw (is, ← far) more.1,
        )
      ];
    }

passed_over : (pairs : Bool) (cs : List ℕ) (at : ℕ) → Passed pairs cs at
passed_over pairs [] at = record {
  passed = [];
  rest = [];
  split = refl;
  none = refl;
  same = λ c. refl;
  next = inl (refl, refl);
}
passed_over pairs (d ∷ ds) at =
    one_passed pairs (begins_unit pairs d) d ds at refl (passed_over pairs ds (at + len_utf8 d))

-- cutting

-- a piece of a text
piece_at : (p own rest : List ℕ) (at next : ℕ) → length p ≡ at → next ≡ at + length own
    → slice_range (p ++ (own ++ rest)) at next ≡ own
piece_at p own rest at next long ends =
    let many : next - at ≡ length own = omega (arith, ends) in
    rw (many, drop_at p (own ++ rest) at long) (take_at own rest (length own) refl)

-- the piece of an offset: up to the next one, or to the end
pieces_more : (text later piece : List ℕ) (at : ℕ)
    → ((later ≡ []) × (drop at text ≡ piece))
    ⊎ ((next : ℕ) × (others : List ℕ) × (later ≡ next ∷ others) × (slice_range text at next ≡ piece))
    → pieces text (at ∷ later) ≡ piece ∷ pieces text later
pieces_more text later piece at (inl (none, is)) = rw none (ap (λ (x : List ℕ). x ∷ []) is)
pieces_more text later piece at (inr (next, others, more, is)) =
    rw more (ap (λ (x : List ℕ). x ∷ pieces text (next ∷ others)) is)

-- the first piece of a text has a character and those that are passed over
first_piece : (pairs : Bool) (p cs : List ℕ) (c at : ℕ) (on : Passed pairs cs (at + len_utf8 c)) → length p ≡ at
    → pieces (p ++ encode_utf8_all (c ∷ cs)) (at ∷ offsets_from pairs cs (at + len_utf8 c))
    ≡ encode_utf8_all (c ∷ on.passed) ∷ pieces (p ++ encode_utf8_all (c ∷ cs)) (offsets_from pairs cs (at + len_utf8 c))
first_piece pairs p cs c at on long =
    let text = p ++ encode_utf8_all (c ∷ cs) in
    let later = offsets_from pairs cs (at + len_utf8 c) in
    let own = encode_utf8_all (c ∷ on.passed) in
    elim on.next [
      | inl none ↦
          let whole : cs ≡ on.passed = on.split ∙ rw none.0 (append-nil on.passed) in
          let here : drop at text ≡ own =
          drop_at p (encode_utf8_all (c ∷ cs)) at long ∙ ap (λ (xs : List ℕ). encode_utf8_all (c ∷ xs)) whole in
          pieces_more text later own at (inl (none.1, here))
      | inr more ↦
          let parts : encode_utf8_all (c ∷ cs) ≡ own ++ encode_utf8_all on.rest =
          ap (λ (xs : List ℕ). encode_utf8_all (c ∷ xs)) on.split ∙ encodes-append (c ∷ on.passed) on.rest in
          let next : ℕ = at + len_utf8 c + length (encode_utf8_all on.passed) in
          let ends : next ≡ at + length own = omega (arith, bytes_more c on.passed) in
          let here : slice_range text at next ≡ own =
          ap (λ (xs : List ℕ). slice_range (p ++ xs) at next) parts ∙ piece_at p own (encode_utf8_all on.rest) at next long ends in
          pieces_more text later own at (inr (next, more.0, more.1, here))
    ]

-- a piece alone has the unit of its character
alone : (pairs : Bool) (c : ℕ) (cs : List ℕ) (at : ℕ) (on : Passed pairs cs at) → begins_unit pairs c ≡ true
    → scalars (c ∷ cs) ≡ true
    → units pairs (chars (encode_utf8_all (c ∷ on.passed))) ≡ unit_before pairs c cs ∷ []
alone pairs c cs at on begins valid =
    let known : scalars (c ∷ on.passed) ≡ true =
    scalars_front (c ∷ on.passed) on.rest (rw on.split at valid) in
    let kept : (pairs && is_selector c) ≡ false = not_so (pairs && is_selector c) begins in
    rw (chars-encodes (c ∷ on.passed) known, kept, on.none) (ap (λ (u : TextUnit). u ∷ []) (on.same c))

cut_by : (b pairs : Bool) (c : ℕ) (cs p : List ℕ) (at : ℕ) → begins_unit pairs c ≡ b → length p ≡ at → scalars (c ∷ cs) ≡ true
    → map (λ piece. units pairs (chars piece)) (pieces (p ++ encode_utf8_all (c ∷ cs)) (offsets_from pairs cs (at + len_utf8 c)))
    ≡ map (λ (u : TextUnit). u ∷ []) (units pairs cs)
    → map (λ piece. units pairs (chars piece)) (pieces (p ++ encode_utf8_all (c ∷ cs)) (offsets_from pairs (c ∷ cs) at))
    ≡ map (λ (u : TextUnit). u ∷ []) (units pairs (c ∷ cs))
cut_by true pairs c cs p at begins long valid rest =
    let on = passed_over pairs cs (at + len_utf8 c) in
    let kept : (pairs && is_selector c) ≡ false = not_so (pairs && is_selector c) begins in
    let first = first_piece pairs p cs c at on long in
    rw (kept, first) (ap₂ (λ (us : List TextUnit) (others : List (List TextUnit)). us ∷ others)
    (alone pairs c cs (at + len_utf8 c) on begins valid) rest)
cut_by false pairs c cs p at begins long valid rest =
    let over : (pairs && is_selector c) ≡ true = not_not (pairs && is_selector c) begins in
    rw over rest

cut_from : (pairs : Bool) (cs p : List ℕ) (at : ℕ) → length p ≡ at → scalars cs ≡ true
    → map (λ piece. units pairs (chars piece)) (pieces (p ++ encode_utf8_all cs) (offsets_from pairs cs at))
    ≡ map (λ (u : TextUnit). u ∷ []) (units pairs cs)
cut_from pairs [] p at long valid = refl
cut_from pairs (c ∷ cs) p at long valid =
    let width = length-encode c in
    let more : length (p ++ encode_utf8 c) ≡ at + len_utf8 c = length-append p (encode_utf8 c) ∙ omega (arith, long, width) in
    let both = both_hold (scalar c) (scalars cs) valid in
    cut_by (begins_unit pairs c) pairs c cs p at refl long valid
    (rw append_assoc at (cut_from pairs cs (p ++ encode_utf8 c) (at + len_utf8 c) more both.1))

cut_of : (pairs : Bool) (cs text : List ℕ) → scalars cs ≡ true → encode_utf8_all cs ≡ text
    → map (λ piece. units pairs (chars piece)) (pieces text (unit_offsets pairs text))
    ≡ map (λ (u : TextUnit). u ∷ []) (units pairs (chars text))
cut_of pairs cs text valid is =
    rw (← is, chars-encodes cs valid) (cut_from pairs cs [] 0 refl valid)

pub offsets_cut_texts : OffsetsCutTexts
offsets_cut_texts pairs text utf8 = cut_of pairs utf8.0 text utf8.1.0 utf8.1.1
