-- The columns of spans as a stamp, and a stamp painted.
use Rattle.std.proofs.Common.{◌≡◌, ◌∙◌, sym, refl, ℕ, ◌+◌, ◌-◌, ◌<◌, ◌≤◌, Bool, true, false, ◌&&◌, ◌||◌, ◌==◌, nat_le, nat_lt, List, [], ◌∷◌, length, take, get_or, bit_or, ℤ, pos, ◌+ℤ◌, ◌-ℤ◌, ◌≤ℤ◌, ◌<ℤ◌, ◌^◌, int_le, int_lt, unsigned_abs, SFits, w64, to_z, of_z, arith, inl, inr}
use Rattle.std.specs.Int.{bit_at}
use Rattle.std.proofs.lemmas.Bool.Decides.{nat_tests}
use Rattle.std.proofs.lemmas.Bool.{cases_lt}
use Rattle.std.proofs.lemmas.Int.{ints, by_lt_z, to_z-of_z}
use Rattle.std.proofs.lemmas.List.{take_more}
use Rattle.std.proofs.lemmas.Nat.Bits.{bit_at-lt, bit_at-zero, bit_at_or}
use Rattle.tt_scan_edges.specs.declared.mark.Span.{Span}
use Rattle.tt_scan.specs.declared.word.Stamp.{Stamp}
use Rattle.tt_scan_edges.specs.Marks.{covers}
use Rattle.tt_scan.specs.Stamps.{in_word, shows, IsStampOf}
use Rattle.tt_scan_edges.proofs.Bools.{or_false}
use Rattle.tt_scan.proofs.Columns.{or_bit}
use Rattle.tt_scan_edges.proofs.Orders.{reached}
use Rattle.tt_scan.proofs.Words.{past_last}
use Rattle.tt_scan_edges.proofs.Visits.{covers_more}

-- a span from a stamp's first column on, up to its last; the numbers computed for it fit
pub record Spanned (low first last : ℤ) : Type 0 where
  pub is_low : to_z w64 (of_z w64 low) ≡ low
  pub is_first : to_z w64 (of_z w64 first) ≡ first
  pub is_last : to_z w64 (of_z w64 last) ≡ last
  pub from : to_z w64 (of_z w64 (first -ℤ low)) ≡ first -ℤ low
  pub past : to_z w64 (of_z w64 (last +ℤ pos 1)) ≡ last +ℤ pos 1
  pub to : to_z w64 (of_z w64 ((last +ℤ pos 1) -ℤ low)) ≡ (last +ℤ pos 1) -ℤ low
  pub above : low ≤ℤ first
  pub below : last ≤ℤ (low +ℤ pos 56)
  pub is_from : pos (unsigned_abs (first -ℤ low)) ≡ first -ℤ low
  pub is_to : pos (unsigned_abs ((last +ℤ pos 1) -ℤ low)) ≡ (last +ℤ pos 1) -ℤ low
  pub order : unsigned_abs (first -ℤ low) ≤ unsigned_abs ((last +ℤ pos 1) -ℤ low)
  pub fits : unsigned_abs ((last +ℤ pos 1) -ℤ low) ≤ 57

pub spanned : (low first last : ℤ) → SFits w64 low → SFits w64 first → SFits w64 last → unsigned_abs low ≤ 2 ^ 40
    → int_lt (to_z w64 (of_z w64 first)) (to_z w64 (of_z w64 low)) ≡ false
    → int_lt (to_z w64 (of_z w64 last)) (to_z w64 (of_z w64 first)) ≡ false
    → int_lt (to_z w64 (of_z w64 (to_z w64 (of_z w64 low) +ℤ pos 56))) (to_z w64 (of_z w64 last)) ≡ false
    → Spanned low first last
spanned low first last low_fits first_fits last_fits small one two three =
    let end : SFits w64 (low +ℤ pos 56) = omega (arith, ints) in
    let above = reached first low (simp to_z-of_z at one) in
    let along = reached last first (simp to_z-of_z at two) in
    let below = reached (low +ℤ pos 56) last (simp to_z-of_z at three) in
    record {
      is_low = to_z-of_z w64 low low_fits;
      is_first = to_z-of_z w64 first first_fits;
      is_last = to_z-of_z w64 last last_fits;
      from = to_z-of_z w64 (first -ℤ low) (omega (arith, ints, above, along, below));
      past = to_z-of_z w64 (last +ℤ pos 1) (omega (arith, ints, above, along, below));
      to = to_z-of_z w64 ((last +ℤ pos 1) -ℤ low) (omega (arith, ints, above, along, below));
      above = above;
      below = below;
      is_from = omega (arith, ints, above);
      is_to = omega (arith, ints, above, along);
      order = omega (arith, ints, above, along);
      fits = omega (arith, ints, above, along, below);
    }

second_false : (a b : Bool) → b ≡ false → (a && b) ≡ false
second_false true b off = off
second_false false b off = refl

-- one span more

spread_in : (a b c d : Bool) → b ≡ (c || d) → (a && b) ≡ ((a && c) || (a && d))
spread_in true b c d is = is
spread_in false b c d is = refl

in_both : (word mask j : ℕ) → in_word (bit_or word mask) j ≡ (in_word word j || in_word mask j)
in_both word mask j =
    spread_in (nat_lt j 57) (bit_at (bit_or word mask) (63 - j) == 1) (bit_at word (63 - j) == 1) (bit_at mask (63 - j) == 1) (or_bit word mask (63 - j))

mask_shows : (low first last c : ℤ) (from to mask : ℕ) → pos from ≡ first -ℤ low → pos to ≡ (last +ℤ pos 1) -ℤ low → low ≤ℤ first → last ≤ℤ (low +ℤ pos 56)
    → ((j : ℕ) → j < 64 → (bit_at mask (63 - j) == 1) ≡ (nat_le from j && nat_lt j to))
    → (int_le low c && in_word mask (unsigned_abs (c -ℤ low))) ≡ (int_le first c && int_le c last)
mask_shows low first last c from to mask is_from is_to above below is =
    by_lt_z c low
    (λ left.
    let off : int_le low c ≡ false = grind (arith, ints) in
    let out : int_le first c ≡ false = grind (arith, ints) in
    rw (off, out) refl)
    (λ right.
    let on : int_le low c ≡ true = grind (arith, ints) in
    elim (cases_lt (unsigned_abs (c -ℤ low)) 57) [
      | inl inside ↦
          let in_it : nat_lt (unsigned_abs (c -ℤ low)) 57 ≡ true = grind (arith, nat_tests) in
          let columns = is (unsigned_abs (c -ℤ low)) (omega arith) in
          rw (on, in_it, columns) (grind (arith, ints, nat_tests))
      | inr past ↦
          let out : nat_lt (unsigned_abs (c -ℤ low)) 57 ≡ false = grind (arith, nat_tests) in
          let over : int_le c last ≡ false = grind (arith, ints) in
          rw (on, out, over) (sym (second_false (int_le first c) false refl))
    ])

pub shows_more : (low : ℤ) (old new : ℕ) (span : Span) (from to mask : ℕ) (c : ℤ) → new ≡ bit_or old mask
    → pos from ≡ span.first -ℤ low → pos to ≡ (span.last +ℤ pos 1) -ℤ low → low ≤ℤ span.first → span.last ≤ℤ (low +ℤ pos 56)
    → ((j : ℕ) → j < 64 → (bit_at mask (63 - j) == 1) ≡ (nat_le from j && nat_lt j to))
    → shows low new c ≡ (shows low old c || (int_le span.first c && int_le c span.last))
shows_more low old new span from to mask c word is_from is_to above below is =
    rw (word, in_both old mask (unsigned_abs (c -ℤ low)), ← mask_shows low span.first span.last c from to mask is_from is_to above below is)
    (spread_in (int_le low c) (in_word old (unsigned_abs (c -ℤ low)) || in_word mask (unsigned_abs (c -ℤ low))) (in_word old (unsigned_abs (c -ℤ low))) (in_word mask (unsigned_abs (c -ℤ low))) refl)

pub free_more : (word mask from to i : ℕ) → to ≤ 57 → ((j : ℕ) → j < 64 → (bit_at mask (63 - j) == 1) ≡ (nat_le from j && nat_lt j to))
    → i < 64 - to → bit_at word i ≡ 0 → bit_at (bit_or word mask) i ≡ 0
free_more word mask from to i short is low free =
    let at : 63 - (63 - i) ≡ i = omega arith in
    let off = rw at at (is (63 - i) (omega arith)) in
    let few = bit_at-lt mask i in
    let zero : bit_at mask i ≡ 0 = grind (arith, nat_tests) in
    bit_at_or word mask i ∙ rw (free, zero) refl

pub span_added : (ss : List Span) (i : ℕ) (d : Span) (c : ℤ) (so_far now : Bool) → i < length ss → covers (take i ss) c ≡ so_far
    → now ≡ (so_far || (int_le (get_or ss i d).first c && int_le c (get_or ss i d).last)) → covers (take (i + 1) ss) c ≡ now
span_added ss i d c so_far now below is is_now =
    rw (take_more ss i d below) (covers_more (take i ss) (get_or ss i d) c ∙ rw is (sym is_now))

-- painted at a place

within_row : (word columns at k width : ℕ) → columns ≤ 57 → ((b : ℕ) → b < 64 - columns → bit_at word b ≡ 0) → at + columns ≤ width
    → in_word word (k - at) ≡ (nat_lt k width && in_word word (k - at))
within_row word columns at k width few free room = elim (cases_lt k width) [
  | inl inside ↦ let on : nat_lt k width ≡ true = grind (arith, nat_tests) in rw on refl
  | inr past ↦
      let off : nat_lt k width ≡ false = grind (arith, nat_tests) in
      let out = past_last word columns (k - at) few free (omega arith) in
      rw (off, out) refl
]

pub stamp_painted : (ss : List Span) (s : Stamp) (at k width : ℕ) (shift : ℤ) → IsStampOf ss s → pos at ≡ s.low +ℤ shift → at + s.columns ≤ width
    → (nat_le at k && in_word s.word (k - at)) ≡ (nat_lt k width && covers ss (pos k -ℤ shift))
stamp_painted ss s at k width shift is is_at room =
    rw (is (pos k -ℤ shift)) (elim (cases_lt k at) [
      | inl left ↦
          let off : nat_le at k ≡ false = grind (arith, nat_tests) in
          let out : int_le s.low (pos k -ℤ shift) ≡ false = grind (arith, ints) in
          rw (off, out) (sym (second_false (nat_lt k width) false refl))
      | inr right ↦
          let on : nat_le at k ≡ true = grind (arith, nat_tests) in
          let in_it : int_le s.low (pos k -ℤ shift) ≡ true = grind (arith, ints) in
          let same : unsigned_abs ((pos k -ℤ shift) -ℤ s.low) ≡ k - at = omega (arith, ints) in
          rw (on, in_it, same) (within_row s.word s.columns at k width s.narrow s.free room)
    ])

-- a place within the row passes both tests
both_true : (a b : Bool) → (a && b) ≡ true → (a ≡ true) × (b ≡ true)
both_true true b is = (refl, is)
both_true false b is = absurd cc

pub inside_painted : (ss : List Span) (s : Stamp) (shift inside : ℤ) (k width : ℕ) → IsStampOf ss s
    → (int_le (pos 0) (s.low +ℤ shift) && int_lt (s.low +ℤ shift) inside) ≡ true
    → ((at : ℕ) → pos at <ℤ inside → at + 64 ≤ width)
    → (nat_le (unsigned_abs (s.low +ℤ shift)) k && in_word s.word (k - unsigned_abs (s.low +ℤ shift))) ≡ (nat_lt k width && covers ss (pos k -ℤ shift))
inside_painted ss s shift inside k width is passed room =
    let tests = both_true (int_le (pos 0) (s.low +ℤ shift)) (int_lt (s.low +ℤ shift) inside) passed in
    let from : pos 0 ≤ℤ (s.low +ℤ shift) = by_lt_z (s.low +ℤ shift) (pos 0) (λ left. let test = tests.0 in absurd (grind (arith, ints))) (λ right. right) in
    let below : (s.low +ℤ shift) <ℤ inside = by_lt_z (s.low +ℤ shift) inside (λ left. left) (λ right. let test = tests.1 in absurd (grind (arith, ints))) in
    let at : pos (unsigned_abs (s.low +ℤ shift)) ≡ s.low +ℤ shift = omega (arith, ints) in
    let fits = room (unsigned_abs (s.low +ℤ shift)) (rw at below) in
    stamp_painted ss s (unsigned_abs (s.low +ℤ shift)) k width shift is at (omega (arith, s.narrow))

-- a span alone

both_off : (a b : Bool) → (a && (b && false)) ≡ false
both_off true true = refl
both_off true false = refl
both_off false b = refl

empty_shows : (low c : ℤ) → shows low 0 c ≡ false
empty_shows low c =
    rw (bit_at-zero (63 - unsigned_abs (c -ℤ low))) (both_off (int_le low c) (nat_lt (unsigned_abs (c -ℤ low)) 57))

pub span_alone : (low : ℤ) (s : Span) (t : Stamp) (c : ℤ) → shows t.low t.word c ≡ (shows low 0 c || (int_le s.first c && int_le c s.last))
    → covers (s ∷ []) c ≡ shows t.low t.word c
span_alone low s t c is = or_false (int_le s.first c && int_le c s.last) ∙ sym (rw (empty_shows low c) at is)
