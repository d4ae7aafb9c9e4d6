-- The marks and spans that an edge adds in a row.
use Rattle.std.proofs.Common.{◌≡◌, ◌∙◌, ◌≢◌, refl, ℕ, ◌+◌, ◌<◌, ◌≤◌, Bool, true, false, ◌&&◌, ◌||◌, List, [], ◌∷◌, ◌++◌, length, drop, get_or, int_le, ◌≤ℤ◌, ◌<ℤ◌, nat_lt, inl, inr, arith}
use Rattle.std.specs.Prelude.{ℤ, pos, negsuc, ◌+ℤ◌, ◌-ℤ◌, not, int_lt, unsigned_abs, if◌then◌else◌}
use Rattle.std.proofs.lemmas.Bool.Decides.{nat_tests}
use Rattle.std.proofs.lemmas.Bool.{cases_lt}
use Rattle.std.proofs.lemmas.Int.{ints, by_lt_z}
use Rattle.std.proofs.lemmas.List.{drop_more}
use Rattle.tt_scan_edges.specs.declared.mark.Span.{Span}
use Rattle.tt_scan_edges.specs.Marks.{covers, turn_of}
use Rattle.tt_scan_edges.specs.Winding.{is_zero}
use Rattle.tt_scan_edges.proofs.Bools.{or_false, or_or}

-- one span more

pub covers_more : (ss : List Span) (s : Span) (c : ℤ)
    → covers (ss ++ s ∷ []) c ≡ (covers ss c || (int_le s.first c && int_le c s.last))
covers_more [] s c = or_false (int_le s.first c && int_le c s.last)
covers_more (t ∷ ss) s c =
    rw (covers_more ss s c) (or_or (int_le t.first c && int_le c t.last) (covers ss c) (int_le s.first c && int_le c s.last))

-- a turn as a mark

pub sign_is : (sum c f first sign t : ℤ) → f ≡ first → sign ≡ t → unsigned_abs t ≤ 1 → t ≢ pos 0
    → sum +ℤ (if int_le f c then turn_of (record { first = f; sign = sign }) else pos 0) ≡ sum +ℤ (if int_le first c then t else pos 0)
sign_is sum c f first sign t at is small some =
    let one : (if int_le (pos 0) t then pos 1 else negsuc 0) ≡ t = grind (arith, ints) in
    rw (at, is, one) refl

-- the columns up to a mark, where the marks left of them do not add up to 0

some_sum : (sum : ℤ) → sum ≢ pos 0 → is_zero sum ≡ false
some_sum sum some = grind (arith, ints)

pub stretch_is : (b : Bool) (from to sum c : ℤ) → sum ≢ pos 0
    → (b || (int_le from c && int_le c (to -ℤ pos 1))) ≡ (b || (int_le from c && int_lt c to && not (is_zero sum)))
stretch_is true from to sum c some = refl
stretch_is false from to sum c some = rw (some_sum sum some) (grind (arith, ints))

pub rest_is : (b : Bool) (from last sum c : ℤ) → sum ≢ pos 0 → c ≤ℤ last
    → (b || (int_le from c && int_le c last)) ≡ (b || (int_le from c && not (is_zero sum)))
rest_is true from last sum c some within = refl
rest_is false from last sum c some within = rw (some_sum sum some) (grind (arith, ints))

pub less : (a b : ℤ) → int_lt a b ≡ true → a <ℤ b
less a b holds = by_lt_z a b (λ under. under) (λ over. absurd (grind (arith, ints)))

-- one span more is painted

both_ways : (row w s t : Bool) → ((row || (w && s)) || (w && t)) ≡ (row || (w && (s || t)))
both_ways true w s t = refl
both_ways false true s t = refl
both_ways false false s t = refl

pub span_more : (old row new w : Bool) (ss : List Span) (i : ℕ) (c : ℤ) (d : Span) → i < length ss
    → (row || (w && covers (drop i ss) c)) ≡ old
    → new ≡ (row || (w && (int_le (get_or ss i d).first c && int_le c (get_or ss i d).last)))
    → (new || (w && covers (drop (i + 1) ss) c)) ≡ old
span_more old row new w ss i c d within so_far is_new =
    let left : (row || (w && covers (get_or ss i d ∷ drop (i + 1) ss) c)) ≡ old = rw (drop_more ss i d within) at so_far in
    rw is_new (both_ways row w (int_le (get_or ss i d).first c && int_le c (get_or ss i d).last) (covers (drop (i + 1) ss) c) ∙ left)

-- statements about columns within the width alone
pub within_width : (k width : ℕ) (s t : Bool) → (k < width → s ≡ t) → (nat_lt k width && s) ≡ (nat_lt k width && t)
within_width k width s t same = elim (cases_lt k width) [
  | inl inside ↦ rw (same inside) refl
  | inr outside ↦ let off : nat_lt k width ≡ false = grind (arith, nat_tests) in rw off refl
]
