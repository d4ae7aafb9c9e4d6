-- The black columns of a line as one word.
use Rattle.std.proofs.Common.{◌≡◌, ◌∙◌, refl, sym, ap, ℕ, ◌-◌, ◌<◌, ◌≤◌, Bool, true, false, ◌&&◌, ◌||◌, ◌==◌, nat_lt, List, inl, inr, arith}
use Rattle.std.specs.Int.{bit_at}
use Rattle.std.specs.Ordering.{int_eq}
use Rattle.std.specs.Prelude.{ℤ, ◌-ℤ◌, int_le, unsigned_abs}
use Rattle.std.proofs.lemmas.Bool.{cases_lt}
use Rattle.std.proofs.lemmas.Bool.Decides.{nat_tests}
use Rattle.tt_bitmap.specs.Bitmaps as bitmaps
use Rattle.tt_bitmap.specs.Bitmaps.{BoxBitmap, in_line}
use Rattle.tt_bitmap.specs.Words.{in_word}
use Rattle.tt_glyph_pixels.proofs.Lines.{same_box}
use Rattle.tt_scan.specs.Stamps as stamps
use Rattle.tt_scan.specs.Stamps.{shows}
use Rattle.tt_scan_edges.specs.Marks.{covers}
use Rattle.tt_scan_edges.specs.declared.mark.Span.{Span}
use Rattle.tt_scan_gaps.proofs.Tests.{both}

-- a column of a stamp is one of its word
stamp_column : (word columns j : ℕ) → columns ≤ 57 → ((i : ℕ) → i < 64 - columns → bit_at word i ≡ 0)
    → stamps.in_word word j ≡ in_word word j
stamp_column word columns j few free = elim (cases_lt j 57) [
  | inl inside ↦ let on : nat_lt j 57 ≡ true = grind (arith, nat_tests) in rw on refl
  | inr past ↦
      let off : nat_lt j 57 ≡ false = grind (arith, nat_tests) in
      let none : bit_at word (63 - j) ≡ 0 = free (63 - j) (omega (arith, few, past)) in
      rw (off, none) refl
]

pub stamp_line : (ss : List Span) (line low : ℤ) (columns word : ℕ) (c j : ℤ) → columns ≤ 57
    → ((i : ℕ) → i < 64 - columns → bit_at word i ≡ 0) → ((c : ℤ) → covers ss c ≡ shows low word c)
    → in_line line low word c j ≡ (int_eq j line && covers ss c)
stamp_line ss line low columns word c j few free is =
    ap (λ (x : Bool). int_eq j line && x)
    (ap (λ (x : Bool). int_le low c && x) (sym (stamp_column word columns (unsigned_abs (c -ℤ low)) few free)) ∙ sym (is c))

-- what is black lies in the box

and_false : (b : Bool) → false ≡ (b && false)
and_false true = refl
and_false false = refl

or_true : (b : Bool) → (b || true) ≡ true
or_true true = refl
or_true false = refl

pub boxed_black : (old new : BoxBitmap) (c j : ℤ) (black : Bool) → new ≡ record old { words = new.words }
    → bitmaps.is_black new c j ≡ (bitmaps.is_black old c j || black)
    → bitmaps.is_black new c j ≡ (bitmaps.is_black old c j || (bitmaps.has old c j && black))
boxed_black old new c j true place is =
    let seen : bitmaps.is_black new c j ≡ true = is ∙ or_true (bitmaps.is_black old c j) in
    let parts = both (bitmaps.has new c j) (bitmaps.pixel new.words (bitmaps.number new c j)) seen in
    let here : bitmaps.has old c j ≡ true = sym (same_box new old new.words c j place) ∙ parts.0 in
    is ∙ ap (λ (x : Bool). bitmaps.is_black old c j || (x && true)) (sym here)
boxed_black old new c j false place is =
    is ∙ ap (λ (x : Bool). bitmaps.is_black old c j || x) (and_false (bitmaps.has old c j))
