-- The gaps that edges cross rising and falling, in two tables.
use Rattle.std.proofs.Common.{◌≡◌, refl, sym, ap, ap₂, ◌∙◌, ℕ, zero, suc, ◌+◌, ◌<◌, Bool, true, false, not, ◌&&◌, ◌||◌, List, [], ◌∷◌, ◌++◌, map, get_or, take, length, inl, inr, ◌⊎◌, arith}
use Rattle.std.specs.Prelude.{ℤ}
use Rattle.std.specs.List.{list_any, range_with_len}
use Rattle.std.specs.Ordering.{int_eq}
use Rattle.std.proofs.lemmas.Bool.{cases_Bool}
use Rattle.std.proofs.lemmas.Int.{ints}
use Rattle.std.proofs.lemmas.List.{map-append, take_more}
use Rattle.std.proofs.lemmas.List.Folds.{list_any-append}
use Rattle.tt_scan_edges.specs.declared.edge.Edge.{Edge}
use Rattle.tt_scan_gaps.specs.BothWays.{AreMarked, AreTold, crosses_gap, goes_through, has_mark, is_through, slot}
use Rattle.tt_scan_gaps.specs.Crossings.{agree, crossing, crossings, is_rising, line_crossed, line_from, lines_crossed, meets_line}
use Rattle.tt_scan_gaps.specs.Seen.{seen_by, turned_round}
use Rattle.tt_scan_gaps.specs.Gaps.{is_free}
use Rattle.tt_scan_gaps.specs.declared.seen.Over.TheVariants as over
use Rattle.tt_scan_gaps.specs.declared.mark.Crossing.{Crossing}
use Rattle.tt_scan_gaps.proofs.Lines.{level}
use Rattle.tt_scan_gaps.proofs.Tests.{both, eq_of}
use Rattle.tt_scan_gaps.proofs.Walks.{more_crossings}

one_of_two : (a b : Bool) → (a || b) ≡ true → (a ≡ true) ⊎ (b ≡ true)
one_of_two true b is = inl refl
one_of_two false b is = inr is

last_of : (b : Bool) → (b || false) ≡ true → b ≡ true
last_of true is = refl
last_of false is = absurd cc

first : (a b c : Bool) → (a && b && c) ≡ true → a ≡ true
first true b c is = refl
first false b c is = absurd cc

second : (a b c : Bool) → (a && b && c) ≡ true → b ≡ true
second true true c is = refl
second true false c is = absurd cc
second false b c is = absurd cc

third : (a b c : Bool) → (a && b && c) ≡ true → c ≡ true
third true true c is = is
third true false c is = absurd cc
third false b c is = absurd cc

same_way : (a b : Bool) → agree a b ≡ true → a ≡ b
same_way true true is = refl
same_way false false is = refl
same_way true false is = absurd cc
same_way false true is = absurd cc

-- a crossing that passes a test
one_passes : (p : Crossing → Bool) (e : Edge) (n : ℕ)
    → list_any p (map (λ k. crossing e (line_crossed e k)) (range_with_len 0 n)) ≡ true
    → (k : ℕ) × (k < n) × (p (crossing e (line_crossed e k)) ≡ true)
one_passes p e zero some = absurd cc
one_passes p e (suc n) some =
    let f = λ (k : ℕ). crossing e (line_crossed e k) in
    let next : suc n ≡ n + 1 = omega arith in
    let one : list_any p (map f (range_with_len 0 (n + 1))) ≡ true =
    ap (λ m. list_any p (map f (range_with_len 0 m))) (sym next) ∙ some in
    let split : list_any p (map f (range_with_len 0 (n + 1))) ≡ (list_any p (map f (range_with_len 0 n)) || (p (f n) || false)) =
    ap (list_any p) (more_crossings e n) ∙ list_any-append p (map f (range_with_len 0 n)) (f n ∷ []) in
    elim (one_of_two (list_any p (map f (range_with_len 0 n))) (p (f n) || false) (sym split ∙ one)) [
      | inl before ↦ let it = one_passes p e n before in (it.0, omega (arith, it.1), it.2)
      | inr last ↦ (n, omega arith, last_of (p (f n)) last)
    ]

-- the direction of an edge through a gap
abbrev GoesThrough : Bool → ℤ → ℤ → Edge → Type 0
GoesThrough up j c e = (k : ℕ) × (k < lines_crossed e) × (line_crossed e k ≡ j)
    × ((crossing e (line_crossed e k)).gap ≡ c) × (is_rising e ≡ up)

-- with one edge more, either those before it cross a gap, or it does
one_goes : (up : Bool) (es : List Edge) (e : Edge) (j c : ℤ) → crosses_gap up (es ++ e ∷ []) j c ≡ true
    → (crosses_gap up es j c ≡ true) ⊎ GoesThrough up j c e
one_goes up es e j c some =
    let test = is_through up j c in
    let split : crosses_gap up (es ++ e ∷ []) j c ≡ (crosses_gap up es j c || (list_any test (crossings e) || false)) =
    list_any-append (goes_through up j c) es (e ∷ []) in
    elim (one_of_two (crosses_gap up es j c) (list_any test (crossings e) || false) (sym split ∙ some)) [
      | inl before ↦ inl before
      | inr last ↦
          let it = one_passes test e (lines_crossed e) (last_of (list_any test (crossings e)) last) in
          let on_line = int_eq (line_crossed e it.0) j in
          let in_gap = int_eq (crossing e (line_crossed e it.0)).gap c in
          let agrees = agree (is_rising e) up in
          let line : line_crossed e it.0 ≡ j = eq_of (line_crossed e it.0) j (first on_line in_gap agrees it.2) in
          let gap : (crossing e (line_crossed e it.0)).gap ≡ c =
          eq_of (crossing e (line_crossed e it.0)).gap c (second on_line in_gap agrees it.2) in
          let way : is_rising e ≡ up = same_way (is_rising e) up (third on_line in_gap agrees it.2) in
          inr (it.0, it.1, line, gap, way)
    ]

-- marks remain, an edge's gaps are marked, and no gap of it that the other table has is free
abbrev Kept : List ℕ → List ℕ → Type 0
Kept old new = (s : ℕ) → has_mark old s ≡ true → has_mark new s ≡ true

abbrev IsMarked : Edge → List ℕ → Type 0
IsMarked e table = (k : ℕ) → k < lines_crossed e
    → has_mark table (slot (line_crossed e k) (crossing e (line_crossed e k)).gap) ≡ true

abbrev NoneIsFree : (ℤ → ℤ → Bool) → Edge → List ℕ → Type 0
NoneIsFree black e other = (k : ℕ) → k < lines_crossed e
    → has_mark other (slot (line_crossed e k) (crossing e (line_crossed e k)).gap) ≡ true
    → is_free black (crossing e (line_crossed e k)).gap (line_crossed e k) ≡ false

-- one edge more is marked
pub one_more : (up : Bool) (es : List Edge) (e : Edge) (old new : List ℕ) → AreMarked up es old
    → Kept old new → (is_rising e ≡ up → IsMarked e new) → AreMarked up (es ++ e ∷ []) new
one_more up es e old new marked kept its = λ j c some.
    elim (one_goes up es e j c some) [
      | inl before ↦ kept (slot j c) (marked j c before)
      | inr it ↦ ap (λ s. has_mark new s) (ap₂ slot (sym it.2) (sym it.3)) ∙ its it.4 it.0 it.1
    ]

not_same : (up : Bool) → up ≡ not up → true ≡ false
not_same true is = is
not_same false is = sym is

twice : (up : Bool) → up ≡ not (not up)
twice true = refl
twice false = refl

-- an edge goes through gaps one way only
other_before : (up : Bool) (es : List Edge) (e : Edge) (j c : ℤ) → is_rising e ≡ not up
    → crosses_gap up (es ++ e ∷ []) j c ≡ true → crosses_gap up es j c ≡ true
other_before up es e j c way some = elim (one_goes up es e j c some) [
  | inl before ↦ before
  | inr it ↦ let bad : true ≡ false = not_same up (sym it.4 ∙ way) in absurd cc
]

-- a gap crossed both ways with one edge more is not free, if no gap of the edge in the other table is free
by_one_more : (black : ℤ → ℤ → Bool) (up : Bool) (es : List Edge) (e : Edge) (other : List ℕ) (j c : ℤ)
    → is_rising e ≡ up → AreMarked (not up) es other → NoneIsFree black e other
    → (crosses_gap up es j c ≡ true → crosses_gap (not up) es j c ≡ true → is_free black c j ≡ false)
    → crosses_gap up (es ++ e ∷ []) j c ≡ true → crosses_gap (not up) (es ++ e ∷ []) j c ≡ true
    → is_free black c j ≡ false
by_one_more black up es e other j c way marked taken before one two =
    let back = other_before (not up) es e j c (way ∙ twice up) two in
    elim (one_goes up es e j c one) [
      | inl first ↦ before first back
      | inr it ↦
          let has : has_mark other (slot (line_crossed e it.0) (crossing e (line_crossed e it.0)).gap) ≡ true =
          ap (λ s. has_mark other s) (ap₂ slot it.2 it.3) ∙ marked j c back in
          ap₂ (is_free black) (sym it.3) (sym it.2) ∙ taken it.0 it.1 has
    ]

pub one_rises : (black : ℤ → ℤ → Bool) (es : List Edge) (e : Edge) (old new falling : List ℕ) → is_rising e ≡ true
    → Kept old new → IsMarked e new → NoneIsFree black e falling
    → AreTold black es old falling → AreTold black (es ++ e ∷ []) new falling
one_rises black es e old new falling rises kept marked free told = record {
  up = one_more true es e old new told.up kept (λ way. marked);
  down = one_more false es e falling falling told.down (λ s h. h)
      (λ way. let bad : true ≡ false = sym rises ∙ way in absurd cc);
  none = λ j c two.
      let b = both (crosses_gap true (es ++ e ∷ []) j c) (crosses_gap false (es ++ e ∷ []) j c) two in
      by_one_more black true es e falling j c rises told.down free
      (λ one other. told.none j c (ap₂ (λ a b. a && b) one other)) b.0 b.1;
}

pub one_falls : (black : ℤ → ℤ → Bool) (es : List Edge) (e : Edge) (rising old new : List ℕ) → is_rising e ≡ false
    → Kept old new → IsMarked e new → NoneIsFree black e rising
    → AreTold black es rising old → AreTold black (es ++ e ∷ []) rising new
one_falls black es e rising old new falls kept marked free told = record {
  up = one_more true es e rising rising told.up (λ s h. h)
      (λ way. let bad : true ≡ false = sym way ∙ falls in absurd cc);
  down = one_more false es e old new told.down kept (λ way. marked);
  none = λ j c two.
      let b = both (crosses_gap true (es ++ e ∷ []) j c) (crosses_gap false (es ++ e ∷ []) j c) two in
      by_one_more black false es e rising j c falls told.up free
      (λ one other. told.none j c (ap₂ (λ a b. a && b) other one)) b.1 b.0;
}

-- an edge that meets no line leaves the tables unchanged
pub none_more : (black : ℤ → ℤ → Bool) (es : List Edge) (e : Edge) (rising falling : List ℕ)
    → meets_line false e.ay e.by ≡ false → AreTold black es rising falling → AreTold black (es ++ e ∷ []) rising falling
none_more black es e rising falling unmet told =
    let same : line_from e.ay ≡ line_from e.by = level e.ay e.by unmet in
    let none : lines_crossed e ≡ 0 = omega (arith, ints, same) in
    let marked : IsMarked e rising = λ k less. absurd (omega (arith, none, less)) in
    let marked_too : IsMarked e falling = λ k less. absurd (omega (arith, none, less)) in
    elim (cases_Bool (is_rising e)) [
      | inl rises ↦ one_rises black es e rising rising falling rises (λ s h. h) marked
          (λ k less. absurd (omega (arith, none, less))) told
      | inr falls ↦ one_falls black es e rising falling falling falls (λ s h. h) marked_too
          (λ k less. absurd (omega (arith, none, less))) told
    ]

-- one edge more after those so far
pub more_seen : (f : Edge → Edge) (es : List Edge) (i : ℕ) (d : Edge) → i < length es
    → map f (take (i + 1) es) ≡ map f (take i es) ++ f (get_or es i d) ∷ []
more_seen f es i d below = ap (map f) (take_more es i d below) ∙ map-append f (take i es) (get_or es i d ∷ [])

-- the edges as a pass sees them

pub seen_by_rows : (es : List Edge) → map (seen_by over.Rows) es ≡ es
seen_by_rows [] = refl
seen_by_rows (e ∷ es) = ap (λ r. e ∷ r) (seen_by_rows es)

pub seen_by_columns : (es : List Edge) → map (seen_by over.Columns) es ≡ map turned_round es
seen_by_columns [] = refl
seen_by_columns (e ∷ es) = ap (λ r. turned_round e ∷ r) (seen_by_columns es)
