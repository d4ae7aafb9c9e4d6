-- The distinct characters without a glyph: the effect of one more unit, and statements about all listed characters.
use Rattle.std.proofs.Common.{◌≡◌, ◌≢◌, inl, inr, refl, ◌∙◌, ℕ, ◌<◌, Bool, true, false, ◌||◌, ◌==◌, List, [], ◌∷◌, ◌++◌, Option, Some, None, if◌then◌else◌, arith}
use Rattle.std.specs.Prelude.{map, ◌&&◌}
use Rattle.std.specs.List.{All, AllPairs, Contains, filter}
use Rattle.std.proofs.lemmas.Bool.{cases_eq}
use Rattle.std.proofs.lemmas.Bool.Decides.{nat_tests}
use Rattle.std.proofs.lemmas.List.Elements.{All-nil, All-cons, All-head, All-tail, All-push, All-weaker, All-filter, All-contains, All-contains_itself, All-map, filter_passes, Contains-append_left, Contains-append_right, Contains-push}
use Rattle.std.proofs.lemmas.List.Quantifiers.{all_pairs_push}
use Rattle.tt_cmap.specs.Laws.{FullTextsLackNothing}
use Rattle.tt_cmap.specs.declared.units.TextUnit.{TextUnit}
use Rattle.tt_cmap.specs.Lookup.{glyph_of}
use Rattle.tt_cmap.specs.Maps.{CharacterMap, strict, wide, has_pairs, units_by, glyph_by, glyph_of_unit}
use Rattle.tt_cmap.specs.Units.{character_of, is_selector, unit_before, units}
use Rattle.tt_cmap.specs.WideLookup.{WideCmap, variation_in, wide_glyph_by, wide_glyph_of}
use Rattle.tt_cmap.specs.Lacking.{is_among, with_character, distinct_after, distinct, lacks, lacking_of, with_unit, AllHaveGlyphs}

-- one more unit
unit-first : (m : CharacterMap) (is : Bool) (before : List ℕ) (u : TextUnit) (us : List TextUnit) → lacks m u ≡ is
    → distinct_after before (map character_of (filter (lacks m) (u ∷ us)))
    ≡ distinct_after (if is then with_character before u.character else before) (map character_of (filter (lacks m) us))
unit-first m true before u us is = rw is refl
unit-first m false before u us is = rw is refl

-- the list for the units that are left, after those so far gave `before`
abbrev pub lacking_after : CharacterMap → List ℕ → List TextUnit → List ℕ
lacking_after m before us = distinct_after before (map character_of (filter (lacks m) us))

pub one-more : (m : CharacterMap) (before : List ℕ) (u : TextUnit) (us : List TextUnit)
    → lacking_after m before (u ∷ us) ≡ lacking_after m (with_unit m before u) us
one-more m before u us = unit-first m (lacks m u) before u us refl

-- a statement about all characters of a list holds for its distinct characters
with-all : (P : ℕ → Type 0) (there : Bool) (before : List ℕ) (c : ℕ) → is_among c before ≡ there → All P before → P c
    → All P (with_character before c)
with-all P true before c is all one = rw is all
with-all P false before c is all one = rw is (All-push P before c all one)

after-all : (P : ℕ → Type 0) (before cs : List ℕ) → All P before → All P cs → All P (distinct_after before cs)
after-all P before [] first rest = first
after-all P before (c ∷ cs) first rest =
    after-all P (with_character before c) cs
    (with-all P (is_among c before) before c refl first (All-head P c cs rest)) (All-tail P c cs rest)

-- a unit without a glyph: its character has none by itself
zero_by : (n : ℕ) → (n == 0) ≡ true → n ≡ 0
zero_by n is = grind (arith, nat_tests, is)

not-zero : (n : ℕ) → (n == 0) ≡ false → n ≡ 0 → ⊥
not-zero n is zero = grind (arith, nat_tests, is, zero)

own-missing-by : (is : Bool) (other own : ℕ) → (other == 0) ≡ is → (if is then own else other) ≡ 0 → own ≡ 0
own-missing-by true other own is zero = zero
own-missing-by false other own is zero = absurd (not-zero other is zero)

own-missing-wide : (w : WideCmap) (c : ℕ) (o : Option ℕ) → wide_glyph_by w c o ≡ 0 → wide_glyph_of w c ≡ 0
own-missing-wide w c None zero = zero
own-missing-wide w c (Some v) zero =
    own-missing-by (variation_in w.variations w.table w.glyphs c v == 0) (variation_in w.variations w.table w.glyphs c v)
    (wide_glyph_of w c) refl zero

own-missing : (m : CharacterMap) (u : TextUnit) → lacks m u ≡ true → glyph_by m u.character ≡ 0
own-missing (strict m) u is = zero_by (glyph_of m u.character) is
own-missing (wide m) u is = own-missing-wide m u.character u.selector (zero_by (wide_glyph_by m u.character u.selector) is)

pub lacking_missing : (m : CharacterMap) (cs : List ℕ) → All (λ c. glyph_by m c ≡ 0) (lacking_of m cs)
unfolding lacking_of
lacking_missing m cs =
    let us = filter (lacks m) (units_by m cs) in
    let passed : All (λ u. lacks m u ≡ true) us = filter_passes (lacks m) (units_by m cs) in
    let zero : All (λ u. glyph_by m u.character ≡ 0) us =
    All-weaker (λ u. lacks m u ≡ true) (λ u. glyph_by m u.character ≡ 0) (own-missing m) us passed in
    after-all (λ c. glyph_by m c ≡ 0) [] (map character_of us) (All-nil (λ c. glyph_by m c ≡ 0))
    (All-map (λ c. glyph_by m c ≡ 0) character_of us zero)

-- a statement about all characters of a text holds for its units' characters
one-all : (P : ℕ → Type 0) (is : Bool) (u : TextUnit) (us : List TextUnit) → P u.character → All (λ u. P u.character) us
    → All (λ u. P u.character) (if is then us else u ∷ us)
one-all P true u us one all = all
one-all P false u us one all = All-cons (λ u. P u.character) u us one all

units-all : (P : ℕ → Type 0) (pairs : Bool) (cs : List ℕ) → All P cs → All (λ u. P u.character) (units pairs cs)
units-all P pairs [] all = All-nil (λ u. P u.character)
units-all P pairs (c ∷ cs) all =
    one-all P (pairs && is_selector c) (unit_before pairs c cs) (units pairs cs) (All-head P c cs all)
    (units-all P pairs cs (All-tail P c cs all))

pub lacking_stand : (m : CharacterMap) (cs : List ℕ) → All (Contains cs) (lacking_of m cs)
unfolding lacking_of
lacking_stand m cs =
    let us = units_by m cs in
    let stand : All (λ u. Contains cs u.character) us =
    units-all (Contains cs) (has_pairs m) cs (All-contains_itself cs) in
    after-all (Contains cs) [] (map character_of (filter (lacks m) us)) (All-nil (Contains cs))
    (All-map (Contains cs) character_of (filter (lacks m) us)
    (All-filter (lacks m) (λ u. Contains cs u.character) us stand))

neither : (a b : Bool) → (a || b) ≡ false → (a ≡ false) × (b ≡ false)
neither true b is = absurd cc
neither false b is = (refl, is)

not_found : (c : ℕ) (cs : List ℕ) → is_among c cs ≡ false → All (λ d. d ≢ c) cs
not_found c [] is = All-nil (λ d. d ≢ c)
not_found c (d ∷ cs) is =
    let parts = neither (d == c) (is_among c cs) is in
    let other : (d == c) ≡ false = parts.0 in
    let apart : d ≢ c = grind (arith, nat_tests, other) in
    All-cons (λ d. d ≢ c) d cs apart (not_found c cs parts.1)

found_by : (here : Bool) (c d : ℕ) (cs : List ℕ) → (d == c) ≡ here → (here || is_among c cs) ≡ true
    → (is_among c cs ≡ true → Contains cs c) → Contains (d ∷ cs) c
found_by true c d cs same is rest =
    let e : d ≡ c = grind (arith, nat_tests, same) in rw e (Contains-append_left (c ∷ []) cs c (Contains-push [] c))
found_by false c d cs same is rest = Contains-append_right (d ∷ []) cs c (rest is)

found : (c : ℕ) (cs : List ℕ) → is_among c cs ≡ true → Contains cs c
found c [] is = absurd cc
found c (d ∷ cs) is = found_by (d == c) c d cs refl is (found c cs)

-- the distinct characters differ from one another
with-differ : (there : Bool) (before : List ℕ) (c : ℕ) → is_among c before ≡ there → AllPairs (λ c d. c ≢ d) before
    → AllPairs (λ c d. c ≢ d) (with_character before c)
with-differ true before c is differ = rw is differ
with-differ false before c is differ =
    let apart : All (λ d. d ≢ c) before = not_found c before is in
    rw is (all_pairs_push (λ c d. c ≢ d) before c differ (λ k d below. apart k d below))

after-differ : (before cs : List ℕ) → AllPairs (λ c d. c ≢ d) before
    → AllPairs (λ c d. c ≢ d) (distinct_after before cs)
after-differ before [] differ = differ
after-differ before (c ∷ cs) differ =
    after-differ (with_character before c) cs (with-differ (is_among c before) before c refl differ)

none-differ : AllPairs (λ (c d : ℕ). c ≢ d) []
none-differ = λ i j d below within. absurd (omega arith)

pub lacking_once : (m : CharacterMap) (cs : List ℕ) → AllPairs (λ c d. c ≢ d) (lacking_of m cs)
unfolding lacking_of
lacking_once m cs = after-differ [] (map character_of (filter (lacks m) (units_by m cs))) none-differ

-- each character of a list is among its distinct characters
with-keeps : (there : Bool) (before : List ℕ) (c d : ℕ) → is_among c before ≡ there → Contains before d
    → Contains (with_character before c) d
with-keeps true before c d is stands = rw is stands
with-keeps false before c d is stands = rw is (Contains-append_left before (c ∷ []) d stands)

after-keeps : (before cs : List ℕ) (d : ℕ) → Contains before d → Contains (distinct_after before cs) d
after-keeps before [] d stands = stands
after-keeps before (c ∷ cs) d stands =
    after-keeps (with_character before c) cs d (with-keeps (is_among c before) before c d refl stands)

with-itself : (there : Bool) (before : List ℕ) (c : ℕ) → is_among c before ≡ there
    → Contains (with_character before c) c
with-itself true before c is = rw is (found c before is)
with-itself false before c is = rw is (Contains-push before c)

after-every : (before cs : List ℕ) → All (Contains (distinct_after before cs)) cs
after-every before [] = All-nil (Contains before)
after-every before (c ∷ cs) =
    let whole = distinct_after (with_character before c) cs in
    All-cons (Contains whole) c cs
    (after-keeps (with_character before c) cs c (with-itself (is_among c before) before c refl))
    (after-every (with_character before c) cs)

-- each unit without a glyph gives its character
given-first : (p : TextUnit → Bool) (u : TextUnit) (us : List TextUnit) → p u ≡ true
    → Contains (map character_of (filter p (u ∷ us))) u.character
given-first p u us is =
    rw is (Contains-append_left (u.character ∷ []) (map character_of (filter p us)) u.character (Contains-push [] u.character))

given-after : (p : TextUnit → Bool) (by : Bool) (u : TextUnit) (d : ℕ) (us : List TextUnit) → p u ≡ by
    → Contains (map character_of (filter p us)) d → Contains (map character_of (filter p (u ∷ us))) d
given-after p true u d us is stands =
    rw is (Contains-append_right (u.character ∷ []) (map character_of (filter p us)) d stands)
given-after p false u d us is stands = rw is stands

abbrev IsGiven : (TextUnit → Bool) → List TextUnit → TextUnit → Type 0
IsGiven p us v = p v ≡ true → Contains (map character_of (filter p us)) v.character

all-given : (p : TextUnit → Bool) (us : List TextUnit) → All (IsGiven p us) us
all-given p [] = All-nil (IsGiven p [])
all-given p (u ∷ us) =
    All-cons (IsGiven p (u ∷ us)) u us (given-first p u us)
    (All-weaker (IsGiven p us) (IsGiven p (u ∷ us))
    (λ v stands is. given-after p (p u) u v.character us refl (stands is)) us (all-given p us))

pub lacking_every : (m : CharacterMap) (cs : List ℕ) (u : TextUnit) → Contains (units_by m cs) u → glyph_of_unit m u ≡ 0
    → Contains (lacking_of m cs) u.character
unfolding lacking_of
lacking_every m cs u stands missing =
    let is : lacks m u ≡ true = rw missing refl in
    let given = map character_of (filter (lacks m) (units_by m cs)) in
    All-contains (Contains (distinct given)) given u.character (after-every [] given)
    (All-contains (IsGiven (lacks m) (units_by m cs)) (units_by m cs) u (all-given (lacks m) (units_by m cs)) stands is)

some-is : (n : ℕ) → 0 < n → (n == 0) ≡ false
some-is n some = grind (arith, nat_tests, some)

-- if all units have glyphs, none is listed
none_passes : (m : CharacterMap) (us : List TextUnit) → All (λ u. 0 < glyph_of_unit m u) us → filter (lacks m) us ≡ []
none_passes m [] have = refl
none_passes m (u ∷ us) have =
    let first : 0 < glyph_of_unit m u = All-head (λ u. 0 < glyph_of_unit m u) u us have in
    let is : lacks m u ≡ false = some-is (glyph_of_unit m u) first in
    rw is (none_passes m us (All-tail (λ u. 0 < glyph_of_unit m u) u us have))

all_have : (m : CharacterMap) (cs : List ℕ) → AllHaveGlyphs m cs → lacking_of m cs ≡ []
unfolding lacking_of
all_have m cs have = rw (none_passes m (units_by m cs) have) refl

-- if no character is listed, all units have glyphs
one_has : (m : CharacterMap) (cs : List ℕ) (u : TextUnit) → lacking_of m cs ≡ [] → Contains (units_by m cs) u
    → 0 < glyph_of_unit m u
one_has m cs u none stands = elim (cases_eq (glyph_of_unit m u) 0) [
  | inl missing ↦
      let listed : Contains [] u.character = rw none at (lacking_every m cs u stands missing) in
      absurd (omega (arith, listed.1))
  | inr some ↦ omega (arith, some)
]

pub full_texts : FullTextsLackNothing
full_texts m cs = (
  λ none. All-weaker (Contains (units_by m cs)) (λ u. 0 < glyph_of_unit m u) (λ u stands. one_has m cs u none stands)
      (units_by m cs) (All-contains_itself (units_by m cs)),
  all_have m cs,
)
