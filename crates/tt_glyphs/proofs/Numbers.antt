-- The distinct numbers of a list, those that pass a test, and sums over them.
use Rattle.std.proofs.Common.{◌≡◌, ◌∙◌, refl, sym, ap, ℕ, ◌+◌, ◌≤◌, Bool, true, false, ◌||◌, ◌==◌, List, [], ◌∷◌, ◌++◌, append_assoc, append-nil, arith, ◌⊎◌, inl, inr}
use Rattle.std.specs.Prelude.{filter, flat_map}
use Rattle.std.specs.List.{sum_by}
use Rattle.std.proofs.lemmas.Bool.Decides.{nat_tests}
use Rattle.std.proofs.lemmas.List.Elements.{filter-append}
use Rattle.std.proofs.lemmas.List.Sums.{sum_by-cons}
use Rattle.tt_picture.specs.Distinct.{distinct, distinct_after, is_among, with_glyph}
use Rattle.tt_glyphs.specs.Entries.{bytes_before}

-- alternatives
or_false : (b : Bool) → (b || false) ≡ b
or_false true = refl
or_false false = refl

pub or_true : (b : Bool) → (b || true) ≡ true
or_true true = refl
or_true false = refl

or_assoc : (a b c : Bool) → ((a || b) || c) ≡ (a || (b || c))
or_assoc true b c = refl
or_assoc false b c = refl

or_comm : (a b : Bool) → (a || b) ≡ (b || a)
or_comm true b = sym (or_true b)
or_comm false b = sym (or_false b)

pub either : (a b : Bool) → (a || b) ≡ true → (a ≡ true) ⊎ (b ≡ true)
either true b is = inl refl
either false b is = inr is

pub neither : (a b : Bool) → (a || b) ≡ false → (a ≡ false) × (b ≡ false)
neither true b is = absurd cc
neither false b is = (refl, is)

-- a number among two lists, one behind the other
pub among_append : (g : ℕ) (xs ys : List ℕ) → is_among g (xs ++ ys) ≡ (is_among g xs || is_among g ys)
among_append g [] ys = refl
among_append g (x ∷ xs) ys = rw (among_append g xs ys) (sym (or_assoc (x == g) (is_among g xs) (is_among g ys)))

among_with_by : (there : Bool) (g h : ℕ) (before : List ℕ) → is_among h before ≡ there
    → is_among g (with_glyph before h) ≡ (is_among g before || (h == g))
among_with_by true g h before is = rw is (told (h == g) refl)
  where
    told : (same : Bool) → (h == g) ≡ same → is_among g before ≡ (is_among g before || same)
    told true eq = let one : h ≡ g = grind (arith, nat_tests, eq) in rw (← one, is) refl
    told false eq = sym (or_false (is_among g before))
among_with_by false g h before is = rw is (among_append g before (h ∷ []) ∙ ap (λ b. is_among g before || b) (or_false (h == g)))

pub among_distinct_after : (g : ℕ) (before gs : List ℕ) → is_among g (distinct_after before gs) ≡ (is_among g before || is_among g gs)
among_distinct_after g before [] = sym (or_false (is_among g before))
among_distinct_after g before (h ∷ hs) =
    among_distinct_after g (with_glyph before h) hs
    ∙ ap (λ b. b || is_among g hs) (among_with_by (is_among h before) g h before refl)
    ∙ or_assoc (is_among g before) (h == g) (is_among g hs)

-- a number is among the distinct ones exactly where it is among all
pub among_distinct : (g : ℕ) (gs : List ℕ) → is_among g (distinct gs) ≡ is_among g gs
among_distinct g gs = among_distinct_after g [] gs

-- the distinct numbers of two lists, one behind the other
pub distinct_append : (before xs ys : List ℕ) → distinct_after before (xs ++ ys) ≡ distinct_after (distinct_after before xs) ys
distinct_append before [] ys = refl
distinct_append before (x ∷ xs) ys = distinct_append (with_glyph before x) xs ys

-- the distinct numbers begin with those before them
begins_by : (there : Bool) (before : List ℕ) (g : ℕ) (gs : List ℕ) → is_among g before ≡ there
    → (rest : List ℕ) × (distinct_after (with_glyph before g) gs ≡ with_glyph before g ++ rest)
    → (rest : List ℕ) × (distinct_after (with_glyph before g) gs ≡ before ++ rest)
begins_by true before g gs is more = (more.0, more.1 ∙ rw is refl)
begins_by false before g gs is more = (g ∷ more.0, more.1 ∙ rw is (append_assoc before (g ∷ []) more.0))

pub begins_with : (before gs : List ℕ) → (rest : List ℕ) × (distinct_after before gs ≡ before ++ rest)
begins_with before [] = ([], sym (append-nil before))
begins_with before (g ∷ gs) = begins_by (is_among g before) before g gs refl (begins_with (with_glyph before g) gs)

module _ (p : ℕ → Bool) where
  among_kept : (b : Bool) (g h : ℕ) (hs : List ℕ) → p h ≡ b → p g ≡ true → is_among g (filter p hs) ≡ is_among g hs
      → is_among g (filter p (h ∷ hs)) ≡ is_among g (h ∷ hs)
  among_kept true g h hs is passes rest = rw (is, rest) refl
  among_kept false g h hs is passes rest = rw is (rest ∙ other (h == g) refl)
    where
      other : (same : Bool) → (h == g) ≡ same → is_among g hs ≡ (same || is_among g hs)
      other true eq = let one : h ≡ g = grind (arith, nat_tests, eq) in absurd (let no : p g ≡ false = rw (← one) is in cc)
      other false eq = refl

  -- a number that passes is among those that pass
  pub among_filter : (g : ℕ) (hs : List ℕ) → p g ≡ true → is_among g (filter p hs) ≡ is_among g hs
  among_filter g [] passes = refl
  among_filter g (h ∷ hs) passes = among_kept (p h) g h hs refl passes (among_filter g hs passes)

  none_kept : (b : Bool) (g h : ℕ) (hs : List ℕ) → p h ≡ b → p g ≡ false → is_among g (filter p hs) ≡ false
      → is_among g (filter p (h ∷ hs)) ≡ false
  none_kept true g h hs is fails rest = rw (is, rest) (other (h == g) refl)
    where
      other : (same : Bool) → (h == g) ≡ same → (same || false) ≡ false
      other true eq = let one : h ≡ g = grind (arith, nat_tests, eq) in absurd (let no : p g ≡ true = rw (← one) is in cc)
      other false eq = refl
  none_kept false g h hs is fails rest = rw is rest

  -- and a number that fails is none of them
  pub not_among_filter : (g : ℕ) (hs : List ℕ) → p g ≡ false → is_among g (filter p hs) ≡ false
  not_among_filter g [] fails = refl
  not_among_filter g (h ∷ hs) fails = none_kept (p h) g h hs refl fails (not_among_filter g hs fails)

  with_passing : (there : Bool) (g : ℕ) (before : List ℕ) → is_among g before ≡ there → p g ≡ true
      → with_glyph (filter p before) g ≡ filter p (with_glyph before g)
  with_passing true g before is passes = rw (among_filter g before passes, is) refl
  with_passing false g before is passes =
      rw (among_filter g before passes, is) (sym (filter-append p before (g ∷ []) ∙ rw passes refl))

  with_failing : (there : Bool) (g : ℕ) (before : List ℕ) → is_among g before ≡ there → p g ≡ false
      → filter p before ≡ filter p (with_glyph before g)
  with_failing true g before is fails = rw is refl
  with_failing false g before is fails =
      rw is (sym (filter-append p before (g ∷ []) ∙ rw fails (append-nil (filter p before))))

  distinct_by : (b : Bool) (before : List ℕ) (g : ℕ) (gs : List ℕ) → p g ≡ b
      → distinct_after (filter p (with_glyph before g)) (filter p gs) ≡ filter p (distinct_after (with_glyph before g) gs)
      → distinct_after (filter p before) (filter p (g ∷ gs)) ≡ filter p (distinct_after before (g ∷ gs))
  distinct_by true before g gs is rest =
      rw is (ap (λ b. distinct_after b (filter p gs)) (with_passing (is_among g before) g before refl is) ∙ rest)
  distinct_by false before g gs is rest =
      rw is (ap (λ b. distinct_after b (filter p gs)) (with_failing (is_among g before) g before refl is) ∙ rest)

  distinct_filter_after : (before gs : List ℕ)
      → distinct_after (filter p before) (filter p gs) ≡ filter p (distinct_after before gs)
  distinct_filter_after before [] = refl
  distinct_filter_after before (g ∷ gs) =
      distinct_by (p g) before g gs refl (distinct_filter_after (with_glyph before g) gs)

  -- the distinct ones of the numbers that pass
  pub distinct_filter : (gs : List ℕ) → distinct (filter p gs) ≡ filter p (distinct gs)
  distinct_filter gs = distinct_filter_after [] gs

  module _ (f : ℕ → ℕ) where
    sum_kept : (b : Bool) (n : ℕ) (ns : List ℕ) → p n ≡ b → (p n ≡ false → f n ≡ 0) → sum_by f (filter p ns) ≡ sum_by f ns
        → sum_by f (filter p (n ∷ ns)) ≡ sum_by f (n ∷ ns)
    sum_kept true n ns is none rest = rw is (sum_by-cons f n (filter p ns) ∙ rw rest (sym (sum_by-cons f n ns)))
    sum_kept false n ns is none rest = rw is (rest ∙ sym (sum_by-cons f n ns ∙ rw (none is) (omega arith)))

    -- a sum over the numbers that pass, where the others have nothing
    pub sum_filter : ((n : ℕ) → p n ≡ false → f n ≡ 0) → (ns : List ℕ) → sum_by f (filter p ns) ≡ sum_by f ns
    sum_filter none [] = refl
    sum_filter none (n ∷ ns) = sum_kept (p n) n ns refl (none n) (sum_filter none ns)

    before_kept : (b : Bool) (g n : ℕ) (ns : List ℕ) → p n ≡ b → p g ≡ true → (p n ≡ false → f n ≡ 0)
        → bytes_before f (filter p ns) g ≡ bytes_before f ns g
        → bytes_before f (filter p (n ∷ ns)) g ≡ bytes_before f (n ∷ ns) g
    before_kept true g n ns is passes none rest = rw (is, rest) refl
    before_kept false g n ns is passes none rest = rw is (rest ∙ other (n == g) refl)
      where
        other : (same : Bool) → (n == g) ≡ same → bytes_before f ns g ≡ bytes_before f (n ∷ ns) g
        other true eq = let one : n ≡ g = grind (arith, nat_tests, eq) in absurd (let no : p g ≡ false = rw (← one) is in cc)
        other false eq = rw (eq, none is) (omega arith)

    pub before_filter : ((n : ℕ) → p n ≡ false → f n ≡ 0) → (g : ℕ) (ns : List ℕ) → p g ≡ true
        → bytes_before f (filter p ns) g ≡ bytes_before f ns g
    before_filter none g [] passes = refl
    before_filter none g (n ∷ ns) passes = before_kept (p n) g n ns refl passes (none n) (before_filter none g ns passes)

  module _ (rows : ℕ → List ℕ) where
    rows_kept : (b : Bool) (n : ℕ) (ns : List ℕ) → p n ≡ b → (p n ≡ false → rows n ≡ []) → flat_map rows (filter p ns) ≡ flat_map rows ns
        → flat_map rows (filter p (n ∷ ns)) ≡ flat_map rows (n ∷ ns)
    rows_kept true n ns is none rest = rw (is, rest) refl
    rows_kept false n ns is none rest = rw (is, none is) rest

    pub rows_filter : ((n : ℕ) → p n ≡ false → rows n ≡ []) → (ns : List ℕ) → flat_map rows (filter p ns) ≡ flat_map rows ns
    rows_filter none [] = refl
    rows_filter none (n ∷ ns) = rows_kept (p n) n ns refl (none n) (rows_filter none ns)

module _ (f : ℕ → ℕ) where
  within_by : (same : Bool) (g n : ℕ) (ns : List ℕ) → (n == g) ≡ same
      → (is_among g ns ≡ true → bytes_before f ns g + f g ≤ sum_by f ns) → is_among g (n ∷ ns) ≡ true
      → bytes_before f (n ∷ ns) g + f g ≤ sum_by f (n ∷ ns)
  within_by true g n ns eq rest among =
      let one : n ≡ g = grind (arith, nat_tests, eq) in
      let all = sum_by-cons f n ns in rw (eq, all, one) (omega arith)
  within_by false g n ns eq rest among =
      let all = sum_by-cons f n ns in
      let later = rest (rw eq at among) in rw (eq, all) (omega (arith, later))

  -- the bytes up to the end of a number's rows are at most all
  pub before_within : (g : ℕ) (ns : List ℕ) → is_among g ns ≡ true → bytes_before f ns g + f g ≤ sum_by f ns
  before_within g [] among = absurd cc
  before_within g (n ∷ ns) among = within_by (n == g) g n ns refl (before_within g ns) among

  prefix_by : (same : Bool) (g n : ℕ) (ns rest : List ℕ) → (n == g) ≡ same
      → (is_among g ns ≡ true → bytes_before f (ns ++ rest) g ≡ bytes_before f ns g) → is_among g (n ∷ ns) ≡ true
      → bytes_before f (n ∷ ns ++ rest) g ≡ bytes_before f (n ∷ ns) g
  prefix_by true g n ns rest eq more among = rw eq refl
  prefix_by false g n ns rest eq more among = rw (eq, more (rw eq at among)) refl

  -- numbers behind a number change nothing before it
  pub before_prefix : (g : ℕ) (ns rest : List ℕ) → is_among g ns ≡ true → bytes_before f (ns ++ rest) g ≡ bytes_before f ns g
  before_prefix g [] rest among = absurd cc
  before_prefix g (n ∷ ns) rest among = prefix_by (n == g) g n ns rest refl (before_prefix g ns rest) among

  first_by : (same : Bool) (g n : ℕ) (ns rest : List ℕ) → (n == g) ≡ same
      → (is_among g ns ≡ false → bytes_before f (ns ++ g ∷ rest) g ≡ sum_by f ns) → is_among g (n ∷ ns) ≡ false
      → bytes_before f (n ∷ ns ++ g ∷ rest) g ≡ sum_by f (n ∷ ns)
  first_by true g n ns rest eq more among = absurd (let no : true ≡ false = rw eq at among in cc)
  first_by false g n ns rest eq more among = rw (eq, more (rw eq at among)) (sym (sum_by-cons f n ns))

  -- before a number that stands first here are all that stand before it
  pub before_first : (g : ℕ) (ns rest : List ℕ) → is_among g ns ≡ false → bytes_before f (ns ++ g ∷ rest) g ≡ sum_by f ns
  before_first g [] rest among = let same : (g == g) ≡ true = grind (arith, nat_tests) in rw same refl
  before_first g (n ∷ ns) rest among = first_by (n == g) g n ns rest refl (before_first g ns rest) among

-- a fact of each number of a list, of the first and of the others
pub later : {P : ℕ → Type 0} (n : ℕ) (ns : List ℕ) → ((m : ℕ) → is_among m (n ∷ ns) ≡ true → P m) → (m : ℕ) → is_among m ns ≡ true → P m
later n ns all m among = all m (rw among (or_true (n == m)))

pub first_of : {P : ℕ → Type 0} (n : ℕ) (ns : List ℕ) → ((m : ℕ) → is_among m (n ∷ ns) ≡ true → P m) → P n
first_of n ns all = let same : (n == n) ≡ true = grind (arith, nat_tests) in all n (rw same refl)

-- two counts of bytes that agree on a list's numbers
module _ (f k : ℕ → ℕ) where
  agree_by : (same : Bool) (g n : ℕ) (ns : List ℕ) → (n == g) ≡ same → f n ≡ k n → bytes_before f ns g ≡ bytes_before k ns g
      → bytes_before f (n ∷ ns) g ≡ bytes_before k (n ∷ ns) g
  agree_by true g n ns eq one rest = rw eq refl
  agree_by false g n ns eq one rest = rw (eq, one, rest) refl

  pub before_agree : (g : ℕ) (ns : List ℕ) → ((m : ℕ) → is_among m ns ≡ true → f m ≡ k m)
      → bytes_before f ns g ≡ bytes_before k ns g
  before_agree g [] agree = refl
  before_agree g (n ∷ ns) agree = agree_by (n == g) g n ns refl (first_of n ns agree) (before_agree g ns (later n ns agree))

  pub sum_agree : (ns : List ℕ) → ((m : ℕ) → is_among m ns ≡ true → f m ≡ k m) → sum_by f ns ≡ sum_by k ns
  sum_agree [] agree = refl
  sum_agree (n ∷ ns) agree =
      sum_by-cons f n ns ∙ rw (first_of n ns agree, sum_agree ns (later n ns agree)) (sym (sum_by-cons k n ns))
