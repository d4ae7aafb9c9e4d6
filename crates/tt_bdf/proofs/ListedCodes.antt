-- The code points of a file rise, and are those that belong in the file.
use Rattle.std.proofs.Common.{◌≡◌, ◌∙◌, refl, ap, subst, ℕ, zero, suc, ◌+◌, ◌<◌, ◌≤◌, ◌==◌, nat_lt, nat_le, Bool, true, false, not, cond, ◌&&◌, ◌||◌, if◌then◌else◌, List, [], ◌∷◌, length, get_or, Result, Ok, Err, All, Contains, arith}
use Rattle.std.proofs.lemmas.Bool.{and_from, and_parts, eqb-false, ne_eqb, or_from, or_parts, or_right}
use Rattle.std.proofs.lemmas.Bool.Decides.{nat_tests}
use Rattle.std.proofs.lemmas.List.Elements.{All-cons, All-filter, All-nil, All-weaker, filter_passes}
use Rattle.std.proofs.lemmas.List.FromFn.{get_or-range_with_len, length-range_with_len}
use Rattle.std.specs.List.{filter, range_with_len}
use Rattle.tt_bdf.specs.Asked.{characters_of, code_count, file_characters, has_glyph, is_asked, is_passed_over, is_shown, is_surrogate, is_within, some_character}
use Rattle.tt_bdf.specs.declared.range.CodeRange.{CodeRange}
use Rattle.tt_bdf.specs.Laws.{BelongsIn, CodesBelong, CodesRise, IsInSome, NoneIsLeftOut, Rises}
use Rattle.tt_bdf.specs.Ranges.{last_code}
use Rattle.tt_cmap.specs.Maps.{CharacterMap, glyph_of_unit}
use Rattle.tt_cmap.specs.Units.{is_selector, plain_unit}
use Rattle.tt_core.specs.declared.fault.JobFault.{JobFault}
use Rattle.tt_core.specs.declared.fault.JobFault.TheVariants as job
use Rattle.tt_core.specs.Limits.{text_limit}
use Rattle.tt_core.specs.Outcomes.{◌>>=◌}

-- the characters of a file that is not refused are those of the definition

came : (b : Bool) (xs cs : List ℕ)
    → ◌≡◌ {A = Result (List ℕ) JobFault} ((if b then Err job.TextLong else Ok xs) >>= some_character) (Ok cs) → xs ≡ cs
came true xs cs is = absurd cc
came false [] cs is = absurd cc
came false (x ∷ xs) cs is = cc

characters_are : (m : CharacterMap) (rs : List CodeRange) (cs : List ℕ) → file_characters m rs ≡ Ok cs
    → characters_of m rs ≡ cs
unfolding file_characters
characters_are m rs cs is = came (nat_lt text_limit (length (characters_of m rs))) (characters_of m rs) cs is

-- a filtered range rises

rises_more : (x : ℕ) (xs : List ℕ) → All (λ (y : ℕ). x < y) xs → Rises xs → Rises (x ∷ xs)
rises_more x xs above rest zero zero d less within = absurd (omega (arith, less))
rises_more x xs above rest zero (suc j) d less within = above j d (omega (arith, within))
rises_more x xs above rest (suc i) zero d less within = absurd (omega (arith, less))
rises_more x xs above rest (suc i) (suc j) d less within = rest i j d (omega (arith, less)) (omega (arith, within))

rises_none : Rises []
rises_none i j d less within = absurd (omega (arith, within))

rises_by : (b : Bool) (x : ℕ) (xs : List ℕ) → All (λ (y : ℕ). x < y) xs → Rises xs → Rises (cond b (x ∷ xs) xs)
rises_by true x xs above rest = rises_more x xs above rest
rises_by false x xs above rest = rest

from_on : (a n : ℕ) → All (λ (k : ℕ). a ≤ k) (range_with_len a n)
from_on a zero = All-nil (λ (k : ℕ). a ≤ k)
from_on a (suc n) =
    All-cons (λ (k : ℕ). a ≤ k) a (range_with_len (a + 1) n) (omega arith)
    (All-weaker (λ (k : ℕ). a + 1 ≤ k) (λ (k : ℕ). a ≤ k) (λ k more. omega (arith, more)) (range_with_len (a + 1) n) (from_on (a + 1) n))

behind : (a n : ℕ) → All (λ (k : ℕ). a < k) (range_with_len (a + 1) n)
behind a n =
    All-weaker (λ (k : ℕ). a + 1 ≤ k) (λ (k : ℕ). a < k) (λ k more. omega (arith, more)) (range_with_len (a + 1) n) (from_on (a + 1) n)

kept_rise : (p : ℕ → Bool) (a n : ℕ) → Rises (filter p (range_with_len a n))
kept_rise p a zero = rises_none
kept_rise p a (suc n) =
    let rest = range_with_len (a + 1) n in
    rises_by (p a) a (filter p rest) (All-filter p (λ (k : ℕ). a < k) rest (behind a n)) (kept_rise p (a + 1) n)

pub codes_rise : CodesRise
codes_rise m rs cs is =
    subst Rises (characters_are m rs cs is) (kept_rise (λ c. is_asked rs c && is_shown m c) 0 code_count)

-- each passes the tests

in_some_by : (r : CodeRange) (rs : List CodeRange) (c : ℕ) (b : Bool) → is_within r c ≡ b → (b || is_asked rs c) ≡ true
    → (is_asked rs c ≡ true → IsInSome rs c) → IsInSome (r ∷ rs) c
in_some_by r rs c true here is rest =
    let both = and_parts (nat_le r.first c) (nat_le c r.last) here in
    let low : r.first ≤ c = grind (arith, nat_tests, both.0) in
    let high : c ≤ r.last = grind (arith, nat_tests, both.1) in
    (0, r, omega arith, refl, (low, high))
in_some_by r rs c false here is rest =
    let later = rest is in
    (suc later.0, later.1, omega (arith, later.2), later.3, later.4)

in_some : (rs : List CodeRange) (c : ℕ) → is_asked rs c ≡ true → IsInSome rs c
in_some [] c is = absurd cc
in_some (r ∷ rs) c is = in_some_by r rs c (is_within r c) refl is (in_some rs c)

is_false : (b : Bool) → not b ≡ true → b ≡ false
is_false true is = absurd cc
is_false false is = refl

belongs : (m : CharacterMap) (rs : List CodeRange) (c : ℕ) → (is_asked rs c && is_shown m c) ≡ true → BelongsIn m rs c
belongs m rs c is =
    let both = and_parts (is_asked rs c) (is_shown m c) is in
    let shown = and_parts (not (is_passed_over c)) (has_glyph m c) both.1 in
    let kept = or_parts (is_surrogate c) (is_selector c) (is_false (is_passed_over c) shown.0) in
    let g = glyph_of_unit m (plain_unit c) in
    record {
      asked = in_some rs c both.0;
      glyph = eqb-false g 0 (is_false (g == 0) shown.1);
      surrogate = kept.0;
      selector = kept.1;
    }

pub codes_belong : CodesBelong
codes_belong m rs cs is =
    let p : ℕ → Bool = λ c. is_asked rs c && is_shown m c in
    let all : All (λ (c : ℕ). p c ≡ true) (characters_of m rs) = filter_passes p (range_with_len 0 code_count) in
    subst (λ (ns : List ℕ). All (BelongsIn m rs) ns) (characters_are m rs cs is)
    (λ k d below. belongs m rs (get_or (characters_of m rs) k d) (all k d below))

-- a code point that passes them is in the file

asked_from : (rs : List CodeRange) (c k : ℕ) (r : CodeRange) → k < length rs → get_or rs k r ≡ r → r.first ≤ c → c ≤ r.last
    → is_asked rs c ≡ true
asked_from [] c k r below at low high = absurd (omega (arith, below))
asked_from (q ∷ rs) c zero r below at low high =
    let first : q.first ≡ r.first = ap (λ (s : CodeRange). s.first) at in
    let last : q.last ≡ r.last = ap (λ (s : CodeRange). s.last) at in
    let above : nat_le q.first c ≡ true = grind (arith, nat_tests, first, low) in
    let under : nat_le c q.last ≡ true = grind (arith, nat_tests, last, high) in
    rw (above, under) refl
asked_from (q ∷ rs) c (suc k) r below at low high =
    or_right (is_within q c) (is_asked rs c) (asked_from rs c k r (omega (arith, below)) at low high)

passes : (m : CharacterMap) (rs : List CodeRange) (c : ℕ) → BelongsIn m rs c → (is_asked rs c && is_shown m c) ≡ true
passes m rs c h =
    let r = h.asked in
    let asked = asked_from rs c r.0 r.1 r.2 r.3 r.4.0 r.4.1 in
    let kept : is_passed_over c ≡ false = or_from (is_surrogate c) (is_selector c) h.surrogate h.selector in
    let has : (glyph_of_unit m (plain_unit c) == 0) ≡ false = ne_eqb (glyph_of_unit m (plain_unit c)) 0 h.glyph in
    and_from (is_asked rs c) (is_shown m c) asked
    (and_from (not (is_passed_over c)) (has_glyph m c) (ap not kept) (ap not has))

behind_by : (b : Bool) (x c : ℕ) (xs : List ℕ) → Contains xs c → Contains (cond b (x ∷ xs) xs) c
behind_by true x c xs h = (suc h.0, omega (arith, h.1), h.2)
behind_by false x c xs h = h

here_by : (b : Bool) (x c : ℕ) (xs : List ℕ) → b ≡ true → x ≡ c → Contains (cond b (x ∷ xs) xs) c
here_by true x c xs is same = (0, omega arith, same)
here_by false x c xs is same = absurd cc

kept_in : (p : ℕ → Bool) (xs : List ℕ) (c k : ℕ) → k < length xs → get_or xs k c ≡ c → p c ≡ true
    → Contains (filter p xs) c
kept_in p [] c k below at is = absurd (omega (arith, below))
kept_in p (x ∷ xs) c zero below at is = here_by (p x) x c (filter p xs) (ap p at ∙ is) at
kept_in p (x ∷ xs) c (suc k) below at is =
    behind_by (p x) x c (filter p xs) (kept_in p xs c k (omega (arith, below)) at is)

is_code : (c : ℕ) → c ≤ last_code → c < code_count
unfolding code_count
is_code c code = omega (arith, code)

in_file : (m : CharacterMap) (rs : List CodeRange) (c : ℕ) → c ≤ last_code → BelongsIn m rs c
    → Contains (characters_of m rs) c
in_file m rs c code h =
    let below = is_code c code in
    let at : get_or (range_with_len 0 code_count) c c ≡ c = omega (arith, get_or-range_with_len 0 code_count c c below) in
    kept_in (λ c. is_asked rs c && is_shown m c) (range_with_len 0 code_count) c c
    (omega (arith, length-range_with_len 0 code_count, below)) at (passes m rs c h)

pub none_is_left_out : NoneIsLeftOut
none_is_left_out m rs cs c is code h =
    subst (λ (ns : List ℕ). Contains ns c) (characters_are m rs cs is) (in_file m rs c code h)
