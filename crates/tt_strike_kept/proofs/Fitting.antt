-- The bytes of cached glyphs, and those that fit the limit.
use Rattle.std.proofs.Common.{◌≡◌, ◌∙◌, refl, ap, ℕ, zero, suc, ◌+◌, ◌-◌, ◌*◌, ◌^◌, ◌<◌, ◌≤◌, nat_eq, nat_le, Bool, true, false, cond, if◌then◌else◌, List, [], ◌∷◌, length, take, slice_get, option_map, Option, Some, None, Result, Ok, Err, OnOk, is_ok, eqb-true, le-leb, leb-false, leb-true, arith}
use Rattle.std.specs.Cmp.{nat_eq_equiv}
use Rattle.std.specs.List.{IsDistinct}
use Rattle.std.specs.Map.{keys_of, lookup, lookup_entry, remove_entry, values_of}
use Rattle.std.proofs.lemmas.List.{take_all}
use Rattle.std.proofs.lemmas.List.Sums.{sum_by-cons}
use Rattle.std.proofs.lemmas.Map.{lookup-remove_entry}
use Rattle.std.proofs.lemmas.Map.Entries.{sum_by-remove_entry}
use Rattle.std.proofs.lemmas.Option.{slice_get-get_or}
use Rattle.tt_strike_kept.specs.Glyph.{KeptGlyph}
use Rattle.tt_strike_kept.specs.Kept.{Kept, bytes_in, bytes_of, fitting}
use Rattle.lru.proofs.Pairs.{lookup-lookup_entry}
use Rattle.lru.specs.LruCache.{LruCache, last_entry, put_entries}

pub bytes_more : (e : ℕ × KeptGlyph) (es : List (ℕ × KeptGlyph)) → bytes_in (e ∷ es) ≡ bytes_of e.1 + bytes_in es
bytes_more e es = sum_by-cons bytes_of e.1 (values_of es)

-- each glyph takes at least the bytes of its place
pub places_within : (es : List (ℕ × KeptGlyph)) → 224 * length es ≤ bytes_in es
places_within [] = omega arith
places_within (e ∷ es) = omega (arith, bytes_more e es, places_within es)

-- the oldest dropped

bytes_without : (n : ℕ) (es : List (ℕ × KeptGlyph)) (e : ℕ × KeptGlyph) → length es ≡ suc n → slice_get es n ≡ Some e
    → bytes_in (take n es) + bytes_of e.1 ≡ bytes_in es
bytes_without n [] e count last = absurd (omega arith)
bytes_without zero (f ∷ []) e count last =
    let same : f ≡ e = cc in
    let bytes : bytes_of f.1 ≡ bytes_of e.1 = ap (λ g. bytes_of g.1) same in
    omega (arith, bytes_more f [], bytes)
bytes_without zero (f ∷ g ∷ es) e count last = absurd (omega arith)
bytes_without (suc n) (f ∷ es) e count last =
    omega (arith, bytes_more f es, bytes_more f (take n es), bytes_without n es e (omega arith) last)

pub bytes_without_oldest : (es : List (ℕ × KeptGlyph)) (e : ℕ × KeptGlyph) → last_entry es ≡ Some e
    → bytes_in (take (length es - 1) es) + bytes_of e.1 ≡ bytes_in es
bytes_without_oldest [] e last = absurd cc
bytes_without_oldest (f ∷ es) e last =
    let count : length (f ∷ es) ≡ suc (length (f ∷ es) - 1) = omega arith in
    bytes_without (length (f ∷ es) - 1) (f ∷ es) e count last

pub none_without_last : (es : List (ℕ × KeptGlyph)) → last_entry es ≡ None → es ≡ []
none_without_last [] none = refl
none_without_last (e ∷ es) none =
    let some = slice_get-get_or (e ∷ es) (length (e ∷ es) - 1) e (omega arith) in
    absurd cc

-- the glyph of a number dropped

pub bytes_without_found : (test : ℕ → Bool) (es : List (ℕ × KeptGlyph)) (g : KeptGlyph) → lookup test es ≡ Some g
    → bytes_in (remove_entry test es) + bytes_of g ≡ bytes_in es
bytes_without_found test es g found = rw found at (sum_by-remove_entry bytes_of test es)

pub bytes_without_none : (test : ℕ → Bool) (es : List (ℕ × KeptGlyph)) → lookup test es ≡ None
    → bytes_in (remove_entry test es) ≡ bytes_in es
bytes_without_none test es none = omega (arith, rw none at (sum_by-remove_entry bytes_of test es))

pub none_found : (number : ℕ) (es : List (ℕ × KeptGlyph)) → IsDistinct nat_eq (keys_of es)
    → lookup (nat_eq number) (remove_entry (nat_eq number) es) ≡ None
none_found number es distinct =
    let one : (x y : ℕ) → nat_eq number x ≡ true → nat_eq number y ≡ nat_eq x y =
    λ x y is. rw (eqb-true number x is) refl in
    lookup-remove_entry nat_eq_equiv (nat_eq number) one number es distinct ∙ rw (nat_eq_equiv.refl number) refl

none_in_front : (test : ℕ → Bool) (k : ℕ) (es : List (ℕ × KeptGlyph)) → lookup test es ≡ None
    → lookup test (take k es) ≡ None
none_in_front test zero es none = refl
none_in_front test (suc k) [] none = refl
none_in_front test (suc k) (e ∷ es) none =
    (elim (test e.0) as (λ passes. cond passes (Some e.1) (lookup test es) ≡ None
    → cond passes (Some e.1) (lookup test (take k es)) ≡ None) [
      | true ↦ λ is. absurd cc
      | false ↦ λ is. none_in_front test k es is
    ]) none

-- a glyph put first

none_there : (o : Option (ℕ × KeptGlyph)) → option_map (λ e. e.1) o ≡ None → o ≡ None
none_there None none = refl
none_there (Some e) none = absurd cc

pub on_ok : {T E : Type 0} (r : Result T E) (P : Type 0) → OnOk r P → is_ok r ≡ true → P
on_ok (Ok x) P holds is = holds
on_ok (Err e) P holds is = absurd cc

pub put_first : (c : LruCache ℕ KeptGlyph) (number : ℕ) (g : KeptGlyph) (most : ℕ)
    → lookup (nat_eq number) c.entries ≡ None → bytes_in c.entries ≤ most → most < 2 ^ 64 → c.cap ≡ 2 ^ 64 - 1
    → put_entries nat_eq c number g ≡ (number, g) ∷ c.entries
put_first c number g most none within fits cap =
    let absent : lookup_entry (nat_eq number) c.entries ≡ None =
    none_there (lookup_entry (nat_eq number) c.entries) (lookup-lookup_entry (nat_eq number) c.entries ∙ none) in
    let all : take (c.cap - 1) c.entries ≡ c.entries =
    take_all (c.cap - 1) c.entries (omega (arith, places_within c.entries)) in
    rw (absent, all) refl

-- the glyphs that fit

pub kept_is : (k : Kept) (es : List (ℕ × KeptGlyph)) (most : ℕ) → k.entries ≡ es → k.most ≡ most
    → k ≡ record { entries = es; most = most }
kept_is k es most same bound = rw (← same, ← bound) refl

fitting_without : (n room : ℕ) (es : List (ℕ × KeptGlyph)) → length es ≡ suc n → room < bytes_in es
    → fitting room (take n es) ≡ fitting room es
fitting_without n room [] count more = absurd (omega arith)
fitting_without zero room (e ∷ []) count more =
    (elim (nat_le (bytes_of e.1) room) as (λ fits. nat_le (bytes_of e.1) room ≡ fits
    → [] ≡ (if fits then e ∷ fitting (room - bytes_of e.1) [] else [])) [
      | true ↦ λ is. absurd (omega (arith, bytes_more e [], leb-true (bytes_of e.1) room is))
      | false ↦ λ is. refl
    ]) refl
fitting_without zero room (e ∷ f ∷ es) count more = absurd (omega arith)
fitting_without (suc n) room (e ∷ es) count more =
    (elim (nat_le (bytes_of e.1) room) as (λ fits. nat_le (bytes_of e.1) room ≡ fits
    → (if fits then e ∷ fitting (room - bytes_of e.1) (take n es) else [])
    ≡ (if fits then e ∷ fitting (room - bytes_of e.1) es else [])) [
      | true ↦ λ is.
          let one = leb-true (bytes_of e.1) room is in
          let left : room - bytes_of e.1 < bytes_in es = omega (arith, bytes_more e es, one) in
          ap (λ fs. e ∷ fs) (fitting_without n (room - bytes_of e.1) es (omega arith) left)
      | false ↦ λ is. refl
    ]) refl

-- where the glyphs do not fit, the oldest is not among those that do
pub fitting_without_oldest : (room : ℕ) (es : List (ℕ × KeptGlyph)) → room < bytes_in es
    → fitting room (take (length es - 1) es) ≡ fitting room es
fitting_without_oldest room [] more = refl
fitting_without_oldest room (e ∷ es) more =
    let count : length (e ∷ es) ≡ suc (length (e ∷ es) - 1) = omega arith in
    fitting_without (length (e ∷ es) - 1) room (e ∷ es) count more

-- where they fit, all remain
pub fitting_all : (room : ℕ) (es : List (ℕ × KeptGlyph)) → bytes_in es ≤ room → fitting room es ≡ es
fitting_all room [] within = refl
fitting_all room (e ∷ es) within =
    let one : nat_le (bytes_of e.1) room ≡ true = le-leb (bytes_of e.1) room (omega (arith, bytes_more e es)) in
    rw one (ap (λ fs. e ∷ fs) (fitting_all (room - bytes_of e.1) es (omega (arith, bytes_more e es))))

pub fitting_first : (room left : ℕ) (e : ℕ × KeptGlyph) (es : List (ℕ × KeptGlyph)) → left + bytes_of e.1 ≡ room
    → fitting room (e ∷ es) ≡ e ∷ fitting left es
fitting_first room left e es is =
    let one : nat_le (bytes_of e.1) room ≡ true = le-leb (bytes_of e.1) room (omega (arith, is)) in
    let rest : room - bytes_of e.1 ≡ left = omega (arith, is) in
    rw (one, rest) refl

-- they are the longest front that fits

pub fitting_is_part : (room : ℕ) (es : List (ℕ × KeptGlyph)) → (k : ℕ) × (fitting room es ≡ take k es)
fitting_is_part room [] = (0, refl)
fitting_is_part room (e ∷ es) =
    elim (nat_le (bytes_of e.1) room) as (λ fits. (k : ℕ)
    × ((if fits then e ∷ fitting (room - bytes_of e.1) es else []) ≡ take k (e ∷ es))) [
      | true ↦ let rest = fitting_is_part (room - bytes_of e.1) es in (suc rest.0, ap (λ fs. e ∷ fs) rest.1)
      | false ↦ (0, refl)
    ]

pub fitting_fits : (room : ℕ) (es : List (ℕ × KeptGlyph)) → bytes_in (fitting room es) ≤ room
fitting_fits room [] = omega arith
fitting_fits room (e ∷ es) =
    (elim (nat_le (bytes_of e.1) room) as (λ fits. nat_le (bytes_of e.1) room ≡ fits
    → bytes_in (if fits then e ∷ fitting (room - bytes_of e.1) es else []) ≤ room) [
      | true ↦ λ is.
          let rest = fitting_fits (room - bytes_of e.1) es in
          omega (arith, bytes_more e (fitting (room - bytes_of e.1) es), rest, leb-true (bytes_of e.1) room is)
      | false ↦ λ is. omega arith
    ]) refl

pub fitting_is_longest : (room : ℕ) (es : List (ℕ × KeptGlyph)) (k : ℕ) → bytes_in (take k es) ≤ room
    → length (take k es) ≤ length (fitting room es)
fitting_is_longest room es zero within = omega arith
fitting_is_longest room [] (suc k) within = omega arith
fitting_is_longest room (e ∷ es) (suc k) within =
    (elim (nat_le (bytes_of e.1) room) as (λ fits. nat_le (bytes_of e.1) room ≡ fits
    → length (take (suc k) (e ∷ es)) ≤ length (if fits then e ∷ fitting (room - bytes_of e.1) es else [])) [
      | true ↦ λ is.
          let left : bytes_in (take k es) ≤ room - bytes_of e.1 = omega (arith, bytes_more e (take k es)) in
          omega (arith, fitting_is_longest (room - bytes_of e.1) es k left)
      | false ↦ λ is. absurd (omega (arith, bytes_more e (take k es), leb-false (bytes_of e.1) room is))
    ]) refl

pub none_fitting : (test : ℕ → Bool) (room : ℕ) (es : List (ℕ × KeptGlyph)) → lookup test es ≡ None
    → lookup test (fitting room es) ≡ None
none_fitting test room es none =
    let part = fitting_is_part room es in
    rw part.1 (none_in_front test part.0 es none)
