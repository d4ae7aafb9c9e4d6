-- Composed letters, character by character, and their laws.
use Rattle.std.proofs.Common.{◌≡◌, ◌∙◌, refl, sym, ap, subst, ℕ, suc, ◌≤◌, true, false, ◌||◌, ◌==◌, List, [], ◌∷◌, ◌++◌, Option, Some, None, Result, Ok, Err, IfOk, String, Global, string_bytes, chars, encode_utf8, encode_utf8_all, length, IsUtf8, append-nil, append_assoc, inl, inr, arith}
use Rattle.std.specs.Option.{is_some}
use Rattle.std.proofs.lemmas.Bool.{both_ways, cond_both, or_parts}
use Rattle.std.proofs.lemmas.List.{nil_from_length}
use Rattle.std.proofs.lemmas.Str.{IsUtf8-string_bytes, chars-nil, chars_from_encodes, chars_past_char}
use Rattle.tt_cmap.specs.Maps.{CharacterMap, glyph_by}
use Rattle.tt_rows.specs.Composed.{composed, composed_after, composite_in, if_drawn}
use Rattle.tt_rows.specs.ComposedLaws.{ComposedLinesAreNoLonger, ComposingAgainChangesNothing, UncomposedLinesStay, has_pair, has_pair_after}
use Rattle.tt_rows.proofs.Seconds.{never_second}
use Rattle.unicode_normalization.specs.Compose.{primary_composite}
use Rattle.unicode_normalization.proofs.ComposeLemmas.{cases_Option}

no_characters : (bytes : List ℕ) → length bytes ≡ 0 → chars bytes ≡ []
no_characters bytes none = ap chars (nil_from_length bytes none) ∙ chars-nil

-- ---- one step

pub joins : (m : CharacterMap) (a b c : ℕ) (cs : List ℕ) → composite_in m a b ≡ Some c
    → composed_after m a (b ∷ cs) ≡ composed_after m c cs
joins m a b c cs both = rw (both, composed_after) refl

pub stays_apart : (m : CharacterMap) (a b : ℕ) (cs : List ℕ) → composite_in m a b ≡ None
    → composed_after m a (b ∷ cs) ≡ a ∷ composed_after m b cs
stays_apart m a b cs none = rw (none, composed_after) refl

if_drawn_some : (m : CharacterMap) (o : Option ℕ) (c : ℕ) → if_drawn m o ≡ Some c → o ≡ Some c
if_drawn_some m None c h = cc
if_drawn_some m (Some p) c h =
    cond_both (glyph_by m p == 0) None (Some p) (λ o. o ≡ Some c → Some p ≡ Some c) (λ _ e. cc) (λ _ e. e) h

composite_some : (m : CharacterMap) (a b c : ℕ) → composite_in m a b ≡ Some c → primary_composite a b ≡ Some c
unfolding composite_in
composite_some m a b c h = if_drawn_some m (primary_composite a b) c h

pub composite_none : (m : CharacterMap) (a b : ℕ) → primary_composite a b ≡ None → composite_in m a b ≡ None
unfolding composite_in
composite_none m a b h = ap (if_drawn m) h

-- ---- laws

stays_after : (m : CharacterMap) (a : ℕ) (cs : List ℕ) → has_pair_after m a cs ≡ false → composed_after m a cs ≡ a ∷ cs
stays_after m a [] none = refl
stays_after m a (b ∷ cs) none =
    let parts = or_parts (is_some (composite_in m a b)) (has_pair_after m b cs) none in
    elim (cases_Option (composite_in m a b)) [
      | inl apart ↦ stays_apart m a b cs apart ∙ ap (λ l. a ∷ l) (stays_after m b cs parts.1)
      | inr some ↦
          let one : is_some (composite_in m a b) ≡ true = ap is_some some.1 in
          absurd (both_ways (is_some (composite_in m a b)) parts.0 one)
    ]

pub uncomposed_stay : UncomposedLinesStay
uncomposed_stay m [] none = refl
uncomposed_stay m (c ∷ cs) none = stays_after m c cs none

settled : (m : CharacterMap) (d a : ℕ) (cs : List ℕ) → composite_in m d a ≡ None
    → composed_after m d (composed_after m a cs) ≡ d ∷ composed_after m a cs
settled m d a [] apart = stays_apart m d a [] apart
settled m d a (b ∷ cs) apart =
    elim (cases_Option (composite_in m a b)) [
      | inl none ↦
          let inner : composed_after m a (b ∷ cs) ≡ a ∷ composed_after m b cs = stays_apart m a b cs none in
          let again : composed_after m a (composed_after m b cs) ≡ a ∷ composed_after m b cs = settled m a b cs none in
          subst (λ l. composed_after m d l ≡ d ∷ l) (sym inner)
          (stays_apart m d a (composed_after m b cs) apart ∙ ap (λ l. d ∷ l) again)
      | inr some ↦
          let c = some.0 in
          let inner : composed_after m a (b ∷ cs) ≡ composed_after m c cs = joins m a b c cs some.1 in
          let none : composite_in m d c ≡ None = composite_none m d c (never_second a b c d (composite_some m a b c some.1)) in
          subst (λ l. composed_after m d l ≡ d ∷ l) (sym inner) (settled m d c cs none)
    ]

again_after : (m : CharacterMap) (a : ℕ) (cs : List ℕ) → composed m (composed_after m a cs) ≡ composed_after m a cs
again_after m a [] = refl
again_after m a (b ∷ cs) =
    elim (cases_Option (composite_in m a b)) [
      | inl none ↦
          let inner : composed_after m a (b ∷ cs) ≡ a ∷ composed_after m b cs = stays_apart m a b cs none in
          subst (λ l. composed m l ≡ l) (sym inner) (settled m a b cs none)
      | inr some ↦
          let inner : composed_after m a (b ∷ cs) ≡ composed_after m some.0 cs = joins m a b some.0 cs some.1 in
          subst (λ l. composed m l ≡ l) (sym inner) (again_after m some.0 cs)
    ]

pub composed_again : ComposingAgainChangesNothing
composed_again m [] = refl
composed_again m (c ∷ cs) = again_after m c cs

no_longer_after : (m : CharacterMap) (a : ℕ) (cs : List ℕ) → length (composed_after m a cs) ≤ suc (length cs)
no_longer_after m a [] = omega arith
no_longer_after m a (b ∷ cs) =
    elim (cases_Option (composite_in m a b)) [
      | inl none ↦
          let inner = ap length (stays_apart m a b cs none) in
          let rest = no_longer_after m b cs in
          omega (arith, inner, rest)
      | inr some ↦
          let inner = ap length (joins m a b some.0 cs some.1) in
          let rest = no_longer_after m some.0 cs in
          omega (arith, inner, rest)
    ]

pub no_longer : ComposedLinesAreNoLonger
no_longer m [] = omega arith
no_longer m (c ∷ cs) = no_longer_after m c cs

-- ---- for the loops

pub one_tested : (m : CharacterMap) (a b : ℕ) (bytes rest : List ℕ) → IsUtf8 bytes → bytes ≡ encode_utf8 b ++ rest
    → has_pair_after m a (chars bytes) ≡ (is_some (composite_in m a b) || has_pair_after m b (chars rest))
one_tested m a b bytes rest utf8 spelled = ap (has_pair_after m a) (chars_past_char bytes rest b utf8 spelled)

pub none_tested : (m : CharacterMap) (a : ℕ) (bytes : List ℕ) → length bytes ≡ 0 → has_pair_after m a (chars bytes) ≡ false
none_tested m a bytes none = ap (has_pair_after m a) (no_characters bytes none)

pub one_joined : (m : CharacterMap) (a b c : ℕ) (bytes rest : List ℕ) → composite_in m a b ≡ Some c → IsUtf8 bytes
    → bytes ≡ encode_utf8 b ++ rest → composed_after m a (chars bytes) ≡ composed_after m c (chars rest)
one_joined m a b c bytes rest both utf8 spelled =
    ap (composed_after m a) (chars_past_char bytes rest b utf8 spelled) ∙ joins m a b c (chars rest) both

-- a character that stays goes behind the text so far
pub one_apart : (m : CharacterMap) (a b : ℕ) (before bytes rest : List ℕ) → composite_in m a b ≡ None → IsUtf8 bytes
    → bytes ≡ encode_utf8 b ++ rest
    → (before ++ encode_utf8 a) ++ encode_utf8_all (composed_after m b (chars rest))
    ≡ before ++ encode_utf8_all (composed_after m a (chars bytes))
one_apart m a b before bytes rest none utf8 spelled =
    let list : composed_after m a (chars bytes) ≡ a ∷ composed_after m b (chars rest)
    = ap (composed_after m a) (chars_past_char bytes rest b utf8 spelled) ∙ stays_apart m a b (chars rest) none in
    append_assoc before (encode_utf8 a) (encode_utf8_all (composed_after m b (chars rest)))
    ∙ sym (ap (λ l. before ++ encode_utf8_all l) list)

pub last_one : (m : CharacterMap) (a : ℕ) (bytes : List ℕ) → length bytes ≡ 0 → composed_after m a (chars bytes) ≡ a ∷ []
last_one m a bytes none = ap (composed_after m a) (no_characters bytes none)

-- the last character ends the text
pub ends_with : (m : CharacterMap) (a : ℕ) (before bytes whole : List ℕ) → length bytes ≡ 0
    → before ++ encode_utf8_all (composed_after m a (chars bytes)) ≡ whole → before ++ encode_utf8 a ≡ whole
ends_with m a before bytes whole none all =
    let one : encode_utf8_all (a ∷ []) ≡ encode_utf8 a = append-nil (encode_utf8 a) in
    sym (ap (λ l. before ++ encode_utf8_all l) (last_one m a bytes none) ∙ ap (λ l. before ++ l) one) ∙ all

pub line_begins : (m : CharacterMap) (c : ℕ) (bytes rest : List ℕ) → IsUtf8 bytes → bytes ≡ encode_utf8 c ++ rest
    → composed m (chars bytes) ≡ composed_after m c (chars rest)
line_begins m c bytes rest utf8 spelled = ap (composed m) (chars_past_char bytes rest c utf8 spelled)

pub pair_begins : (m : CharacterMap) (c : ℕ) (bytes rest : List ℕ) → IsUtf8 bytes → bytes ≡ encode_utf8 c ++ rest
    → has_pair m (chars bytes) ≡ has_pair_after m c (chars rest)
pair_begins m c bytes rest utf8 spelled = ap (has_pair m) (chars_past_char bytes rest c utf8 spelled)

pub empty_line : (m : CharacterMap) (bytes : List ℕ) → length bytes ≡ 0 → composed m (chars bytes) ≡ []
empty_line m bytes none = ap (composed m) (no_characters bytes none)

pub no_pair : (m : CharacterMap) (bytes : List ℕ) → length bytes ≡ 0 → has_pair m (chars bytes) ≡ false
no_pair m bytes none = ap (has_pair m) (no_characters bytes none)

-- the characters of a composed text
pub its_characters : {E : Type 0} (r : Result (String Global) E) (cs : List ℕ)
    → IfOk r (λ s. string_bytes s ≡ encode_utf8_all cs) → IfOk r (λ s. chars (string_bytes s) ≡ cs)
its_characters (Ok s) cs is = sym (chars_from_encodes cs (string_bytes s) (IsUtf8-string_bytes s) (sym is))
its_characters (Err e) cs is = tt
