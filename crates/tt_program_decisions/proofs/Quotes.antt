-- A word in quotes of the shell, by the parts between its own quotes.
use Rattle.std.proofs.Common.{◌≡◌, ◌≢◌, ◌∙◌, ℕ, suc, ◌<◌, ◌==◌, false, if◌then◌else◌, List, [], ◌∷◌, ◌++◌, length, get_or, flat_map, Result, Ok, Err, is_ok, OnOk, ap, sym, refl, arith, append_assoc}
use Rattle.std.proofs.lemmas.Bool.Decides.{nat_tests}
use Rattle.std.proofs.lemmas.Grind.{flat_map-append}
use Rattle.tt_program_decisions.specs.Unfound.{quoted_byte}

abbrev pub HasNoQuote : List ℕ → Type 0
HasNoQuote word = (i : ℕ) → i < length word → get_or word i 0 ≢ 39

-- without a quote of its own a word stays as it is
unquoted : (word : List ℕ) → HasNoQuote word → flat_map quoted_byte word ≡ word
unquoted [] free = refl
unquoted (x ∷ xs) free =
    let first = free 0 (omega arith) in
    let other : (x == 39) ≡ false = grind (arith, nat_tests, first) in
    rw other (ap (λ ys. x ∷ ys) (unquoted xs (λ i l. free (suc i) (omega (arith, l)))))

-- the part up to the first quote, and the quote, are put behind a text
pub one_part : (text front behind rest : List ℕ) → rest ≡ front ++ (39 ∷ behind) → HasNoQuote front
    → ((text ++ front) ++ (39 ∷ 92 ∷ 39 ∷ 39 ∷ [])) ++ flat_map quoted_byte behind ≡ text ++ flat_map quoted_byte rest
one_part text front behind rest whole free =
    let parts : flat_map quoted_byte rest ≡ front ++ ((39 ∷ 92 ∷ 39 ∷ 39 ∷ []) ++ flat_map quoted_byte behind) =
    ap (flat_map quoted_byte) whole ∙ flat_map-append quoted_byte front (39 ∷ behind)
    ∙ ap (λ ys. ys ++ flat_map quoted_byte (39 ∷ behind)) (unquoted front free) in
    append_assoc (text ++ front) (39 ∷ 92 ∷ 39 ∷ 39 ∷ []) (flat_map quoted_byte behind)
    ∙ append_assoc text front ((39 ∷ 92 ∷ 39 ∷ 39 ∷ []) ++ flat_map quoted_byte behind)
    ∙ ap (λ ys. text ++ ys) (sym parts)

-- the last part, and the quote at the end
pub last_part : (old text rest word : List ℕ)
    → text ++ flat_map quoted_byte rest ≡ (old ++ (39 ∷ [])) ++ flat_map quoted_byte word → HasNoQuote rest
    → (text ++ rest) ++ (39 ∷ []) ≡ old ++ ((39 ∷ []) ++ (flat_map quoted_byte word ++ (39 ∷ [])))
last_part old text rest word so_far free =
    ap (λ ys. (text ++ ys) ++ (39 ∷ [])) (sym (unquoted rest free)) ∙ ap (λ ys. ys ++ (39 ∷ [])) so_far
    ∙ append_assoc (old ++ (39 ∷ [])) (flat_map quoted_byte word) (39 ∷ [])
    ∙ append_assoc old (39 ∷ []) (flat_map quoted_byte word ++ (39 ∷ []))

-- five parts of a line
pub of_five : (a b c d e : List ℕ) → (((a ++ b) ++ c) ++ d) ++ e ≡ a ++ (b ++ (c ++ (d ++ e)))
of_five a b c d e =
    append_assoc ((a ++ b) ++ c) d e ∙ append_assoc (a ++ b) c (d ++ e) ∙ append_assoc a b (c ++ (d ++ e))

-- a text that is put behind another, where memory may run out
pub where_put : {V E : Type 0} (r : Result V E) (new old more whole : List ℕ)
    → new ≡ (if is_ok r then old ++ more else old) → old ++ more ≡ whole → OnOk r (new ≡ whole)
where_put (Ok v) new old more whole put same = put ∙ same
where_put (Err e) new old more whole put same = tt
