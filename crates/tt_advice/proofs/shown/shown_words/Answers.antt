use Rattle.std.proofs.Common.{◌≡◌, ℕ, ◌<◌, ◌≤◌, List, [], ◌∷◌, String, Global, string_bytes, get_or, length, sym, take, arith}
use Rattle.std.proofs.lemmas.List.{map-append, take_all, take_more}
use Rattle.tt_advice.specs.Shown.{shown}
use Rattle.tt_advice.proofs.shown.shown_words.Goals as goal

pub loop-word-preserved : goal.loop-word-preserved
loop-word-preserved c =
    let at = c.loop-word in
    let words = c.args.words.now in
    let i = at.word-index in
    let word = c.word-item.result in
    let text = c.in_ok-shown_word.field-0 in
    let bytes : String Global → List ℕ = string_bytes in
    let told : String Global → List ℕ = λ w. shown (string_bytes w) in
    let below : i < length words = c.loop-word-test.true in
    let here : get_or words i word ≡ word = sym c.word-item.is in
    let one : bytes text ≡ told word = rw c.deref.ensures at c.in_ok-shown_word.ensures in
    rw (c.in_ok-push.ensures.items, map-append bytes at.all.items (text ∷ []), at.invariant, one, take_more words i word below, here)
    (sym (map-append told (take i words) (word ∷ [])))

pub returns : goal.returns
returns c =
    let words = c.args.words.now in
    let over : length words ≤ c.loop-word.word-index = omega (arith, c.loop-word-test.false) in
    rw (take_all c.loop-word.word-index words over) at c.loop-word.invariant
