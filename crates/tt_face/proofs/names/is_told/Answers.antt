use Rattle.std.proofs.Common.{◌≡◌, ◌∙◌, ℕ, ◌*◌, ◌/◌, length, min, refl, sym, arith}
use Rattle.tt_core.specs.Numbers.{unsigned_at}
use Rattle.tt_core.proofs.Numbers.{number_told}
use Rattle.tt_face.specs.Names.{told_character}
use Rattle.tt_face.proofs.Told.{all-alike, one-other, other-length}
use Rattle.tt_face.proofs.names.is_told.Goals as goal

pub returns-then-text-count : goal.returns-then-text-count
returns-then-text-count c =
    let f : ℕ → ℕ = λ k. told_character (unsigned_at c.args.string.now (2 * k) 2) in
    let is : c.min-count.result ≡ min 64 (length c.args.string.now / 2) = omega (arith, c.min-count.ensures) in
    sym (other-length f (min 64 (length c.args.string.now / 2)) c.args.text.now (λ same. c.if-text-count.true (same ∙ sym is)))

pub returns-then-told_character-text : goal.returns-then-told_character-text
returns-then-told_character-text c =
    let string = c.args.string.now in
    let k = c.loop-k.k in
    let f : ℕ → ℕ = λ i. told_character (unsigned_at string (2 * i) 2) in
    let is : c.min-count.result ≡ min 64 (length c.args.string.now / 2) = omega (arith, c.min-count.ensures) in
    let word = number_told string (2 * k) 2 c.unwrap.result (sym c.u16_at.ensures ∙ c.unwrap.ensures) in
    let told : c.told_character.result ≡ f k = rw (c.told_character.ensures, word) refl in
    sym (one-other f (min 64 (length string / 2)) k c.args.text.now (omega (arith, c.loop-k-test.true, is))
    (λ same. c.if-told_character-text.true (told ∙ same)))

pub returns : goal.returns
returns c =
    let f : ℕ → ℕ = λ k. told_character (unsigned_at c.args.string.now (2 * k) 2) in
    let is : c.min-count.result ≡ min 64 (length c.args.string.now / 2) = omega (arith, c.min-count.ensures) in
    sym (all-alike f (min 64 (length c.args.string.now / 2)) c.args.text.now (omega (arith, c.if-text-count.false, is))
    (λ j below. c.loop-k.invariant j (omega (arith, below, is, c.loop-k-test.false))))
