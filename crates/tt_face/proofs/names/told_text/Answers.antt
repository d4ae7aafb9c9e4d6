use Rattle.std.proofs.Common.{◌∙◌, ℕ, ◌*◌, refl, sym, arith}
use Rattle.std.proofs.lemmas.List.FromFn.{map-range_with_len_more}
use Rattle.tt_core.specs.Numbers.{unsigned_at}
use Rattle.tt_core.proofs.Numbers.{number_told}
use Rattle.tt_face.specs.Names.{told_character}
use Rattle.tt_face.proofs.names.told_text.Goals as goal

pub loop-k-preserved : goal.loop-k-preserved
loop-k-preserved c =
    let string = c.args.string.now in
    let k = c.loop-k.k in
    let f : ℕ → ℕ = λ i. told_character (unsigned_at string (2 * i) 2) in
    let word = number_told string (2 * k) 2 c.unwrap.result (sym c.u16_at.ensures ∙ c.unwrap.ensures) in
    rw (c.in_ok-push.ensures.items, c.loop-k.invariant, map-range_with_len_more f 0 k k (omega arith), c.told_character.ensures, word) refl
