use Rattle.std.proofs.Common.{◌≡◌, ◌∙◌, ap, ◌-◌, [], length, refl, sym, take, Some, arith}
use Rattle.lru.specs.LruCache.{last_entry}
use Rattle.tt_strike_kept.specs.Kept.{bytes_in}
use Rattle.tt_strike_kept.proofs.Fitting.{bytes_without_oldest, none_without_last}
use Rattle.tt_strike_kept.proofs.kept.KeptGlyphs.give_up_oldest.Goals as goal

pub taken_off-self-inside-requires : goal.taken_off-self-inside-requires
taken_off-self-inside-requires c =
    let was = c.self.inside.glyphs.entries in
    let oldest : last_entry was ≡ Some (c.in-Some.field-0-0, c.in-Some.oldest) =
    sym c.pop_lru.ensures.value ∙ c.in-Some.is in
    omega (arith, bytes_without_oldest was (c.in-Some.field-0-0, c.in-Some.oldest) oldest, c.self.invariant.0)

pub invariant_of-self : goal.invariant_of-self
invariant_of-self c =
    let was = c.self.inside.glyphs.entries in
    let oldest : last_entry was ≡ Some (c.in-Some.field-0-0, c.in-Some.oldest) =
    sym c.pop_lru.ensures.value ∙ c.in-Some.is in
    let bytes = bytes_without_oldest was (c.in-Some.field-0-0, c.in-Some.oldest) oldest in
    let held = c.self.invariant in
    rw c.pop_lru.ensures.entries (
      omega (arith, bytes, held.0, c.taken_off-self-inside.ensures),
      omega (arith, held.1, c.taken_off-self-inside.ensures),
      held.2,
    )

pub invariant_of-self-in_default : goal.invariant_of-self-in_default
invariant_of-self-in_default c =
    let was = c.self.inside.glyphs.entries in
    let empty : was ≡ [] = none_without_last was (sym c.pop_lru.ensures.value ∙ c.in_default.is) in
    let same : take (length was - 1) was ≡ was = rw empty refl in
    let held = c.self.invariant in
    rw c.pop_lru.ensures.entries (held.0 ∙ sym (ap bytes_in same), held.1, held.2)
