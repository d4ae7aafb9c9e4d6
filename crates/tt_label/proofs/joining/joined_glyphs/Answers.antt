use Rattle.std.proofs.Common.{◌≡◌, ◌∙◌, ℕ, ◌<◌, ◌≤◌, List, [], ◌∷◌, ◌++◌, append-nil, get_or, length, sym, ap, take, arith}
use Rattle.std.proofs.lemmas.Grind.{flat_map-append}
use Rattle.std.proofs.lemmas.List.{take_all, take_more}
use Rattle.std.specs.List.{flat_map}
use Rattle.tt_strike.specs.declared.laid.Laid.{Laid}
use Rattle.tt_label.proofs.joining.joined_glyphs.Goals as goal

pub loop-laid-preserved : goal.loop-laid-preserved
loop-laid-preserved c =
    let at = c.loop-laid in
    let lines = c.args.lines.now in
    let i = at.laid-index in
    let line = c.laid-item.result in
    let its : Laid → List (ℕ × ℕ) = λ l. l.line.glyphs.items in
    let below : i < length lines = c.loop-laid-test.true in
    let here : get_or lines i line ≡ line = sym c.laid-item.is in
    let added : c.extend_from_slice.new.self.items ≡ at.all.items ++ line.line.glyphs.items = rw c.deref.ensures.value at c.in_ok-extend_from_slice.ensures.items in
    added ∙ rw (at.invariant, take_more lines i line below, here, flat_map-append its (take i lines) (line ∷ []))
    (ap (λ (xs : List (ℕ × ℕ)). flat_map its (take i lines) ++ xs) (sym (append-nil line.line.glyphs.items)))

pub returns : goal.returns
returns c =
    let lines = c.args.lines.now in
    let over : length lines ≤ c.loop-laid.laid-index = omega (arith, c.loop-laid-test.false) in
    rw (take_all c.loop-laid.laid-index lines over) at c.loop-laid.invariant
