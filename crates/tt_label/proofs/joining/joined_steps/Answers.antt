use Rattle.std.proofs.Common.{◌≡◌, ◌∙◌, ℕ, ◌<◌, ◌≤◌, List, [], ◌∷◌, ◌++◌, Vec, Global, append-nil, get_or, length, sym, ap, take, arith}
use Rattle.std.proofs.lemmas.Grind.{flat_map-append}
use Rattle.std.proofs.lemmas.List.{take_all, take_more}
use Rattle.std.specs.List.{flat_map}
use Rattle.tt_label.proofs.joining.joined_steps.Goals as goal

pub loop-line-preserved : goal.loop-line-preserved
loop-line-preserved c =
    let at = c.loop-line in
    let lines = c.args.lines.now in
    let i = at.line-index in
    let line = c.line-item.result in
    let its : Vec (ℕ × ℕ) Global → List (ℕ × ℕ) = λ v. v.items in
    let below : i < length lines = c.loop-line-test.true in
    let here : get_or lines i line ≡ line = sym c.line-item.is in
    let added : c.extend_from_slice.new.self.items ≡ at.all.items ++ line.items = rw c.deref.ensures.value at c.in_ok-extend_from_slice.ensures.items in
    added ∙ rw (at.invariant, take_more lines i line below, here, flat_map-append its (take i lines) (line ∷ []))
    (ap (λ (xs : List (ℕ × ℕ)). flat_map its (take i lines) ++ xs) (sym (append-nil line.items)))

pub returns : goal.returns
returns c =
    let lines = c.args.lines.now in
    let over : length lines ≤ c.loop-line.line-index = omega (arith, c.loop-line-test.false) in
    rw (take_all c.loop-line.line-index lines over) at c.loop-line.invariant
