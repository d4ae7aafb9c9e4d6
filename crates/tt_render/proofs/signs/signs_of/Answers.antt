use Rattle.std.proofs.Common.{◌≡◌, ◌∙◌, ap, refl, sym, List, ℕ, Bor, map}
use Rattle.std.proofs.lemmas.Iterator.Consumers.{YieldsList-end}
use Rattle.std.proofs.lemmas.Iterator.Splits.{YieldsList-from_lines}
use Rattle.std.proofs.lemmas.List.{map_push}
use Rattle.std.specs.Str.Iter.{lines_rest}
use Rattle.std.specs.Str.Lines.{lines}
use Rattle.tt_line.specs.Labels.{label_lines, unmarked}
use Rattle.tt_render.specs.Labels.{signs_of}
use Rattle.tt_render.proofs.LabelTexts.{signs_of_some}
use Rattle.tt_render.proofs.signs.signs_of.Goals as goal

pub loop-line-init : goal.loop-line-init
loop-line-init c = refl

pub loop-line-preserved : goal.loop-line-preserved
loop-line-preserved c =
    let at = c.loop-line in
    let more = c.signs_after-signs.ensures (map (λ (x : Bor (List ℕ)). x.now) at.yielded) at.invariant in
    rw (map_push (λ (x : Bor (List ℕ)). x.now) at.yielded c.in-Some.line) more

pub returns : goal.returns
unfolding label_lines
returns c =
    let at = c.loop-line in
    let text = unmarked c.args.text.now in
    let rest : lines_rest c.into_iter-line-iterator.result ≡ text =
    ap lines_rest c.into_iter-line-iterator.ensures.into_iter_gives ∙ c.lines-line-items.ensures.rest ∙ c.unmarked.ensures in
    let all : map (λ (x : Bor (List ℕ)). x.now) at.yielded ≡ lines text =
    (YieldsList-end (YieldsList-from_lines text rest) at.yielded _ at.yielded_by _ _ c.in-None.is c.next.ensures.steps).0 in
    at.invariant ∙ ap (λ ls. signs_of ls) all ∙ sym (signs_of_some (lines text))
