use Rattle.std.proofs.Common.{◌≡◌, ◌∙◌, ap, refl, sym, List, [], ℕ, Bor, chars, map}
use Rattle.std.proofs.lemmas.Iterator.Consumers.{YieldsList-end}
use Rattle.std.proofs.lemmas.Iterator.Splits.{YieldsList-from_lines}
use Rattle.std.proofs.lemmas.List.{map_push}
use Rattle.std.specs.Str.Iter.{lines_rest}
use Rattle.std.specs.Str.Lines.{lines}
use Rattle.tt_cmap.specs.Lacking.{distinct_after, lacking_of}
use Rattle.tt_line.specs.Labels.{label_lines, unmarked}
use Rattle.tt_render.specs.Labels.{lacking_after}
use Rattle.tt_render.proofs.LabelTexts.{lacking_more, lacking_of_some}
use Rattle.tt_render.proofs.label_texts.lines_lacking.Goals as goal

pub loop-line-init : goal.loop-line-init
loop-line-init c = record { listed = rw c.new-listed.ensures.items refl; same = refl }

pub loop-line-preserved : goal.loop-line-preserved
loop-line-preserved c =
    let at = c.loop-line in
    let m = c.args.strike.now.face.cmap in
    let line = c.in-Some.line in
    let so_far = map (λ (x : Bor (List ℕ)). x.now) at.yielded in
    let own : c.in_ok-lacking.lacking.items ≡ lacking_of m (chars line.now) =
    rw at.invariant.same at c.in_ok-lacking.ensures.exact in
    let listed : c.list_all.new.listed.items ≡ distinct_after (lacking_after m [] so_far) (lacking_of m (chars line.now)) =
    rw (c.deref.ensures.value, own, at.invariant.listed) at c.in_ok-list_all.ensures in
    record {
      listed = rw (map_push (λ (x : Bor (List ℕ)). x.now) at.yielded line) (listed ∙ sym (lacking_more m [] so_far line.now));
      same = c.lacking.ensures.same ∙ at.invariant.same;
    }

pub returns-clause-exact : goal.returns-clause-exact
unfolding label_lines
returns-clause-exact c =
    let at = c.loop-line in
    let m = c.args.strike.now.face.cmap in
    let text = unmarked c.args.text.now in
    let rest : lines_rest c.into_iter-line-iterator.result ≡ text =
    ap lines_rest c.into_iter-line-iterator.ensures.into_iter_gives ∙ c.lines-line-items.ensures.rest ∙ c.unmarked.ensures in
    let all : map (λ (x : Bor (List ℕ)). x.now) at.yielded ≡ lines text =
    (YieldsList-end (YieldsList-from_lines text rest) at.yielded _ at.yielded_by _ _ c.in-None.is c.next.ensures.steps).0 in
    at.invariant.listed ∙ ap (λ ls. lacking_after m [] ls) all ∙ sym (lacking_of_some m (lines text))
