use Rattle.std.proofs.Common.{◌≡◌, ◌++◌, ◌∷◌, [], ◌∙◌, ap, sym, map, map-id, chars, append_assoc}
use Rattle.std.proofs.lemmas.Iterator.{YieldsList-from_chars}
use Rattle.std.proofs.lemmas.Iterator.Consumers.{YieldsList-end}
use Rattle.std.proofs.lemmas.List.{map-append}
use Rattle.std.proofs.lemmas.List.Elements.{All-push}
use Rattle.tt_bdf.specs.Asked.{range_of_one}
use Rattle.tt_bdf.specs.Ranges.{IsCodeRange}
use Rattle.tt_bdf.proofs.asked.push_text.Goals as goal

pub loop-c-preserved : goal.loop-c-preserved
loop-c-preserved c =
    let before = c.args.ranges.now.items in
    let so_far = c.loop-c.yielded in (
      rw (c.in_ok-push.ensures.items, c.range_of_one.ensures.exact, c.loop-c.invariant.0, map-append range_of_one so_far (c.in-Some.c ∷ []))
          (append_assoc before (map range_of_one so_far) (range_of_one c.in-Some.c ∷ [])),
      λ codes. rw c.in_ok-push.ensures.items
          (All-push IsCodeRange c.loop-c.ranges.items c.range_of_one.result (c.loop-c.invariant.1 codes) c.range_of_one.ensures.codes),
    )

pub returns-clause-exact : goal.returns-clause-exact
returns-clause-exact c =
    let before = c.args.ranges.now.items in
    let end = YieldsList-end (YieldsList-from_chars c.args.text.now c.utf8.text cc) c.loop-c.yielded _ c.loop-c.yielded_by _ _ c.in-None.is c.next.ensures.steps in
    let all : c.loop-c.yielded ≡ chars c.args.text.now = sym (map-id c.loop-c.yielded) ∙ end.0 in
    c.loop-c.invariant.0 ∙ ap (λ cs. before ++ map range_of_one cs) all

pub returns-clause-codes : goal.returns-clause-codes
returns-clause-codes c = c.loop-c.invariant.1
