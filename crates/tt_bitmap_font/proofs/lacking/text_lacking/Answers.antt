use Rattle.std.proofs.Common.{◌≡◌, ◌∙◌, [], ap, sym, map-id, chars}
use Rattle.std.proofs.lemmas.Iterator.{YieldsList-from_chars}
use Rattle.std.proofs.lemmas.Iterator.Consumers.{YieldsList-end}
use Rattle.tt_bitmap_font.specs.Characters.{lacking_after, text_lacking}
use Rattle.tt_bitmap_font.proofs.Listing.{lacking_push}
use Rattle.tt_bitmap_font.proofs.lacking.text_lacking.Goals as goal

pub loop-c-preserved : goal.loop-c-preserved
loop-c-preserved c =
    rw (c.in_ok-list_lacking.ensures, c.loop-c.invariant) (sym (lacking_push c.args.cmap.now [] c.loop-c.yielded c.in-Some.c))

pub returns : goal.returns
unfolding text_lacking
returns c =
    let end = YieldsList-end (YieldsList-from_chars c.args.text.now c.utf8.text cc) c.loop-c.yielded _ c.loop-c.yielded_by _ _ c.in-None.is c.next.ensures.steps in
    let all : c.loop-c.yielded ≡ chars c.args.text.now = sym (map-id c.loop-c.yielded) ∙ end.0 in
    c.loop-c.invariant ∙ ap (lacking_after c.args.cmap.now []) all
