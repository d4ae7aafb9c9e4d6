use Rattle.std.proofs.Common.{◌≡◌, ◌++◌, ◌∙◌, ap, sym, codes, flat_map, append_assoc}
use Rattle.std.proofs.lemmas.List.{append-nil, at_drop_all, at_drop_more}
use Rattle.tt_bdf.specs.Bitmap.{byte_digits}
use Rattle.tt_bdf.proofs.bitmap.push_row.Goals as goal

pub loop-byte-preserved : goal.loop-byte-preserved
loop-byte-preserved c =
    let rest = at_drop_more (λ bs. c.loop-byte.text.items ++ flat_map byte_digits bs) c.args.row.now c.loop-byte.byte-index 0
    c.loop-byte-test.true in
    rw (c.in_ok-push-2.ensures.items, c.in_ok-push.ensures.items, c.digit-in-loop-byte.ensures, c.digit.ensures)
    (simp append_assoc (sym rest) ∙ c.loop-byte.invariant)

pub returns : goal.returns
returns c =
    let text = c.loop-byte.text.items in
    let before = c.args.text.now.items in
    let digits = flat_map byte_digits c.args.row.now in
    let none_left = at_drop_all (flat_map byte_digits) c.args.row.now c.loop-byte.byte-index c.loop-byte-test.false in
    let whole : text ≡ before ++ digits = rw (← append-nil text) (rw none_left at c.loop-byte.invariant) in
    c.in_ok-push-3.ensures.items ∙ ap (λ xs. xs ++ codes "\n") whole ∙ append_assoc before digits (codes "\n")
