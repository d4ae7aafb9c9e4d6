use Rattle.std.proofs.Common.{◌≡◌, ◌++◌, ◌∙◌, sym, ap, flat_map, codes, append_assoc}
use Rattle.std.proofs.lemmas.List.{append-nil, at_drop_all, at_drop_more}
use Rattle.tt_bdf.specs.Bitmap.{character_text}
use Rattle.tt_bdf.specs.Facts.{facts_of}
use Rattle.tt_bdf.specs.File.{bdf_text}
use Rattle.tt_bdf.specs.Head.{head_text}
use Rattle.tt_bdf.proofs.Nothing.{none}
use Rattle.tt_bdf.proofs.file.bdf_file.Goals as goal

pub loop-c-preserved : goal.loop-c-preserved
loop-c-preserved c =
    let text = character_text c.args.font.now.em c.args.rows.now in
    let before = c.loop-c.text.items in
    let rest = at_drop_more (λ cs. before ++ flat_map text cs) c.args.characters.now c.loop-c.c-index none c.loop-c-test.true in
    rw c.in_ok-push_character.ensures (append_assoc before _ _ ∙ sym rest ∙ c.loop-c.invariant)

pub returns : goal.returns
unfolding bdf_text
returns c =
    let text = character_text c.args.font.now.em c.args.rows.now in
    let cs = c.args.characters.now in
    let before = c.loop-c.text.items in
    let none_left = at_drop_all (flat_map text) cs c.loop-c.c-index c.loop-c-test.false in
    let whole : before ≡ head_text (facts_of c.args.font.now) cs ++ flat_map text cs = rw (← append-nil before) (rw none_left at c.loop-c.invariant) in
    c.in_ok-extend_from_slice-2.ensures.items ∙ ap (λ xs. xs ++ codes "ENDFONT\n") whole
    ∙ append_assoc (head_text (facts_of c.args.font.now) cs) (flat_map text cs) (codes "ENDFONT\n")
