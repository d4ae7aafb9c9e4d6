use Rattle.std.proofs.Common.{◌∙◌, SFits, arith, w32}
use Rattle.std.proofs.lemmas.Int.{ints, to_z-of_z}
use Rattle.tt_axes.specs.Axes.{axis_of}
use Rattle.tt_program_faces.specs.Variations.{comma, tag_words}
use Rattle.tt_program_faces.proofs.FaceTexts.{place-more}
use Rattle.tt_program_faces.proofs.variations.push_place.Goals as goal

pub returns : goal.returns
returns c =
    let tag = tag_words (axis_of c.args.fvar.now c.args.i).tag in
    let fits : SFits w32 c.place.result = omega (arith, ints, c.place.type_inv) in
    let put = simp to_z-of_z at c.in_ok-push_value.ensures in
    put
    ∙ rw (c.in_ok-push_tag.ensures, c.in_ok-push_comma.ensures, c.axis.ensures.exact)
    (place-more c.args.lines.now.items (comma c.args.i) tag c.place.ensures)
