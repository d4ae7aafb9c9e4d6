use Rattle.std.proofs.Common.{append_assoc, refl}
use Rattle.tt_bdf.proofs.bitmap.push_character.Goals as goal

pub returns : goal.returns
returns c =
    rw (c.in_ok-extend_from_slice-2.ensures.items, c.in_ok-push_rows.ensures, c.in_ok-extend_from_slice.ensures.items, c.as_bytes.ensures.value, c.in_ok-head.ensures, c.row_bytes-stride.ensures.exact)
    (simp append_assoc refl)
