use Rattle.std.proofs.Common.{ap}
use Rattle.tt_scan.specs.Tape.{Tape}
use Rattle.tt_glyph_pixels.proofs.rows.blacken_inked.Goals as goal

pub returns-then-is_frame_of-clause-edges : goal.returns-then-is_frame_of-clause-edges
returns-then-is_frame_of-clause-edges c = ap (λ (t : Tape). t.edges) c.blacken_rows.ensures.tape

pub returns-clause-black : goal.returns-clause-black
returns-clause-black c =
    rw (c.in_ok-own.ensures, c.into_list-list.ensures, c.in_ok-copied.ensures) at c.blacken_rows-2.ensures.black
