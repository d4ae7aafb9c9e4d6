use Rattle.tt_picture.proofs.BodyInk.{joined_near, nearer}
use Rattle.tt_picture.proofs.glyph.LargeGlyph.ink.Goals as goal

pub returns-clause-near : goal.returns-clause-near
returns-clause-near c =
    rw c.joined.ensures (joined_near c.in_ok-edges.edges c.in_ok-filled.filled
    (nearer c.in_ok-edges.edges c.in_ok-edges.ensures.near) c.in_ok-filled.ensures.near)
