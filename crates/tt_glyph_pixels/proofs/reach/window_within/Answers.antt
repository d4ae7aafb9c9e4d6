use Rattle.tt_glyph_pixels.proofs.reach.window_within.Goals as goal

pub returns-clause-near : goal.returns-clause-near
returns-clause-near c = c.in_ok-window.ensures.near c.reached.ensures.near.0 c.reached.ensures.near.1
