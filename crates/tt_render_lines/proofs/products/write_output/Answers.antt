use Rattle.tt_render_lines.proofs.products.write_output.Goals as goal

pub returns-in-Picture : goal.returns-in-Picture
returns-in-Picture g c = rw c.in-Picture.is c.write_picture.ensures.writes

pub returns-in-Text : goal.returns-in-Text
returns-in-Text g c = rw c.in-Text.is (rw c.as_slice.ensures.value at c.write_all_of.ensures)
