use Rattle.tt_bitmap_font.proofs.characters.all_ranges.Goals as goal

pub returns-clause-codes : goal.returns-clause-codes
returns-clause-codes c =
    c.in_ok-push_text.ensures.codes (rw (c.in_ok-extend_from_slice.ensures.items, c.new-ranges.ensures.items) c.requires)
