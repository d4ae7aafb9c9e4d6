use Rattle.std.proofs.Common.{◌≡◌, map}
use Rattle.tt_bitmap_font.proofs.Listing.{pair_by}
use Rattle.tt_bitmap_font.proofs.made.characters_by.Given as goal

-- the characters so far
abbrev pub invariant-loop-code : goal.invariant-loop-code
invariant-loop-code l = l.made.items ≡ map (pair_by l.face) (map (λ p. (p.0.now, p.1.now)) l.yielded)
