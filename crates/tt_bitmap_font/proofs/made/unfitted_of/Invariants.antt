use Rattle.std.proofs.Common.{◌≡◌, [], map}
use Rattle.tt_bitmap_font.specs.Bitmaps.{unfitted_after}
use Rattle.tt_bitmap_font.proofs.made.unfitted_of.Given as goal

-- those of the entries so far
abbrev pub invariant-loop-code : goal.invariant-loop-code
invariant-loop-code l = l.listed.items ≡ unfitted_after l.face [] (map (λ p. (p.0.now, p.1.now)) l.yielded)
