use Rattle.std.proofs.Common.{◌≡◌, ◌≤◌, length}
use Rattle.std.specs.List.{AllWithin}
use Rattle.tt_glyphs.specs.Drawn.{drawn_edges}
use Rattle.tt_glyphs.proofs.list.most_edges.Given as goal

-- none of the glyphs so far has more
abbrev pub invariant-loop-i : goal.invariant-loop-i
invariant-loop-i l = record {
  end : l.i-end ≡ length l.fn.drawn;
  most : AllWithin (λ d. drawn_edges d ≤ l.most) l.fn.drawn 0 l.i;
}
