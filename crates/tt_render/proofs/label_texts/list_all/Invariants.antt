use Rattle.std.proofs.Common.{◌≡◌, drop}
use Rattle.tt_cmap.specs.Lacking.{distinct_after}
use Rattle.tt_render.proofs.label_texts.list_all.Given as goal

-- the list so far, and then the remaining characters
abbrev pub invariant-loop-c : goal.invariant-loop-c
invariant-loop-c l = distinct_after l.listed.items (drop l.c-index l.more) ≡ distinct_after l.initial.listed.items l.more
