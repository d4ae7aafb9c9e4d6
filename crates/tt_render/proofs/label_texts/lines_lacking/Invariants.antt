use Rattle.std.proofs.Common.{◌≡◌, [], map}
use Rattle.tt_render.specs.Labels.{lacking_after}
use Rattle.tt_render.proofs.label_texts.lines_lacking.Given as goal

-- the characters of the lines so far
abbrev pub invariant-loop-line : goal.invariant-loop-line
invariant-loop-line l = record {
  listed : l.listed.items ≡ lacking_after l.fn.strike.face.cmap [] (map (λ x. x.now) l.yielded);
  same : l.strike ≡ l.fn.strike;
}
