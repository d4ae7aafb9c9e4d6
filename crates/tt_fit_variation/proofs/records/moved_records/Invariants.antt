use Rattle.std.proofs.Common.{◌≡◌, ◌<◌, ℕ, ◌++◌, drop, All, Ok}
use Rattle.tt_core.specs.Outcomes.{◌>>=◌}
use Rattle.tt_glyf.specs.Meaning.{HasArguments}
use Rattle.tt_fit_variation.specs.Records.{moved_records}
use Rattle.tt_fit_variation.proofs.records.moved_records.Given as goal

-- the records so far, and then those that are left
abbrev pub invariant-loop-i : goal.invariant-loop-i
invariant-loop-i l = record {
  so_far : (moved_records (drop l.i l.records) (drop l.i l.xs) (drop l.i l.ys) >>= λ others. Ok (l.moved.items ++ others))
      ≡ moved_records l.records l.xs l.ys;
  arguments : All HasArguments l.moved.items;
  known : (glyphs : ℕ) → All (λ r. r.glyph < glyphs) l.records → All (λ r. r.glyph < glyphs) l.moved.items;
}
