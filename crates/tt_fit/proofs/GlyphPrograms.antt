-- A glyph's program is refused exactly for its defects.
use Rattle.std.proofs.Common.{◌≡◌, ℕ, Bool, true, false, if◌then◌else◌, Result, Ok, Err, inl, inr, refl, subst, sym}
use Rattle.std.specs.Prelude.{IsOkAnd, ◌⊎◌}
use Rattle.tt_core.specs.Chains.{came-through, was-err, passed-else, failed-else}
use Rattle.tt_core.specs.Faults.{Fault}
use Rattle.tt_fit_hinting.specs.machine.Parts.{Parts}
use Rattle.tt_fit.specs.Defects.{PassesLimit, IsGridDefect, IsProgramDefect, IsHintingDefect}
use Rattle.tt_fit_outline.specs.declared.grid.Grid.{Grid}
use Rattle.tt_fit_hinting.specs.GlyphZone.{GlyphProgram, program_in_glyf, on_grid, are_on_grid, on_grid_at}
use Rattle.tt_fit_hinting.specs.Parts.{parts_with}
use Rattle.tt_fit_outline.specs.Outline.{PhantomPoints, Outline}
use Rattle.tt_fit_hinting.specs.Hinting.{Hinting, off, ready, is_run, run_of, by_program, hinted}
use Rattle.tt_fit_outline.specs.Scaling.{is_coordinate}
use Rattle.tt_fit.proofs.Placing.{passes, fits, one-fails, all-hold}

-- the phantom points on the grid
one-passes : (p : PhantomPoints) → are_on_grid p ≡ false
    → PassesLimit p.left.0 ⊎ PassesLimit p.right.0 ⊎ PassesLimit p.ascent.1 ⊎ PassesLimit p.descent.1
one-passes p is =
    let one = one-fails (is_coordinate p.left.0) (is_coordinate p.right.0) (is_coordinate p.ascent.1)
    (is_coordinate p.descent.1) is in
    elim one [
      | inl left ↦ inl (passes p.left.0 left)
      | inr (inl right) ↦ inr (inl (passes p.right.0 right))
      | inr (inr (inl ascent)) ↦ inr (inr (inl (passes p.ascent.1 ascent)))
      | inr (inr (inr descent)) ↦ inr (inr (inr (passes p.descent.1 descent)))
    ]

none-passes : (p : PhantomPoints) → are_on_grid p ≡ true
    → PassesLimit p.left.0 ⊎ PassesLimit p.right.0 ⊎ PassesLimit p.ascent.1 ⊎ PassesLimit p.descent.1 → ⊥
none-passes p is past =
    let hold = all-hold (is_coordinate p.left.0) (is_coordinate p.right.0) (is_coordinate p.ascent.1)
    (is_coordinate p.descent.1) is in
    elim past [
      | inl left ↦ fits p.left.0 hold.0 left
      | inr (inl right) ↦ fits p.right.0 hold.1 right
      | inr (inr (inl ascent)) ↦ fits p.ascent.1 hold.2 ascent
      | inr (inr (inr descent)) ↦ fits p.descent.1 hold.3 descent
    ]

pub grid-broke : (by : Grid) (at : ℕ) (p : PhantomPoints) (f : Fault) → on_grid_at by at p ≡ Err f
    → IsGridDefect at (on_grid by p) f
unfolding on_grid_at
grid-broke by at p f was =
    let test = failed-else (are_on_grid (on_grid by p)) _ _ f was in (one-passes (on_grid by p) test.0, test.1)

pub grid-whole : (by : Grid) (at : ℕ) (p grid : PhantomPoints) (f : Fault) → on_grid_at by at p ≡ Ok grid
    → IsGridDefect at (on_grid by p) f → ⊥
unfolding on_grid_at
grid-whole by at p grid f was bad =
    let test = passed-else (are_on_grid (on_grid by p)) _ _ grid was in none-passes (on_grid by p) test.0 bad.0

-- a program that is run
abbrev Refuses : Parts → GlyphProgram → Outline → Fault → Result PhantomPoints Fault → Type 0
Refuses parts p o f x = IsOkAnd x (λ grid. run_of (program_in_glyf p) (parts_with parts p.units o grid) ≡ Err f)

program-broke : (parts : Parts) (p : GlyphProgram) (o : Outline) (f : Fault) → is_run p ≡ true
    → by_program parts p o ≡ Err f → IsProgramDefect parts p o f
unfolding by_program
program-broke parts p o f is was = elim (was-err (on_grid_at p.grid p.glyph_at o.phantom) _ f was) [
  | inl here ↦ (is, inl (grid-broke p.grid p.glyph_at o.phantom f here))
  | inr grid ↦ elim (was-err (run_of (program_in_glyf p) (parts_with parts p.units o grid.value)) _ f grid.rest) [
    | inl here ↦ (is, inr (subst (Refuses parts p o f) (sym grid.first) here))
    | inr left ↦ let done = left.rest in absurd cc
  ]
]

program-whole : (parts : Parts) (p : GlyphProgram) (o made : Outline) (f : Fault) → by_program parts p o ≡ Ok made
    → IsProgramDefect parts p o f → ⊥
unfolding by_program
program-whole parts p o made f was bad =
    let grid = came-through (on_grid_at p.grid p.glyph_at o.phantom) _ made was in
    let left = came-through (run_of (program_in_glyf p) (parts_with parts p.units o grid.value)) _ made grid.rest in
    elim (bad.1) [
      | inl phantom ↦ grid-whole p.grid p.glyph_at o.phantom grid.value f grid.first phantom
      | inr ran ↦ let first = left.first in let refused = subst (Refuses parts p o f) grid.first ran in cc
    ]

broke-by : (run : Bool) (parts : Parts) (p : GlyphProgram) (o : Outline) (f : Fault) → is_run p ≡ run
    → (if run then by_program parts p o else Ok o) ≡ Err f → IsProgramDefect parts p o f
broke-by true parts p o f is was = program-broke parts p o f is was
broke-by false parts p o f is was = absurd cc

pub hinted-broke : (h : Hinting) (p : GlyphProgram) (o : Outline) (f : Fault) → hinted h p o ≡ Err f
    → IsHintingDefect h p o f
hinted-broke off p o f was = absurd cc
hinted-broke (ready parts) p o f was = broke-by (is_run p) parts p o f refl was

pub hinted-whole : (h : Hinting) (p : GlyphProgram) (o made : Outline) (f : Fault) → hinted h p o ≡ Ok made
    → IsHintingDefect h p o f → ⊥
hinted-whole off p o made f was bad = bad
hinted-whole (ready parts) p o made f was bad =
    let run = bad.0 in program-whole parts p o made f (rw run at was) bad
