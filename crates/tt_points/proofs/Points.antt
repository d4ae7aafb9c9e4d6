-- A point by its number, after a point was replaced.
use Rattle.std.proofs.Common.{◌≡◌, ◌≢◌, ℕ, zero, suc, ℤ, pos, negsuc, int_lt, unsigned_abs, slice_get, slice_set, false, List, [], ◌∷◌, ok_or, Ok, ap, refl, rules, ◌∙◌, sym}
use Rattle.std.specs.Ordering.{int_eq}
use Rattle.std.proofs.lemmas.Bool.Decides.{Decides-int_eq, not_from_Decides}
use Rattle.tt_core.specs.declared.fault.Why.TheVariants as why
use Rattle.tt_state.specs.declared.point.Point.{Point}
use Rattle.tt_points_zones.specs.Points.{point_at}

there : (ps : List Point) (i : ℕ) (a q : Point) → ok_or (slice_get ps i) why.PointRange ≡ Ok a
    → ok_or (slice_get (slice_set ps i q) i) why.PointRange ≡ Ok q
there [] i a q is = search rules
there (p ∷ ps) zero a q is = refl
there (p ∷ ps) (suc i) a q is = there ps i a q is

beside : (ps : List Point) (i j : ℕ) (q : Point) → j ≢ i → slice_get (slice_set ps i q) j ≡ slice_get ps j
beside [] i j q other = refl
beside (p ∷ ps) zero zero q other = search rules
beside (p ∷ ps) zero (suc j) q other = refl
beside (p ∷ ps) (suc i) zero q other = refl
beside (p ∷ ps) (suc i) (suc j) q other = beside ps i j q (λ same. other (ap suc same))

-- no number of 0 or more is refused for its sign
signless : (n : ℕ) → int_lt (pos n) (pos 0) ≡ false
signless n = search rules

at_pos : (n : ℕ) (ps : List Point) → point_at (pos n) ps ≡ ok_or (slice_get ps n) why.PointRange
at_pos n ps = rw (signless n) refl

pub point_at-put : (n : ℤ) (ps : List Point) (a q : Point) → point_at n ps ≡ Ok a
    → point_at n (slice_set ps (unsigned_abs n) q) ≡ Ok q
point_at-put (pos n) ps a q is = at_pos n (slice_set ps n q) ∙ there ps n a q (sym (at_pos n ps) ∙ is)
point_at-put (negsuc n) ps a q is = search rules

pub point_at-other : (n p : ℤ) (ps : List Point) (a b q : Point) → point_at n ps ≡ Ok a → point_at p ps ≡ Ok b
    → int_eq n p ≡ false → point_at n (slice_set ps (unsigned_abs p) q) ≡ Ok a
point_at-other (pos n) (pos p) ps a b q is was other =
    let apart : n ≢ p = λ same. not_from_Decides _ (Decides-int_eq (pos n) (pos p)) other (ap pos same) in
    at_pos n (slice_set ps p q) ∙ ap (λ found. ok_or found why.PointRange) (beside ps p n q apart)
    ∙ sym (at_pos n ps) ∙ is
point_at-other (pos n) (negsuc p) ps a b q is was other = search rules
point_at-other (negsuc n) p ps a b q is was other = search rules
