-- The folds over a list of edges, by single edges.
use Rattle.std.proofs.Common.{◌≡◌, ◌≢◌, Bool, true, false, ◌||◌, not, List, [], ◌∷◌, ◌⊎◌, inl, inr, refl, sym, ap, ◌∙◌, arith, ◌↔◌, ℤ, pos}
use Rattle.std.specs.List.{list_any}
use Rattle.std.proofs.lemmas.Bool.{or_cases}
use Rattle.std.proofs.lemmas.Int.{ints}
use Rattle.std.proofs.lemmas.List.Folds.{Any-from_list_any, list_any-from_Any}
use Rattle.tt_scan_edges.specs.declared.edge.Edge.{Edge}
use Rattle.tt_scan_edges.specs.Winding.{is_zero, lies_on, lies_on_one, winding, is_black, LiesOnSome}

or_left : (a b : Bool) → a ≡ true → (a || b) ≡ true
or_left true b h = refl
or_left false b h = absurd (cc)

or_right : (a b : Bool) → b ≡ true → (a || b) ≡ true
or_right true b h = refl
or_right false b h = h

as_any : (es : List Edge) (x y : ℤ) → lies_on_one es x y ≡ list_any (λ e. lies_on e x y) es
as_any [] x y = refl
as_any (e ∷ es) x y = ap (λ b. lies_on e x y || b) (as_any es x y)

some_edge : (es : List Edge) (x y : ℤ) → lies_on_one es x y ≡ true → LiesOnSome es x y
some_edge es x y on = Any-from_list_any (λ e. lies_on e x y) es (sym (as_any es x y) ∙ on)

on_list : (es : List Edge) (x y : ℤ) → LiesOnSome es x y → lies_on_one es x y ≡ true
on_list es x y on = as_any es x y ∙ list_any-from_Any (λ e. lies_on e x y) es on

-- a point lies on a list of edges where it lies on some edge of it
pub lies_on_some : (es : List Edge) (x y : ℤ) → (lies_on_one es x y ≡ true) ↔ LiesOnSome es x y
lies_on_some es x y = (some_edge es x y, on_list es x y)

not_zero : (z : ℤ) → not (is_zero z) ≡ true → z ≢ pos 0
not_zero z h = λ same. absurd (grind (arith, ints))

is_not_zero : (z : ℤ) → z ≢ pos 0 → not (is_zero z) ≡ true
is_not_zero z h = grind (arith, ints)

-- a point is black where it lies on some edge, or the turns of all edges do not add up to 0
pub black_where : (es : List Edge) (x y : ℤ) → (is_black es x y ≡ true) ↔ (LiesOnSome es x y ⊎ (winding es x y ≢ pos 0))
black_where es x y = (
  λ black. elim (or_cases (lies_on_one es x y) (not (is_zero (winding es x y))) black) [
    | inl on ↦ inl (some_edge es x y on)
    | inr round ↦ inr (not_zero (winding es x y) round)
  ],
  λ either. elim either [
    | inl on ↦ or_left (lies_on_one es x y) (not (is_zero (winding es x y))) (on_list es x y on)
    | inr round ↦ or_right (lies_on_one es x y) (not (is_zero (winding es x y))) (is_not_zero (winding es x y) round)
  ],
)
