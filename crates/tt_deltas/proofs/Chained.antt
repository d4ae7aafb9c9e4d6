-- One tuple after the other.
use Rattle.std.proofs.Common.{◌≡◌, ◌∙◌, ℕ, ◌+◌, ◌-◌, ◌*◌, ◌<◌, ◌≤◌, ◌^◌, List, [], Result, Ok, Err, All, ap, sym, refl, arith}
use Rattle.std.proofs.lemmas.List.Elements.{All-weaker}
use Rattle.tt_core.specs.Faults.{Fault}
use Rattle.tt_tuples.specs.Sources.{Tuple}
use Rattle.tt_tuples.specs.Tuples.{tuple_before}
use Rattle.tt_deltas.specs.Along.{IsWithin, varied_along}
use Rattle.tt_deltas.specs.ControlValues.{values_by_all}
use Rattle.tt_deltas.specs.Glyphs.{VariedPoints, numbers_of, points_by_all, varied_by}
use Rattle.tt_deltas.specs.declared.varied.Varied.{Varied}

-- the points after one more tuple, and then after the others
one_more : (ends : List ℕ) (v : VariedPoints) (t : Tuple) (r : Result (List Tuple) Fault)
    → points_by_all ends v (tuple_before t r) ≡ points_by_all ends (varied_by ends v t) r
unfolding points_by_all
one_more ends v t (Ok ts) = refl
one_more ends v t (Err e) = refl

pub next_points : (ends : List ℕ) (v w : VariedPoints) (t : Tuple) (before after : Result (List Tuple) Fault)
    (whole : Result VariedPoints Fault) → points_by_all ends v before ≡ whole → before ≡ tuple_before t after
    → w ≡ varied_by ends v t → points_by_all ends w after ≡ whole
next_points ends v w t before after whole so_far is made =
    ap (λ (p : VariedPoints). points_by_all ends p after) made ∙ sym (one_more ends v t after)
    ∙ ap (λ (r : Result (List Tuple) Fault). points_by_all ends v r) (sym is) ∙ so_far

pub last_points : (ends : List ℕ) (v : VariedPoints) (before : Result (List Tuple) Fault)
    (whole : Result VariedPoints Fault) → points_by_all ends v before ≡ whole → before ≡ Ok [] → whole ≡ Ok v
unfolding points_by_all
last_points ends v before whole so_far is =
    sym so_far ∙ ap (λ (r : Result (List Tuple) Fault). points_by_all ends v r) is

pub broken_points : (ends : List ℕ) (v : VariedPoints) (before : Result (List Tuple) Fault)
    (whole : Result VariedPoints Fault) (e : Fault) → points_by_all ends v before ≡ whole → before ≡ Err e
    → whole ≡ Err e
unfolding points_by_all
broken_points ends v before whole e so_far is =
    sym so_far ∙ ap (λ (r : Result (List Tuple) Fault). points_by_all ends v r) is

-- the same for control values
one_more_value : (vs : List Varied) (t : Tuple) (r : Result (List Tuple) Fault)
    → values_by_all vs (tuple_before t r) ≡ values_by_all (varied_along t.share (numbers_of t.points) t.xs [] vs) r
unfolding values_by_all
one_more_value vs t (Ok ts) = refl
one_more_value vs t (Err e) = refl

pub next_values : (vs ws : List Varied) (t : Tuple) (before after : Result (List Tuple) Fault)
    (whole : Result (List Varied) Fault) → values_by_all vs before ≡ whole → before ≡ tuple_before t after
    → ws ≡ varied_along t.share (numbers_of t.points) t.xs [] vs → values_by_all ws after ≡ whole
next_values vs ws t before after whole so_far is made =
    ap (λ (p : List Varied). values_by_all p after) made ∙ sym (one_more_value vs t after)
    ∙ ap (λ (r : Result (List Tuple) Fault). values_by_all vs r) (sym is) ∙ so_far

pub last_values : (vs : List Varied) (before : Result (List Tuple) Fault) (whole : Result (List Varied) Fault)
    → values_by_all vs before ≡ whole → before ≡ Ok [] → whole ≡ Ok vs
unfolding values_by_all
last_values vs before whole so_far is =
    sym so_far ∙ ap (λ (r : Result (List Tuple) Fault). values_by_all vs r) is

pub broken_values : (vs : List Varied) (before : Result (List Tuple) Fault) (whole : Result (List Varied) Fault)
    (e : Fault) → values_by_all vs before ≡ whole → before ≡ Err e → whole ≡ Err e
unfolding values_by_all
broken_values vs before whole e so_far is =
    sym so_far ∙ ap (λ (r : Result (List Tuple) Fault). values_by_all vs r) is

-- how far values have moved at most, by the number of tuples that are left
pub rises : (old new : ℕ) → new < old → old < 4096 → (4096 - old) * 2 ^ 34 + 2 ^ 34 ≤ (4096 - new) * 2 ^ 34
rises old new less few = omega arith

looser : (a b : ℕ) → a ≤ b → (v : Varied) → IsWithin a v → IsWithin b v
looser a b more v within = omega arith

pub all_looser : (a b : ℕ) (vs : List Varied) → a ≤ b → All (IsWithin a) vs → All (IsWithin b) vs
all_looser a b vs more within = All-weaker (IsWithin a) (IsWithin b) (looser a b more) vs within
