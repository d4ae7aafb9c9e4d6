-- Advances that are kept, and lines whose advances are found glyph by glyph.
use Rattle.std.proofs.Common.{◌≡◌, ◌∙◌, refl, sym, ap, ℕ, zero, suc, ◌+◌, ◌-◌, ◌<◌, ◌≤◌, ◌^◌, List, [], ◌∷◌, ◌++◌, All, Result, Ok, Err, drop, get_or, length, map, replicate, set, slice_index, take, arith}
use Rattle.std.proofs.lemmas.List.{append-nil, drop-drop, drop_all, drop_more, get_or_default, take_all}
use Rattle.std.proofs.lemmas.List.Edits.{map_over_more}
use Rattle.tt_advances.specs.Found.{all_found, glyph_units, or_zero}
use Rattle.tt_advances.specs.Views.{AreFound, Finder, IsFoundAt}
use Rattle.tt_core.specs.declared.font_fault.FontFault.{FontFault}
use Rattle.tt_core.specs.declared.font_fault.FontFault.TheVariants as fault
use Rattle.tt_core.specs.Faults.{Fault}
use Rattle.tt_core.specs.Outcomes.{◌>>=◌, FontGives}

-- the numbers of a line's glyphs
abbrev pub numbers : List (ℕ × ℕ) → List ℕ
numbers ps = map (λ (p : ℕ × ℕ). p.0) ps

-- each glyph with its advance
abbrev pub found_pair : (ℕ → Result ℕ Fault) → ℕ × ℕ → ℕ × ℕ
found_pair found p = (p.0, or_zero (found p.0))

-- what holds for all numbers but one, and for a new number in its place
pub all_but_one : (P : ℕ → ℕ → Type 0) (xs : List ℕ) (i v : ℕ) → ((g : ℕ) → P g (slice_index xs g)) → P i v → i < length xs
    → (g : ℕ) → P g (slice_index (set xs i v) g)
all_but_one P [] i v all here under g = absurd (omega (arith, under))
all_but_one P (x ∷ xs) zero v all here under zero = here
all_but_one P (x ∷ xs) zero v all here under (suc g) = all (suc g)
all_but_one P (x ∷ xs) (suc i) v all here under zero = all zero
all_but_one P (x ∷ xs) (suc i) v all here under (suc g) =
    all_but_one (λ (n m : ℕ). P (suc n) m) xs i v (λ n. all (suc n)) here (omega (arith, under)) g

-- a table of zeros has no advances
zeros : (P : ℕ → ℕ → Type 0) (n : ℕ) → ((g : ℕ) → P g 0) → (g : ℕ) → P g (slice_index (replicate n 0) g)
zeros P zero all zero = all zero
zeros P zero all (suc g) = all (suc g)
zeros P (suc n) all zero = all zero
zeros P (suc n) all (suc g) = zeros (λ (n m : ℕ). P (suc n) m) n (λ g. all (suc g)) g

pub none_known : (f : Finder) (n : ℕ) → AreFound f (replicate n 0)
none_known f n = zeros (IsFoundAt f) n (λ g. tt)

-- an advance as it is kept
is_found : (f : Finder) (g n k : ℕ) → k ≡ suc n → n < 2 ^ 16 → glyph_units f.face.instance f.face.metrics f.tables g ≡ Ok n → IsFoundAt f g k
is_found f g n k is small there = rw is (small, there)

pub one_known : (f : Finder) (known : List ℕ) (g n : ℕ) → AreFound f known → n < 2 ^ 16
    → glyph_units f.face.instance f.face.metrics f.tables g ≡ Ok n → g < length known → AreFound f (set known g (n + 1))
one_known f known g n so_far small is under =
    all_but_one (IsFoundAt f) known g (n + 1) so_far (is_found f g n (n + 1) (omega arith) small is) under

-- an advance that is kept
pub known_is : (f : Finder) (g k : ℕ) → IsFoundAt f g k → 0 < k
    → (k < 2 ^ 16 + 1) × (glyph_units f.face.instance f.face.metrics f.tables g ≡ Ok (k - 1))
known_is f g zero is some = absurd (omega (arith, some))
known_is f g (suc n) is some =
    let less : suc n - 1 ≡ n = omega arith in
    (omega (arith, is.0), rw less is.1)

-- the others are tested next
pub one_more_tested : (found : ℕ → Result ℕ Fault) (ps : List (ℕ × ℕ)) (i : ℕ) (all : Result (Unit {0}) Fault) → i < length ps
    → all ≡ all_found found (numbers (drop i ps))
    → all ≡ found (get_or ps i (0, 0)).0 >>= λ n. all_found found (numbers (drop (i + 1) ps))
one_more_tested found ps i all under is = is ∙ ap (λ (qs : List (ℕ × ℕ)). all_found found (numbers qs)) (drop_more ps i (0, 0) under)

-- a glyph that is refused stops the line
pub refused_here : (found : ℕ → Result ℕ Fault) (ps : List (ℕ × ℕ)) (i : ℕ) (all : Result (Unit {0}) Fault) (e : FontFault)
    → i < length ps → all ≡ all_found found (numbers (drop i ps))
    → FontGives {X = ℕ} (λ n. n) (Err e) (found (get_or ps i (0, 0)).0) → FontGives {X = Unit {0}} (λ u. u) (Err e) all
refused_here found ps i all fault.Memory under is refused = tt
refused_here found ps i all (fault.Font f) under is refused = rw refused at (one_more_tested found ps i all under is)

-- the first of the others
pub first_left : (xs ys : List (ℕ × ℕ)) (i : ℕ) → drop i xs ≡ drop i ys → i < length xs → i < length ys
    → get_or xs i (0, 0) ≡ get_or ys i (0, 0)
first_left xs ys i rest under below =
    let head : List (ℕ × ℕ) → ℕ × ℕ = λ zs. get_or zs 0 (0, 0) in
    sym (ap head (drop_more xs i (0, 0) under)) ∙ ap head rest ∙ ap head (drop_more ys i (0, 0) below)

-- and those after it
pub later_left : (xs ys : List (ℕ × ℕ)) (i : ℕ) → drop i xs ≡ drop i ys → drop (i + 1) xs ≡ drop (i + 1) ys
later_left xs ys i rest = sym (drop-drop 1 i xs) ∙ ap (λ (zs : List (ℕ × ℕ)). drop 1 zs) rest ∙ drop-drop 1 i ys

-- each glyph of a line with its advance
pub pairs : (found : ℕ → Result ℕ Fault) (ps : List (ℕ × ℕ)) → map (found_pair found) ps ≡ map (λ g. (g, or_zero (found g))) (numbers ps)
pairs found [] = refl
pairs found (p ∷ ps) = ap (λ (rest : List (ℕ × ℕ)). found_pair found p ∷ rest) (pairs found ps)

pub all_placed : (found : ℕ → Result ℕ Fault) (line ps : List (ℕ × ℕ)) (i : ℕ) → length ps ≤ i
    → line ≡ map (found_pair found) (take i ps) ++ drop i ps → line ≡ map (λ g. (g, or_zero (found g))) (numbers ps)
all_placed found line ps i over placed =
    placed ∙ rw (take_all i ps over, drop_all i ps over, append-nil (map (found_pair found) ps)) (pairs found ps)

pub all_tested : (found : ℕ → Result ℕ Fault) (ps : List (ℕ × ℕ)) (i : ℕ) (all : Result (Unit {0}) Fault) → length ps ≤ i
    → all ≡ all_found found (numbers (drop i ps)) → all ≡ Ok tt
all_tested found ps i all over is = is ∙ ap (λ (qs : List (ℕ × ℕ)). all_found found (numbers qs)) (drop_all i ps over)

-- a line whose glyph at a place has its advance
pub one_more_placed : (found : ℕ → Result ℕ Fault) (line ps : List (ℕ × ℕ)) (i n : ℕ) → i < length line → i < length ps
    → drop i line ≡ drop i ps → line ≡ map (found_pair found) (take i ps) ++ drop i ps
    → found (get_or ps i (0, 0)).0 ≡ Ok n
    → set line i ((get_or line i (0, 0)).0, n) ≡ map (found_pair found) (take (i + 1) ps) ++ drop (i + 1) ps
one_more_placed found line ps i n under below rest placed is =
    let x = get_or ps i (0, 0) in
    let read : get_or line i (0, 0) ≡ x = first_left line ps i rest under below in
    let here : x ≡ get_or line i x = sym read ∙ sym (get_or_default line i x (0, 0) under) in
    let pair : (x.0, n) ≡ found_pair found x = rw is refl in
    rw (read, pair) (map_over_more (found_pair found) ps line i x below placed here)
