-- The glyphs of several lines one after the other.
use Rattle.std.proofs.Common.{◌≡◌, refl, sym, ap, subst, ℕ, ◌+◌, ◌≤◌, List, [], ◌∷◌, ◌++◌, append-nil, length, map, get_or, Vec, Global, arith}
use Rattle.std.proofs.lemmas.List.{get_or-append-add, get_or_append_left, length-append}
use Rattle.std.proofs.lemmas.List.Elements.{All-append, All-cons, All-head, All-nil, All-tail}
use Rattle.std.specs.List.{flat_map}
use Rattle.std.specs.Prelude.{All}
use Rattle.tt_label.specs.Label.{joint}
use Rattle.tt_label.specs.Views.{placements_of}
use Rattle.tt_line.specs.Layout.{Placement}
use Rattle.tt_line.specs.Outcome.{placement_of}
use Rattle.tt_strike.specs.declared.laid.Laid.{Laid}

pub glyphs_joined : (ls : List Laid) → flat_map (λ (p : Placement). p.glyphs) (placements_of ls) ≡ flat_map (λ (l : Laid). l.line.glyphs.items) ls
glyphs_joined [] = refl
glyphs_joined (l ∷ ls) = ap (λ (xs : List (ℕ × ℕ)). l.line.glyphs.items ++ xs) (glyphs_joined ls)

-- the joint line has the size of the first
pub joint_is : (ls : List Laid) (d : Laid) → 1 ≤ length ls → joint (placements_of ls) ≡ record {
  width = (get_or ls 0 d).line.width;
  height = (get_or ls 0 d).line.height;
  rise = (get_or ls 0 d).line.rise;
  glyphs = flat_map (λ (l : Laid). l.line.glyphs.items) ls;
}
joint_is [] d some = absurd (omega (arith, some))
joint_is (l ∷ ls) d some = ap (λ (gs : List (ℕ × ℕ)). record { width = l.line.width; height = l.line.height; rise = l.line.rise; glyphs = gs }) (glyphs_joined (l ∷ ls))

-- a fact of each element of each list
pub all_flat : {X A : Type 0} (P : A → Type 0) (f : X → List A) (xs : List X) → All (λ x. All P (f x)) xs → All P (flat_map f xs)
all_flat P f [] all = All-nil P
all_flat P f (x ∷ xs) all =
    All-append P (f x) (flat_map f xs) (All-head (λ x. All P (f x)) x xs all) (all_flat P f xs (All-tail (λ x. All P (f x)) x xs all))

-- and back
in_front : {A : Type 0} (P : A → Type 0) (xs ys : List A) → All P (xs ++ ys) → All P xs
in_front P xs ys all = λ k d below.
    subst P (get_or_append_left xs ys d k below) (all k d (omega (arith, below, length-append xs ys)))

behind : {A : Type 0} (P : A → Type 0) (xs ys : List A) → All P (xs ++ ys) → All P ys
behind P xs ys all = λ k d below.
    subst P (get_or-append-add xs ys k d) (all (length xs + k) d (omega (arith, below, length-append xs ys)))

pub flat_all : {X A : Type 0} (P : A → Type 0) (f : X → List A) (xs : List X) → All P (flat_map f xs) → All (λ x. All P (f x)) xs
flat_all P f [] all = All-nil (λ x. All P (f x))
flat_all P f (x ∷ xs) all =
    All-cons (λ x. All P (f x)) x xs (in_front P (f x) (flat_map f xs) all) (flat_all P f xs (behind P (f x) (flat_map f xs) all))

-- none of some lists is longer than all of them together
pub each_short : {X A : Type 0} (f : X → List A) (xs : List X) (n : ℕ) → length (flat_map f xs) ≤ n → All (λ x. length (f x) ≤ n) xs
each_short f [] n few = All-nil (λ x. length (f x) ≤ n)
each_short f (x ∷ xs) n few =
    let both = length-append (f x) (flat_map f xs) in
    All-cons (λ x. length (f x) ≤ n) x xs (omega (arith, few, both)) (each_short f xs n (omega (arith, few, both)))

-- the glyphs of some lines, whose glyphs stand beside numbers
pub lists_joined : (ls : List (Vec (ℕ × ℕ) Global))
    → flat_map (λ (line : List (ℕ × ℕ)). line) (map (λ (v : Vec (ℕ × ℕ) Global). v.items) ls)
    ≡ flat_map (λ (v : Vec (ℕ × ℕ) Global). v.items) ls
lists_joined [] = refl
lists_joined (l ∷ ls) = ap (λ (xs : List (ℕ × ℕ)). l.items ++ xs) (lists_joined ls)

-- one line alone
pub one_joined : (ls : List (Vec (ℕ × ℕ) Global)) (d : Vec (ℕ × ℕ) Global) → length ls ≡ 1
    → (get_or ls 0 d).items ≡ flat_map (λ (v : Vec (ℕ × ℕ) Global). v.items) ls
one_joined [] d one = absurd (omega (arith, one))
one_joined (l ∷ []) d one = sym (append-nil l.items)
one_joined (l ∷ m ∷ ls) d one = absurd (omega (arith, one))

pub one_is_joint : (ls : List Laid) (d : Laid) → length ls ≡ 1 → placement_of (get_or ls 0 d).line ≡ joint (placements_of ls)
one_is_joint [] d one = absurd (omega (arith, one))
one_is_joint (l ∷ []) d one =
    ap (λ (gs : List (ℕ × ℕ)). record { width = l.line.width; height = l.line.height; rise = l.line.rise; glyphs = gs })
    (sym (append-nil l.line.glyphs.items))
one_is_joint (l ∷ m ∷ ls) d one = absurd (omega (arith, one))
