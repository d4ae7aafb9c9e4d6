-- No part of a standard: texts that are cut at a separator, and read piece by piece (profile).
use Rattle.std.specs.Prelude.{◌≡◌, refl, ℕ, ◌==◌, if◌then◌else◌, List, [], ◌∷◌, map, codes, Option, Some, None}

-- what is before the first separator, and what is after, if there is a separator
abbrev pub before : ℕ → List ℕ → List ℕ
before sep [] = []
before sep (x ∷ xs) = if x == sep then [] else x ∷ before sep xs

abbrev pub after : ℕ → List ℕ → Option (List ℕ)
after sep [] = None
after sep (x ∷ xs) = if x == sep then Some xs else after sep xs

-- the pieces between separators
abbrev pub onto_first : ℕ → List (List ℕ) → List (List ℕ)
onto_first x [] = (x ∷ []) ∷ []
onto_first x (p ∷ ps) = (x ∷ p) ∷ ps

abbrev pub pieces : ℕ → List ℕ → List (List ℕ)
pieces sep [] = [] ∷ []
pieces sep (x ∷ xs) = if x == sep then [] ∷ pieces sep xs else onto_first x (pieces sep xs)

abbrev pub onto_read : {A : Type 0} → Option A → Option (List A) → Option (List A)
onto_read None rs = None
onto_read (Some r) None = None
onto_read (Some r) (Some rs) = Some (r ∷ rs)

-- what each piece is read as, if every one can be read
abbrev pub all_read : {A : Type 0} → (List ℕ → Option A) → List (List ℕ) → Option (List A)
all_read read [] = Some []
all_read read (t ∷ ts) = onto_read (read t) (all_read read ts)

-- worked values
each_piece : map (pieces 44) (codes "a,bc" ∷ codes ",a" ∷ codes "a," ∷ [] ∷ [])
    ≡ (codes "a" ∷ codes "bc" ∷ []) ∷ ([] ∷ codes "a" ∷ []) ∷ (codes "a" ∷ [] ∷ []) ∷ ([] ∷ []) ∷ []
each_piece = refl

at_the_first : map (after 61) (codes "a=b=c" ∷ codes "a=" ∷ codes "a" ∷ []) ≡ Some (codes "b=c") ∷ Some [] ∷ None ∷ []
at_the_first = refl
