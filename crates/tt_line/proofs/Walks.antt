-- A walk over a list: the items so far, and then those that are left, are the list.
use Rattle.std.proofs.Common.{◌≡◌, ◌∙◌, ◌<◌, List, [], ◌∷◌, ◌++◌, All, length, take, ap, sym, refl, arith}
use Rattle.std.proofs.lemmas.List.{append-nil, append_assoc, length-append, take_at}
use Rattle.std.proofs.lemmas.List.Elements.{All-contains, Contains-append_left, Contains-append_right, Contains-push}

pub goes-on : {A : Type 0} (done left rest all : List A) (x : A) → left ≡ x ∷ rest → done ++ left ≡ all
    → (done ++ x ∷ []) ++ rest ≡ all
goes-on done left rest all x first split = append_assoc done (x ∷ []) rest ∙ ap (λ xs. done ++ xs) (sym first) ∙ split

pub at-the-end : {A : Type 0} (done left all : List A) → left ≡ [] → done ++ left ≡ all → done ≡ all
at-the-end done left all none split = sym (append-nil done) ∙ ap (λ xs. done ++ xs) (sym none) ∙ split

pub so-far : {A : Type 0} (done left all : List A) → done ++ left ≡ all → done ≡ take (length done) all
so-far done left all split = sym (take_at done left (length done) refl) ∙ ap (λ xs. take (length done) xs) split

pub some-left : {A : Type 0} (done left rest all : List A) (x : A) → left ≡ x ∷ rest → done ++ left ≡ all
    → length done < length all
some-left done left rest all x first split =
    let many = ap length split in
    let long = length-append done left in
    let more = ap length first in
    omega (arith, many, long, more)

-- a fact of all items holds for the next one
pub holds-next : {A : Type 0} (P : A → Type 0) (done left rest all : List A) (x : A) → left ≡ x ∷ rest
    → done ++ left ≡ all → All P all → P x
holds-next P done left rest all x first split facts =
    let whole : done ++ x ∷ rest ≡ all = ap (λ xs. done ++ xs) (sym first) ∙ split in
    let every : All P (done ++ x ∷ rest) = rw whole facts in
    All-contains P (done ++ x ∷ rest) x every
    (Contains-append_right done (x ∷ rest) x (Contains-append_left (x ∷ []) rest x (Contains-push [] x)))
