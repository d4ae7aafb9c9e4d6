-- The box of a font holds the ink of all characters, and each of its sides touches the ink of one.
use Rattle.std.proofs.Common.{◌≡◌, ◌∙◌, refl, sym, ap, subst, suc, ◌==◌, Bool, true, false, if◌then◌else◌, ◌⊎◌, inl, inr, ℤ, List, [], ◌∷◌, Option, Some, None, All, Any, IfSome, IsSomeAnd, arith}
use Rattle.std.proofs.lemmas.Bool.{eqb-true}
use Rattle.std.proofs.lemmas.Bool.Decides.{nat_tests}
use Rattle.std.proofs.lemmas.Int.{by_lt_z, int_max_is, int_min_is, ints}
use Rattle.std.proofs.lemmas.List.Elements.{All-cons, All-head, All-nil, All-tail}
use Rattle.std.specs.Int.{int_max, int_min}
use Rattle.tt_bdf.specs.declared.character.BdfCharacter.{BdfCharacter}
use Rattle.tt_bdf.specs.declared.extent.InkExtent.{InkExtent}
use Rattle.tt_bdf.specs.Extent.{box_of, joined, joined_boxes, joined_from}
use Rattle.tt_bdf.specs.Head.{box_text}
use Rattle.tt_bdf.specs.Laws.{AreWithoutInk, BlanksHaveZeros, BoxIsLeast, HoldsBox, IsBoxOfInk, Touches}

-- it holds them

holds_itself : (e : InkExtent) → HoldsBox e e
holds_itself e = record {
  left = omega (arith, ints);
  bottom = omega (arith, ints);
  right = omega (arith, ints);
  top = omega (arith, ints);
}

first_held : (e a b : InkExtent) → HoldsBox e (joined_boxes a b) → HoldsBox e a
first_held e a b h = record {
  left = omega (arith, ints, int_min_is a.left b.left, h.left);
  bottom = omega (arith, ints, int_min_is a.bottom b.bottom, h.bottom);
  right = omega (arith, ints, int_max_is a.right b.right, h.right);
  top = omega (arith, ints, int_max_is a.top b.top, h.top);
}

second_held : (e a b : InkExtent) → HoldsBox e (joined_boxes a b) → HoldsBox e b
second_held e a b h = record {
  left = omega (arith, ints, int_min_is a.left b.left, h.left);
  bottom = omega (arith, ints, int_min_is a.bottom b.bottom, h.bottom);
  right = omega (arith, ints, int_max_is a.right b.right, h.right);
  top = omega (arith, ints, int_max_is a.top b.top, h.top);
}

both_held : (e : InkExtent) (a b : Option InkExtent) → IfSome (joined a b) (HoldsBox e)
    → IfSome a (HoldsBox e) × IfSome b (HoldsBox e)
both_held e None b h = (tt, h)
both_held e (Some a) None h = (h, tt)
both_held e (Some a) (Some b) h = (first_held e a b h, second_held e a b h)

all_held : (cs : List BdfCharacter) (a : Option InkExtent) (e : InkExtent) → joined_from a cs ≡ Some e
    → IfSome a (HoldsBox e) × All (λ (c : BdfCharacter). IfSome (box_of c) (HoldsBox e)) cs
all_held [] a e is =
    (subst (λ (o : Option InkExtent). IfSome o (HoldsBox e)) (sym is) (holds_itself e), All-nil (λ (c : BdfCharacter). IfSome (box_of c) (HoldsBox e)))
all_held (c ∷ cs) a e is =
    let P : BdfCharacter → Type 0 = λ c. IfSome (box_of c) (HoldsBox e) in
    let rest = all_held cs (joined a (box_of c)) e is in
    let both = both_held e a (box_of c) rest.0 in
    (both.0, All-cons P c cs both.1 rest.1)

-- a side of two joined boxes is that of one

abbrev IsOfOne : (InkExtent → ℤ) → Type 0
IsOfOne side = (a b : InkExtent) → (side a ≡ side (joined_boxes a b)) ⊎ (side b ≡ side (joined_boxes a b))

min_is_one : (a b : ℤ) → (a ≡ int_min a b) ⊎ (b ≡ int_min a b)
min_is_one a b =
    by_lt_z a b (λ less. inl (omega (arith, ints, int_min_is a b, less))) (λ more. inr (omega (arith, ints, int_min_is a b, more)))

max_is_one : (a b : ℤ) → (a ≡ int_max a b) ⊎ (b ≡ int_max a b)
max_is_one a b =
    by_lt_z a b (λ less. inr (omega (arith, ints, int_max_is a b, less))) (λ more. inl (omega (arith, ints, int_max_is a b, more)))

touched_by_one : (side : InkExtent → ℤ) → IsOfOne side → (e : InkExtent) (a b : Option InkExtent)
    → IsSomeAnd (joined a b) (λ x. side x ≡ side e)
    → IsSomeAnd a (λ x. side x ≡ side e) ⊎ IsSomeAnd b (λ x. side x ≡ side e)
touched_by_one side one e None b h = inr h
touched_by_one side one e (Some a) None h = inl h
touched_by_one side one e (Some a) (Some b) h = elim (one a b) [
  | inl first ↦ inl (first ∙ h)
  | inr second ↦ inr (second ∙ h)
]

here_or_later : (P : BdfCharacter → Type 0) (c : BdfCharacter) (cs : List BdfCharacter) → P c ⊎ Any P cs → Any P (c ∷ cs)
here_or_later P c cs (inl here) = (0, c, omega arith, refl, here)
here_or_later P c cs (inr later) = (suc later.0, later.1, omega (arith, later.2), later.3, later.4)

first_or_some : (side : InkExtent → ℤ) → IsOfOne side → (cs : List BdfCharacter) (a : Option InkExtent) (e : InkExtent)
    → joined_from a cs ≡ Some e → IsSomeAnd a (λ x. side x ≡ side e) ⊎ Touches side e cs
first_or_some side one [] a e is =
    inl (subst (λ (o : Option InkExtent). IsSomeAnd o (λ x. side x ≡ side e)) (sym is) refl)
first_or_some side one (c ∷ cs) a e is =
    let P : BdfCharacter → Type 0 = λ d. IsSomeAnd (box_of d) (λ x. side x ≡ side e) in
    elim (first_or_some side one cs (joined a (box_of c)) e is) [
      | inl first ↦ elim (touched_by_one side one e a (box_of c) first) [
        | inl before ↦ inl before
        | inr here ↦ inr (here_or_later P c cs (inl here))
      ]
      | inr later ↦ inr (here_or_later P c cs (inr later))
    ]

touched : (side : InkExtent → ℤ) → IsOfOne side → (cs : List BdfCharacter) (e : InkExtent) → joined_from None cs ≡ Some e
    → Touches side e cs
touched side one cs e is = elim (first_or_some side one cs None e is) [
  | inl none ↦ absurd none
  | inr some ↦ some
]

-- without a box no character has ink

none_joined : (a b : Option InkExtent) → joined a b ≡ None → (a ≡ None) × (b ≡ None)
none_joined None b is = (refl, is)
none_joined (Some a) None is = absurd cc
none_joined (Some a) (Some b) is = absurd cc

test_is : (b : Bool) (x : InkExtent) → ◌≡◌ {A = Option InkExtent} (if b then None else Some x) None → b ≡ true
test_is true x is = refl
test_is false x is = absurd cc

none_inked : (cs : List BdfCharacter) (a : Option InkExtent) → joined_from a cs ≡ None → (a ≡ None) × AreWithoutInk cs
none_inked [] a is = (is, All-nil (λ (c : BdfCharacter). c.width ≡ 0))
none_inked (c ∷ cs) a is =
    let rest = none_inked cs (joined a (box_of c)) is in
    let both = none_joined a (box_of c) rest.0 in
    let width : c.width ≡ 0 = eqb-true c.width 0 (test_is (c.width == 0) _ both.1) in
    (both.0, All-cons (λ (c : BdfCharacter). c.width ≡ 0) c cs width rest.1)

least_by : (cs : List BdfCharacter) (o : Option InkExtent) → joined_from None cs ≡ o → IsBoxOfInk cs o
least_by cs None is = (none_inked cs None is).1
least_by cs (Some e) is = record {
  holds = (all_held cs None e is).1;
  left = touched (λ x. x.left) (λ a b. min_is_one a.left b.left) cs e is;
  bottom = touched (λ x. x.bottom) (λ a b. min_is_one a.bottom b.bottom) cs e is;
  right = touched (λ x. x.right) (λ a b. max_is_one a.right b.right) cs e is;
  top = touched (λ x. x.top) (λ a b. max_is_one a.top b.top) cs e is;
}

pub box_is_least : BoxIsLeast
box_is_least cs = least_by cs (joined_from None cs) refl

-- characters without ink have no box

no_box : (cs : List BdfCharacter) → AreWithoutInk cs → ◌≡◌ {A = Option InkExtent} (joined_from None cs) None
no_box [] all = refl
no_box (c ∷ cs) all =
    let W : BdfCharacter → Type 0 = λ c. c.width ≡ 0 in
    let width : c.width ≡ 0 = All-head W c cs all in
    let test : (c.width == 0) ≡ true = grind (arith, nat_tests, width) in
    rw test (no_box cs (All-tail W c cs all))

pub blanks_have_zeros : BlanksHaveZeros
blanks_have_zeros cs all = ap box_text (no_box cs all)
