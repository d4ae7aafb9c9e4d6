-- A table of functions with more room, with another body, and with a new one.
use Rattle.std.proofs.Common.{◌≡◌, ◌≢◌, ◌∙◌, ap, sym, ℕ, zero, suc, ◌+◌, ◌-◌, ◌<◌, ◌≤◌, max, List, [], ◌∷◌, ◌++◌, length, map, set, get_or, replicate, All, inl, inr, refl, arith, length-set, length-append, get_or-set_same, get_or-set_other}
use Rattle.std.proofs.lemmas.Bool.{cases_eq, cases_lt}
use Rattle.std.proofs.lemmas.List.{length-map, map-append, map-set, get_or_append_left, get_or-append_right, get_or-replicate, length-replicate}
use Rattle.std.proofs.lemmas.List.Elements.{All-set}
use Rattle.std.proofs.lemmas.Option.{slice_get-map, slice_get-get_or, slice_get_read, get_or_from_slice_get}
use Rattle.std.specs.BTreeMap.{insert_entry}
use Rattle.std.specs.List.{slice_get}
use Rattle.std.specs.Option.{option_map}
use Rattle.std.specs.Ordering.{nat_cmp}
use Rattle.std.specs.declared.option.Option.TheVariants.{None, Some}
use Rattle.tt_exec_step.specs.declared.program.Body as body
use Rattle.tt_exec_step.specs.MachineState.{Body}
use Rattle.tt_exec_step.specs.FunctionTable.{AreFunctions, AreSlots, IsGrown, body_at, body_of_place, listed, slots}
use Rattle.tt_exec_step.specs.Numbered.{extent}
use Rattle.tt_exec_step.specs.Views.{body_of}
use Rattle.tt_exec_step.proofs.Slots.{as-many, extent-put, few-listed, grown, new-slots, one-more, put-slot, put-slots}

-- no functions
pub no-functions : AreFunctions [] []
no-functions = record {
  placed =
      record {
        few = omega arith;
        within = λ k d lt. absurd (omega (arith, lt));
        apart = λ n m before below same. refl;
        many = refl;
      };
  ended = refl;
}

-- more room
zeros : (m i : ℕ) → get_or {A = ℕ} (replicate m 0) i 0 ≡ 0
zeros zero i = refl
zeros (suc m) zero = refl
zeros (suc m) (suc i) = zeros m i

past : (ps : List ℕ) (m i : ℕ) → length ps ≤ i → get_or (ps ++ replicate m 0) i 0 ≡ 0
past ps m i le = get_or-append_right ps (replicate m 0) (length ps) i 0 refl le ∙ zeros m (i - length ps)

no-bodies : (bs : List Body) (m : ℕ) → slots (replicate m 0) bs ≡ replicate m None
no-bodies bs zero = refl
no-bodies bs (suc m) = rw (no-bodies bs m) refl

same-list : (ps : List ℕ) (bs : List Body) (m : ℕ) → listed (ps ++ replicate m 0) bs ≡ listed ps bs
same-list ps bs m =
    rw (map-append (body_of_place bs) ps (replicate m 0), no-bodies bs m) (grown 0 m (slots ps bs))

place-within : (ps : List ℕ) (m n : ℕ) → All (λ p. p ≤ n) ps → All (λ p. p ≤ n) (ps ++ replicate m 0)
place-within ps m n all k d lt =
    elim (cases_lt k (length ps)) [
      | inl below ↦ rw (get_or_append_left ps (replicate m 0) d k below) (all k d below)
      | inr above ↦
          let count : k < length ps + m = simp (length-append, length-replicate) at lt in
          let rest : k - length ps < m = omega arith in
          let none = get_or-replicate m (k - length ps) 0 d rest in
          rw (get_or-append_right ps (replicate m 0) (length ps) k d refl above, none) (omega arith)
    ]

grown-apart : (ps : List ℕ) (m : ℕ)
    → ((i j : ℕ) → i < j → j < length ps → get_or ps i 0 ≡ get_or ps j 0 → get_or ps i 0 ≡ 0)
    → (i j : ℕ) → i < j → get_or (ps ++ replicate m 0) i 0 ≡ get_or (ps ++ replicate m 0) j 0
    → get_or (ps ++ replicate m 0) i 0 ≡ 0
grown-apart ps m apart i j before same =
    elim (cases_lt j (length ps)) [
      | inl below ↦
          let low : i < length ps = omega arith in
          let left = get_or_append_left ps (replicate m 0) 0 i low in
          let right = get_or_append_left ps (replicate m 0) 0 j below in
          left ∙ apart i j before below (sym left ∙ same ∙ right)
      | inr above ↦ same ∙ past ps m j above
    ]

grown-are : (ps qs : List ℕ) (bs : List Body) → AreSlots ps bs → IsGrown ps qs → length qs ≤ 65536
    → AreSlots qs bs × (listed qs bs ≡ listed ps bs)
grown-are ps qs bs are (m, is) few =
    let list = same-list ps bs m in (
      record {
        few = few;
        within = rw is (place-within ps m (length bs) are.within);
        apart = rw is (λ i j before below same. grown-apart ps m are.apart i j before same);
        many = rw (is, list) are.many;
      },
      rw is list,
    )

-- places with room for a number, up to the greatest
pub record HaveRoom (n : ℕ) (ps qs : List ℕ) (bs : List Body) : Type 0 where
  pub placed : AreSlots qs bs
  pub same : listed qs bs ≡ listed ps bs
  pub places : length qs ≡ max (n + 1) (extent (listed qs bs))

pub room-made : (ps qs : List ℕ) (xs ys : List body.Body) (n : ℕ) → AreFunctions ps (map body_of xs) → ys ≡ xs
    → IsGrown ps qs → length qs ≤ 65536 → length qs ≡ max (n + 1) (length ps) → HaveRoom n ps qs (map body_of ys)
room-made ps qs xs ys n are same grown_to few all =
    let (placed, list) = grown-are ps qs (map body_of xs) are.placed grown_to few in
    let now : extent (listed qs (map body_of xs)) ≡ length ps = ap extent list ∙ sym are.ended in
    rw same (record { placed = placed; same = list; places = all ∙ ap (max (n + 1)) (sym now) })

slot-at : (ps : List ℕ) (bs : List Body) (n : ℕ) → n < length ps
    → slice_get (slots ps bs) n ≡ Some (body_of_place bs (get_or ps n 0))
slot-at ps bs n lt =
    slice_get-map (body_of_place bs) ps n ∙ ap (option_map (body_of_place bs)) (slice_get-get_or ps n 0 lt)

-- another body in a place
others-apart : (ps : List ℕ) (bs : List Body) (n q : ℕ) → AreSlots ps bs → n < length ps → get_or ps n 0 ≡ suc q
    → (k : ℕ) → k < length ps → k ≢ n → get_or ps k 0 ≢ suc q
others-apart ps bs n q are lt is k below ne same =
    elim (cases_lt k n) [
      | inl before ↦ absurd (omega (arith, same, are.apart k n before lt (same ∙ sym is)))
      | inr after ↦
          let later : n < k = omega (arith, ne) in
          absurd (omega (arith, is, are.apart n k later below (is ∙ sym same)))
    ]

put-again : (ps : List ℕ) (bs : List Body) (b : Body) (n q : ℕ) → AreSlots ps bs → n < length ps
    → get_or ps n 0 ≡ suc q
    → AreSlots ps (set bs q b) × (listed ps (set bs q b) ≡ insert_entry nat_cmp (listed ps bs) n b)
put-again ps bs b n q are lt is =
    let within : q < length bs = omega (arith, is, are.within n 0 lt) in
    let put = put-slots ps bs b n q lt within is (others-apart ps bs n q are lt is) in
    let some : n < length (slots ps bs) = rw length-map lt in
    let had : slice_get (slots ps bs) n ≡ Some (Some (get_or bs q b)) =
    slot-at ps bs n lt ∙ rw is (ap Some (slice_get-get_or bs q b within)) in
    let many = as-many 0 n b (get_or bs q b) (slots ps bs) some had in (
      record {
        few = are.few;
        within = rw length-set are.within;
        apart = are.apart;
        many = rw (put, length-set) (many ∙ are.many);
      },
      rw put (put-slot n 0 n b (slots ps bs) some (omega arith)),
    )

-- a new body
apart-still : (ps : List ℕ) (n most : ℕ) → All (λ p. p ≤ most) ps → n < length ps
    → ((i j : ℕ) → i < j → j < length ps → get_or ps i 0 ≡ get_or ps j 0 → get_or ps i 0 ≡ 0)
    → (i j : ℕ) → i < j → j < length ps → get_or (set ps n (most + 1)) i 0 ≡ get_or (set ps n (most + 1)) j 0
    → get_or (set ps n (most + 1)) i 0 ≡ 0
apart-still ps n most all lt apart i j before below same =
    elim (cases_eq i n) [
      | inl first ↦
          let ne : j ≢ n = omega (arith, first) in
          let at : get_or (set ps n (most + 1)) i 0 ≡ most + 1 = rw first (get_or-set_same ps n (most + 1) 0 lt) in
          let other = get_or-set_other ps n j (most + 1) 0 ne in
          absurd (omega (arith, at, same, other, all j 0 below))
      | inr unlike ↦ elim (cases_eq j n) [
        | inl second ↦
            let at : get_or (set ps n (most + 1)) j 0 ≡ most + 1 = rw second (get_or-set_same ps n (most + 1) 0 lt) in
            let other = get_or-set_other ps n i (most + 1) 0 unlike in
            absurd (omega (arith, at, same, other, all i 0 (omega arith)))
        | inr apart_too ↦
            let left = get_or-set_other ps n i (most + 1) 0 unlike in
            let right = get_or-set_other ps n j (most + 1) 0 apart_too in
            left ∙ apart i j before below (sym left ∙ same ∙ right)
      ]
    ]

put-new : (ps : List ℕ) (bs : List Body) (b : Body) (n : ℕ) → AreSlots ps bs → n < length ps
    → get_or ps n 0 ≡ 0
    → AreSlots (set ps n (length bs + 1)) (bs ++ b ∷ [])
    × (listed (set ps n (length bs + 1)) (bs ++ b ∷ []) ≡ insert_entry nat_cmp (listed ps bs) n b)
put-new ps bs b n are lt is =
    let put = new-slots ps bs b n are.within in
    let some : n < length (slots ps bs) = rw length-map lt in
    let had : slice_get (slots ps bs) n ≡ Some None = slot-at ps bs n lt ∙ rw is refl in
    let many = one-more 0 n b (slots ps bs) some had in
    let count : length (bs ++ b ∷ []) ≡ length bs + 1 = length-append bs (b ∷ []) in
    let more : All (λ p. p ≤ length bs + 1) ps = λ k d below. omega (arith, are.within k d below) in (
      record {
        few = rw length-set are.few;
        within = rw count (All-set (λ p. p ≤ length bs + 1) ps n (length bs + 1) (omega arith) more);
        apart = λ i j before below same. apart-still ps n (length bs) are.within lt are.apart i j before
            (simp length-set at below) same;
        many = rw (put, count) (omega (arith, many, are.many));
      },
      rw put (put-slot n 0 n b (slots ps bs) some (omega arith)),
    )

-- the code's table, in place of the lists
there : (ps : List ℕ) (n v : ℕ) → n < length ps → v ≡ get_or ps n v → get_or ps n 0 ≡ v
there ps n v lt is = get_or_from_slice_get ps n v 0 (slice_get_read ps (length ps) n v refl lt is)

place-body : (xs : List body.Body) (p : ℕ) (b : body.Body) → p ≢ 0 → p ≤ length xs → b ≡ get_or xs (p - 1) b
    → body_of_place (map body_of xs) p ≡ Some (body_of b)
place-body xs zero b ne le is = absurd (ne refl)
place-body xs (suc q) b ne le is =
    let same : suc q - 1 ≡ q = omega arith in
    let at : b ≡ get_or xs q b = rw same at is in
    slice_get-map body_of xs q ∙ ap (option_map body_of) (slice_get_read xs (length xs) q b refl (omega arith) at)

pub read-body : (ps : List ℕ) (xs : List body.Body) (n : ℕ) (b : body.Body) → n < length ps → get_or ps n 0 ≢ 0
    → get_or ps n 0 ≤ length xs → b ≡ get_or xs (get_or ps n 0 - 1) b
    → Some (body_of b) ≡ body_at n ps (map body_of xs)
read-body ps xs n b lt ne le is =
    rw (slice_get-get_or ps n 0 lt) (sym (place-body xs (get_or ps n 0) b ne le is))

-- the places still end with the greatest number
ended-still : (ps qs : List ℕ) (bs cs : List Body) (b : Body) (n : ℕ)
    → length ps ≡ max (n + 1) (extent (listed ps bs)) → length qs ≡ length ps
    → AreSlots qs cs × (listed qs cs ≡ insert_entry nat_cmp (listed ps bs) n b)
    → AreFunctions qs cs × (listed qs cs ≡ insert_entry nat_cmp (listed ps bs) n b)
ended-still ps qs bs cs b n all same (placed, list) =
    let now : extent (listed qs cs) ≡ max (n + 1) (extent (listed ps bs)) = ap extent list ∙ extent-put n b (listed ps bs) in
    (record { placed = placed; ended = same ∙ all ∙ sym now }, list)

pub put-in-place : (ps : List ℕ) (xs : List body.Body) (b : body.Body) (n v : ℕ) → AreSlots ps (map body_of xs)
    → length ps ≡ max (n + 1) (extent (listed ps (map body_of xs))) → v ≡ get_or ps n v → 0 < v
    → AreFunctions ps (map body_of (set xs (v - 1) b))
    × (listed ps (map body_of (set xs (v - 1) b)) ≡ insert_entry nat_cmp (listed ps (map body_of xs)) n (body_of b))
put-in-place ps xs b n v are all is some =
    let lt : n < length ps = omega arith in
    let at : get_or ps n 0 ≡ suc (v - 1) = there ps n v lt is ∙ omega arith in
    let bs = map body_of xs in
    rw (map-set body_of xs (v - 1) b)
    (ended-still ps ps bs (set bs (v - 1) (body_of b)) (body_of b) n all refl (put-again ps bs (body_of b) n (v - 1) are lt at))

pub put-behind : (ps : List ℕ) (xs ys : List body.Body) (b : body.Body) (n v count : ℕ)
    → AreSlots ps (map body_of xs) → length ps ≡ max (n + 1) (extent (listed ps (map body_of xs)))
    → v ≡ get_or ps n v → v ≤ 0 → ys ≡ xs ++ b ∷ [] → count ≡ length ys
    → AreFunctions (set ps n count) (map body_of ys)
    × (listed (set ps n count) (map body_of ys) ≡ insert_entry nat_cmp (listed ps (map body_of xs)) n (body_of b))
put-behind ps xs ys b n v count are all is none pushed counted =
    let lt : n < length ps = omega arith in
    let at : get_or ps n 0 ≡ 0 = there ps n v lt is ∙ omega arith in
    let bs = map body_of xs in
    let behind : map body_of ys ≡ bs ++ body_of b ∷ [] = rw (pushed, map-append body_of xs (b ∷ [])) refl in
    let more : count ≡ length bs + 1 = rw (counted, pushed, length-map, length-append) refl in
    let same : length (set ps n (length bs + 1)) ≡ length ps = rw length-set refl in
    rw (behind, more)
    (ended-still ps (set ps n (length bs + 1)) bs (bs ++ body_of b ∷ []) (body_of b) n all same
    (put-new ps bs (body_of b) n are lt at))

pub few-bodies : (ps : List ℕ) (xs : List body.Body) → AreSlots ps (map body_of xs) → length xs ≤ 65536
few-bodies ps xs are =
    let many : length (listed ps (map body_of xs)) ≡ length xs = are.many ∙ rw length-map refl in
    let as_places : length (slots ps (map body_of xs)) ≡ length ps = rw length-map refl in
    omega (arith, many, few-listed 0 (slots ps (map body_of xs)), as_places, are.few)
