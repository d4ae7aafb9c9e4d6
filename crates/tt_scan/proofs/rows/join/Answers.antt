use Rattle.std.proofs.Common.{◌≡◌, ◌⊎◌, inl, inr, true, false, ◌&&◌, ◌∙◌, SFits, w32, rules, arith}
use Rattle.std.specs.Prelude.{ℤ, ◌≤ℤ◌, ◌<ℤ◌, int_lt, int_le}
use Rattle.std.specs.Int.{int_min, int_max}
use Rattle.std.proofs.lemmas.Int.{ints, clamps, by_lt_z, to_z-of_z}
use Rattle.tt_scan.proofs.rows.join.Goals as goal

below : (a b : ℤ) → int_le b a ≡ false → a <ℤ b
below a b out = by_lt_z a b (λ under. under) (λ over. absurd (grind (arith, ints)))

-- a row of a range is one of a longer range
longer : (a b low high row : ℤ) → low ≤ℤ a → b ≤ℤ high → (int_le a row && int_lt row b) ≡ true
    → (int_le low row && int_lt row high) ≡ true
longer a b low high row from to within = grind (arith, ints)

lesser : (a b : ℤ) → (int_min a b ≡ a) ⊎ (int_min a b ≡ b)
lesser a b = by_lt_z a b (λ less. inl (omega (arith, ints, clamps))) (λ more. inr (omega (arith, ints, clamps)))

greater : (a b : ℤ) → (int_max a b ≡ a) ⊎ (int_max a b ≡ b)
greater a b = by_lt_z a b (λ less. inr (omega (arith, ints, clamps))) (λ more. inl (omega (arith, ints, clamps)))

-- neither range is empty, and the result runs from the lesser beginning to the greater end
record Known (c : goal.After-max) : Type 0 where
  low : c.min.result ≡ int_min c.args.all.now.0 c.args.more.0
  high : c.max.result ≡ int_max c.args.all.now.1 c.args.more.1
  all : c.args.all.now.0 <ℤ c.args.all.now.1
  more : c.args.more.0 <ℤ c.args.more.1

known : (c : goal.After-max) → Known c
known c =
    let a : SFits w32 c.args.all.now.0 = search rules in
    let b : SFits w32 c.args.all.now.1 = search rules in
    let m : SFits w32 c.args.more.0 = search rules in
    let n : SFits w32 c.args.more.1 = search rules in
    record {
      low = simp to_z-of_z at c.min.ensures.value;
      high = simp to_z-of_z at c.max.ensures.value;
      all = below c.args.all.now.0 c.args.all.now.1 (simp to_z-of_z at c.if-all.false);
      more = below c.args.more.0 c.args.more.1 (simp to_z-of_z at c.if-more.false);
    }

pub returns-clause-left : goal.returns-clause-left
returns-clause-left c = λ row within.
    let low : SFits w32 c.min.result = search rules in
    let high : SFits w32 c.max.result = search rules in
    let k = known c in
    simp to_z-of_z (longer c.args.all.now.0 c.args.all.now.1 c.min.result c.max.result row
    (rw k.low (omega (arith, ints, clamps))) (rw k.high (omega (arith, ints, clamps))) within)

pub returns-clause-right : goal.returns-clause-right
returns-clause-right c = λ row within.
    let low : SFits w32 c.min.result = search rules in
    let high : SFits w32 c.max.result = search rules in
    let k = known c in
    simp to_z-of_z (longer c.args.more.0 c.args.more.1 c.min.result c.max.result row
    (rw k.low (omega (arith, ints, clamps))) (rw k.high (omega (arith, ints, clamps))) within)

pub returns-clause-first : goal.returns-clause-first
returns-clause-first c =
    let low : SFits w32 c.min.result = search rules in
    let k = known c in
    simp to_z-of_z (elim (lesser c.args.all.now.0 c.args.more.0) [
      | inl is ↦ inl (k.low ∙ is, λ _. k.all)
      | inr is ↦ inr (k.low ∙ is, k.more)
    ])

pub returns-clause-last : goal.returns-clause-last
returns-clause-last c =
    let high : SFits w32 c.max.result = search rules in
    let k = known c in
    simp to_z-of_z (elim (greater c.args.all.now.1 c.args.more.1) [
      | inl is ↦ inl (k.high ∙ is, λ _. k.all)
      | inr is ↦ inr (k.high ∙ is, k.more)
    ])

pub returns-clause-order : goal.returns-clause-order
returns-clause-order c = λ _.
    let low : SFits w32 c.min.result = search rules in
    let high : SFits w32 c.max.result = search rules in
    let k = known c in
    simp to_z-of_z (rw (k.low, k.high) (omega (arith, ints, clamps)))
