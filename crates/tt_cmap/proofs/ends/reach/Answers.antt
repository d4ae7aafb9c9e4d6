use Rattle.std.proofs.Common.{◌≡◌, ℕ, ◌+◌, ◌-◌, ◌/◌, ◌<◌, ◌≤◌, Bool, true, false, arith, subst}
use Rattle.std.specs.Prelude.{nat_le}
use Rattle.std.proofs.lemmas.Bool.Decides.{nat_tests}
use Rattle.tt_cmap.specs.Halves.{asked, reached}
use Rattle.tt_cmap.proofs.Halves.{few-asked, room-left, goes-on, goes-back, all-found, all-read}
use Rattle.tt_cmap.proofs.ends.reach.Goals as goal

below-fails : (c e : ℕ) → e < c → nat_le c e ≡ false
below-fails c e below = grind (arith, nat_tests, below)

above-holds : (c e : ℕ) → c ≤ e → nat_le c e ≡ true
above-holds c e above = grind (arith, nat_tests, above)

pub end-requires-clause-room : goal.end-requires-clause-room
end-requires-clause-room g c =
    let passes : ℕ → Bool = λ i. nat_le c.args.c (g.E.RangeEnds.end_of c.args.ends.now i) in
    room-left passes (c.args.c ≤ g.E.RangeEnds.most_end c.args.ends.now) c.count-count.result c.loop-low.low c.loop-low.high
    c.loop-low.reads c.args.reads.now 24 c.loop-low.invariant (few-asked passes c.count-count.result 24 c.count-count.ensures.few)
    (omega arith) c.requires.room

pub loop-low-preserved-then-end-c : goal.loop-low-preserved-then-end-c
loop-low-preserved-then-end-c g c =
    let passes : ℕ → Bool = λ i. nat_le c.args.c (g.E.RangeEnds.end_of c.args.ends.now i) in
    let fails : passes (c.loop-low.low + (c.loop-low.high - c.loop-low.low) / 2) ≡ false
    = below-fails c.args.c _ (rw c.end.ensures.exact at c.if-end-c.true) in
    rw c.end.ensures.count (goes-on passes (c.args.c ≤ g.E.RangeEnds.most_end c.args.ends.now) c.count-count.result c.loop-low.low
    c.loop-low.high c.loop-low.reads (c.args.reads.now + asked passes 0 c.count-count.result) c.loop-low.invariant
    c.loop-low-test.true fails)

pub loop-low-preserved : goal.loop-low-preserved
loop-low-preserved g c =
    let passes : ℕ → Bool = λ i. nat_le c.args.c (g.E.RangeEnds.end_of c.args.ends.now i) in
    let reached : c.args.c ≤ c.end.result = omega (arith, c.if-end-c.false) in
    let holds : passes (c.loop-low.low + (c.loop-low.high - c.loop-low.low) / 2) ≡ true
    = above-holds c.args.c _ (rw c.end.ensures.exact at reached) in
    rw c.end.ensures.count (goes-back passes (c.args.c ≤ g.E.RangeEnds.most_end c.args.ends.now) c.count-count.result c.loop-low.low
    c.loop-low.high c.loop-low.reads (c.args.reads.now + asked passes 0 c.count-count.result) c.loop-low.invariant
    c.loop-low-test.true holds (omega (arith, reached, c.end.ensures.most)))

pub returns-clause-exact : goal.returns-clause-exact
returns-clause-exact g c =
    let passes : ℕ → Bool = λ i. nat_le c.args.c (g.E.RangeEnds.end_of c.args.ends.now i) in
    let P : ℕ → Type 0 = λ n. c.loop-low.low ≡ reached n passes in
    subst P c.count-count.ensures.exact
    (all-found passes (c.args.c ≤ g.E.RangeEnds.most_end c.args.ends.now) c.count-count.result c.loop-low.low
    c.loop-low.high c.loop-low.reads (c.args.reads.now + asked passes 0 c.count-count.result) c.loop-low.invariant
    (omega (arith, c.loop-low-test.false)))

pub returns-clause-count : goal.returns-clause-count
returns-clause-count g c =
    let passes : ℕ → Bool = λ i. nat_le c.args.c (g.E.RangeEnds.end_of c.args.ends.now i) in
    let P : ℕ → Type 0 = λ n. c.loop-low.reads ≡ c.args.reads.now + asked passes 0 n in
    subst P c.count-count.ensures.exact
    (all-read passes (c.args.c ≤ g.E.RangeEnds.most_end c.args.ends.now) c.count-count.result c.loop-low.low
    c.loop-low.high c.loop-low.reads (c.args.reads.now + asked passes 0 c.count-count.result) c.loop-low.invariant
    (omega (arith, c.loop-low-test.false)))

pub returns-clause-few : goal.returns-clause-few
returns-clause-few g c =
    let passes : ℕ → Bool = λ i. nat_le c.args.c (g.E.RangeEnds.end_of c.args.ends.now i) in
    few-asked passes (g.E.RangeEnds.count_of c.args.ends.now) (g.E.RangeEnds.most_asked c.args.ends.now)
    (rw c.count-count.ensures.exact at c.count-count.ensures.bound)
