use Rattle.std.proofs.Common.{◌≡◌, ℕ, ◌+◌, ◌-◌, ◌/◌, ◌<◌, ◌≤◌, Bool, true, false, arith}
use Rattle.std.specs.Prelude.{nat_le}
use Rattle.std.proofs.lemmas.Bool.Decides.{nat_tests}
use Rattle.tt_kern.specs.Halves.{asked}
use Rattle.tt_kern.specs.Search.{is_at_least}
use Rattle.tt_kern.proofs.Halves.{all-left, room-left, goes-on, goes-back, all-found, all-read}
use Rattle.tt_kern.proofs.SearchEnds.{few-asked}
use Rattle.tt_kern.proofs.search.reach.Goals as goal

below-fails : (c e : ℕ) → e < c → nat_le c e ≡ false
below-fails c e below = grind (arith, nat_tests, below)

above-holds : (c e : ℕ) → c ≤ e → nat_le c e ≡ true
above-holds c e above = grind (arith, nat_tests, above)

pub loop-low-init : goal.loop-low-init
loop-low-init c =
    let keys = c.args.keys in
    all-left (is_at_least keys.size c.args.table.now keys.at keys.step c.args.key) keys.count c.args.reads.now

pub key_at-requires : goal.key_at-requires
key_at-requires c =
    let keys = c.args.keys in
    let passes : ℕ → Bool = is_at_least keys.size c.args.table.now keys.at keys.step c.args.key in
    let few = few-asked passes keys.count 16 (omega (arith, c.requires.count)) in
    room-left passes keys.count c.loop-low.low c.loop-low.high c.loop-low.reads c.args.reads.now c.loop-low.invariant
    c.loop-low-test.true few c.requires.room

pub loop-low-preserved-then-key_at-key : goal.loop-low-preserved-then-key_at-key
loop-low-preserved-then-key_at-key c =
    let keys = c.args.keys in
    let passes : ℕ → Bool = is_at_least keys.size c.args.table.now keys.at keys.step c.args.key in
    let fails : passes (c.loop-low.low + (c.loop-low.high - c.loop-low.low) / 2) ≡ false
    = below-fails c.args.key _ (rw (c.key_at.ensures.exact, c.product.ensures.exact) at c.if-key_at-key.true) in
    rw c.key_at.ensures.count (goes-on passes keys.count c.loop-low.low c.loop-low.high c.loop-low.reads
    (c.args.reads.now + asked keys.count passes) c.loop-low.invariant c.loop-low-test.true fails)

pub loop-low-preserved : goal.loop-low-preserved
loop-low-preserved c =
    let keys = c.args.keys in
    let passes : ℕ → Bool = is_at_least keys.size c.args.table.now keys.at keys.step c.args.key in
    let holds : passes (c.loop-low.low + (c.loop-low.high - c.loop-low.low) / 2) ≡ true
    = above-holds c.args.key _ (rw (c.key_at.ensures.exact, c.product.ensures.exact) at c.if-key_at-key.false) in
    rw c.key_at.ensures.count (goes-back passes keys.count c.loop-low.low c.loop-low.high c.loop-low.reads
    (c.args.reads.now + asked keys.count passes) c.loop-low.invariant c.loop-low-test.true holds)

pub returns-clause-exact : goal.returns-clause-exact
returns-clause-exact c =
    let keys = c.args.keys in
    let passes : ℕ → Bool = is_at_least keys.size c.args.table.now keys.at keys.step c.args.key in
    all-found passes keys.count c.loop-low.low c.loop-low.high c.loop-low.reads
    (c.args.reads.now + asked keys.count passes) c.loop-low.invariant (omega (arith, c.loop-low-test.false))

pub returns-clause-count : goal.returns-clause-count
returns-clause-count c =
    let keys = c.args.keys in
    let passes : ℕ → Bool = is_at_least keys.size c.args.table.now keys.at keys.step c.args.key in
    all-read passes keys.count c.loop-low.low c.loop-low.high c.loop-low.reads
    (c.args.reads.now + asked keys.count passes) c.loop-low.invariant (omega (arith, c.loop-low-test.false))

pub returns-clause-few : goal.returns-clause-few
returns-clause-few c =
    let keys = c.args.keys in
    let passes : ℕ → Bool = is_at_least keys.size c.args.table.now keys.at keys.step c.args.key in
    let few = few-asked passes keys.count 16 (omega (arith, c.requires.count)) in
    let count : c.loop-low.reads ≡ c.args.reads.now + asked keys.count passes = returns-clause-count c in
    omega (arith, count, few)
