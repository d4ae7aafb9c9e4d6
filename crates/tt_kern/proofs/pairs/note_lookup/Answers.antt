use Rattle.std.proofs.Common.{◌≡◌, ◌+◌, sym, ◌∙◌, arith, add-one}
use Rattle.tt_kern.specs.Pairs.{pair_place, subtable_place}
use Rattle.tt_kern.specs.Reads.{place_reads, places_reads}
use Rattle.tt_kern.specs.Words.{word}
use Rattle.tt_kern.proofs.Lists.{kept}
use Rattle.tt_kern.proofs.PairLists.{one-more, none-more}
use Rattle.tt_kern.proofs.pairs.note_lookup.Goals.{in-Some, in_default}
use Rattle.tt_kern.proofs.pairs.note_lookup.Goals as goal

pub loop-k-init : goal.loop-k-init
loop-k-init c = record {
  noted = sym (kept 64 c.args.pairs.now c.requires.listed);
  few = c.subtable_count-k-end.ensures.bound;
  read = omega (arith, c.word-lookup_type.ensures.count, c.subtable_count-k-end.ensures.count);
  reads_few = omega (arith, c.word-lookup_type.ensures.count, c.subtable_count-k-end.ensures.count);
}

pub loop-k-preserved : goal.loop-k-preserved
loop-k-preserved c =
    let at = c.loop-k in
    let b = c.args.table.now in
    let lookup = c.args.lookup in
    let place : c.pair_place.result ≡ pair_place c.args.table.now c.args.lookup at.k
    = rw (c.word-lookup_type.ensures.exact, c.word.ensures.exact) at c.pair_place.ensures.exact in
    let each : c.pair_place.new.reads
    ≡ c.word.new.reads + place_reads (word b lookup) b (subtable_place b lookup at.k)
    = rw (c.word-lookup_type.ensures.exact, c.word.ensures.exact) at c.pair_place.ensures.count in
    let read : c.pair_place.new.reads ≡ c.args.reads.now + 2 + places_reads b lookup (at.k + 1)
    = rw (add-one at.k) (omega (arith, at.invariant.read, c.word.ensures.count, each)) in
    elim c.match-pair_place.branch [
      | in-Some w ↦
          let there = sym place ∙ w.in-Some.is in
          record {
            noted = rw w.pairs-is (w.note.ensures ∙ one-more c.args.table.now c.args.i c.args.lookup at.k w.in-Some.at c.args.pairs.now at.pairs at.invariant.noted there);
            few = at.invariant.few;
            read = read;
            reads_few = omega (arith, at.invariant.reads_few, c.word.ensures.count, c.pair_place.ensures.few);
          }
      | in_default w ↦
          let there = sym place ∙ w.in_default.is in
          record {
            noted = rw w.pairs-is (none-more c.args.table.now c.args.i c.args.lookup at.k c.args.pairs.now at.pairs at.invariant.noted there);
            few = at.invariant.few;
            read = read;
            reads_few = omega (arith, at.invariant.reads_few, c.word.ensures.count, c.pair_place.ensures.few);
          }
    ]

pub returns-clause-exact : goal.returns-clause-exact
returns-clause-exact c =
    let at = c.loop-k in
    let end : at.k ≡ c.subtable_count-k-end.result = omega (arith, c.loop-k-test.false, at.auto.k-end) in
    rw (← c.subtable_count-k-end.ensures.exact, ← end) at.invariant.noted

pub returns-clause-count : goal.returns-clause-count
returns-clause-count c =
    let at = c.loop-k in
    let end : at.k ≡ c.subtable_count-k-end.result = omega (arith, c.loop-k-test.false, at.auto.k-end) in
    rw (← c.subtable_count-k-end.ensures.exact, ← end) at.invariant.read
