use Rattle.std.proofs.Common.{◌≡◌, ◌+◌, ◌/◌, ◌≤◌, length}
use Rattle.tt_arc.specs.Chords.{AreDifferences, EdgeEndFits, along_x, along_y, chord_count, chord_end, first_chords, sixteenfold}
use Rattle.tt_arc.specs.Added.{AreAdded}
use Rattle.tt_arc.proofs.exact.push_exact.Given as goal

abbrev pub invariant-loop-k : goal.invariant-loop-k
invariant-loop-k l = record {
  added : AreAdded l.fn.rule l.fn.list.edges l.fn.last (first_chords (chord_count l.fn.rule l.fn.curve) l.fn.curve l.k) l.list.edges l.last;
  room : length l.list.edges + l.fn.n ≤ l.list.capacity + l.k;
  x : AreDifferences (along_x l.fn.curve) (32 / chord_count l.fn.rule l.fn.curve) l.k (sixteenfold l.x);
  y : AreDifferences (along_y l.fn.curve) (32 / chord_count l.fn.rule l.fn.curve) l.k (sixteenfold l.y);
  from : l.from ≡ chord_end (chord_count l.fn.rule l.fn.curve) l.fn.curve l.k;
  fits : EdgeEndFits l.from;
}
