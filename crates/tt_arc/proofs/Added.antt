-- Edges added to those of a contour, and joined where they can be.
use Rattle.std.proofs.Common.{◌≡◌, ◌∙◌, sym, refl, ap, ℕ, ◌+◌, List, [], ◌∷◌, ◌++◌, append_assoc}
use Rattle.std.specs.Prelude.{Option, None}
use Rattle.tt_scan_edges.specs.declared.edge.Edge.{Edge}
use Rattle.tt_arc.specs.declared.quadratic.Quadratic.{Quadratic}
use Rattle.tt_arc.specs.declared.quadratic.EdgeEnd.{EdgeEnd}
use Rattle.tt_arc.specs.declared.rule.ChordRule.{ChordRule}
use Rattle.tt_arc.specs.declared.rule.ChordRule.TheVariants as rule
use Rattle.tt_arc.specs.Chords.{chord_end, edge_between, first_chords, joined_by}
use Rattle.tt_arc.specs.Added.{AreAdded, joined_behind}
use Rattle.tt_arc.proofs.Places.{one_chord_more}

-- edges behind edges
more_added : (r : ChordRule) (a b c : List Edge) (first middle last : Option Edge) (es fs : List Edge) → AreAdded r a first es b middle
    → AreAdded r b middle fs c last → AreAdded r a first (es ++ fs) c last
more_added r a b c first middle last es fs one two more =
    two more ∙ one (fs ++ more) ∙ ap (λ gs. a ++ joined_behind r first gs) (sym (append_assoc es fs more))

-- the chords of a quadratic
pub none_yet : (r : ChordRule) (done : List Edge) (last : Option Edge) (n : ℕ) (c : Quadratic) → AreAdded r done last (first_chords n c 0) done last
unfolding first_chords
none_yet r done last n c more = refl

pub one_chord_added : (r : ChordRule) (a b d : List Edge) (first middle last : Option Edge) (n : ℕ) (c : Quadratic) (k : ℕ) (from to : EdgeEnd) (e : Edge)
    → AreAdded r a first (first_chords n c k) b middle → from ≡ chord_end n c k → to ≡ chord_end n c (k + 1)
    → e ≡ edge_between from to → AreAdded r b middle (e ∷ []) d last → AreAdded r a first (first_chords n c (k + 1)) d last
one_chord_added r a b d first middle last n c k from to e before is_from is_to is_e after =
    let is : e ≡ edge_between (chord_end n c k) (chord_end n c (k + 1)) = rw (is_e, is_from, is_to) refl in
    rw (one_chord_more n c k, ← is) (more_added r a b d first middle last (first_chords n c k) (e ∷ []) before after)

-- the edges of a contour
pub behind_none : (r : ChordRule) (es : List Edge) → joined_behind r None es ≡ joined_by r es
behind_none rule.Eight es = refl
behind_none rule.ByBend es = refl
