-- Lemmas for callers about `specs/Kept.antt`: a fact of each glyph holds of those that fit.
use Rattle.std.proofs.Common.{◌≡◌, refl, ℕ, ◌-◌, ◌<◌, ◌≤◌, nat_eq, nat_le, Bool, true, false, cond, List, [], ◌∷◌, Some, ◌⊎◌, inl, inr, subst, sym, eqb-true, leb-false, leb-true}
use Rattle.std.specs.List.{All}
use Rattle.std.specs.Map.{lookup, remove_entry}
use Rattle.std.proofs.lemmas.List.Elements.{All-cons, All-head, All-tail, All-take}
use Rattle.lru.proofs.CallerLemmas.{Contains-lookup}
use Rattle.tt_strike_kept.specs.Glyph.{KeptGlyph}
use Rattle.tt_strike_kept.specs.Kept.{Kept, bytes_of, fitting}
use Rattle.tt_strike_kept.proofs.Fitting.{fitting_is_part}

module _ (P : ℕ × KeptGlyph → Type 0) where
  pub all_fitting : (room : ℕ) (es : List (ℕ × KeptGlyph)) → All P es → All P (fitting room es)
  all_fitting room es all =
      let part = fitting_is_part room es in
      subst (All P) (sym part.1) (All-take P part.0 es all)

  pub all_without : (test : ℕ → Bool) (es : List (ℕ × KeptGlyph)) → All P es → All P (remove_entry test es)
  all_without test [] all = all
  all_without test (e ∷ es) all =
      elim (test e.0) as (λ passes. All P (cond passes es (e ∷ remove_entry test es))) [
        | true ↦ All-tail P e es all
        | false ↦ All-cons P e (remove_entry test es) (All-head P e es all) (all_without test es (All-tail P e es all))
      ]

  -- after `keep`
  pub all_kept : (old new : Kept) (number : ℕ) (g : KeptGlyph)
      → (old.most < bytes_of g → new ≡ old)
      → (bytes_of g ≤ old.most
      → (new.entries ≡ fitting old.most ((number, g) ∷ remove_entry (nat_eq number) old.entries))
      ⊎ (new.entries ≡ fitting (old.most - bytes_of g) (remove_entry (nat_eq number) old.entries)))
      → P (number, g) → All P old.entries → All P new.entries
  all_kept old new number g larger entries one all =
      let others = remove_entry (nat_eq number) old.entries in
      let rest = all_without (nat_eq number) old.entries all in
      (elim (nat_le (bytes_of g) old.most) as (λ fits. nat_le (bytes_of g) old.most ≡ fits → All P new.entries) [
        | true ↦ λ is. elim (entries (leb-true (bytes_of g) old.most is)) [
          | inl kept ↦ subst (All P) (sym kept)
              (all_fitting old.most ((number, g) ∷ others) (All-cons P (number, g) others one rest))
          | inr lost ↦ subst (All P) (sym lost) (all_fitting (old.most - bytes_of g) others rest)
        ]
        | false ↦ λ is. rw (larger (leb-false (bytes_of g) old.most is)) all
      ]) refl

  -- the glyph of `find`
  pub all_found : (number : ℕ) (es : List (ℕ × KeptGlyph)) (g : KeptGlyph) → All P es
      → lookup (nat_eq number) es ≡ Some g → P (number, g)
  all_found number es g all found =
      let at = Contains-lookup (nat_eq number) es g found in
      let same : number ≡ at.0 = eqb-true number at.0 at.2 in
      let element : P (at.0, g) = subst P at.1.2 (all at.1.0 (at.0, g) at.1.1) in
      subst (λ k. P (k, g)) (sym same) element
