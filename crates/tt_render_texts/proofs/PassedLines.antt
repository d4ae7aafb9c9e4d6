-- A line whose front is passed over.
use Rattle.std.proofs.Common.{◌≡◌, ◌≢◌, ℕ, ◌+◌, ◌<◌, ◌≤◌, List, [], ◌∷◌, ◌++◌, length, take, drop, All, Option, Some, None, ap, sym, subst, refl, ◌∙◌, arith, append-nil, length-append, take_at, drop_at, drop-drop}
use Rattle.std.proofs.lemmas.List.Elements.{All-append, All-nil}
use Rattle.std.specs.Io.KnownBytes.{Consumes, IsAtEnd, Keeps, prepend_known}
use Rattle.tt_render_texts.specs.LineReading.{GetsMore, LosesFirst}
use Rattle.tt_render_texts.specs.Lines.{IsFirstFeed, before_feed}
use Rattle.tt_render_texts.proofs.HeldLines.{first_feed_behind, keeps_more, loses_line, loses_rest}

-- a front of the first line was passed over, and the text goes on with the held bytes and those of the source
pub record IsPassing (before left : Option (List ℕ)) (held : List ℕ) : Type 0 where
  pub front : List ℕ
  pub none : All (λ x. x ≢ 10) front
  pub some : 0 < length (front ++ held)
  pub text : Keeps before (prepend_known (front ++ held) left)

pub none_passed : (before left : Option (List ℕ)) (held : List ℕ) → 0 < length held → Keeps before (prepend_known held left)
    → IsPassing before left held
none_passed before left held some text = record { front = []; none = All-nil (λ x. x ≢ 10); some = some; text = text }

-- the line ends among the held bytes
pub passed_line : (before left : Option (List ℕ)) (held rest : List ℕ) (at : ℕ) → IsPassing before left held
    → IsFirstFeed held at → rest ≡ drop (at + 1) held → LosesFirst before (prepend_known rest left)
passed_line before left held rest at p first behind =
    let n = length p.front in
    let all = p.front ++ held in
    let front : take n all ≡ p.front = take_at p.front held n refl in
    let back : drop n all ≡ held = drop_at p.front held n refl in
    let enough : n ≤ length all = omega (arith, length-append p.front held) in
    let feed : IsFirstFeed all (n + at) =
    first_feed_behind n at all enough (subst (All (λ x. x ≢ 10)) (sym front) p.none)
    (subst (λ (h : List ℕ). IsFirstFeed h at) (sym back) first) in
    let place : n + (at + 1) ≡ n + at + 1 = omega arith in
    let after : rest ≡ drop (n + at + 1) all =
    behind ∙ ap (drop (at + 1)) (sym back) ∙ drop-drop (at + 1) n all ∙ ap (λ k. drop k all) place in
    (before_feed (take (n + at) all), loses_line before left all rest _ (n + at) p.text feed after refl)

-- the held bytes are passed over too, and more are held
pub passing_more : (before left after : Option (List ℕ)) (held new : List ℕ) (n : ℕ) → IsPassing before left held
    → All (λ x. x ≢ 10) held → GetsMore [] new left after n → IsPassing before after new
passing_more before left after held new n p none more =
    let front = p.front ++ held in
    let same : new ≡ more.0 = more.2 in
    let gets : GetsMore front (front ++ new) left after n = (more.0, more.1, ap (λ l. front ++ l) same, more.3) in
    record {
      front = front;
      none = All-append (λ x. x ≢ 10) p.front held p.none none;
      some = omega (arith, length-append front new, p.some);
      text = keeps_more before left after front (front ++ new) n p.text gets;
    }

-- no more came: the line ends with the text
pub passed_rest : (before left after : Option (List ℕ)) (held new : List ℕ) (n : ℕ) → IsPassing before left held
    → All (λ x. x ≢ 10) held → GetsMore [] new left after n → n ≡ 0 → IsAtEnd after
    → LosesFirst before (prepend_known new after)
unfolding passing_more
passed_rest before left after held new n p none more nothing end =
    let front = p.front ++ held in
    let empty : new ≡ [] = none_more more.0 (omega (arith, more.1, nothing)) more.2 in
    let later = passing_more before left after held new n p none more in
    let text : Keeps before (prepend_known front after) =
    subst (λ (h : List ℕ). Keeps before (prepend_known h after)) (ap (λ l. front ++ l) empty ∙ append-nil front) later.text in
    (front, loses_rest before after front new front text later.none p.some end empty refl)
  where
    none_more : (bytes : List ℕ) → length bytes ≡ 0 → new ≡ bytes → new ≡ []
    none_more [] none is = is
    none_more (b ∷ bytes) none is = absurd (omega (arith, none))
