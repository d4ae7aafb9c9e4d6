-- Bands painted one after the other.
use Rattle.std.proofs.Common.{◌≡◌, ◌∙◌, sym, ap, refl, Bool, true, false, ◌||◌}
use Rattle.tt_bitmap.specs.Bands.{column}
use Rattle.tt_bitmap.specs.Laws.{OrderChangesNothing, PaintingIsOr, TwiceIsOnce}
use Rattle.tt_bitmap.proofs.Bands.{painted_over}

pub united : PaintingIsOr
united bytes rows f g old mid new one two = painted_over bytes rows f g (λ i c. f i c || g i c) old mid new one two (λ i c below. refl)

exchanged : (b x y : Bool) → ((b || x) || y) ≡ ((b || y) || x)
exchanged true x y = refl
exchanged false true true = refl
exchanged false true false = refl
exchanged false false true = refl
exchanged false false false = refl

pub either_order : OrderChangesNothing
either_order bytes rows f g old f_first both g_first other one two three four = λ i c below inside.
    two.columns i c below inside ∙ ap (λ (b : Bool). b || g i c) (one.columns i c below inside)
    ∙ exchanged (column bytes old i c) (f i c) (g i c)
    ∙ sym (four.columns i c below inside ∙ ap (λ (b : Bool). b || f i c) (three.columns i c below inside))

again : (b x : Bool) → ((b || x) || x) ≡ (b || x)
again true x = refl
again false true = refl
again false false = refl

pub once_more : TwiceIsOnce
once_more bytes rows f old once twice one two = λ i c below inside.
    two.columns i c below inside ∙ ap (λ (b : Bool). b || f i c) (one.columns i c below inside)
    ∙ again (column bytes old i c) (f i c) ∙ sym (one.columns i c below inside)
