-- `account::put_pair` meets its contract: nothing of a dead cluster, else its two words. Assumes nothing.
use Rattle.std.specs.Prelude.{◌≡◌, ◌≢◌, ◌∷◌}
use Rattle.theory.specs.Prelude.{rules, refl, sym, ap, [], ℕ, zero, suc}
use Rattle.space.specs.Space.Laws.{put-none, put_as, ◌then◌}
use Rattle.account.specs.Resting.Pairs.{pairs_in}
use Rattle.account.proofs.put_pair.Goals as goal

dead : (x l h : ℕ) → x ≡ 0 → pairs_in (x ∷ []) (l ∷ []) (h ∷ []) ≡ []
unfolding pairs_in
dead x l h e = ap (λ (x : ℕ). pairs_in (x ∷ []) (l ∷ []) (h ∷ [])) e

living : (x l h : ℕ) → x ≢ 0 → pairs_in (x ∷ []) (l ∷ []) (h ∷ []) ≡ l ∷ h ∷ []
unfolding pairs_in
living zero l h n = absurd (n refl)
living (suc x) l h n = refl

pub returns-then-x-eq0 : goal.returns-then-x-eq0
returns-then-x-eq0 c = (put_as (sym (dead _ _ _ c.if-x-eq0.true)) (put-none _ _), search rules)

pub returns : goal.returns
returns c = let high = c in
    let low = high in
    let put = low.put_item-a1.ensures then high.put_item.ensures in
    (put_as (sym (living _ _ _ low.if-x-eq0.false)) put, search rules)
