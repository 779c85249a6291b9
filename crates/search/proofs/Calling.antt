-- What is stored in words says what becomes of the holders, the waiting clusters and the rim. Assumes nothing.
use Rattle.std.specs.Prelude.{◌≡◌, ◌≢◌, ◌⊎◌, ◌+◌, ◌*◌, ◌/◌, ◌%◌, ◌<◌}
use Rattle.theory.specs.Prelude.{ap, ◌∙◌, inl, inr, List, ℕ, arith, ℕ_discrete, get_or}
use Rattle.theory.specs.Set.{◌∈◌, ◌∩◌, ◌∪◌, at}
use Rattle.theory.specs.Set.Laws.{at-∪, at-le, ∈-∩⁻, ∈-∪ˡ, ∈-∪ʳ, out}
use Rattle.theory.specs.Set.Lowest.{at-beyond}
use Rattle.theory.specs.Merge.{Merge, Part}
use Rattle.search.specs.State.{linked, holder, beyond, Holding, Called, Gone}
use Rattle.search.specs.Words.{replaced, replaced_at, Stored, SetOf, Calls, Inner}

module _ {m : Merge} {n : ℕ} {dies stands : List ℕ} (dead : SetOf dies (λ c. Part c m)) (made : SetOf stands (λ c. c ≡ n)) where
  -- the word of c that is taken out, and that is put in
  D : ℕ → ℕ
  D c = get_or dies (c / 64) 0

  M : ℕ → ℕ
  M c = get_or stands (c / 64) 0

  -- the digit of c in a word that is replaced
  now-made : (c x : ℕ) → c < 192 → c ≡ n → c % 64 ∈ replaced (D c) (M c) x
  unfolding D M ◌∪◌
  now-made c x l e = ∈-∪ʳ (c % 64) (beyond x (D c)) (M c) (made.every c l e)

  now-kept : (c x : ℕ) → c < 192 → (Part c m → ⊥) → c % 64 ∈ x → c % 64 ∈ replaced (D c) (M c) x
  unfolding D M ◌∪◌
  now-kept c x l h e =
      let z : at (c % 64) (D c) ≡ 0 = out (c % 64) (D c) (λ i. h (dead.only c l i)) in
      ∈-∪ˡ (c % 64) (beyond x (D c)) (M c) (omega (arith, at-beyond (c % 64) x (D c)))

  now-same : (c x : ℕ) → c < 192 → c ≢ n → (Part c m → ⊥) → at (c % 64) (replaced (D c) (M c) x) ≡ at (c % 64) x
  unfolding D M ◌∪◌
  now-same c x l n h =
      let z : at (c % 64) (D c) ≡ 0 = out (c % 64) (D c) (λ i. h (dead.only c l i)) in
      let y : at (c % 64) (M c) ≡ 0 = out (c % 64) (M c) (λ i. n (made.only c l i)) in
      omega (arith, at-beyond (c % 64) x (D c), at-∪ (c % 64) (beyond x (D c)) (M c))

  now-dead : (c x : ℕ) → c < 192 → c ≢ n → Part c m → at (c % 64) (replaced (D c) (M c) x) ≡ 0
  unfolding D M ◌∪◌
  now-dead c x l n h =
      let y : at (c % 64) (M c) ≡ 0 = out (c % 64) (M c) (λ i. n (made.only c l i)) in
      omega (arith, at-beyond (c % 64) x (D c), at-∪ (c % 64) (beyond x (D c)) (M c), dead.every c l h, at-le (c % 64) x)

  pub called : {hold todo todo' : List ℕ} {o : ℕ} → Calls hold todo dies stands o todo' → Called hold todo m n o todo'
  unfolding D M
  called {hold} {todo} {todo'} {o} w = record {
    made = λ c l e. w.kept (c / 64) (c % 64) (omega arith) (now-made c (get_or todo (c / 64) 0) l e);
    kept = λ c l p e. w.kept (c / 64) (c % 64) (omega arith) (now-kept c (get_or todo (c / 64) 0) l p e);
    holders = λ z c l i e. (w.called (c / 64) (omega arith)).every z (c % 64) i e;
  }

  -- ---- the holders

  pub holding : {edge : ℕ} {hold hold' : List ℕ} → ((w : ℕ) → w < 3 → Stored (replaced_at dies stands w) (64 * w) edge hold hold')
      → Holding hold edge m n hold'
  unfolding D M
  holding {edge} {hold} {hold'} words = record {
    outside = λ p c l s o. ap (at (c % 64)) ((words (c / 64) (omega arith)).outside p s o);
    made = λ p c l i e. inside p c l i ∙ now-made c (was p c) l e;
    dead = λ p c l i e h. inside p c l i ∙ now-dead c (was p c) l e h;
    other = λ p c l i e h. inside p c l i ∙ now-same c (was p c) l e h;
  }
    where
      was : ℕ → ℕ → ℕ
      was p c = get_or hold (64 * (c / 64) + p) 0

      inside : (p c : ℕ) → c < 192 → p ∈ edge → holder hold' p c ≡ at (c % 64) (replaced (D c) (M c) (was p c))
      inside p c l i = ap (at (c % 64)) ((words (c / 64) (omega arith)).inside p i)

-- ---- the rim

pub gone_of : {links : List ℕ} {u rim g : ℕ} → Inner links (u ∩ rim) u g → Gone links u rim (beyond rim g)
gone_of {links} {u} {rim} {g} h = record {
  less = λ p e. omega (arith, at-beyond p rim g, at-le p rim);
  leaves = λ p e. leaves p e (ℕ_discrete (at p g) 1);
}
  where
    leaves : (p : ℕ) → p ∈ rim → Dec (p ∈ g) → (p ∈ beyond rim g) ⊎ ((p ∈ u) × ((r : ℕ) → r ∈ linked links p → r ∈ u))
    leaves p e (yes i) = inr ((∈-∩⁻ p u rim (h.inside p i)).0, λ r f. h.alone p r i f)
    leaves p e (no n) = inl (omega (arith, at-beyond p rim g, at-le p g, n))
