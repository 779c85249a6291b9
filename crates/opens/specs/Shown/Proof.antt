-- What is shown of the list of open merges holds of every graph that is not over. Assumes nothing.
use Rattle.std.specs.Prelude.{◌≤◌, ◌<◌, ◌≡◌, ◌≢◌, ◌⊎◌, ◌∷◌}
use Rattle.theory.specs.Prelude.{ℕ, zero, suc, arith, dec_lt, refl, sym, ap, ◌∙◌, subst, inl, inr, List, [], map, length}
use Rattle.theory.specs.Prelude.{take, length-map}
use Rattle.theory.specs.Constraints.{Pairs, NotOver}
use Rattle.theory.specs.Merge.{Merge, OpenAt, three, joint, put, Valid, Ended, final}
use Rattle.theory.specs.Merge.Count.{steps_most}
use Rattle.theory.specs.Merge.Numbered.{alive-lt}
use Rattle.theory.specs.Plan.{plan_of, ascending, NotAfter}
use Rattle.theory.specs.Plan.Order.{open-ascending, ascends}
use Rattle.theory.specs.Plan.Laws.{plan-valid, plan-ended, plan-of-is}
use Rattle.theory.specs.Graph.{Graph}
use Rattle.graph.specs.Lent.{Sound}
use Rattle.graph.specs.Lent.Sheets.{fine-few}
use Rattle.merges.specs.Run.Laws.{length-final}
use Rattle.opens.specs.Opens.{lowest, open_after}
use Rattle.opens.specs.Opens.Order.{Up, more, up_least, span-up}
use Rattle.opens.specs.Opens.Laws.{Listed, OpenUp, number, key_of, listed-open, open-listed, key-among, among-key, opens-span}
use Rattle.opens.specs.Opens.Low.{lowest-low, lowest-is}
use Rattle.opens.specs.Opens.Most.{keys-few}
use Rattle.opens.specs.Shown.{IsLowest, Before, Ordered, clusters_after, Shown}

-- ---- the order

-- numbers of four digits, compared place by place
places : {v i j k w x y z : ℕ} → i < 256 → j < 256 → k < 256 → x < 256 → y < 256 → z < 256 → number v i j k < number w x y z
    → (v < w) ⊎ ((v ≡ w) × ((i < x) ⊎ ((i ≡ x) × ((j < y) ⊎ ((j ≡ y) × (k ≤ z))))))
places {v} {i} {j} {k} {w} {x} {y} {z} a b c d e f h = by-v (dec_lt v w)
  where
    by_j : v ≡ w → i ≡ x → Dec (j < y) → (j < y) ⊎ ((j ≡ y) × (k ≤ z))
    by_j p q (yes l) = inl l
    by_j p q (no n) = inr (omega arith, omega arith)

    by_i : v ≡ w → Dec (i < x) → (i < x) ⊎ ((i ≡ x) × ((j < y) ⊎ ((j ≡ y) × (k ≤ z))))
    by_i p (yes l) = inl l
    by_i p (no n) = let q : i ≡ x = omega arith in inr (q, by_j p q (dec_lt j y))

    by-v : Dec (v < w) → (v < w) ⊎ ((v ≡ w) × ((i < x) ⊎ ((i ≡ x) × ((j < y) ⊎ ((j ≡ y) × (k ≤ z))))))
    by-v (yes l) = inl l
    by-v (no n) = let p : v ≡ w = omega arith in inr (p, by_i p (dec_lt i x))

small : {s : List ℕ} → length s ≤ 256 → {m : Merge} → OpenUp s m → (m.i < 256) × (m.j < 256) × (m.k < 256)
small {s} short {m} o = let w = o.isopen in (
  omega (arith, alive-lt s m.i w.livei),
  omega (arith, alive-lt s m.j w.livej),
  omega (arith, alive-lt s m.k w.livek),
)

module _ (s : List ℕ) (short : length s ≤ 256) (low : (m : Merge) → OpenAt s m → IsLowest (joint (three s m)) (lowest s m)) where
  only-lowest : (m : Merge) → OpenAt s m → (v : ℕ) → IsLowest (joint (three s m)) v → v ≡ lowest s m
  only-lowest m o v h = let l = low m o in omega (arith, h.1 (lowest s m) l.0, l.1 v h.0)

  before : {m r : Merge} → OpenUp s m → OpenUp s r → key_of s m < key_of s r → Before s m r
  unfolding NotAfter
  before {m} {r} o u h v w a b =
      let p = small short o in
      let q = small short u in
      by (places p.0 p.1 p.2 q.0 q.1 q.2 h)
    where
      ev : v ≡ lowest s m
      ev = only-lowest m o.isopen v a

      ew : w ≡ lowest s r
      ew = only-lowest r u.isopen w b

      by : (lowest s m < lowest s r) ⊎ ((lowest s m ≡ lowest s r) × NotAfter m r) → (v < w) ⊎ ((v ≡ w) × NotAfter m r × (m ≢ r))
      by (inl l) = inl (omega (arith, ev, ew))
      by (inr (e, n)) = inr (ev ∙ e ∙ sym ew, n, λ q. omega (arith, ap (key_of s) q))

  ordered : (l : List Merge) {lo : ℕ} → Up lo (map (key_of s) l) → ((m : Merge) → Listed m l → OpenUp s m) → Ordered s l
  ordered [] u h = tt
  ordered (m ∷ l) (more g u) h =
      ((λ r i. before (h m (inl refl)) (h r (inr i)) (up_least u (key_of s r) (key-among s r l i))), ordered l u (λ r i. h r (inr i)))

-- ---- the steps made

valid-take : (n : ℕ) (p : List Merge) (s : List ℕ) → Valid s p → Valid s (take n p)
valid-take zero p s v = tt
valid-take (suc n) [] s v = tt
valid-take (suc n) (m ∷ p) s v = (v.0, valid-take n p (put s m) v.1)

take_all : (n : ℕ) (p : List Merge) → length p ≤ n → take n p ≡ p
take_all zero [] h = refl
take_all zero (m ∷ p) h = absurd (omega arith)
take_all (suc n) [] h = refl
take_all (suc n) (m ∷ p) h = ap (λ (l : List Merge). m ∷ l) (take_all n p (omega arith))

empty : (l : List Merge) → ((m : Merge) → Listed m l → ⊥) → l ≡ []
empty [] h = refl
empty (m ∷ l) h = absurd (h m (inl refl))

-- ---- all of it

module _ (g : Graph) (sound : Sound g.n g.clusters) (fine : NotOver g.clusters) (steps : ℕ) where
  abbrev cs : List ℕ
  cs = g.clusters

  abbrev p : List Merge
  p = take steps (plan_of cs)

  abbrev s : List ℕ
  s = clusters_after g steps

  pairs : Pairs cs
  pairs = sound.simple.pairs

  valid : Valid cs p
  valid = valid-take steps (plan_of cs) cs (plan-valid (plan_of cs) cs (plan-of-is cs pairs))

  short : length s ≤ 256
  short =
      omega (
        arith,
        length-final p cs,
        fine-few sound fine,
        steps_most g.n cs sound.two pairs sound.below fine p valid,
        sound.most,
      )

  is_open_lem : (m : Merge) → Listed m (open_after g steps) → OpenUp s m
  unfolding open_after
  is_open_lem m i = listed-open s m i

  is-listed : (m : Merge) → OpenUp s m → Listed m (open_after g steps)
  unfolding open_after
  is-listed m o = open-listed s m (lowest-low g.n sound.most cs sound.below p o.isopen) o

  keys-up : Up 0 (map (key_of s) (open_after g steps))
  unfolding open_after
  keys-up = span-up (opens-span s short)

  -- after all steps
  ended : length (plan_of cs) ≤ steps → Ended s
  ended h =
      subst (λ (q : List Merge). Ended (final cs q)) (sym (take_all steps (plan_of cs) h)) (plan-ended (plan_of cs) cs (plan-of-is cs pairs))

  pub shown : Shown g steps
  unfolding Ended
  shown = record {
    listed = λ m. (
      (λ i. let o = is_open_lem m i in (o.isopen, o.i<j, o.j<k)),
      λ h. is-listed m (record { isopen = h.0; i<j = h.1; j<k = h.2 }),
    );
    every = λ m o. let a = ascends m o.i≢j o.j≢k o.i≢k in
        is-listed (ascending m) (record { isopen = open-ascending s m o; i<j = a.0; j<k = a.1 });
    order = ordered s short (λ m o. lowest-is g.n sound.most cs sound.below p o) (open_after g steps) keys-up is_open_lem;
    most = omega (
      arith,
      keys-few g.n cs sound.two pairs sound.below fine p valid short keys-up (λ x a.
          let (m, i, e) = among-key s x (open_after g steps) a in
          (m, is_open_lem m i, e)),
      length-map (open_after g steps) (key_of s),
    );
    none = λ h. empty (open_after g steps) (λ m i. ended h m (is_open_lem m i).isopen);
  }
