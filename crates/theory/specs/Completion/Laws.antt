-- The greedy choice is the cheapest completion, first among equals; and there is a completion only if it is one. Assumes nothing.
use Rattle.std.specs.Prelude.{◌≡◌, ◌↔◌, ◌⊎◌, ◌∷◌, ◌++◌, ◌+◌, ◌*◌, ◌^◌, ◌≤◌, ◌<◌}
use Rattle.theory.specs.Prelude.{refl, sym, ap, ap₂, ◌∙◌, subst, inl, inr, ⊎_elim, List, [], append_assoc, ℕ}
use Rattle.theory.specs.Prelude.{arith, ones, length, length-append}
use Rattle.theory.specs.Set.{◌⊑◌}
use Rattle.theory.specs.Set.Laws.{⊑_refl}
use Rattle.theory.specs.Constraints.{Among, Pairs, Below, has, carried, NotOver}
use Rattle.theory.specs.Constraints.Laws.{has_in, carried-pos, size-pair, pair-below}
use Rattle.theory.specs.Over.{IsOver}
use Rattle.theory.specs.Over.Laws.{carried-append, over-tight, fine-most}
use Rattle.theory.specs.Graph.{Graph}
use Rattle.theory.specs.Completion.Rank.{Exact, Covers, covers-length}
use Rattle.theory.specs.Completion.{Offer, ◌∈◌, cluster, clusters, Permitted, PairBefore, Before, Sorted, Completion, total, prices_of, First, same, here, next}
use Rattle.theory.specs.Completion.{Cheapest}

-- the offers are gone through once; each is taken that does not make the constraints over
pub data Greedy : List ℕ → List Offer → List Offer → Type 0 where
  done : {cs : List ℕ} → Greedy cs [] []
  take : {cs : List ℕ} {o : Offer} {l k : List Offer} → NotOver (cluster o ∷ cs) → Greedy (cluster o ∷ cs) l k → Greedy cs (o ∷ l) (o ∷ k)
  pass : {cs : List ℕ} {o : Offer} {l k : List Offer} → IsOver (cluster o ∷ cs) → Greedy cs l k → Greedy cs (o ∷ l) k

-- ---- the order

before-trans : (a b c : Offer) → Before a b → Before b c → Before a c
before-trans a b c (inl p) (inl q) = inl (omega arith)
before-trans a b c (inl p) (inr q) = inl (omega arith)
before-trans a b c (inr p) (inl q) = inl (omega arith)
before-trans a b c (inr p) (inr q) = inr (omega arith, go p.1 q.1)
  where
    go : PairBefore a b → PairBefore b c → PairBefore a c
    go (inl p) (inl q) = inl (omega arith)
    go (inl p) (inr q) = inl (omega arith)
    go (inr p) (inl q) = inl (omega arith)
    go (inr p) (inr q) = inr (omega arith, omega arith)

before-not : (a b : Offer) → a ≡ b → Before a b → ⊥
before-not a b e (inl p) = omega (arith, ap (λ (o : Offer). o.price) e)
before-not a b e (inr (p, inl q)) = omega (arith, ap (λ (o : Offer). o.u) e)
before-not a b e (inr (p, inr q)) = omega (arith, ap (λ (o : Offer). o.v) e)

-- ---- a sorted list of some of the offers is a part of them in order

data Part : List Offer → List Offer → Type 0 where
  none : Part [] []
  keep : (a : Offer) {l k : List Offer} → Part l k → Part (a ∷ l) (a ∷ k)
  skip : (a : Offer) {l k : List Offer} → Part l k → Part l (a ∷ k)

part : (k l : List Offer) → Sorted k → Sorted l → ((o : Offer) → o ∈ l → o ∈ k) → Part l k
part [] [] sk sl h = none
part [] (a ∷ l) sk sl h = absurd (h a (inl refl))
part (b ∷ k) [] sk sl h = skip b (part k [] sk.1 sl (λ o i. absurd i))
part (b ∷ k) (a ∷ l) sk sl h = go (λ m s i. part k m sk.1 s i) (h a (inl refl))
  where
    other : (o : Offer) → Before b o → o ∈ (b ∷ k) → o ∈ k
    other o w = ⊎_elim (λ e. absurd (before-not b o (sym e) w)) (λ i. i)

    go : ((m : List Offer) → Sorted m → ((o : Offer) → o ∈ m → o ∈ k) → Part m k) → a ∈ (b ∷ k) → Part (a ∷ l) (b ∷ k)
    go ih (inl e) =
        subst (λ (c : Offer). Part (c ∷ l) (b ∷ k)) (sym e)
        (keep b (ih l sl.1 (λ o i. other o (subst (λ (c : Offer). Before c o) e (sl.0 o i)) (h o (inr i)))))
    go ih (inr i) =
        let w = sk.0 a i in
        skip b (ih (a ∷ l) sl (λ o. ⊎_elim (λ e. subst (λ (c : Offer). c ∈ k) (sym e) i) (λ j. other o (before-trans b a o w (sl.0 o j)) (h o (inr j)))))

part_in : {l k : List Offer} → Part l k → (o : Offer) → o ∈ l → o ∈ k
part_in none o i = i
part_in (keep a p) o (inl e) = inl e
part_in (keep a p) o (inr i) = inr (part_in p o i)
part_in (skip a p) o i = inr (part_in p o i)

part-sorted : {l k : List Offer} → Part l k → Sorted k → Sorted l
part-sorted none s = s
part-sorted (keep a p) s = (λ o i. s.0 o (part_in p o i), part-sorted p s.1)
part-sorted (skip a p) s = part-sorted p s.1

-- ---- constraints with offers taken up

onto : List ℕ → List Offer → List ℕ
onto cs [] = cs
onto cs (o ∷ l) = onto (cluster o ∷ cs) l

carried-onto : (l : List Offer) (cs : List ℕ) (x : ℕ) → carried (onto cs l) x ≡ carried cs x + carried (clusters l) x
unfolding carried onto
carried-onto [] cs x = omega arith
carried-onto (o ∷ l) cs x = omega (arith, carried-onto l (cluster o ∷ cs) x)

onto-fine : (l : List Offer) (cs : List ℕ) → NotOver (cs ++ clusters l) → NotOver (onto cs l)
unfolding NotOver
onto-fine l cs fine x b = omega (arith, fine x b, carried-onto l cs x, carried-append cs (clusters l) x)

fine-onto : (l : List Offer) (cs : List ℕ) → NotOver (onto cs l) → NotOver (cs ++ clusters l)
unfolding NotOver
fine-onto l cs fine x b = omega (arith, fine x b, carried-onto l cs x, carried-append cs (clusters l) x)

fine-first : (l : List Offer) (cs : List ℕ) → NotOver (onto cs l) → NotOver cs
unfolding NotOver
fine-first l cs fine x b = omega (arith, fine x b, carried-onto l cs x)

length-onto : (l : List Offer) (cs : List ℕ) → length (onto cs l) ≡ length cs + length l
unfolding onto
length-onto [] cs = omega arith
length-onto (o ∷ l) cs = omega (arith, length-onto l (cluster o ∷ cs))

-- ---- one taken, one passed

pub next-carried : (m : ℕ) (cs : List ℕ) (x : ℕ) → carried (m ∷ cs) x ≡ carried cs x + has m x
unfolding carried
next-carried m cs x = omega arith

pair_one : (m : ℕ) (cs : List ℕ) → ones m ≡ 2 → NotOver (m ∷ cs) → Exact (m ∷ cs) m
unfolding NotOver carried
pair_one m cs e fine = omega (arith, has_in m m (⊑_refl m), fine m (omega arith))

pub exact-kept : (m : ℕ) (cs : List ℕ) (y : ℕ) → NotOver (m ∷ cs) → Exact cs y → Exact (m ∷ cs) y
unfolding NotOver carried
exact-kept m cs y fine e = omega (arith, fine y (omega arith))

covers_more : (m : ℕ) (cs ds : List ℕ) → NotOver (m ∷ cs) → Covers cs ds → Covers (m ∷ cs) ds
covers_more m cs ds fine c = record { by = λ z i. let r = c.by z i in (r.0, exact-kept m cs r.0 fine r.1, r.2) }

covers_one : (m : ℕ) (cs ds : List ℕ) → Covers cs ds → (y : ℕ) → Exact cs y → m ⊑ y → Covers cs (m ∷ ds)
covers_one m cs ds c y e h = record {
  by = λ z. ⊎_elim (λ p. (y, e, subst (λ (w : ℕ). w ⊑ y) (sym p) h)) (λ i. c.by z i);
}

-- ---- at every place the greedy choice is the same offer or an earlier one

abbrev NoLater : Offer → Offer → Type 0
NoLater a b = (a ≡ b) ⊎ Before a b

data Ahead : List Offer → List Offer → Type 0 where
  end : {l : List Offer} → Ahead l []
  step : {a b : Offer} {l k : List Offer} → NoLater a b → Ahead l k → Ahead (a ∷ l) (b ∷ k)

abbrev Sound : Offer → Type 0
Sound o = o.u < o.v

abbrev AllBefore : List Offer → List Offer → Type 0
AllBefore q l = (a : Offer) → a ∈ q → (b : Offer) → b ∈ l → Before a b

in-append : (a o : Offer) (q : List Offer) → a ∈ (q ++ (o ∷ [])) → (a ∈ q) ⊎ (a ≡ o)
in-append a o [] (inl e) = inr e
in-append a o [] (inr i) = absurd i
in-append a o (b ∷ q) (inl e) = inl (inl e)
in-append a o (b ∷ q) (inr i) = ⊎_elim (λ h. inl (inr h)) inr (in-append a o q i)

queue-more : (q : List Offer) (o : Offer) (l : List Offer) → AllBefore q (o ∷ l) → ((b : Offer) → b ∈ l → Before o b) → AllBefore (q ++ (o ∷ [])) l
queue-more q o l h s a i b j =
    ⊎_elim (λ k. h a k b (inr j)) (λ e. subst (λ (c : Offer). Before c b) (sym e) (s b j)) (in-append a o q i)

pub pairs-more : (o : Offer) (cs : List ℕ) → Sound o → Pairs cs → Pairs (cluster o ∷ cs)
unfolding Pairs
pairs-more o cs s p x = ⊎_elim (λ e. ap ones e ∙ size-pair o.u o.v s) (p x)

-- where a list l is still to be gone through: the constraints cs with the greedy offers so far, ds with the others so far, and the queue q of
-- greedy offers that the others have not yet come up with
record State (cs ds : List ℕ) (q l : List Offer) : Type 0 where
  sorted : Sorted l
  sound : (o : Offer) → o ∈ l → Sound o
  queue : AllBefore q l
  pairs : Pairs cs
  fine : NotOver cs
  covers : Covers cs ds
  size : length cs ≡ length ds + length q

module _ {cs ds : List ℕ} {o : Offer} {l : List Offer} where
  take-state : {q : List Offer} → State cs ds q (o ∷ l) → NotOver (cluster o ∷ cs) → State (cluster o ∷ cs) ds (q ++ (o ∷ [])) l
  take-state {q} s f = record {
    sorted = s.sorted.1;
    sound = λ p i. s.sound p (inr i);
    queue = queue-more q o l s.queue s.sorted.0;
    pairs = pairs-more o cs (s.sound o (inl refl)) s.pairs;
    fine = f;
    covers = covers_more (cluster o) cs ds f s.covers;
    size = omega (arith, s.size, length-append q (o ∷ []));
  }

  pass-state : {q : List Offer} → State cs ds q (o ∷ l) → State cs ds q l
  pass-state s = record {
    sorted = s.sorted.1;
    sound = λ p i. s.sound p (inr i);
    queue = λ a i b j. s.queue a i b (inr j);
    pairs = s.pairs;
    fine = s.fine;
    covers = s.covers;
    size = s.size;
  }

-- the others take an offer that lies in a tight set, and come up with the queue's first
keep-state : {cs ds : List ℕ} {q l : List Offer} (a o : Offer) → State cs ds (a ∷ q) l → (y : ℕ) → Exact cs y → cluster o ⊑ y → State cs (cluster o ∷ ds) q l
keep-state {cs} {ds} a o s y e h = record {
  sorted = s.sorted;
  sound = s.sound;
  queue = λ b i. s.queue b (inr i);
  pairs = s.pairs;
  fine = s.fine;
  covers = covers_one (cluster o) cs ds s.covers y e h;
  size = omega (arith, s.size);
}

both : {cs ds : List ℕ} {l : List Offer} (o : Offer) (q g j : List Offer) → State (cluster o ∷ cs) ds (q ++ (o ∷ [])) l → ((a : Offer) → a ∈ q → Before a o)
    → Exact (cluster o ∷ cs) (cluster o) → ((q : List Offer) → State (cluster o ∷ cs) (cluster o ∷ ds) q l → Ahead (q ++ g) j) → Ahead (q ++ (o ∷ g)) (o ∷ j)
both o [] g j s h e ih = step (inl refl) (ih [] (keep-state o o s (cluster o) e (⊑_refl (cluster o))))
both o (a ∷ q) g j s h e ih =
    step (inr (h a (inl refl)))
    (subst (λ (z : List Offer). Ahead z j) (append_assoc q (o ∷ []) g) (ih (q ++ (o ∷ [])) (keep-state a o s (cluster o) e (⊑_refl (cluster o)))))

-- an offer that the greedy choice passes finds the queue not empty: else the others would be longer
passed : {cs ds : List ℕ} {l : List Offer} (o : Offer) (q g j : List Offer) → State cs ds q (o ∷ l) → NotOver (cluster o ∷ ds) → (y : ℕ) → Exact cs y → cluster o ⊑ y
    → ((q : List Offer) → State cs (cluster o ∷ ds) q l → Ahead (q ++ g) j) → Ahead (q ++ g) (o ∷ j)
passed {cs} {ds} o [] g j s f y e h ih =
    absurd (omega (arith, s.size, covers-length cs (cluster o ∷ ds) s.pairs s.fine f (covers_one (cluster o) cs ds s.covers y e h)))
passed o (a ∷ q) g j s f y e h ih = step (inr (s.queue a (inl refl) o (inl refl))) (ih q (keep-state a o (pass-state s) y e h))

ahead : {cs : List ℕ} {l g : List Offer} (ds : List ℕ) (q j : List Offer) → Greedy cs l g → Part j l → State cs ds q l → NotOver (onto ds j) → Ahead (q ++ g) j
unfolding onto
ahead ds q j done none s f = end
ahead ds q j (take {o = o} {k = g} t r) (skip b p) s f =
    subst (λ (z : List Offer). Ahead z j) (append_assoc q (o ∷ []) g) (ahead ds (q ++ (o ∷ [])) j r p (take-state s t) f)
ahead ds q j (pass v r) (skip b p) s f = ahead ds q j r p (pass-state s) f
ahead ds q j (take {cs = cs} {k = g} t r) (keep b {l = j'} p) s f =
    both b q g j' (take-state s t) (λ a i. s.queue a i b (inl refl))
    (pair_one (cluster b) cs (size-pair b.u b.v (s.sound b (inl refl))) t)
    (λ q w. ahead (cluster b ∷ ds) q j' r p w f)
ahead ds q j (pass {cs = cs} {k = g} v r) (keep b {l = j'} p) s f =
    let t = over-tight cs (cluster b ∷ cs) (cluster b) (λ x. next-carried (cluster b) cs x) s.fine v.set v.two v.more in
    passed b q g j' s (fine-first j' (cluster b ∷ ds) f) v.set t.exact t.holds (λ q w. ahead (cluster b ∷ ds) q j' r p w f)

-- ---- what follows: as many, cheaper, first

ahead-length : {g j : List Offer} → Ahead g j → length j ≤ length g
ahead-length end = omega arith
ahead-length (step h a) = omega (arith, ahead-length a)

cheaper : (a b : Offer) → NoLater a b → a.price ≤ b.price
cheaper a b (inl e) = omega (arith, ap (λ (o : Offer). o.price) e)
cheaper a b (inr (inl p)) = omega arith
cheaper a b (inr (inr p)) = omega (arith, p.0)

ahead-total : {g j : List Offer} → Ahead g j → length g ≡ length j → total g ≤ total j
ahead-total (end {l = []}) e = omega arith
ahead-total (end {l = a ∷ l}) e = absurd (omega arith)
ahead-total (step {a = a} {b = b} h r) e = omega (arith, cheaper a b h, ahead-total r (omega arith))

ahead-first : {g j : List Offer} → Ahead g j → length g ≡ length j → total g ≡ total j → First g j
ahead-first (end {l = []}) e t = same
ahead-first (end {l = a ∷ l}) e t = absurd (omega arith)
ahead-first (step {a = a} {b = b} {l = l} {k = k} h r) e t =
    let w = ahead-total r (omega arith) in
    let c = cheaper a b h in
    go h (ahead-first r (omega arith) (omega arith))
  where
    go : NoLater a b → First l k → First (a ∷ l) (b ∷ k)
    go (inl q) f = subst (λ (o : Offer). First (a ∷ l) (o ∷ k)) q (next a f)
    go (inr (inl q)) f = absurd (omega (arith, ahead-total r (omega arith)))
    go (inr (inr q)) f = here q.1

-- where they cost the same they do so place by place: by pair alone, or by price then pair, the same list comes first
ahead-prices : {g j : List Offer} → Ahead g j → length g ≡ length j → total g ≡ total j → prices_of g ≡ prices_of j
ahead-prices (end {l = []}) e t = refl
ahead-prices (end {l = a ∷ l}) e t = absurd (omega arith)
ahead-prices (step {a = a} {b = b} h r) e t =
    let w = ahead-total r (omega arith) in
    let c = cheaper a b h in
    let p : a.price ≡ b.price = omega arith in ap₂ ◌∷◌ p (ahead-prices r (omega arith) (omega arith))

-- ---- the greedy list

greedy-part : {cs : List ℕ} {l g : List Offer} → Greedy cs l g → Part g l
greedy-part done = none
greedy-part (take {o = o} f r) = keep o (greedy-part r)
greedy-part (pass {o = o} f r) = skip o (greedy-part r)

greedy-fine : {cs : List ℕ} {l g : List Offer} → Greedy cs l g → NotOver cs → NotOver (onto cs g)
unfolding onto
greedy-fine done f = f
greedy-fine (take t r) f = greedy-fine r t
greedy-fine (pass t r) f = greedy-fine r f

onto-below : (n : ℕ) (l : List Offer) (cs : List ℕ) → Below n cs → ((o : Offer) → o ∈ l → (o.u < o.v) × (o.v < n)) → Below n (onto cs l)
unfolding onto Below
onto-below n [] cs b h = b
onto-below n (o ∷ l) cs b h =
    onto-below n l (cluster o ∷ cs)
    (λ x. ⊎_elim (λ e. let s = h o (inl refl) in subst (λ (z : ℕ). z < 2 ^ n) (sym e) (pair-below n o.u o.v (omega arith) s.1)) (b x))
    (λ p i. h p (inr i))

module _ (t : Graph) (prices : List ℕ) (l g : List Offer) (two : 2 ≤ t.n) (pairs : Pairs t.clusters) (below : Below t.n t.clusters)
    (fine : NotOver t.clusters) (listed : (o : Offer) → o ∈ l ↔ Permitted t prices o) (sorted : Sorted l)
    (sound : (o : Offer) → o ∈ l → (o.u < o.v) × (o.v < t.n)) (r : Greedy t.clusters l g) where
  abbrev cs : List ℕ
  cs = t.clusters

  lies_in : (m : ℕ) → Among m cs → Exact cs m
  unfolding NotOver Pairs
  lies_in m i = omega (arith, pairs m i, fine m (omega (arith, pairs m i)), carried-pos cs m i)

  start : State cs cs [] l
  start = record {
    sorted = sorted;
    sound = λ o i. (sound o i).0;
    queue = λ a i. absurd i;
    pairs = pairs;
    fine = fine;
    covers = record { by = λ m i. (m, lies_in m i, ⊑_refl m) };
    size = omega arith;
  }

  beside : (j : List Offer) → Completion t prices j → Ahead g j
  beside j c =
      ahead cs [] j r (part l j sorted c.sorted (λ o i. (listed o).1 (c.permitted o i))) start (onto-fine j cs c.not_over)

  most : length cs + length g + 3 ≤ 2 * t.n
  most =
      omega (
        arith,
        fine-most t.n (onto cs g) two (onto-below t.n g cs below (λ o i. sound o (part_in (greedy-part r) o i))) (greedy-fine r fine),
        length-onto g cs,
      )

  -- no permitted set will do unless the greedy one does
  pub none-else : (j : List Offer) → Completion t prices j → length cs + length g + 3 ≡ 2 * t.n
  none-else j c = omega (arith, c.full, ahead-length (beside j c), most)

  pub greedy-cheapest : length cs + length g + 3 ≡ 2 * t.n → Cheapest t prices g
  greedy-cheapest e = record {
    completion = record {
      sorted = part-sorted (greedy-part r) sorted;
      permitted = λ o i. (listed o).0 (part_in (greedy-part r) o i);
      not_over = fine-onto g cs (greedy-fine r fine);
      full = e;
    };
    least = λ k c. ahead-total (beside k c) (omega (arith, c.full));
    first = λ k c q. ahead-first (beside k c) (omega (arith, c.full)) q;
    same_prices = λ k c q. ahead-prices (beside k c) (omega (arith, c.full)) q;
  }

-- ---- there is only one cheapest

first_to : {l k l' k' : List Offer} → First l k → First k' l' → k ≡ k' → l ≡ l' → l ≡ k
first_to same q e f = refl
first_to (here p) same e f = cc
first_to (here {a = a} {b = b} p) (here {a = c} {b = d} q) e f =
    let h : c ≡ b = cc in let i : d ≡ a = cc in absurd (clash a b p (subst (λ (x : Offer). PairBefore b x) i (subst (λ (x : Offer). PairBefore x d) h q)))
  where
    clash : (a b : Offer) → PairBefore a b → PairBefore b a → ⊥
    clash a b (inl p) (inl q) = omega arith
    clash a b (inl p) (inr q) = omega arith
    clash a b (inr p) (inl q) = omega arith
    clash a b (inr p) (inr q) = omega arith
first_to (here {a = a} {b = b} p) (next c q) e f =
    let h : b ≡ a = cc in absurd (before-not a a refl (inr (refl, subst (λ (x : Offer). PairBefore a x) h p)))
first_to (next a p) same e f = cc
first_to (next a p) (here {a = c} {b = d} q) e f =
    let h : c ≡ a = cc in let i : d ≡ a = cc in
    absurd (before-not a a refl (inr (refl, subst (λ (x : Offer). PairBefore a x) i (subst (λ (x : Offer). PairBefore x d) h q))))
first_to (next a {l = l} {k = k} p) (next b {l = m} {k = n} q) e f =
    let h : k ≡ m = cc in let i : l ≡ n = cc in ap (λ (x : List Offer). a ∷ x) (first_to p q h i)

first_one : {l k : List Offer} → First l k → First k l → l ≡ k
first_one p q = first_to p q refl refl

pub cheapest-one : (t : Graph) (prices : List ℕ) (l k : List Offer) → Cheapest t prices l → Cheapest t prices k → l ≡ k
cheapest-one t prices l k a b =
    let p = a.least k b.completion in
    let q = b.least l a.completion in
    first_one (a.first k b.completion (omega arith)) (b.first l a.completion (omega arith))
