-- An element that a cluster reaches gives exactly one merge of it, and the first of these merges is the first of all. Assumes nothing.
use Rattle.std.specs.Prelude.{◌≡◌, ◌≢◌, ◌⊎◌, ◌/◌, ◌%◌, ◌≤◌, ◌<◌}
use Rattle.theory.specs.Prelude.{sym, ap, ◌∙◌, subst, inl, inr, Ne-symm, List, ℕ, min, max, arith, ℕ_discrete}
use Rattle.theory.specs.Prelude.{dec_le, dec_lt}
use Rattle.theory.specs.Set.{◌∈◌, ◌∩◌, at}
use Rattle.theory.specs.Set.Laws.{at-le, both, ∈-∩⁻, two_in, filled}
use Rattle.theory.specs.Merge.{slot, Merge, merge, OpenAt, union, three, put, Part, Ended}
use Rattle.theory.specs.Merge.Numbered.{alive-lt, put-old, cleared-other}
use Rattle.theory.specs.Merge.Threes.{part-a, part-b}
use Rattle.theory.specs.Plan.{ascending, NotAfter, First}
use Rattle.theory.specs.Plan.Order.{open-ab, open-bc, open-ascending, ascends}
use Rattle.search.specs.State.{linked, waits, Wanted, Kept, Fine, Todo, Ready, Reached, Outs, Lowest, Reaching, Joining, Met, Joined}
use Rattle.search.specs.State.{Best, Pair}
use Rattle.search.specs.State.Triangle.{Corners, corners, same-shared}
use Rattle.search.specs.State.Open.{other, open-reached, closes, reached-rim}

-- nothing before the lowest
pub least : {P : ℕ → Type 0} {lo hi r : ℕ} (c : ℕ) → Lowest P lo hi r → lo ≤ c → P c → r ≤ c
least {P} {lo} {hi} {r} c l h p = below (dec_le r c)
  where
    below : Dec (r ≤ c) → r ≤ c
    below (yes e) = e
    below (no n) = absurd (l.none c h (omega arith) p)

-- ---- after a merge

-- a cluster that takes no part stays
pub put-stays : (s : List ℕ) (m : Merge) (n : ℕ) → (Part n m → ⊥) → slot s n ≢ 0 → slot (put s m) n ≡ slot s n
put-stays s m n none live = put-old s m n (alive-lt s n live) ∙ cleared-other s m n none

-- and shares at most one element with the union
pub union-shares : {s : List ℕ} → Fine s → {m : Merge} → OpenAt s m → (d p q : ℕ) → (Part d m → ⊥) → p ∈ slot s d → q ∈ slot s d
    → p ∈ union (three s m) → q ∈ union (three s m) → p ≡ q
union-shares {s} f {m} o d p q none pd qd pu qu = same (ℕ_discrete p q)
  where
    same : Dec (p ≡ q) → p ≡ q
    same (yes e) = e
    same (no n) =
        absurd (omega (
          arith,
          f.later m o d none (filled (slot s d) p pd),
          two_in (slot s d ∩ union (three s m)) p q (both p (slot s d) (union (three s m)) pd pu) (both q (slot s d) (union (three s m)) qd qu) n,
        ))

-- ---- an element that a cluster reaches is linked to two of its elements and to no third

module _ {s : List ℕ} (fine : Fine s) where
  pub no_third : (i c d f z p q r : ℕ) → p ≢ q → p ≢ r → q ≢ r → p ∈ slot s i → q ∈ slot s i → r ∈ slot s i → at z (slot s i) ≡ 0
      → p ∈ slot s c → z ∈ slot s c → q ∈ slot s d → z ∈ slot s d → r ∈ slot s f → z ∈ slot s f → ⊥
  no_third i c d f z p q r pq pr qr pi qi ri zi pc zc qd zd rf zf =
      other (slot s i) r z ri zi (union-shares fine o f r z none rf zf (grow (slot s i) r ((part-a (three s m)).le r) ri)
      (grow (slot s c) z ((part-b (three s m)).le z) zc))
    where
      m : Merge
      m = merge i c d

      o : OpenAt s m
      o = closes fine.apart i c d p q z pq pi pc zc qi qd zd zi

      grow : (x y : ℕ) → at y x ≤ at y (union (three s m)) → y ∈ x → y ∈ union (three s m)
      grow x y h e = omega (arith, at-le y (union (three s m)))

      none : Part f m → ⊥
      none (inl e) = omega (arith, ap (λ (y : ℕ). at z (slot s y)) e)
      none (inr (inl e)) =
          pr (same-shared fine.apart i c p r o.i≢j pi pc ri (subst (λ (y : ℕ). r ∈ slot s y) e rf))
      none (inr (inr e)) =
          qr (same-shared fine.apart i d q r o.i≢k qi qd ri (subst (λ (y : ℕ). r ∈ slot s y) e rf))

  -- a cluster that holds two elements is one cluster
  pub one-holder : (c d p z : ℕ) → p ≢ z → p ∈ slot s c → z ∈ slot s c → p ∈ slot s d → z ∈ slot s d → c ≡ d
  one-holder c d p z n pc zc pd zd = one-holder-case (ℕ_discrete c d)
    where
      one-holder-case : Dec (c ≡ d) → c ≡ d
      one-holder-case (yes e) = e
      one-holder-case (no h) = absurd (n (same-shared fine.apart c d p z h pc pd zc zd))

  -- the element that the two others of a merge share lies outside the first
  pub pair-out : (i z j k : ℕ) → Pair s i z j k → at z (slot s i) ≡ 0
  pair-out i z j k m =
      let A = corners s i j k m.isopen in
      let e : z ≡ A.r = same-shared fine.apart j k z A.r m.isopen.j≢k m.z_j m.z_k A.r_j A.r_k in
      ap (λ (y : ℕ). at y (slot s i)) e ∙ A.r_i

  -- a cluster that holds z and meets i is one of the two
  pub pair-side : (i z j k : ℕ) → Pair s i z j k → (d r : ℕ) → z ∈ slot s d → r ∈ slot s i → r ∈ slot s d → (d ≡ j) ⊎ (d ≡ k)
  pair-side i z j k m d r zd ri rd = pair-side-case (ℕ_discrete A.p r) (ℕ_discrete A.q r)
    where
      A : Corners s i j k
      A = corners s i j k m.isopen

      zi : at z (slot s i) ≡ 0
      zi = pair-out i z j k m

      pair-side-case : Dec (A.p ≡ r) → Dec (A.q ≡ r) → (d ≡ j) ⊎ (d ≡ k)
      pair-side-case (yes e) y =
          inl (one-holder d j r z (other (slot s i) r z ri zi) rd zd (subst (λ (y : ℕ). y ∈ slot s j) e A.p_j) m.z_j)
      pair-side-case (no n) (yes e) =
          inr (one-holder d k r z (other (slot s i) r z ri zi) rd zd (subst (λ (y : ℕ). y ∈ slot s k) e A.q_k) m.z_k)
      pair-side-case (no n) (no h) =
          absurd (no_third i j k d z A.p A.q r (Ne-symm (other (slot s k) A.q A.p A.q_k A.p_k)) n h A.p_i A.q_i ri zi A.p_j
          m.z_j A.q_k m.z_k rd zd)

  -- an element gives at most one merge of i
  pub pair_one : (i z j k b c : ℕ) → Pair s i z j k → Pair s i z b c → (j ≡ b) × (k ≡ c)
  pair_one i z j k b c m n =
      pair-one-case (pair-side i z j k m b B.p n.z_j B.p_i B.p_j) (pair-side i z j k m c B.q n.z_k B.q_i B.q_k)
    where
      B : Corners s i b c
      B = corners s i b c n.isopen

      pair-one-case : (b ≡ j) ⊎ (b ≡ k) → (c ≡ j) ⊎ (c ≡ k) → (j ≡ b) × (k ≡ c)
      pair-one-case (inl x) (inl y) = absurd (omega (arith, n.up))
      pair-one-case (inl x) (inr y) = (sym x, sym y)
      pair-one-case (inr x) (inl y) = absurd (omega (arith, m.up, n.up))
      pair-one-case (inr x) (inr y) = absurd (omega (arith, n.up))

-- ---- what the holders say

-- an open merge whose two others are put in order
ordered : (s : List ℕ) (i z a b : ℕ) → OpenAt s (merge i a b) → z ∈ slot s a → z ∈ slot s b → Pair s i z (min a b) (max a b)
ordered s i z a b o za zb = ordered-case (dec_lt a b)
  where
    put_in : (j k : ℕ) → j ≡ min a b → k ≡ max a b → Pair s i z j k → Pair s i z (min a b) (max a b)
    put_in j k e f p = subst (λ (y : ℕ). Pair s i z y (max a b)) e (subst (Pair s i z j) f p)

    ordered-case : Dec (a < b) → Pair s i z (min a b) (max a b)
    ordered-case (yes l) = put_in a b (omega arith) (omega arith) (record { up = l; isopen = o; z_j = za; z_k = zb })
    ordered-case (no n) =
        put_in b a (omega arith) (omega arith) (record { up = omega (arith, o.j≢k); isopen = open-bc s i a b o; z_j = zb; z_k = za })

module _ {s : List ℕ} {used rim : ℕ} {links hold todo : List ℕ} (ready : Ready s used rim links hold todo) (room : used ≤ 192) where
  -- a living cluster stands below `used`
  pub within : (c p : ℕ) → p ∈ slot s c → c < used
  within c p e = within-case (dec_lt c used)
    where
      within-case : Dec (c < used) → c < used
      within-case (yes h) = h
      within-case (no n) = absurd (filled (slot s c) p e (ready.beyond c (omega arith)))

  -- the cluster that holds two elements of the rim is found among their holders
  pub joining-is : (p z c r : ℕ) → p ≢ z → p ∈ rim → z ∈ rim → p ∈ slot s c → z ∈ slot s c → Joining hold p z r → r ≡ c
  joining-is p z c r n pr zr pc zc j =
      let lc = within c p pc in
      let low : r ≤ c = least c j (omega arith) (ready.holding.is p c pr (omega arith) ∙ pc, ready.holding.is z c zr (omega arith) ∙ zc) in
      let here = j.here (omega arith) in
      one-holder ready.fine r c p z n (sym (ready.holding.is p r pr (omega arith)) ∙ here.0)
      (sym (ready.holding.is z r zr (omega arith)) ∙ here.1) pc zc

  -- the two clusters found for an element that i reaches make the merge at it
  pub met-pair : (i z p q v : ℕ) → p ≢ q → p ∈ slot s i ∩ rim → q ∈ slot s i ∩ rim → z ∈ linked links p
      → z ∈ linked links q → at z (slot s i) ≡ 0
      → Met hold p q z v → Pair s i z (v / 256) (v % 256)
  met-pair i z p q v n pi qi zp zq zi (a, b, ja, jb, e) =
      let P = ∈-∩⁻ p (slot s i) rim pi in
      let Q = ∈-∩⁻ q (slot s i) rim qi in
      let c = ready.linking.only p z zp in
      let d = ready.linking.only q z zq in
      let o = closes ready.fine.apart i c.0 d.0 p q z n P.0 c.1 c.2 Q.0 d.1 d.2 zi in
      let zr : z ∈ rim = ready.rims.shared c.0 d.0 z o.j≢k c.2 d.2 in
      let ea = joining-is p z c.0 a (other (slot s i) p z P.0 zi) P.1 zr c.1 c.2 ja in
      let eb = joining-is q z d.0 b (other (slot s i) q z Q.0 zi) Q.1 zr d.1 d.2 jb in
      let g = ordered s i z c.0 d.0 o c.2 d.2 in
      let low : min c.0 d.0 ≡ v / 256 = omega (arith, ja.high, jb.high) in
      let high : max c.0 d.0 ≡ v % 256 = omega (arith, ja.high, jb.high) in
      subst (λ (y : ℕ). Pair s i z y (v % 256)) low (subst (Pair s i z (min c.0 d.0)) high g)

  module _ (i z : ℕ) (h : Reached links (slot s i) (slot s i ∩ rim) z) where
    reaching-rim : z ∈ rim
    reaching-rim = reached-rim ready.rims ready.linking ready.fine.apart i z h

    p-slot : (h.p ∈ slot s i) × (h.p ∈ rim)
    p-slot = ∈-∩⁻ h.p (slot s i) rim h.p_in

    q-slot : (h.q ∈ slot s i) × (h.q ∈ rim)
    q-slot = ∈-∩⁻ h.q (slot s i) rim h.q_in

    -- of any cluster, by the links of z
    pub joined-pair : (v : ℕ) → Joined hold (linked links z ∩ slot s i) z v → Pair s i z (v / 256) (v % 256)
    unfolding Joined
    joined-pair v m =
        met-pair i z h.p h.q v h.differ h.p_in h.q_in h.by_p h.by_q h.out
        (m h.p h.q h.differ (back h.p p-slot.0 h.by_p) (back h.q q-slot.0 h.by_q)
        (λ r e. only r e (ℕ_discrete r h.p) (ℕ_discrete r h.q)))
      where
        back : (r : ℕ) → r ∈ slot s i → z ∈ linked links r → r ∈ linked links z ∩ slot s i
        back r ri e =
            let c = ready.linking.only r z e in
            both r (linked links z) (slot s i) (ready.linking.every c.0 z r reaching-rim (Ne-symm (other (slot s i) r z ri h.out)) c.2
            c.1) ri

        only : (r : ℕ) → r ∈ linked links z ∩ slot s i → Dec (r ≡ h.p) → Dec (r ≡ h.q) → (r ≡ h.p) ⊎ (r ≡ h.q)
        only r e (yes x) y = inl x
        only r e (no n) (yes y) = inr y
        only r e (no n) (no g) =
            let b = ∈-∩⁻ r (linked links z) (slot s i) e in
            let c = ready.linking.only h.p z h.by_p in
            let d = ready.linking.only h.q z h.by_q in
            let f = ready.linking.only z r b.0 in
            absurd (no_third ready.fine i c.0 d.0 f.0 z h.p h.q r h.differ (Ne-symm n) (Ne-symm g) p-slot.0 q-slot.0 b.1
            h.out c.1 c.2 d.1 d.2 f.2 f.1)

  -- ---- the lowest cluster that reaches an element

  -- a cluster of an open merge is wanted
  open-wanted : (i j k : ℕ) → OpenAt s (merge i j k) → Wanted s links rim todo i
  open-wanted i j k o = let h = open-reached ready.rims ready.linking i j k o in (ready.queued.waiting i j k o, (h.0, h.1))

  -- clusters that reach nothing need not wait
  pub kept-todo : (todo' : List ℕ) → Kept s links rim todo todo' → Todo s todo'
  unfolding Kept
  kept-todo todo' kept = record { waiting = λ i j k o. let w = open-wanted i j k o in kept-todo-case i w.1 (kept i w.0) }
    where
      kept-todo-case : (i : ℕ) → Reaching s links rim i → (waits todo' i ≡ 1) ⊎ (Reaching s links rim i → ⊥) → waits todo' i ≡ 1
      kept-todo-case i r (inl e) = e
      kept-todo-case i r (inr n) = absurd (n r)

  module _ {i : ℕ} (li : Lowest (Wanted s links rim todo) 0 192 i) where
    -- no cluster of an open merge stands before it
    low : (b c d : ℕ) → OpenAt s (merge b c d) → i ≤ b
    low b c d o = least b li (omega arith) (open-wanted b c d o)

    -- none is open if there is none
    pub nothing : 192 ≤ i → Ended s
    unfolding Ended
    nothing n m o =
        let c = corners s m.i m.j m.k o in
        omega (arith, low m.i m.j m.k o, within m.i c.p c.p_i)

    -- else the first of its merges is the first of all
    module _ {o : ℕ} (outs : Outs links (slot s i) (slot s i ∩ rim) o) {P : ℕ → ℕ → Type 0}
        (good : (z v : ℕ) → Reached links (slot s i) (slot s i ∩ rim) z → P z v → Pair s i z (v / 256) (v % 256)) {v : ℕ} (best : Best P o v) where
      chosen : Pair s i best.z (v / 256) (v % 256)
      chosen = good best.z v (outs.only best.z best.z_in) best.here

      -- a merge of i comes not before it
      first_of : (b c : ℕ) → b < c → OpenAt s (merge i b c) → (v / 256 < b) ⊎ ((v / 256 ≡ b) × (v % 256 ≤ c))
      first_of b c l u =
          let h = open-reached ready.rims ready.linking i b c u in
          let m = best.least h.0 (outs.every h.0 h.1) in
          let w = m.0 in
          let e = pair_one ready.fine i h.0 b c (w / 256) (w % 256) (record { up = l; isopen = u; z_j = h.2; z_k = h.3 })
          (good h.0 w h.1 m.1) in
          first-of-case w m.2 e.0 e.1 (ℕ_discrete (v / 256) b)
        where
          first-of-case : (w : ℕ) → v ≤ w → b ≡ w / 256 → c ≡ w % 256 → Dec (v / 256 ≡ b) → (v / 256 < b) ⊎ ((v / 256 ≡ b) × (v % 256 ≤ c))
          first-of-case w x y t (yes e) = inr (e, omega arith)
          first-of-case w x y t (no n) = inl (omega (arith, n))

      pub found : First s (merge i (v / 256) (v % 256))
      unfolding NotAfter
      found = record {
        i<j = let d = chosen.isopen in omega (arith, low (v / 256) i (v % 256) (open-ab s i (v / 256) (v % 256) d), d.i≢j);
        j<k = chosen.up;
        isopen = chosen.isopen;
        least = λ m u. before (ascending m) (open-ascending s m u) (ascends m u.i≢j u.j≢k u.i≢k);
      }
        where
          before : (m : Merge) → OpenAt s m → (m.i < m.j) × (m.j < m.k) → NotAfter (merge i (v / 256) (v % 256)) m
          before m u t = by_i (ℕ_discrete i m.i)
            where
              by_i : Dec (i ≡ m.i) → NotAfter (merge i (v / 256) (v % 256)) m
              by_i (yes e) = inr (e, first_of m.j m.k t.1 (subst (λ (z : ℕ). OpenAt s (merge z m.j m.k)) (sym e) u))
              by_i (no n) = inl (omega (arith, low m.i m.j m.k u, n))
