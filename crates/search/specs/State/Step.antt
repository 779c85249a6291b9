-- After a merge the rim, the links, the holders and the waiting clusters are again those of the clusters. Assumes nothing.
use Rattle.std.specs.Prelude.{◌≡◌, ◌≢◌, ◌⊎◌, ◌≤◌, ◌<◌}
use Rattle.theory.specs.Prelude.{refl, sym, ap, ◌∙◌, subst, inl, inr, ⊎_elim, Ne-symm, List, ℕ, arith, ℕ_discrete, length}
use Rattle.theory.specs.Prelude.{List·getD-eq-default}
use Rattle.theory.specs.Set.{◌∈◌, ◌∩◌, ◌∪◌, at}
use Rattle.theory.specs.Set.Laws.{at-le, at_zero, both, ∈-∩⁻, ∈-∪⁻, ∈-∪ˡ, ∈-∪ʳ, out, filled, other as another}
use Rattle.theory.specs.Set.Lowest.{at-beyond}
use Rattle.theory.specs.Merge.{slot, Merge, merge, OpenAt, union, three, put, Part}
use Rattle.theory.specs.Merge.Numbered.{Place, new, old, place, part-dec, alive-lt, put-new, put-old, cleared-part}
use Rattle.theory.specs.Merge.Threes.{part-a, part-b, part_c}
use Rattle.theory.specs.Plan.Order.{open-bc}
use Rattle.search.specs.State.{linked, holder, waits, Fine, Rim, Links, Holds, Todo, Outs, beyond, Linking, Holding, Gone, Nearby, Called}
use Rattle.search.specs.State.Triangle.{Corners, corners, triangle}
use Rattle.search.specs.State.Open.{other}
use Rattle.search.specs.State.Choice.{put-stays, union-shares}

-- an element of a beyond b
beyond-in : (a b p : ℕ) → p ∈ a → at p b ≡ 0 → p ∈ beyond a b
beyond-in a b p i o = omega (arith, at-beyond p a b)

-- ---- the elements of the union

-- an element of one of the three lies in the union
pub in-union : (s : List ℕ) (m : Merge) (c p : ℕ) → Part c m → p ∈ slot s c → p ∈ union (three s m)
in-union s m c p h e = omega (arith, le h, at-le p (union (three s m)))
  where
    le : Part c m → at p (slot s c) ≤ at p (union (three s m))
    le (inl z) = subst (λ (n : ℕ). at p (slot s n) ≤ at p (union (three s m))) (sym z) ((part-a (three s m)).le p)
    le (inr (inl z)) = subst (λ (n : ℕ). at p (slot s n) ≤ at p (union (three s m))) (sym z) ((part-b (three s m)).le p)
    le (inr (inr z)) = subst (λ (n : ℕ). at p (slot s n) ≤ at p (union (three s m))) (sym z) ((part_c (three s m)).le p)

-- and an element of the union in one of the three
pub of-union : (s : List ℕ) (m : Merge) (p : ℕ) → p ∈ union (three s m) → (c : ℕ) × Part c m × (p ∈ slot s c)
unfolding union
of-union s m p e = of-union-case (∈-∪⁻ p (slot s m.i ∪ slot s m.j) (slot s m.k) e)
  where
    two : (p ∈ slot s m.i) ⊎ (p ∈ slot s m.j) → (c : ℕ) × Part c m × (p ∈ slot s c)
    two (inl x) = (m.i, inl refl, x)
    two (inr x) = (m.j, inr (inl refl), x)

    of-union-case : (p ∈ slot s m.i ∪ slot s m.j) ⊎ (p ∈ slot s m.k) → (c : ℕ) × Part c m × (p ∈ slot s c)
    of-union-case (inl x) = two (∈-∪⁻ p (slot s m.i) (slot s m.j) x)
    of-union-case (inr x) = (m.k, inr (inr refl), x)

-- a part of the merge and a cluster that takes none
not-part : (m : Merge) (c d : ℕ) → Part c m → (Part d m → ⊥) → d ≢ c
not-part m c d h n e = n (subst (λ (z : ℕ). Part z m) (sym e) h)

module _ {s : List ℕ} (fine : Fine s) {rim : ℕ} {m : Merge} (o : OpenAt s m) {links : List ℕ} (rs : Rim s rim) (ls : Links s rim links) where
  -- an element of the union that another cluster holds is in the rim
  edge-rim : (d p : ℕ) → (Part d m → ⊥) → p ∈ slot s d → p ∈ union (three s m) → p ∈ rim
  edge-rim d p n pd pu =
      let c = of-union s m p pu in
      rs.shared d c.0 p (not-part m c.0 d c.1 n) pd c.2

  -- ---- the rim

  -- an element whose links lie in the union is held by no other cluster
  inner-alone : (d p : ℕ) → (Part d m → ⊥) → p ∈ slot s d → p ∈ union (three s m)
      → ((r : ℕ) → r ∈ linked links p → r ∈ union (three s m)) → ⊥
  inner-alone d p n pd pu within =
      let r = another (slot s d) p (fine.big d (filled (slot s d) p pd)) in
      let ru = within r.0 (ls.every d p r.0 (edge-rim d p n pd pu) (Ne-symm r.2) pd r.1) in
      r.2 (union-shares fine o d r.0 p n r.1 pd ru pu)

  pub rim-put : {rim' : ℕ} → Gone links (union (three s m)) rim rim' → Rim (put s m) rim'
  rim-put {rim'} g =
      record {
        shared =
            λ c d p n pc pd. rim-put-case c d p n pc pd (place s m c (filled (slot (put s m) c) p pc)) (place s m d (filled (slot (put s m) d) p pd));
      }
    where
      -- an element of a cluster d that stays, if it is in the rim, is not gone
      stays : (d p : ℕ) → (Part d m → ⊥) → p ∈ slot s d → p ∈ rim → p ∈ rim'
      stays d p n pd pr = ⊎_elim (λ e. e) (λ w. absurd (inner-alone d p n pd w.0 w.1)) (g.leaves p pr)

      rim-put-case : (c d p : ℕ) → c ≢ d → p ∈ slot (put s m) c → p ∈ slot (put s m) d → Place s m c → Place s m d → p ∈ rim'
      rim-put-case c d p n pc pd (new a b) (new e f) = absurd (n (a ∙ sym e))
      rim-put-case c d p n pc pd (new a b) (old e f) =
          let qd = sym (ap (at p) f) ∙ pd in stays d p e qd (edge-rim d p e qd (sym (ap (at p) b) ∙ pc))
      rim-put-case c d p n pc pd (old a b) (new e f) =
          let qc = sym (ap (at p) b) ∙ pc in stays c p a qc (edge-rim c p a qc (sym (ap (at p) f) ∙ pd))
      rim-put-case c d p n pc pd (old a b) (old e f) =
          let qc = sym (ap (at p) b) ∙ pc in stays c p a qc (rs.shared c d p n qc (sym (ap (at p) f) ∙ pd))

  -- ---- the links

  pub links-put : {rim' : ℕ} {links' : List ℕ} → ((p : ℕ) → p ∈ rim' → p ∈ rim)
      → Linking links (union (three s m) ∩ rim) (union (three s m)) links'
      → Links (put s m) rim' links'
  links-put {rim'} {links'} less ln = record {
    only = λ p r e. only p r e (ℕ_discrete (at p (union (three s m) ∩ rim)) 1);
    every = λ c p r i n pc rc. every c p r (less p i) n pc rc (place s m c (filled (slot (put s m) c) p pc));
  }
    where
      made : (p r : ℕ) → p ∈ union (three s m) → r ∈ union (three s m)
          → (c : ℕ) × (p ∈ slot (put s m) c) × (r ∈ slot (put s m) c)
      made p r i j = (length s, ap (at p) (put-new s m) ∙ i, ap (at r) (put-new s m) ∙ j)

      was : (p r : ℕ) → (c : ℕ) × (p ∈ slot s c) × (r ∈ slot s c)
          → (c : ℕ) × (p ∈ slot (put s m) c) × (r ∈ slot (put s m) c)
      was p r (c, i, j) = by (part-dec c m)
        where
          by : Dec (Part c m) → (c : ℕ) × (p ∈ slot (put s m) c) × (r ∈ slot (put s m) c)
          by (yes h) = made p r (in-union s m c p h i) (in-union s m c r h j)
          by (no n) = let e = put-stays s m c n (filled (slot s c) p i) in (c, ap (at p) e ∙ i, ap (at r) e ∙ j)

      only : (p r : ℕ) → r ∈ linked links' p → Dec (p ∈ union (three s m) ∩ rim)
          → (c : ℕ) × (p ∈ slot (put s m) c) × (r ∈ slot (put s m) c)
      only p r e (yes i) =
          ⊎_elim (λ h. was p r (ls.only p r h)) (λ h. made p r (∈-∩⁻ p (union (three s m)) rim i).0 h)
          (∈-∪⁻ r (linked links p) (union (three s m)) (sym (ap (at r) (ln.inside p i)) ∙ e))
      only p r e (no n) = was p r (ls.only p r (sym (ap (at r) (ln.outside p (omega (arith, at-le p (union (three s m) ∩ rim), n)))) ∙ e))

      grown : (p r : ℕ) → r ∈ linked links p → Dec (p ∈ union (three s m) ∩ rim) → r ∈ linked links' p
      grown p r e (yes i) = ap (at r) (ln.inside p i) ∙ ∈-∪ˡ r (linked links p) (union (three s m)) e
      grown p r e (no n) = ap (at r) (ln.outside p (omega (arith, at-le p (union (three s m) ∩ rim), n))) ∙ e

      every : (c p r : ℕ) → p ∈ rim → p ≢ r → p ∈ slot (put s m) c → r ∈ slot (put s m) c → Place s m c
          → r ∈ linked links' p
      every c p r i n pc rc (new e f) =
          ap (at r) (ln.inside p (both p (union (three s m)) rim (sym (ap (at p) f) ∙ pc) i)) ∙ ∈-∪ʳ r (linked links p) (union (three s m))
          (sym (ap (at r) f) ∙ rc)
      every c p r i n pc rc (old e f) =
          grown p r (ls.every c p r i n (sym (ap (at p) f) ∙ pc) (sym (ap (at r) f) ∙ rc)) (ℕ_discrete (at p (union (three s m) ∩ rim)) 1)

  -- ---- the holders

  pub holds-put : {hold hold' : List ℕ} {rim' : ℕ} → ((p : ℕ) → p ∈ rim → p < 64) → ((p : ℕ) → p ∈ rim' → p ∈ rim) → Holds s rim hold
      → Holding hold (union (three s m) ∩ rim) m (length s) hold' → Holds (put s m) rim' hold'
  holds-put {hold} {hold'} {rim'} small less hs hn =
      record { is = λ p c i l. holds-put-case p c (less p i) l (ℕ_discrete (at p (union (three s m))) 1) (ℕ_discrete c (length s)) (part-dec c m) }
    where
      -- a place that is neither made nor cleared
      same : (c : ℕ) → c ≢ length s → (Part c m → ⊥) → slot (put s m) c ≡ slot s c
      same c n h = by (ℕ_discrete (slot s c) 0) (ℕ_discrete (slot (put s m) c) 0)
        where
          by : Dec (slot s c ≡ 0) → Dec (slot (put s m) c ≡ 0) → slot (put s m) c ≡ slot s c
          by (no x) d = put-stays s m c h x
          by (yes x) (yes y) = y ∙ sym x
          by (yes x) (no y) = was (place s m c y)
            where
              was : Place s m c → slot (put s m) c ≡ slot s c
              was (new e f) = absurd (n e)
              was (old e f) = f

      -- the three are dead
      dead : (c : ℕ) → Part c m → slot (put s m) c ≡ 0
      dead c h = put-old s m c (alive c h) ∙ cleared-part s m c h
        where
          alive : (c : ℕ) → Part c m → c < length s
          alive c (inl e) = omega (arith, alive-lt s m.i o.livei)
          alive c (inr (inl e)) = omega (arith, alive-lt s m.j o.livej)
          alive c (inr (inr e)) = omega (arith, alive-lt s m.k o.livek)

      -- outside the union nothing changes
      kept : (p c : ℕ) → at p (union (three s m)) ≡ 0 → Dec (c ≡ length s) → Dec (Part c m) → at p (slot s c) ≡ at p (slot (put s m) c)
      kept p c z (yes e) d =
          ap (at p) (ap (slot s) e ∙ List·getD-eq-default s 0 (omega arith)) ∙ at_zero p ∙ sym (ap (at p) (ap (slot (put s m)) e ∙ put-new s m) ∙ z)
      kept p c z (no n) (yes h) =
          out p (slot s c) (λ e. omega (arith, in-union s m c p h e)) ∙ sym (ap (at p) (dead c h) ∙ at_zero p)
      kept p c z (no n) (no h) = ap (at p) (sym (same c n h))

      holds-put-case : (p c : ℕ) → p ∈ rim → c < 192 → Dec (p ∈ union (three s m)) → Dec (c ≡ length s) → Dec (Part c m)
          → holder hold' p c ≡ at p (slot (put s m) c)
      holds-put-case p c i l (no n) d h =
          let z : at p (union (three s m)) ≡ 0 = out p (union (three s m)) n in
          hn.outside p c l (small p i) (out p (union (three s m) ∩ rim) (λ e. n (∈-∩⁻ p (union (three s m)) rim e).0)) ∙ hs.is p c i l
          ∙ kept p c z d h
      holds-put-case p c i l (yes w) (yes e) h =
          hn.made p c l (both p (union (three s m)) rim w i) e ∙ sym (ap (at p) (ap (slot (put s m)) e ∙ put-new s m) ∙ w)
      holds-put-case p c i l (yes w) (no n) (yes h) =
          hn.dead p c l (both p (union (three s m)) rim w i) n h ∙ sym (ap (at p) (dead c h) ∙ at_zero p)
      holds-put-case p c i l (yes w) (no n) (no h) =
          hn.other p c l (both p (union (three s m)) rim w i) n h ∙ hs.is p c i l ∙ ap (at p) (sym (same c n h))

  -- ---- the clusters that wait

  pub todo-put : {hold hold' todo todo' : List ℕ} → ((p : ℕ) → p ∈ rim → p < 64) → length s < 192 → Holds s rim hold
      → Holding hold (union (three s m) ∩ rim) m (length s) hold' → Todo s todo → {reached near : ℕ}
      → Outs links (union (three s m)) (union (three s m) ∩ rim) reached → Nearby links (beyond (union (three s m) ∩ rim) (slot s m.k)) near
      → Called hold' todo m (length s) (reached ∩ near) todo' → Todo (put s m) todo'
  todo-put {hold} {hold'} {todo} {todo'} small room hs hn td {reached} {near} outs nr ca = record { waiting = λ a b c w. waiting a b c w }
    where
      part-k : Part m.k m
      part-k = inr (inr refl)

      -- a cluster that stays and waited waits
      still : (a : ℕ) → a < 192 → (Part a m → ⊥) → waits todo a ≡ 1 → waits todo' a ≡ 1
      still a l n e = ca.kept a l n e

      was : (a : ℕ) → a ≢ length s → slot (put s m) a ≢ 0 → (Part a m → ⊥) × (slot (put s m) a ≡ slot s a)
      was a n l = was-case (place s m a l)
        where
          was-case : Place s m a → (Part a m → ⊥) × (slot (put s m) a ≡ slot s a)
          was-case (new e f) = absurd (n e)
          was-case (old g f) = (g, f)

      -- a and c, which stay, make a merge with the union
      with-union : (a b c : ℕ) → OpenAt (put s m) (merge a b c) → a ≢ length s → b ≡ length s → waits todo' a ≡ 1
      with-union a b c w na e = with-union-case (ℕ_discrete (at x (slot s m.k)) 1) (ℕ_discrete (at y (slot s m.k)) 1)
        where
          nc : c ≢ length s
          nc f = w.j≢k (e ∙ sym f)

          A : (Part a m → ⊥) × (slot (put s m) a ≡ slot s a)
          A = was a na w.livei

          C : (Part c m → ⊥) × (slot (put s m) c ≡ slot s c)
          C = was c nc w.livek

          U : slot (put s m) b ≡ union (three s m)
          U = ap (slot (put s m)) e ∙ put-new s m

          K : Corners (put s m) a b c
          K = corners (put s m) a b c w

          x : ℕ
          x = K.p

          y : ℕ
          y = K.r

          z : ℕ
          z = K.q

          xa : x ∈ slot s a
          xa = sym (ap (at x) A.1) ∙ K.p_i

          xu : x ∈ union (three s m)
          xu = sym (ap (at x) U) ∙ K.p_j

          yc : y ∈ slot s c
          yc = sym (ap (at y) C.1) ∙ K.r_k

          yu : y ∈ union (three s m)
          yu = sym (ap (at y) U) ∙ K.r_j

          za : z ∈ slot s a
          za = sym (ap (at z) A.1) ∙ K.q_i

          zc : z ∈ slot s c
          zc = sym (ap (at z) C.1) ∙ K.q_k

          zu : at z (union (three s m)) ≡ 0
          zu = sym (ap (at z) U) ∙ K.q_j

          xr : x ∈ rim
          xr = edge-rim a x A.0 xa xu

          yr : y ∈ rim
          yr = edge-rim c y C.0 yc yu

          zr : z ∈ rim
          zr = rs.shared a c z w.i≢k za zc

          xz : x ≢ z
          xz = other (union (three s m)) x z xu zu

          yz : y ≢ z
          yz = other (union (three s m)) y z yu zu

          yx : y ≢ x
          yx f = omega (arith, K.r_i, K.p_i, ap (λ (v : ℕ). at v (slot (put s m) a)) f)

          x-links : z ∈ linked links x
          x-links = ls.every a x z xr xz xa za

          y-links : z ∈ linked links y
          y-links = ls.every c y z yr yz yc zc

          z-out : z ∈ reached
          z-out = outs.every z (record {
            p = x;
            q = y;
            differ = Ne-symm yx;
            p_in = both x (union (three s m)) rim xu xr;
            q_in = both y (union (three s m)) rim yu yr;
            by_p = x-links;
            by_q = y-links;
            out = zu;
          })

          la : a < 192
          la = omega (arith, alive-lt s a (filled (slot s a) x xa))

          -- z is new: a is one of its holders
          called : z ∈ near → waits todo' a ≡ 1
          called e =
              ca.holders z a la (both z reached near z-out e)
              (hn.outside z a la (small z zr) (out z (union (three s m) ∩ rim) (λ f. omega (arith, zu, (∈-∩⁻ z (union (three s m)) rim f).0)))
              ∙ hs.is z a zr la ∙ za)

          with-union-case : Dec (x ∈ slot s m.k) → Dec (y ∈ slot s m.k) → waits todo' a ≡ 1
          with-union-case (no n) d =
              called (nr.every x z (beyond-in (union (three s m) ∩ rim) (slot s m.k) x (both x (union (three s m)) rim xu xr)
              (out x (slot s m.k) n)) x-links)
          with-union-case (yes i) (no n) =
              called (nr.every y z (beyond-in (union (three s m) ∩ rim) (slot s m.k) y (both y (union (three s m)) rim yu yr)
              (out y (slot s m.k) n)) y-links)
          -- else the merge was open with the last of the three in the place of the union
          with-union-case (yes i) (yes j) =
              still a la A.0
              (td.waiting a m.k c
              (triangle fine.apart a m.k c x z y (not-part m m.k a part-k A.0) (Ne-symm (not-part m m.k c part-k C.0)) w.i≢k xz
              (Ne-symm yx) (Ne-symm yz) xa i za zc j yc))

      waiting : (a b c : ℕ) → OpenAt (put s m) (merge a b c) → waits todo' a ≡ 1
      waiting a b c w = waiting-case (ℕ_discrete a (length s)) (ℕ_discrete b (length s)) (ℕ_discrete c (length s))
        where
          waiting-case : Dec (a ≡ length s) → Dec (b ≡ length s) → Dec (c ≡ length s) → waits todo' a ≡ 1
          waiting-case (yes e) y z = ca.made a (omega arith) e
          waiting-case (no n) (yes e) z = with-union a b c w n e
          waiting-case (no n) (no k) (yes e) = with-union a c b (open-bc (put s m) a b c w) n e
          waiting-case (no n) (no k) (no l) =
              let A = was a n w.livei in
              let B = was b k w.livej in
              let C = was c l w.livek in
              let v : slot s a ≢ 0 = λ f. w.livei (A.1 ∙ f) in
              still a (omega (arith, alive-lt s a v)) A.0
              (td.waiting a b c (record {
                i≢j = w.i≢j;
                j≢k = w.j≢k;
                i≢k = w.i≢k;
                livei = v;
                livej = λ f. w.livej (B.1 ∙ f);
                livek = λ f. w.livek (C.1 ∙ f);
                open3 = rw (← A.1, ← B.1, ← C.1) w.open3;
              }))
