-- Where two living clusters share at most one element, the clusters that take part in an open merge are those that reach an element by their
-- part of the rim. Assumes nothing.
use Rattle.std.specs.Prelude.{◌≡◌, ◌≢◌}
use Rattle.theory.specs.Prelude.{sym, ap, subst, Ne-symm, List, ℕ, arith}
use Rattle.theory.specs.Set.{◌∈◌, ◌∩◌, at}
use Rattle.theory.specs.Set.Laws.{both, ∈-∩⁻}
use Rattle.theory.specs.Merge.{slot, merge, OpenAt, ShareOne}
use Rattle.search.specs.State.{Rim, Links, Reached}
use Rattle.search.specs.State.Triangle.{same-shared, triangle, corners}

-- in and out
pub apart_by : (s : List ℕ) (c d r : ℕ) → r ∈ slot s c → at r (slot s d) ≡ 0 → c ≢ d
apart_by s c d r a b e = omega (arith, ap (λ (z : ℕ). at r (slot s z)) e)

pub other : (x p r : ℕ) → p ∈ x → at r x ≡ 0 → p ≢ r
other x p r a b e = omega (arith, ap (λ (z : ℕ). at z x) e)

module _ {s : List ℕ} (apart : ShareOne s) where
  -- a cluster j that shares p with i, and another element q of i linked to r: the cluster that links them closes the merge
  pub closes : (i j k p q r : ℕ) → p ≢ q → p ∈ slot s i → p ∈ slot s j → r ∈ slot s j → q ∈ slot s i
      → q ∈ slot s k → r ∈ slot s k → at r (slot s i) ≡ 0 → OpenAt s (merge i j k)
  closes i j k p q r n pi pj rj qi qk rk ri =
      let i≢j : i ≢ j = Ne-symm (apart_by s j i r rj ri) in
      triangle apart i j k p q r i≢j (λ e. n (same-shared apart i j p q i≢j pi pj qi (subst (λ (z : ℕ). q ∈ slot s z) (sym e) qk)))
      (Ne-symm (apart_by s k i r rk ri)) n (other (slot s i) p r pi ri) (other (slot s i) q r qi ri) pi pj qi qk rj rk

module _ {s : List ℕ} {rim : ℕ} {links : List ℕ} (rs : Rim s rim) (ls : Links s rim links) where
  -- a cluster of an open merge reaches the element that the other two share
  pub open-reached : (i j k : ℕ) → OpenAt s (merge i j k)
      → (r : ℕ) × Reached links (slot s i) (slot s i ∩ rim) r × (r ∈ slot s j) × (r ∈ slot s k)
  open-reached i j k o =
      let c = corners s i j k o in
      let pr : c.p ∈ rim = rs.shared i j c.p o.i≢j c.p_i c.p_j in
      let qr : c.q ∈ rim = rs.shared i k c.q o.i≢k c.q_i c.q_k in (
        c.r,
        record {
          p = c.p;
          q = c.q;
          differ = λ e. omega (arith, c.p_j, c.q_j, ap (λ (z : ℕ). at z (slot s j)) e);
          p_in = both c.p (slot s i) rim c.p_i pr;
          q_in = both c.q (slot s i) rim c.q_i qr;
          by_p = ls.every j c.p c.r pr (other (slot s i) c.p c.r c.p_i c.r_i) c.p_j c.r_j;
          by_q = ls.every k c.q c.r qr (other (slot s i) c.q c.r c.q_i c.r_i) c.q_k c.r_k;
          out = c.r_i;
        },
        c.r_j,
        c.r_k,
      )

  module _ (apart : ShareOne s) where
    -- a cluster that reaches an element takes part in an open merge, of clusters that hold it
    pub reached-open : (i r : ℕ) → Reached links (slot s i) (slot s i ∩ rim) r
        → (j : ℕ) × (k : ℕ) × OpenAt s (merge i j k) × (r ∈ slot s j) × (r ∈ slot s k)
    reached-open i r h =
        let a = ls.only h.p r h.by_p in
        let b = ls.only h.q r h.by_q in
        let pi = (∈-∩⁻ h.p (slot s i) rim h.p_in).0 in
        let qi = (∈-∩⁻ h.q (slot s i) rim h.q_in).0 in
        (a.0, b.0, closes apart i a.0 b.0 h.p h.q r h.differ pi a.1 a.2 qi b.1 b.2 h.out, a.2, b.2)

    -- and that element is in the rim
    pub reached-rim : (i r : ℕ) → Reached links (slot s i) (slot s i ∩ rim) r → r ∈ rim
    reached-rim i r h = let o = reached-open i r h in rs.shared o.0 o.1 r o.2.j≢k o.3 o.4
