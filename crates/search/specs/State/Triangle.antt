-- Three clusters make an open merge where they meet in three different elements, its corners. Assumes nothing.
use Rattle.std.specs.Prelude.{◌≡◌, ◌≢◌}
use Rattle.theory.specs.Prelude.{subst, List, ℕ, arith, ℕ_discrete, ones}
use Rattle.theory.specs.Set.{◌∈◌, ◌∩◌, at}
use Rattle.theory.specs.Set.Laws.{some, two_in, both, ∈-∩⁻, filled, counted, out, same-single}
use Rattle.theory.specs.Merge.{slot, merge, OpenAt, ShareOne}

-- ---- clusters that share at most one element

module _ {s : List ℕ} (apart : ShareOne s) where
  -- one element in common
  pub one-shared : (i j p : ℕ) → i ≢ j → p ∈ slot s i → p ∈ slot s j → ones (slot s i ∩ slot s j) ≡ 1
  one-shared i j p n a b =
      omega (
        arith,
        apart.share i j n (filled (slot s i) p a) (filled (slot s j) p b),
        counted (slot s i ∩ slot s j) p (both p (slot s i) (slot s j) a b),
      )

  -- and no second
  pub same-shared : (i j p q : ℕ) → i ≢ j → p ∈ slot s i → p ∈ slot s j → q ∈ slot s i → q ∈ slot s j → p ≡ q
  same-shared i j p q n a b d e = by (ℕ_discrete p q)
    where
      by : Dec (p ≡ q) → p ≡ q
      by (yes h) = h
      by (no h) =
          absurd (omega (
            arith,
            apart.share i j n (filled (slot s i) p a) (filled (slot s j) p b),
            two_in (slot s i ∩ slot s j) p q (both p (slot s i) (slot s j) a b) (both q (slot s i) (slot s j) d e) h,
          ))

  -- three clusters that meet in three different elements make an open merge
  pub triangle : (i j k p q r : ℕ) → i ≢ j → j ≢ k → i ≢ k → p ≢ q → p ≢ r → q ≢ r → p ∈ slot s i → p ∈ slot s j
      → q ∈ slot s i → q ∈ slot s k → r ∈ slot s j → r ∈ slot s k → OpenAt s (merge i j k)
  triangle i j k p q r ij jk ik pq pr qr pi pj qi qk rj rk = record {
    i≢j = ij;
    j≢k = jk;
    i≢k = ik;
    livei = filled (slot s i) p pi;
    livej = filled (slot s j) p pj;
    livek = filled (slot s k) q qk;
    open3 = record {
      ab = one-shared i j p ij pi pj;
      bc = one-shared j k r jk rj rk;
      ac = one-shared i k q ik qi qk;
      ab≢bc = λ e. pr (same-shared j k p r jk pj (moved p i j j k e pi pj).1 rj rk);
      bc≢ac = λ e. qr (same-shared i k q r ik qi qk (moved r j k i k e rj rk).0 rk);
      ab≢ac = λ e. pq (same-shared i k p q ik pi (moved p i j i k e pi pj).1 qi qk);
    };
  }
    where
      -- what two share is what two others share
      moved : (p a b c d : ℕ) → slot s a ∩ slot s b ≡ slot s c ∩ slot s d → p ∈ slot s a → p ∈ slot s b
          → (p ∈ slot s c) × (p ∈ slot s d)
      moved p a b c d e pa pb =
          ∈-∩⁻ p (slot s c) (slot s d) (subst (λ (z : ℕ). p ∈ z) e (both p (slot s a) (slot s b) pa pb))

-- the three elements of an open merge
pub record Corners (s : List ℕ) (i j k : ℕ) : Type 0 where
  pub p : ℕ
  pub q : ℕ
  pub r : ℕ
  pub p_i : p ∈ slot s i
  pub p_j : p ∈ slot s j
  pub p_k : at p (slot s k) ≡ 0
  pub q_i : q ∈ slot s i
  pub q_k : q ∈ slot s k
  pub q_j : at q (slot s j) ≡ 0
  pub r_j : r ∈ slot s j
  pub r_k : r ∈ slot s k
  pub r_i : at r (slot s i) ≡ 0

pub corners : (s : List ℕ) (i j k : ℕ) → OpenAt s (merge i j k) → Corners s i j k
corners s i j k o =
    let x = slot s i in
    let y = slot s j in
    let z = slot s k in
    let a = o.open3 in
    let P = some (x ∩ y) (omega (arith, a.ab)) in
    let Q = some (x ∩ z) (omega (arith, a.ac)) in
    let R = some (y ∩ z) (omega (arith, a.bc)) in
    let ip = ∈-∩⁻ P.0 x y P.1 in
    let iq = ∈-∩⁻ Q.0 x z Q.1 in
    let ir = ∈-∩⁻ R.0 y z R.1 in
    record {
      p = P.0;
      q = Q.0;
      r = R.0;
      p_i = ip.0;
      p_j = ip.1;
      p_k = out P.0 z (λ e. a.ab≢bc (same-single (x ∩ y) (y ∩ z) P.0 a.ab a.bc P.1 (both P.0 y z ip.1 e)));
      q_i = iq.0;
      q_k = iq.1;
      q_j = out Q.0 y (λ e. a.ab≢ac (same-single (x ∩ y) (x ∩ z) Q.0 a.ab a.ac (both Q.0 x y iq.0 e) Q.1));
      r_j = ir.0;
      r_k = ir.1;
      r_i = out R.0 x (λ e. a.ab≢bc (same-single (x ∩ y) (y ∩ z) R.0 a.ab a.bc (both R.0 x y e ir.0) R.1));
    }
