-- Of two lists of constraints that are not over, one is not longer than the other if each of its constraints lies in a set that is tight in the
-- other. (Not being over makes a matroid.) Assumes nothing.
use Rattle.std.specs.Prelude.{◌≡◌, ◌⊎◌, ◌∷◌, ◌+◌, ◌*◌, ◌≤◌}
use Rattle.theory.specs.Prelude.{refl, sym, ap, subst, inl, inr, ⊎_elim, List, [], ℕ, zero, suc, min, arith, dec_le}
use Rattle.theory.specs.Prelude.{ones, length}
use Rattle.theory.specs.Set.{◌∩◌, ◌∪◌, ◌⊑◌}
use Rattle.theory.specs.Set.Laws.{size-∪, ⊑⇒size≤, ⊑_refl, ⊑_trans, a⊑a∪b, b⊑a∪b, a∩b⊑a, a∩b⊑b, ∩-greatest}
use Rattle.theory.specs.Constraints.{Among, Pairs, has, carried, NotOver}
use Rattle.theory.specs.Constraints.Laws.{Has, inside, outside, has-dec, has-le, carried-two, carried-small}

-- x carries exactly twice its size less 3
abbrev pub Exact : List ℕ → ℕ → Type 0
Exact cs x = carried cs x + 3 ≡ 2 * ones x

-- every constraint of ds lies in a set that is tight in cs
pub record Covers (cs ds : List ℕ) : Type 0 where
  pub by : (m : ℕ) → Among m ds → (y : ℕ) × Exact cs y × (m ⊑ y)

-- ---- the constraints that do not lie in x

has_meet : (m x y : ℕ) → has m (x ∩ y) ≡ min (has m x) (has m y)
has_meet m x y = go (has-dec m x) (has-dec m y) (has-dec m (x ∩ y))
  where
    go : Has m x → Has m y → Has m (x ∩ y) → has m (x ∩ y) ≡ min (has m x) (has m y)
    go (inside i e) (inside j f) (inside k g) = omega arith
    go (inside i e) (inside j f) (outside k g) = absurd (k (∩-greatest i j))
    go (inside i e) (outside j f) (inside k g) = absurd (j (⊑_trans k (a∩b⊑b x y)))
    go (inside i e) (outside j f) (outside k g) = omega arith
    go (outside i e) q (inside k g) = absurd (i (⊑_trans k (a∩b⊑a x y)))
    go (outside i e) q (outside k g) = omega arith

unfoldable keep : ℕ → ℕ → List ℕ → List ℕ
keep zero m l = m ∷ l
keep (suc k) m l = l

unfoldable rest : List ℕ → ℕ → List ℕ
rest [] x = []
rest (m ∷ cs) x = keep (has m x) m (rest cs x)

keep-length : (k m : ℕ) (l : List ℕ) → k ≤ 1 → length (keep k m l) + k ≡ suc (length l)
unfolding keep
keep-length zero m l h = omega arith
keep-length (suc k) m l h = omega arith

keep-carried : (k m : ℕ) (l : List ℕ) (y : ℕ) → k ≤ 1 → carried (keep k m l) y + min k (has m y) ≡ has m y + carried l y
unfolding keep carried
keep-carried zero m l y h = omega arith
keep-carried (suc k) m l y h = omega (arith, has-le m y)

keep-among : (x m : ℕ) (l : List ℕ) (z : ℕ) → Has m x → Among z (keep (has m x) m l) → ((z ≡ m) × (m ⊑ x → ⊥)) ⊎ Among z l
unfolding keep
keep-among x m l z (inside i e) h = inr (subst (λ (k : ℕ). Among z (keep k m l)) e h)
keep-among x m l z (outside n e) h = ⊎_elim (λ p. inl (p, n)) inr (subst (λ (k : ℕ). Among z (keep k m l)) e h)

rest-length : (cs : List ℕ) (x : ℕ) → length (rest cs x) + carried cs x ≡ length cs
unfolding rest carried
rest-length [] x = refl
rest-length (m ∷ cs) x = omega (arith, keep-length (has m x) m (rest cs x) (has-le m x), rest-length cs x)

rest-carried : (cs : List ℕ) (x y : ℕ) → carried (rest cs x) y + carried cs (x ∩ y) ≡ carried cs y
unfolding rest carried
rest-carried [] x y = refl
rest-carried (m ∷ cs) x y = omega (arith, keep-carried (has m x) m (rest cs x) y (has-le m x), has_meet m x y, rest-carried cs x y)

rest-among : (cs : List ℕ) (x z : ℕ) → Among z (rest cs x) → Among z cs × (z ⊑ x → ⊥)
unfolding rest
rest-among [] x z h = absurd h
rest-among (m ∷ cs) x z h =
    ⊎_elim (λ p. (inl p.0, λ i. p.1 (subst (λ (w : ℕ). w ⊑ x) p.0 i))) (λ k. let r = rest-among cs x z k in (inr r.0, r.1))
    (keep-among x m (rest cs x) z (has-dec m x) h)

rest-fine : (cs : List ℕ) → NotOver cs → (x : ℕ) → NotOver (rest cs x)
unfolding NotOver
rest-fine cs fine x y b = omega (arith, fine y b, rest-carried cs x y)

rest-pairs : (cs : List ℕ) → Pairs cs → (x : ℕ) → Pairs (rest cs x)
unfolding Pairs
rest-pairs cs p x z h = p z (rest-among cs x z h).0

-- ---- two tight sets that share two elements are one

pub exact-or : (cs : List ℕ) → NotOver cs → (x y : ℕ) → Exact cs x → Exact cs y → 2 ≤ ones (x ∩ y) → Exact cs (x ∪ y)
unfolding NotOver
exact-or cs fine x y ex ey b =
    let c : 2 ≤ ones (x ∪ y) = omega (arith, ⊑⇒size≤ x (x ∩ y) (a∩b⊑a x y), ⊑⇒size≤ (x ∪ y) x (a⊑a∪b x y)) in
    omega (arith, fine (x ∩ y) b, fine (x ∪ y) c, carried-two cs x y, size-∪ x y)

abbrev All : (ℕ → Type 0) → List ℕ → Type 0
All P l = (x : ℕ) → Among x l → P x

-- a list of tight sets, in one of which each set of another lies
record Wider (cs k l : List ℕ) : Type 0 where
  exact : All (Exact cs) l
  size : suc (length l) ≡ length k
  holds : (z : ℕ) → Among z k → (w : ℕ) × Among w l × (z ⊑ w)

data Joined (cs : List ℕ) (x : ℕ) (l : List ℕ) : Type 0 where
  joined : (k : List ℕ) → Wider cs (x ∷ l) k → Joined cs x l
  apart : All (λ y. ones (x ∩ y) ≤ 1) l → Joined cs x l

join : (cs : List ℕ) → NotOver cs → (x : ℕ) → Exact cs x → (l : List ℕ) → All (Exact cs) l → Joined cs x l
join cs fine x ex [] h = apart (λ y i. absurd i)
join cs fine x ex (y ∷ l) h = go (dec_le 2 (ones (x ∩ y))) (join cs fine x ex l (λ z i. h z (inr i)))
  where
    go : Dec (2 ≤ ones (x ∩ y)) → Joined cs x l → Joined cs x (y ∷ l)
    go (yes b) r = joined ((x ∪ y) ∷ l) (record {
      exact = λ z. ⊎_elim (λ e. subst (Exact cs) (sym e) (exact-or cs fine x y ex (h y (inl refl)) b)) (λ i. h z (inr i));
      size = refl;
      holds = λ z.
          ⊎_elim (λ e. (x ∪ y, inl refl, subst (λ (w : ℕ). w ⊑ x ∪ y) (sym e) (a⊑a∪b x y)))
          (⊎_elim (λ e. (x ∪ y, inl refl, subst (λ (w : ℕ). w ⊑ x ∪ y) (sym e) (b⊑a∪b x y))) (λ i. (z, inr i, ⊑_refl z)));
    })
    go (no n) (apart a) = apart (λ z. ⊎_elim (λ e. omega (arith, n, ap (λ (w : ℕ). ones (x ∩ w)) e)) (a z))
    go (no n) (joined k w) = joined (y ∷ k) (record {
      exact = λ z. ⊎_elim (λ e. subst (Exact cs) (sym e) (h y (inl refl))) (w.exact z);
      size = ap suc w.size;
      holds = λ z.
          ⊎_elim (λ e. let r = w.holds z (inl e) in (r.0, inr r.1, r.2))
          (⊎_elim (λ e. (y, inl refl, subst (λ (v : ℕ). v ⊑ y) (sym e) (⊑_refl y))) (λ i. let r = w.holds z (inr i) in (r.0, inr r.1, r.2)));
    })

-- ---- the lemma, for a list of tight sets

abbrev Goal : List ℕ → Type 0
Goal l = (cs ds : List ℕ) → Pairs cs → NotOver cs → NotOver ds → All (Exact cs) l → All (λ m. (y : ℕ) × Among y l × (m ⊑ y)) ds → length ds ≤ length cs

none-held : (cs ds : List ℕ) → All (λ m. (y : ℕ) × Among y [] × (m ⊑ y)) ds → length ds ≤ length cs
none-held cs [] c = omega arith
none-held cs (m ∷ ds) c = absurd (c m (inl refl)).1

within : (f : ℕ) (l : List ℕ) → length l ≤ f → Goal l
unfolding NotOver
within zero [] s cs ds p fine gine h c = none-held cs ds c
within zero (x ∷ l) s cs ds p fine gine h c = absurd (omega arith)
within (suc f) [] s cs ds p fine gine h c = none-held cs ds c
within (suc f) (x ∷ l) s cs ds p fine gine h c = go (λ k t. within f k t) (join cs fine x (h x (inl refl)) l (λ z i. h z (inr i)))
  where
    next : All (λ y. ones (x ∩ y) ≤ 1) l → All (Exact (rest cs x)) l
    next a y i = omega (arith, rest-carried cs x y, carried-small cs p (x ∩ y) (a y i), h y (inr i))

    held : All (λ m. (y : ℕ) × Among y l × (m ⊑ y)) (rest ds x)
    held m i = let r = rest-among ds x m i in
        let k = c m r.0 in ⊎_elim (λ e. absurd (r.1 (subst (λ (w : ℕ). m ⊑ w) e k.2))) (λ j. (k.0, j, k.2)) k.1

    go : ((l : List ℕ) → length l ≤ f → Goal l) → Joined cs x l → length ds ≤ length cs
    go ih (joined k w) =
        ih k (omega (arith, w.size)) cs ds p fine gine w.exact
        (λ m i. let a = c m i in let b = w.holds a.0 a.1 in (b.0, b.1, ⊑_trans a.2 b.2))
    go ih (apart a) =
        omega (
          arith,
          ih l (omega arith) (rest cs x) (rest ds x) (rest-pairs cs p x) (rest-fine cs fine x) (rest-fine ds gine x) (next a) held,
          rest-length cs x,
          rest-length ds x,
          h x (inl refl),
          gine x (omega (arith, h x (inl refl))),
        )

-- the sets that cover a list
gather : (cs ds : List ℕ) → All (λ m. (y : ℕ) × Exact cs y × (m ⊑ y)) ds → (l : List ℕ) × All (Exact cs) l × All (λ m. (y : ℕ) × Among y l × (m ⊑ y)) ds
gather cs [] h = ([], λ x i. absurd i, λ m i. absurd i)
gather cs (m ∷ ds) h =
    let r = gather cs ds (λ z i. h z (inr i)) in
    let a = h m (inl refl) in (
      a.0 ∷ r.0,
      λ z. ⊎_elim (λ e. subst (Exact cs) (sym e) a.1) (r.1 z),
      λ z. ⊎_elim (λ e. (a.0, inl refl, subst (λ (w : ℕ). w ⊑ a.0) (sym e) a.2)) (λ i. let b = r.2 z i in (b.0, inr b.1, b.2)),
    )

pub covers-length : (cs ds : List ℕ) → Pairs cs → NotOver cs → NotOver ds → Covers cs ds → length ds ≤ length cs
covers-length cs ds p fine gine c = let r = gather cs ds c.by in within (length r.0) r.0 (omega arith) cs ds p fine gine r.1 r.2
