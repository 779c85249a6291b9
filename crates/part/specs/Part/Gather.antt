-- The steps of the living clusters, one cluster after another: a merge adds its own step to them, and moves no other to another cluster. So no step
-- stands in two clusters, nor twice in one. Assumes nothing.
use Rattle.std.specs.Prelude.{◌+◌, ◌≤◌, ◌<◌, ◌≡◌, ◌≢◌, ◌∷◌, ◌++◌}
use Rattle.theory.specs.Prelude.{ℕ, zero, suc, ℕ_discrete, arith, eq-eqb, ne_eqb, refl, sym, ap, ◌∙◌, subst, Ne-symm, List}
use Rattle.theory.specs.Prelude.{[], append_assoc, append-nil, eqb, ones, length, set, get_or, length-append, List·getD-append}
use Rattle.theory.specs.Prelude.{get_or-set_other, get_or-append-add, ext_get_or}
use Rattle.theory.specs.Set.Laws.{size-zero, ⊑⇒size≤}
use Rattle.theory.specs.Constraints.{Perm, same, skip, swap, then, one_if}
use Rattle.theory.specs.Merge.{Merge, slot, three, union, OpenAt, cleared, put, total, living, left}
use Rattle.theory.specs.Merge.Count.{total-set, living-one}
use Rattle.theory.specs.Merge.Numbered.{length-cleared}
use Rattle.theory.specs.Merge.Threes.{part-a, big-a}
use Rattle.theory.specs.declared.Step.{Step}
use Rattle.engine.specs.Steps.{blank_step}
use Rattle.part.specs.Shown.{times}

-- ---- lists in another order

perm-sym : {l k : List Step} → Perm l k → Perm k l
perm-sym same = same
perm-sym (skip x p) = skip x (perm-sym p)
perm-sym (swap x y) = swap y x
perm-sym (then p q) = then (perm-sym q) (perm-sym p)

after_front : (a : List Step) {l k : List Step} → Perm l k → Perm (a ++ l) (a ++ k)
after_front [] p = p
after_front (x ∷ a) p = skip x (after_front a p)

pub before-end : {l k : List Step} → Perm l k → (a : List Step) → Perm (l ++ a) (k ++ a)
before-end same a = same
before-end (skip x p) a = skip x (before-end p a)
before-end (swap x y) a = swap x y
before-end (then p q) a = then (before-end p a) (before-end q a)

one_later : (x : Step) (b l : List Step) → Perm (x ∷ (b ++ l)) (b ++ (x ∷ l))
one_later x [] l = same
one_later x (y ∷ b) l = then (swap x y) (skip y (one_later x b l))

-- the first of two lists goes behind the second
later : (a b l : List Step) → Perm (a ++ (b ++ l)) (b ++ (a ++ l))
later [] b l = same
later (x ∷ a) b l = then (skip x (later a b l)) (one_later x b (a ++ l))

-- ---- how many make a cluster

pub times-append : (d : ℕ) (xs ys : List Step) → times d (xs ++ ys) ≡ times d xs + times d ys
unfolding times
times-append d [] ys = omega arith
times-append d (x ∷ xs) ys = omega (arith, times-append d xs ys)

pub times-perm : (d : ℕ) {l k : List Step} → Perm l k → times d l ≡ times d k
unfolding times
times-perm d same = refl
times-perm d (skip x p) = ap (λ (n : ℕ). one_if (eqb x.made d) + n) (times-perm d p)
times-perm d (swap x y) = omega arith
times-perm d (then p q) = times-perm d p ∙ times-perm d q

-- ---- the first n steps

unfoldable pub firsts : (ℕ → Step) → ℕ → List Step
firsts step zero = []
firsts step (suc n) = firsts step n ++ (step n ∷ [])

module _ (step : ℕ → Step) where
  length-firsts : (n : ℕ) → length (firsts step n) ≡ n
  unfolding firsts
  length-firsts zero = refl
  length-firsts (suc n) = omega (arith, length-append (firsts step n) (step n ∷ []), length-firsts n)

  get_or-firsts : (n t : ℕ) → t < n → get_or (firsts step n) t blank_step ≡ step t
  unfolding firsts
  get_or-firsts zero t h = absurd (omega arith)
  get_or-firsts (suc n) t h = by (λ b. get_or-firsts n t b) (ℕ_discrete t n)
    where
      by : (t < n → get_or (firsts step n) t blank_step ≡ step t) → Dec (t ≡ n) → get_or (firsts step n ++ (step n ∷ [])) t blank_step ≡ step t
      by earlier (yes q) =
          let z : t ≡ length (firsts step n) + 0 = omega (arith, length-firsts n) in
          ap (λ (u : ℕ). get_or (firsts step n ++ (step n ∷ [])) u blank_step) z ∙ get_or-append-add (firsts step n) (step n ∷ []) 0 blank_step
          ∙ ap step (sym q)
      by earlier (no q) =
          List·getD-append (firsts step n) (step n ∷ []) blank_step t (omega (arith, length-firsts n)) ∙ earlier (omega arith)

  -- where step t makes cluster e+t, each makes another
  module _ (e : ℕ) where
    pub firsts-few : (n : ℕ) → ((t : ℕ) → t < n → (step t).made ≡ e + t) → (d : ℕ)
        → (times d (firsts step n) ≤ 1) × (e + n ≤ d → times d (firsts step n) ≡ 0)
    unfolding firsts times
    firsts-few zero made d = (omega arith, λ h. refl)
    firsts-few (suc n) made d = by (firsts-few n (λ t h. made t (omega arith)) d) (ℕ_discrete (step n).made d)
      where
        own : (step n).made ≡ e + n
        own = made n (omega arith)

        by : (times d (firsts step n) ≤ 1) × (e + n ≤ d → times d (firsts step n) ≡ 0) → Dec ((step n).made ≡ d)
            → (times d (firsts step n ++ (step n ∷ [])) ≤ 1) × (e + suc n ≤ d → times d (firsts step n ++ (step n ∷ [])) ≡ 0)
        by before (yes q) = (
          omega (arith, times-append d (firsts step n) (step n ∷ []), before.1 (omega (arith, own)), ap one_if (eq-eqb (step n).made d q)),
          λ h. absurd (omega (arith, own)),
        )
        by before (no q) = (
          omega (arith, times-append d (firsts step n) (step n ∷ []), before.0, ap one_if (ne_eqb (step n).made d q)),
          λ h. omega (arith, times-append d (firsts step n) (step n ∷ []), before.1 (omega arith), ap one_if (ne_eqb (step n).made d q)),
        )

-- the steps of a list, by place
pub firsts-all : (l : List Step) → firsts (λ t. get_or l t blank_step) (length l) ≡ l
firsts-all l =
    ext_get_or blank_step (firsts (λ t. get_or l t blank_step) (length l)) l (length-firsts (λ t. get_or l t blank_step) (length l))
    (λ t h. get_or-firsts (λ t. get_or l t blank_step) (length l) t (omega (arith, length-firsts (λ t. get_or l t blank_step) (length l))))

-- ---- the lists of the living clusters, the first of which is number n

unfoldable pub gather : (ℕ → List Step) → ℕ → List ℕ → List Step
gather of n [] = []
gather of n (zero ∷ s) = gather of (suc n) s
gather of n (suc x ∷ s) = of n ++ gather of (suc n) s

module _ (of : ℕ → List Step) where
  -- that of a living cluster, and the others
  pub gather-set : (s : List ℕ) (n k m : ℕ) → m ≡ n + k → slot s k ≢ 0 → Perm (gather of n s) (of m ++ gather of n (set s k 0))
  unfolding gather
  gather-set [] n k m e z = absurd (z refl)
  gather-set (zero ∷ s) n zero m e z = absurd (z refl)
  gather-set (suc x ∷ s) n zero m e z =
      let q : n ≡ m = omega arith in
      subst (λ (u : ℕ). Perm (of n ++ gather of (suc n) s) (of u ++ gather of (suc n) s)) q same
  gather-set (zero ∷ s) n (suc k) m e z = gather-set s (suc n) k m (omega arith) z
  gather-set (suc x ∷ s) n (suc k) m e z =
      then (after_front (of n) (gather-set s (suc n) k m (omega arith) z)) (later (of n) (of m) (gather of (suc n) (set s k 0)))

  gather_append : (s : List ℕ) (n m u : ℕ) → m ≡ n + length s → u ≢ 0 → gather of n (s ++ (u ∷ [])) ≡ gather of n s ++ of m
  unfolding gather
  gather_append [] n m zero e z = absurd (z refl)
  gather_append [] n m (suc u) e z = let q : n ≡ m = omega arith in append-nil (of n) ∙ ap of q
  gather_append (zero ∷ s) n m u e z = gather_append s (suc n) m u (omega arith) z
  gather_append (suc x ∷ s) n m u e z =
      ap (of n ++◌) (gather_append s (suc n) m u (omega arith) z) ∙ sym (append_assoc (of n) (gather of (suc n) s) (of m))

  pub gather_none : (s : List ℕ) (n : ℕ) → ((k : ℕ) → k < length s → of (n + k) ≡ []) → gather of n s ≡ []
  unfolding gather
  gather_none [] n h = refl
  gather_none (x ∷ s) n h =
      by x
      (gather_none s (suc n) (λ k b.
      let q : suc n + k ≡ n + suc k = omega arith in
      ap of q ∙ h (suc k) (omega arith)))
    where
      first : of n ≡ []
      first = let q : n ≡ n + 0 = omega arith in ap of q ∙ h 0 (omega arith)

      by : (y : ℕ) → gather of (suc n) s ≡ [] → gather of n (y ∷ s) ≡ []
      by zero rest = rest
      by (suc y) rest = ap (◌++ gather of (suc n) s) first ∙ rest

  -- none lives
  gather-dead : (s : List ℕ) (n : ℕ) → left s ≡ 0 → gather of n s ≡ []
  unfolding gather left total
  gather-dead [] n h = refl
  gather-dead (zero ∷ s) n h = gather-dead s (suc n) (omega arith)
  gather-dead (suc x ∷ s) n h = absurd (omega arith)

-- ---- a merge

pub union-lives : (s : List ℕ) (m : Merge) → OpenAt s m → union (three s m) ≢ 0
union-lives s m o e = omega (
  arith,
  big-a (slot s m.i) (slot s m.j) (slot s m.k) o.open3,
  ⊑⇒size≤ (union (three s m)) (slot s m.i) (part-a (three s m)),
  ap ones e,
  size-zero,
)

module _ (of : ℕ → List Step) (s : List ℕ) (m : Merge) (o : OpenAt s m) where
  abbrev parts : List Step → List Step
  parts l = of m.i ++ (of m.j ++ (of m.k ++ l))

  -- the parts' lists, and those of the others
  apart : Perm (gather of 0 s) (parts (gather of 0 (cleared s m)))
  unfolding cleared
  apart =
      let s1 = set s m.i 0 in
      let s2 = set s1 m.j 0 in
      let j : slot s1 m.j ≢ 0 = λ z. o.livej (sym (get_or-set_other s m.i m.j 0 0 (Ne-symm o.i≢j)) ∙ z) in
      let k : slot s2 m.k ≢ 0 =
      λ z. o.livek (sym (get_or-set_other s1 m.j m.k 0 0 (Ne-symm o.j≢k) ∙ get_or-set_other s m.i m.k 0 0 (Ne-symm o.i≢k)) ∙ z) in
      then (gather-set of s 0 m.i m.i (omega arith) o.livei)
      (after_front (of m.i) (then (gather-set of s1 0 m.j m.j (omega arith) j)
      (after_front (of m.j) (gather-set of s2 0 m.k m.k (omega arith) k))))

  -- the list of the new cluster, which has its own step last
  module _ (own : Step) (made : of (length s) ≡ parts (own ∷ [])) where
    pub gather-put : Perm (gather of 0 (put s m)) (gather of 0 s ++ (own ∷ []))
    unfolding put
    gather-put =
        let others = gather of 0 (cleared s m) in
        let o1 = own ∷ [] in
        let joined : gather of 0 (cleared s m ++ (union (three s m) ∷ [])) ≡ others ++ parts o1 =
        gather_append of (cleared s m) 0 (length s) (union (three s m)) (omega (arith, length-cleared s m)) (union-lives s m o)
        ∙ ap (others ++◌) made in
        let moved : Perm (others ++ parts o1) (parts (others ++ o1)) =
        then (later others (of m.i) (of m.j ++ (of m.k ++ o1)))
        (after_front (of m.i) (then (later others (of m.j) (of m.k ++ o1)) (after_front (of m.j) (later others (of m.k) o1)))) in
        let assoc : parts (others ++ o1) ≡ parts others ++ o1 =
        ap (λ (l : List Step). of m.i ++ (of m.j ++ l)) (sym (append_assoc (of m.k) others o1))
        ∙ ap (of m.i ++◌) (sym (append_assoc (of m.j) (of m.k ++ others) o1))
        ∙ sym (append_assoc (of m.i) (of m.j ++ (of m.k ++ others)) o1) in
        subst (λ (l : List Step). Perm l (gather of 0 s ++ o1)) (sym joined)
        (then moved (subst (λ (l : List Step). Perm l (gather of 0 s ++ o1)) (sym assoc) (before-end (perm-sym apart) o1)))

-- a cluster that alone is left has every step
pub gather-one : (of : ℕ → List Step) (s : List ℕ) (c : ℕ) → left s ≡ 1 → slot s c ≢ 0 → Perm (of c) (gather of 0 s)
unfolding left
gather-one of s c one z =
    let dead : left (set s c 0) ≡ 0 = omega (arith, total-set living refl s c, living-one (slot s c) z) in
    let rest : of c ++ gather of 0 (set s c 0) ≡ of c = ap (of c ++◌) (gather-dead of (set s c 0) 0 dead) ∙ append-nil (of c) in
    perm-sym (subst (Perm (gather of 0 s)) rest (gather-set of s 0 c c (omega arith) z))

-- the steps of a living cluster are among them
pub times-gather : (of : ℕ → List Step) (s : List ℕ) (c d : ℕ) → slot s c ≢ 0 → times d (of c) ≤ times d (gather of 0 s)
times-gather of s c d z =
    omega (arith, times-perm d (gather-set of s 0 c c (omega arith) z), times-append d (of c) (gather of 0 (set s c 0)))
