-- Laws of constraints: what is carried by two sets, by three and a fourth, by the sheet's own elements, in any order of the constraints.
-- Assumes nothing.
use Rattle.std.specs.Prelude.{◌≡◌, ◌≢◌, ◌↔◌, ◌⊎◌, ◌∷◌, ◌+◌, ◌*◌, ◌^◌, ◌≤◌, ◌<◌}
use Rattle.theory.specs.Prelude.{refl, sym, ap, ap₂, ◌∙◌, subst, inl, inr, ⊎_elim, Iff-trans, Iff-rfl, Bool, true, false}
use Rattle.theory.specs.Prelude.{List, [], map, ℕ, zero, suc, arith, ℕ_discrete, dec_le, or_lt, eqb, eqb→eq}
use Rattle.theory.specs.Prelude.{eqb_refl, T, ones, length, pow-lt}
use Rattle.theory.specs.Set.{◌∈◌, ◌∩◌, ◌∪◌, at, ◌⊑◌, full}
use Rattle.theory.specs.Set.Laws.{at-∪, at-le, bit, ⊑⇒size≤, ⊑-size-≡, ⊑_refl, ⊑_trans, a⊑a∪b, b⊑a∪b, a∩b⊑a, a∩b⊑b, ∩-greatest, ⊑⇒∩≡}
use Rattle.theory.specs.Set.Laws.{∩≡⇒⊑, ∪-comm, singles-or, at_same, at_other, size-pow, pow-ne, below-full, cut_below}
use Rattle.theory.specs.Constraints.{pair, Among, Pairs, Below, Perm, same, skip, swap, then, one_if, has, carried, NotOver, NotOverIn}

-- ---- whether a constraint lies in a set

pub data Has (m x : ℕ) : Type 0 where
  inside : m ⊑ x → has m x ≡ 1 → Has m x
  outside : (m ⊑ x → ⊥) → has m x ≡ 0 → Has m x

pub has-dec : (m x : ℕ) → Has m x
unfolding has
has-dec m x = go (eqb (m ∩ x) m) refl
  where
    go : (b : Bool) → eqb (m ∩ x) m ≡ b → Has m x
    go true e = inside (∩≡⇒⊑ m x (eqb→eq (m ∩ x) m (subst T (sym e) tt))) (ap one_if e)
    go false e = outside (λ h. subst T (ap₂ eqb (sym (⊑⇒∩≡ m x h)) refl ∙ e) (eqb_refl m)) (ap one_if e)

pub has_in : (m x : ℕ) → m ⊑ x → has m x ≡ 1
has_in m x h = elim (has-dec m x) [ inside i e ↦ e | outside n e ↦ absurd (n h) ]

-- 0 or 1; monotone; and what lies in two sets lies in what they share
pub has-le : (m x : ℕ) → has m x ≤ 1
has-le m x = elim (has-dec m x) [ inside i e ↦ omega arith | outside n e ↦ omega arith ]

pub has-mono : (m x y : ℕ) → x ⊑ y → has m x ≤ has m y
has-mono m x y h = elim (has-dec m x) [ inside i e ↦ omega (arith, has_in m y (⊑_trans i h)) | outside n e ↦ omega arith ]

pub has-and : (m x y : ℕ) → has m x + has m y ≤ has m (x ∩ y) + 1
has-and m x y = elim (has-dec m x) [
  | inside i e ↦ elim (has-dec m y) [ inside j f ↦ omega (arith, has_in m (x ∩ y) (∩-greatest i j)) | outside n f ↦ omega arith ]
  | outside n e ↦ elim (has-dec m y) [ inside j f ↦ omega arith | outside k f ↦ omega arith ]
]

has-two : (m x y : ℕ) → has m x + has m y ≤ has m (x ∪ y) + has m (x ∩ y)
has-two m x y =
    let l = has-mono m x (x ∪ y) (a⊑a∪b x y) in
    let r = has-mono m y (x ∪ y) (b⊑a∪b x y) in
    let b = has-and m x y in
    ⊎_elim (λ (e : has m (x ∪ y) ≡ 0). omega arith) (λ (e : has m (x ∪ y) ≡ 1). omega arith) (bit (has m (x ∪ y)) (has-le m (x ∪ y)))

-- three sets and a fourth, for one constraint
has-four : (m a b c d : ℕ)
    → has m a + has m b + has m c + has m ((a ∪ b ∪ c) ∩ d)
    ≤ has m (a ∪ b ∪ c) + has m (a ∩ b) + has m (b ∩ c) + has m (a ∩ c) + has m (a ∩ d) + has m (b ∩ d) + has m (c ∩ d)
has-four m a b c d =
    let u = a ∪ b ∪ c in
    let la = has-mono m a u (⊑_trans (a⊑a∪b a b) (a⊑a∪b (a ∪ b) c)) in
    let lb = has-mono m b u (⊑_trans (b⊑a∪b a b) (a⊑a∪b (a ∪ b) c)) in
    let lc = has-mono m c u (b⊑a∪b (a ∪ b) c) in
    let lu = has-le m u in
    let ud = has-mono m (u ∩ d) u (a∩b⊑a u d) in
    let du = has-mono m (u ∩ d) d (a∩b⊑b u d) in
    let ab = has-and m a b in
    let bc = has-and m b c in
    let ac = has-and m a c in
    let ad = has-and m a d in
    let bd = has-and m b d in
    let cd = has-and m c d in
    ⊎_elim
    (λ (p : has m a ≡ 0).
    ⊎_elim
    (λ (q : has m b ≡ 0).
    ⊎_elim (λ (r : has m c ≡ 0). omega arith) (λ (r : has m c ≡ 1). omega arith) (bit (has m c) (has-le m c)))
    (λ (q : has m b ≡ 1). omega arith) (bit (has m b) (has-le m b)))
    (λ (p : has m a ≡ 1). omega arith) (bit (has m a) (has-le m a))

-- ---- what a set carries
pub carried-mono : (cs : List ℕ) (x y : ℕ) → x ⊑ y → carried cs x ≤ carried cs y
unfolding carried
carried-mono [] x y h = omega arith
carried-mono (m ∷ cs) x y h = omega (arith, has-mono m x y h, carried-mono cs x y h)

pub carried-two : (cs : List ℕ) (x y : ℕ) → carried cs x + carried cs y ≤ carried cs (x ∪ y) + carried cs (x ∩ y)
unfolding carried
carried-two [] x y = omega arith
carried-two (m ∷ cs) x y = omega (arith, has-two m x y, carried-two cs x y)

pub carried-four : (cs : List ℕ) (a b c d : ℕ)
    → carried cs a + carried cs b + carried cs c + carried cs ((a ∪ b ∪ c) ∩ d)
    ≤ carried cs (a ∪ b ∪ c) + carried cs (a ∩ b) + carried cs (b ∩ c) + carried cs (a ∩ c) + carried cs (a ∩ d)
    + carried cs (b ∩ d) + carried cs (c ∩ d)
unfolding carried
carried-four [] a b c d = omega arith
carried-four (m ∷ cs) a b c d = omega (arith, has-four m a b c d, carried-four cs a b c d)

pub carried-pos : (cs : List ℕ) (x : ℕ) → Among x cs → 1 ≤ carried cs x
unfolding carried
carried-pos [] x h = absurd h
carried-pos (m ∷ cs) x (inl e) = omega (arith, has_in m x (subst (λ (z : ℕ). m ⊑ z) (sym e) (⊑_refl m)))
carried-pos (m ∷ cs) x (inr h) = omega (arith, carried-pos cs x h)

pub carried-small : (cs : List ℕ) → Pairs cs → (x : ℕ) → ones x ≤ 1 → carried cs x ≡ zero
unfolding carried Pairs
carried-small [] p x l = refl
carried-small (m ∷ cs) p x l = go (has-dec m x) (carried-small cs (λ y h. p y (inr h)) x l)
  where
    go : Has m x → carried cs x ≡ zero → has m x + carried cs x ≡ zero
    go (inside i e) r = absurd (omega (arith, ⊑⇒size≤ x m i, p m (inl refl)))
    go (outside n e) r = omega arith

pub pairs-share : (x y : ℕ) → ones x ≡ 2 → ones y ≡ 2 → x ≢ y → ones (x ∩ y) ≤ 1
pairs-share x y ex ey ne = go (dec_le 2 (ones (x ∩ y)))
  where
    go : Dec (2 ≤ ones (x ∩ y)) → ones (x ∩ y) ≤ 1
    go (yes h) = absurd (ne (sym (⊑-size-≡ x (x ∩ y) (a∩b⊑a x y) (omega arith)) ∙ ⊑-size-≡ y (x ∩ y) (a∩b⊑b x y) (omega arith)))
    go (no n) = omega arith

-- ---- the sheet's own elements

pub carried-full : (n : ℕ) (cs : List ℕ) → Below n cs → carried cs (full n) ≡ length cs
unfolding carried Below
carried-full n [] h = refl
carried-full n (x ∷ cs) h = omega (arith, has_in x (full n) (below-full n x (h x (inl refl))), carried-full n cs (λ y i. h y (inr i)))

pub carried-cut : (n : ℕ) (cs : List ℕ) → Below n cs → (x : ℕ) → carried cs x ≤ carried cs (x ∩ full n)
unfolding carried Below
carried-cut n [] h x = omega arith
carried-cut n (m ∷ cs) h x = go (has-dec m x) (carried-cut n cs (λ y i. h y (inr i)) x)
  where
    go : Has m x → carried cs x ≤ carried cs (x ∩ full n) → has m x + carried cs x ≤ has m (x ∩ full n) + carried cs (x ∩ full n)
    go (inside i e) r = omega (arith, has_in m (x ∩ full n) (∩-greatest i (below-full n m (h m (inl refl)))))
    go (outside k e) r = omega arith

pub not-over-in : (n : ℕ) (cs : List ℕ) → Pairs cs → Below n cs → NotOverIn n cs → NotOver cs
unfolding NotOver NotOverIn
not-over-in n cs pairs below h x b = let small : x ∩ full n < 2 ^ n = cut_below n x in elim (dec_le 2 (ones (x ∩ full n))) [
  | yes k ↦ omega (arith, h (x ∩ full n) small k, carried-cut n cs below x, ⊑⇒size≤ x (x ∩ full n) (a∩b⊑a x (full n)))
  | no k ↦ omega (arith, carried-cut n cs below x, carried-small cs pairs (x ∩ full n) (omega arith))
]

-- ---- in whichever order the constraints stand

pub perm-map : {A B : Type 0} (f : A → B) {l k : List A} → Perm l k → Perm (map f l) (map f k)
perm-map f same = same
perm-map f (skip x p) = skip (f x) (perm-map f p)
perm-map f (swap x y) = swap (f x) (f y)
perm-map f (then p q) = then (perm-map f p) (perm-map f q)

pub among-perm : {l k : List ℕ} → Perm l k → (x : ℕ) → Among x l ↔ Among x k
among-perm same x = Iff-rfl
among-perm (skip y p) x = (⊎_elim inl (λ h. inr ((among-perm p x).0 h)), ⊎_elim inl (λ h. inr ((among-perm p x).1 h)))
among-perm (swap y z) x = (⊎_elim (λ e. inr (inl e)) (⊎_elim inl (λ h. inr (inr h))), ⊎_elim (λ e. inr (inl e)) (⊎_elim inl (λ h. inr (inr h))))
among-perm (then p q) x = Iff-trans (among-perm p x) (among-perm q x)

pub carried-perm : {l k : List ℕ} → Perm l k → (x : ℕ) → carried l x ≡ carried k x
unfolding carried
carried-perm same x = refl
carried-perm (skip y p) x = ap (λ (n : ℕ). has y x + n) (carried-perm p x)
carried-perm (swap y z) x = omega arith
carried-perm (then p q) x = carried-perm p x ∙ carried-perm q x

pub pairs-perm : {l k : List ℕ} → Perm l k → Pairs l → Pairs k
unfolding Pairs
pairs-perm p h x i = h x ((among-perm p x).1 i)

pub length-perm : {A : Type 0} {l k : List A} → Perm l k → length l ≡ length k
length-perm same = refl
length-perm (skip x p) = ap suc (length-perm p)
length-perm (swap x y) = refl
length-perm (then p q) = length-perm p ∙ length-perm q

pub fine-perm : {l k : List ℕ} → Perm l k → NotOver l → NotOver k
unfolding NotOver
fine-perm p h x b = omega (arith, h x b, carried-perm p x)

pub below-perm : (n : ℕ) {l k : List ℕ} → Perm l k → Below n l → Below n k
unfolding Below
below-perm n p h x i = h x ((among-perm p x).1 i)

-- ---- the pairs of a sheet

pub size-pair : (u v : ℕ) → u < v → ones (pair u v) ≡ 2
unfolding pair
size-pair u v h = singles-or (2 ^ u) (2 ^ v) (size-pow u) (size-pow v) (pow-ne u v h)

pub pair-below : (n u v : ℕ) → u < n → v < n → pair u v < 2 ^ n
unfolding pair ◌∪◌
pair-below n u v hu hv = or_lt n (2 ^ u) (2 ^ v) (pow-lt hu) (pow-lt hv)

-- x is an end of the pair
pub at_pair : (x u v : ℕ) → x ∈ pair u v → (x ≡ u) ⊎ (x ≡ v)
unfolding pair
at_pair x u v e = elim (ℕ_discrete x u) [
  | yes p ↦ inl p
  | no p ↦ elim (ℕ_discrete x v) [ yes q ↦ inr q | no q ↦ absurd (omega (arith, at-∪ x (2 ^ u) (2 ^ v), at_other x u p, at_other x v q)) ]
]

pub at-end : (u v : ℕ) → (u ∈ pair u v) × (v ∈ pair u v)
unfolding pair
at-end u v = (omega (arith, at-∪ u (2 ^ u) (2 ^ v), at_same u, at-le u (2 ^ v)), omega (arith, at-∪ v (2 ^ u) (2 ^ v), at_same v, at-le v (2 ^ u)))

-- two pairs are the same set only if they are the same pair
pub pair_one : (u v u' v' : ℕ) → u < v → u' < v' → pair u v ≡ pair u' v' → (u ≡ u') × (v ≡ v')
pair_one u v u' v' h h' e = elim (at_pair u u' v' (ap (at u) (sym e) ∙ (at-end u v).0)) [
  | inl p ↦ elim (at_pair v u' v' (ap (at v) (sym e) ∙ (at-end u v).1)) [ inr q ↦ (p, q) | inl q ↦ absurd (omega arith) ]
  | inr p ↦ elim (at_pair v u' v' (ap (at v) (sym e) ∙ (at-end u v).1)) [ inl q ↦ absurd (omega arith) | inr q ↦ absurd (omega arith) ]
]

-- ---- a pair in a set

pub pair-in : (u v x : ℕ) → u ∈ x → v ∈ x → pair u v ⊑ x
pair-in u v x p q = record { le = λ z. go z (bit (at z (pair u v)) (at-le z (pair u v))) }
  where
    go : (z : ℕ) → (at z (pair u v) ≡ 0) ⊎ (z ∈ pair u v) → at z (pair u v) ≤ at z x
    go z (inl e) = omega arith
    go z (inr e) = ⊎_elim
        (λ (w : z ≡ u). omega (arith, ap (λ (y : ℕ). at y x) w)) (λ (w : z ≡ v). omega (arith, ap (λ (y : ℕ). at y x) w)) (at_pair z u v e)

pub pair_ends : (u v x : ℕ) → pair u v ⊑ x → (u ∈ x) × (v ∈ x)
pair_ends u v x h = (omega (arith, h.le u, (at-end u v).0, at-le u x), omega (arith, h.le v, (at-end u v).1, at-le v x))

-- whether both ends of a pair lie in a set
pub has-pair : (u v x : ℕ) → has (pair u v) x ≡ at u x * at v x
has-pair u v x = elim (has-dec (pair u v) x) [
  | inside i q ↦ let e = pair_ends u v x i in rw (q, e.0, e.1)
  | outside n q ↦ elim (bit (at u x) (at-le u x)) [
    | inl e ↦ rw (q, e) (omega arith)
    | inr e ↦ elim (bit (at v x) (at-le v x)) [ inl f ↦ rw (q, f) (omega arith) | inr f ↦ absurd (n (pair-in u v x e f)) ]
  ]
]

pub pair_comm : (u v : ℕ) → pair u v ≡ pair v u
unfolding pair
pair_comm u v = ∪-comm (2 ^ u) (2 ^ v)
