-- What the verdict names say, by the tests and by the relation. Assumes nothing.
use Rattle.std.specs.Prelude.{◌≡◌, ◌≢◌, ◌↔◌, ◌⊎◌, ◌||◌, ◌∷◌, ◌+◌, ◌*◌, ◌≤◌, ◌<◌}
use Rattle.theory.specs.Prelude.{refl, sym, ap, ap₂, subst, inl, inr, ⊎_elim, Bool, true, false, List, [], ℕ}
use Rattle.theory.specs.Prelude.{arith, T, eqb, eqb→eq, length}
use Rattle.theory.specs.Tests.{eq_test, false-ne, iff-same}
use Rattle.theory.specs.Set.{◌∩◌}
use Rattle.theory.specs.Set.Laws.{∩≡⇒⊑, ⊑⇒∩≡}
use Rattle.theory.specs.Constraints.{Among, Pairs, Below, NotOver}
use Rattle.theory.specs.Merge.{Merge, final, left, Valid}
use Rattle.theory.specs.Merge.Count.{steps-left, steps-half}
use Rattle.theory.specs.Over.Laws.{fine-most}
use Rattle.theory.specs.Ring.{AngleRing, ringed}
use Rattle.theory.specs.Verdict.{verdict_number, all_lines, angled, angle_bound, judged, Angled, AngleBound, Meets}
use Rattle.theory.specs.Verdict.{meets_angle, meets_well, meets_stuck, meets_under}
use Rattle.theory.specs.declared.Verdict.{Verdict}
use Rattle.theory.specs.declared.Verdict.TheVariants.{Over, Angle, Well, Stuck, Under}

-- ---- tests joined

or-either : (a b : Bool) → T (a || b) → T a ⊎ T b
or-either true b t = inl t
or-either false b t = inr t

either-or : (a b : Bool) → T a ⊎ T b → T (a || b)
either-or true b h = tt
either-or false b (inl t) = absurd t
either-or false b (inr t) = t

-- ---- what the names say

angled-some : (lines : ℕ) (js : List ℕ) → T (angled lines js) → (x : ℕ) × Among x js × T (all_lines lines x)
unfolding angled
angled-some lines [] t = absurd t
angled-some lines (j ∷ js) t =
    elim (all_lines lines j) as (λ (b : Bool). all_lines lines j ≡ b → T (b || angled lines js) → (x : ℕ) × Among x (j ∷ js) × T (all_lines lines x)) [
      | true ↦ λ e t. (j, inl refl, subst T (sym e) tt)
      | false ↦ λ e t. let r = angled-some lines js t in (r.0, inr r.1, r.2)
    ] refl t

some-angled : (lines : ℕ) (js : List ℕ) (x : ℕ) → Among x js → T (all_lines lines x) → T (angled lines js)
unfolding angled
some-angled lines [] x i t = absurd i
some-angled lines (j ∷ js) x (inl e) t = go (all_lines lines j) (subst (λ (z : ℕ). T (all_lines lines z)) e t)
  where
    go : (b : Bool) → T b → T (b || angled lines js)
    go true t = tt
    go false t = absurd t
some-angled lines (j ∷ js) x (inr i) t =
    let t = some-angled lines js x i t in elim (all_lines lines j) as (λ (b : Bool). T (b || angled lines js)) [ true ↦ tt | false ↦ t ]

-- some joint is three lines
pub angled-is : (lines : ℕ) (js : List ℕ) → T (angled lines js) → Angled lines js
angled-is lines js t = let r = angled-some lines js t in (r.0, r.1, ∩≡⇒⊑ r.0 lines (eqb→eq (r.0 ∩ lines) r.0 r.2))

pub is-angled : (lines : ℕ) (js : List ℕ) → Angled lines js → T (angled lines js)
is-angled lines js (j, i, h) = some-angled lines js j i (eq_test (j ∩ lines) j (⊑⇒∩≡ j lines h))

-- where the test for a ring is right, as on the final clusters of every sheet that is not over
pub judged-meets : (lines n e : ℕ) (js s : List ℕ) → (T (ringed lines s) ↔ AngleRing s lines) → Meets lines n e js s (judged lines n e js s)
unfolding judged
judged-meets lines n e js s ring = go (angle_bound lines js s) (eqb (e + 3) (2 * n)) (eqb (left s) 1) refl refl refl
  where
    bound : T (angle_bound lines js s) → AngleBound lines js s
    bound t = ⊎_elim (λ a. inl (angled-is lines js a)) (λ r. inr (ring.0 r)) (or-either (angled lines js) (ringed lines s) t)

    none : angle_bound lines js s ≡ false → AngleBound lines js s → ⊥
    none q h = subst T q (either-or (angled lines js) (ringed lines s) (⊎_elim (λ a. inl (is-angled lines js a)) (λ r. inr (ring.1 r)) h))

    go : (a b c : Bool) → angle_bound lines js s ≡ a → eqb (e + 3) (2 * n) ≡ b → eqb (left s) 1 ≡ c
        → Meets lines n e js s (elim a [ true ↦ Angle | false ↦ elim b [ true ↦ elim c [ true ↦ Well | false ↦ Stuck ] | false ↦ Under ] ])
    go true b c p q r = meets_angle (bound (subst T (sym p) tt))
    go false true true p q r = meets_well (none p) (eqb→eq (e + 3) (2 * n) (subst T (sym q) tt)) (eqb→eq (left s) 1 (subst T (sym r) tt))
    go false true false p q r = meets_stuck (none p) (eqb→eq (e + 3) (2 * n) (subst T (sym q) tt)) (false-ne (left s) 1 r)
    go false false c p q r = meets_under (none p) (false-ne (e + 3) (2 * n) q)

-- under means below 2n-3, and stuck that several clusters are left
pub under-below : (n : ℕ) (cs : List ℕ) → 2 ≤ n → Below n cs → NotOver cs → length cs + 3 ≢ 2 * n → length cs + 3 < 2 * n
under-below n cs two below f ne = omega (arith, fine-most n cs two below f, ne)

pub stuck-several : (n : ℕ) (cs : List ℕ) → 2 ≤ n → Pairs cs → length cs + 3 ≡ 2 * n → (p : List Merge) → Valid cs p → left (final cs p) ≢ 1
    → 2 ≤ left (final cs p)
stuck-several n cs two pairs e p v ne = omega (arith, steps-left cs pairs p v, steps-half cs pairs (omega arith) p v, ne)

-- the same joints, in whichever order
pub angled-same : (lines : ℕ) (js ks : List ℕ) → ((x : ℕ) → Among x js ↔ Among x ks) → angled lines js ≡ angled lines ks
angled-same lines js ks h =
    iff-same (angled lines js) (angled lines ks)
    (λ t. let r = angled-some lines js t in some-angled lines ks r.0 ((h r.0).0 r.1) r.2)
    (λ t. let r = angled-some lines ks t in some-angled lines js r.0 ((h r.0).1 r.1) r.2)

pub judged-same : (lines n e : ℕ) (js ks s t : List ℕ) → angled lines js ≡ angled lines ks → ringed lines s ≡ ringed lines t → left s ≡ left t
    → judged lines n e js s ≡ judged lines n e ks t
unfolding judged
judged-same lines n e js ks s t a r l =
    ap₂ (λ (b : Bool) (k : ℕ). elim b
    [ true ↦ Angle | false ↦ elim (eqb (e + 3) (2 * n)) [ true ↦ elim (eqb k 1) [ true ↦ Well | false ↦ Stuck ] | false ↦ Under ] ]) (ap₂ ◌||◌ a r) l

-- ---- none of them is over

pub judged-not-over : (lines n e : ℕ) (js s : List ℕ) → judged lines n e js s ≢ Over
unfolding judged
judged-not-over lines n e js s q = named (angle_bound lines js s) (eqb (e + 3) (2 * n)) (eqb (left s) 1) (ap verdict_number q)
  where
    named : (a b c : Bool)
        → verdict_number (elim a [ true ↦ Angle | false ↦ elim b [ true ↦ elim c [ true ↦ Well | false ↦ Stuck ] | false ↦ Under ] ]) ≡ 0 → ⊥
    named true b c e = omega arith
    named false true true e = omega arith
    named false true false e = omega arith
    named false false c e = omega arith

-- over by its number
pub number-over : (v : Verdict) → verdict_number v ≡ 0 → v ≡ Over
number-over Over e = refl
number-over Angle e = absurd (omega arith)
number-over Well e = absurd (omega arith)
number-over Stuck e = absurd (omega arith)
number-over Under e = absurd (omega arith)
