-- Every maximal list of merges of a sheet that is not over ends in the same clusters, with the same joints and the same
-- number of steps: Corollary 3.7 and Theorem 4.3 of Fudos and Hoffmann (document 001). More constraints never make a
-- final cluster smaller. Assumes nothing.
use Rattle.std.specs.Prelude.{◌≡◌, ◌⊎◌, ◌↔◌, ◌∷◌}
use Rattle.theory.specs.Prelude.{ap, ◌∙◌, subst, refl, sym, inl, inr, Iff-trans, ⊎_elim, Iff-rfl, List, [], ℕ, suc, length}
use Rattle.theory.specs.Set.{◌⊑◌}
use Rattle.theory.specs.Set.Laws.{⊑_refl, ⊑_trans}
use Rattle.theory.specs.Constraints.{NotOver, Among, Pairs, Perm}
use Rattle.theory.specs.Constraints.Laws.{among-perm}
use Rattle.theory.specs.Merge.{Three, union, joint}
use Rattle.theory.specs.Merge.Family.{start, joints_in, Fam, Same, OpenIn, Good, ValidIn, final_in, EndedIn, AlikeIn, moved_in, coincide, commute}
use Rattle.theory.specs.Merge.Family.{In, after}
use Rattle.theory.specs.Merge.Family.Diamond.{meeting, Lift, together, opened, open_by, lift, union-least}
use Rattle.theory.specs.Merge.Family.Invariant.{in-dec, in-union, good-after, among-good}

-- ---- only which sets live matters

pub open-same : {F G : Fam} → Same F G → (t : Three) → OpenIn F t → OpenIn G t
open-same h t m = record { ina = (h t.a).0 m.ina; inb = (h t.b).0 m.inb; inc = (h t.c).0 m.inc; open3 = m.open3 }

pub after_same : {F G : Fam} → Same F G → (t : Three) → Same (after F t) (after G t)
after_same {F} {G} h t x = (go h, go (λ y. ((h y).1, (h y).0)))
  where
    go : {F G : Fam} → Same F G → after F t x → after G t x
    go k (inl e) = inl e
    go k (inr p) = inr ((k x).0 p.0, p.1)

pub valid_same : {F G : Fam} → Same F G → (p : List Three) → ValidIn F p → ValidIn G p
valid_same h [] v = tt
valid_same {F} {G} h (t ∷ p) v = (open-same h t v.0, valid_same {F = after F t} {G = after G t} (after_same h t) p v.1)

pub final-same : {F G : Fam} → Same F G → (p : List Three) → Same (final_in F p) (final_in G p)
final-same h [] = h
final-same {F} {G} h (t ∷ p) = final-same {F = after F t} {G = after G t} (after_same h t) p

pub ended_same : {F G : Fam} → Same F G → EndedIn F → EndedIn G
unfolding EndedIn
ended_same h e t m = e t (open-same (λ x. ((h x).1, (h x).0)) t m)

-- a living cluster lies inside a final one
pub kept : (p : List Three) (F : Fam) (x : ℕ) → F x → (y : ℕ) × final_in F p y × (x ⊑ y)
kept [] F x h = (x, h, ⊑_refl x)
kept (t ∷ p) F x h = go (λ y k. kept p (after F t) y k) (in-dec x t)
  where
    go : ((y : ℕ) → after F t y → (z : ℕ) × final_in (after F t) p z × (y ⊑ z)) → Dec (In x t) → (y : ℕ) × final_in (after F t) p y × (x ⊑ y)
    go ih (yes i) = let r = ih (union t) (inl refl) in (r.0, r.1, ⊑_trans (in-union t x i) r.2)
    go ih (no n) = ih x (inr (h, n))

-- ---- an open merge can be made first

pub record Rest (F : Fam) (p : List Three) (s : Three) : Type 0 where
  pub plan : List Three
  pub valid : ValidIn (after F s) plan
  pub ends : Same (final_in F p) (final_in (after F s) plan)
  pub steps : length p ≡ suc (length plan)
  pub same_joints : (x : ℕ) → Among x (joints_in p) ↔ ((x ≡ joint s) ⊎ Among x (joints_in plan))

module _ (cs : List ℕ) (fine : NotOver cs) where
  rest : (p : List Three) {F : Fam} → Good cs F → ValidIn F p → EndedIn (final_in F p) → (s : Three) → OpenIn F s → Rest F p s
  unfolding EndedIn
  rest [] g v end s k = absurd (end s k)
  rest (t ∷ p) {F} g v end s k = elim (meeting cs fine g t v.0 s k) [
    | coincide ins j same ↦ record {
      plan = p;
      valid = valid_same same p v.1;
      ends = final-same same p;
      steps = refl;
      same_joints = λ x. (⊎_elim (λ e. inl (e ∙ sym j)) inr, ⊎_elim (λ e. inl (e ∙ j)) inr);
    }
    | commute n o js jt same ↦ let r = rest p (good-after cs fine g t v.0) v.1 end (moved_in t s) n in record {
      plan = moved_in s t ∷ r.plan;
      valid = (o, valid_same same r.plan r.valid);
      ends = λ x. Iff-trans (r.ends x) (final-same same r.plan x);
      steps = ap suc r.steps;
      same_joints = λ x. (
        ⊎_elim (λ e. inr (inl (e ∙ sym jt))) (λ h. ⊎_elim (λ e. inl (e ∙ js)) (λ i. inr (inr i)) ((r.same_joints x).0 h)),
        ⊎_elim (λ e. inr ((r.same_joints x).1 (inl (e ∙ sym js)))) (⊎_elim (λ e. inl (e ∙ jt)) (λ i. inr ((r.same_joints x).1 (inr i)))),
      );
    }
  ]

  -- two maximal lists of merges of a good family. Corollary 3.7 of Fudos and Hoffmann: one normal form (`finals`).
  -- Theorem 4.3: the same geometry triples (`same_joints`), whose proof also has the same length (`steps`)
  pub unique : (q p : List Three) {F : Fam} → Good cs F → ValidIn F p → EndedIn (final_in F p) → ValidIn F q → EndedIn (final_in F q) → AlikeIn F F p q
  unfolding EndedIn
  unique [] [] g v e w f = record { finals = λ x. Iff-rfl; steps = refl; same_joints = λ x. Iff-rfl }
  unique [] (t ∷ p) g v e w f = absurd (f t v.0)
  unique (s ∷ q) p {F} g v e w f =
      let r = rest p g v e s w.0 in
      let u = unique q r.plan (good-after cs fine g s w.0) r.valid (ended_same r.ends e) w.1 f in
      record {
        finals = λ x. Iff-trans (r.ends x) (u.finals x);
        steps = r.steps ∙ ap suc u.steps;
        same_joints =
            λ x. Iff-trans (r.same_joints x) (⊎_elim inl (λ i. inr ((u.same_joints x).0 i)), ⊎_elim inl (λ i. inr ((u.same_joints x).1 i)));
      }

  -- whatever merges came before, the family is good: Lemma 3.4 of Fudos and Hoffmann
  pub reached : (p : List Three) {F : Fam} → Good cs F → ValidIn F p → Good cs (final_in F p)
  reached [] g v = g
  reached (t ∷ p) g v = reached p (good-after cs fine g t v.0) v.1

  -- ---- what lies inside an ended family stays inside it

  pub stays-inside : {H : Fam} → Good cs H → EndedIn H → (p : List Three) {F : Fam} → ValidIn F p → ((x : ℕ) → F x → (y : ℕ) × H y × (x ⊑ y))
      → (x : ℕ) → final_in F p x → (y : ℕ) × H y × (x ⊑ y)
  unfolding EndedIn
  stays-inside g e [] v i = i
  stays-inside {H} g e (t ∷ p) {F} v i = stays-inside g e p v.1 next
    where
      ia : (y : ℕ) × H y × (t.a ⊑ y)
      ia = i t.a v.0.ina

      ib : (y : ℕ) × H y × (t.b ⊑ y)
      ib = i t.b v.0.inb

      ic : (y : ℕ) × H y × (t.c ⊑ y)
      ic = i t.c v.0.inc

      u : Three
      u = record { a = ia.0; b = ib.0; c = ic.0 }

      joined : Lift t u → (y : ℕ) × H y × (union t ⊑ y)
      joined (together p q) = (
        ia.0,
        ia.1,
        union-least t ia.0 ia.2 (subst (λ (z : ℕ). t.b ⊑ z) (sym p) ib.2) (subst (λ (z : ℕ). t.c ⊑ z) (sym (p ∙ q)) ic.2),
      )
      joined (opened p q r) = absurd (e u (record { ina = ia.1; inb = ib.1; inc = ic.1; open3 = open_by t u p q r v.0.open3 }))

      next : (x : ℕ) → after F t x → (y : ℕ) × H y × (x ⊑ y)
      next x (inl h) =
          let w = joined (lift cs fine g t u v.0.open3 ia.1 ib.1 ic.1 ia.2 ib.2 ic.2) in
          (w.0, w.1, subst (λ (z : ℕ). z ⊑ w.0) (sym h) w.2)
      next x (inr h) = i x h.0

-- ---- from every order of the constraints

module _ (cs : List ℕ) (pairs : Pairs cs) (fine : NotOver cs) where
  good-final_in : (p : List Three) → ValidIn (start cs) p → Good cs (final_in (start cs) p)
  good-final_in p v = reached cs fine p (among-good cs pairs fine) v

  -- every order of merging, from every order of the constraints: the same final clusters, joints and number of steps
  pub every-order-in : (ds : List ℕ) → Perm cs ds → (p q : List Three) → ValidIn (start cs) p → EndedIn (final_in (start cs) p)
      → ValidIn (start ds) q → EndedIn (final_in (start ds) q) → AlikeIn (start cs) (start ds) p q
  every-order-in ds r p q v e w f =
      let back : Same (start ds) (start cs) = λ x. ((among-perm r x).1, (among-perm r x).0) in
      let u = unique cs fine q p (among-good cs pairs fine) v e (valid_same back q w) (ended_same (final-same back q) f) in
      record {
        finals = λ x. Iff-trans (u.finals x) (final-same (among-perm r) q x);
        steps = u.steps;
        same_joints = u.same_joints;
      }

  -- more constraints, never a smaller part: every cluster of any list of merges of a sheet with some of the constraints lies inside a final
  -- cluster of any maximal list of the whole
  pub never-smaller : (ds : List ℕ) → ((x : ℕ) → Among x ds → Among x cs) → (p q : List Three) → ValidIn (start ds) q
      → ValidIn (start cs) p → EndedIn (final_in (start cs) p) → (x : ℕ) → final_in (start ds) q x → (y : ℕ) × final_in (start cs) p y × (x ⊑ y)
  never-smaller ds sub p q w v e = stays-inside cs fine (good-final_in p v) e q w (λ x h. kept p (start cs) x (sub x h))
