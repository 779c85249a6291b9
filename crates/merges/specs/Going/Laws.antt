-- Arrays that hold a list of merges: at the start, merge after merge, and at the end. Assumes nothing.
use Rattle.std.specs.Prelude.{◌≡◌, ◌≢◌, ◌∷◌, ◌++◌, ◌+◌, ◌*◌, ◌≤◌, ◌<◌}
use Rattle.theory.specs.Prelude.{refl, sym, ap, ap₂, ◌∙◌, subst, List, [], map, ℕ, arith, length, set, take}
use Rattle.theory.specs.Prelude.{replicate, length-append}
use Rattle.theory.specs.Block.{block}
use Rattle.theory.specs.Block.Laws.{length-block, get_or-block, store-block}
use Rattle.theory.specs.Merge.{slot, Merge, three, OpenAt, union, joint, cleared, put, final, joints as jointsOf}
use Rattle.theory.specs.Merge.Count.{steps-left}
use Rattle.theory.specs.Merge.Numbered.{alive-lt}
use Rattle.theory.specs.Plan.{ascending}
use Rattle.theory.specs.Plan.Order.{open-ascending, put-ascending, joint-ascending}
use Rattle.merges.specs.Run.{Run, places, most_steps, flat, run_of, Start}
use Rattle.merges.specs.Run.Laws.{final-snoc, valid-snoc, joints-snoc, flat-snoc, length-final, length-numbers, length-joints, store-three}
use Rattle.merges.specs.Run.Laws.{three-block, put-block}
use Rattle.merges.specs.Going.{Slots, Going, Made}

-- ---- the clusters

module _ {cs : List ℕ} {p : List Merge} {slots : List ℕ} {used : ℕ} (w : Slots cs p slots used) where
  -- a cluster's number looks up the slot that the merges leave
  pub slots_same : (n : ℕ) → slot slots n ≡ slot (final cs p) n
  slots_same n = ap (λ (l : List ℕ). slot l n) w.are ∙ get_or-block places 0 (final cs p) n

  pub used-is : used ≡ length (final cs p)
  used-is = w.count ∙ sym (length-final p cs)

  pub steps-few : length p ≤ most_steps
  steps-few = omega (arith, steps-left cs w.pairs p w.valid, w.few)

  pub used-few : used ≤ places
  used-few = omega (arith, w.count, w.few, steps-few)

  pub slots_long : length slots ≡ places
  slots_long = ap length w.are ∙ length-block places 0 (final cs p) (omega (arith, used-is, used-few))

  -- a living cluster's number is in use
  pub live_below : (n : ℕ) → slot (final cs p) n ≢ 0 → n < used
  live_below n h = omega (arith, alive-lt (final cs p) n h, used-is)

  -- an open merge leaves room for a step
  pub steps-fewer : {m : Merge} → OpenAt (final cs p) m → length p < most_steps
  steps-fewer {m} o =
      omega (arith, steps-left cs w.pairs (p ++ (m ∷ [])) (valid-snoc p cs m w.valid o), w.few, length-append p (m ∷ []))

-- ---- the start

pub going_start : {start slots : List ℕ} {e : ℕ} → Start start e → slots ≡ block places 0 (take e start)
    → Going (take e start) e [] slots (replicate places 0) (replicate 64 0) 0
unfolding flat jointsOf
going_start b h = record {
  size = b.count;
  clusters = record { few = omega (arith, b.few, b.count); pairs = b.pairs; valid = tt; count = omega (arith, b.count); are = h };
  parts_are = refl;
  joints_are = refl;
}

module _ {cs : List ℕ} {e : ℕ} {p : List Merge} {slots parts joints : List ℕ} {steps : ℕ} (w : Going cs e p slots parts joints steps) where
  pub steps_are : steps ≡ length p
  steps_are = omega (arith, w.size, w.clusters.count)

  -- ---- one merge more: m, whose numbers in ascending order are r

  module _ {m : Merge} (o : OpenAt (final cs p) m) {r : Merge} (up : ascending m ≡ r) where
    pub open_up : OpenAt (final cs p) r
    open_up = subst (OpenAt (final cs p)) up (open-ascending (final cs p) m o)

    pub below-i : r.i < e + steps
    below-i = live_below w.clusters r.i open_up.livei

    pub below-j : r.j < e + steps
    below-j = live_below w.clusters r.j open_up.livej

    pub below-k : r.k < e + steps
    below-k = live_below w.clusters r.k open_up.livek

    pub going-fewer : steps < most_steps
    going-fewer = omega (arith, steps_are, steps-fewer w.clusters o)

    put_same : put (final cs p) r ≡ final cs (p ++ (m ∷ []))
    put_same = ap (put (final cs p)) (sym up) ∙ put-ascending (final cs p) m ∙ sym (final-snoc p cs m)

    module _ {u : ℕ} {slots' parts' joints' : List ℕ} (g : Made slots parts joints (e + steps) steps r u slots' parts' joints') where
      three-same : three slots r ≡ three (final cs p) r
      three-same = ap (λ (l : List ℕ). three l r) w.clusters.are ∙ three-block places (final cs p) r

      pub union-same : u ≡ union (three (final cs p) r)
      union-same = g.union_is ∙ ap union three-same

      slots_next : slots' ≡ block places 0 (final cs (p ++ (m ∷ [])))
      slots_next =
          let l = used-is w.clusters in
          g.slots_are
          ∙ ap₂ (λ (s : List ℕ) (v : ℕ). set (cleared s r) (e + steps) v) w.clusters.are union-same
          ∙ put-block places (final cs p) r (omega (arith, below-i)) (omega (arith, below-j)) (omega (arith, below-k)) (e + steps) l
          (omega (arith, going-fewer, w.size, w.clusters.few))
          ∙ ap (block places 0) put_same

      parts_next : parts' ≡ block places 0 (flat (map ascending (p ++ (m ∷ []))))
      parts_next =
          g.parts_are
          ∙ ap (λ (a : List ℕ). set (set (set a (3 * steps) r.i) (3 * steps + 1) r.j) (3 * steps + 2) r.k) w.parts_are
          ∙ store-three places (flat (map ascending p)) (3 * steps) r.i r.j r.k (omega (arith, length-numbers p, steps_are))
          (omega (arith, going-fewer))
          ∙ ap (block places 0) (sym (flat-snoc p m r up))

      joints-next : joints' ≡ block 64 0 (jointsOf cs (p ++ (m ∷ [])))
      joints-next =
          g.joints_are
          ∙ ap₂ (λ (a : List ℕ) (x : ℕ). set a steps x) w.joints_are
          (ap joint three-same ∙ ap (λ (x : Merge). joint (three (final cs p) x)) (sym up) ∙ joint-ascending (final cs p) m)
          ∙ store-block 64 0 (jointsOf cs p) steps _ (omega (arith, length-joints p cs, steps_are)) (omega (arith, going-fewer))
          ∙ ap (block 64 0) (sym (joints-snoc p cs m))

      pub going_next : Going cs e (p ++ (m ∷ [])) slots' parts' joints' (steps + 1)
      going_next = record {
        size = w.size;
        clusters = record {
          few = w.clusters.few;
          pairs = w.clusters.pairs;
          valid = valid-snoc p cs m w.clusters.valid o;
          count = omega (arith, w.size, steps_are, length-append p (m ∷ []));
          are = slots_next;
        };
        parts_are = parts_next;
        joints_are = joints-next;
      }

  -- ---- the end: the arrays are those of the list

  pub going-run : ◌≡◌ {A = Run} (record { steps = steps; parts = parts; joints = joints; slots = slots }) (run_of cs p)
  unfolding run_of
  going-run z = record { steps = steps_are z; parts = w.parts_are z; joints = w.joints_are z; slots = w.clusters.are z }
