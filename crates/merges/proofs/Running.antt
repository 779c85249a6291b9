-- The engine's plan in arrays: merges that came first, until none is open or enough are made. Assumes nothing.
use Rattle.std.specs.Prelude.{◌≡◌, ◌⊎◌, ◌∷◌, ◌++◌, ◌+◌, ◌≤◌, ◌<◌}
use Rattle.theory.specs.Prelude.{refl, sym, ap, ap₂, ◌∙◌, subst, inl, inr, List, [], none, some, ℕ, zero, suc}
use Rattle.theory.specs.Prelude.{arith, length, take, replicate, List·getD-eq-default}
use Rattle.theory.specs.Block.{block}
use Rattle.theory.specs.Constraints.{NotOver}
use Rattle.theory.specs.Merge.{slot, Merge, merge, Three, three, OpenAt, put, final, Ended}
use Rattle.theory.specs.Plan.{first_of, First, plan_of, IsPlan}
use Rattle.theory.specs.Plan.Laws.{ascending-same, first_one, some_first, none-ended, plan-of-is, plan-of-one}
use Rattle.search.specs.State.{waits, Kept, Ready, Begun, Renewed, Fine}
use Rattle.search.specs.State.Choice.{kept-todo}
use Rattle.search.specs.State.Sheet.{all-low, fine_of, fine-same, ready-start, ready-put, ready-same, open-same}
use Rattle.merges.specs.Run.{Run, places, most_steps, Start, Planned}
use Rattle.merges.specs.Run.Laws.{final-snoc, valid-snoc, begin-same}
use Rattle.merges.specs.Going.{Slots, Going, Made}
use Rattle.merges.specs.Going.Laws.{slots_same, used-is, used-few, steps_are, steps-few, going_start, going-fewer, going_next, going-run}
use Rattle.merges.specs.Search.{Firsts, Running, Stopped, Begins, Ran, RanTo}
use Rattle.merges.proofs.Finding.{first-of-same}

-- ---- merges that came first

firsts-snoc : (p : List Merge) (s : List ℕ) (m : Merge) → Firsts s p → First (final s p) m → Firsts s (p ++ (m ∷ []))
firsts-snoc [] s m f g = (g, tt)
firsts-snoc (r ∷ p) s m f g = (f.0, firsts-snoc p (put s r) m f.1 g)

firsts-plan : (p : List Merge) (s : List ℕ) → Firsts s p → Ended (final s p) → IsPlan s p
firsts-plan [] s f e = e
firsts-plan (r ∷ p) s f e = (f.0, firsts-plan p (put s r) f.1 e)

-- so many merges that came first, or all
firsts-take : (p q : List Merge) (s : List ℕ) (limit : ℕ) → Firsts s p → IsPlan s q → length p ≤ limit
    → (length p ≡ limit) ⊎ Ended (final s p) → p ≡ take limit q
unfolding Ended
firsts-take [] q s limit f g l (inl e) = rw (← e)
firsts-take [] [] s zero f g l (inr e) = refl
firsts-take [] [] s (suc limit) f g l (inr e) = refl
firsts-take [] (r ∷ q) s limit f g l (inr e) = absurd (e r g.0.isopen)
firsts-take (m ∷ p) q s zero f g l w = absurd (omega arith)
firsts-take (m ∷ p) [] s (suc limit) f g l w = absurd (g m f.0.isopen)
firsts-take (m ∷ p) (r ∷ q) s (suc limit) f g l w =
    let same = first_one s m r f.0 g.0 in
    ap₂ (λ (x : Merge) (y : List Merge). x ∷ y) same
    (firsts-take p q (put s m) limit f.1 (subst (λ (x : Merge). IsPlan (put s x) q) (sym same) g.1) (omega arith) (fewer w))
  where
    fewer : (suc (length p) ≡ suc limit) ⊎ Ended (final (put s m) p) → (length p ≡ limit) ⊎ Ended (final (put s m) p)
    fewer (inl e) = inl (omega arith)
    fewer (inr e) = inr e

-- ---- before the first merge every element is in the frontier

pub ready-begun : {cs : List ℕ} → NotOver cs → {p : List Merge} {slots : List ℕ} {used : ℕ} → Slots cs p slots used → {links hold todo : List ℕ}
    → Begun slots used links hold → ((c : ℕ) → c < used → waits todo c ≡ 1) → Ready slots used 18446744073709551615 links hold todo
ready-begun {cs} fine {p} w b t =
    ready-start (fine-same (λ n. sym (slots_same w n)) (fine_of cs w.pairs fine p w.valid)) (used-few w)
    (λ n l. slots_same w n ∙ List·getD-eq-default (final cs p) 0 (omega (arith, used-is w))) b t

pub running-start : {start slots links hold todo : List ℕ} {e : ℕ} → Start start e → slots ≡ block places 0 (take e start) → Begun slots e links hold
    → ((c : ℕ) → c < e → waits todo c ≡ 1) → length todo ≡ 3
    → Running (take e slots) e slots links hold todo (replicate places 0) (replicate 64 0) 0 18446744073709551615
running-start {start} {slots} {links} {hold} {todo} {e} b h g t l =
    let w = going_start b h in
    subst (λ (cs : List ℕ). Running cs e slots links hold todo (replicate places 0) (replicate 64 0) 0 18446744073709551615) (sym (begin-same b h))
    (record {
      p = [];
      going = w;
      links_long = g.links_long;
      hold_long = g.hold_long;
      todo_long = l;
      low = all-low;
      firsts = λ fine. tt;
      ready = λ fine. ready-begun fine w.clusters
          (subst (λ (n : ℕ). Begun slots n links hold) (omega arith) g) (λ c k. t c (omega arith));
    })

pub blank-start : {slots parts joints links₀ hold₀ links hold todo : List ℕ} {e : ℕ} → Begins slots parts joints links₀ hold₀ e
    → Begun slots e links hold → ((c : ℕ) → c < e → waits todo c ≡ 1) → length todo ≡ 3
    → Running (take e slots) e slots links hold todo parts joints 0 18446744073709551615
blank-start b g t l = rw (b.parts_blank, b.joints_blank) (running-start b.starts b.slots_are g t l)

module _ {cs : List ℕ} {e : ℕ} {slots links hold todo parts joints : List ℕ} {steps rim : ℕ}
    (w : Running cs e slots links hold todo parts joints steps rim) where
  same : (n : ℕ) → slot slots n ≡ slot (final cs w.p) n
  same = slots_same w.going.clusters

  first-same : first_of 0 slots ≡ first_of 0 (final cs w.p)
  first-same = first-of-same slots (final cs w.p) same

  pub running-few : steps ≤ most_steps
  running-few = omega (arith, steps_are w.going, steps-few w.going.clusters)

  -- clusters that reach nothing wait no more
  unfoldable pub running_kept : {todo' : List ℕ} → Kept slots links rim todo todo' → length todo' ≡ 3
      → Running cs e slots links hold todo' parts joints steps rim
  running_kept {todo'} kept long = record {
    p = w.p;
    going = w.going;
    links_long = w.links_long;
    hold_long = w.hold_long;
    todo_long = long;
    low = w.low;
    firsts = w.firsts;
    ready = λ fine.
        let r = w.ready fine in
        record {
          fine = r.fine;
          beyond = r.beyond;
          rims = r.rims;
          linking = r.linking;
          holding = r.holding;
          queued = kept-todo r (used-few w.going.clusters) todo' kept;
        };
  }

  pub running-ended : (Ready slots (e + steps) rim links hold todo → none ≡ first_of 0 slots) → NotOver cs → Ended (final cs w.p)
  running-ended ended fine = none-ended (final cs w.p) (sym (ended (w.ready fine) ∙ first-same))

  module _ (i j k : ℕ) (l : i < j) (m : j < k) (o : OpenAt slots (merge i j k)) where
    -- what is open in the array is open in the list
    open-there : OpenAt (final cs w.p) (merge i j k)
    open-there = open-same slots (final cs w.p) same (merge i j k) o

    pub running-fewer : steps < most_steps
    running-fewer = going-fewer w.going open-there (ascending-same (merge i j k) l m)

    pub running-next : (NotOver cs → some (merge i j k) ≡ first_of 0 slots) → {links' hold' todo' : List ℕ} {rim' : ℕ}
        → Renewed links hold todo (e + steps) rim (merge i j k) (three slots (merge i j k)) links' hold' todo' rim'
        → {u : ℕ} {slots' parts' joints' : List ℕ} → Made slots parts joints (e + steps) steps (merge i j k) u slots' parts' joints'
        → Running cs e slots' links' hold' todo' parts' joints' (steps + 1) rim'
    running-next first {links'} {hold'} {todo'} {rim'} g {u} {slots'} {parts'} {joints'} n = record {
      p = w.p ++ (x ∷ []);
      going = next;
      links_long = g.links_long;
      hold_long = g.hold_long;
      todo_long = g.todo_long;
      low = λ y h. w.low y (g.gone.less y h);
      firsts = λ fine. firsts-snoc w.p cs x (w.firsts fine) (some_first s x (sym (first fine ∙ first-same)));
      ready = ready';
    }
      where
        x : Merge
        x = merge i j k

        s : List ℕ
        s = final cs w.p

        next : Going cs e (w.p ++ (merge i j k ∷ [])) slots' parts' joints' (steps + 1)
        next = going_next w.going open-there (ascending-same x l m) n

        threes : three slots (merge i j k) ≡ three (final cs w.p) (merge i j k)
        threes z = record { a = same i z; b = same j z; c = same k z }

        ready' : NotOver cs → Ready slots' (e + (steps + 1)) rim' links' hold' todo'
        ready' fine =
            let used : e + steps ≡ length s = used-is w.going.clusters in
            let r = subst (λ (n : ℕ). Ready s n rim links hold todo) used (ready-same same (w.ready fine)) in
            let f = subst Fine (final-snoc w.p cs x)
            (fine_of cs w.going.clusters.pairs fine (w.p ++ (x ∷ [])) (valid-snoc w.p cs x w.going.clusters.valid open-there)) in
            let g' = subst (λ (n : ℕ). Renewed links hold todo n rim x (three s x) links' hold' todo' rim') used
            (subst (λ (t : Three). Renewed links hold todo (e + steps) rim x t links' hold' todo' rim') threes g) in
            let q = ready-put r open-there (omega (arith, running-fewer, w.going.clusters.few, w.going.size)) w.low f g' in
            ready-same (λ n. sym (slots_same next.clusters n ∙ ap (λ (t : List ℕ). slot t n) (final-snoc w.p cs x)))
            (subst (λ (n : ℕ). Ready (put s x) n rim' links' hold' todo') (omega arith) q)

-- without a limit it goes on until none is open
pub planned-same : {cs ds : List ℕ} → cs ≡ ds → {r : Run} → Planned cs r → Planned ds r
planned-same same {r} h = subst (λ (l : List ℕ). Planned l r) same h

pub stopped-ran : {cs : List ℕ} {e : ℕ} {slots links hold todo parts joints : List ℕ} {steps rim : ℕ}
    → Stopped cs e 64 slots links hold todo parts joints steps rim → Ran cs e slots links hold parts joints steps rim
stopped-ran {cs} {e} {slots} {links} {hold} {todo} {parts} {joints} {steps} w =
    let r = w.running in
    record {
      planned = record {
        merged = record { p = r.p; valid = r.going.clusters.valid; is = going-run r.going };
        plan = λ fine. sym (plan-of-one cs r.going.clusters.pairs r.p (firsts-plan r.p cs (r.firsts fine) (ended w.stops fine)));
      };
      ready = λ fine. (todo, r.ready fine);
    }
  where
    ended : (steps ≡ 64) ⊎ (NotOver cs → Ended (final cs w.running.p)) → NotOver cs → Ended (final cs w.running.p)
    ended (inl e) fine = absurd (omega (arith, running-few w.running))
    ended (inr h) fine = h fine

-- with one it makes so many steps of the plan, or all
pub stopped-to : {cs : List ℕ} {e limit : ℕ} {slots links hold todo parts joints : List ℕ} {steps rim : ℕ}
    → Stopped cs e limit slots links hold todo parts joints steps rim → RanTo cs e limit slots links hold steps rim
stopped-to {cs} {e} {limit} {todo = todo} {steps = steps} w =
    let r = w.running in
    record {
      p = r.p;
      clusters = r.going.clusters;
      plan = λ fine. firsts-take r.p (plan_of cs) cs limit (r.firsts fine) (plan-of-is cs r.going.clusters.pairs)
          (omega (arith, steps_are r.going, w.within)) (stops w.stops fine);
      ready = λ fine. (todo, r.ready fine);
    }
  where
    stops : (steps ≡ limit) ⊎ (NotOver cs → Ended (final cs w.running.p)) → NotOver cs
        → (length w.running.p ≡ limit) ⊎ Ended (final cs w.running.p)
    stops (inl e) fine = inl (sym (steps_are w.running.going) ∙ e)
    stops (inr h) fine = inr (h fine)
