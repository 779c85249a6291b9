-- A sheet with its constraints in another order reads as its facts in that order. Assumes nothing.
use Rattle.std.specs.Prelude.{◌+◌, ◌*◌, ◌-◌, ◌≡◌, ◌∷◌, ◌++◌}
use Rattle.theory.specs.Prelude.{ℕ, zero, suc, arith, refl, sym, ap, ◌∙◌, subst, true, false, Bool}
use Rattle.theory.specs.Prelude.{cond, List, []}
use Rattle.theory.specs.Prelude.{append-nil, append_assoc, eqb, ltb, length, take, drop, get_or, length-append, take_at}
use Rattle.theory.specs.Prelude.{drop_at, get_or-append-add, ltb-true}
use Rattle.theory.specs.Constraints.{Perm}
use Rattle.theory.specs.Constraints.Perm.{same, skip, swap, then}
use Rattle.theory.specs.Constraints.Laws.{length-perm}
use Rattle.sheet.specs.declared.Opening.{Opening}
use Rattle.sheet.specs.declared.Opening.TheVariants.{Pf01, Pf02}
use Rattle.sheet.specs.declared.Element.{Element}
use Rattle.sheet.specs.declared.Constraint.{Constraint}
use Rattle.sheet.specs.Facts.{Facts, bit_of, kinds_of}
use Rattle.sheet.specs.Facts.Laws.{and-true}
use Rattle.sheet.specs.Field.{value, demand, number, field, byte_by, kind_bytes, opening_bytes, begins, Bytes}
use Rattle.sheet.specs.Field.Laws.{next-value, demand-value, value-with, refused-value, begins-front, opening-length}
use Rattle.sheet.specs.Field.Laws.{bytes_drop}
use Rattle.sheet.specs.Rules.{elements_in_range, kind_bits_used, kinds_known, radius_in_range, constraints_in_range, stands}
use Rattle.sheet.specs.Rules.{constraint_fault}
use Rattle.sheet.specs.Rules.{constraints_fault}
use Rattle.sheet.specs.Rules.Laws.{none-else}
use Rattle.sheet.specs.Decode.{opening, read_kinds, element, read_elements, constraint, constraints, read_constraints}
use Rattle.sheet.specs.Decode.{read_sheet}
use Rattle.sheet.specs.WithoutTags.{size_length, tag_length, circles_among, before, listed}
use Rattle.sheet.specs.Accepted.Laws.{taken, accepted-perm}
use Rattle.sheet.specs.Graph.{reordered}
use Rattle.sheet.specs.RoundTrip.{written_read}
use Rattle.sheet.specs.RoundTrip.Read.{constraint-front}
use Rattle.pattern.specs.Orders.{own_bytes, joined, constraints_of, in_order}
use Rattle.pattern.specs.Orders.Local.{Local, field-local, byte-own, constraint-local}

-- ---- the constraints, each from its own bytes

pub record Says (es : List Element) (p : List ℕ) (c : Constraint) : Type 0 where
  pub again : (done : List Constraint) (u : List ℕ) → stands done c.first c.second ≡ false
      → constraint es done (p ++ u) ≡ value c u

pub data Say (es : List Element) : List (List ℕ) → List Constraint → Type 0 where
  none : Say es [] []
  also : {p : List ℕ} {c : Constraint} {ps : List (List ℕ)} {cs : List Constraint} → Says es p c → Say es ps cs
      → Say es (p ∷ ps) (c ∷ cs)

record ConstraintsLocal (es : List Element) (k : ℕ) (done : List Constraint) (s : List ℕ)
    (all : List Constraint) : Type 0 where
  new : List Constraint
  all_are : all ≡ done ++ new
  count : length new ≡ k
  says : Say es (own_bytes k s) new
  whole : joined (own_bytes k s) ≡ s

constraints-local : (es : List Element) (k : ℕ) (done : List Constraint)
    (s : List ℕ) {all : List Constraint} {t : List ℕ} → Bytes s
    → constraints es k done s ≡ value all t → ConstraintsLocal es k done s all
unfolding constraints own_bytes joined
constraints-local es zero done [] h e =
    value-with (λ all t. ConstraintsLocal es zero done [] all) e
    (record { new = []; all_are = sym (append-nil done); count = refl; says = none; whole = refl })
constraints-local es zero done (b ∷ s) h e = refused-value e
constraints-local es (suc k) done s {all} h e =
    next-value (constraint es done s) _ e (λ c s1 was e1.
    let f = constraint-local es done s h was in
    let r = constraints-local es k (done ++ c ∷ []) s1 (constraint-front es done s h was).rest e1 in
    let p = c.first ∷ c.second ∷ f.bits ∷ f.own in
    let own : own_bytes (suc k) s ≡ p ∷ own_bytes k s1 = ap (own_bytes (suc k)) f.front
    ∙ first-own k c f.bits f.own s1 f.long in
    record {
      new = c ∷ r.new;
      all_are = r.all_are ∙ append_assoc done (c ∷ []) r.new;
      count = ap suc r.count;
      says = rw own (also (record { again = f.again }) r.says);
      whole = ap joined own ∙ ap (λ (l : List ℕ). p ++ l) r.whole ∙ sym f.front;
    })
  where
    first-own : (k : ℕ) (c : Constraint) (bits : ℕ) (own s1 : List ℕ) → length own ≡ size_length bits + tag_length bits
        → own_bytes (suc k) (c.first ∷ c.second ∷ bits ∷ own ++ s1)
        ≡ (c.first ∷ c.second ∷ bits ∷ own) ∷ own_bytes k s1
    first-own k c bits own s1 long = rw (take_at own s1 _ long, drop_at own s1 _ long)

-- ---- in another order

record Ordered (es : List Element) (cs : List Constraint) (qs : List (List ℕ)) : Type 0 where
  order : List Constraint
  perm : Perm cs order
  say : Say es qs order

say-perm : (es : List Element) {ps qs : List (List ℕ)} {cs : List Constraint} → Perm ps qs → Say es ps cs
    → Ordered es cs qs
say-perm es {cs = cs} same h = record { order = cs; perm = same; say = h }
say-perm es (skip x r) (also {c = c} a h) =
    let o = say-perm es r h in record { order = c ∷ o.order; perm = skip c o.perm; say = also a o.say }
say-perm es (swap x y) (also {c = c} a (also {c = d} {cs = cs} b h)) =
    record { order = d ∷ c ∷ cs; perm = swap c d; say = also b (also a h) }
say-perm es (then r t) h =
    let o = say-perm es r h in
    let w = say-perm es t o.say in
    record { order = w.order; perm = then o.perm w.perm; say = w.say }

constraints-again : (es : List Element) {ps : List (List ℕ)} {ds : List Constraint} (done : List Constraint)
    → Say es ps ds
    → constraints_fault es done ds ≡ 0 → constraints es (length ds) done (joined ps) ≡ value (done ++ ds) []
unfolding constraints joined constraints_fault
constraints-again es done none h = rw (append-nil done)
constraints-again es done (also {p = p} {c = c} {ps = ps} {cs = ds} a l) h =
    let f = none-else (constraint_fault es done c) _ h in
    rw (a.again done (joined ps) (taken es done c f.0).is_new)
    (constraints-again es (done ++ c ∷ []) l f.1
    ∙ ap (λ (x : List Constraint). value x []) (append_assoc done (c ∷ []) ds))

-- ---- what precedes them

opening-own : (s : List ℕ) {o : Opening} {t : List ℕ} → opening s ≡ value o t → s ≡ opening_bytes o ++ t
unfolding opening
opening-own s e = go (begins (opening_bytes Pf01) s) refl e
  where
    go : {o : Opening} {t : List ℕ} (b : Bool) → begins (opening_bytes Pf01) s ≡ b
        → cond b (value Pf01 (drop 4 s)) (demand (begins (opening_bytes Pf02) s) 1 (value Pf02 (drop 4 s))) ≡ value o t
        → s ≡ opening_bytes o ++ t
    go true b e = value-with (λ o t. s ≡ opening_bytes o ++ t) e (begins-front (opening_bytes Pf01) s b)
    go false b e =
        demand-value (begins (opening_bytes Pf02) s) 1 _ e (λ b e1.
        value-with (λ o t. s ≡ opening_bytes o ++ t) e1 (begins-front (opening_bytes Pf02) s b))

opening-again : (o : Opening) (s : List ℕ) → opening (opening_bytes o ++ s) ≡ value o s
unfolding opening
opening-again Pf01 s = refl
opening-again Pf02 s = refl

record KindsLocal (o : Opening) (n : ℕ) (s ks t : List ℕ) : Type 0 where
  read : Local (read_kinds o n) (kind_bytes o n) s ks t
  is : ks ≡ kinds_of o n (number read.own)
  known : kinds_known ks ≡ true

kinds-local : (o : Opening) (n : ℕ) (s : List ℕ) {ks t : List ℕ} → read_kinds o n s ≡ value ks t → KindsLocal o n s ks t
unfolding read_kinds
kinds-local o n s e =
    next-value (field (kind_bytes o n) s) _ e (λ m s1 was e1.
    let f = field-local (kind_bytes o n) s was in
    demand-value (kind_bits_used o n m) 4 _ e1 (λ ok e2.
    demand-value (kinds_known (kinds_of o n m)) 18 _ e2 (λ known e3.
    value-with (KindsLocal o n s) e3
    (record {
      read = record {
        own = f.read.own;
        front = f.read.front;
        long = f.read.long;
        again = λ u. rw
            (f.read.again u, ok, known);
      };
      is = ap (kinds_of o n) (sym f.is);
      known = known;
    }))))

element-local : (k : ℕ) (s : List ℕ) {x : Element} {t : List ℕ} → ltb k 3 ≡ true → element k s ≡ value x t
    → Local (element k) (4 * bit_of (eqb k 2)) s x t
unfolding element
element-local zero s l e = value-with (Local (element 0) 0 s) e
    (record { own = []; front = refl; long = refl; again = λ u. refl })
element-local (suc zero) s l e = value-with (Local (element 1) 0 s) e
    (record { own = []; front = refl; long = refl; again = λ u. refl })
element-local (suc (suc zero)) s l e =
    next-value (field 4 s) _ e (λ r s1 was e1.
    let f = (field-local 4 s was).read in
    demand-value (radius_in_range r) 19 _ e1 (λ range e2.
    value-with (Local (element 2) 4 s) e2
    (record { own = f.own; front = f.front; long = f.long; again = λ u. rw (f.again u, range) })))
element-local (suc (suc (suc k))) s l e = absurd (omega (arith, ltb-true (suc (suc (suc k))) 3 l))

elements-local : (ks s : List ℕ) {xs : List Element} {t : List ℕ} → kinds_known ks ≡ true
    → read_elements ks s ≡ value xs t
    → Local (read_elements ks) (4 * circles_among ks) s xs t
unfolding read_elements kinds_known circles_among
elements-local [] s known e = value-with (Local (read_elements []) 0 s) e
    (record { own = []; front = refl; long = refl; again = λ u. refl })
elements-local (k ∷ ks) s known e =
    let both = and-true (ltb k 3) (kinds_known ks) known in
    next-value (element k s) _ e (λ x s1 was e1.
    let f = element-local k s both.0 was in
    next-value (read_elements ks s1) _ e1 (λ xs s2 was2 e2.
    let g = elements-local ks s1 both.1 was2 in
    value-with (Local (read_elements (k ∷ ks)) (4 * circles_among (k ∷ ks)) s) e2
    (record {
      own = f.own ++ g.own;
      front = f.front ∙ ap (λ (l : List ℕ). f.own ++ l) g.front ∙ sym (append_assoc f.own g.own s2);
      long = length-append f.own g.own ∙ rw (f.long, g.long) (omega arith);
      again = λ u. rw (append_assoc f.own g.own u, f.again (g.own ++ u), g.again u);
    })))

-- ---- the sheet

-- where a sheet that is read parts: what precedes its constraints reads the same before others
record Parted (s : List ℕ) (f : Facts) : Type 0 where
  body : List ℕ
  count : ℕ
  own : constraints_of s ≡ own_bytes count body
  put : (ps : List (List ℕ)) → joined ps ≡ body → in_order s ps ≡ s
  all : Bytes body
  reads : constraints f.elements count [] body ≡ value f.constraints []
  again : (ps : List (List ℕ)) (ds : List Constraint) → constraints f.elements count [] (joined ps) ≡ value ds []
      → read_sheet (in_order s ps) ≡ value (reordered f ds) []

-- its fields one after another
module _ (o : Opening) (n e : ℕ) (kinds radii : List ℕ) where
  abbrev counts : List ℕ
  counts = opening_bytes o ++ (n ∷ kinds ++ radii)

  abbrev whole : List ℕ → List ℕ
  whole s = opening_bytes o ++ (n ∷ kinds ++ (radii ++ (e ∷ s)))

  regroup : (s : List ℕ) → whole s ≡ counts ++ (e ∷ s)
  regroup s = simp append_assoc

  module _ (kinds-long : length kinds ≡ kind_bytes o n)
      (radii-long : length radii ≡ 4 * circles_among (kinds_of o n (number kinds))) where
    counts-long : length counts ≡ 5 + kind_bytes o n + 4 * circles_among (kinds_of o n (number kinds))
    counts-long = simp (length-append, opening-length o) (omega (arith, kinds-long, radii-long))

    before-by : (o : Opening) (s : List ℕ) → length kinds ≡ kind_bytes o n
        → before (opening_bytes o ++ (n ∷ kinds ++ s))
        ≡ 6 + kind_bytes o n + 4 * circles_among (kinds_of o n (number kinds))
    unfolding before
    before-by Pf01 s l = ap (λ (x : List ℕ). 6 + kind_bytes Pf01 n + 4 * circles_among (kinds_of Pf01 n (number x)))
        (take_at kinds s _ l)
    before-by Pf02 s l = ap (λ (x : List ℕ). 6 + kind_bytes Pf02 n + 4 * circles_among (kinds_of Pf02 n (number x)))
        (take_at kinds s _ l)

    before-is : (s : List ℕ) → before (whole s) ≡ length counts + 1
    before-is s = omega (arith, before-by o (radii ++ (e ∷ s)) kinds-long, counts-long)

    listed-is : (s : List ℕ) → listed (whole s) ≡ e
    listed-is s =
        let at : before (whole s) - 1 ≡ length counts + 0 = omega (arith, before-is s) in
        ap (λ (k : ℕ). get_or (whole s) k 0) at ∙ ap (λ (l : List ℕ). get_or l (length counts + 0) 0) (regroup s)
        ∙ get_or-append-add counts (e ∷ s) 0 0

    long : (s : List ℕ) → length (counts ++ (e ∷ [])) ≡ before (whole s)
    long s = length-append counts (e ∷ []) ∙ sym (before-is s)

    split : (s : List ℕ) → whole s ≡ (counts ++ (e ∷ [])) ++ s
    split s = regroup s ∙ sym (append_assoc counts (e ∷ []) s)

    taken_is : (s : List ℕ) → take (before (whole s)) (whole s) ≡ counts ++ (e ∷ [])
    taken_is s = ap (take (before (whole s))) (split s) ∙ take_at (counts ++ (e ∷ [])) s _ (long s)

    left_is : (s : List ℕ) → drop (before (whole s)) (whole s) ≡ s
    left_is s = ap (drop (before (whole s))) (split s) ∙ drop_at (counts ++ (e ∷ [])) s _ (long s)

    put_back : (s : List ℕ) (ps : List (List ℕ)) → in_order (whole s) ps ≡ whole (joined ps)
    put_back s ps = ap (λ (l : List ℕ). l ++ joined ps) (taken_is s) ∙ sym (split (joined ps))

    assembled : (ks : List ℕ) (es : List Element) (cs : List Constraint) (s : List ℕ) → elements_in_range n ≡ true
        → constraints_in_range e ≡ true
        → ((u : List ℕ) → read_kinds o n (kinds ++ u) ≡ value ks u)
        → ((u : List ℕ) → read_elements ks (radii ++ u) ≡ value es u)
        → Bytes (whole s) → constraints es e [] s ≡ value cs []
        → Parted (whole s) (record { opening = o; elements = es; constraints = cs })
    unfolding read_sheet read_constraints
    assembled ks es cs s n-ok e-ok kinds-again radii-again h reads = record {
      body = s;
      count = e;
      own = rw (listed-is s, left_is s);
      put = λ ps q. put_back s ps ∙ ap whole q;
      all = rw (left_is s) at (bytes_drop (before (whole s)) (whole s) h);
      reads = reads;
      again = λ ps ds q.
          ap read_sheet (put_back s ps)
          ∙ rw (
            opening-again o (n ∷ kinds ++ (radii ++ (e ∷ joined ps))),
            n-ok,
            kinds-again (radii ++ (e ∷ joined ps)),
            radii-again (e ∷ joined ps),
            e-ok,
            q,
          );
    }

parted : (s : List ℕ) (f : Facts) (t : List ℕ) → Bytes s → read_sheet s ≡ value f t → Parted s f
unfolding read_sheet read_constraints
parted s f t h e =
    next-value (opening s) _ e (λ o s1 was1 e1.
    next-value (byte_by elements_in_range 3 s1) _ e1 (λ n s2 was2 e2.
    let b = byte-own elements_in_range 3 s1 was2 in
    next-value (read_kinds o n s2) _ e2 (λ ks s3 was3 e3.
    let c = kinds-local o n s2 was3 in
    next-value (read_elements ks s3) _ e3 (λ es s4 was4 e4.
    let d = elements-local ks s3 c.known was4 in
    next-value (byte_by constraints_in_range 5 s4) _ e4 (λ k s5 was5 e5.
    let q = byte-own constraints_in_range 5 s4 was5 in
    next-value (constraints es k [] s5) _ e5 (λ cs s6 was6 e6.
    let is : s ≡ whole o n k c.read.own d.own s5 =
    opening-own s was1
    ∙ ap (λ (l : List ℕ). opening_bytes o ++ l) (b.1 ∙ ap (λ (l : List ℕ). n ∷ l) (c.read.front
    ∙ ap (λ (l : List ℕ). c.read.own ++ l) (d.front ∙ ap (λ (l : List ℕ). d.own ++ l) q.1))) in
    value-with (λ f t. t ≡ [] → Parted s f) e6 (λ spent.
    subst (λ (x : List ℕ). Parted x (record { opening = o; elements = es; constraints = cs })) (sym is)
    (assembled o n k c.read.own d.own c.read.long
    (d.long ∙ ap (λ (l : List ℕ). 4 * circles_among l) c.is) ks es cs s5 b.0 q.0
    c.read.again d.again (subst Bytes is h) (was6 ∙ ap (value cs) spent)))
    (written_read s f t h e).0))))))

-- ---- the facts in that order

pub record ReadInOrder (s : List ℕ) (f : Facts) (ps : List (List ℕ)) : Type 0 where
  pub order : List Constraint
  pub perm : Perm f.constraints order
  pub reads : read_sheet (in_order s ps) ≡ value (reordered f order) []

module _ (s : List ℕ) (f : Facts) (t : List ℕ) (h : Bytes s) (e : read_sheet s ≡ value f t) where
  pub own-order : in_order s (constraints_of s) ≡ s
  own-order =
      let p = parted s f t h e in
      p.put (constraints_of s)
      (ap joined p.own ∙ (constraints-local f.elements p.count [] p.body p.all p.reads).whole)

  pub read-in-order : (ps : List (List ℕ)) → Perm (constraints_of s) ps → ReadInOrder s f ps
  read-in-order ps r =
      let p = parted s f t h e in
      let l = constraints-local f.elements p.count [] p.body p.all p.reads in
      let o = say-perm f.elements (rw p.own at r) l.says in
      let perm : Perm f.constraints o.order = subst (λ (cs : List Constraint). Perm cs o.order)
      (sym l.all_are) o.perm in
      let a = accepted-perm f.opening f.elements f.constraints o.order perm (written_read s f t h e).2 in
      let long : length o.order ≡ p.count = sym (length-perm o.perm) ∙ l.count in
      record {
        order = o.order;
        perm = perm;
        reads = p.again ps o.order (rw long at (constraints-again f.elements [] o.say a.no_fault));
      }
