-- No rule refuses the facts of the strip: each constraint joins the next element to one of the two before it, as none before it does.
-- Assumes nothing.
use Rattle.std.specs.Prelude.{◌≡◌, ◌&&◌, ◌∷◌, ◌++◌, ◌+◌, ◌*◌, ◌-◌, ◌<◌}
use Rattle.theory.specs.Prelude.{refl, sym, ap, ap₂, ◌∙◌, subst, Bool, true, false, List, [], append_assoc, append-nil, ℕ, zero}
use Rattle.theory.specs.Prelude.{suc, arith, lt-ltb, le-leb, ne_eqb, eqb, length, get_or, length-append, length-replicate}
use Rattle.sheet.specs.declared.Element.{Element}
use Rattle.sheet.specs.declared.Constraint.{Constraint}
use Rattle.sheet.specs.declared.Opening.TheVariants.{Pf01}
use Rattle.sheet.specs.Facts.{blank_element}
use Rattle.sheet.specs.Rules.{elements_in_range, kinds_allowed, radii_in_range, stands}
use Rattle.sheet.specs.Rules.{size_fault, constraint_fault, constraints_fault, elements_fault}
use Rattle.sheet.specs.Rules.Laws.{elements-range, stands-more, none-else}
use Rattle.sheet.specs.Accepted.{Accepted}
use Rattle.sheet.specs.Accepted.Laws.{not-refused}
use Rattle.longest.specs.Longest.{distance, strip, points, longest_sheet}

-- one constraint after another
pub strip-more : (j : ℕ) → strip (suc j) ≡ (strip j ++ distance j (suc (suc j)) ∷ []) ++ distance (suc j) (suc (suc j)) ∷ []
unfolding strip
strip-more j = simp append_assoc

pub strip-length : (j : ℕ) → length (strip j) ≡ 2 * j + 1
unfolding strip
strip-length zero = refl
strip-length (suc j) = simp length-append (omega (arith, strip-length j))

-- ---- points alone

pub points-at : (n a : ℕ) → get_or (points n) a blank_element ≡ blank_element
points-at zero a = refl
points-at (suc n) zero = refl
points-at (suc n) (suc a) = points-at n a

straight : (n : ℕ) → kinds_allowed Pf01 (points n) ≡ true
unfolding kinds_allowed
straight zero = refl
straight (suc n) = straight n

no-radii : (n : ℕ) → radii_in_range (points n) ≡ true
unfolding radii_in_range
no-radii zero = refl
no-radii (suc n) = no-radii n

pub points-allowed : (n : ℕ) → elements_fault Pf01 (points n) ≡ 0
unfolding elements_fault
points-allowed n = rw (straight n, no-radii n)

-- ---- rules 6 to 9

faults-more : (es : List Element) (cs done : List Constraint) (c : Constraint) → constraints_fault es done cs ≡ 0
    → constraint_fault es (done ++ cs) c ≡ 0 → constraints_fault es done (cs ++ c ∷ []) ≡ 0
unfolding constraints_fault
faults-more es [] done c e q = rw (rw append-nil at q)
faults-more es (d ∷ cs) done c e q =
    let h = none-else (constraint_fault es done d) (constraints_fault es (done ++ d ∷ []) cs) e in
    rw h.0 (faults-more es cs (done ++ d ∷ []) c h.1 (rw append_assoc q))

-- no pair of the strip has an element further on
not-both : (x : Bool) (u v : ℕ) → u < v → x && eqb u v ≡ false
not-both true u v l = ne_eqb u v (λ e. omega arith)
not-both false u v l = refl

stands-none : (j a b : ℕ) → suc j < b → stands (strip j) a b ≡ false
unfolding strip stands
stands-none zero a b l = rw (not-both (eqb 0 a) 1 b)
stands-none (suc j) a b l =
    ap (λ (cs : List Constraint). stands cs a b) (strip-more j)
    ∙ rw (
      stands-more (strip j ++ distance j (suc (suc j)) ∷ []),
      stands-more (strip j),
      stands-none j a b (omega arith),
      not-both (eqb j a) (suc (suc j)) b,
      not-both (eqb (suc j) a) (suc (suc j)) b,
    )

module _ (n : ℕ) where
  abbrev es : List Element
  es = points n

  -- a new pair of points
  new-pair : (done : List Constraint) (a b : ℕ) → a < b → b < n → stands done a b ≡ false → constraint_fault es done (distance a b) ≡ 0
  unfolding size_fault
  new-pair done a b l m s = not-refused es done (distance a b) (record {
    ends-ascend = rw (length-replicate, lt-ltb a b, lt-ltb b n);
    is_new = s;
    size_fits = ap₂ (λ (x y : Element). size_fault x.kind y.kind (distance a b).size) (points-at n a) (points-at n b);
  })

  pub strip-taken : (j : ℕ) → suc j < n → constraints_fault es [] (strip j) ≡ 0
  unfolding strip stands constraints_fault
  strip-taken zero l = faults-more es [] [] (distance 0 1) refl (new-pair [] 0 1 (omega arith) l refl)
  strip-taken (suc j) l =
      let k = suc (suc j) in
      let done = strip j ++ distance j k ∷ [] in
      let first : constraints_fault es [] done ≡ 0 =
      faults-more es (strip j) [] (distance j k) (strip-taken j (omega arith))
      (new-pair (strip j) j k (omega arith) l (stands-none j j k (omega arith))) in
      let apart : stands done (suc j) k ≡ false = rw (
        stands-more (strip j) (distance j k) (suc j) k,
        stands-none j (suc j) k (omega arith),
        ne_eqb j (suc j) (λ e. omega arith),
      ) in
      subst (λ (cs : List Constraint). constraints_fault es [] cs ≡ 0) (sym (strip-more j))
      (faults-more es done [] (distance (suc j) k) first (new-pair done (suc j) k (omega arith) l apart))

pub strip-accepted : (n : ℕ) → elements_in_range n ≡ true → Accepted (longest_sheet n)
strip-accepted n e =
    let h = elements-range n e in
    record {
      elements_fit = rw length-replicate e;
      elements_allowed = points-allowed n;
      constraints_fit = rw strip-length (le-leb (2 * (n - 2) + 1) 200 (omega (arith, h.1)));
      no_fault = strip-taken n (n - 2) (omega (arith, h.0));
    }
