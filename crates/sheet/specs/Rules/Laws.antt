-- Laws of the rules on facts: what a rule that refuses nothing says. Assumes nothing.
use Rattle.std.specs.Prelude.{◌+◌, ◌<◌, ◌≤◌, ◌≡◌, ◌&&◌, ◌||◌, ◌∷◌, ◌++◌}
use Rattle.theory.specs.Prelude.{ℕ, zero, suc, add-one, arith, refl, Bool, true, false, or-false, or_assoc, List}
use Rattle.theory.specs.Prelude.{[], ltb-true, leb-true, eqb, ltb, leb, length, get_or, take, drop, drop-cons, drop_of_length-le, take-suc}
use Rattle.sheet.specs.declared.Opening.{Opening}
use Rattle.sheet.specs.declared.Element.{Element}
use Rattle.sheet.specs.declared.Constraint.{Constraint}
use Rattle.sheet.specs.Facts.Laws.{and-true}
use Rattle.sheet.specs.Rules.{elements_in_range, constraints_in_range, ends_ascend, stands, fault_unless, or_else}
use Rattle.sheet.specs.Rules.{kinds_allowed, radii_in_range, constraint_fault, constraints_fault, elements_fault}

pub elements-range : (n : ℕ) → elements_in_range n ≡ true → (2 ≤ n) × (n ≤ 64)
elements-range n e = let h = and-true (leb 2 n) (leb n 64) e in (leb-true 2 n h.0, leb-true n 64 h.1)

pub elements-most : (n : ℕ) → elements_in_range n ≡ true → n ≤ 64
elements-most n e = (elements-range n e).1

pub constraints-most : (e : ℕ) → constraints_in_range e ≡ true → e ≤ 200
constraints-most e h = leb-true e 200 h

pub ends-true : (n a b : ℕ) → ends_ascend n a b ≡ true → (a < b) × (b < n)
ends-true n a b e =
    let h = and-true (ltb a b) (ltb b n) e in (ltb-true a b h.0, ltb-true b n h.1)

-- the pair stands in a list with one constraint more
pub stands-more : (cs : List Constraint) (c : Constraint) (a b : ℕ)
    → stands (cs ++ c ∷ []) a b ≡ stands cs a b || (eqb c.first a && eqb c.second b)
unfolding stands
stands-more [] c a b = or-false (eqb c.first a && eqb c.second b)
stands-more (d ∷ cs) c a b = rw (stands-more cs c a b, or_assoc)

-- ---- no fault

pub unless-none : (met : Bool) (k rest : ℕ) → fault_unless met (suc k) rest ≡ 0 → (met ≡ true) × (rest ≡ 0)
unless-none true k rest e = (refl, e)
unless-none false k rest e = absurd (omega arith)

pub none-else : (k j : ℕ) → or_else k j ≡ 0 → (k ≡ 0) × (j ≡ 0)
none-else zero j e = (refl, e)
none-else (suc k) j e = absurd (omega arith)

pub or_else_some : (k j : ℕ) → (k ≡ 0 → ⊥) → or_else k j ≡ k
or_else_some zero j h = absurd (h refl)
or_else_some (suc k) j h = refl

-- ---- a walk over constraints: the faults from place i on, after those before it

module _ (es : List Element) (cs : List Constraint) (i : ℕ) where
  pub faults-turn : (d : Constraint) → i < length cs
      → constraints_fault es (take i cs) (drop i cs)
      ≡ or_else (constraint_fault es (take i cs) (get_or cs i d)) (constraints_fault es (take (i + 1) cs) (drop (i + 1) cs))
  unfolding constraints_fault
  faults-turn d h = rw (drop-cons cs i d h, add-one, take-suc cs i d h)

  pub faults-spent : (done : List Constraint) → length cs ≤ i → constraints_fault es done (drop i cs) ≡ 0
  unfolding constraints_fault
  faults-spent done h = rw (drop_of_length-le cs h)

-- ---- the elements

pub elements-taken : (o : Opening) (es : List Element) → elements_fault o es ≡ 0 → (kinds_allowed o es ≡ true) × (radii_in_range es ≡ true)
unfolding elements_fault
elements-taken o es e = let a = unless-none (kinds_allowed o es) 17 _ e in (a.0, (unless-none (radii_in_range es) 18 0 a.1).0)
