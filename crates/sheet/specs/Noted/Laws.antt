-- Laws of the noted constraints: a pair's bit says whether the pair stands, and one constraint more. Assumes nothing.
use Rattle.std.specs.Prelude.{◌/◌, ◌%◌, ◌^◌, ◌<◌, ◌≡◌, ◌↔◌, ◌&&◌, ◌||◌, ◌∷◌, ◌++◌}
use Rattle.theory.specs.Prelude.{ℕ, arith, refl, sym, ap, ◌∙◌, inl, inr, Bool, true, false, List, []}
use Rattle.theory.specs.Prelude.{map, eqb-true, eq-eqb, ne_eqb, bit_or, eqb, get_or, set, replicate}
use Rattle.theory.specs.Set.{◌∈◌, at}
use Rattle.theory.specs.Set.Laws.{at-div}
use Rattle.theory.specs.Constraints.{Among, pair}
use Rattle.theory.specs.Constraints.Laws.{pair_one}
use Rattle.theory.specs.Near.Laws.{near_none, near-stored}
use Rattle.sheet.specs.declared.Constraint.{Constraint}
use Rattle.sheet.specs.Rules.{stands}
use Rattle.sheet.specs.Facts.Laws.{and-true}
use Rattle.sheet.specs.Graph.{cluster_of}
use Rattle.sheet.specs.Noted.{Ascend, Noted}

-- ---- a pair that stands is one of the initial clusters

stands-among : (cs : List Constraint) (a b : ℕ) → stands cs a b ≡ true → Among (pair a b) (map cluster_of cs)
unfolding stands
stands-among [] a b e = let z : ◌≡◌ {A = ℕ} 0 1 = cc in absurd (omega arith)
stands-among (c ∷ cs) a b e = first (eqb c.first a && eqb c.second b) refl e (stands-among cs a b)
  where
    first : (t : Bool) → eqb c.first a && eqb c.second b ≡ t → t || stands cs a b ≡ true
        → (stands cs a b ≡ true → Among (pair a b) (map cluster_of cs)) → Among (pair a b) (map cluster_of (c ∷ cs))
    first true h e later =
        let both = and-true (eqb c.first a) (eqb c.second b) h in
        inl (rw (eqb-true c.first a both.0, eqb-true c.second b both.1))
    first false h e later = inr (later e)

among-stands : (cs : List Constraint) (a b : ℕ) → Ascend 64 cs → a < b → Among (pair a b) (map cluster_of cs) → stands cs a b ≡ true
unfolding stands
among-stands [] a b s l h = elim h [ ]
among-stands (c ∷ cs) a b s l (inl e) =
    let same = pair_one a b c.first c.second l s.0 e in
    rw (eq-eqb c.first a (sym same.0), eq-eqb c.second b (sym same.1))
among-stands (c ∷ cs) a b s l (inr h) = rw (among-stands cs a b s.2 l h) (or-true (eqb c.first a && eqb c.second b))
  where
    or-true : (x : Bool) → x || true ≡ true
    or-true true = refl
    or-true false = refl

-- bit b of near's item a
pub noted-says : {near : List ℕ} {cs : List Constraint} {a b : ℕ} → Noted near cs → a < b → b < 64 → eqb (get_or near a 0 / 2 ^ b % 2) 1 ≡ stands cs a b
noted-says {near} {cs} {a} {b} h l m = rw (← at-div b (get_or near a 0)) (by-rule (h.pairs.says a b (omega arith)) (stands cs a b) refl)
  where
    by-rule : (b ∈ get_or near a 0) ↔ Among (pair a b) (map cluster_of cs) → (t : Bool) → stands cs a b ≡ t
        → eqb (at b (get_or near a 0)) 1 ≡ stands cs a b
    by-rule says true e = eq-eqb _ _ (says.1 (stands-among cs a b e)) ∙ sym e
    by-rule says false e =
        ne_eqb _ _ (λ i.
        let never : true ≡ false = sym (among-stands cs a b h.ascend l (says.0 i)) ∙ e in
        let z : ◌≡◌ {A = ℕ} 0 1 = cc in omega arith)
        ∙ sym e

-- ---- lists that grow at their end

pub noted-none : Noted (replicate 64 0) []
noted-none = record { ascend = tt; pairs = near_none }

ascend-more : (n : ℕ) (cs : List Constraint) (c : Constraint) → Ascend n cs → c.first < c.second → c.second < n
    → Ascend n (cs ++ c ∷ [])
ascend-more n [] c s l m = (l, m, tt)
ascend-more n (d ∷ cs) c s l m = (s.0, s.1, ascend-more n cs c s.2 l m)

pub clusters-more : (cs : List Constraint) (c : Constraint) → map cluster_of (cs ++ c ∷ []) ≡ map cluster_of cs ++ pair c.first c.second ∷ []
clusters-more [] c = refl
clusters-more (d ∷ cs) c = ap (λ (l : List ℕ). pair d.first d.second ∷ l) (clusters-more cs c)

-- both sets read, then both stored
pub noted_more : (near : List ℕ) (cs : List Constraint) (c : Constraint) → c.first < c.second → c.second < 64 → Noted near cs
    → Noted (set (set near c.first (bit_or (get_or near c.first 0) (2 ^ c.second))) c.second (bit_or (get_or near c.second 0) (2 ^ c.first)))
    (cs ++ c ∷ [])
noted_more near cs c l m h = record {
  ascend = ascend-more 64 cs c h.ascend l m;
  pairs = rw clusters-more
      (near-stored (map cluster_of cs) near h.pairs c.first c.second (omega arith) m (λ e. omega arith) refl refl refl refl);
}
