-- Laws of the choice: one pair more among all elements, pairs of tight sets, and the choice of numbers. Assumes nothing.
use Rattle.std.specs.Prelude.{◌≡◌, ◌∷◌, ◌+◌, ◌*◌, ◌/◌, ◌%◌, ◌^◌, ◌≤◌, ◌<◌}
use Rattle.theory.specs.Prelude.{refl, sym, ap, ap₂, ◌∙◌, subst, inl, inr, ⊎_elim, Bool, true, false, List, [], map, ℕ}
use Rattle.theory.specs.Prelude.{arith, ℕ_discrete, ones, length, get_or, set, length-set, get_or-set_same}
use Rattle.theory.specs.Prelude.{get_or-set_other}
use Rattle.theory.specs.Set.{◌∈◌, ◌∩◌, ◌∪◌, at, full}
use Rattle.theory.specs.Set.Laws.{⊑⇒size≤, a∩b⊑a, below-full, two_in, ∈-∪⁻, at_zero}
use Rattle.theory.specs.Constraints.{pair, Pairs, Below, has, carried, NotOver, NotOverIn}
use Rattle.theory.specs.Constraints.Laws.{has_in, carried-cut, not-over-in, pair-in, pair_comm, size-pair, pair-below}
use Rattle.theory.specs.Over.{IsOver, Smallest, is_over}
use Rattle.theory.specs.Over.Laws.{more-over, over-is_over, fine-is_over}
use Rattle.theory.specs.Completion.{Offer, ◌∈◌ as ◌∈ᵒ◌, cluster}
use Rattle.theory.specs.Completion.Rank.{Exact}
use Rattle.theory.specs.Completion.Laws.{exact-kept, next-carried}
use Rattle.theory.specs.Choice.{choose}
use Rattle.sparsity.specs.Answer.{Using, More}
use Rattle.missing.specs.Missing.{number}
use Rattle.missing.specs.Choosing.{pair_at, choose_numbers, Numbered, Tied, Held}

-- ---- one pair more among all 64 elements

pub full-small : full 64 < 2 ^ 64
unfolding full
full-small = omega arith

pub more-whole : {old new : List ℕ} {m : ℕ} → ((x : ℕ) → carried new x ≡ carried old x + has m x) → Pairs new → Below 64 new → Below 64 old → m < 2 ^ 64
    → More old new m (full 64)
unfolding NotOverIn
more-whole {old} {new} {m} more pairs below low small = record {
  small = full-small;
  inside = below-full 64 m small;
  carries = more;
  fine = λ h. not-over-in 64 new pairs below (λ x l b. h x (below-full 64 x l) b);
  cut = λ x. omega (arith, carried-cut 64 old low x, ⊑⇒size≤ x (x ∩ full 64) (a∩b⊑a x (full 64)));
}

-- ---- pairs of tight sets

pub tied-more : (cs tied : List ℕ) (s x : ℕ) → x ∈ s → Exact cs s → Tied cs tied → Tied cs (set tied x (get_or tied x 0 ∪ s))
tied-more cs tied s x xs e t = record { places = length-set tied x (get_or tied x 0 ∪ s) ∙ t.places; tight = λ y z l i. go y z l i (ℕ_discrete y x) }
  where
    go : (y z : ℕ) → y < 64 → z ∈ get_or (set tied x (get_or tied x 0 ∪ s)) y 0 → Dec (y ≡ x) → (r : ℕ) × (y ∈ r) × (z ∈ r) × Exact cs r
    go y z l i (no n) = t.tight y z l (ap (at z) (sym (get_or-set_other tied x y (get_or tied x 0 ∪ s) 0 n)) ∙ i)
    go y z l i (yes q) =
        let small : x < length tied = omega (arith, t.places) in
        let j : z ∈ get_or tied x 0 ∪ s =
        ap (at z) (sym (ap (λ (w : ℕ). get_or (set tied x (get_or tied x 0 ∪ s)) w 0) q ∙ get_or-set_same tied x (get_or tied x 0 ∪ s) 0 small)) ∙ i in
        ⊎_elim (λ k. t.tight y z l (ap (λ (w : ℕ). at z (get_or tied w 0)) q ∙ k)) (λ k. (s, ap (λ (w : ℕ). at w s) q ∙ xs, k, e))
        (∈-∪⁻ z (get_or tied x 0) s j)

tied-kept : (cs tied : List ℕ) (m : ℕ) → NotOver (m ∷ cs) → Tied cs tied → Tied (m ∷ cs) tied
tied-kept cs tied m f t = record {
  places = t.places;
  tight = λ x y l i. let r = t.tight x y l i in (r.0, r.1, r.2, exact-kept m cs r.0 f r.3);
}

pub tied-none : (cs tied : List ℕ) → length tied ≡ 64 → ((x : ℕ) → get_or tied x 0 ≡ 0) → Tied cs tied
tied-none cs tied l z = record {
  places = l;
  tight = λ x y h i. absurd (omega (arith, ap (at y) (z x), at_zero y));
}

-- ---- a list with one pair more

module _ {n a b : ℕ} (cs : List ℕ) (ends : (a < b) × (b < n)) where
  pub pairs-more : Pairs cs → Pairs (pair a b ∷ cs)
  unfolding Pairs
  pairs-more p x = ⊎_elim (λ e. ap ones e ∙ size-pair a b ends.0) (p x)

  pub below_more : Below n cs → Below n (pair a b ∷ cs)
  unfolding Below
  below_more h x = ⊎_elim (λ e. subst (λ (z : ℕ). z < 2 ^ n) (sym e) (pair-below n a b (omega (arith, ends.0, ends.1)) ends.1)) (h x)

-- ---- one pair tried

module _ {cs : List ℕ} {own : List (List ℕ)} {tied : List ℕ} {a b : ℕ} (h : Held cs own tied) (ends : (a < b) × (b < 64)) where
  abbrev m : ℕ
  m = pair a b

  more-pairs : Pairs (m ∷ cs)
  more-pairs = pairs-more cs ends h.pairs

  more-below : Below 64 (m ∷ cs)
  more-below = below_more cs ends h.below

  more-held : More cs (m ∷ cs) m (full 64)
  more-held = more-whole (next-carried m cs) more-pairs more-below h.below (pair-below 64 a b (omega (arith, ends.0, ends.1)) ends.1)

  -- a pair of a tight set
  pub known_over : b ∈ get_or tied a 0 → IsOver (m ∷ cs)
  unfolding carried
  known_over i = let r = h.known.tight a b (omega (arith, ends.0, ends.1)) i in record {
    set = r.0;
    two = two_in r.0 a b r.1 r.2 (λ q. omega (arith, ends.0));
    more = omega (arith, r.3, has_in m r.0 (pair-in a b r.0 r.1 r.2));
  }

  -- what the search says of a pair, its ends the other way round
  turned : (P : List ℕ → List ℕ → ℕ → ℕ → Type 0)
      → ((old new : List ℕ) (u : ℕ) → Using old u own → More old new (pair b a) u → P old new (pair b a) u) → P cs (m ∷ cs) m (full 64)
  turned P says =
      subst (λ (z : ℕ). P cs (m ∷ cs) z (full 64)) (pair_comm b a)
      (says cs (m ∷ cs) (full 64) h.uses (subst (λ (z : ℕ). More cs (m ∷ cs) z (full 64)) (pair_comm a b) more-held))

  pub tried-taken : {new : List (List ℕ)} → ((old more : List ℕ) (u : ℕ) → Using old u own → More old more (pair b a) u → Using more u new)
      → Held (m ∷ cs) new tied
  tried-taken {new} says =
      let u = turned (λ old more p u. Using more u new) says in
      record { pairs = more-pairs; below = more-below; uses = u; known = tied-kept cs tied m u.fine h.known }

  pub tried-over : {new : List (List ℕ)} {over : ℕ}
      → ((old more : List ℕ) (u : ℕ) → Using old u own → More old more (pair b a) u
      → Using old u new × IsOver more × Smallest old (pair b a) over)
      → {tied' : List ℕ} → (Exact cs over → Tied cs tied → Tied cs tied') → Held cs new tied' × IsOver (m ∷ cs)
  tried-over {new} {over} says w =
      let o = turned (λ old more p u. Using old u new × IsOver more × Smallest old p over) says in
      (record { pairs = h.pairs; below = h.below; uses = o.0; known = w o.2.tight.exact h.known }, o.1)

-- ---- the choice of numbers

module _ (n : ℕ) (cs : List ℕ) (k : ℕ) (ks : List ℕ) (pairs : Pairs (pair_at k ∷ cs)) (below : Below n (pair_at k ∷ cs)) where
  pub choose-pass : IsOver (pair_at k ∷ cs) → choose_numbers n cs (k ∷ ks) ≡ choose_numbers n cs ks
  unfolding choose_numbers
  choose-pass o =
      ap (λ (b : Bool). elim b [ true ↦ choose_numbers n cs ks | false ↦ k ∷ choose_numbers n (pair_at k ∷ cs) ks ]) (over-is_over n (pair_at k ∷ cs) pairs below o)

  pub choose-take : NotOver (pair_at k ∷ cs) → choose_numbers n cs (k ∷ ks) ≡ k ∷ choose_numbers n (pair_at k ∷ cs) ks
  unfolding choose_numbers
  choose-take f =
      ap (λ (b : Bool). elim b [ true ↦ choose_numbers n cs ks | false ↦ k ∷ choose_numbers n (pair_at k ∷ cs) ks ]) (fine-is_over n (pair_at k ∷ cs) f)

-- with 2n-3 constraints no pair is taken
pub choose-none : (n : ℕ) (cs ks : List ℕ) → 2 ≤ n → Pairs cs → Below n cs → length cs + 3 ≡ 2 * n → Numbered n ks → choose_numbers n cs ks ≡ []
unfolding choose_numbers
choose-none n cs [] two pairs below whole h = refl
choose-none n cs (k ∷ ks) two pairs below whole h =
    let ends = h.each k (inl refl) in
    let more = below_more cs ends below in
    choose-pass n cs k ks (pairs-more cs ends pairs) more (more-over n (pair_at k ∷ cs) two more (omega arith))
    ∙ choose-none n cs ks two pairs below whole (record { each = λ j i. h.each j (inr i) })

number-pair : (o : Offer) → o.v < 256 → pair_at (number o) ≡ cluster o
number-pair o h =
    let a : number o / 256 ≡ o.u = omega arith in
    let b : number o % 256 ≡ o.v = omega arith in ap₂ pair a b

-- it is the greedy choice
pub numbers-chosen : (n : ℕ) (l : List Offer) (cs : List ℕ) → ((o : Offer) → o ∈ᵒ l → o.v < 256) → choose_numbers n cs (map number l) ≡ map number (choose n cs l)
unfolding choose_numbers choose
numbers-chosen n [] cs h = refl
numbers-chosen n (o ∷ l) cs h =
    ap (λ (m : ℕ). elim (is_over n (m ∷ cs)) [ true ↦ choose_numbers n cs (map number l) | false ↦ number o ∷ choose_numbers n (m ∷ cs) (map number l) ]) (number-pair o (h o (inl refl)))
    ∙ go (is_over n (cluster o ∷ cs)) (λ ds. numbers-chosen n l ds (λ p i. h p (inr i)))
  where
    go : (b : Bool) → ((ds : List ℕ) → choose_numbers n ds (map number l) ≡ map number (choose n ds l))
        → elim b [ true ↦ choose_numbers n cs (map number l) | false ↦ number o ∷ choose_numbers n (cluster o ∷ cs) (map number l) ]
        ≡ map number (elim b [ true ↦ choose n cs l | false ↦ o ∷ choose n (cluster o ∷ cs) l ])
    go true ih = ih cs
    go false ih = ap (λ (x : List ℕ). number o ∷ x) (ih (cluster o ∷ cs))
