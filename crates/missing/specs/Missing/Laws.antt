-- The answer is the cheapest list, of which there is one, or 23 where there is none. Assumes nothing.
use Rattle.std.specs.Prelude.{◌≡◌, ◌≢◌, ◌∷◌, ◌+◌, ◌*◌, ◌≤◌}
use Rattle.theory.specs.Prelude.{refl, sym, ap, ◌∙◌, subst, inl, inr, Bool, true, false, List, [], map, Option, none, some, ℕ}
use Rattle.theory.specs.Prelude.{arith, eq-eqb, ne_eqb, T, eqb, eqb→eq, length, length-map}
use Rattle.theory.specs.Constraints.{Among, Pairs, Below, NotOver}
use Rattle.theory.specs.Graph.{Graph}
use Rattle.sheet.specs.Field.{Field, value, refused, demand}
use Rattle.sheet.specs.Refusals.{Rule, By, given, ruled}
use Rattle.theory.specs.Completion.{Offer, ◌∈◌}
use Rattle.theory.specs.Completion.Laws.{cheapest-one}
use Rattle.theory.specs.Choice.{prices_allowed, offers, chosen, cheapest}
use Rattle.theory.specs.Choice.Laws.{offers-sound, Right, cheapest-right}
use Rattle.missing.specs.Choosing.{choose_numbers, Numbered}
use Rattle.missing.specs.Choosing.Laws.{numbers-chosen}
use Rattle.missing.specs.Missing.{number, pairs_of, list_field, cheapest_field, Told}

-- ---- in the order of the rules

module _ (g : Graph) (prices : List ℕ) where
  pub not-long : length prices ≢ pairs_of g.n → cheapest_field g prices ≡ refused 21
  unfolding cheapest_field
  not-long n =
      ap (λ (b : Bool). demand b 21 (demand (prices_allowed prices) 22 (list_field (cheapest g prices)))) (ne_eqb (length prices) (pairs_of g.n) n)

  module _ (long : length prices ≡ pairs_of g.n) where
    by_length : cheapest_field g prices ≡ demand (prices_allowed prices) 22 (list_field (cheapest g prices))
    unfolding cheapest_field
    by_length =
        ap (λ (b : Bool). demand b 21 (demand (prices_allowed prices) 22 (list_field (cheapest g prices)))) (eq-eqb (length prices) (pairs_of g.n) long)

    pub not-allowed : prices_allowed prices ≡ false → cheapest_field g prices ≡ refused 22
    not-allowed e = by_length ∙ ap (λ (b : Bool). demand b 22 (list_field (cheapest g prices))) e

    pub is-listed : prices_allowed prices ≡ true → cheapest_field g prices ≡ list_field (cheapest g prices)
    is-listed e = by_length ∙ ap (λ (b : Bool). demand b 22 (list_field (cheapest g prices))) e

  pub none-listed : length g.clusters + length (chosen g prices) + 3 ≢ 2 * g.n → list_field (cheapest g prices) ≡ refused 23
  unfolding cheapest
  none-listed n =
      ap (λ (b : Bool). list_field (elim b [ true ↦ some (chosen g prices) | false ↦ none ]))
      (ne_eqb (length g.clusters + length (chosen g prices) + 3) (2 * g.n) n)

  pub chosen-listed : length g.clusters + length (chosen g prices) + 3 ≡ 2 * g.n → list_field (cheapest g prices) ≡ value (map number (chosen g prices)) []
  unfolding cheapest
  chosen-listed e =
      ap (λ (b : Bool). list_field (elim b [ true ↦ some (chosen g prices) | false ↦ none ]))
      (eq-eqb (length g.clusters + length (chosen g prices) + 3) (2 * g.n) e)

  -- ---- the offers as numbers

  among-number : (l : List Offer) (k : ℕ) → Among k (map number l) → (o : Offer) × (o ∈ l) × (k ≡ number o)
  among-number [] k i = absurd i
  among-number (o ∷ l) k (inl e) = (o, inl refl, e)
  among-number (o ∷ l) k (inr i) = let r = among-number l k i in (r.0, inr r.1, r.2)

  module _ (small : g.n ≤ 64) where
    pub offers-numbered : Numbered g.n (map number (offers g prices))
    offers-numbered = record {
      each = λ k i.
          let r = among-number (offers g prices) k i in
          let s = offers-sound g prices r.0 r.1 in
          (omega (arith, r.2, s.0, s.1), omega (arith, r.2, s.0, s.1));
    }

    pub numbers-are : choose_numbers g.n g.clusters (map number (offers g prices)) ≡ map number (chosen g prices)
    numbers-are = numbers-chosen g.n (offers g prices) g.clusters (λ o i. omega (arith, (offers-sound g prices o i).1))

-- ---- which rules refuse, and how many items there are

module _ (g : Graph) (prices : List ℕ) where
  pub listed-most : g.n ≤ 64 → (items rest : List ℕ) → cheapest_field g prices ≡ value items rest → length items ≤ 125
  unfolding cheapest_field cheapest
  listed-most small items rest e =
      by (eqb (length prices) (pairs_of g.n)) (prices_allowed prices) (eqb (length g.clusters + length (chosen g prices) + 3) (2 * g.n)) refl e
    where
      by : (a b d : Bool) → eqb (length g.clusters + length (chosen g prices) + 3) (2 * g.n) ≡ d
          → demand a 21 (demand b 22 (list_field (elim d [ true ↦ some (chosen g prices) | false ↦ none ]))) ≡ value items rest → length items ≤ 125
      by false b d q z = absurd (let x : ◌≡◌ {A = ℕ} 0 1 = cc in omega arith)
      by true false d q z = absurd (let x : ◌≡◌ {A = ℕ} 0 1 = cc in omega arith)
      by true true false q z = absurd (let x : ◌≡◌ {A = ℕ} 0 1 = cc in omega arith)
      by true true true q z =
          let same : map number (chosen g prices) ≡ items = cc in
          let full = eqb→eq (length g.clusters + length (chosen g prices) + 3) (2 * g.n) (subst T (sym q) tt) in
          omega (arith, ap length same, length-map (chosen g prices) number, full)

  pub by-rules : By (Rule 21 23) (cheapest_field g prices)
  unfolding cheapest_field
  by-rules = by (eqb (length prices) (pairs_of g.n)) (prices_allowed prices) (cheapest g prices)
    where
      by : (a b : Bool) (x : Option (List Offer)) → By (Rule 21 23) (demand a 21 (demand b 22 (list_field x)))
      by false b x = ruled {k = 21} (record { from = omega arith; to = omega arith })
      by true false x = ruled {k = 22} (record { from = omega arith; to = omega arith })
      by true true none = ruled {k = 23} (record { from = omega arith; to = omega arith })
      by true true (some l) = given

-- ---- what is promised

unfoldable Items : Field (List ℕ) → Type 0
Items (value l rest) = Unit {0}
Items (refused k) = ⊥

clash : (l : List ℕ) → value l [] ≡ refused 23 → ⊥
unfolding Items
clash l q = subst Items q tt

module _ (g : Graph) (prices : List ℕ) (two : 2 ≤ g.n) (pairs : Pairs g.clusters) (below : Below g.n g.clusters) (fine : NotOver g.clusters)
    (long : length prices ≡ pairs_of g.n) (ok : prices_allowed prices ≡ true) where
  pub told : Told g prices (cheapest_field g prices)
  told = by (cheapest g prices) refl (cheapest-right g prices two pairs below fine (subst T (sym ok) tt))
    where
      is : cheapest_field g prices ≡ list_field (cheapest g prices)
      is = is-listed g prices long ok

      by : (x : Option (List Offer)) → cheapest g prices ≡ x → Right g prices x → Told g prices (cheapest_field g prices)
      by (some k) e r = record {
        list = λ l c. is ∙ ap list_field e ∙ ap (λ (z : List Offer). value (map number z) []) (cheapest-one g prices k l r c);
        one = cheapest-one g prices;
        some_will = λ j c. (k, r);
        none_will = (λ q. absurd (clash (map number k) (sym (is ∙ ap list_field e) ∙ q)), λ n. absurd (n k r.completion));
      }
      by none e r = record {
        list = λ l c. absurd (r l c.completion);
        one = cheapest-one g prices;
        some_will = λ j c. absurd (r j c);
        none_will = (λ q. r, λ n. is ∙ ap list_field e);
      }
