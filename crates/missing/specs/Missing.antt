-- What a call for the cheapest missing dimensions answers: document 02, 2026-02, over theory's Completion and Choice. Shown to be the cheapest by `told`
-- of Missing/Laws.antt.
use Rattle.std.specs.Prelude.{◌≡◌, ◌↔◌, List, [], map, ℕ, ◌+◌, ◌*◌, ◌-◌, ◌/◌, eqb, length}
use Rattle.std.proofs.Math.Option.{Option, none, some}
use Rattle.theory.specs.Graph.{Graph}
use Rattle.sheet.specs.Field.{Field, value, refused, demand}
use Rattle.theory.specs.Completion.{Offer, Completion, Cheapest}
use Rattle.theory.specs.Choice.{prices_allowed, cheapest}
pub mod Laws

-- a pair as one number: its first end times 256 plus its second
abbrev pub number : Offer → ℕ
number o = o.u * 256 + o.v

-- n(n-1)/2
abbrev pub pairs_of : ℕ → ℕ
pairs_of n = n * (n - 1) / 2

-- 23: no permitted set of pairs will do
abbrev pub list_field : Option (List Offer) → Field (List ℕ)
list_field (some l) = value (map number l) []
list_field none = refused 23

-- 21: the price list is not n(n-1)/2 long; 22: a price of 1,001 to 65,534 anywhere in it
unfoldable pub cheapest_field : Graph → List ℕ → Field (List ℕ)
cheapest_field g prices = demand (eqb (length prices) (pairs_of g.n)) 21 (demand (prices_allowed prices) 22 (list_field (cheapest g prices)))

-- what is promised of an answer x to a price list that neither 21 nor 22 refuses
pub record Told (g : Graph) (prices : List ℕ) (x : Field (List ℕ)) : Type 0 where
  -- it is the cheapest list, first among equals
  pub list : (l : List Offer) → Cheapest g prices l → x ≡ value (map number l) []
  -- of which there is exactly one
  pub one : (l k : List Offer) → Cheapest g prices l → Cheapest g prices k → l ≡ k
  -- where some permitted set will do
  pub some_will : (k : List Offer) → Completion g prices k → (l : List Offer) × Cheapest g prices l
  -- and 23 if and only if none will
  pub none_will : (x ≡ refused 23) ↔ ((k : List Offer) → Completion g prices k → ⊥)
