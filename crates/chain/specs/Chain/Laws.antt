-- There is exactly one chain: two that are both shortest and first are the same, and "none" is said if and only if there is no run. Assumes nothing.
use Rattle.std.specs.Prelude.{◌≡◌, ◌∷◌}
use Rattle.theory.specs.Prelude.{refl, ap, List, [], Option, none, some, ℕ, arith}
use Rattle.chain.specs.Chain.{First, same, here, next, Shortest, Chain}

-- each comes first, the second pair given by equations
antisym-by : {r q a b : List ℕ} → First r q → First a b → a ≡ q → b ≡ r → r ≡ q
antisym-by same y e f = refl
antisym-by (here {i = i} {r = r} x) same e f = let o : [] ≡ i ∷ r = cc in absurd cc
antisym-by (next i {r = r} x) same e f = let o : [] ≡ i ∷ r = cc in absurd cc
antisym-by (here {i = i} {j = j} x) (here {i = k} {j = l} y) e f =
    let p : k ≡ j = cc in let o : l ≡ i = cc in absurd (omega arith)
antisym-by (here {i = i} {j = j} x) (next k y) e f =
    let p : k ≡ j = cc in let o : k ≡ i = cc in absurd (omega arith)
antisym-by (next i x) (here {i = k} {j = l} y) e f =
    let p : k ≡ i = cc in let o : l ≡ i = cc in absurd (omega arith)
antisym-by (next i {r = r} {q = q} x) (next k {r = a} {q = b} y) e f =
    let p : a ≡ q = cc in let o : b ≡ r = cc in ap (λ (l : List ℕ). i ∷ l) (antisym-by x y p o)

first-antisym : {r q : List ℕ} → First r q → First q r → r ≡ q
first-antisym x y = antisym-by x y refl refl

module _ (s : List ℕ) (u v : ℕ) where
  shortest-one : (r q : List ℕ) → Shortest s u v r → Shortest s u v q → r ≡ q
  shortest-one r q x y =
      let p = x.fewest q y.run in
      let o = y.fewest r x.run in first-antisym (x.first q y.run (omega arith)) (y.first r x.run (omega arith))

  pub chain-one : (o o' : Option (List ℕ)) → Chain s u v o → Chain s u v o' → o ≡ o'
  chain-one none none x y = refl
  chain-one none (some q) x y = absurd (x q y.run)
  chain-one (some r) none x y = absurd (y r x.run)
  chain-one (some r) (some q) x y = ap some (shortest-one r q x y)
