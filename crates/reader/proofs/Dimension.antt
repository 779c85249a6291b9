-- What follows the map: rules 8 and 20, the size that it announces, and the tag. Assumes nothing.
use Rattle.std.specs.Prelude.{◌/◌, ◌%◌, ◌≡◌, ◌∷◌}
use Rattle.theory.specs.Prelude.{ℕ, refl, sym, ap, ◌∙◌, Bool, true, false, List, [], eqb, ℤ}
use Rattle.theory.specs.Prelude.{pos}
use Rattle.sheet.specs.declared.Kind.{Kind}
use Rattle.sheet.specs.declared.PairKind.{PairKind}
use Rattle.sheet.specs.declared.Size.{Size}
use Rattle.sheet.specs.Field.{Field, value, refused, next, demand, byte}
use Rattle.sheet.specs.Rules.{pair_of, size_by, size_allowed, map_allowed, radii_differ}
use Rattle.sheet.specs.Decode.{size, tag, dimension}
use Rattle.graph.specs.Lent.{code_of}
use Rattle.reader.specs.Answers.{dimension_by, code_in, tagged}
use Rattle.reader.proofs.Constraints.{no_size, sized}

next-demand : {A B : Type 0} (b : Bool) (k : ℕ) (a : A) (s : List ℕ) (f : A → List ℕ → Field B)
    → next (demand b k (value a s)) f ≡ demand b k (f a s)
next-demand true k a s f = refl
next-demand false k a s f = refl

-- the map, and what follows it
pub dimension-is : (j k : Kind) (s : List ℕ) → dimension j k s ≡ next (byte s) (dimension_by j k)
unfolding dimension dimension_by
dimension-is j k [] = refl
dimension-is j k (map ∷ s) = next-demand (map_allowed j k map) 8 map s _

-- the tag after a size, which is told by its number
code-tagged : (z : Size) (bit : Bool) (s : List ℕ) → code_in (next (tag bit s) (λ t s1. value z s1)) ≡ tagged (code_of z) bit s
code-tagged z bit s = by (tag bit s)
  where
    by : (f : Field Unit) → code_in (next f (λ t s1. value z s1)) ≡ next f (λ t s1. value (code_of z) s1)
    by (value t s1) = refl
    by (refused k) = refl

-- ---- after the map, where rules 8 and 20 take what it announces

module _ (j k : Kind) (map : ℕ) (s : List ℕ) {z : Size} (z_is : z ≡ size_by map (pos 0)) where
  pub not-allowed : false ≡ size_allowed j k z → dimension_by j k map s ≡ refused 8
  unfolding dimension_by
  not-allowed a = rw (← z_is, ← a)

  module _ (a : true ≡ size_allowed j k z) where
    pub same-radii : false ≡ radii_differ j k z → dimension_by j k map s ≡ refused 20
    unfolding dimension_by
    same-radii d = rw (← z_is, ← a, ← d)

    module _ (d : true ≡ radii_differ j k z) {p : PairKind} (p_is : p ≡ pair_of j k) where
      taken : dimension_by j k map s ≡ next (size p z s) (λ y s1. next (tag (eqb (map / 2 % 2) 1) s1) (λ t s2. value y s2))
      unfolding dimension_by
      taken = rw (← z_is, ← a, ← d, ← p_is)

      pub no-size-by : {r : ℕ} → refused r ≡ code_in (size p z s) → code_in (dimension_by j k map s) ≡ refused r
      no-size-by n = rw (taken, no_size (size p z s) (sym n))

      pub size-by : {y : ℤ} {u : List ℕ} → value y u ≡ code_in (size p z s) → code_in (dimension_by j k map s) ≡ tagged y (eqb (map / 2 % 2) 1) u
      size-by {y} {u} n =
          let x = sized (size p z s) (sym n) in
          rw (taken, x.was) (code-tagged x.size (eqb (map / 2 % 2) 1) u ∙ ap (λ (w : ℤ). tagged w (eqb (map / 2 % 2) 1) u) x.is)
