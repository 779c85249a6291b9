-- A step's kind and placements. Document 01, "Joint kinds and placements", after document 001, section 2.2. Everything here computes. `lines` is
-- the set of the elements that are lines, e the count of constraints, `sizes` the constraints' sizes, 0 for a missing one. Assumes nothing.
use Rattle.std.specs.Prelude.{Bool, true, false, ◌&&◌, List, ℕ, zero, suc, ◌+◌, ◌-◌, max, ltb, eqb, ℤ, pos, nat_abs, ◌-ℤ◌, get_or}
use Rattle.std.specs.Int.Count.{ones}
use Rattle.theory.specs.Set.{◌∩◌}
use Rattle.theory.specs.Merge.{Merge, slot, three, joint}
use Rattle.theory.specs.declared.JointKind.{JointKind}
use Rattle.theory.specs.declared.JointKind.TheVariants.{Ppp, Ppl, Pll, Lll}
use Rattle.theory.specs.declared.Ways.{Ways}
use Rattle.theory.specs.declared.Ways.TheVariants.{Known, Unknown}

-- ---- the kind after the joint

abbrev pub with_lines : ℕ → JointKind
with_lines zero = Ppp
with_lines (suc zero) = Ppl
with_lines (suc (suc zero)) = Pll
with_lines (suc (suc (suc l))) = Lll

unfoldable pub joint_kind : ℕ → ℕ → JointKind
joint_kind lines j = with_lines (ones (j ∩ lines))

-- ---- the placements

-- x above y gives 0, equal 1, below 2
abbrev pub by_order : Bool → Bool → ℕ
by_order true below = 0
by_order false false = 1
by_order false true = 2

unfoldable pub against : ℕ → ℕ → ℕ
against x y = by_order (ltb y x) (ltb x y)

-- three points: the longest distance against the sum of the other two
unfoldable pub triangle : ℕ → ℕ → ℕ → ℕ
triangle x y z = against (max (max x y) z) (x + y + z - max (max x y) z)

-- two points and a line: d between the points, d1 and d2 to the line, |d2-d1| against d
unfoldable pub strip : ℕ → ℤ → ℤ → ℕ
strip d d1 d2 = against (nat_abs (d2 -ℤ d1)) d

-- the constraints a, b and a third, with their sizes x, y, z: the one without a line is d. A distance of two points is above 0, so it is its
-- own absolute value
unfoldable pub strip_of : ℕ → ℕ → ℕ → ℤ → ℤ → ℤ → ℕ
strip_of lines a b x y z = elim (eqb (a ∩ lines) 0) [
  | true ↦ strip (nat_abs x) y z
  | false ↦ elim (eqb (b ∩ lines) 0) [ true ↦ strip (nat_abs y) x z | false ↦ strip (nat_abs z) x y ]
]

-- by kind, from two of the three constraints and the three sizes
unfoldable pub placed : ℕ → JointKind → ℕ → ℕ → ℤ → ℤ → ℤ → Ways
placed lines Ppp a b x y z = Known (triangle (nat_abs x) (nat_abs y) (nat_abs z))
placed lines Ppl a b x y z = Known (strip_of lines a b x y z)
placed lines Pll a b x y z = Known 1
placed lines Lll a b x y z = Unknown

-- the size of constraint i
abbrev pub size_at : List ℤ → ℕ → ℤ
size_at sizes i = get_or sizes i (pos 0)

-- all three parts are initial clusters
abbrev pub initial : ℕ → Merge → Bool
initial e m = ltb m.i e && (ltb m.j e && ltb m.k e)

-- the step m among the clusters s: known only if all three parts are initial clusters and the kind isn't lll
unfoldable pub ways : ℕ → ℕ → List ℤ → List ℕ → Merge → Ways
ways lines e sizes s m = elim (initial e m) [
  | true ↦
      placed lines (joint_kind lines (joint (three s m))) (slot s m.i) (slot s m.j) (size_at sizes m.i)
      (size_at sizes m.j) (size_at sizes m.k)
  | false ↦ Unknown
]
