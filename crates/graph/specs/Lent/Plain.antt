-- A sheet without circles has no contacts: the numbers of its sizes are the sizes. Assumes nothing.
use Rattle.std.specs.Prelude.{◌≡◌, ◌∷◌, ◌++◌}
use Rattle.theory.specs.Prelude.{ℕ, arith, refl, sym, ap, ap₂, ◌∙◌, true, false, List, [], map, eqb, ℤ, pos}
use Rattle.theory.specs.Block.{block}
use Rattle.theory.specs.Set.{at}
use Rattle.theory.specs.Set.Laws.{at_zero}
use Rattle.sheet.specs.declared.Kind.{Kind}
use Rattle.sheet.specs.declared.Element.{Element}
use Rattle.sheet.specs.declared.Size.{Size}
use Rattle.sheet.specs.declared.Size.TheVariants.{Given, Missing, Tangent, OtherTangent, Unfit}
use Rattle.sheet.specs.declared.Constraint.{Constraint}
use Rattle.sheet.specs.Facts.{Facts, is_circle, kind_at, set_of}
use Rattle.sheet.specs.Facts.Laws.{set-bit}
use Rattle.sheet.specs.Rules.{size_allowed, size_fault, constraint_fault, constraints_fault}
use Rattle.sheet.specs.Rules.Laws.{unless-none, none-else}
use Rattle.sheet.specs.Accepted.Laws.{taken}
use Rattle.sheet.specs.Graph.{size_of, size_in}
use Rattle.graph.specs.declared.Front.{Front}
use Rattle.graph.specs.Lent.{code_of, SheetIn, sizes_of}

one : (j k : Kind) (z : Size) → is_circle j ≡ false → is_circle k ≡ false → size_allowed j k z ≡ true → code_of z ≡ size_of j k z
one j k (Given z) p q e = refl
one j k Missing p q e = refl
one j k Tangent p q e = let z : ◌≡◌ {A = ℕ} 0 1 = cc (rw (p, q) at e) in absurd (omega arith)
one j k OtherTangent p q e = let z : ◌≡◌ {A = ℕ} 0 1 = cc (rw (p, q) at e) in absurd (omega arith)
one j k Unfit p q e = let z : ◌≡◌ {A = ℕ} 0 1 = cc in absurd (omega arith)

all : (es : List Element) → ((i : ℕ) → is_circle (kind_at es i) ≡ false) → (cs done : List Constraint) → constraints_fault es done cs ≡ 0
    → map (λ c. code_of c.size) cs ≡ map (size_in es) cs
unfolding constraints_fault size_fault
all es none [] done e = refl
all es none (c ∷ cs) done e =
    let h = none-else (constraint_fault es done c) _ e in
    let t = taken es done c h.0 in
    let a = (unless-none (size_allowed (kind_at es c.first) (kind_at es c.second) c.size) 7 _ t.size_fits).0 in
    ap₂ ◌∷◌ (one (kind_at es c.first) (kind_at es c.second) c.size (none c.first) (none c.second) a)
    (all es none cs (done ++ c ∷ []) h.1)

pub plain-sizes : {f : Facts} {h : Front} {near start : List ℕ} {codes : List ℤ} {radii : List ℕ} → SheetIn f h near start codes radii
    → h.kinds.circles ≡ 0 → codes ≡ sizes_of f
plain-sizes {f} a e =
    let es = f.elements in
    let set : set_of is_circle es ≡ 0 = sym a.kinds_in.circles_are ∙ e in
    let none : (i : ℕ) → is_circle (kind_at es i) ≡ false =
    λ i. sym (set-bit is_circle refl es i) ∙ ap (λ (m : ℕ). eqb m 1) (ap (at i) set ∙ at_zero i) in
    a.arrays.codes_are ∙ ap (block 200 (pos 0)) (all es none f.constraints [] a.accepted.no_fault)
