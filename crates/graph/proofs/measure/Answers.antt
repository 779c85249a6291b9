-- `graph::measure` meets its contract: after i turns the first i places hold sizes, the others numbers still. Assumes nothing.
use Rattle.std.specs.Prelude.{◌+◌, ◌-◌, ◌<◌, ◌≤◌, ◌≡◌, ◌++◌}
use Rattle.theory.specs.Prelude.{rules, ℕ, arith, add-zero, add-one, true, refl, sym, ap, ap₂, ◌∙◌, List, map, ℤ, pos}
use Rattle.theory.specs.Prelude.{length, drop, replicate, get_or, length-set, length-map, take-append-drop, List·getD-append, take-suc}
use Rattle.theory.specs.Prelude.{take-suc-set, drop-set-lt, drop-drop, drop_at, get_or-drop}
use mir.Facts.{to_z-of_z}
use mir.Syntax.{w32}
use mir.Val.{to_z, of_z}
use Rattle.theory.specs.Block.Laws.{length-block}
use Rattle.sheet.specs.declared.Constraint.{Constraint}
use Rattle.sheet.specs.Facts.{Facts, blank_constraint}
use Rattle.sheet.specs.Facts.Laws.{kind-in}
use Rattle.sheet.specs.Rules.{radii_in_range}
use Rattle.sheet.specs.Rules.Laws.{constraints-most, elements-taken}
use Rattle.sheet.specs.Graph.{size_in, sized_of}
use Rattle.graph.specs.declared.Head.{Head}
use Rattle.graph.specs.declared.Front.{Front}
use Rattle.graph.specs.Lent.{code_of, SheetIn, sizes_of, Unpacks}
use Rattle.graph.specs.Lent.Laws.{pair-in-start, code-in-codes, accepted-unpack, get_or-mapped, radius-most}
use Rattle.graph.specs.Lent.Sheets.{drawn-in}
use Rattle.graph.proofs.measure.Goals as goal

-- of a sheet in the arrays
module _ {f : Facts} {h : Front} {near start : List ℕ} {codes : List ℤ} {radii : List ℕ} (a : SheetIn f h near start codes radii) where
  counted : length f.constraints ≤ 200
  counted = constraints-most _ a.accepted.constraints_fit

  range : radii_in_range f.elements ≡ true
  range = (elements-taken f.opening f.elements a.accepted.elements_allowed).1

  count : h.e ≡ length f.constraints
  count = ap (λ (x : Head). x.e) a.head_is

  -- the size at a place
  size-there : (i : ℕ) (d : Constraint) → i < length f.constraints → get_or (sizes_of f) i (pos 0) ≡ size_in f.elements (get_or f.constraints i d)
  size-there i d l =
      let k : i < length (sized_of f).sizes = rw length-map l in
      List·getD-append (sized_of f).sizes _ (pos 0) i k ∙ get_or-mapped (size_in f.elements) f.constraints i (pos 0) d l

  -- both are blank behind the constraints
  blank-behind : drop h.e codes ≡ drop h.e (sizes_of f)
  blank-behind =
      let n : length (map (λ (c : Constraint). code_of c.size) f.constraints) ≡ h.e = rw (length-map, count) in
      let m : length (sized_of f).sizes ≡ h.e = rw (length-map, count) in
      let cs = map (λ (c : Constraint). code_of c.size) f.constraints in
      ap (drop h.e) a.arrays.codes_are ∙ (drop_at cs (replicate (200 - length cs) (pos 0)) h.e n ∙ ap (λ (k : ℕ). replicate (200 - k) (pos 0)) (n ∙ sym m)
      ∙ sym (drop_at (sized_of f).sizes (replicate (200 - length (sized_of f).sizes) (pos 0)) h.e m))

-- the constraint at i is in the arrays, where those from i on are numbers still
module _ {f : Facts} {h : Front} {near start : List ℕ} {codes : List ℤ} {radii : List ℕ} (a : SheetIn f h near start codes radii)
    (sizes : List ℤ) (i : ℕ) (within : i < length f.constraints) (left : drop i sizes ≡ drop i codes) where
  unpacks : Unpacks (get_or f.constraints i blank_constraint)
  unpacks = accepted-unpack f i blank_constraint a.accepted within

  same : get_or sizes i (pos 0) ≡ get_or codes i (pos 0)
  same =
      sym (rw (add-zero i) at (get_or-drop i sizes 0 (pos 0))) ∙ ap (λ (s : List ℤ). get_or s 0 (pos 0)) left
      ∙ rw (add-zero i) at (get_or-drop i codes 0 (pos 0))

  coded : code_of (get_or f.constraints i blank_constraint).size ≡ get_or sizes i (pos 0)
  coded = sym (same ∙ code-in-codes a.arrays i blank_constraint within)

pub loop-i-init : goal.loop-i-init
loop-i-init c = record {
  few = (drawn-in c.requires.2).few;
  places =
      ap length c.requires.2.arrays.codes_are
      ∙ length-block 200 (pos 0) (map (λ (k : Constraint). code_of k.size) c.requires.0.constraints) (rw length-map (counted c.requires.2));
  left = refl;
  made = λ f near a. refl;
}

pub kind_at-j-requires : goal.kind_at-j-requires
kind_at-j-requires c =
    let l = c.loop-i in
    let a = c.requires.2 in
    let w : l.i < length c.requires.0.constraints = omega (arith, c.loop-i-test.true, count a) in
    let u = unpacks a l.sizes l.i w l.invariant.left in
    rw (c.constraint_in-c.ensures _ u (pair-in-start a.arrays l.i blank_constraint w)
    (coded a l.sizes l.i w l.invariant.left ∙ sym (to_z-of_z {w = w32} {z = get_or l.sizes l.i (pos 0)} (search rules))))
    (omega (arith, u.ascend, u.below))

pub kind_at-k-requires : goal.kind_at-k-requires
kind_at-k-requires c =
    let l = c.loop-i in
    let a = c.requires.2 in
    let w : l.i < length c.requires.0.constraints = omega (arith, c.loop-i-test.true, count a) in
    let u = unpacks a l.sizes l.i w l.invariant.left in
    rw (c.constraint_in-c.ensures _ u (pair-in-start a.arrays l.i blank_constraint w)
    (coded a l.sizes l.i w l.invariant.left ∙ sym (to_z-of_z {w = w32} {z = get_or l.sizes l.i (pos 0)} (search rules))))
    u.below

pub size_of-requires : goal.size_of-requires
size_of-requires c =
    let a = c.requires.2 in (
      rw (c.kind_at-j.ensures, kind-in a.kinds_in c.constraint_in-c.result.first) (radius-most _ (range a) _),
      rw (c.kind_at-k.ensures, kind-in a.kinds_in c.constraint_in-c.result.second) (radius-most _ (range a) _),
    )

pub loop-i-preserved : goal.loop-i-preserved
loop-i-preserved c =
    let l = c.loop-i in
    let room : l.i < length l.sizes = omega (arith, l.invariant.places, l.invariant.few, c.loop-i-test.true) in
    record {
      few = l.invariant.few;
      places = rw length-set l.invariant.places;
      left =
          drop-set-lt (l.i + 1) l.sizes l.i _ (omega arith) ∙ sym (drop-drop 1 l.i l.sizes) ∙ ap (drop 1) l.invariant.left
          ∙ drop-drop 1 l.i c.args.sizes.now;
      made = λ f near a.
          let w : l.i < length f.constraints = omega (arith, c.loop-i-test.true, count a) in
          let k = get_or f.constraints l.i blank_constraint in
          let there : l.i < length (sizes_of f) =
          rw (length-block 200 (pos 0) (sized_of f).sizes (rw length-map (counted a))) (omega (arith, l.invariant.places, room)) in
          let is : c.constraint_in-c.result ≡ k =
          c.constraint_in-c.ensures k (unpacks a l.sizes l.i w l.invariant.left) (pair-in-start a.arrays l.i blank_constraint w)
          (coded a l.sizes l.i w l.invariant.left ∙ sym (to_z-of_z {w = w32} {z = get_or l.sizes l.i (pos 0)} (search rules))) in
          let z : c.size_of.result ≡ size_in f.elements k =
          c.size_of.ensures
          ∙ rw (
            c.kind_at-j.ensures,
            c.kind_at-k.ensures,
            kind-in a.kinds_in c.constraint_in-c.result.first,
            kind-in a.kinds_in c.constraint_in-c.result.second,
            is,
          ) in
          let out : to_z w32 (of_z w32 c.size_of.result) ≡ get_or (sizes_of f) l.i (pos 0) =
          to_z-of_z {w = w32} {z = c.size_of.result} (search rules) ∙ z
          ∙ sym (size-there a l.i blank_constraint w) in
          rw (add-one, take-suc-set l.sizes l.i _ room, take-suc (sizes_of f) l.i (pos 0) there, l.invariant.made f near a, out);
    }

pub returns : goal.returns
returns c = λ f near a.
    let l = c.loop-i in
    let end : l.i ≡ c.args.h.e = omega arith in
    sym (take-append-drop l.i l.sizes)
    ∙ ap₂ ◌++◌ (l.invariant.made f near a) (l.invariant.left ∙ rw end (blank-behind a))
    ∙ take-append-drop l.i (sizes_of f)
