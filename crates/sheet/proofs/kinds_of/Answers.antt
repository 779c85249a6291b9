-- `sheet::kinds_of` meets its contract: the bits from the last element down, and the radii from i on; the numbers stay below 2 ^ 64.
-- Assumes nothing.
use mir.Val.{bool_byte}
use Rattle.std.specs.Prelude.{◌+◌, ◌*◌, ◌-◌, ◌<◌, ◌≤◌, ◌^◌, ◌≡◌}
use Rattle.theory.specs.Prelude.{ℕ, suc, pow-le-pow_right, ℕ_discrete, arith, refl, sym, ap, ◌∙◌, Bool, true, false}
use Rattle.theory.specs.Prelude.{List, ◌∷◌, length, drop, set, get_or, length-drop, length-set}
use Rattle.theory.specs.Prelude.{List·getD-eq-default, drop-cons, drop_of_length-le, get_or-set_same, get_or-set_other}
use Rattle.sheet.specs.declared.Kind.{Kind}
use Rattle.sheet.specs.declared.Element.{Element}
use Rattle.sheet.specs.Facts.{is_line, is_circle, radius_of, bit_of, set_of, kind_at, blank_element}
use Rattle.sheet.specs.Facts.Laws.{set_of-below}
use Rattle.sheet.proofs.kinds_of.Goals as goal
use Rattle.sheet.proofs.kinds_of.Invariants.{From}

bit : (b : Bool) → (bool_byte b ≡ bit_of b) × (bool_byte b ≤ 1)
bit true = (refl, omega arith)
bit false = (refl, omega arith)

-- no element stands past the end
none-from : (es : List Element) (i : ℕ) (radii : List ℕ) → length es ≤ i → length radii ≡ 64 → From es i 0 0 radii
unfolding set_of
none-from es i radii long places =
    record {
      lines_are = rw (drop_of_length-le es long);
      circles_are = rw (drop_of_length-le es long);
      places = places;
      radii_are = λ k h e.
          let p : kind_at es k ≡ blank_element.kind = ap (λ (x : Element). x.kind) (List·getD-eq-default es blank_element (omega arith)) in
          let q : is_circle blank_element.kind ≡ true = rw p at e in
          let z : ◌≡◌ {A = ℕ} 0 1 = cc in absurd (omega arith);
    }

module _ (es : List Element) (i : ℕ) (some : 0 < i) (within : i ≤ length es) (few : length es ≤ 64) where
  one_more : (is : Kind → Bool) → set_of is (drop (i - 1) es) ≡ 2 * set_of is (drop i es) + bit_of (is (kind_at es (i - 1)))
  unfolding set_of
  one_more is =
      let j : suc (i - 1) ≡ i = omega arith in
      let d : drop (i - 1) es ≡ get_or es (i - 1) blank_element ∷ drop i es =
      drop-cons es (i - 1) blank_element (omega arith) ∙ ap (λ (m : ℕ). get_or es (i - 1) blank_element ∷ drop m es) j in
      rw d (omega arith)

  -- one element more
  more-from : {lines circles : ℕ} {radii : List ℕ} (k : Kind) → k ≡ kind_at es (i - 1) → From es i lines circles radii
      → From es (i - 1) (2 * lines + bool_byte (is_line k)) (2 * circles + bool_byte (is_circle k)) (set radii (i - 1) (radius_of k))
  more-from {radii = radii} k same f =
      record {
        lines_are = rw (f.lines_are, (bit (is_line k)).0, same) (sym (one_more is_line));
        circles_are = rw (f.circles_are, (bit (is_circle k)).0, same) (sym (one_more is_circle));
        places = rw length-set f.places;
        radii_are = λ m h e. by m (ℕ_discrete m (i - 1)) h e;
      }
    where
      by : (m : ℕ) → Dec (m ≡ i - 1) → i - 1 ≤ m → is_circle (kind_at es m) ≡ true
          → get_or (set radii (i - 1) (radius_of k)) m 0 ≡ radius_of (kind_at es m)
      by m (yes p) h e = rw (p, get_or-set_same radii (i - 1) (radius_of k) 0 (omega (arith, f.places)), same)
      by m (no p) h e = get_or-set_other radii (i - 1) m _ 0 p ∙ f.radii_are m (omega (arith, p)) e

small : (es : List Element) (i : ℕ) → 0 < i → length es ≤ 64 → (is : Kind → Bool) → 2 * set_of is (drop i es) + 1 < 2 ^ 64
small es i some few is =
    let k : length (drop i es) ≤ 63 = omega (arith, length-drop i es) in
    omega (arith, set_of-below is (drop i es), pow-le-pow_right {n = 2} (omega arith) k)

pub loop-i-init : goal.loop-i-init
loop-i-init c = none-from _ _ _ (omega arith) c.told-radii

pub overflow_mul-lines : goal.overflow_mul-lines
overflow_mul-lines c =
    omega (arith, small c.args.elements.now c.loop-i.i c.loop-i-test.true c.requires is_line, c.loop-i.invariant.lines_are)

pub overflow_add-lines : goal.overflow_add-lines
overflow_add-lines c =
    let fits = small c.args.elements.now c.loop-i.i c.loop-i-test.true c.requires is_line in
    omega (arith, fits, c.loop-i.invariant.lines_are, c.from.ensures, (bit c.is_line.result).1)

pub overflow_mul-circles : goal.overflow_mul-circles
overflow_mul-circles c =
    omega (arith, small c.args.elements.now c.loop-i.i c.loop-i-test.true c.requires is_circle, c.loop-i.invariant.circles_are)

pub overflow_add-circles : goal.overflow_add-circles
overflow_add-circles c =
    let fits = small c.args.elements.now c.loop-i.i c.loop-i-test.true c.requires is_circle in
    omega (arith, fits, c.loop-i.invariant.circles_are, c.from-in-loop-i.ensures, (bit c.is_circle.result).1)

pub loop-i-preserved : goal.loop-i-preserved
loop-i-preserved c =
    rw (c.from.ensures, c.is_line.ensures, c.from-in-loop-i.ensures, c.is_circle.ensures, c.radius_of.ensures)
    (more-from c.args.elements.now c.loop-i.i c.loop-i-test.true c.loop-i.auto.i c.requires _ refl c.loop-i.invariant)

pub returns : goal.returns
returns c =
    let a = c.loop-i in
    let z : a.i ≡ 0 = omega arith in
    record {
      lines_are = rw z at a.invariant.lines_are;
      circles_are = rw z at a.invariant.circles_are;
      radii_are = λ k e. a.invariant.radii_are k (omega arith) e;
    }
