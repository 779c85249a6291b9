-- The promises of `pattern_write` hold: the columns' own rules, then those of the writer. Assumes nothing.
use Rattle.std.specs.Prelude.{◌+◌, ◌≡◌, ◌∷◌}
use Rattle.theory.specs.Prelude.{ℕ, zero, suc, arith, refl, ap, ◌∙◌, subst, inl, inr, Bool, true, false, List}
use Rattle.theory.specs.Prelude.{[]}
use Rattle.theory.specs.Prelude.{ℤ, length, length-append, add-one}
use Rattle.sheet.specs.Field.{Field, value, refused}
use Rattle.sheet.specs.Field.Laws.{refused-value}
use Rattle.sheet.specs.Rules.{elements_in_range, fault_unless}
use Rattle.sheet.specs.Answer.{by_rule}
use Rattle.sheet.specs.Refusals.{By, ruled, Fault}
use Rattle.sheet.specs.Refusals.Laws.{OfFacts, by-wider, which}
use Rattle.writer.specs.Write.{write_field}
use Rattle.pattern.specs.ReadWrite.Proof.{read-write}
use Rattle.pattern.specs.Refusals.Proof.{refusals}
use Rattle.pattern_c.specs.Columns.{places_of, opening_known, kinds_listed, sheet_in_columns, columns_fault, columns_field}
use Rattle.pattern_c.specs.Writes.{Columned, Writes}

places-long : {A : Type 0} (what : ℕ → A) (k : ℕ) → length (places_of what k) ≡ k
unfolding places_of
places-long what zero = refl
places-long what (suc k) = length-append (places_of what k) (what k ∷ []) ∙ ap (λ (n : ℕ). n + 1) (places-long what k)
    ∙ add-one k

-- 3 and 18 are the writer's own
columned : (a b c : Bool) → Fault Columned (fault_unless a 1 (fault_unless b 3 (fault_unless c 18 0)))
columned false b c = inl refl
columned true false c = inr (inl (record { from = omega arith; to = omega arith }, λ z. omega arith))
columned true true false = inr (inr (record { from = omega arith; to = omega arith }))
columned true true true = tt

by-rule : {A : Type 0} (k : ℕ) (x : Field A) → Fault Columned k → By Columned x → By Columned (by_rule k x)
by-rule zero x h l = l
by-rule (suc k) x h l = ruled h

after-rule : {A : Type 0} (k : ℕ) (x : Field A) {a : A} {t : List ℕ} → by_rule k x ≡ value a t → x ≡ value a t
after-rule zero x e = e
after-rule (suc k) x e = refused-value e

-- the writer does not refuse by 1
not-1 : OfFacts 1 → ⊥
not-1 (inl h) = omega (arith, h.0.from)
not-1 (inr h) = omega (arith, h.from)

first_rule : (a b c : Bool) (x : Field (List ℕ)) → By OfFacts x
    → by_rule (fault_unless a 1 (fault_unless b 3 (fault_unless c 18 0))) x ≡ refused 1
    → a ≡ false
first_rule false b c x h e = refl
first_rule true false c x h e = absurd (let z : ◌≡◌ {A = ℕ} 3 1 = cc in omega arith)
first_rule true true false x h e = absurd (let z : ◌≡◌ {A = ℕ} 18 1 = cc in omega arith)
first_rule true true true x h e = absurd (not-1 (which (subst (By OfFacts) e h)))

pub writes : (opening n e : ℕ) (kinds radii firsts seconds maps : List ℕ) (sizes : List ℤ)
    → Writes opening n e kinds radii firsts seconds maps sizes
unfolding columns_field sheet_in_columns
writes opening n e kinds radii firsts seconds maps sizes =
    let s = sheet_in_columns opening n e kinds radii firsts seconds maps sizes in
    record {
      rules =
          by-rule (columns_fault opening n kinds) (write_field s)
          (columned (opening_known opening) (elements_in_range n) (kinds_listed kinds n))
          (by-wider (λ k h. inr h) (refusals.write s));
      first = (
        λ h. rw h,
        first_rule (opening_known opening) (elements_in_range n) (kinds_listed kinds n) (write_field s) (refusals.write s),
      );
      written = λ bytes rest q.
          read-write.written s bytes rest (places-long _ 64) (places-long _ 200)
          (after-rule (columns_fault opening n kinds) (write_field s) q);
    }
