-- `place` meets its contract. Assumes nothing.
use Rattle.std.specs.Prelude.{◌≡◌, ◌≢◌, ◌-◌}
use Rattle.std.proofs.lemmas.Bool.Decides.{nat_tests}
use Rattle.theory.specs.Prelude.{sym, ap, ◌∙◌, arith, rules, List, ℕ}
use Rattle.sparsity.specs.Freedoms.{same}
use Rattle.sparsity.specs.Reach.{item}
use Rattle.sparsity.specs.Reach.Back.{placed-second, last-free}
use Rattle.sparsity.proofs.place.Goals as goal

pub returns-in-None : goal.returns-in-None
unfolding same
returns-in-None c =
    let a = c.args in
    let p : item a.of_a 0 ≢ a.a = search rules in
    let q : item a.of_a 1 ≢ a.a = search rules in
    let r : c.from-in-None-2.result ≡ 1 - same (item a.of_b 0) a.b = grind (arith, nat_tests) in (
      λ own ea eb h.
          let f = last-free own (r ∙ ap (λ (row : List ℕ). 1 - same (item row 0) a.b) (sym eb)) (λ z. p (ap (λ (row : List ℕ). item row 0) (sym ea) ∙ z))
          (λ z. q (ap (λ (row : List ℕ). item row 1) (sym ea) ∙ z)) h in
          placed-second a.a c.from-in-None-2.result c.from-in-None.ensures f.0 f.1,
      omega (arith, c.from-in-None.ensures),
      omega (arith, r),
    )
