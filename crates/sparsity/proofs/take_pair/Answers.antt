-- `take_pair` meets its contract: four free entries on the ends, or the search reached the smallest set. Assumes nothing.
use Rattle.std.specs.Prelude.{◌≡◌, Ok, Err}
use Rattle.theory.specs.Prelude.{sym, ap, [], ℕ, arith, get_or, le_refl}
use Rattle.sparsity.specs.Reach.{told, Gathered}
use Rattle.sparsity.specs.Answer.Laws.{told-none, told-set, took-four, gathered-over}
use Rattle.sparsity.proofs.take_pair.Goals as goal

pub returns-then-over-ne0 : goal.returns-then-over-ne0
returns-then-over-ne0 c = λ old new u k more.
    let g = c.gather-t in
    let s = c.requires in
    let e : told g.result g.new.over ≡ Err (g.result, g.new.over) = told-set c.if-over-ne0.true in
    rw e (gathered-over (s.1, s.2, s.3) more k (le_refl 4) (rw e at g.ensures))

pub returns : goal.returns
returns c = λ old new u k more.
    let t = c.gather-t.result in
    let s = c.requires in
    let none = c.if-over-ne0.false in
    let e : told t c.gather-t.new.over ≡ Ok t = told-none none in
    let g : Gathered c.args.own 4 c.args.a c.args.b (Ok t) = rw e at c.gather-t.ensures in
    rw (told-none none) (took-four (s.1, s.2, s.3) more k g
    (c.place-spot.ensures.0 t (ap (λ (x : ℕ). get_or t x []) (sym c.from.ensures)) (ap (λ (x : ℕ). get_or t x []) (sym c.from-2.ensures))
    (omega (arith, g.1))))
