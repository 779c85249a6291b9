-- `find_over` meets its contract. Assumes nothing.
use Rattle.theory.specs.Prelude.{subst, ℕ, arith, take, get_or, get_or-replicate}
use Rattle.peeling.specs.Core.{Core}
use Rattle.peeling.specs.Core.Peeling.{core-none}
use Rattle.peeling.specs.Hard.{Noted}
use Rattle.peeling.specs.Hard.Laws.{in_list}
use Rattle.sparsity.specs.Answer.Laws.{answer-not}
use Rattle.sparsity.proofs.find_over.Goals as goal

pub returns-then-core-eq0 : goal.returns-then-core-eq0
returns-then-core-eq0 c = let s = c in
    let cs = take s.args.e s.args.start.now in
    λ n below.
    answer-not s.requires.0.simple n below
    (core-none cs (subst (Core cs) c.if-core-eq0.true (c.core_of-core.ensures.1 cs s.requires.0.simple s.requires.1).0))

pub search-requires : goal.search-requires
search-requires c = let s = c in
    let cs = take s.args.e s.args.start.now in
    let noted = c.mark_hard.new.needs in (
      s.requires.0,
      (c.core_of-core.ensures.1 cs s.requires.0.simple s.requires.1).0,
      λ k h. subst (λ (old : ℕ). Noted cs k old (get_or noted k 0)) (get_or-replicate 200 k 1 0 (omega (arith, h, s.requires.0.few)))
          (c.mark_hard.ensures.noted k (omega arith) (in_list s.requires.0 h)),
    )
