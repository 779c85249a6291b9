-- `steps::fill` meets its contract: as many records as are taken are stored, and the rest of the list is as it was. Assumes nothing.
use Rattle.std.specs.Prelude.{◌≡◌, ◌++◌, Result, Ok, Err}
use Rattle.theory.specs.Prelude.{rules, refl, ap, ◌∙◌, arith, ℕ, List, length, take, drop}
use Rattle.theory.specs.declared.Rule.{Rule}
use Rattle.theory.specs.declared.Step.{Step}
use Rattle.steps.specs.declared.Listing.{Listing}
use Rattle.steps.specs.Listing.{unset, taken_of, taken, filled}
use Rattle.steps.specs.Records.Laws.{taken-small}
use Rattle.steps.proofs.Stores.{stores, length-stores, stores-is}
use Rattle.steps.proofs.fill.Goals as goal

module _ (xs : List Step) (l : Listing) where
  filled-by : {r : Result ℕ Rule} → r ≡ taken_of (length xs) l.count → take (taken r) l.steps ++ drop (taken r) xs ≡ filled xs (Ok l)
  unfolding filled
  filled-by e = ap (λ (t : Result ℕ Rule). take (taken t) l.steps ++ drop (taken t) xs) e

  -- all the records that are taken are stored
  all-stored : (n : ℕ) → length l.steps ≡ 62 → Ok n ≡ taken_of (length xs) l.count → stores l.steps unset xs n ≡ filled xs (Ok l)
  all-stored n long e =
      let few = taken-small _ _ n e in
      stores-is l.steps unset xs n (omega (arith, few.0, long)) few.1 ∙ filled-by e

pub returns-in-Err : goal.returns-in-Err
unfolding filled
returns-in-Err c = rw c.in-Err.is (refl, refl)

pub returns-in_err-n : goal.returns-in_err-n
returns-in_err-n c =
    let passed : c.from_residual.result ≡ Err c.in_err-n.field-0.0 = search rules in
    let is : c.args.listing ≡ Ok c.in-Ok.l = c.in-Ok.is in
    rw (is, passed) (c.in_err-n.ensures, filled-by c.args.out.now c.in-Ok.l c.in_err-n.ensures)

pub bounds-l-i : goal.bounds-l-i
bounds-l-i c = omega (arith, taken-small _ _ _ c.in_ok-n.ensures)

pub offset_bounds-l-i : goal.offset_bounds-l-i
offset_bounds-l-i c = omega (arith, taken-small _ _ _ c.in_ok-n.ensures)

pub offset_bounds-out-i : goal.offset_bounds-out-i
offset_bounds-out-i c = omega (arith, taken-small _ _ _ c.in_ok-n.ensures)

pub bounds-out-i : goal.bounds-out-i
bounds-out-i c = omega (
  arith,
  taken-small _ _ _ c.in_ok-n.ensures,
  ap length c.loop-i.invariant,
  length-stores c.in-Ok.l.steps unset c.args.out.now c.loop-i.i,
)

pub returns : goal.returns
returns c =
    let l = c.in-Ok.l in
    let out = c.args.out.now in
    let all : c.loop-i.i ≡ c.in_ok-n.n = omega arith in
    let long : length l.steps ≡ 62 = search rules in
    let is : c.args.listing ≡ Ok l = c.in-Ok.is in
    rw is (c.in_ok-n.ensures, c.loop-i.invariant ∙ ap (stores l.steps unset out) all ∙ all-stored out l _ long c.in_ok-n.ensures)
