-- `account::put_list` meets its contract: what the arrays give is the list's own report, and no longer than its block. Assumes nothing.
use Rattle.theory.specs.Prelude.{arith, refl}
use Rattle.judge.specs.Judged.Laws.{arrays-long}
use Rattle.account.specs.Account.Laws.{room, reported, all_small, not-long}
use Rattle.account.specs.Resting.Laws.{parts}
use Rattle.account.proofs.put_list.Goals as goal

pub carry-requires : goal.carry-requires
carry-requires c =
    let q = c.requires in
    let few = room c.args.h c.args.start.now q.0 q.1 q.2 q.3 in
    (few.1, few.3, (parts q.1 q.3).listed, refl, refl)

pub write_report-requires : goal.write_report-requires
write_report-requires c =
    let a = c.args in
    let s = c.requires in
    let few = room a.h a.start.now s.0 s.1 s.2 s.3 in
    let q = parts s.1 s.3 in
    let t = c.carry.ensures q.listed in
    let low = q.told t.0 in
    let high = q.told t.1 in record {
      n_bound = (
        omega (arith, few),
        few.1,
        few.3,
        (arrays-long _ s.0.simple.pairs s.3 (omega (arith, few, s.1))).1,
        low.long,
        high.long,
        all_small a.h a.start.now a.sizes.now s.0 s.1 s.2 s.3,
      );
      high_len_bound = not-long a.h a.start.now a.sizes.now s.0 s.1 s.2 s.3 low high a.verdict;
    }

pub returns : goal.returns
returns c m =
    let a = c.args in
    let s = c.requires in
    let q = parts s.1 m in
    let t = c.carry.ensures q.listed in
    let r = reported a.h a.start.now a.sizes.now s.0 s.1 s.2 m (q.told t.0) (q.told t.1) a.verdict in
    (rw r at c.write_report.ensures.answers, rw r at c.write_report.ensures.leaves)
