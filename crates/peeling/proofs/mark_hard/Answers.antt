-- `mark_hard` meets its contract. The loop's invariant: left is the core of the first c constraints, and those from c on are noted. Assumes nothing.
use Rattle.std.specs.Prelude.{◌≡◌, ◌-◌, ◌≤◌, ◌<◌}
use Rattle.theory.specs.Prelude.{sym, subst, List, ℕ, suc, arith, length, take, set, get_or, le_refl, bit_and, ones}
use Rattle.theory.specs.Set.{◌⊑◌}
use Rattle.theory.specs.Near.{Simple, Standing}
use Rattle.theory.specs.Near.Laws.{standing-count, standing-item, standing-two}
use Rattle.peeling.specs.Hard.{Linked, Left}
use Rattle.peeling.specs.Hard.Laws.{left-start, left-skip, left-linked, left-harmless, told_in, told-out, two_out}
use Rattle.peeling.specs.Hard.Laws.{marks-start, marks-easy, marks-hard, marks-rest, in_list}
use Rattle.peeling.proofs.mark_hard.Invariants.{Kept}
use Rattle.peeling.proofs.mark_hard.Goals as goal

-- the last of the first c constraints
module _ {start : List ℕ} {e c : ℕ} (s : Standing start e) (some : 0 < c) (within : c ≤ e) {near old needs : List ℕ} {left : ℕ}
    (w : Kept (take e start) c near left old needs) where
  abbrev cs : List ℕ
  cs = take e start

  abbrev k : ℕ
  k = c - 1

  abbrev m : ℕ
  m = get_or start k 0

  listed : k < length cs
  listed = in_list s (omega arith)

  is : m ≡ get_or cs k 0
  is = standing-item s k (omega arith)

  next : Kept cs (suc k) near left old needs
  next = let up : c ≡ suc k = omega arith in subst (λ (z : ℕ). Kept cs z near left old needs) up w

  -- it lies in what is left
  drops : bit_and m left ≡ m → (ones m ≡ 2) × (m ⊑ left) × Linked near m
  drops t = let i = told_in is t in (
    standing-two s k (omega arith),
    subst (λ (z : ℕ). z ⊑ left) (sym is) i,
    subst (Linked near) (sym is) (left-linked cs s.simple k listed next.core i),
  )

  noted : {near' : List ℕ} {left' : ℕ}
      → ((cs : List ℕ) → Simple cs → (c : ℕ) → c < length cs → get_or cs c 0 ≡ m → Left cs (suc c) near left → Left cs c near' left')
      → Kept cs k near' left' old (set needs k 4)
  noted drop = record { core = drop cs s.simple k listed (sym is) next.core; marks = marks-hard next.marks (omega (arith, s.few)) }

  -- it does not
  passed : (bit_and m left ≡ m → ⊥) → Kept cs k near left old needs
  passed t = record {
    core = left-skip cs s.simple k listed next.core;
    marks = marks-easy next.marks (left-harmless cs s.simple next.core k (le_refl (suc k)) listed (told-out is t));
  }

pub loop-c-init : goal.loop-c-init
loop-c-init c = let s = c.requires in record {
  core = left-start (standing-count s.0) s.1 s.2;
  marks = marks-start s.3 (standing-count s.0);
}

-- nothing is left
pub returns-then-left-eq0 : goal.returns-then-left-eq0
returns-then-left-eq0 c =
    let s = c.requires.0 in
    let w = c.loop-c.invariant in
    marks-rest w.marks (λ k h.
    let listed = in_list s (omega arith) in
    left-harmless (take c.args.e c.args.start.now) s.simple w.core k h listed (two_out s.simple k listed c.if-left-eq0.true))

pub drop_pair-left-requires : goal.drop_pair-left-requires
drop_pair-left-requires c = let l = c.loop-c in drops c.requires.0 c.loop-c-test.true l.auto.c l.invariant c.if-pair-left.true

pub loop-c-preserved-then-pair-left : goal.loop-c-preserved-then-pair-left
loop-c-preserved-then-pair-left c = let l = c.loop-c in noted c.requires.0 c.loop-c-test.true l.auto.c l.invariant c.drop_pair-left.ensures

pub loop-c-preserved : goal.loop-c-preserved
loop-c-preserved c = let l = c.loop-c in passed c.requires.0 c.loop-c-test.true l.auto.c l.invariant c.if-pair-left.false
