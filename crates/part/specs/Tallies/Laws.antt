-- One list of steps after another. Assumes nothing.
use Rattle.std.specs.Prelude.{◌+◌, ◌≡◌, ◌∷◌, ◌++◌}
use Rattle.theory.specs.Prelude.{ℕ, arith, refl, sym, ap, ◌∙◌, List, [], append_assoc, length, length-append}
use Rattle.theory.specs.declared.Step.{Step}
use Rattle.report.specs.Report.{step_line, step_lines}
use Rattle.report.specs.Block.{Stands}
use Rattle.report.specs.Block.Laws.{stands-none, stands-as, ◌then◌}
use Rattle.part.specs.declared.Tally.{Tally}
use Rattle.part.specs.Tallies.{Listed, Room}

pub lines-append : (xs ys : List Step) → step_lines (xs ++ ys) ≡ step_lines xs ++ step_lines ys
unfolding step_lines
lines-append [] ys = refl
lines-append (x ∷ xs) ys = ap (step_line x ++◌) (lines-append xs ys) ∙ sym (append_assoc (step_line x) (step_lines xs) (step_lines ys))

pub lines_none : step_lines [] ≡ []
unfolding step_lines
lines_none = refl

-- ---- lists of steps, one after another

pub listed-as : {space after : List ℕ} {t r : Tally} {xs ys : List Step} → xs ≡ ys → Listed space t xs r after → Listed space t ys r after
listed-as e p = rw e at p

pub listed-none : (space : List ℕ) (t : Tally) → Listed space t [] t space
unfolding step_lines
listed-none space t = record { puts = stands-none space t.bytes; counts = omega arith }

pub listed-one : {space after : List ℕ} {t : Tally} {next : ℕ} (s : Step) → Stands space t.bytes (step_lines (s ∷ [])) next after
    → Listed space t (s ∷ []) (record { steps = t.steps + 1; bytes = next }) after
listed-one s p = record { puts = p; counts = refl }

infixl 5 ◌also◌
pub ◌also◌ : {s0 s1 s2 : List ℕ} {t0 t1 t2 : Tally} {xs ys : List Step} → Listed s0 t0 xs t1 s1 → Listed s1 t1 ys t2 s2
    → Listed s0 t0 (xs ++ ys) t2 s2
◌also◌ {xs = xs} {ys = ys} p q = record {
  puts = stands-as (sym (lines-append xs ys)) (p.puts then q.puts);
  counts = omega (arith, p.counts, q.counts, length-append xs ys);
}

-- ---- the room for them

module _ (xs ys : List Step) {t : Tally} (h : Room t (xs ++ ys)) where
  bytes-append : length (step_lines (xs ++ ys)) ≡ length (step_lines xs) + length (step_lines ys)
  bytes-append = ap length (lines-append xs ys) ∙ length-append (step_lines xs) (step_lines ys)

  pub room-first : Room t xs
  room-first = record { steps_fit = omega (arith, h.steps_fit, length-append xs ys); bytes_fit = omega (arith, h.bytes_fit, bytes-append) }

  pub room-rest : {space after : List ℕ} {r : Tally} → Listed space t xs r after → Room r ys
  room-rest p = record {
    steps_fit = omega (arith, h.steps_fit, length-append xs ys, p.counts);
    bytes_fit = omega (arith, h.bytes_fit, bytes-append, p.puts.next_is);
  }

pub room_as : {t : Tally} {xs ys : List Step} → xs ≡ ys → Room t xs → Room t ys
room_as e h = rw e at h
