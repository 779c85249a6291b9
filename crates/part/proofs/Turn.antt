-- The steps of a made cluster, part by part: what each call of itself asks, and what all of them have put at the end. Assumes nothing.
use Rattle.std.specs.Prelude.{◌+◌, ◌-◌, ◌≤◌, ◌<◌, ◌^◌, ◌≡◌, ◌∷◌, ◌++◌}
use Rattle.theory.specs.Prelude.{ℕ, arith, sym, ap, ◌∙◌, List, [], length}
use Rattle.theory.specs.declared.Step.{Step}
use Rattle.engine.specs.Steps.{steps_for}
use Rattle.report.specs.Report.{step_lines}
use Rattle.report.specs.Report.Laws.{steps-one}
use Rattle.report.specs.Pieces.{Small, AllSmall}
use Rattle.report.specs.Block.{Stands}
use Rattle.report.specs.Block.Laws.{stands-as}
use Rattle.part.specs.declared.Tally.{Tally}
use Rattle.part.specs.Part.{part_steps_of}
use Rattle.part.specs.Part.Laws.{Parts, parts-of, part-made}
use Rattle.part.specs.Tallies.{Lower, Listed, Room}
use Rattle.part.specs.Tallies.Laws.{listed-as, listed-one, ◌also◌, room_as, room-first, room-rest}

-- the step s makes cluster c
pub record Made (e : ℕ) (step : ℕ → Step) (c : ℕ) (s : Step) : Type 0 where
  pub low : Lower e step c
  pub made : e ≤ c
  pub is : s ≡ step (c - e)

pub made-of : {e : ℕ} {step : ℕ → Step} {c : ℕ} {s : Step} → Lower e step c → e ≤ c → s ≡ step (c - e) → Made e step c s
made-of low made is = record { low = low; made = made; is = is }

module _ {e : ℕ} {step : ℕ → Step} {c : ℕ} {s : Step} (h : Made e step c s) where
  abbrev of : ℕ → List Step
  of = part_steps_of e step

  parts : Parts e step c
  parts = parts-of e step c h.made h.low

  pub i_below : s.i < c
  i_below = rw h.is parts.i_below

  pub j_below : s.j < c
  j_below = rw h.is parts.j_below

  pub k_below : s.k < c
  k_below = rw h.is parts.k_below

  pub i_lower : Lower e step s.i
  i_lower = rw h.is parts.i_parts

  pub j_lower : Lower e step s.j
  j_lower = rw h.is parts.j_parts

  pub k_lower : Lower e step s.k
  k_lower = rw h.is parts.k_parts

  -- the numbers of the step are small
  pub small : s.made ≡ e + (c - e) → e ≤ 125 → c < e + 62 → Small s
  small q few within = record {
    made_small = omega (arith, q, h.made);
    i_small = omega (arith, i_below);
    j_small = omega (arith, j_below);
    k_small = omega (arith, k_below);
  }

  -- its own step, as the one from c - e on
  own : steps_for step (c - e) (c - e + 1 - (c - e)) ≡ s ∷ []
  own = steps-one step (c - e) ∙ ap (λ (x : Step). x ∷ []) (sym h.is)

  pub own-small : Small s → AllSmall (steps_for step (c - e) (c - e + 1 - (c - e)))
  own-small p = rw own (p, tt)

  pieces : of c ≡ of s.i ++ (of s.j ++ (of s.k ++ (s ∷ [])))
  pieces =
      part-made e step c h.made h.low
      ∙ ap (λ (x : Step). of x.i ++ (of x.j ++ (of x.k ++ (x ∷ [])))) (sym h.is)

  module _ {t : Tally} (room : Room t (of c)) where
    whole : Room t (of s.i ++ (of s.j ++ (of s.k ++ (s ∷ []))))
    whole = room_as pieces room

    pub i-room : Room t (of s.i)
    i-room = room-first (of s.i) _ whole

    module _ {s0 s1 : List ℕ} {a : Tally} (listed-i : Listed s0 t (of s.i) a s1) where
      after-i : Room a (of s.j ++ (of s.k ++ (s ∷ [])))
      after-i = room-rest (of s.i) _ whole listed-i

      pub j-room : Room a (of s.j)
      j-room = room-first (of s.j) _ after-i

      module _ {s2 : List ℕ} {b : Tally} (listed-j : Listed s1 a (of s.j) b s2) where
        after-j : Room b (of s.k ++ (s ∷ []))
        after-j = room-rest (of s.j) _ after-i listed-j

        pub k-room : Room b (of s.k)
        k-room = room-first (of s.k) _ after-j

        module _ {s3 : List ℕ} {d : Tally} (listed-k : Listed s2 b (of s.k) d s3) where
          pub own_room : Room d (steps_for step (c - e) (c - e + 1 - (c - e)))
          own_room = room_as (sym own) (room-rest (of s.k) _ after-j listed-k)

          pub one_more : d.steps + 1 < 2 ^ 64
          one_more = omega (arith, own_room.steps_fit, ap length own)

          pub all_listed : {s4 : List ℕ} {next : ℕ} → Stands s3 d.bytes (step_lines (steps_for step (c - e) (c - e + 1 - (c - e)))) next s4
              → Listed s0 t (of c) (record { steps = d.steps + 1; bytes = next }) s4
          all_listed p = listed-as (sym pieces) (listed-i also (listed-j also (listed-k also listed-one s (stands-as (ap step_lines own) p))))
