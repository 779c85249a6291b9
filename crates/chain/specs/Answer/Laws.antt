-- What the search and the judgement give is what a call answers. Assumes nothing.
use Rattle.std.specs.Prelude.{◌≡◌, ◌+◌, ◌^◌, ◌≤◌, ◌<◌}
use Rattle.theory.specs.Prelude.{refl, sym, ap, ◌∙◌, List, Option, ℕ, arith, lt-ltb}
use Rattle.theory.specs.Prelude.{le-ltb}
use Rattle.theory.specs.Prelude.{length, take, sets, length-take-le}
use Rattle.theory.specs.Plan.{plan_of}
use Rattle.theory.specs.Plan.Laws.{plan-of-maximal}
use Rattle.theory.specs.Graph.{Graph}
use Rattle.space.specs.Space.Laws.{put_all, put_refused, put-done}
use Rattle.sheet.specs.Field.{refused}
use Rattle.sheet.specs.Graph.{over_fault}
use Rattle.sheet.specs.Graph.Laws.{fine-fault}
use Rattle.sheet.specs.Answer.{by_rule}
use Rattle.graph.specs.Lent.{Sound}
use Rattle.graph.specs.Lent.Sheets.{found-fine, fine-few}
use Rattle.merges.specs.Run.{Merged, run_in}
use Rattle.judge.specs.declared.Found.{Found}
use Rattle.judge.specs.Judged.{Judged, listed, judged_by, judged_of}
use Rattle.judge.specs.Judged.Laws.{steps-few, arrays-long, finals_are}
use Rattle.judge.specs.Found.{FoundIn}
use Rattle.chain.specs.Layers.{way, distance, chain_of}
use Rattle.chain.specs.Layers.Laws.{chain-some, chain-none, length-way}
use Rattle.chain.specs.Answer.{as_run, chain_answer, chain_after, finals_of, asked, ChainAnswers}
use Rattle.chain.specs.Says.{Answer}
use Rattle.chain.specs.Says.{Run, None, Refused}

-- ---- of clusters

-- the answer to a call for this chain, and the space after it
abbrev pub Answered : Option (List ℕ) → List ℕ → Answer → List ℕ → Type 0
Answered chain space r left = (r ≡ chain_answer chain space) × (left ≡ chain_after chain space)

module _ (s : List ℕ) (u v : ℕ) {t : ℕ} (is : t ≡ distance s u v) (space : List ℕ) where
  pub answered-none : 64 ≤ t → Answered (chain_of s u v) space None space
  answered-none l = rw (chain-none s v u is l) (refl, refl)

  pub answered-short : t < 64 → length space < t → Answered (chain_of s u v) space (Refused 17) space
  answered-short l h =
      let (a, b) = put_refused (way s v t (2 ^ u)) space (omega (arith, length-way s v t (2 ^ u))) in
      rw (chain-some s v u is l) (ap as_run a, b)

  pub answered-run : t < 64 → t ≤ length space → {left : List ℕ} → left ≡ sets space 0 (way s v t (2 ^ u))
      → Answered (chain_of s u v) space (Run t) left
  answered-run l h e =
      let n = length-way s v t (2 ^ u) in
      let room : length (way s v t (2 ^ u)) ≤ length space = omega (arith, n) in
      let next : t ≡ 0 + length (way s v t (2 ^ u)) = omega (arith, n) in
      let (a, b) = put-done room (put_all next e) in
      rw (chain-some s v u is l) (ap as_run a, b)

-- ---- of a judgement

module _ (g : Graph) (sound : Sound g.n g.clusters) {f : Found} {parts joints slots : List ℕ}
    (j : FoundIn g f parts joints slots) where
  -- the final clusters of one that is not over stand in the slots
  pub record FinalsIn (e : ℕ) : Type 0 where
    pub no_fault : over_fault g ≡ 0
    pub few : e + f.steps ≤ 192
    pub within : e + f.steps ≤ length slots
    pub count : e + f.steps ≡ length (take (e + f.steps) slots)
    pub finals : take (e + f.steps) slots ≡ finals_of g

  pub finals-in : {e : ℕ} → length g.clusters ≡ e → FinalsIn e
  unfolding judged_of listed
  finals-in {e} count =
      let cs = g.clusters in
      let pairs = sound.simple.pairs in
      let few = fine-few sound (found-fine sound j.fine) in
      let m : Merged cs (run_in f.steps parts joints slots) = record {
        p = plan_of cs;
        valid = (plan-of-maximal cs pairs).valid;
        is = ap (λ (x : Judged). x.run) (j.judged ∙ ap (judged_by g) j.fine);
      } in
      let room : e + f.steps ≤ 192 = omega (arith, steps-few cs pairs m, few) in
      let long = (arrays-long cs pairs m few).1 in
      record {
        no_fault = fine-fault g j.fine;
        few = room;
        within = omega (arith, long);
        count = sym (length-take-le (e + f.steps) slots (omega (arith, long)));
        finals = finals_are cs pairs m count;
      }

-- ---- rules 11 and 25

module _ (g : Graph) (u v : ℕ) (space : List ℕ) where
  abbrev pub AnswerOf : Answer → List ℕ → Type 0
  AnswerOf r left = ChainAnswers (by_rule (over_fault g) (asked g u v)) space r left

  refuses : {k : ℕ} → by_rule (over_fault g) (asked g u v) ≡ refused k → AnswerOf (Refused k) space
  refuses e = rw e (record { answer_is = refl; left_is = refl })

  pub over-refused : over_fault g ≡ 11 → AnswerOf (Refused 11) space
  over-refused e = refuses (rw e)

  module _ (e : over_fault g ≡ 0) where
    pub start-beyond : g.n ≤ u → AnswerOf (Refused 25) space
    start-beyond l = refuses (rw (e, le-ltb u g.n l))

    pub end-beyond : u < g.n → g.n ≤ v → AnswerOf (Refused 25) space
    end-beyond l m = refuses (rw (e, lt-ltb u g.n l, le-ltb v g.n m))

    pub both_below : u < g.n → v < g.n → {r : Answer} {left : List ℕ}
        → Answered (chain_of (finals_of g) u v) space r left → AnswerOf r left
    both_below l m h =
        rw (e, lt-ltb u g.n l, lt-ltb v g.n m) (record { answer_is = h.0; left_is = h.1 })
