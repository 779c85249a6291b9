-- What a loop over the edge of a union keeps: the links and holders stored so far, and what was found on the way. Assumes nothing.
use Rattle.std.specs.Prelude.{◌≡◌, ◌≢◌, ◌+◌, ◌-◌, ◌*◌, ◌^◌, ◌≤◌, ◌<◌}
use Rattle.theory.specs.Prelude.{sym, ap, ◌∙◌, subst, List, ℕ, arith, bit_and, bit_or, bit_xor}
use Rattle.theory.specs.Prelude.{count_trailing_zeros, length, get_or, set}
use Rattle.theory.specs.Set.{◌∈◌, at}
use Rattle.theory.specs.Set.Lowest.{lowest-in}
use Rattle.search.specs.State.{linked}
use Rattle.search.specs.Words.{replaced_at, Rejoined}
use Rattle.search.proofs.Gather.{Seen, seen_none, seen_next}
use Rattle.search.proofs.Storing.{Placed, Joining, joining-none, joining-next, joining-all, Innerly, innerly-none, innerly-left, innerly-more}

pub record Rejoining (links hold : List ℕ) (edge u : ℕ) (dead made now held : List ℕ) (rest once twice inner : ℕ) : Type 0 where
  pub joining : Joining links hold edge u dead made now held rest
  pub seen : Seen links edge rest once twice
  pub innerly : Innerly links edge u rest inner

module _ {links hold : List ℕ} {edge u : ℕ} {dead made : List ℕ} where
  pub rejoining-none : edge < 2 ^ 64 → length links ≡ 64 → length hold ≡ 192 → Rejoining links hold edge u dead made links hold edge 0 0 0
  rejoining-none l a b = record { joining = joining-none l a b; seen = seen_none l; innerly = innerly-none links edge u l }

  module _ {now held : List ℕ} {rest once twice inner : ℕ} (w : Rejoining links hold edge u dead made now held rest once twice inner) where
    module _ (p : ℕ) (is : p ≡ count_trailing_zeros 64 rest) (some : rest ≢ 0) where
      -- the lowest element's links are those of before
      old : get_or now p 0 ≡ linked links p
      old =
          let plain : p ≡ 0 + p = omega arith in
          let low : p ∈ rest = ap (λ (q : ℕ). at q rest) is ∙ lowest-in 64 rest w.joining.left.fits some in
          ap (λ (q : ℕ). get_or now q 0) plain ∙ w.joining.linking.waiting p low ∙ ap (linked links) (sym plain)

      pub rejoining-inner : bit_or (get_or now p 0) u ≡ u → Innerly links edge u (bit_and rest (rest - 1))
          (bit_or inner (bit_xor rest (bit_and rest (rest - 1))))
      rejoining-inner h = innerly-more links edge u rest inner w.innerly some p is (ap (λ (l : ℕ). bit_or l u) (sym old) ∙ h)

      pub rejoining-other : Innerly links edge u (bit_and rest (rest - 1)) inner
      rejoining-other = innerly-left links edge u rest inner w.innerly some

      pub rejoining-next : {held' : List ℕ} {n : ℕ}
          → Placed (λ v. 64 * v + p) (λ v. replaced_at dead made v (get_or held (64 * v + p) 0)) held held' n → 3 ≤ n → {inner' : ℕ}
          → Innerly links edge u (bit_and rest (rest - 1)) inner'
          → Rejoining links hold edge u dead made (set now p (bit_or (get_or now p 0) u)) held' (bit_and rest (rest - 1))
          (bit_or once (get_or now p 0)) (bit_or twice (bit_and once (get_or now p 0))) inner'
      rejoining-next h every innerly = record {
        joining = joining-next w.joining p is some h every;
        seen =
            subst (λ (l : ℕ). Seen links edge (bit_and rest (rest - 1)) (bit_or once l) (bit_or twice (bit_and once l)))
            (sym (old ∙ ap (linked links) is)) (seen_next w.seen some);
        innerly = innerly;
      }

    pub rejoining-all : rest ≡ 0 → edge < 2 ^ 64 → length links ≡ 64 → Rejoined links hold edge u dead made now held
    rejoining-all z fits long = joining-all w.joining z fits long
