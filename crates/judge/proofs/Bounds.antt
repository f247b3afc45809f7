-- How large a list's answer can be, by its demands: at most 2,048 leaves, and a refusal names one of them. Assumes nothing.
use mathlib.Core.Path.{refl}
use mathlib.Core.List.{List}
use Prim.Native.Nat.{ℕ, ◌≤◌, ◌<◌}
use native.Mathlib.Omega.{arith}
use Rattle.records.proofs.CheckLaws.{Ways, refused-before, refused-at, none-refused, ways}
use Rattle.records.specs.Leaf.{leaf_at, leaf_count}
use Rattle.records.specs.Setup.{setup_of}
use Rattle.judge.specs.Demands.{start_refusal, leaf_refusal, ListDemands}
use Rattle.judge.specs.List.{list_of}
use Rattle.judge.proofs.ListDemands.{start-passes}
use Rattle.judge.proofs.ListMet.{list-met}
use Rattle.std.specs.Prelude.{Ok, Err}
use Rattle.records.specs.Values.{on_leaf}
use Rattle.judge.specs.Answers.{Listed}
use Rattle.records.specs.Values.{Check}
use Rattle.records.specs.declared.refusal.Refusal.{Refusal}

pub data Within : Listed → Type 0 where
  done : (n : ℕ) → n ≤ 2048 → Within (Ok n)
  refusal : (k : Refusal) (i : ℕ) → i < 2048 → Within (Err (on_leaf k i))

module _ (b ls o c : List ℕ) where
  -- the refusal of leaf i
  abbrev R : ℕ → Check
  R i = leaf_refusal (setup_of b) (leaf_at ls i)

  demanded : ListDemands b ls o c (list_of b ls o c).answer (list_of b ls o c).out (list_of b ls o c).causes
  demanded = list-met b ls o c (list_of b ls o c).answer (list_of b ls o c).out (list_of b ls o c).causes (refl, refl, refl)

  -- every answer
  pub within : Within (list_of b ls o c).answer
  within = go (ways (start_refusal b ls o c) R (leaf_count ls))
    where
      go : Ways (start_refusal b ls o c) R (leaf_count ls) → Within (list_of b ls o c).answer
      go (refused-before k e) = rw (demanded.before k e) (refusal k 0 (omega arith))
      go (refused-at k i e h) =
          let few = (start-passes b ls o c e).few in
          let i-in = h.within in
          rw (demanded.at_leaf e k i h.within h.before h.refuses) (refusal k i (omega arith))
      go (none-refused e h) = rw (demanded.done e h).0 (done (leaf_count ls) (start-passes b ls o c e).few)
