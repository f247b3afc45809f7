-- The judgement of an access by the first refusal that applies: its number, or what both stages give. The judge's chain of answers and the demands' chain of
-- checks go through the same steps, so that they agree case by case. Assumes nothing.
use mathlib.Core.Path.{◌≡◌, refl, ap}
use mathlib.Core.Bool.{Bool, true, false, cond, not}
use mathlib.Core.List.{List}
use mathlib.Core.Logic.{◌⊎◌, inl, inr}
use Prim.Native.Nat.{ℕ, ◌≤◌}
use native.Mathlib.Omega.{arith}
use lib.Dec.{eqb}
use lib.ListN.{length}
use Rattle.records.proofs.Cases.{clash}
use Rattle.records.proofs.CheckLaws.{both-pass, refused-by, checked}
use Rattle.records.specs.Access.{access_at}
use Rattle.records.specs.Descriptor.{stage1_of, stage2_of}
use Rattle.records.specs.Leaf.{leaf_of, read_leaf}
use Rattle.records.specs.Setup.{setup_of, read_setup}
use Rattle.records.specs.Values.{check_if, length_check, check_then, if_passes}
use Rattle.records.specs.declared.leaf.Leaf.{Leaf}
use Rattle.records.specs.declared.setup.Setup.{Setup}
use Rattle.rights.proofs.Named.{Named, permits, faults, refuses, stage1-named, stage2-named, setup-number, leaf-number}
use Rattle.rights.proofs.OrderLaws.{stages-as}
use Rattle.rights.specs.Answers.{follow, answer_of, refusal_of, where_reached}
use Rattle.rights.specs.Checks.{setup_check, access_check, leaf_check}
use Rattle.rights.specs.Order.{leaf_answer, after_access, rights_answer}
use Rattle.attributes.proofs.Laws.{eight-or-nine, refuses as attributes-refuse}
use Rattle.attributes.specs.Order.{check_of, memory_of, combined_if, attributes_of}
use Rattle.attributes.specs.declared.Memory.{Memory}
use Rattle.judge.specs.Demands.{stage1, stage2, access_refusal, is_judged, first_refusal}
use Rattle.judge.specs.Judge.{fetches, combined, after_rights, judged, judge_setup, judge_of}
use Rattle.std.specs.Prelude.{Ok, Err}
use Rattle.records.specs.declared.refusal.Refusal.TheVariants.{UnknownAccess, IllFormed, MemoryCode, ReservedSh}
use Rattle.rights.specs.declared.answers.Stop.TheVariants.{Faulted, Refused}
use Rattle.rights.specs.Answers.{Answer}
use Rattle.judge.specs.Answers.{Judgement}
use Rattle.records.specs.Values.{Check}
use Rattle.records.specs.declared.refusal.Refusal.{Refusal}
use Rattle.records.specs.Values.{refusal_number}
use Rattle.judge.specs.Answers.{refusing}
use Rattle.rights.specs.declared.answers.Stage.TheVariants.{One, Two}

-- what both stages give an access that nothing refuses
abbrev pub outcome : Answer → Answer → Memory → Judgement
outcome x y m = after_rights (follow x y) (Ok m)

-- the refusals of the stages and the attribute steps
abbrev pub steps_refusal : Answer → Answer → Check → Check
steps_refusal p q z = check_then (refusal_of p) (where_reached p (check_then (refusal_of q) (where_reached q z)))

chain : (x : Check) (t : Bool) (y : Check) (p q : Answer) (z : Check) (m : Memory)
    → after_rights (follow (answer_of x) (cond t (follow (answer_of y) (follow p q)) (Err (Refused UnknownAccess)))) (combined (combined_if z m))
    ≡ if_passes (check_then x (check_then (check_if (not t) UnknownAccess) (check_then y (steps_refusal p q z)))) refusing (outcome p q m)
chain (Err n) t y p q z m = refl
chain (Ok u) false y p q z m = refl
chain (Ok u) true (Err n) p q z m = refl
chain (Ok u) true (Ok v) (Err (Faulted g)) q z m = refl
chain (Ok u) true (Ok v) (Err (Refused n)) q z m = refl
chain (Ok u) true (Ok v) (Ok w) (Err (Faulted g)) z m = refl
chain (Ok u) true (Ok v) (Ok w) (Err (Refused n)) z m = refl
chain (Ok u) true (Ok v) (Ok w) (Ok x) (Ok y) m = refl
chain (Ok u) true (Ok v) (Ok w) (Ok x) (Err n) m = refl

module _ (s : Setup) (f : Leaf) (n : ℕ) where
  abbrev pub memory : Memory
  memory = memory_of s (stage1_of f.stage1) (stage2_of f.stage2) (fetches n)

  abbrev pub outcome_of : Judgement
  outcome_of = outcome (stage1 s f n) (stage2 s f n) memory

  stages : leaf_answer s f (access_at n) ≡ follow (stage1 s f n) (stage2 s f n)
  stages = stages-as s _ _ _ (access_at n) (stage1 s f n) refl

  -- 4, 5, then the stages
  accessed : after_access s f (access_check s.control.two n)
      ≡ cond (is_judged s.control.two n) (follow (answer_of (leaf_check f)) (follow (stage1 s f n) (stage2 s f n))) (Err (Refused UnknownAccess))
  unfolding access_check
  accessed = go (is_judged s.control.two n)
    where
      go : (t : Bool) → after_access s f (cond t (Ok (access_at n)) (Err UnknownAccess))
          ≡ cond t (follow (answer_of (leaf_check f)) (follow (stage1 s f n) (stage2 s f n))) (Err (Refused UnknownAccess))
      go true = ap (follow (answer_of (leaf_check f))) stages
      go false = refl

  pub judged-by : judged s f n
      ≡ if_passes (check_then (setup_check s.control) (check_then (check_if (not (is_judged s.control.two n)) UnknownAccess) (check_then (leaf_check f) (access_refusal s f n))))
      refusing outcome_of
  unfolding judged rights_answer attributes_of access_refusal
  judged-by =
      rw accessed
      (chain (setup_check s.control) (is_judged s.control.two n) (leaf_check f) (stage1 s f n) (stage2 s f n) (check_of s (stage1_of f.stage1) (stage2_of f.stage2)) memory)

  -- where no refusal of the access applies, what both stages give is none
  pub no-refusal : access_refusal s f n ≡ (Ok tt) → (k : Refusal) → outcome_of ≡ (Err (Refused k)) → ⊥
  unfolding access_refusal
  no-refusal = go (stage1 s f n) (stage2 s f n)
    where
      go : (p q : Answer) → steps_refusal p q (check_of s (stage1_of f.stage1) (stage2_of f.stage2)) ≡ (Ok tt) → (k : Refusal) → outcome p q memory ≡ (Err (Refused k)) → ⊥
      go (Ok u) (Ok v) e k h = clash (cc)
      go (Ok u) (Err (Faulted g)) e k h = clash (cc)
      go (Ok u) (Err (Refused m)) e k h = clash (cc)
      go (Err (Faulted g)) q e k h = clash (cc)
      go (Err (Refused m)) q e k h = clash (cc)

  -- the refusals of an access are 6 to 9
  pub access-number : (k : Refusal) → access_refusal s f n ≡ Err k → (6 ≤ refusal_number k) × (refusal_number k ≤ 9)
  unfolding access_refusal
  access-number k = go _ (stage1-named s _ _ _) _ (stage2-named s _ _)
    where
      attributes : check_of s (stage1_of f.stage1) (stage2_of f.stage2) ≡ Err k → (6 ≤ refusal_number k) × (refusal_number k ≤ 9)
      attributes e = pick (eight-or-nine s _ _ (fetches n) k (attributes-refuse s _ _ (fetches n) k e))
        where
          pick : (k ≡ MemoryCode) ⊎ (k ≡ ReservedSh) → (6 ≤ refusal_number k) × (refusal_number k ≤ 9)
          pick (inl h) = rw h (omega arith, omega arith)
          pick (inr h) = rw h (omega arith, omega arith)

      go : (p : Answer) → Named One p → (q : Answer) → Named Two q
          → steps_refusal p q (check_of s (stage1_of f.stage1) (stage2_of f.stage2)) ≡ Err k → (6 ≤ refusal_number k) × (refusal_number k ≤ 9)
      go _ permits _ permits e = attributes e
      go _ permits _ (faults j p h) e = clash (cc)
      go _ permits _ (refuses m h) e = let g : m ≡ k = cc in rw (← g) (h.0, (let q = h.1 in omega arith))
      go _ (faults j p h) q _ e = clash (cc)
      go _ (refuses m h) q _ e = let g : m ≡ k = cc in rw (← g) (h.0, (let q = h.1 in omega arith))

-- the judge's answer by the first refusal
pub judge-by : (b c : List ℕ) (n : ℕ) → judge_of b c n ≡ if_passes (first_refusal b c n) refusing (outcome_of (setup_of b) (leaf_of c) n)
unfolding judge_of read_setup read_leaf first_refusal
judge-by b c n = go (eqb (length b) 52) (eqb (length c) 18)
  where
    go : (x y : Bool)
        → judge_setup (cond y (Ok (leaf_of c)) (Err IllFormed)) n (cond x (Ok (setup_of b)) (Err IllFormed))
        ≡ if_passes (check_then (check_if (not x) IllFormed) (check_then (check_if (not y) IllFormed)
        (check_then (setup_check (setup_of b).control)
        (check_then (check_if (not (is_judged (setup_of b).control.two n)) UnknownAccess) (check_then (leaf_check (leaf_of c)) (access_refusal (setup_of b) (leaf_of c) n))))))
        refusing (outcome_of (setup_of b) (leaf_of c) n)
    go false y = refl
    go true false = refl
    go true true = judged-by (setup_of b) (leaf_of c) n

-- where nothing is refused, nothing of the access is
pub access-passes : (b c : List ℕ) (n : ℕ) → first_refusal b c n ≡ (Ok tt) → access_refusal (setup_of b) (leaf_of c) n ≡ (Ok tt)
unfolding first_refusal
access-passes b c n e =
    (both-pass (leaf_check (leaf_of c)) _
    (both-pass (check_if (not (is_judged (setup_of b).control.two n)) UnknownAccess) _
    (both-pass (setup_check (setup_of b).control) _ (both-pass (length_check c 18) _ (both-pass (length_check b 52) _ e).1).1).1).1).1

-- the numbers of a judgement's refusal
pub first-number : (b c : List ℕ) (n : ℕ) (k : Refusal) → first_refusal b c n ≡ Err k
    → ((1 ≤ refusal_number k) × (refusal_number k ≤ 9)) ⊎ (refusal_number k ≡ 13)
unfolding first_refusal
first-number b c n k =
    refused-by _ _ k (λ h. inr (ap refusal_number (checked (not (eqb (length b) 52)) IllFormed k h)))
    (refused-by _ _ k (λ h. inr (ap refusal_number (checked (not (eqb (length c) 18)) IllFormed k h)))
    (refused-by _ _ k (λ h. inl (let g = setup-number (setup_of b).control k h in omega arith))
    (refused-by _ _ k (λ h. rw (checked (not (is_judged (setup_of b).control.two n)) UnknownAccess k h) (inl (omega arith)))
    (refused-by _ _ k (λ h. rw (leaf-number (leaf_of c) k h) (inl (omega arith)))
    (λ h. inl (let g = access-number (setup_of b) (leaf_of c) n k h in omega arith))))))
