-- Demands 1 and 2 hold of the judge's answers: by the first refusal that applies, or by what both stages give. And any two answers that meet demand 2
-- for the same input are equal. Of an access that is not refused, the right is missing exactly where its cause is not 0. Assumes nothing.
use mathlib.Core.Path.{◌≡◌, refl, sym, ap, ◌∙◌}
use mathlib.Core.Bool.{false, cond, ◌&&◌}
use mathlib.Core.List.{List}
use mathlib.Core.Logic.{inl, inr}
use Prim.Native.Nat.{ℕ, ◌≤◌}
use native.Mathlib.Omega.{arith}
use lib.Dec.{eqb}
use borrow.Author.Tests.{ne_eqb}
use Rattle.records.proofs.Cases.{clash}
use Rattle.records.specs.Leaf.{leaf_of}
use Rattle.records.specs.Setup.{setup_of}
use Rattle.records.specs.Values.{if_passes}
use Rattle.records.specs.declared.leaf.Leaf.{Leaf}
use Rattle.records.specs.declared.setup.Setup.{Setup}
use Rattle.rights.proofs.Named.{Named, permits, faults, refuses, stage1-named, stage2-named, cause-fixes}
use Rattle.rights.specs.Answers.{permitted, cause_of}
use Rattle.rights.specs.declared.answers.Fault.{Fault}
use Rattle.attributes.specs.declared.Memory.{Memory}
use Rattle.judge.specs.Answers.{judgement_values}
use Rattle.judge.specs.Demands.{Demand1, stage1, stage2, first_refusal, NothingRefused, FirstFault, Demand2, JudgeDemands}
use Rattle.judge.specs.Judge.{judge_of}
use Rattle.judge.proofs.Outcome.{outcome, memory, outcome_of, judge-by, no-refusal, access-passes, first-number}
use Rattle.std.specs.Prelude.{Ok, Err}
use Rattle.rights.specs.declared.answers.Stop.TheVariants.{Faulted, Refused}
use Rattle.rights.specs.Answers.{Answer}
use Rattle.judge.specs.Answers.{Judgement}
use Rattle.records.specs.Values.{Check}
use Rattle.records.specs.declared.refusal.Refusal.{Refusal}
use Rattle.judge.specs.Answers.{refusing}
use Rattle.rights.specs.declared.answers.Stage.TheVariants.{One, Two}

-- an outcome of the stages that is no refusal is allowed or a named fault
named-one : (x y : Answer) → Named One x → Named Two y → (m : Memory) → ((k : Refusal) → outcome x y m ≡ (Err (Refused k)) → ⊥) → Demand1 (outcome x y m)
named-one _ _ permits permits m h = (inl (refl, refl, refl, refl), cause-fixes {s = One} permits)
named-one _ _ permits (faults g e f) m h = (inr (inl (refl, f.0, refl, refl)), cause-fixes (faults g e f))
named-one _ _ permits (refuses n g) m h = absurd (h n refl)
named-one _ y (faults g e f) q m h = (inr (inl (refl, f.0, refl, refl)), cause-fixes (faults g e f))
named-one _ y (refuses n g) q m h = absurd (h n refl)

-- the cause of an outcome is stage 1's where it does not permit, else stage 2's
cause-by : (x y : Answer) (m : Memory) → (judgement_values (outcome x y m)).cause ≡ cond (permitted x) (cause_of y) (cause_of x)
cause-by (Ok u) (Ok v) m = refl
cause-by (Ok u) (Err (Faulted g)) m = refl
cause-by (Ok u) (Err (Refused n)) m = refl
cause-by (Err (Faulted g)) y m = refl
cause-by (Err (Refused n)) y m = refl

-- an allowed outcome is permitted by both stages
permitted-by : (x y : Answer) (m q : Memory) → outcome x y q ≡ Ok m → (x ≡ (Ok tt)) × (y ≡ (Ok tt))
permitted-by (Ok u) (Ok v) m q e = (refl, refl)
permitted-by (Ok u) (Err (Faulted f)) m q e = clash (cc)
permitted-by (Ok u) (Err (Refused k)) m q e = clash (cc)
permitted-by (Err (Faulted f)) y m q e = clash (cc)
permitted-by (Err (Refused k)) y m q e = clash (cc)

module _ (b c : List ℕ) (n : ℕ) where
  abbrev s : Setup
  s = setup_of b

  abbrev f : Leaf
  f = leaf_of c

  -- Demand 1
  one_answer : (x : Check) → first_refusal b c n ≡ x → Demand1 (if_passes x refusing (outcome_of s f n))
  one_answer (Ok u) e =
      named-one (stage1 s f n) (stage2 s f n) (stage1-named s _ _ _) (stage2-named s _ _) (memory s f n) (no-refusal s f n (access-passes b c n e))
  one_answer (Err k) e = (inr (inr (first-number b c n k e, refl, refl, refl, refl, refl)), cause-fixes {s = One} permits)

  -- Demand 2
  refused-only : (x : Check) → first_refusal b c n ≡ x → (k : Refusal) → if_passes x refusing (outcome_of s f n) ≡ Err (Refused k)
      → x ≡ Err k
  refused-only (Ok u) e k h = absurd (no-refusal s f n (access-passes b c n e) k h)
  refused-only (Err m) e k h = cc

  first-fault : (g : Fault) → FirstFault s f n g → outcome_of s f n ≡ Err (Faulted g)
  first-fault g (inl h) = rw h
  first-fault g (inr h) = rw (h.0, h.1)

  -- the judge's answer where nothing is refused
  passing : first_refusal b c n ≡ (Ok tt) → judge_of b c n ≡ outcome_of s f n
  passing h = judge-by b c n ∙ ap (λ (x : Check). if_passes x refusing (outcome_of s f n)) h

  right : Demand2 b c n (judge_of b c n)
  right = record {
    allowed = λ h p. passing h ∙ rw (p.0, p.1);
    only_allowed = λ h m e. permitted-by (stage1 s f n) (stage2 s f n) m (memory s f n) (sym (passing h) ∙ e);
    faulted = λ h g p. passing h ∙ first-fault g p;
    caused = λ h. ap (λ (j : Judgement). (judgement_values j).cause) (passing h) ∙ cause-by (stage1 s f n) (stage2 s f n) (memory s f n);
    refused = λ k h. judge-by b c n ∙ rw h;
    only_refused = λ k h. refused-only (first_refusal b c n) refl k (sym (judge-by b c n) ∙ h);
  }

  -- an answer that is the judge's meets the demands
  pub judge-met : (j : Judgement) → j ≡ judge_of b c n → (j ≡ judge_of b c n) × JudgeDemands b c n j
  judge-met j e = (e, record { one = rw (e, judge-by b c n) (one_answer (first_refusal b c n) refl); right = rw e right })

  -- of an access that is not refused, the right is missing exactly where its cause is not 0
  pub missing : NothingRefused b c n → (j : Judgement) → JudgeDemands b c n j
      → eqb (judgement_values j).cause 0 ≡ (permitted (stage1 s f n) && permitted (stage2 s f n))
  missing h j d =
      rw (d.right.caused h)
      (go (stage1 s f n) (stage1-named s _ _ _) (stage2 s f n) (stage2-named s _ _) (no-refusal s f n (access-passes b c n h)))
    where
      not-0 : (k : ℕ) → 1 ≤ k → eqb k 0 ≡ false
      not-0 k h = ne_eqb k 0 (λ q. omega arith)

      go : (x : Answer) → Named One x → (y : Answer) → Named Two y → ((k : Refusal) → outcome x y (memory s f n) ≡ (Err (Refused k)) → ⊥)
          → eqb (cond (permitted x) (cause_of y) (cause_of x)) 0 ≡ (permitted x && permitted y)
      go _ permits _ permits r = refl
      go _ permits _ (faults g e t) r = not-0 g.cause t.0
      go _ permits _ (refuses k t) r = absurd (r k refl)
      go _ (faults g e t) y q r = not-0 g.cause t.0
      go _ (refuses k t) y q r = absurd (r k refl)

  -- the demands leave one answer
  pub judge-unique : (j k : Judgement) → Demand2 b c n j → Demand2 b c n k → j ≡ k
  judge-unique j k p q = go (first_refusal b c n) refl
    where
      stages : first_refusal b c n ≡ (Ok tt) → (x y : Answer) → stage1 s f n ≡ x → stage2 s f n ≡ y → j ≡ k
      stages h (Ok u) (Ok v) d e = p.allowed h (d, e) ∙ sym (q.allowed h (d, e))
      stages h (Ok u) (Err (Faulted g)) d e = p.faulted h g (inr (d, e)) ∙ sym (q.faulted h g (inr (d, e)))
      stages h (Ok u) (Err (Refused m)) d e = absurd (no-refusal s f n (access-passes b c n h) m (rw (d, e)))
      stages h (Err (Faulted g)) y d e = p.faulted h g (inl d) ∙ sym (q.faulted h g (inl d))
      stages h (Err (Refused m)) y d e = absurd (no-refusal s f n (access-passes b c n h) m (rw d))

      go : (x : Check) → first_refusal b c n ≡ x → j ≡ k
      go (Ok u) h = stages h (stage1 s f n) (stage2 s f n) refl refl
      go (Err m) h = p.refused m h ∙ sym (q.refused m h)
