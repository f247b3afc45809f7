-- The user's demands 1 and 2, with request A1, as statements about the judge and the list on the paper's conditions, never on the program's own answer,
-- but for the causes of a list: these are by the request those of the judge's own answers. The judge and the list meet them: `judge-met` of proofs/Demands,
-- `list-met` of proofs/ListMet. They leave one outcome for every input: `judge-unique` and `list-unique`, there too. Assumes nothing.
use Rattle.std.specs.Prelude.{ℕ, ◌+◌, ◌*◌, ◌<◌, ◌≤◌, ◌≡◌, Bool, cond, not, ◌&&◌, List, ◌⊎◌, leb, length, get_or, drop, Ok, Err}
use Rattle.records.specs.Access.{access_at}
use Rattle.records.specs.Bits.{bit}
use Rattle.records.specs.Descriptor.{stage1_of, stage2_of, limits_of}
use Rattle.records.specs.Leaf.{leaf_of, leaf_slice, leaf_at, leaf_count}
use Rattle.records.specs.Setup.{setup_of}
use Rattle.records.specs.Values.{Values, check_if, length_check, check_then, first_of}
use Rattle.records.specs.declared.leaf.Leaf.{Leaf}
use Rattle.records.specs.declared.setup.Setup.{Setup}
use Rattle.rights.specs.Answers.{permitted, refusal_of, where_reached, cause_of}
use Rattle.rights.specs.Causes.{CauseFixes}
use Rattle.rights.specs.Checks.{setup_check, leaf_check}
use Rattle.rights.specs.Order.{stage1_if, stage2_if}
use Rattle.rights.specs.declared.answers.Fault.{Fault}
use Rattle.attributes.specs.Order.{check_of, memory_of}
use Rattle.attributes.specs.declared.Memory.{Memory}
use Rattle.judge.specs.Answers.{judgement_values}
use Rattle.judge.specs.Judge.{fetches, judge_of}
use Rattle.judge.specs.LeafRights.{judged_accesses}
use Rattle.judge.specs.List.{list_check}
use Rattle.records.specs.declared.refusal.Refusal.TheVariants.{UnknownAccess}
use Rattle.rights.specs.declared.answers.Stop.TheVariants.{Faulted, Refused}
use Rattle.records.specs.Values.{on_leaf, refusal_number}
use Rattle.rights.specs.Answers.{Answer}
use Rattle.judge.specs.Answers.{Judgement}
use Rattle.judge.specs.Answers.{Listed}
use Rattle.records.specs.Values.{Check}
use Rattle.records.specs.declared.refusal.Refusal.{Refusal}

-- Demand 1: every setup, leaf and access gets one answer. It is allowed,
abbrev pub AllowedAnswer : Values → Type 0
AllowedAnswer v = (v.number ≡ 0) × (v.stage ≡ 0) × (v.kind ≡ 0) × (v.cause ≡ 0)

-- a named fault, which has a cause, byte and SH 0,
abbrev pub FaultAnswer : Values → Type 0
FaultAnswer v = (v.number ≡ 0) × (1 ≤ v.cause) × (v.byte ≡ 0) × (v.sh ≡ 0)

-- or a numbered refusal, 1 to 9 or 13, with stage, kind, cause, byte and SH 0. The three exclude each other: a refusal alone has a number, a fault alone a
-- cause.
abbrev pub RefusedAnswer : Values → Type 0
RefusedAnswer v =
    (((1 ≤ v.number) × (v.number ≤ 9)) ⊎ (v.number ≡ 13)) × (v.stage ≡ 0) × (v.kind ≡ 0) × (v.cause ≡ 0) × (v.byte ≡ 0) × (v.sh ≡ 0)

-- and of each the cause, one of request A1's fifteen, fixes stage and kind
abbrev pub Demand1 : Judgement → Type 0
Demand1 j =
    (AllowedAnswer (judgement_values j) ⊎ (FaultAnswer (judgement_values j) ⊎ RefusedAnswer (judgement_values j)))
    × CauseFixes (judgement_values j).stage (judgement_values j).kind (judgement_values j).cause

-- what each stage answers to access n; a stage that is off permits everything
abbrev pub stage1 : Setup → Leaf → ℕ → Answer
stage1 s f n = stage1_if s (stage1_of f.stage1) (limits_of f.limits) (access_at n)

abbrev pub stage2 : Setup → Leaf → ℕ → Answer
stage2 s f n = stage2_if s (stage2_of f.stage2) (access_at n)

-- the refusals that depend on the access: of the stages that it reaches, then, where it reaches them, 8, 8, 9
unfoldable pub access_refusal : Setup → Leaf → ℕ → Check
access_refusal s f n =
    check_then (refusal_of (stage1 s f n))
    (where_reached (stage1 s f n)
    (check_then (refusal_of (stage2 s f n))
    (where_reached (stage2 s f n) (check_of s (stage1_of f.stage1) (stage2_of f.stage2)))))

-- with one level only accesses 0 to 2 are judged
abbrev pub is_judged : Bool → ℕ → Bool
is_judged two n = leb n (cond two 5 2)

-- the first refusal that applies to access n, for the bytes b of a setup and c of a leaf, in the paper's order: 13, 1, 2, 3, 4, 5, those of the access
unfoldable pub first_refusal : List ℕ → List ℕ → ℕ → Check
first_refusal b c n =
    check_then (length_check b 52)
    (check_then (length_check c 18)
    (check_then (setup_check (setup_of b).control)
    (check_then (check_if (not (is_judged (setup_of b).control.two n)) UnknownAccess)
    (check_then (leaf_check (leaf_of c)) (access_refusal (setup_of b) (leaf_of c) n)))))

-- nothing is refused: none of 13, 1 to 5 applies, no stage that the access reaches refuses and, where it reaches them, none of 8, 8, 9 applies
abbrev pub NothingRefused : List ℕ → List ℕ → ℕ → Type 0
NothingRefused b c n = first_refusal b c n ≡ Ok tt

-- each stage that is on permits the access; and g is the first failing stage's fault
abbrev pub Permits : Setup → Leaf → ℕ → Type 0
Permits s f n = (stage1 s f n ≡ (Ok tt)) × (stage2 s f n ≡ (Ok tt))

abbrev pub FirstFault : Setup → Leaf → ℕ → Fault → Type 0
FirstFault s f n g =
    (stage1 s f n ≡ (Err (Faulted g))) ⊎ ((stage1 s f n ≡ (Ok tt)) × (stage2 s f n ≡ (Err (Faulted g))))

-- request A1: what took the access away. Stage 1's cause comes before stage 2's; 0 where both permit it
abbrev pub first_cause : Setup → Leaf → ℕ → ℕ
first_cause s f n = cond (permitted (stage1 s f n)) (cause_of (stage2 s f n)) (cause_of (stage1 s f n))

-- Demand 2 of the answer j to access n: where nothing is refused, it is allowed exactly when each stage that is on permits, with the combined memory type
-- and shareability, and otherwise the first failing stage's fault is named, with its cause; it is a refusal exactly where something is refused, with the
-- number of the first that applies.
pub record Demand2 (b c : List ℕ) (n : ℕ) (j : Judgement) : Type 0 where
  pub allowed : NothingRefused b c n → Permits (setup_of b) (leaf_of c) n
      → j ≡ Ok (memory_of (setup_of b) (stage1_of (leaf_of c).stage1) (stage2_of (leaf_of c).stage2) (fetches n))
  pub only_allowed : NothingRefused b c n → (m : Memory) → j ≡ Ok m → Permits (setup_of b) (leaf_of c) n
  pub faulted : NothingRefused b c n → (g : Fault) → FirstFault (setup_of b) (leaf_of c) n g → j ≡ Err (Faulted g)
  pub caused : NothingRefused b c n → (judgement_values j).cause ≡ first_cause (setup_of b) (leaf_of c) n
  pub refused : (k : Refusal) → first_refusal b c n ≡ Err k → j ≡ Err (Refused k)
  pub only_refused : (k : Refusal) → j ≡ (Err (Refused k)) → first_refusal b c n ≡ Err k

-- what the user demands of the answer j to access n
pub record JudgeDemands (b c : List ℕ) (n : ℕ) (j : Judgement) : Type 0 where
  pub one : Demand1 j
  pub right : Demand2 b c n j

-- The list. The refusals before its leaves: 13, 1, 2, 3, 11
abbrev pub start_refusal : List ℕ → List ℕ → List ℕ → List ℕ → Check
start_refusal b ls o c = check_then (length_check b 52) (list_check (setup_of b).control (length ls) (length o) (length c))

-- the refusal of a leaf: 5, then that of the lowest judged access that has one
unfoldable pub leaf_refusal : Setup → Leaf → Check
leaf_refusal s f = check_then (leaf_check f) (first_of (access_refusal s f) (judged_accesses s.control.two))

-- access a of a leaf is judged and allowed
abbrev pub rights_bit : Setup → Leaf → ℕ → Bool
rights_bit s f a = is_judged s.control.two a && (permitted (stage1 s f a) && permitted (stage2 s f a))

-- the numbers that a list is refused with: 1, 2, 3, 5 to 9, 11, 13
abbrev pub ListNumber : ℕ → Type 0
ListNumber k = ((1 ≤ k) × (k ≤ 3)) ⊎ (((5 ≤ k) × (k ≤ 9)) ⊎ ((k ≡ 11) ⊎ (k ≡ 13)))

-- Demands 1 and 2 of the answer r to a list, the output p and the causes q as they are left, for the bytes b of a setup, the leaves ls, the output o
-- and the causes c as they were lent. It is done exactly where the setup is accepted, 11 does not apply and no judged access of any leaf is refused: it then
-- answers the leaf count; bit a of byte i of the output is on exactly where access a of leaf i is judged and allowed; byte 6·i + a of the causes is the cause
-- of the judge's own answer to access a of leaf i; and later bytes keep their values. Otherwise the number and leaf are those of the first refusal in the
-- paper's order, and no lent byte changes.
pub record ListDemands (b ls o c : List ℕ) (r : Listed) (p q : List ℕ) : Type 0 where
  pub numbers : (k : Refusal) (i : ℕ) → r ≡ Err (on_leaf k i) → ListNumber (refusal_number k)
  pub kept : (k : Refusal) (i : ℕ) → r ≡ Err (on_leaf k i) → (p ≡ o) × (q ≡ c)
  pub size : (length p ≡ length o) × (length q ≡ length c)
  pub before : (k : Refusal) → start_refusal b ls o c ≡ Err k → r ≡ Err (on_leaf k 0)
  pub at_leaf : start_refusal b ls o c ≡ (Ok tt) → (k : Refusal) (i : ℕ) → i < leaf_count ls
      → ((j : ℕ) → j < i → leaf_refusal (setup_of b) (leaf_at ls j) ≡ (Ok tt)) → leaf_refusal (setup_of b) (leaf_at ls i) ≡ Err k
      → r ≡ Err (on_leaf k i)
  pub done : start_refusal b ls o c ≡ (Ok tt) → ((j : ℕ) → j < leaf_count ls → leaf_refusal (setup_of b) (leaf_at ls j) ≡ (Ok tt))
      → (r ≡ Ok (leaf_count ls))
      × ((i a : ℕ) → i < leaf_count ls → bit (get_or p i 0) a ≡ rights_bit (setup_of b) (leaf_at ls i) a)
      × (drop (leaf_count ls) p ≡ drop (leaf_count ls) o)
      × ((i a : ℕ) → i < leaf_count ls → a < 6 → get_or q (6 * i + a) 0 ≡ (judgement_values (judge_of b (leaf_slice ls i) a)).cause)
      × (drop (6 * leaf_count ls) q ≡ drop (6 * leaf_count ls) c)
