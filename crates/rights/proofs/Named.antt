-- Which faults and refusals there are: a stage gives a fault of its own, whose cause fixes its stage and kind, and refuses with 6 or 7; the checks of a setup give 1
-- to 3, that of a leaf 5. And 1 to 5 refuse an access, or the stages answer it. Each step is one of these, and the chain keeps it. Assumes nothing.
use mathlib.Core.Path.{◌≡◌, refl, ap, ◌∙◌}
use mathlib.Core.Bool.{Bool, true, false, cond, ◌&&◌, ◌||◌}
use mathlib.Core.Logic.{◌⊎◌, inl, inr}
use Prim.Native.Nat.{ℕ, ◌+◌, ◌-◌, ◌≤◌}
use native.Mathlib.Omega.{arith}
use lib.Dec.{leb, ltb}
use lib.ListN.{get_or}
use Rattle.records.proofs.Cases.{clash, at}
use Rattle.records.specs.Access.{access_at, has_right}
use Rattle.records.specs.Descriptor.{slot_at}
use Rattle.records.specs.Setup.{of_level}
use Rattle.records.specs.Values.{check_if, check_then}
use Rattle.records.specs.declared.access.Access.{Access}
use Rattle.records.specs.declared.access.Right.{Right}
use Rattle.records.specs.declared.descriptor.Limits.{Limits}
use Rattle.records.specs.declared.descriptor.Stage1.{Stage1}
use Rattle.records.specs.declared.descriptor.Stage2.{Stage2}
use Rattle.records.specs.declared.leaf.Leaf.{Leaf}
use Rattle.records.specs.declared.setup.Control.{Control}
use Rattle.records.specs.declared.setup.Setup.{Setup}
use Rattle.rights.specs.Answers.{kind_number, follow, fault_unless, refuse_if, answer_of, descriptor_answer}
use Rattle.rights.specs.Causes.{row, causes, CauseFixes}
use Rattle.rights.specs.Checks.{clash as clashes, unjudged, setup_check, access_check, leaf_check}
use Rattle.rights.specs.Order.{stage1_if, stage2_if, leaf_answer, after_access, rights_answer}
use Rattle.rights.specs.Overlay.{slot_rights, slot_answer}
use Rattle.rights.specs.Stage1.{dirty, reserved_base, unjudged_base, overlays_apply, base_answer, stage1_answer}
use Rattle.rights.specs.Stage2.{stage2_answer}
use Rattle.rights.specs.declared.answers.Fault.{Fault}
use Rattle.rights.specs.declared.answers.Kind.{Kind}
use Rattle.rights.specs.declared.answers.Kind.TheVariants.{Translation, AccessFlag, Permission, Overlay}
use Rattle.rights.proofs.Removers.{Removed, held, taken, base-removed, stage2-removed}
use Rattle.std.specs.Prelude.{Ok, Err}
use Rattle.records.specs.declared.refusal.Refusal.TheVariants.{ControlBits, Clash, WxnOrPan, UnknownAccess, LeafBits, ReservedCode, Unjudged}
use Rattle.rights.specs.declared.answers.Stop.TheVariants.{Faulted, Refused}
use Rattle.records.specs.Values.{Check}
use Rattle.rights.specs.Answers.{Answer}
use Rattle.records.specs.declared.refusal.Refusal.{Refusal}
use Rattle.records.specs.Values.{refusal_number}
use Rattle.rights.specs.declared.answers.Stage.TheVariants.{One, Two}
use Rattle.rights.specs.declared.answers.Stage.{Stage}
use Rattle.rights.specs.Answers.{stage_number}

-- the cause of a fault is one of the fourteen, and fixes its stage and kind
abbrev pub Caused : Fault → Type 0
Caused g = (1 ≤ g.cause) × CauseFixes (stage_number g.stage) (kind_number g.kind) g.cause

-- the answers that stage s has
pub data Named (s : Stage) : Answer → Type 0 where
  permits : Named s (Ok tt)
  faults : (g : Fault) → g.stage ≡ s → Caused g → Named s (Err (Faulted g))
  refuses : (n : Refusal) → (6 ≤ refusal_number n) × (refusal_number n ≤ 7) → Named s (Err (Refused n))

follows : {s : Stage} {x y : Answer} → Named s x → Named s y → Named s (follow x y)
follows permits q = q
follows (faults g e h) q = faults g e h
follows (refuses n h) q = refuses n h

picks : {s : Stage} (b : Bool) {x y : Answer} → Named s x → Named s y → Named s (cond b x y)
picks true p q = p
picks false p q = q

fault : (b : Bool) (s : Stage) (k : Kind) (c : ℕ) → (b ≡ false → (1 ≤ c) × CauseFixes (stage_number s) (kind_number k) c) → Named s (fault_unless b s k c)
fault true s k c h = permits
fault false s k c h = faults _ refl (h refl)

-- a right that a step takes away
permission : {lo hi c : ℕ} {b : Bool} (s : Stage) → ((n : ℕ) → lo ≤ n → n ≤ hi → (1 ≤ n) × CauseFixes (stage_number s) 3 n) → Removed lo hi b c → Named s (fault_unless b s Permission c)
permission s h held = permits
permission s h (taken c (p, q)) = faults _ refl (h c p q)

refusal : {s : Stage} (b : Bool) (n : Refusal) → (6 ≤ refusal_number n) × (refusal_number n ≤ 7) → Named s (refuse_if b n)
refusal true n h = refuses n h
refusal false n h = permits

descriptor : (s : Stage) (t a : ℕ) (v f d : Bool) → (1 ≤ t) × CauseFixes (stage_number s) 1 t → (1 ≤ a) × CauseFixes (stage_number s) 2 a → Named s (descriptor_answer s t a v f d)
descriptor s t a v f d p q = follows (fault v s Translation t (λ e. p)) (follows (fault f s AccessFlag a (λ e. q)) (refusal d Unjudged (omega arith)))

slot : (on : Bool) (v : ℕ) (r : Right) → Named One (slot_answer on v r)
slot on v r =
    picks on (follows (refusal (leb 8 v) ReservedCode (omega arith)) (fault (has_right (slot_rights v) r) One Overlay 8 (λ e. (omega arith, (omega arith, refl))))) permits

back : (n k : ℕ) → k ≤ n → n ≡ n - k + k
back n k h = omega arith

-- the rows of Permission faults
stage1-row : (n : ℕ) → 1 ≤ n → n ≤ 7 → get_or causes n (row 0 0) ≡ row 1 3
stage1-row n p q =
    ap (λ (k : ℕ). get_or causes k (row 0 0)) (back n 1 p) ∙ at 7 (λ (k : ℕ). get_or causes (k + 1) (row 0 0)) (λ (k : ℕ). row 1 3) refl (n - 1) (omega arith)

stage2-row : (n : ℕ) → 9 ≤ n → n ≤ 10 → get_or causes n (row 0 0) ≡ row 2 3
stage2-row n p q =
    ap (λ (k : ℕ). get_or causes k (row 0 0)) (back n 9 p) ∙ at 2 (λ (k : ℕ). get_or causes (k + 9) (row 0 0)) (λ (k : ℕ). row 2 3) refl (n - 9) (omega arith)

pub stage1-named : (s : Setup) (d : Stage1) (t : Limits) (a : Access) → Named One (stage1_if s d t a)
unfolding stage1_answer base_answer
stage1-named s d t a =
    picks s.control.stage1
    (follows (descriptor One 11 12 d.valid d.af (dirty s.control d) (omega arith, (omega arith, refl)) (omega arith, (omega arith, refl)))
    (follows (refusal (reserved_base s d) ReservedCode (omega arith))
    (follows (refusal (unjudged_base s d) Unjudged (omega arith))
    (follows (permission One (λ n p q. (p, (omega arith, stage1-row n p q))) (base-removed s d t a))
    (slot (of_level s.control.overlay a.level && of_level (overlays_apply s d) a.level) (slot_at (of_level s.por a.level) d.poindex) a.right)))))
    permits

pub stage2-named : (s : Setup) (e : Stage2) (a : Access) → Named Two (stage2_if s e a)
unfolding stage2_answer
stage2-named s e a =
    picks s.control.stage2
    (follows (descriptor Two 13 14 e.valid e.af e.bit51 (omega arith, (omega arith, refl)) (omega arith, (omega arith, refl)))
    (permission Two (λ n p q. (omega arith, (omega arith, stage2-row n p q))) (stage2-removed e a)))
    permits

-- the cause of an answer, 0 where there is no fault, fixes its stage and kind, 0 there too
abbrev pub Fixed : Answer → Type 0
Fixed (Ok u) = CauseFixes 0 0 0
Fixed (Err (Faulted g)) = CauseFixes (stage_number g.stage) (kind_number g.kind) g.cause
Fixed (Err (Refused n)) = CauseFixes 0 0 0

pub cause-fixes : {s : Stage} {x : Answer} → Named s x → Fixed x
cause-fixes permits = (omega arith, refl)
cause-fixes (faults g e h) = h.1
cause-fixes (refuses n h) = (omega arith, refl)

-- the numbers of the checks
pub setup-number : (c : Control) (k : Refusal) → setup_check c ≡ Err k → (1 ≤ refusal_number k) × (refusal_number k ≤ 3)
unfolding setup_check
setup-number c k = go c.above (clashes c) (unjudged c)
  where
    go : (x y z : Bool) → check_then (check_if x ControlBits) (check_then (check_if y Clash) (check_if z WxnOrPan)) ≡ Err k → (1 ≤ refusal_number k) × (refusal_number k ≤ 3)
    go true y z e = let f : ControlBits ≡ k = cc in rw (← f) (omega arith, omega arith)
    go false true z e = let f : Clash ≡ k = cc in rw (← f) (omega arith, omega arith)
    go false false true e = let f : WxnOrPan ≡ k = cc in rw (← f) (omega arith, omega arith)
    go false false false e = clash (cc)

pub leaf-number : (f : Leaf) (k : Refusal) → leaf_check f ≡ Err k → k ≡ LeafBits
unfolding leaf_check
leaf-number f k = go (ltb 15 f.limits || ltb 63 f.forbidden)
  where
    go : (x : Bool) → check_if x LeafBits ≡ Err k → k ≡ LeafBits
    go true e = cc
    go false e = clash (cc)

-- 1 to 5 refuse the access, or the stages answer it
abbrev Either : Setup → Leaf → ℕ → Answer → Type 0
Either s f n x = ((k : Refusal) × (x ≡ (Err (Refused k)))) ⊎ (x ≡ leaf_answer s f (access_at n))

after_check : (s : Setup) (f : Leaf) (n : ℕ) (y : Check) (x : Answer) → Either s f n x → Either s f n (follow (answer_of y) x)
after_check s f n (Ok u) x h = h
after_check s f n (Err k) x h = inl (k, refl)

after-access : (s : Setup) (f : Leaf) (n : ℕ) (two : Bool) → Either s f n (after_access s f (access_check two n))
unfolding access_check
after-access s f n two = go (leb n (cond two 5 2))
  where
    go : (b : Bool) → Either s f n (after_access s f (cond b (Ok (access_at n)) (Err UnknownAccess)))
    go true = after_check s f n (leaf_check f) (leaf_answer s f (access_at n)) (inr refl)
    go false = inl (UnknownAccess, refl)

pub stages-answer : (s : Setup) (f : Leaf) (n : ℕ)
    → ((k : Refusal) × (rights_answer s f n ≡ (Err (Refused k)))) ⊎ (rights_answer s f n ≡ leaf_answer s f (access_at n))
unfolding rights_answer
stages-answer s f n = after_check s f n (setup_check s.control) _ (after-access s f n s.control.two)
