-- The planner's answer, put in place of that level's POR, stops every forbidden access of that level in the judge's list; both levels' answers, put in place
-- at once, stop those of both. Assumes nothing.
use Rattle.records.proofs.Cases.{clash, upto, at}
use mathlib.Core.Path.{◌≡◌, refl, sym, ap, ◌∙◌}
use mathlib.Core.Bool.{Bool, true, false, cond, ◌&&◌}
use mathlib.Core.List.{List}
use Prim.Native.Nat.{ℕ, ◌/◌, ◌%◌, ◌^◌, ◌<◌}
use native.Mathlib.Omega.{arith}
use lib.Bits.{bit_and, and_shr, and_mod}
use lib.Dec.{eqb}
use lib.ListN.{length, get_or}
use borrow.Author.Tests.{eqb-true}
use Rattle.records.proofs.CheckLaws.{Ways, refused-before, refused-at, none-refused, ways}
use Rattle.records.specs.Access.{access_at, access_number, access_of}
use Rattle.records.specs.Bits.{bit}
use Rattle.records.specs.Leaf.{leaf_at, leaf_count}
use Rattle.records.specs.Setup.{setup_of, read_setup}
use Rattle.records.specs.declared.access.Level.{Level}
use Rattle.records.specs.declared.access.Level.TheVariants.{Privileged, Unprivileged}
use Rattle.records.specs.declared.access.Right.{Right}
use Rattle.records.specs.declared.leaf.Leaf.{Leaf}
use Rattle.records.specs.declared.setup.Setup.{Setup}
use Rattle.rights.proofs.OrderLaws.{stages-as}
use Rattle.rights.specs.Answers.{permitted, follow}
use Rattle.rights.specs.Order.{stages_answer, leaf_answer}
use Rattle.rights.specs.Promise.{put}
use Rattle.rights.specs.Stage1.{base_rights, base_cause, base_answer, stage1_answer}
use Rattle.judge.proofs.ListMet.{list-met}
use Rattle.judge.specs.Demands.{stage1, stage2, is_judged, start_refusal, leaf_refusal, rights_bit, ListDemands}
use Rattle.judge.specs.List.{list_of}
use Rattle.planner.proofs.Consequences.{access-number}
use Rattle.planner.proofs.Demands.{register-accepted}
use Rattle.planner.proofs.Theorem.{demand3}
use Rattle.planner.specs.Demands.{Accepted, Largest}
use Rattle.planner.specs.Plan.{plan_of, both_of}
use Rattle.separation.proofs.InPlace.{put-read}
use Rattle.separation.specs.Separation.{with_por, Stopped, Separated, answer_at, with_pors, BothSeparated}
use Rattle.std.specs.Prelude.{Ok, Err}
use Rattle.records.specs.declared.refusal.Refusal.TheVariants.{IllFormed}
use Rattle.rights.specs.declared.answers.Stop.TheVariants.{Faulted, Refused}
use Rattle.records.specs.Values.{Check}
use Rattle.rights.specs.Answers.{Answer}

-- a bit of two numbers joined
joined : (a b k : ℕ) → bit (bit_and a b) k ≡ (bit a k && bit b k)
joined a b k =
    rw (and_shr a b k, and_mod (a / 2 ^ k) (b / 2 ^ k) 1)
    (at 2 (λ (y : ℕ). eqb (bit_and (a / 2 ^ k % 2) y) 1) (λ (y : ℕ). eqb (a / 2 ^ k % 2) 1 && eqb y 1)
    (at 2 (λ (x : ℕ). upto 2 (λ (y : ℕ). eqb (bit_and x y) 1)) (λ (x : ℕ). upto 2 (λ (y : ℕ). eqb x 1 && eqb y 1)) refl (a / 2 ^ k % 2) (omega arith))
    (b / 2 ^ k % 2) (omega arith))

-- two bits that are not on together
off : (a b : Bool) → (a ≡ true → b ≡ true → ⊥) → (a && b) ≡ false
off true true h = absurd (h refl refl)
off true false h = refl
off false b h = refl

-- an access whose bit is on is permitted by the stages
both : (x y : Answer) → permitted (follow x y) ≡ (permitted x && permitted y)
both (Ok u) y = refl
both (Err (Faulted g)) y = refl
both (Err (Refused n)) y = refl

allowed : (t x : Bool) → (t && x) ≡ true → x ≡ true
allowed true x e = e
allowed false x e = clash (cc)

by-stages : (s : Setup) (f : Leaf) (n : ℕ) → rights_bit s f n ≡ true → permitted (leaf_answer s f (access_at n)) ≡ true
by-stages s f n e =
    ap permitted (stages-as s _ _ _ (access_at n) (stage1 s f n) refl)
    ∙ both (stage1 s f n) (stage2 s f n) ∙ allowed (is_judged s.control.two n) (permitted (stage1 s f n) && permitted (stage2 s f n)) e

-- a list that is done has a bit for each access of its leaves: its demands leave it no refusal
module _ (b ls o c : List ℕ) (m : ℕ) (d : (list_of b ls o c).answer ≡ Ok m) where
  abbrev R : ℕ → Check
  R j = leaf_refusal (setup_of b) (leaf_at ls j)

  demands : ListDemands b ls o c (list_of b ls o c).answer (list_of b ls o c).out (list_of b ls o c).causes
  demands = list-met b ls o c (list_of b ls o c).answer (list_of b ls o c).out (list_of b ls o c).causes (refl, refl, refl)

  done-bits : (i a : ℕ) → i < leaf_count ls → bit (get_or (list_of b ls o c).out i 0) a ≡ rights_bit (setup_of b) (leaf_at ls i) a
  done-bits i a h = go (ways (start_refusal b ls o c) R (leaf_count ls))
    where
      go : Ways (start_refusal b ls o c) R (leaf_count ls) → bit (get_or (list_of b ls o c).out i 0) a ≡ rights_bit (setup_of b) (leaf_at ls i) a
      go (refused-before k e) = let z = demands.before k e in clash (cc)
      go (refused-at k j e f) = let z = demands.at_leaf e k j f.within f.before f.refuses in clash (cc)
      go (none-refused e p) = (demands.done e p).1 i a h

-- bytes that are read as a setup are 52, and the setup is theirs
is_read : (b : List ℕ) (s : Setup) → read_setup b ≡ Ok s → (length b ≡ 52) × (s ≡ setup_of b)
unfolding read_setup
is_read b s = go (eqb (length b) 52) refl
  where
    go : (t : Bool) → eqb (length b) 52 ≡ t → cond t (Ok (setup_of b)) (Err IllFormed) ≡ Ok s → (length b ≡ 52) × (s ≡ setup_of b)
    go true q e = (eqb-true _ _ q, cc)
    go false q e = clash (cc)

-- the other level's POR plays no part in an access
own-por : (s : Setup) (r : Level → ℕ) (l : Level) (f : Leaf) (x : Right)
    → leaf_answer (put (put s Privileged (r Privileged)) Unprivileged (r Unprivileged)) f (access_of l x) ≡ leaf_answer (put s l (r l)) f (access_of l x)
unfolding stages_answer stage1_answer base_answer base_rights base_cause
own-por s r Privileged f x = refl
own-por s r Unprivileged f x = refl

-- a largest register of the setup of the bytes b
module _ (b ls o c : List ℕ) (s : Setup) (l : Level) (r : ℕ) (g : Largest s l ls r) where
  -- put in place in bytes that are read as a setup
  in-place : (v : List ℕ) (t : Setup) → read_setup v ≡ Ok t → read_setup (with_por v l r) ≡ Ok (put t l r)
  in-place v t q = let w = is_read v t q in rw w.1 (put-read v l r w.0 g.usable.word)

  -- under a setup that answers the accesses of that level as s with the register in place does, a list stops what that level forbids
  stops : (v : List ℕ) (t : Setup) (m : ℕ) → read_setup v ≡ Ok t
      → ((f : Leaf) (x : Right) → leaf_answer t f (access_of l x) ≡ leaf_answer (put s l r) f (access_of l x))
      → (list_of v ls o c).answer ≡ Ok m → Stopped l ls (list_of v ls o c).out
  stops v t m q same d i x h =
      let n = access_number l x in
      let p = (list_of v ls o c).out in
      let bits = rw (sym (is_read v t q).1) at (done-bits v ls o c m d i n h) in
      joined (get_or p i 0) (leaf_at ls i).forbidden n
      ∙ off (bit (get_or p i 0) n) (bit (leaf_at ls i).forbidden n)
      (λ on forbids. g.separates i h x forbids (rw (access-number l x, same (leaf_at ls i) x) at (by-stages t (leaf_at ls i) n (sym bits ∙ on))))

pub separated : (b : List ℕ) (lv : ℕ) (ls o c : List ℕ) → Separated b lv ls o c
separated b lv ls o c s l r m a e =
    let g = (demand3 b lv ls (plan_of b lv ls) refl s l a).largest r e in
    stops b ls o c s l r g (with_por b l r) (put s l r) m (in-place b ls o c s l r g b s a.read) (λ f x. refl)

-- the number of a level
abbrev number_at : Level → ℕ
number_at Privileged = 0
number_at Unprivileged = 1

-- what the planner answers both is accepted, and each register is the largest
both-accepted : (b ls : List ℕ) (l : Level) (r : ℕ) → answer_at (both_of b ls) l ≡ Ok r → Accepted b (number_at l) ls (setup_of b) l
unfolding both_of
both-accepted b ls Privileged r e = register-accepted b 0 ls r e
both-accepted b ls Unprivileged r e = register-accepted b 1 ls r e

both-largest : (b ls : List ℕ) (l : Level) (r : ℕ) → answer_at (both_of b ls) l ≡ Ok r → Largest (setup_of b) l ls r
unfolding both_of
both-largest b ls Privileged r e = (demand3 b 0 ls (plan_of b 0 ls) refl (setup_of b) Privileged (register-accepted b 0 ls r e)).largest r e
both-largest b ls Unprivileged r e = (demand3 b 1 ls (plan_of b 1 ls) refl (setup_of b) Unprivileged (register-accepted b 1 ls r e)).largest r e

pub both-separated : (b ls o c : List ℕ) → BothSeparated b ls o c
both-separated b ls o c r m e d l =
    let s = setup_of b in
    let g = λ (k : Level). both-largest b ls k (r k) (e k) in
    let p = in-place b ls o c s Privileged (r Privileged) (g Privileged) b s (both-accepted b ls Privileged (r Privileged) (e Privileged)).read in
    let q = in-place b ls o c s Unprivileged (r Unprivileged) (g Unprivileged) (with_por b Privileged (r Privileged)) (put s Privileged (r Privileged)) p in
    stops b ls o c s l (r l) (g l) (with_pors b r) _ m q (own-por s r l) d
