-- The word of a leaf gives the answer of each of its accesses: whether it refuses, whether it permits, and its cause. Each part of the word is a step of the
-- order in which a judgement is made. Assumes nothing.
use mathlib.Core.Path.{◌≡◌, refl, sym, ap, ◌∙◌}
use mathlib.Core.Bool.{Bool, true, false, cond, not, ◌&&◌, ◌||◌, and-true, and_assoc}
use mathlib.Core.List.{List, [], ◌∷◌}
use Prim.Native.Nat.{ℕ, ◌%◌}
use native.Mathlib.Omega.{arith}
use lib.Dec.{leb, ltb}
use lib.ListN.{length, get_or}
use Rattle.records.proofs.Cases.{Tree, tree, each}
use Rattle.records.specs.Access.{access_of, six, has, has_right}
use Rattle.records.specs.Descriptor.{code_at, slot_at}
use Rattle.records.specs.Setup.{of_level}
use Rattle.records.specs.declared.access.Access.{Access}
use Rattle.records.specs.declared.access.Level.{Level}
use Rattle.records.specs.declared.access.Level.TheVariants.{Privileged, Unprivileged}
use Rattle.records.specs.declared.access.Right.{Right}
use Rattle.records.specs.declared.access.Right.TheVariants.{Read, Write, Execute}
use Rattle.records.specs.declared.access.Rights.{Rights}
use Rattle.records.specs.declared.descriptor.Limits.{Limits}
use Rattle.records.specs.declared.descriptor.Stage1.{Stage1}
use Rattle.records.specs.declared.descriptor.Stage2.{Stage2}
use Rattle.records.specs.declared.setup.PerLevel.{PerLevel}
use Rattle.records.specs.declared.setup.Setup.{Setup}
use Rattle.rights.specs.Answers.{follow, fault_unless, refuse_if, descriptor_answer}
use Rattle.rights.specs.Direct.{ap as ap_of, ap_one, limited, ap_table, execute_never, unprivileged_write, wxn, pan, direct_steps}
use Rattle.rights.specs.Indirect.{Meaning, grants, reserved, unjudged, meanings, fields, code_of, codes_at, reserved_code, unjudged_code, code_rights, code_overlays}
use Rattle.rights.specs.Mirror.Agreement.{Agrees, refused_codes, refuses_in}
use Rattle.rights.specs.Mirror.Parts.{code_part, code_if, indirect_word, base_word, stages_word}
use Rattle.rights.specs.Mirror.Parts.{executes, state_part, off_part, descriptor_part, limits_part, last_part, slot_part, slot_if, stage2_word, slots_word, direct_word, descriptor_of, limits_part_of}
use Rattle.rights.specs.Mirror.Words.{Word, joined}
use Rattle.rights.specs.Order.{stage2_if, stages_answer}
use Rattle.rights.specs.Overlay.{slot_rights, slot_answer, overlay_answer}
use Rattle.rights.specs.Stage1.{dirty, base_rights, base_cause, base_answer, stage1_answer}
use Rattle.rights.specs.Stage2.{xn_px, xn_ux, stage2_rights, stage2_cause, stage2_answer}
use Rattle.rights.specs.Steps.{Step, step, fixed, everything, left_after, first_remover}
use Rattle.rights.specs.declared.indirect.Code.{Code}
use Rattle.rights.specs.declared.answers.Kind.{Kind}
use Rattle.rights.specs.declared.answers.Kind.TheVariants.{Permission, Overlay}
use Rattle.std.specs.Prelude.{Ok, Err}
use Rattle.records.specs.declared.refusal.Refusal.TheVariants.{ReservedCode, Unjudged}
use Rattle.rights.specs.declared.answers.Stop.TheVariants.{Faulted, Refused}
use Rattle.rights.specs.Answers.{Answer}
use Rattle.rights.specs.declared.answers.Stage.TheVariants.{One, Two}
use Rattle.rights.specs.declared.answers.Stage.{Stage}

-- a rule over truth values at every access, computed
abbrev trees : {A : Type 0} → ℕ → (Level → Right → List Bool → A) → List (Tree A)
trees n f =
    tree n (f Privileged Read) ∷ tree n (f Privileged Write) ∷ tree n (f Privileged Execute) ∷
    tree n (f Unprivileged Read) ∷ tree n (f Unprivileged Write) ∷ tree n (f Unprivileged Execute) ∷ []

at-access : {A : Type 0} (m : List Bool) (f g : Level → Right → List Bool → A) → trees (length m) f ≡ trees (length m) g → (l : Level) (x : Right) → f l x m ≡ g l x m
at-access {A} m f g e l x = each m (f l x) (g l x) (pick l x)
  where
    nth : ℕ → List (Tree A) → Tree A
    nth k t = get_or t k (tree (length m) (f Privileged Read))

    pick : (l : Level) (x : Right) → tree (length m) (f l x) ≡ tree (length m) (g l x)
    pick Privileged Read = ap (nth 0) e
    pick Privileged Write = ap (nth 1) e
    pick Privileged Execute = ap (nth 2) e
    pick Unprivileged Read = ap (nth 3) e
    pick Unprivileged Write = ap (nth 4) e
    pick Unprivileged Execute = ap (nth 5) e

follow-follow : (a b c : Answer) → follow (follow a b) c ≡ follow a (follow b c)
follow-follow (Ok u) b c = refl
follow-follow (Err (Faulted g)) b c = refl
follow-follow (Err (Refused n)) b c = refl

-- a step that faults unless k, before what follows
fault-step : (k : Bool) (s : Stage) (κ : Kind) (n : ℕ) (y : Answer) (r p : Bool) (c : ℕ) → Agrees y r p c
    → Agrees (follow (fault_unless k s κ n) y) (k && r) (k && p) (cond k c n)
fault-step true s κ n y r p c h = h
fault-step false s κ n y r p c h = (refl, refl, refl)

-- valid, AF and dirty state
state-step : (s : Stage) (t f : ℕ) (v a d : Bool) (y : Answer) (r p : Bool) (c : ℕ) → Agrees y r p c
    → Agrees (follow (descriptor_answer s t f v a d) y) (((v && a) && d) || ((v && a) && r)) ((v && a) && p) (cond (v && a) c (cond v f t))
state-step s t f false a d y r p c h = (refl, refl, refl)
state-step s t f true false d y r p c h = (refl, refl, refl)
state-step s t f true true true y r p c h = refl
state-step s t f true true false y r p c h = h

-- a slot
slot_step : (on : Bool) (v : ℕ) (x : Right) (y : Answer) (r p : Bool) (c : ℕ) → Agrees y r p c
    → let k = not (leb 8 (cond on v 7)) && has_right (slot_rights (cond on v 7)) x in
    Agrees (follow (slot_answer on v x) y) (leb 8 (cond on v 7) || (k && r)) (k && p) (cond k c 8)
slot_step false v Read y r p c h = h
slot_step false v Write y r p c h = h
slot_step false v Execute y r p c h = h
slot_step true v x y r p c h = go (leb 8 v) (has_right (slot_rights v) x)
  where
    go : (b g : Bool) → Agrees (follow (follow (refuse_if b ReservedCode) (fault_unless g One Overlay 8)) y) (b || ((not b && g) && r)) ((not b && g) && p) (cond (not b && g) c 8)
    go true g = refl
    go false true = h
    go false false = (refl, refl, refl)

-- base codes and what they refuse, where `bad` is that one of two refusals is met
codes-step : (x y bad k : Bool) (n : ℕ) (z : Answer) (r p : Bool) (c : ℕ) → (x || y) ≡ bad → Agrees z r p c
    → Agrees (follow (refuse_if x ReservedCode) (follow (refuse_if y Unjudged) (follow (fault_unless k One Permission n) z))) (bad || (k && r)) (k && p) (cond k c n)
codes-step true y bad k n z r p c e h = rw (← e)
codes-step false true bad k n z r p c e h = rw (← e)
codes-step false false bad k n z r p c e h = rw (← e) (fault-step k One Permission n z r p c h)

-- stage 2
abbrev stage2_by : Bool → Bool → Bool → Bool → List Step
stage2_by r w px ux = fixed 9 (six r w true r w true) ∷ fixed 10 (six true true px true true ux) ∷ []

stage2-fault : (l : Level) (x : Right) (r w px ux : Bool)
    → fault_unless (has (left_after everything (stage2_by r w px ux)) (access_of l x)) Two Permission (first_remover (access_of l x) everything (stage2_by r w px ux))
    ≡ fault_unless (has (six r w px r w ux) (access_of l x)) Two Permission (cond (executes x) 10 9)
stage2-fault l x r w px ux = at-access (r ∷ w ∷ px ∷ ux ∷ []) f g refl l x
  where
    f : Level → Right → List Bool → Answer
    f l x m = let s = stage2_by (get_or m 0 false) (get_or m 1 false) (get_or m 2 false) (get_or m 3 false) in
        fault_unless (has (left_after everything s) (access_of l x)) Two Permission (first_remover (access_of l x) everything s)

    g : Level → Right → List Bool → Answer
    g l x m =
        fault_unless (has (six (get_or m 0 false) (get_or m 1 false) (get_or m 2 false) (get_or m 0 false) (get_or m 1 false) (get_or m 3 false)) (access_of l x)) Two Permission (cond (executes x) 10 9)

stage2-agrees : (on : Bool) (e : Stage2) (l : Level) (x : Right) → let w = stage2_word on e in let a = access_of l x in
    Agrees (cond on (stage2_answer e a) (Ok tt)) (w.meets a) (w.right a) (w.cause a)
unfolding stage2_answer stage2_rights stage2_cause
stage2-agrees false e l x = (refl, refl, refl)
stage2-agrees true e l x =
    rw (stage2-fault l x e.read e.write (xn_px e.xn) (xn_ux e.xn))
    (state-step Two 13 14 e.valid e.af e.bit51 _ _ _ _ (last (has (six e.read e.write (xn_px e.xn) e.read e.write (xn_ux e.xn)) (access_of l x)) (cond (executes x) 10 9)))
  where
    last : (k : Bool) (n : ℕ) → Agrees (fault_unless k Two Permission n) (false || (k && false)) (k && true) (cond k 0 n)
    last true n = (refl, refl, refl)
    last false n = (refl, refl, refl)

-- the overlay, where p and u are whether it applies to the base rights of either level
slots-agrees : (s : Setup) (d : Stage1) (p u : Bool) (w : Word) (y : Answer) (l : Level) (x : Right) → let z = slots_word s d p u w in let a = access_of l x in
    Agrees y (w.meets a) (w.right a) (w.cause a)
    → Agrees (follow (overlay_answer s d (record { privileged = p; unprivileged = u }) a) y) (z.meets a) (z.right a) (z.cause a)
slots-agrees s d p u w y l x h = rw (low s.por.privileged, low s.por.unprivileged) (go s.control.overlay.privileged s.control.overlay.unprivileged l h)
  where
    low : (r : ℕ) → slot_at r d.poindex % 16 ≡ slot_at r d.poindex
    low r = omega arith

    slots : Bool → Bool → Word
    slots b c =
        cond (b || c) (joined (slot_part Privileged (cond (b && p) (slot_at s.por.privileged d.poindex) 7))
        (joined (slot_part Unprivileged (cond (c && u) (slot_at s.por.unprivileged d.poindex) 7)) w)) w

    step_of : (l : Level) (on : Bool) → let a = access_of l x in let v = slot_at (of_level s.por l) d.poindex in Agrees y (w.meets a) (w.right a) (w.cause a)
        → let k = not (leb 8 (cond on v 7)) && has_right (slot_rights (cond on v 7)) x in
        Agrees (follow (slot_answer on v x) y) (leb 8 (cond on v 7) || (k && w.meets a)) (k && w.right a) (cond k (w.cause a) 8)
    step_of l on h = slot_step on (slot_at (of_level s.por l) d.poindex) x y (w.meets (access_of l x)) (w.right (access_of l x)) (w.cause (access_of l x)) h

    go : (b c : Bool) (l : Level) → let z = slots b c in let a = access_of l x in Agrees y (w.meets a) (w.right a) (w.cause a)
        → Agrees (follow (slot_answer (of_level (record { privileged = b; unprivileged = c }) l && of_level (record { privileged = p; unprivileged = u }) l) (slot_at (of_level s.por l) d.poindex) x) y)
        (z.meets a) (z.right a) (z.cause a)
    go false false Privileged h = h
    go false false Unprivileged h = h
    go true c Privileged h = step_of Privileged p h
    go true c Unprivileged h = step_of Unprivileged (c && u) h
    go false true Privileged h = step_of Privileged false h
    go false true Unprivileged h = step_of Unprivileged u h

-- Direct: the steps in the order of the causes, and the parts
module _ (w p ap2 ap1 pxn uxn t1 t0 pt ut : Bool) where
  abbrev two_by : List Step
  two_by =
      fixed 1 (ap_of ap2 ap1) ∷ fixed 2 (ap_table t1 t0) ∷ fixed 3 (execute_never pxn uxn) ∷ fixed 4 (execute_never pt ut) ∷
      step 5 (λ (r : Rights). unprivileged_write r.uw) ∷ step 6 (wxn w) ∷ step 7 (pan p) ∷ []

  abbrev one_by : List Step
  one_by = fixed 1 (ap_one ap2) ∷ fixed 2 (ap_table t1 false) ∷ fixed 3 (execute_never uxn false) ∷ fixed 4 (execute_never ut false) ∷ step 6 (wxn w) ∷ []

  -- what the parts leave of an access, where c is the cause of what follows
  module _ (two : Bool) (c : ℕ) (l : Level) (x : Right) where
    abbrev parts : Word
    parts =
        direct_word w p (descriptor_part two ap1 ap2 pxn uxn) (limits_part two t0 t1 pt ut)
        (record { right = λ (a : Access). true; meets = λ (a : Access). false; cause = λ (a : Access). c; codes = λ (j : ℕ). true; known = true })

    abbrev parts_leave : Bool × ℕ
    parts_leave = (parts.right (access_of l x), parts.cause (access_of l x))

abbrev steps_leave : List Step → ℕ → Level → Right → Bool × ℕ
steps_leave s c l x = let a = access_of l x in let h = has (left_after everything s) a in (h, cond h c (first_remover a everything s))

-- each access by the truth values that count for it
direct-two : (w p ap2 ap1 pxn uxn t1 t0 pt ut : Bool) (c : ℕ) (l : Level) (x : Right)
    → steps_leave (two_by w p ap2 ap1 pxn uxn t1 t0 pt ut) c l x ≡ parts_leave w p ap2 ap1 pxn uxn t1 t0 pt ut true c l x
unfolding ap_of
direct-two w p ap2 ap1 pxn uxn t1 t0 pt ut c = go
  where
    b : List Bool → ℕ → Bool
    b m k = get_or m k false

    -- reads and writes: AP, APTable and PAN
    steps : Level → Right → List Bool → Bool × ℕ
    steps l x m = steps_leave (two_by w (b m 4) (b m 0) (b m 1) pxn uxn (b m 2) (b m 3) pt ut) c l x

    parts-of : Level → Right → List Bool → Bool × ℕ
    parts-of l x m = parts_leave w (b m 4) (b m 0) (b m 1) pxn uxn (b m 2) (b m 3) pt ut true c l x

    -- execution: AP, APTable, WXN, and the level's PXN or UXN and their tables
    px-steps : List Bool → Bool × ℕ
    px-steps m = steps_leave (two_by (b m 4) p (b m 0) (b m 1) (b m 5) uxn (b m 2) (b m 3) (b m 6) ut) c Privileged Execute

    px-parts : List Bool → Bool × ℕ
    px-parts m = parts_leave (b m 4) p (b m 0) (b m 1) (b m 5) uxn (b m 2) (b m 3) (b m 6) ut true c Privileged Execute

    ux-steps : List Bool → Bool × ℕ
    ux-steps m = steps_leave (two_by (b m 4) p (b m 0) (b m 1) pxn (b m 5) (b m 2) (b m 3) pt (b m 6)) c Unprivileged Execute

    ux-parts : List Bool → Bool × ℕ
    ux-parts m = parts_leave (b m 4) p (b m 0) (b m 1) pxn (b m 5) (b m 2) (b m 3) pt (b m 6) true c Unprivileged Execute

    go : (l : Level) (x : Right) → steps_leave (two_by w p ap2 ap1 pxn uxn t1 t0 pt ut) c l x ≡ parts_leave w p ap2 ap1 pxn uxn t1 t0 pt ut true c l x
    go Privileged Read = each (ap2 ∷ ap1 ∷ t1 ∷ t0 ∷ p ∷ []) (steps Privileged Read) (parts-of Privileged Read) refl
    go Privileged Write = each (ap2 ∷ ap1 ∷ t1 ∷ t0 ∷ p ∷ []) (steps Privileged Write) (parts-of Privileged Write) refl
    go Privileged Execute = each (ap2 ∷ ap1 ∷ t1 ∷ t0 ∷ w ∷ pxn ∷ pt ∷ []) px-steps px-parts refl
    go Unprivileged Read = each (ap2 ∷ ap1 ∷ t1 ∷ t0 ∷ p ∷ []) (steps Unprivileged Read) (parts-of Unprivileged Read) refl
    go Unprivileged Write = each (ap2 ∷ ap1 ∷ t1 ∷ t0 ∷ p ∷ []) (steps Unprivileged Write) (parts-of Unprivileged Write) refl
    go Unprivileged Execute = each (ap2 ∷ ap1 ∷ t1 ∷ t0 ∷ w ∷ uxn ∷ ut ∷ []) ux-steps ux-parts refl

direct-one : (w p ap2 ap1 pxn uxn t1 t0 pt ut : Bool) (c : ℕ) (l : Level) (x : Right)
    → steps_leave (one_by w p ap2 ap1 pxn uxn t1 t0 pt ut) c l x ≡ parts_leave w p ap2 ap1 pxn uxn t1 t0 pt ut false c l x
direct-one w p ap2 ap1 pxn uxn t1 t0 pt ut c l x = at-access (w ∷ ap2 ∷ uxn ∷ t1 ∷ ut ∷ p ∷ []) f g refl l x
  where
    b : List Bool → ℕ → Bool
    b m k = get_or m k false

    f : Level → Right → List Bool → Bool × ℕ
    f l x m = steps_leave (one_by (b m 0) (b m 5) (b m 1) ap1 pxn (b m 2) (b m 3) t0 pt (b m 4)) c l x

    g : Level → Right → List Bool → Bool × ℕ
    g l x m = parts_leave (b m 0) (b m 5) (b m 1) ap1 pxn (b m 2) (b m 3) t0 pt (b m 4) false c l x

direct-leaves : (s : Setup) (d : Stage1) (t : Limits) (c : ℕ) (l : Level) (x : Right)
    → steps_leave (direct_steps s.control d t) c l x
    ≡ parts_leave s.control.wxn s.control.pan d.ap2 d.ap1 d.pxn d.uxn (limited s.control t.aptable1) (limited s.control t.aptable0)
    (limited s.control t.pxntable) (limited s.control t.uxntable) s.control.two c l x
unfolding direct_steps
direct-leaves s d t c l x = go s.control.two
  where
    w : Bool
    w = s.control.wxn

    p : Bool
    p = s.control.pan

    lim : Bool → Bool
    lim = limited s.control

    go : (two : Bool)
        → steps_leave (cond two (two_by w p d.ap2 d.ap1 d.pxn d.uxn (lim t.aptable1) (lim t.aptable0) (lim t.pxntable) (lim t.uxntable))
        (one_by w p d.ap2 d.ap1 d.pxn d.uxn (lim t.aptable1) (lim t.aptable0) (lim t.pxntable) (lim t.uxntable))) c l x
        ≡ parts_leave w p d.ap2 d.ap1 d.pxn d.uxn (lim t.aptable1) (lim t.aptable0) (lim t.pxntable) (lim t.uxntable) two c l x
    go true = direct-two w p d.ap2 d.ap1 d.pxn d.uxn (lim t.aptable1) (lim t.aptable0) (lim t.pxntable) (lim t.uxntable) c l x
    go false = direct-one w p d.ap2 d.ap1 d.pxn d.uxn (lim t.aptable1) (lim t.aptable0) (lim t.pxntable) (lim t.uxntable) c l x

three-keep : (a b c m : Bool) → ((a && (b && (c && true))) && m) ≡ (a && (b && (c && m)))
three-keep true true true m = refl
three-keep true true false m = refl
three-keep true false c m = refl
three-keep false b c m = refl

-- one cause for what either of two parts takes away
one-cause : (g a b : Bool) (c n : ℕ) → g ≡ (a && b) → cond g 0 1 ≡ n → cond g c n ≡ cond a (cond b c 1) 1
one-cause g a b c n e f = rw (← f, e) (go a b)
  where
    go : (a b : Bool) → cond (a && b) c (cond (a && b) 0 1) ≡ cond a (cond b c 1) 1
    go true true = refl
    go true false = refl
    go false b = refl

-- what was shown, with other words for the same
same-lane : (z : Answer) (r p r' p' : Bool) (c c' : ℕ) → r ≡ r' → p ≡ p' → c ≡ c' → Agrees z r p c → Agrees z r' p' c'
same-lane z r p r' p' c c' e f g h = rw (← e, ← f, ← g) h

-- overlays apply to codes 0 to 7
code-overlay : (n : ℕ) → (code_of n).overlay ≡ ltb (n % 16) 8
unfolding code_of
code-overlay n = go (get_or meanings (n % 16) Meaning.reserved) (ltb (n % 16) 8)
  where
    go : (m : Meaning) (o : Bool) → (fields m o).overlay ≡ o
    go (grants r w x) o = refl
    go reserved o = refl
    go unjudged o = refl

-- what refuses a pair of codes, by the definition and by the parts
codes-refused : (two rp up xp ru uu wu : Bool)
    → ((rp || two && ru) || (up || two && uu || xp && (two && wu))) ≡ (((rp || up) && (true && true)) || ((true && ((two && ru || two && uu) && true)) || (xp && ((two && wu) && true))))
codes-refused two rp up xp ru uu wu =
    each (two ∷ rp ∷ up ∷ xp ∷ ru ∷ uu ∷ wu ∷ []) (λ (m : List Bool). (b m 1 || b m 0 && b m 4) || (b m 2 || b m 0 && b m 5 || b m 3 && (b m 0 && b m 6)))
    (λ (m : List Bool). ((b m 1 || b m 2) && (true && true)) || ((true && ((b m 0 && b m 4 || b m 0 && b m 5) && true)) || (b m 3 && ((b m 0 && b m 6) && true)))) refl
  where
    b : List Bool → ℕ → Bool
    b m k = get_or m k false

module _ (s : Setup) (d : Stage1) (t : Limits) (l : Level) (x : Right) (y : Answer) (w : Word) (h : Agrees y (w.meets (access_of l x)) (w.right (access_of l x)) (w.cause (access_of l x))) where
  abbrev a : Access
  a = access_of l x

  abbrev both : PerLevel Bool
  both = record { privileged = true; unprivileged = true }

  -- Direct, where the overlay applies at both levels
  direct-agrees : let z = direct_word s.control.wxn s.control.pan (descriptor_of s.control d) (limits_part_of s.control t) (slots_word s d true true w) in
      Agrees (follow (follow (fault_unless (has (left_after everything (direct_steps s.control d t)) a) One Permission (first_remover a everything (direct_steps s.control d t)))
      (overlay_answer s d both a)) y) (z.meets a) (z.right a) (z.cause a)
  direct-agrees =
      let o = slots_word s d true true w in
      let first = descriptor_of s.control d in let second = limits_part_of s.control t in
      let last = last_part (first.keeps (access_of Privileged Write) && second.keeps (access_of Privileged Write)) s.control.wxn
      (first.keeps (access_of Unprivileged Read) && second.keeps (access_of Unprivileged Read)) s.control.pan in
      let k = has (left_after everything (direct_steps s.control d t)) a in
      let e = direct-leaves s d t (o.cause a) l x in
      let kept : (m : Bool) → (k && m) ≡ (first.keeps a && (second.keeps a && (last.keeps a && m))) =
      λ (m : Bool). ap (λ (q : Bool × ℕ). q.0 && m) e ∙ three-keep (first.keeps a) (second.keeps a) (last.keeps a) m in
      let n = first_remover a everything (direct_steps s.control d t) in
      rw (follow-follow (fault_unless k One Permission n) (overlay_answer s d both a) y)
      (same-lane (follow (fault_unless k One Permission n) (follow (overlay_answer s d both a) y)) _ _ _ _ _ _ (kept (o.meets a)) (kept (o.right a)) (ap (λ (q : Bool × ℕ). q.1) e)
      (fault-step k One Permission n (follow (overlay_answer s d both a) y) (o.meets a) (o.right a) (o.cause a)
      (slots-agrees s d true true w y l x h)))

  module _ (whole-codes : (j : ℕ) → w.codes j ≡ true) where
    slots-codes : (p u : Bool) (j : ℕ) → (slots_word s d p u w).codes j ≡ true
    slots-codes p u j = go (s.control.overlay.privileged || s.control.overlay.unprivileged)
      where
        v : Word
        v = joined (slot_part Privileged (slot_if (s.control.overlay.privileged && p) (slot_at s.por.privileged d.poindex)))
            (joined (slot_part Unprivileged (slot_if (s.control.overlay.unprivileged && u) (slot_at s.por.unprivileged d.poindex))) w)

        go : (b : Bool) → (cond b v w).codes j ≡ true
        go true = whole-codes j
        go false = whole-codes j

    -- Indirect
    abbrev cp : Code
    cp = code_of (code_at s.pir.privileged d.piindex)

    abbrev cu : Code
    cu = code_of (code_at s.pir.unprivileged d.piindex)

    abbrev pair : PerLevel Code
    pair = record { privileged = cp; unprivileged = cu }

    abbrev grants_by : Bool → List Step
    grants_by two = fixed 1 (code_rights two pair) ∷ []

    -- the unprivileged code that counts
    abbrev counts : Bool → Code
    counts two = code_of (code_if two (code_at s.pir.unprivileged d.piindex))

    counts-two : counts true ≡ cu
    counts-two = ap code_of (low s.pir.unprivileged)
      where
        low : (r : ℕ) → code_at r d.piindex % 16 ≡ code_at r d.piindex
        low r = omega arith

    kept_by : (two : Bool) → has (left_after everything (grants_by two)) a ≡ ((code_part Privileged cp).keeps a && (code_part Unprivileged (counts two)).keeps a)
    unfolding code_of
    kept_by true = rw counts-two (go l x)
      where
        go : (l : Level) (x : Right) → has (left_after everything (grants_by true)) (access_of l x) ≡ ((code_part Privileged cp).keeps (access_of l x) && (code_part Unprivileged cu).keeps (access_of l x))
        go Privileged Read = sym (and-true cp.read)
        go Privileged Write = sym (and-true cp.write)
        go Privileged Execute = sym (and-true cp.execute)
        go Unprivileged Read = refl
        go Unprivileged Write = refl
        go Unprivileged Execute = refl
    kept_by false = go l x
      where
        go : (l : Level) (x : Right) → has (left_after everything (grants_by false)) (access_of l x) ≡ ((code_part Privileged cp).keeps (access_of l x) && (code_part Unprivileged (code_of 0)).keeps (access_of l x))
        go Privileged Read = sym (and-true cp.read)
        go Privileged Write = sym (and-true cp.write)
        go Privileged Execute = sym (and-true cp.execute)
        go Unprivileged Read = refl
        go Unprivileged Write = refl
        go Unprivileged Execute = refl

    -- what refuses the codes
    abbrev codes_of : Bool → Word
    codes_of two =
        joined (code_part Privileged cp) (joined (code_part Unprivileged (counts two))
        (slots_word s d (ltb (code_at s.pir.privileged d.piindex) 8) (ltb (code_at s.pir.unprivileged d.piindex) 8) w))

    refused-by : (two : Bool) → (reserved_code two pair || unjudged_code two pair) ≡ refused_codes (codes_of two)
    unfolding code_of
    refused-by two =
        let o = slots-codes (ltb (code_at s.pir.privileged d.piindex) 8) (ltb (code_at s.pir.unprivileged d.piindex) 8) in
        rw (o 0, o 1, o 2) (go two)
      where
        go : (two : Bool)
            → ((cp.reserved || two && cu.reserved) || (cp.unjudged || two && cu.unjudged || cp.execute && (two && cu.write)))
            ≡ (((cp.reserved || cp.unjudged) && (true && true)) || ((true && (((counts two).reserved || (counts two).unjudged) && true)) || (cp.execute && ((counts two).write && true))))
        go true = rw counts-two (codes-refused true cp.reserved cp.unjudged cp.execute cu.reserved cu.unjudged cu.write)
        go false = codes-refused false cp.reserved cp.unjudged cp.execute cu.reserved cu.unjudged cu.write

    indirect-agrees : (two : Bool) → let z = codes_of two in
        Agrees (follow (follow (refuse_if (reserved_code two pair) ReservedCode) (follow (refuse_if (unjudged_code two pair) Unjudged)
        (follow (fault_unless (has (left_after everything (grants_by two)) a) One Permission (first_remover a everything (grants_by two))) (overlay_answer s d (code_overlays pair) a)))) y)
        (refuses_in z a) (z.right a) (z.cause a)
    indirect-agrees two =
        let v = overlay_answer s d (code_overlays pair) a in
        let o = slots_word s d (ltb (code_at s.pir.privileged d.piindex) 8) (ltb (code_at s.pir.unprivileged d.piindex) 8) w in
        let g = has (left_after everything (grants_by two)) a in
        let n = first_remover a everything (grants_by two) in
        let kept : (m : Bool) → (g && m) ≡ ((code_part Privileged cp).keeps a && ((code_part Unprivileged (counts two)).keeps a && m)) =
        λ (m : Bool). ap (λ (b : Bool). b && m) (kept_by two) ∙ and_assoc ((code_part Privileged cp).keeps a) ((code_part Unprivileged (counts two)).keeps a) m in
        let overlaid : Agrees (follow v y) (o.meets a) (o.right a) (o.cause a) =
        rw (code-overlay (code_at s.pir.privileged d.piindex), code-overlay (code_at s.pir.unprivileged d.piindex), low s.pir.privileged, low s.pir.unprivileged)
        (slots-agrees s d (ltb (code_at s.pir.privileged d.piindex) 8) (ltb (code_at s.pir.unprivileged d.piindex) 8) w y l x h) in
        rw (
          follow-follow (refuse_if (reserved_code two pair) ReservedCode) (follow (refuse_if (unjudged_code two pair) Unjudged) (follow (fault_unless g One Permission n) v)) y,
          follow-follow (refuse_if (unjudged_code two pair) Unjudged) (follow (fault_unless g One Permission n) v) y,
          follow-follow (fault_unless g One Permission n) v y,
        )
        (same-lane (follow (refuse_if (reserved_code two pair) ReservedCode) (follow (refuse_if (unjudged_code two pair) Unjudged) (follow (fault_unless g One Permission n) (follow v y)))) _ _ _ _ _ _
        (ap (λ (m : Bool). refused_codes (codes_of two) || m) (kept (o.meets a))) (kept (o.right a)) (one-cause g ((code_part Privileged cp).keeps a) ((code_part Unprivileged (counts two)).keeps a) (o.cause a) n (kept_by two) refl)
        (codes-step (reserved_code two pair) (unjudged_code two pair) (refused_codes (codes_of two)) g n (follow v y) (o.meets a) (o.right a) (o.cause a) (refused-by two) overlaid))
      where
        low : (r : ℕ) → code_at r d.piindex % 16 ≡ code_at r d.piindex
        low r = omega arith

    -- from the base codes on
    base_agrees : let z = base_word s d t w in Agrees (follow (base_answer s d t a) y) (refuses_in z a) (z.right a) (z.cause a)
    unfolding base_answer base_rights base_cause codes_at
    base_agrees = go s.control.indirect
      where
        direct : Word
        direct = direct_word s.control.wxn s.control.pan (descriptor_of s.control d) (limits_part_of s.control t) (slots_word s d true true w)

        indirect : Word
        indirect = indirect_word s d (code_at s.pir.privileged d.piindex % 16) (code_at s.pir.unprivileged d.piindex) w

        low : (r : ℕ) → code_at r d.piindex % 16 ≡ code_at r d.piindex
        low r = omega arith

        steps : Bool → List Step
        steps i = cond i (grants_by s.control.two) (direct_steps s.control d t)

        go : (i : Bool)
            → Agrees (follow (follow (refuse_if (i && reserved_code s.control.two pair) ReservedCode) (follow (refuse_if (i && unjudged_code s.control.two pair) Unjudged)
            (follow (fault_unless (has (left_after everything (steps i)) a) One Permission (first_remover a everything (steps i))) (overlay_answer s d (cond i (code_overlays pair) both) a)))) y)
            (refuses_in (cond i indirect direct) a) ((cond i indirect direct).right a) ((cond i indirect direct).cause a)
        go true = rw (low s.pir.privileged) (indirect-agrees s.control.two)
        go false = direct-agrees

stage2-codes : (on : Bool) (e : Stage2) (j : ℕ) → (stage2_word on e).codes j ≡ true
stage2-codes true e j = refl
stage2-codes false e j = refl

state-refuses : (k d x y z m : Bool) → ((k && d) || (k && ((x || (y || z)) || m))) ≡ (((k && x) || ((k && y) || (k && z))) || ((k && d) || (k && m)))
state-refuses k d x y z m =
    each (k ∷ d ∷ x ∷ y ∷ z ∷ m ∷ []) (λ (m : List Bool). (b m 0 && b m 1) || (b m 0 && ((b m 2 || (b m 3 || b m 4)) || b m 5)))
    (λ (m : List Bool). ((b m 0 && b m 2) || ((b m 0 && b m 3) || (b m 0 && b m 4))) || ((b m 0 && b m 1) || (b m 0 && b m 5))) refl
  where
    b : List Bool → ℕ → Bool
    b m k = get_or m k false

-- THE WORD OF A LEAF gives the answers of both stages
pub word-law : (s : Setup) (d : Stage1) (e : Stage2) (t : Limits) (l : Level) (x : Right) → let w = stages_word s d e t in let a = access_of l x in
    Agrees (stages_answer s d e t a) (refuses_in w a) (w.right a) (w.cause a)
unfolding stages_answer stage1_answer
word-law s d e t l x = go s.control.stage1
  where
    second : Word
    second = stage2_word s.control.stage2 e

    z : Word
    z = base_word s d t second

    first : Word
    first = joined (state_part 11 12 false d.valid d.af (dirty s.control d)) z

    answer : Answer
    answer = follow (descriptor_answer One 11 12 d.valid d.af (dirty s.control d)) (base_answer s d t (access_of l x))

    go : (on : Bool) → let w = cond on first (joined off_part second) in let a = access_of l x in
        Agrees (follow (cond on answer (Ok tt)) (stage2_if s e a)) (refuses_in w a) (w.right a) (w.cause a)
    go false = stage2-agrees s.control.stage2 e l x
    go true =
        rw (follow-follow (descriptor_answer One 11 12 d.valid d.af (dirty s.control d)) (base_answer s d t (access_of l x)) (stage2_if s e (access_of l x)))
        (same-lane (follow (descriptor_answer One 11 12 d.valid d.af (dirty s.control d)) (follow (base_answer s d t (access_of l x)) (stage2_if s e (access_of l x)))) _ _ _ _ _ _
        (state-refuses (d.valid && d.af) (dirty s.control d) (z.codes 0) (z.codes 1) (z.codes 2) (z.meets (access_of l x))) refl refl
        (state-step One 11 12 d.valid d.af (dirty s.control d) (follow (base_answer s d t (access_of l x)) (stage2_if s e (access_of l x)))
        (refuses_in z (access_of l x)) (z.right (access_of l x)) (z.cause (access_of l x))
        (base_agrees s d t l x (stage2_if s e (access_of l x)) second (stage2-agrees s.control.stage2 e l x) (stage2-codes s.control.stage2 e))))

-- the memory of a leaf is known as far as this layer goes
known-if : (b : Bool) (x y : Word) → x.known ≡ true → y.known ≡ true → (cond b x y).known ≡ true
known-if true x y e f = e
known-if false x y e f = f

pub stages-known : (s : Setup) (d : Stage1) (e : Stage2) (t : Limits) → (stages_word s d e t).known ≡ true
stages-known s d e t = known-if s.control.stage1 _ _ (known-if s.control.indirect _ _ (slots _ _) (slots true true)) second
  where
    w : Word
    w = stage2_word s.control.stage2 e

    second : w.known ≡ true
    second = known-if s.control.stage2 _ _ refl refl

    slots : (p u : Bool) → (slots_word s d p u w).known ≡ true
    slots p u = known-if (s.control.overlay.privileged || s.control.overlay.unprivileged) _ _ second second
