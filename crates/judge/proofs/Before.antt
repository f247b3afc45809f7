-- Request A1 changes no answer of the judge and the list but for the cause that a fault has, and that a list is refused with 11 where its causes do not fit.
-- Here are the definitions as they stood before it, over those of `rights`, and the laws: `same-judge` and `same-list`. The next request that changes an
-- answer takes this file away. Assumes nothing.
use mathlib.Core.Path.{◌≡◌, refl, ap, ◌∙◌}
use mathlib.Core.Bool.{Bool, true, false, not, ◌&&◌}
use mathlib.Core.List.{List, [], ◌∷◌}
use Prim.Native.Nat.{ℕ, zero, suc, ◌*◌, ◌/◌, ◌≤◌}
use lib.Dec.{leb}
use lib.ListN.{length}
use borrow.Author.Tests.{le-leb}
use Rattle.records.specs.Bytes.{over}
use Rattle.records.specs.Descriptor.{stage1_of, stage2_of}
use Rattle.records.specs.Leaf.{read_leaf, leaf_at, leaf_count, whole_leaves}
use Rattle.records.specs.Setup.{read_setup}
use Rattle.records.specs.Values.{check_if, check_then, if_passes}
use Rattle.records.specs.declared.leaf.Leaf.{Leaf}
use Rattle.records.specs.declared.setup.Setup.{Setup}
use Rattle.rights.proofs.Before.{rights_answer, uncaused, same-rights-answer}
use Rattle.rights.specs.Checks.{setup_check}
use Rattle.rights.specs.Order as order
use Rattle.attributes.specs.Order.{attributes_of}
use Rattle.judge.specs.Judge.{fetches, combined, after_rights}
use Rattle.judge.specs.Judge as today
use Rattle.judge.specs.LeafRights.{add, gather, judged_accesses}
use Rattle.judge.specs.LeafRights as rights
use Rattle.judge.specs.List.{Walk, bytes, refused, walk, ListResult}
use Rattle.judge.specs.List as list
use Rattle.std.specs.Prelude.{Result, Ok, Err}
use Rattle.records.specs.declared.refusal.Refusal.{Refusal}
use Rattle.records.specs.declared.refusal.Refusal.TheVariants.{ListLength}
use Rattle.rights.specs.declared.answers.Stop.TheVariants.{Faulted, Refused}
use Rattle.records.specs.Values.{on_leaf}
use Rattle.judge.specs.Answers.{Listed}
use Rattle.judge.specs.Answers.{LeafRights}
use Rattle.judge.specs.Answers.{Judgement}
use Rattle.rights.specs.Answers.{Answer}
use Rattle.records.specs.Values.{Check}
use Rattle.attributes.specs.declared.Memory.{Memory}

-- The judge, as before
abbrev judged : Setup → Leaf → ℕ → Judgement
judged s f n = after_rights (rights_answer s f n) (combined (attributes_of s (stage1_of f.stage1) (stage2_of f.stage2) (fetches n)))

abbrev judge_leaf : Setup → ℕ → (Result Leaf Refusal) → Judgement
judge_leaf s n (Ok f) = judged s f n
judge_leaf s n (Err k) = Err (Refused k)

abbrev judge_setup : (Result Leaf Refusal) → ℕ → (Result Setup Refusal) → Judgement
judge_setup f n (Ok s) = judge_leaf s n f
judge_setup f n (Err k) = Err (Refused k)

abbrev judge_of : List ℕ → List ℕ → ℕ → Judgement
judge_of s f n = judge_setup (read_leaf f) n (read_setup s)

-- The list, as before
abbrev leaf_rights : Setup → Leaf → LeafRights
leaf_rights s f = gather (judged s f) (judged_accesses s.control.two)

pub record Former : Type 0 where
  pub answer : Listed
  pub out : List ℕ

abbrev refuse : Refusal → ℕ → List ℕ → Former
refuse n i o = record { answer = (Err (on_leaf n i)); out = o }

abbrev finish : Walk → ℕ → List ℕ → Former
finish (bytes b) n o = record { answer = Ok n; out = over b o }
finish (refused k i) n o = refuse k i o

abbrev fits : ℕ → ℕ → Bool
fits len room = whole_leaves len && leb (len / 18) room

abbrev leaves_of : Setup → List ℕ → List ℕ → Former
leaves_of s ls o = finish (walk (λ (i : ℕ). leaf_rights s (leaf_at ls i)) 0 (leaf_count ls)) (leaf_count ls) o

abbrev list_read : (Result Setup Refusal) → List ℕ → List ℕ → Former
list_read (Ok s) ls o =
    if_passes (check_then (setup_check s.control) (check_if (not (fits (length ls) (length o))) ListLength)) (λ (n : Refusal). refuse n 0 o) (leaves_of s ls o)
list_read (Err k) ls o = refuse k 0 o

abbrev list_of : List ℕ → List ℕ → List ℕ → Former
list_of s ls o = list_read (read_setup s) ls o

-- a judgement without its cause
abbrev pub plain : Judgement → Judgement
plain (Ok m) = Ok m
plain (Err (Faulted g)) = Err (Faulted (record { stage = g.stage; kind = g.kind; cause = 0 }))
plain (Err (Refused n)) = Err (Refused n)

after : (x : Answer) (z : (Result Memory Refusal)) → plain (after_rights x (combined z)) ≡ after_rights (uncaused x) (combined z)
unfolding uncaused
after (Ok u) (Ok m) = refl
after (Ok u) (Err n) = refl
after (Err (Faulted g)) z = refl
after (Err (Refused n)) z = refl

same-judged : (s : Setup) (f : Leaf) (n : ℕ) → plain (today.judged s f n) ≡ judged s f n
unfolding today.judged
same-judged s f n =
    let z = attributes_of s (stage1_of f.stage1) (stage2_of f.stage2) (fetches n) in
    after (order.rights_answer s f n) z ∙ ap (λ (x : Answer). after_rights x (combined z)) (same-rights-answer s f n)

-- every answer of the judge
pub same-judge : (b c : List ℕ) (n : ℕ) → plain (today.judge_of b c n) ≡ judge_of b c n
unfolding today.judge_of
same-judge b c n = go (read_setup b) (read_leaf c)
  where
    go : (x : (Result Setup Refusal)) (y : (Result Leaf Refusal)) → plain (today.judge_setup y n x) ≡ judge_setup y n x
    go (Err k) y = refl
    go (Ok s) (Err k) = refl
    go (Ok s) (Ok f) = same-judged s f n

-- a leaf's rights do not read causes
blind : (j : Judgement) (w : ℕ) (r : LeafRights) → add j w r ≡ add (plain j) w r
blind (Ok m) w r = refl
blind (Err (Faulted g)) w r = refl
blind (Err (Refused n)) w r = refl

gathered : (f g : ℕ → Judgement) → ((a : ℕ) → plain (f a) ≡ g a) → (xs : List ℕ) → gather f xs ≡ gather g xs
gathered f g e [] = refl
gathered f g e (a ∷ more) = blind (f a) _ _ ∙ rw (e a, gathered f g e more)

same-rights : (s : Setup) (f : Leaf) → rights.leaf_rights s f ≡ leaf_rights s f
unfolding rights.leaf_rights
same-rights s f = gathered (today.judged s f) (judged s f) (same-judged s f) (judged_accesses s.control.two)

-- the list's answer and output, where the causes fit
abbrev outcome : ListResult → Former
outcome r = record { answer = r.answer; out = r.out }

-- walks over functions that agree are the same
same-walk : (f g : ℕ → LeafRights) → ((i : ℕ) → f i ≡ g i) → (i m : ℕ) → walk f i m ≡ walk g i m
same-walk f g e i zero = refl
same-walk f g e i (suc m) = rw (e i, same-walk f g e (suc i) m)

finished : (w : Walk) (x : List ℕ) (n : ℕ) (o c : List ℕ) → outcome (list.finish w x n o c) ≡ finish w n o
finished (bytes b) x n o c = refl
finished (refused k i) x n o c = refl

pub same-list : (b ls o c : List ℕ) → 6 * leaf_count ls ≤ length c → outcome (list.list_of b ls o c) ≡ list_of b ls o
unfolding list.list_of list.list_check list.leaves_of
same-list b ls o c h = go (read_setup b)
  where
    leaves : (s : Setup) (k : Check)
        → outcome (if_passes k (λ (n : Refusal). list.refuse n 0 o c) (list.finish (walk (λ (i : ℕ). rights.leaf_rights s (leaf_at ls i)) 0 (leaf_count ls)) (list.causes_of s ls) (leaf_count ls) o c))
        ≡ if_passes k (λ (n : Refusal). refuse n 0 o) (leaves_of s ls o)
    leaves s (Ok u) =
        finished (walk (λ (i : ℕ). rights.leaf_rights s (leaf_at ls i)) 0 (leaf_count ls)) (list.causes_of s ls) (leaf_count ls) o c
        ∙ ap (λ (w : Walk). finish w (leaf_count ls) o)
        (same-walk (λ (i : ℕ). rights.leaf_rights s (leaf_at ls i)) (λ (i : ℕ). leaf_rights s (leaf_at ls i)) (λ i. same-rights s (leaf_at ls i)) 0 (leaf_count ls))
    leaves s (Err n) = refl

    and-true : (x : Bool) → (x && true) ≡ x
    and-true true = refl
    and-true false = refl

    room : list.fits (length ls) (length o) (length c) ≡ fits (length ls) (length o)
    room = rw (le-leb (6 * (length ls / 18)) (length c) h, and-true (leb (length ls / 18) (length o)))

    go : (x : (Result Setup Refusal)) → outcome (list.list_read x ls o c) ≡ list_read x ls o
    go (Ok s) =
        leaves s (check_then (setup_check s.control) (check_if (not (list.fits (length ls) (length o) (length c))) ListLength))
        ∙ ap (λ (t : Bool). if_passes (check_then (setup_check s.control) (check_if (not t) ListLength)) (λ (n : Refusal). refuse n 0 o) (leaves_of s ls o)) room
    go (Err k) = refl
