-- Lengths, checks, then the leaves by way of short or long buffers.
use Rattle.std.proofs.Common.{rules, ◌≡◌, ℕ, List, length, sym, ap, ◌∙◌, arith}
use Rattle.std.specs.Prelude.{Ok}
use Rattle.records.specs.Setup.{read_setup}
use Rattle.records.specs.Values.{Check, if_passes}
use Rattle.records.specs.declared.refusal.Refusal.{Refusal}
use Rattle.records.specs.declared.setup.Setup.{Setup}
use Rattle.judge.specs.List.{ListResult, refuse, list_check, leaves_of, list_of}
use Rattle.judge.proofs.Fitting.{fitting}
use Rattle.judge.proofs.ListLaws.{reads_as}
use Rattle.judge.proofs.list.list_bytes.Goals as goal

-- the list's result where the setup is read and the check is known
follows : (b ls o c : List ℕ) (s : Setup) (x : Check) → read_setup b ≡ Ok s → list_check s.control (length ls) (length o) (length c) ≡ x
    → list_of b ls o c ≡ if_passes x (λ (n : Refusal). refuse n 0 o c) (leaves_of s ls o c)
follows b ls o c s x p q = reads_as b ls o c _ p ∙ ap (λ (y : Check). if_passes y (λ (n : Refusal). refuse n 0 o c) (leaves_of s ls o c)) q

pub returns-in_err-s : goal.returns-in_err-s
returns-in_err-s c = rw (reads_as _ _ _ _ _ (sym c.read_setup.ensures ∙ c.in_err-s.was)) (search rules)

pub returns-in_err-check_list : goal.returns-in_err-check_list
returns-in_err-check_list c =
    rw (follows _ _ _ _ c.in_ok-s.s _ (sym c.read_setup.ensures ∙ c.in_ok-s.was) (sym c.check_list.ensures ∙ c.in_err-check_list.was)) (search rules)

-- what the call of `by_buffers` asks, for either pair of buffers
pub by_buffers-requires : goal.by_buffers-requires
by_buffers-requires c =
    let h = fitting _ _ _ _ (sym c.check_list.ensures ∙ c.in_ok-check_list.was) in
    let s = c.if-leaves.true in
    record { sizes = (omega arith, omega arith); buffers = (omega (arith, s), omega (arith, s)); room = (h.roomy, h.caused); accepted = (h.few, h.accepted) }

pub by_buffers-requires-2 : goal.by_buffers-requires-2
by_buffers-requires-2 c =
    let h = fitting _ _ _ _ (sym c.check_list.ensures ∙ c.in_ok-check_list.was) in
    record { sizes = (omega arith, omega arith); buffers = (h.few, omega (arith, h.few)); room = (h.roomy, h.caused); accepted = (h.few, h.accepted) }

pub returns-then-leaves : goal.returns-then-leaves
returns-then-leaves c =
    let e = sym (follows _ _ _ _ c.in_ok-s.s _ (sym c.read_setup.ensures ∙ c.in_ok-s.was) (sym c.check_list.ensures ∙ c.in_ok-check_list.was)) in
    let x = c.by_buffers.ensures in
    record { answer = x.answer ∙ ap (λ (y : ListResult). y.answer) e; out = x.out ∙ ap (λ (y : ListResult). y.out) e; causes = x.causes ∙ ap (λ (y : ListResult). y.causes) e }

pub returns : goal.returns
returns c =
    let e = sym (follows _ _ _ _ c.in_ok-s.s _ (sym c.read_setup.ensures ∙ c.in_ok-s.was) (sym c.check_list.ensures ∙ c.in_ok-check_list.was)) in
    let x = c.by_buffers-2.ensures in
    record { answer = x.answer ∙ ap (λ (y : ListResult). y.answer) e; out = x.out ∙ ap (λ (y : ListResult). y.out) e; causes = x.causes ∙ ap (λ (y : ListResult). y.causes) e }
