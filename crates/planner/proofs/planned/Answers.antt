-- The answer is the checks' refusal or what the leaves give.
use Rattle.std.proofs.Common.{rules, ◌≡◌, ℕ, List, length, sym, ap, ◌∙◌}
use Rattle.std.specs.Prelude.{Result, Ok}
use Rattle.records.proofs.SetupWords.{setup-read}
use Rattle.records.specs.Setup.{control_of, setup_from, read_words}
use Rattle.records.specs.declared.access.Level.{Level}
use Rattle.records.specs.declared.refusal.Refusal.{Refusal}
use Rattle.records.specs.declared.setup.Control.{Control}
use Rattle.records.specs.declared.setup.Words.{Words}
use Rattle.planner.specs.Plan.{Plan, start_of, plan_from, plan_setup, plan_of}
use Rattle.planner.proofs.MaskLaws.{leaves_by}
use Rattle.planner.proofs.planned.Goals as goal

-- where the words are read, by what the checks before the leaves give
begun : (bytes : List ℕ) (lv : ℕ) (ls : List ℕ) (q : Words) (k : Control) (x : Result Level Refusal) (p : Plan) → read_words bytes ≡ Ok q
    → k ≡ control_of q.control → x ≡ start_of k lv (length ls) → p ≡ plan_from (setup_from q) ls x → p ≡ plan_of bytes lv ls
unfolding plan_of setup_from
begun bytes lv ls q k x p r g e f =
    f ∙ ap (plan_from (setup_from q) ls) (e ∙ ap (λ (c : Control). start_of c lv (length ls)) g) ∙ ap (plan_setup lv ls) (sym (setup-read bytes _ r))

pub returns-in_err-q : goal.returns-in_err-q
unfolding plan_of
returns-in_err-q c = rw (setup-read _ _ (sym c.read_words.ensures)) (search rules)

pub returns-in_err-level : goal.returns-in_err-level
returns-in_err-level c = begun _ _ _ _ _ _ _ (sym c.read_words.ensures ∙ c.in_ok-q.was) c.read_control-c.ensures (sym c.in_err-level.was ∙ c.begin.ensures) (search rules)

pub returns : goal.returns
returns c =
    let e = rw (c.of.ensures, c.read_control-c.ensures) at c.plan_leaves.ensures in
    begun _ _ _ _ _ _ _ (sym c.read_words.ensures ∙ c.in_ok-q.was) c.read_control-c.ensures (sym c.in_ok-level.was ∙ c.begin.ensures)
    (e ∙ leaves_by _ _ _ c.mode_table.ensures _)
