-- A list with a leaf that is refused changes nothing; else rights and causes are copied.
use Rattle.std.proofs.Common.{◌≤◌, ◌*◌, ◌/◌, length, sym, ap, ◌∙◌, arith}
use borrow.Author.Tests.{eq-eqb, ne_eqb}
use Rattle.records.proofs.Copies.{copied}
use Rattle.judge.specs.List.{ListResult}
use Rattle.judge.proofs.ListLaws.{clear-list, marked-list}
use Rattle.judge.proofs.leaves.list_leaves.Goals as goal

pub returns-then-marked : goal.returns-then-marked
returns-then-marked c =
    let a = c.args in
    let m = marked-list a.s a.leaves.now a.out.now a.causes.now c.requires.accepted.1 (sym c.fill_list-marks.ensures.0 ∙ ne_eqb _ 0 c.if-marked.true) _ c.first_refusal.ensures in
    record { answer = m.0; out = m.1.0; causes = m.1.1 }

pub returns : goal.returns
returns c =
    let a = c.args in
    let n = length a.leaves.now / 18 in
    let v = c.fill_list-marks.new.rights in
    let x = c.fill_list-marks.new.found in
    let g : n ≤ length v = omega (arith, c.fill_list-marks.auto.rights, c.requires.buffers.0) in
    let k : 6 * n ≤ length x = omega (arith, c.fill_list-marks.auto.found, c.requires.buffers.1) in
    let e =
    sym (clear-list a.s a.leaves.now a.out.now a.causes.now c.requires.accepted.1 v x g k (sym c.fill_list-marks.ensures.0 ∙ eq-eqb _ 0 c.if-marked.false) c.fill_list-marks.ensures.1) in
    record {
      answer = ap (λ (y : ListResult). y.answer) e;
      out = copied n _ v a.out.now g c.copy_from_slice.ensures.after ∙ ap (λ (y : ListResult). y.out) e;
      causes = copied (6 * n) _ x a.causes.now k c.copy_from_slice-2.ensures.after ∙ ap (λ (y : ListResult). y.causes) e;
    }
