-- One more leaf field, one too many, none, or the end.
use Rattle.std.proofs.Common.{rules, ◌≡◌, ◌≤◌, ◌+◌, ◌*◌, ◌-◌, length, take, refl, sym, ◌∙◌, arith}
use Rattle.std.proofs.Math.ListN.{length-drop}
use borrow.Rule.Slice.PartMut.{same_len_mid}
use Rattle.records.proofs.LeafFields.{ends, too_many, other, turn, whole}
use Rattle.records.proofs.mapfile.leaf_fields.Goals as goal

pub returns-then-file-at : goal.returns-then-file-at
returns-then-file-at c =
    let n = c.loop-n.n in
    c.loop-n.invariant.found ∙ ends c.args.file.now (55 + n * 21) (2048 - n) n (take (n * 18) c.loop-n.values) (omega (arith, c.if-file-at.true))

pub returns-then-not-begins_with : goal.returns-then-not-begins_with
returns-then-not-begins_with c =
    let h = c.loop-n.invariant.within in
    let d = c.if-file-at.false in
    let n = c.loop-n.n in
    c.loop-n.invariant.found ∙ other c.args.file.now (55 + n * 21) (2048 - n) n (take (n * 18) c.loop-n.values) (omega (arith, c.loop-n-test.true)) (omega (arith, h, d)) (sym c.begins_with.ensures ∙ c.if-not-begins_with.true)

pub slice_bounds-copy_from_slice-end-in-loop-n : goal.slice_bounds-copy_from_slice-end-in-loop-n
slice_bounds-copy_from_slice-end-in-loop-n c =
    let h : 55 + c.loop-n.n * 21 + 21 ≤ length c.args.file.now = omega (arith, simp length-drop at (whole 2 18 _ (sym c.begins_with.ensures ∙ c.if-not-begins_with.false))) in
    search rules

pub loop-n-preserved : goal.loop-n-preserved
loop-n-preserved c =
    let n = c.loop-n.n in
    let h : 55 + n * 21 + 21 ≤ length c.args.file.now = omega (arith, simp length-drop at (whole 2 18 _ (sym c.begins_with.ensures ∙ c.if-not-begins_with.false))) in
    let e : 55 + n * 21 + 21 ≡ 55 + (n + 1) * 21 = omega arith in
    record {
      within = omega (arith, h);
      kept = same_len_mid _ _ _ _ c.copy_from_slice.auto.self ∙ c.loop-n.invariant.kept;
      found = rw (← e) (c.loop-n.invariant.found ∙ turn c.args.file.now c.loop-n.values _ _ n (55 + n * 21) c.loop-n-test.true h (omega (arith, c.requires.1, c.loop-n.invariant.kept, c.loop-n-test.true)) (sym c.begins_with.ensures ∙ c.if-not-begins_with.false) c.copy_from_slice.ensures.after);
    }

pub returns-then-file-eq43063 : goal.returns-then-file-eq43063
returns-then-file-eq43063 c =
    let e : c.loop-n.n ≡ 2048 = omega (arith, c.loop-n-test.false) in
    rw e at (c.loop-n.invariant.found) ∙ ends c.args.file.now 43063 0 2048 (take 36864 c.loop-n.values) (omega (arith, c.if-file-eq43063.true))

pub returns : goal.returns
returns c =
    let e : c.loop-n.n ≡ 2048 = omega (arith, c.loop-n-test.false) in
    let h = c.loop-n.invariant.within in
    let d = c.if-file-eq43063.false in
    rw e at (c.loop-n.invariant.found) ∙ too_many c.args.file.now 43063 0 2048 (take 36864 c.loop-n.values) refl (omega (arith, h, e, d))
