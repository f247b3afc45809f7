-- `leaves` writes one line more in each turn. Assumes nothing.
use Rattle.std.proofs.Common.{◌≡◌, ◌∙◌, length, arith, inl, inr}
use Rattle.std.specs.Iterator.Adapters.{enumerate_count}
use Rattle.text.proofs.LineLaws.{start, one-leaf, one-right, turn, all-lines}
use Rattle.text.proofs.WriterLaws.{none}
use Rattle.text.proofs.writer.Writer.leaves.Goals as goal

pub loop-i-init : goal.loop-i-init
loop-i-init c =
    let e = c.enumerate-i-items.ensures in
    let z = c.zip.ensures in
    rw (c.into_iter-i-iterator.ensures.into_iter_gives, e.count, e.source)
    (record {
      text = rw (start _) (none _);
      leaves = rw z.first c.chunks_exact.ensures.rest;
      size = rw z.first c.chunks_exact.ensures.size;
      rights = z.second.0;
      within = omega arith;
    })

pub bounds-leaf-17 : goal.bounds-leaf-17
bounds-leaf-17 c =
    let e : length c.in-Some.leaf.now ≡ 18 = c.in-Some.ensures.steps.0.0.1.1 ∙ c.loop-i.invariant.size in
    omega (arith, e)

pub loop-i-preserved : goal.loop-i-preserved
loop-i-preserved c =
    let v = c.loop-i.invariant in
    let s = c.in-Some.ensures.steps in
    let leaf = s.0.0.1 in
    let l = one-leaf _ _ _ _ _ v.leaves leaf.0 (leaf.1 ∙ v.size) v.within in
    let r = one-right c.args.rights.now _ _ (enumerate_count c.loop-i.i-iterator) c.in-Some.right.now v.rights s.0.1 in
    rw s.2
    (record {
      text = turn _ _ _ _ _ _ _ _ _ s.1 r.0 l.0 v.text c.leaf.ensures;
      leaves = l.1;
      size = s.0.0.0 ∙ v.size;
      rights = r.1;
      within = l.2;
    })

pub returns : goal.returns
returns c =
    let v = c.loop-i.invariant in
    let n =
    all-lines c.args.leaves.now c.args.rights.now _ _ (enumerate_count c.loop-i.i-iterator) v.leaves v.rights v.within c.requires
    (elim c.in-None.ensures.steps.0 [ inl p ↦ inl (let l = p.1.1.0 in omega (arith, v.size, l)) | inr q ↦ inr q.1.0 ]) in
    rw (← n) v.text
