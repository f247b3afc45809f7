-- What `leaf_fields` found is what the file holds.
use Rattle.std.proofs.Common.{◌≤◌, ℕ, sym, ◌∙◌, arith}
use Rattle.std.proofs.Math.ListN.{length-replicate}
use Rattle.records.proofs.LeafFields.{whole, few, read-other, read-ill, read_whole}
use Rattle.records.proofs.mapfile.read_file.Goals as goal

pub leaf_fields-requires : goal.leaf_fields-requires
leaf_fields-requires c = (whole 1 52 _ (sym c.begins_with.ensures ∙ c.if-not-begins_with.false), omega arith)

pub returns-in_default : goal.returns-in_default
returns-in_default c =
    let r = read-ill _ _ _ (sym c.begins_with.ensures ∙ c.if-not-begins_with.false) c.leaf_fields.ensures _ c.in_default.is in
    record { answer = r.0; leaves = r.1 }

pub deliver-requires : goal.deliver-requires
deliver-requires c =
    let h : c.in-Some.n ≤ 2048 = few _ _ _ (sym c.begins_with.ensures ∙ c.if-not-begins_with.false) c.leaf_fields.ensures _ c.in-Some.is in
    (h, omega (arith, c.leaf_fields.auto.values, length-replicate {A = ℕ} 36864 0))

pub returns : goal.returns
returns c =
    let d = c.deliver.ensures in
    let r = read_whole _ _ _ (sym c.begins_with.ensures ∙ c.if-not-begins_with.false) c.leaf_fields.ensures _ _ _ _ c.in-Some.is (d.answer, d.leaves) in
    record { answer = r.0; leaves = r.1 }

pub returns-then-not-begins_with : goal.returns-then-not-begins_with
returns-then-not-begins_with c = let r = read-other _ _ (sym c.begins_with.ensures ∙ c.if-not-begins_with.true) in record { answer = r.0; leaves = r.1 }
