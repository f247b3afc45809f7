-- The places of both descriptors of a leaf, and its last two bytes.
use Rattle.std.proofs.Common.{◌≡◌, ℕ, ap, ◌∙◌}
use Rattle.records.specs.Leaf.{leaf_at}
use Rattle.records.specs.Mirror.Places.{places_of, leaf_places}
use Rattle.records.specs.declared.descriptor.places.Places.{Places}
use Rattle.records.specs.declared.leaf.Leaf.{Leaf}
use Rattle.records.proofs.PlaceLaws.{leaf-places}
use Rattle.records.proofs.descriptor.places.leaf_places.Goals as goal

parts : (f : Leaf) (d e : Places) (l k : ℕ) → d ≡ places_of f.stage1 → e ≡ places_of f.stage2 → l ≡ f.limits → k ≡ f.forbidden
    → record { stage1 = d; stage2 = e; limits = l; forbidden = k } ≡ leaf_places f
parts f d e l k p q r s = rw (p, q, r, s)

pub returns : goal.returns
returns c =
    let p = leaf-places c.args.leaves.now c.args.i c.requires in
    parts (leaf_at c.args.leaves.now c.args.i) _ _ _ _ (c.places_at.ensures ∙ ap places_of p.0) (c.places_at-2.ensures ∙ ap places_of p.1) p.2 p.3
