-- The groups give the word of the leaf at its places.
use Rattle.std.proofs.Common.{◌≡◌, ℕ, List, ap, ◌∙◌}
use Rattle.records.specs.Leaf.{leaf_at}
use Rattle.records.specs.Mirror.Places.{leaf_places}
use Rattle.records.specs.declared.descriptor.places.LeafPlaces.{LeafPlaces}
use Rattle.records.specs.declared.setup.Setup.{Setup}
use Rattle.judge.specs.Mirror.Words.{word_at, found_at, groups_at}
use Rattle.judge.proofs.groups.GroupsWords.leaf.Goals as goal

parts : (s : Setup) (ls : List ℕ) (i w : ℕ) (f : LeafPlaces) → f ≡ leaf_places (leaf_at ls i) → w ≡ word_at s ls i
    → record { word = w; limits = f.limits; forbidden = f.forbidden } ≡ found_at s ls i
parts s ls i w f e h = rw (e, h)

pub returns : goal.returns
unfolding word_at
returns g c =
    let a = c.args in
    let v = a.self.now in
    let f = c.leaf_places-f.result in
    let leaf = c.leaf_places-f.ensures in
    let first = g.F.Stage1Groups.number v.first.now in
    let second = g.S.Stage2.number v.second.now in
    parts v.setup.now a.leaves.now a.i c.word.result f leaf
    (c.word.ensures ∙ (ap (first f.stage1 f.limits) c.word-left.ensures ∙ (ap (groups_at first second) leaf ∙ v.gives (leaf_at a.leaves.now a.i))))
