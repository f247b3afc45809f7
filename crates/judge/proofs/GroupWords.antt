-- The tables of groups give the word of each leaf. Assumes nothing.
use mathlib.Core.Path.{◌≡◌, refl, ap, ◌∙◌}
use mathlib.Core.Bool.{Bool, true, false, cond, ◌&&◌}
use mathlib.Core.List.{List, [], ◌∷◌}
use Prim.Native.Nat.{ℕ, ◌/◌, ◌%◌}
use Rattle.std.specs.Prelude.{Option}
use Rattle.records.proofs.Cases.{each, nth}
use Rattle.records.proofs.PlaceLaws.{low1-fields, low2-fields, flag-fields, state-fields}
use Rattle.records.specs.Descriptor.{sh, mem_attr, stage2_of}
use Rattle.records.specs.Mirror.Fields.{attr_indx_of}
use Rattle.records.specs.Mirror.Places.{places_of}
use Rattle.records.specs.declared.leaf.Leaf.{Leaf}
use Rattle.records.specs.declared.setup.Setup.{Setup}
use Rattle.rights.proofs.GroupLaws.{Is}
use Rattle.rights.proofs.GroupedStages.{known2, stage2-groups, direct-groups, indirect-groups, off-groups, leaf-groups}
use Rattle.rights.specs.Mirror.Groups.{IsStage2If, IsDirect, IsIndirect, stage2_grouped, direct_grouped, indirect_grouped, off_grouped}
use Rattle.rights.specs.Mirror.Parts.{known_part, stage2_word, leaf_word}
use Rattle.rights.specs.Mirror.Words.{joined, number_of}
use Rattle.rights.specs.declared.words.groups.DirectGroups.{DirectGroups}
use Rattle.rights.specs.declared.words.groups.IndirectGroups.{IndirectGroups}
use Rattle.rights.specs.declared.words.groups.OffGroups.{OffGroups}
use Rattle.rights.specs.declared.words.groups.Stage2Groups.{Stage2Groups}
use Rattle.attributes.proofs.KnownLaws.{known-law, first_off, second-off}
use Rattle.attributes.specs.Mirror.Known.{IsRefused, passes_at, known_with}
use Rattle.attributes.specs.declared.known.Refused.{Refused}
use Rattle.judge.specs.Mirror.Words.{groups_at, Gives, word_of}

module _ (s : Setup) (t : Refused) (ht : IsRefused s.control s.mair s.mair2 t) (second : Option Stage2Groups) (h2 : IsStage2If t.stage2 s.control.stage2 second) where
  -- what is known of a leaf's memory, in the order of the groups
  known_by : (d e a b c x : ℕ) → a ≡ attr_indx_of d → b ≡ sh d → c ≡ mem_attr e → x ≡ sh e
      → (passes_at t.stage1.kind a && (passes_at t.stage1.sh b && cond s.control.stage2 (passes_at t.stage2.kind c && (passes_at t.stage2.sh x && true)) true)) ≡ known_with t d e
  unfolding known_with
  known_by d e a b c x p q r u =
      rw (p, q, r, u) (go (passes_at t.stage1.kind (attr_indx_of d)) (passes_at t.stage1.sh (sh d)) (passes_at t.stage2.kind (mem_attr e)) (passes_at t.stage2.sh (sh e)) s.control.stage2 (second-off s d e t ht))
    where
      go : (k1 s1 k2 s2 z : Bool) → (z ≡ false → (k2 ≡ true) × (s2 ≡ true)) → (k1 && (s1 && cond z (k2 && (s2 && true)) true)) ≡ (k1 && k2 && s1 && s2)
      go k1 s1 k2 s2 true f =
          each (k1 ∷ s1 ∷ k2 ∷ s2 ∷ []) (λ (v : List Bool). nth v 0 && (nth v 1 && (nth v 2 && (nth v 3 && true)))) (λ (v : List Bool). nth v 0 && nth v 2 && nth v 1 && nth v 3) refl
      go k1 s1 k2 s2 false f =
          let o = f refl in
          rw (o.0, o.1) (each (k1 ∷ s1 ∷ []) (λ (v : List Bool). nth v 0 && (nth v 1 && true)) (λ (v : List Bool). nth v 0 && true && nth v 1 && true) refl)

  -- what stage 2 knows of it
  abbrev known-second : ℕ → Bool
  known-second e = cond s.control.stage2 (known2 t.stage2 e) true

  -- a number is that of a leaf's word, where its memory is known as k
  found : (f : Leaf) (r : ℕ) (k : Bool) → k ≡ known_with t f.stage1 f.stage2 → Is r k (leaf_word s f) → r ≡ number_of (word_of s f)
  found f r k e h = h ∙ ap (λ (b : Bool). number_of (joined (known_part b) (leaf_word s f))) (e ∙ known-law s f.stage1 f.stage2 t ht)

  second_is : (e : ℕ) → Is (stage2_grouped second (places_of e)) (known-second e) (stage2_word s.control.stage2 (stage2_of e))
  second_is e = stage2-groups t.stage2 s.control.stage2 second h2 e

  pub off-gives : s.control.stage1 ≡ false → (g : OffGroups) → g.two ≡ s.control.two → Gives s (groups_at (off_grouped g) (stage2_grouped second))
  off-gives off g two f =
      let d = f.stage1 in
      let e = f.stage2 in
      let o = first_off s d e t ht off in
      let known : known-second e ≡ known_with t d e = rw (o.0, o.1) at (known_by d e (attr_indx_of d) (sh d) _ _ refl refl (low2-fields e).1 (flag-fields e).1) in
      rw two (found f _ _ known (leaf-groups s f false off _ (known-second e) s.control.indirect refl (off-groups s.control.two _ (known-second e) _ (second_is e))))

  module _ (on : s.control.stage1 ≡ true) where
    pub direct-gives : s.control.indirect ≡ false → (g : DirectGroups) → IsDirect s t.stage1 g → Gives s (groups_at (direct_grouped g) (stage2_grouped second))
    direct-gives mode g h f =
        let d = f.stage1 in
        let e = f.stage2 in
        found f _ _ (known_by d e _ _ _ _ (low1-fields d).1 (flag-fields d).1 (low2-fields e).1 (flag-fields e).1)
        (leaf-groups s f true on _ (passes_at t.stage1.kind ((places_of d).low1 % 64 / 4) && (passes_at t.stage1.sh ((places_of d).flags % 8 % 4) && known-second e)) false mode
        (direct-groups s t.stage1 g h d f.limits _ (known-second e) _ (second_is e)))

    pub indirect-gives : s.control.indirect ≡ true → (g : IndirectGroups) → IsIndirect s t.stage1 g → Gives s (groups_at (indirect_grouped g) (stage2_grouped second))
    indirect-gives mode g h f =
        let d = f.stage1 in
        let e = f.stage2 in
        found f _ _ (known_by d e _ _ _ _ (low1-fields d).1 (state-fields d).1 (low2-fields e).1 (flag-fields e).1)
        (leaf-groups s f true on _ (passes_at t.stage1.kind ((places_of d).low1 % 64 / 4) && (passes_at t.stage1.sh ((places_of d).state % 16 / 2 % 4) && known-second e)) true mode
        (indirect-groups s t.stage1 g h d f.limits _ (known-second e) _ (second_is e)))
