-- A setup's table gives what stage 1 gives. Assumes nothing.
use Rattle.records.proofs.Cases.{clash}
use mathlib.Core.Path.{◌≡◌, refl, sym, ap, ◌∙◌}
use mathlib.Core.Bool.{Bool, true, false, cond, ◌&&◌}
use Prim.Native.Nat.{ℕ, ◌%◌, ◌<◌}
use native.Mathlib.Omega.{arith}
use lib.Bits.{bit_or}
use lib.ListN.{get_or}
use Rattle.records.specs.Bits.{bit, nibble}
use Rattle.records.specs.Descriptor.{stage1_of, stage2_of, limits_of, pi_index, code_place, po_index, place_of}
use Rattle.records.specs.Setup.{control_of, setup_from, of_level}
use Rattle.records.specs.declared.access.Level.{Level}
use Rattle.records.specs.declared.setup.Words.{Words}
use Rattle.rights.proofs.BaseMasks.{direct-left}
use Rattle.rights.specs.Mirror.Base.{base_of, indirect_step, indirect_of}
use Rattle.rights.specs.Direct.{direct_of}
use Rattle.rights.specs.Indirect.{code_of}
use Rattle.records.specs.Access.{six_mask}
use Rattle.rights.specs.Mirror.BaseMasks.{descriptor_place}
use Rattle.rights.specs.Promise.{range_of, range_mask}
use Rattle.rights.specs.Mirror.Masks.{setup_with, stage1_mask, stage2_mask, mask_with, range_with}
use Rattle.rights.specs.Mirror.Pass.{stage1_pass, stage2_pass}
use Rattle.rights.specs.Mirror.Table.{pair_at, TableOf, ModeTableOf, direct_by, stage1_by, full_and_bare, range_by}
use Rattle.rights.specs.declared.pass.table.BaseTable.{BaseTable}
use Rattle.rights.specs.declared.promise.RangeMask.{RangeMask}
use Rattle.records.specs.declared.refusal.Refusal.TheVariants.{Unjudged}
use Rattle.rights.proofs.Masks.{from-base, stage1-direct, range-masks}
use Rattle.std.specs.Prelude.{Result, Ok, Err}
use Rattle.records.specs.declared.refusal.Refusal.{Refusal}
use Rattle.rights.specs.Mirror.BaseMasks.{Mask}
use Rattle.rights.specs.Promise.{range}

-- tables of a setup whatever its mode are tables in its mode
pub in-mode : {w p u : ℕ} {b : BaseTable} → TableOf w p u b → ModeTableOf w p u b
in-mode h = record { codes = λ i. h.codes; direct = record { descriptor = h.descriptor; limits = h.limits } }

module _ (b : BaseTable) (w p u d t : ℕ) (h : ModeTableOf w p u b) where
  abbrev exact : Mask
  exact = stage1_mask (stage1_pass (setup_with w p u) (stage1_of d) (limits_of t))

  -- Indirect with no fault and no dirty state
  pair : bit w 3 ≡ true → bit w 1 ≡ true → (bit d 0 && bit d 10) ≡ true → bit d 7 ≡ false → exact ≡ pair_at w p u (code_place (pi_index d))
  unfolding control_of stage1_of stage1_pass base_of indirect_of
  pair i on fine clean =
      rw (i, on, fine, clean) (from-base (indirect_step (bit w 0) (code_of (nibble p (code_place (pi_index d)))) (code_of (nibble u (code_place (pi_index d))))))

  -- Direct
  direct : direct_by b w d t ≡ bit_or (six_mask (direct_of (control_of w) (stage1_of d) (limits_of t))) 192
  direct =
      rw (h.direct.descriptor (descriptor_place d) (omega arith), h.direct.limits (t % 16) (omega arith))
      (ap (λ (n : ℕ). bit_or n 192) (direct-left w d t))

  pub with-table : stage1_by b w d t ≡ exact
  unfolding stage1_by control_of stage1_of stage1_pass
  with-table = go (bit w 1) (bit d 0 && bit d 10) (bit w 3) (bit d 7) (bit d 51) refl refl refl refl refl
    where
      go : (on fine i seven top : Bool) → bit w 1 ≡ on → (bit d 0 && bit d 10) ≡ fine → bit w 3 ≡ i → bit d 7 ≡ seven → bit d 51 ≡ top
          → cond on (cond fine (cond i (cond seven (Err Unjudged) (get_or b.codes (code_place (pi_index d)) (Err Unjudged))) (cond top (Err Unjudged) (Ok (direct_by b w d t)))) (Ok 0)) (Ok 63) ≡ exact
      go false fine i seven top a c e f g = rw a refl
      go true false i seven top a c e f g = rw (a, c) refl
      go true true true true top a c e f g = rw (a, c, e, f) refl
      go true true true false top a c e f g = h.codes e (code_place (pi_index d)) (omega arith) (Err Unjudged) ∙ sym (pair e a c f)
      go true true false seven true a c e f g = rw (a, c, e, g) refl
      go true true false seven false a c e f g = ap Ok direct ∙ sym (stage1-direct (setup_with w p u) (stage1_of d) (limits_of t) a c e g)

pub range-by : (q : Words) (b : BaseTable) (d e t : ℕ) (l : Level) → ModeTableOf q.control q.pir.privileged q.pir.unprivileged b
    → range_by q.control (of_level (control_of q.control).overlay l) b d e t l ≡ range_mask (range_of (setup_from q) (stage1_of d) (stage2_of e) (limits_of t) l)
unfolding range_by
range-by q b d e t l h =
    ap (λ (x : Mask). full_and_bare (of_level (control_of q.control).overlay l) (place_of (po_index d)) x (stage2_mask (stage2_pass (bit q.control 2) (stage2_of e))) l)
    (with-table b q.control q.pir.privileged q.pir.unprivileged d t h)
    ∙ range-masks q d e t l

abbrev place_in : Result RangeMask Refusal → ℕ
place_in (Ok r) = r.place
place_in (Err n) = 0

place-with : (k : ℕ) (x y : Mask) (j f g : ℕ) → range_with k x y ≡ (Ok (range j f g)) → j ≡ k
place-with k (Ok a) (Ok b) j f g e = sym (ap place_in e)
place-with k (Ok a) (Err n) j f g e = clash (cc)
place-with k (Err n) y j f g e = clash (cc)

-- a leaf's place is below 8
pub place-below : (w : ℕ) (on : Bool) (b : BaseTable) (d e t : ℕ) (l : Level) (k f g : ℕ) → range_by w on b d e t l ≡ (Ok (range k f g)) → k < 8
unfolding range_by
place-below w on b d e t l k f g q =
    let x = stage1_by b w d t in
    let y = stage2_mask (stage2_pass (bit w 2) (stage2_of e)) in
    let p = place-with (place_of (po_index d)) (mask_with on x 7 y l) (mask_with on x 0 y l) k f g q in
    omega arith
