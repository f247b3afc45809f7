-- What the attribute steps of an access answer, by the check of its leaf, which is the same for data and fetches. For those who check a leaf
-- once and judge its accesses. Assumes nothing.
use mathlib.Core.Path.{◌≡◌}
use mathlib.Core.Logic.{◌⊎◌, inl, inr}
use mathlib.Core.Bool.{Bool, true, false}
use Rattle.records.specs.Values.{check_if, check_then}
use Rattle.records.specs.declared.descriptor.Stage1.{Stage1}
use Rattle.records.specs.declared.descriptor.Stage2.{Stage2}
use Rattle.records.specs.declared.setup.Setup.{Setup}
use Rattle.attributes.specs.Mair.{reserved_byte}
use Rattle.attributes.specs.StageTwoType.{reserved_mem_attr}
use Rattle.attributes.specs.Shareability.{reserved_sh}
use Rattle.attributes.specs.Order.{memory_of, combined_if, attributes_of, check_of}
use Rattle.attributes.specs.declared.Memory.{Memory}
use Rattle.std.specs.Prelude.{Ok, Err}
use Rattle.records.specs.declared.refusal.Refusal.TheVariants.{MemoryCode, ReservedSh}
use Rattle.records.specs.declared.refusal.Refusal.{Refusal}

module _ (s : Setup) (d : Stage1) (e : Stage2) (fetch : Bool) where
  -- where the check passes, every access of the leaf has its byte and SH
  pub passes : check_of s d e ≡ (Ok tt) → attributes_of s d e fetch ≡ Ok (memory_of s d e fetch)
  unfolding attributes_of
  passes p = rw p

  -- where it refuses, every access of the leaf is refused with its number
  pub refuses : (n : Refusal) → check_of s d e ≡ Err n → attributes_of s d e fetch ≡ Err n
  unfolding attributes_of
  refuses n p = rw p

  -- the attribute steps refuse with 8 or 9
  pub eight-or-nine : (n : Refusal) → attributes_of s d e fetch ≡ Err n → (n ≡ MemoryCode) ⊎ (n ≡ ReservedSh)
  unfolding attributes_of check_of
  eight-or-nine n p = go (reserved_byte s d) (reserved_mem_attr s e) (reserved_sh s d e) p
    where
      go : (a b c : Bool) → combined_if (check_then (check_if a MemoryCode) (check_then (check_if b MemoryCode) (check_if c ReservedSh))) (memory_of s d e fetch) ≡ Err n
          → (n ≡ MemoryCode) ⊎ (n ≡ ReservedSh)
      go true b c p = inl (cc)
      go false true c p = inl (cc)
      go false false true p = inr (cc)
      go false false false p = inl (cc)

  -- an access that is answered meets none of them
  pub allowed : (m : Memory) → attributes_of s d e fetch ≡ Ok m
      → (reserved_byte s d ≡ false) × (reserved_mem_attr s e ≡ false) × (reserved_sh s d e ≡ false) × (memory_of s d e fetch ≡ m)
  unfolding attributes_of check_of
  allowed m p = go (reserved_byte s d) (reserved_mem_attr s e) (reserved_sh s d e) p
    where
      go : (a b c : Bool) → combined_if (check_then (check_if a MemoryCode) (check_then (check_if b MemoryCode) (check_if c ReservedSh))) (memory_of s d e fetch) ≡ Ok m
          → (a ≡ false) × (b ≡ false) × (c ≡ false) × (memory_of s d e fetch ≡ m)
      go true b c p = (cc, cc, cc, cc)
      go false true c p = (cc, cc, cc, cc)
      go false false true p = (cc, cc, cc, cc)
      go false false false p = (cc, cc, cc, cc)
