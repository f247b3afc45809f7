-- What the planner may cite of the rights layer's laws. Assumes nothing.
--
-- A register in place of a level's POR counts through the leaf's slot alone, and a right is on exactly where it is on with slot 7 and (it is on with
-- slot 0 or the slot has its bit).
pub use Rattle.rights.proofs.Ranges.{open-slot, rights-with, place_is, bare-is, refused-is}
-- What refuses a leaf is the first refusal that an access of the level meets with 77777777 in place; it is 6 or 7, and the checks give 1 to 3 and 5.
pub use Rattle.rights.proofs.Refusals.{refusal_in, range-refusal, refusal-number}
pub use Rattle.rights.proofs.Named.{setup-number, leaf-number}
-- The rights of a level are those of its single accesses.
pub use Rattle.rights.proofs.LevelLaws.{answer_to, right_is, access-refused, access-not-refused}
-- The answer of `LevelSetup::range` by a setup's table, and rights as bits.
pub use Rattle.rights.proofs.Table.{range-by, place-below}
pub use Rattle.rights.proofs.Masks.{and-bits, any-bits, slot-low}
