-- The leaves are handed over, or the buffer is too short and kept.
use Rattle.records.proofs.LeafFields.{kept, handed}
use Rattle.records.proofs.mapfile.deliver.Goals as goal

pub returns-then-leaves-end : goal.returns-then-leaves-end
returns-then-leaves-end c = let k = kept _ _ _ c.requires.1 c.if-leaves-end.true in record { answer = k.0; leaves = k.1 }

pub returns : goal.returns
returns c = let h = handed _ _ _ c.requires.1 c.if-leaves-end.false _ c.copy_from_slice.ensures.after in record { answer = h.0; leaves = h.1 }
