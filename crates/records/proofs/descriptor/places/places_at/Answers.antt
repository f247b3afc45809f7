-- The places of the descriptor whose bytes these are.
use Rattle.std.proofs.Common.{sym}
use Rattle.records.proofs.PlaceLaws.{places-bytes}
use Rattle.records.proofs.descriptor.places.places_at.Goals as goal

pub returns : goal.returns
returns c = sym (places-bytes _ _ _ (λ i. (c.type_inv.b i).fits) c.short.ensures)
