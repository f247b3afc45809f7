-- What S2AP and XN grant, by the table of both.
use Rattle.std.proofs.Common.{sym, ap, ◌∙◌}
use borrow.Author.Tests.{eq-eqb, ne_eqb}
use Rattle.records.specs.Bits.{bit}
use Rattle.records.specs.Descriptor.{stage2_of}
use Rattle.rights.proofs.Masks.{stage2-table, stage2-grants}
use Rattle.rights.proofs.pass.stage2.stage2_mask.Goals as goal
use Rattle.std.specs.Prelude.{Ok}

pub returns-then-e : goal.returns-then-e
unfolding stage2_of
returns-then-e c =
    ap Ok (stage2-table c.args.e)
    ∙ sym (stage2-grants (bit c.args.w 2) (stage2_of c.args.e) (eq-eqb _ _ c.if-w-eq1.true) c.if-e.true (ne_eqb _ _ c.if-e-eq1.false))
