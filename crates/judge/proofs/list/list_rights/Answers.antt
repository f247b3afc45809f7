-- The answer and the buffers are the list's, and so the demands hold of them.
use Rattle.judge.proofs.ListLaws.{met}
use Rattle.judge.proofs.list.list_rights.Goals as goal

pub returns : goal.returns
returns c =
    let x = c.list_bytes.ensures in
    let m = met _ _ _ _ _ _ _ x.answer x.out x.causes in
    record { answer = m.0; out = m.1.0; causes = m.1.1.0; demands = m.1.1.1 }
