-- `list` writes the lines of the map where its list is done. Assumes nothing.
use Rattle.text.proofs.Files.{done}
use Rattle.text.proofs.writer.Writer.list.Goals as goal

pub returns-in-Ok : goal.returns-in-Ok
returns-in-Ok c =
    let l = c.list_rights.ensures in
    rw (done _ _ _ _ _ _ l.answer l.out c.in-Ok.is) c.map.ensures
