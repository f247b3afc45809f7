-- `file` writes the text of what was read. Assumes nothing.
use Rattle.std.proofs.Common.{rules, arith, sym, ◌≡◌, ◌*◌, ◌/◌, length, take, length-take-le}
use Rattle.text.proofs.Files.{of_map, of-refused}
use Rattle.text.proofs.writer.Writer.file.Goals as goal

pub overflow_mul-leaves : goal.overflow_mul-leaves
overflow_mul-leaves c =
    let r = c.read_file.ensures in
    let m = of_map _ _ _ _ (r.answer, r.leaves) c.in-Ok.is in
    search rules

pub slice_bounds-leaves-end : goal.slice_bounds-leaves-end
slice_bounds-leaves-end c =
    let r = c.read_file.ensures in
    (of_map _ _ _ _ (r.answer, r.leaves) c.in-Ok.is).long

pub slice_bounds-list-end : goal.slice_bounds-list-end
slice_bounds-list-end c =
    let r = c.read_file.ensures in
    sym (length-take-le _ _ (of_map _ _ _ _ (r.answer, r.leaves) c.in-Ok.is).long)

pub list-requires : goal.list-requires
list-requires c =
    let r = c.read_file.ensures in
    let m = of_map _ _ _ _ (r.answer, r.leaves) c.in-Ok.is in
    omega (arith, m.few, length-take-le _ _ m.long)

pub returns-in-Ok : goal.returns-in-Ok
returns-in-Ok c =
    let r = c.read_file.ensures in
    let m = of_map _ _ _ _ (r.answer, r.leaves) c.in-Ok.is in
    let n : length (take (c.in-Ok.n * 18) c.read_file.new.leaves) / 18 ≡ c.in-Ok.n = omega (arith, length-take-le _ _ m.long) in
    rw (m.text, ← c.setup_bytes.ensures) (rw n at c.list.ensures)

pub returns-in-Err : goal.returns-in-Err
returns-in-Err c =
    let r = c.read_file.ensures in
    rw (of-refused _ _ _ _ (r.answer, r.leaves) c.in-Err.is) (let l = rw c.number.ensures at c.refusal.ensures in record { text = l.text; short = omega (arith, l.short) })
