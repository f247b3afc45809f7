-- `write_listing` writes the text of the file, all of which fits. Assumes nothing.
use Rattle.std.proofs.Common.{◌∙◌, rules, arith}
use Rattle.text.proofs.Files.{answer, short}
use Rattle.text.proofs.WriterLaws.{whole}
use Rattle.text.specs.Listing.{text_of}
use Rattle.text.proofs.write_listing.Goals as goal

pub returns-then-out-lt36864 : goal.returns-then-out-lt36864
returns-then-out-lt36864 c =
    let a = short c.args.file.now c.args.out.now (omega arith) in
    record { count = a.0; text = a.1.0; within = a.1.1 }

pub returns : goal.returns
returns c =
    let f = c.file.ensures in
    let w = whole c.args.out.now (text_of c.args.file.now) c.file.new.self (omega (arith, f.short)) (f.text.text _ _ c.new-writer.ensures.empty) in
    let a = answer c.args.file.now c.args.out.now _ c.finish.result (omega arith) (c.finish.ensures.len ∙ w.0, search (rules, w.1)) in
    record { count = a.0; text = a.1.0; within = a.1.1 }
