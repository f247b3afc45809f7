-- The pairs with two levels, and with one.
use Rattle.rights.specs.Direct.{ap}
use Rattle.rights.specs.Mirror.Parts.{descriptor_words}
use Rattle.rights.specs.Mirror.Words.{keep_of, take_of}
use Rattle.rights.proofs.words.tables.descriptor_words.Goals as goal

pub returns-then-two : goal.returns-then-two
unfolding descriptor_words keep_of take_of ap
returns-then-two c = rw c.if-two.true

pub returns : goal.returns
unfolding descriptor_words keep_of take_of ap
returns c = rw c.if-two.false
