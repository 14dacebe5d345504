use Rattle.std.proofs.Common.{sym, ◌∙◌, arith}
use Rattle.std.proofs.lemmas.Bool.{le-ltb}
use Rattle.space.proofs.Sets.{has_shift, has_above}
use Rattle.space.proofs.boxes.has.Goals as goal

pub returns-then-letter-lt-LETTERS : goal.returns-then-letter-lt-LETTERS
returns-then-letter-lt-LETTERS c = has_shift c.args.set c.args.letter

pub returns-else-letter-lt-LETTERS : goal.returns-else-letter-lt-LETTERS
returns-else-letter-lt-LETTERS c =
    le-ltb c.args.letter 64 (omega arith) ∙ sym (has_above c.args.set c.args.letter (omega arith) (omega arith))
