use Rattle.std.proofs.Common.{◌≡◌, ◌-◌, ◌++◌, length, take}
use Rattle.tree.specs.Leaving.{letters_of}
use Rattle.tree.proofs.aside.unpacked.Given as goal

abbrev pub invariant-loop-letter : goal.invariant-loop-letter
invariant-loop-letter l = (length l.letter-items ≡ 10) × (take l.letter-index l.letter-items ++ letters_of (10 - l.letter-index) l.rest ≡ letters_of 10 l.word)
