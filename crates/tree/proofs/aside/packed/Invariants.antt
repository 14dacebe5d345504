use Rattle.std.proofs.Common.{◌≡◌, ◌-◌, ◌^◌, ◌<◌, length, drop}
use Rattle.tree.specs.Leaving.{letters_of}
use Rattle.tree.proofs.aside.packed.Given as goal

abbrev pub invariant-loop-letter : goal.invariant-loop-letter
invariant-loop-letter l = (l.word < 64 ^ length l.yielded) × (letters_of (length l.yielded) l.word ≡ drop (10 - length l.yielded) l.fn.letters)
