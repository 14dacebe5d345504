use Rattle.std.proofs.Common.{◌≡◌, length}
use Rattle.catalogue.specs.Replays.{calls_of, Replayed}
use Rattle.catalogue.proofs.catalogue.Catalogue.replay.Given as goal

abbrev pub invariant-loop-i : goal.invariant-loop-i
invariant-loop-i l = Replayed l.initial.self l.self (calls_of (length l.initial.guard.words.now) l.calls) l.initial.answers l.answers l.i × (length l.guard.words.now ≡ length l.initial.guard.words.now)
