use Rattle.std.proofs.Common.{◌≡◌}
use Rattle.tree.specs.Standing.{EnteredAgain}
use Rattle.tree.proofs.nodes.Nodes.enter_again.Given as goal

abbrev pub invariant-loop-k : goal.invariant-loop-k
invariant-loop-k l = record {
  dims : l.self.dims ≡ l.initial.self.dims;
  free : l.free.places.items ≡ l.initial.free.places.items;
  entered : EnteredAgain l.initial.self.dims l.initial.self.places.items l.self.places.items l.initial.free.places.items l.worklist.words.now
      l.fn.root.height l.fn.root.place l.worklist.clips l.k l.free.used l.after.height l.after.place;
}
