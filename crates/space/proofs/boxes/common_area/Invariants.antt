use Rattle.std.proofs.Common.{◌≡◌, ℕ, ◌+◌, ◌*◌, ◌^◌, ◌<◌, ◌≤◌, get_or, length}
use Rattle.space.specs.Boxes.{common}
use Rattle.space.proofs.boxes.common_area.Given as goal

abbrev pub invariant-loop-set : goal.invariant-loop-set
invariant-loop-set l = record {
  can : (goal.iterator-loop-set).can_next l.set-iterator;
  finite : (goal.iterator-loop-set).is_finite l.set-iterator;
  value : l.product * common l.set-iterator.a.rest.now l.set-iterator.b.rest.now ≡ common l.a l.b;
  most : l.product ≤ 64 ^ length l.yielded;
  far : length l.yielded + length l.set-iterator.a.rest.now ≡ length l.a;
  words : (k : ℕ) → get_or l.set-iterator.a.rest.now k 0 < 2 ^ 64;
  even : length l.set-iterator.a.rest.now ≡ length l.set-iterator.b.rest.now;
}
