use Rattle.std.proofs.Common.{◌≡◌, ℕ, ◌<◌, ◌≤◌, get_or, length}
use Rattle.space.proofs.boxes.rewrite.Given as goal

abbrev pub invariant-loop-i : goal.invariant-loop-i
invariant-loop-i g l = record {
  written : (k : ℕ) (d : _) → k < l.i → k < length l.initial.sets → k < length l.other → goal.F-post g l.f (get_or l.initial.sets k 0) (get_or l.other k d) (get_or l.sets k 0);
  kept : (k : ℕ) → l.i ≤ k → get_or l.sets k 0 ≡ get_or l.initial.sets k 0;
}
