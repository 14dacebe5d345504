-- A list that is written anew.
use Rattle.std.specs.Prelude.{◌≡◌, ℕ, ◌<◌, ◌≤◌, List, length, slice_index, slice_index_or}

-- As far as both lists go, each element has become what R allows of what it was and of what stands there in the other list; the others stay.
pub record Rewritten {Y : Type 0} (R : ℕ → Y → ℕ → Type 0) (old : List ℕ) (other : List Y) (new : List ℕ) : Type 0 where
  pub long : length new ≡ length old
  pub written : (k : ℕ) (d : Y) → k < length old → k < length other → R (slice_index old k) (slice_index_or other k d) (slice_index new k)
  pub kept : (k : ℕ) → length other ≤ k → slice_index new k ≡ slice_index old k
