-- A catalogue as it is seen: void, or a plan, a capacity and a tree. What each call answers, and what it leaves.
use Rattle.std.specs.Prelude.{◌≡◌, ℕ, List, [], length, Some, None, Option}
use Rattle.rules.specs.Tree.{Tree, empty, rows_in, boxes_in}
use Rattle.rules.specs.Refusals.{Refusal, refused_at, of_fit, of_within, of_nearest, of_count, of_save}
use Rattle.rules.specs.File.{saved}
use Rattle.rules.specs.Register.{Call, answer, ruled, unless, grown}

pub data Seen : Type 0 where
  void : Seen
  standing : List ℕ → ℕ → Tree → Seen

-- a start with that plan, that capacity and a table of so many boxes
abbrev pub started : List ℕ → ℕ → ℕ → Seen
started plan capacity boxes = unless (of_fit plan capacity boxes) (standing plan capacity (empty (length plan))) void

-- the calls that change a catalogue
abbrev pub told : Seen → Call → Option Refusal
told void c = Some (refused_at 20 0 0)
told (standing plan capacity t) c = answer plan capacity (rows_in t) c

abbrev pub after : Seen → Call → Seen
after void c = void
after (standing plan capacity t) c = standing plan capacity (unless (answer plan capacity (rows_in t) c) (ruled plan t c) t)

-- those that only read it
abbrev pub within_told : Seen → List ℕ → ℕ → Option Refusal
within_told void q words = Some (refused_at 20 0 0)
within_told (standing plan capacity t) q words = of_within plan q (boxes_in t) words

abbrev pub nearest_told : Seen → List ℕ → ℕ → ℕ → ℕ → Option Refusal
nearest_told void q k slots words = Some (refused_at 20 0 0)
nearest_told (standing plan capacity t) q k slots words = of_nearest plan q k slots (boxes_in t) words

abbrev pub count_told : Seen → Option Refusal
count_told void = Some (refused_at 20 0 0)
count_told (standing plan capacity t) = of_count (rows_in t)

abbrev pub save_told : Seen → ℕ → Option Refusal
save_told void room = Some (refused_at 20 0 0)
save_told (standing plan capacity t) room = of_save (length (saved plan (rows_in t))) room

-- A catalogue that a start with that plan and capacity, fit for its table of so many boxes, and then those calls have made.
pub record Made (plan : List ℕ) (capacity : ℕ) (calls : List Call) (boxes : ℕ) (s : Seen) : Type 0 where
  pub fit : of_fit plan capacity boxes ≡ None
  pub seen : s ≡ standing plan capacity (grown plan capacity [] (empty (length plan)) calls)
