-- What the lines of a session say.
use Rattle.std.specs.Prelude.{ℕ, Bool, true, cond, ◌&&◌, List, [], ◌∷◌, Some, None, Option, ◌==◌, nat_le}
use Rattle.std.specs.Option.{option_map}
use Rattle.lines.specs.Fields.{fields_of}
use Rattle.space.specs.Boxes.{given}

pub data Said : Type 0 where
  -- a plan of some sizes
  plan : List ℕ → Said
  -- a clip: its number and its letters
  clip : ℕ → List ℕ → Said
  -- a dimension, from 1, and the letter that is barred there
  bar : ℕ → ℕ → Said
  -- the cut-off
  cut : ℕ → Said
  -- how many clips, and the query
  near : ℕ → List ℕ → Said

-- letters and sizes are bytes
abbrev pub all_bytes : List ℕ → Bool
all_bytes [] = true
all_bytes (n ∷ ns) = nat_le n 255 && all_bytes ns

abbrev pub bytes_of : List ℕ → Option (List ℕ)
bytes_of ns = given (all_bytes ns) ns

-- what some fields say after each character
abbrev pub plan_said : List ℕ → Option Said
plan_said ns = option_map plan (bytes_of ns)

abbrev pub clip_said : List ℕ → Option Said
clip_said [] = None
clip_said (n ∷ ns) = option_map (clip n) (bytes_of ns)

abbrev pub bar_said : List ℕ → Option Said
bar_said [] = None
bar_said (d ∷ []) = None
bar_said (d ∷ l ∷ []) = given (nat_le l 255) (bar d l)
bar_said (d ∷ l ∷ n ∷ ns) = None

abbrev pub cut_said : List ℕ → Option Said
cut_said [] = None
cut_said (n ∷ []) = Some (cut n)
cut_said (n ∷ m ∷ ns) = None

abbrev pub near_said : List ℕ → Option Said
near_said [] = None
near_said (k ∷ ns) = option_map (near k) (bytes_of ns)

-- by the character: P, E, B, C and N
abbrev pub said_by : ℕ → List ℕ → Option Said
said_by c ns =
    cond (c == 80) (plan_said ns)
    (cond (c == 69) (clip_said ns) (cond (c == 66) (bar_said ns) (cond (c == 67) (cut_said ns) (cond (c == 78) (near_said ns) None))))

abbrev pub said_after : ℕ → Option (List ℕ) → Option Said
said_after c None = None
said_after c (Some ns) = said_by c ns

-- what a line says; none of a bad line
abbrev pub said_of : List ℕ → Option Said
said_of [] = None
said_of (c ∷ text) = said_after c (fields_of text)
