-- Where a line ends: at the first line feed, byte 10.
use Rattle.std.specs.Prelude.{ℕ, Bool, true, false, cond, List, [], ◌∷◌, Some, None, Option, ◌==◌}

-- the bytes before the first line feed
abbrev pub line_of : List ℕ → List ℕ
line_of [] = []
line_of (b ∷ bs) = cond (b == 10) [] (b ∷ line_of bs)

-- the bytes after the first line feed; none where there is none
abbrev pub rest_of : List ℕ → Option (List ℕ)
rest_of [] = None
rest_of (b ∷ bs) = cond (b == 10) (Some bs) (rest_of bs)

-- ---- all lines of a text, each with whether a line feed ends it; the last is what follows the last line feed

-- the first of some lines, one byte longer at its front
abbrev pub longer_first : ℕ → List (List ℕ × Bool) → List (List ℕ × Bool)
longer_first b [] = []
longer_first b (l ∷ ls) = (b ∷ l.0, l.1) ∷ ls

abbrev pub lines_of : List ℕ → List (List ℕ × Bool)
lines_of [] = ([], false) ∷ []
lines_of (b ∷ bs) = cond (b == 10) (([], true) ∷ lines_of bs) (longer_first b (lines_of bs))

-- those of what is left of a text, if any is
abbrev pub lines_left : Option (List ℕ) → List (List ℕ × Bool)
lines_left None = []
lines_left (Some text) = lines_of text
