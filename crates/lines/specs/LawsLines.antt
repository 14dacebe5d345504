-- What lines and fields are, said of the text and not of how it is read.
use Rattle.std.specs.Prelude.{◌≡◌, ℕ, ◌+◌, ◌-◌, ◌*◌, ◌^◌, ◌<◌, true, List, [], ◌∷◌, ◌++◌, map, length, Some, MatchOption, is_some, ◌≢◌}
use Rattle.std.specs.List.{AllByRecursion}
use Rattle.lines.specs.Lines.{line_of, rest_of, lines_of, lines_left}
use Rattle.lines.specs.Fields.{digit, fields_of}

-- no line feed
abbrev pub Plain : List ℕ → Type 0
Plain bs = AllByRecursion (λ b. b ≢ 10) bs

-- a text is its first line, a line feed and the rest, or its first line alone, and the line has no line feed; and all its lines are this one
-- and those of the rest
abbrev pub LinesLaw : Type 0
LinesLaw = (text : List ℕ)
    → Plain (line_of text)
    × MatchOption (rest_of text) (text ≡ line_of text) (λ rest. text ≡ line_of text ++ (10 ∷ rest))
    × (lines_of text ≡ (line_of text, is_some (rest_of text)) ∷ lines_left (rest_of text))

-- the value of some digits, in base ten, the most significant first
abbrev pub value_of : List ℕ → ℕ
value_of [] = 0
value_of (b ∷ bs) = (b - 48) * 10 ^ length bs + value_of bs

-- a field: one digit or more, of a value that 32 bits hold
abbrev pub Field : List ℕ → Type 0
Field bs = AllByRecursion (λ b. digit b ≡ true) bs × (0 < length bs) × (value_of bs < 2 ^ 32)

-- some fields, one space before each
abbrev pub spaced : List (List ℕ) → List ℕ
spaced [] = []
spaced (f ∷ fs) = 32 ∷ (f ++ spaced fs)

-- The values of some fields are read from the fields with a space before each, and from no other text.
abbrev pub FieldsLaw : Type 0
FieldsLaw =
    ((fs : List (List ℕ)) → AllByRecursion Field fs → fields_of (spaced fs) ≡ Some (map value_of fs))
    × ((text ns : List ℕ) → fields_of text ≡ Some ns → (fs : List (List ℕ)) × AllByRecursion Field fs × (text ≡ spaced fs) × (map value_of fs ≡ ns))
