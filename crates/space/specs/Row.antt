-- A clip as the rules see it.
use Rattle.std.specs.Prelude.{ℕ, ◌-◌, List, ◌++◌, map, length, take, replicate, vec_items}
use Rattle.space.specs.declared.clip.Clip.{Clip}
use Rattle.space.specs.declared.clip.StoredClip.{StoredClip}

-- a clip's number, and its letters, one for each dimension
pub record Row : Type 0 where
  pub number : ℕ
  pub letters : List ℕ

-- the row of a clip that a program holds
abbrev pub row_of : Clip → Row
row_of c = record { number = c.number; letters = vec_items c.letters }

abbrev pub rows_of : List Clip → List Row
rows_of clips = map row_of clips

-- the row of a clip that is stored in a place of fixed size, of d dimensions
abbrev pub stored_row : ℕ → StoredClip → Row
stored_row d c = record { number = c.number; letters = take d c.letters }

abbrev pub stored_rows : ℕ → List StoredClip → List Row
stored_rows d clips = map (stored_row d) clips

-- a row of up to ten letters in a place of fixed size: behind the letters stand zeros
abbrev pub stored_as : Row → StoredClip
stored_as r = record { number = r.number; letters = r.letters ++ replicate (10 - length r.letters) 0 }
