-- The fields of a text, as they are read, byte by byte: for each field a space, byte 32, and then digits, bytes 48 to 57.
use Rattle.std.specs.Prelude.{ℕ, ◌+◌, ◌-◌, ◌*◌, ◌^◌, Bool, cond, ◌&&◌, List, [], ◌∷◌, Some, None, Option, ◌==◌, nat_le, nat_lt}
use Rattle.std.specs.Option.{unwrap_or}

abbrev pub digit : ℕ → Bool
digit b = nat_le 48 b && nat_le b 57

-- a number of 32 bits
abbrev pub fitting : ℕ → Option ℕ
fitting n = cond (nat_lt n (2 ^ 32)) (Some n) None

-- A field one digit longer. What is read of it is its value so far, or none right after its space.
abbrev pub longer : Option ℕ → ℕ → Option ℕ
longer value b = cond (digit b) (fitting (unwrap_or value 0 * 10 + (b - 48))) None

-- a field before some fields; an empty field is none
abbrev pub first : Option ℕ → Option (List ℕ) → Option (List ℕ)
first None ns = None
first (Some n) None = None
first (Some n) (Some ns) = Some (n ∷ ns)

abbrev pub onward : {X : Type 0} → Option ℕ → (ℕ → Option X) → Option X
onward None f = None
onward (Some n) f = f n

-- the fields of what is left of a text, where so much is read of the first
abbrev pub fields_from : Option ℕ → List ℕ → Option (List ℕ)
fields_from value [] = first value (Some [])
fields_from value (b ∷ bs) =
    cond (b == 32) (first value (fields_from None bs)) (onward (longer value b) (λ n. fields_from (Some n) bs))

-- the fields of a text; none where it is malformed
abbrev pub fields_of : List ℕ → Option (List ℕ)
fields_of [] = Some []
fields_of (b ∷ bs) = cond (b == 32) (fields_from None bs) None
