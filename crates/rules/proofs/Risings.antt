-- Rows in rising numbers.
use Rattle.std.proofs.Common.{◌≡◌, ℕ, ◌/◌, ◌^◌, Bool, false, ltb, List, [], ◌∷◌, map, length, get_or, ◌∙◌, inl, arith}
use Rattle.std.specs.List.{ContainsAt as Has}
use Rattle.std.proofs.lemmas.List.{take_all}
use Rattle.std.proofs.ByRecursion.{All-map, All-weaker, all_has_itself}
use Rattle.std.proofs.lemmas.Bool.{ltb-true, ltb-false, le-ltb}
use Rattle.std.proofs.lemmas.Bool.Decides.{nat_tests}
use Rattle.ranked.specs.Rank.{Order, InRank, ranked}
use Rattle.ranked.specs.Same.{Same, then}
use Rattle.ranked.proofs.Sames.{same_sym, same_map, has_same, length_same}
use Rattle.ranked.proofs.Ranks.{ranked_holds, ranked_in_rank}
use Rattle.space.specs.Row.{Row}
use Rattle.rules.specs.Rows.{lower, rising}
use Rattle.rules.specs.Finds.{Once}
use Rattle.rules.proofs.Members.{apart_same, apart_from_at}
use Rattle.rules.proofs.Rises.{Rises, rises_at, rises_from_rank, front_only}
use Rattle.rules.proofs.Rankings.{number}

pub lower_order : Order lower
lower_order = record { one_way = λ x y h. grind (arith, nat_tests); chain = λ x y z h k. grind (arith, nat_tests) }

-- two of which neither is lower have one number
lower_tie : (x y : Row) → lower x y ≡ false → lower y x ≡ false → x.number ≡ y.number
lower_tie x y h k = grind (arith, nat_tests)

pub rising_same : (rows : List Row) → Same rows (rising rows)
rising_same rows = ranked_holds lower rows

-- rows of distinct numbers, in rising numbers, rise
pub rising_rises : (rows : List Row) → Once rows → Rises lower (rising rows)
rising_rises rows once =
    rises_from_rank lower number lower_tie (rising rows) (ranked_in_rank lower lower_order rows)
    (apart_same number (rising_same rows) (apart_from_at number rows once))

-- rows that rise have distinct numbers
pub rises_once : (rows : List Row) → Rises lower rows → Once rows
rises_once rows up i j r h l e =
    let a = ltb-true (get_or rows i r).number (get_or rows j r).number (rises_at lower rows i j r up h l) in omega arith

-- rows that rise and are those rows are the rows in rising numbers
pub rising_only : (rows ys : List Row) → Once rows → Same rows ys → Rises lower ys → ys ≡ rising rows
rising_only rows ys once s up =
    let t : Same (rising rows) ys = then (same_sym (rising_same rows)) s in
    let n : length (rising rows) ≡ length ys = length_same t in
    front_only lower lower_order (length ys) ys (rising rows) up (rising_rises rows once)
    (All-weaker (Has ys) (Has (rising rows)) (λ y h. has_same y (same_sym t) h) ys (all_has_itself ys))
    (λ y h. inl (has_same y t h)) (omega arith)
    ∙ take_all (length ys) (rising rows) (omega arith)

-- a list in rank by one order is in rank by another that tells less
in_rank_map : {X Y : Type 0} (before : X → X → Bool) (other : Y → Y → Bool) (f : X → Y) → ((x y : X) → before x y ≡ false → other (f x) (f y) ≡ false)
    → (xs : List X) → InRank before xs → InRank other (map f xs)
in_rank_map before other f h [] r = tt
in_rank_map before other f h (x ∷ xs) r = (
  All-map (λ y. other y (f x) ≡ false) f xs (All-weaker (λ y. before y x ≡ false) (λ y. other (f y) (f x) ≡ false) (λ y. h y x) xs r.0),
  in_rank_map before other f h xs r.1,
)

-- Words that have a row's number in their upper half and, in the lower half, where the row is found: in rank they give the rows in rising numbers.
pub keys_rise : (f : ℕ → Row) (keys : List ℕ) → ((k : ℕ) → (f k).number ≡ k / 2 ^ 32) → Once (map f keys) → map f (ranked ltb keys) ≡ rising (map f keys)
keys_rise f keys n once =
    let s : Same (map f keys) (map f (ranked ltb keys)) = same_map f (ranked_holds ltb keys) in
    let words : Order ltb = record { one_way = λ x y h. grind (arith, nat_tests); chain = λ x y z h k. grind (arith, nat_tests) } in
    rising_only (map f keys) (map f (ranked ltb keys)) once s
    (rises_from_rank lower number lower_tie (map f (ranked ltb keys))
    (in_rank_map ltb lower f (λ x y h. le-ltb (f x).number (f y).number (let u = ltb-false x y h in omega (arith, n x, n y))) (ranked ltb keys) (ranked_in_rank ltb words keys))
    (apart_same number s (apart_from_at number (map f keys) once)))
