-- The steps of the code: what each turn of a loop keeps, and what the calls come to.
use Rattle.std.proofs.Common.{◌≡◌, ℕ, zero, suc, ◌+◌, ◌-◌, ◌<◌, ◌≤◌, min, Bool, true, false, not, cond, ltb, Some, None, List, [], ◌∷◌, ◌++◌, length, get_or, take, drop, set, sym, refl, ap, ◌∙◌, subst, ⊎_elim, arith}
use Rattle.std.specs.List.{insert, position, position_or_len, CopiedTo, SameBelow}
use Rattle.std.specs.Option.{unwrap_or}
use Rattle.std.proofs.lemmas.List.{take-take, take_all, ext_get_or, get_or-take, get_or-set_other, get_or-set_same, length-take, length-take-le, drop_more, drop_all, drop-drop}
use Rattle.std.proofs.lemmas.List.Edits.{get_or-insert_at, get_or-insert_below, get_or-insert_above, length-insert}
use Rattle.std.proofs.lemmas.Bool.{cases_lt}
use Rattle.std.proofs.lemmas.Bool.Decides.{nat_tests}
use Rattle.std.proofs.Math.ListN.{length-set}
use Rattle.ranked.specs.Rank.{place, rank_of, ranked, Order, Tie, InRank, keep_first}
use Rattle.ranked.proofs.Places.{rank_within, place_at_rank, length_place}
use Rattle.ranked.proofs.Ranks.{keep_first_is, keep_first_in_rank}

-- the element that a loop reads is the first of what is left
read_drop : {X : Type 0} (xs : List X) (i : ℕ) (x : X) → i < length xs → x ≡ get_or xs i x → drop i xs ≡ x ∷ drop (i + 1) xs
read_drop xs i x h read = drop_more xs i x h ∙ ap (λ y. y ∷ drop (i + 1) xs) (sym read)

-- how many elements stand to the left is the place of the first that the item stands before
pub rank_found : {X : Type 0} (before : X → X → Bool) (e : X) (xs : List X) → unwrap_or (position (before e) xs) (length xs) ≡ rank_of before e xs
rank_found before e [] = refl
rank_found {X} before e (x ∷ xs) = go (before e x) (rank_found before e xs)
  where
    n : ℕ
    n = position_or_len (before e) xs

    later : (b : Bool) → ltb n (length xs) ≡ b → unwrap_or (cond b (Some n) None) (length xs) ≡ rank_of before e xs
        → unwrap_or (cond (ltb (1 + n) (length (x ∷ xs))) (Some (1 + n)) None) (length (x ∷ xs)) ≡ suc (rank_of before e xs)
    later true q more =
        let t : ltb (1 + n) (length (x ∷ xs)) ≡ true = grind (arith, nat_tests) in
        ap (λ b. unwrap_or (cond b (Some (1 + n)) None) (length (x ∷ xs))) t ∙ (let z : 1 + n ≡ suc (rank_of before e xs) = omega (arith, more) in z)
    later false q more =
        let t : ltb (1 + n) (length (x ∷ xs)) ≡ false = grind (arith, nat_tests) in
        ap (λ b. unwrap_or (cond b (Some (1 + n)) None) (length (x ∷ xs))) t ∙ (let z : suc (length xs) ≡ suc (rank_of before e xs) = omega (arith, more) in z)

    go : (b : Bool) → unwrap_or (position (before e) xs) (length xs) ≡ rank_of before e xs
        → unwrap_or (cond (ltb (cond (not b) (1 + n) 0) (length (x ∷ xs))) (Some (cond (not b) (1 + n) 0)) None) (length (x ∷ xs)) ≡ cond b 0 (suc (rank_of before e xs))
    go true more = let t : ltb 0 (length (x ∷ xs)) ≡ true = grind (arith, nat_tests) in ap (λ b. unwrap_or (cond b (Some 0) None) (length (x ∷ xs))) t
    go false more = later (ltb n (length xs)) refl more

-- the elements from a on moved one place up, and the item written there
pub moved_up : {X : Type 0} (xs s : List X) (a e : ℕ) (item : X) → a < e → e ≤ length xs → length s ≡ length xs → CopiedTo xs s a (a + 1) (e - 1 - a) → SameBelow xs s (a + 1)
    → take e (set s a item) ≡ take e (insert xs a item)
moved_up xs s a e item h k n copied below =
    ext_get_or item (take e (set s a item)) (take e (insert xs a item)) (simp (length-take, length-set, length-insert xs a item low) (omega arith))
    (λ i l.
    let m = length-take e (set s a item) in let near : i < e = omega arith in
    get_or-take e (set s a item) i item near ∙ at i near ∙ sym (get_or-take e (insert xs a item) i item near))
  where
    low : a ≤ length xs
    low = omega arith

    behind : (i : ℕ) → a < i → i < e → get_or s i item ≡ get_or (insert xs a item) i item
    behind i m near =
        let one : i - 1 + 1 ≡ i = omega arith in
        let back : a + (i - (a + 1)) ≡ i - 1 = omega arith in
        copied i item (omega arith) (omega arith) ∙ ap (λ j. get_or xs j item) back
        ∙ sym (get_or-insert_above xs a item item (i - 1) (omega arith) low) ∙ ap (λ j. get_or (insert xs a item) j item) one

    at : (i : ℕ) → i < e → get_or (set s a item) i item ≡ get_or (insert xs a item) i item
    at i near =
        ⊎_elim
        (λ (m : i < a). get_or-set_other s a i item item (omega arith) ∙ below i item (omega arith) ∙ sym (get_or-insert_below xs a item item i m low))
        (λ (m : a ≤ i). ⊎_elim
        (λ (q : a < i). get_or-set_other s a i item item (omega arith) ∙ behind i q near)
        (λ (q : i ≤ a). let z : i ≡ a = omega arith in rw z (get_or-set_same s a item item (omega arith) ∙ sym (get_or-insert_at xs a item item low)))
        (cases_lt a i))
        (cases_lt i a)

-- ---- insert
-- a cut past the end of a list is none
take_least : {X : Type 0} (n m : ℕ) (xs : List X) → length xs ≤ n → take (min n m) xs ≡ take m xs
take_least n m xs h =
    ⊎_elim
    (λ (less : m < n). ap (λ i. take i xs) (let e : min n m ≡ m = omega arith in e))
    (λ (more : n ≤ m). take_all (min n m) xs (omega arith) ∙ sym (take_all m xs (omega arith)))
    (cases_lt m n)

-- a length above the slice's counts as the slice's
pub take_held : {X : Type 0} (n held : ℕ) (xs : List X) → held ≡ min n (length xs) → take held xs ≡ take n xs
take_held n held xs h = ap (λ i. take i xs) (let e : held ≡ min (length xs) n = omega arith in e) ∙ take_least (length xs) n xs (omega arith)

-- an insertion into the front is one into the list
inserted_front : {X : Type 0} (at n : ℕ) (l : List X) (e : X) → at ≤ n → take (suc n) (insert l at e) ≡ insert (take n l) at e
inserted_front zero n l e h = refl
inserted_front (suc at) zero l e h = absurd (let z : suc at ≤ 0 = h in omega arith)
inserted_front (suc at) (suc n) [] e h = refl
inserted_front (suc at) (suc n) (x ∷ xs) e h = ap (λ t. x ∷ t) (inserted_front at n xs e (omega arith))

pub insert_front : {X : Type 0} (before : X → X → Bool) (l s : List X) (len held at end : ℕ) (e : X) → held ≡ min len (length l)
    → at ≡ rank_of before e (take (held - 0) l) → end ≡ min (held + 1) (length l) → take end s ≡ take end (insert l at e)
    → take end s ≡ take (length l) (place before e (take len l))
insert_front before l s len held at end e held-is at-is end_is put =
    let p = place before e (take held l) in
    let z : held - 0 ≡ held = omega arith in
    let r : at ≡ rank_of before e (take held l) = rw z at at-is in
    let m : length (take held l) ≡ held = length-take-le held l (omega arith) in
    let w : rank_of before e (take held l) ≤ length (take held l) = rank_within before e (take held l) in
    let n : length p ≡ suc (length (take held l)) = length_place before e (take held l) in
    let a : take (suc held) (insert l at e) ≡ p =
    inserted_front at held l e (omega arith) ∙ ap (λ i. insert (take held l) i e) r ∙ sym (place_at_rank before e (take held l)) in
    put
    ∙ sym (take-take end (suc held) (insert l at e) (omega arith))
    ∙ ap (take end) a
    ∙ ap (λ i. take i p) end_is
    ∙ take_least (held + 1) (length l) p (omega arith)
    ∙ ap (λ q. take (length l) (place before e q)) (take_held len held l held-is)

-- the place that `put` asks for
pub insert_fits : {X : Type 0} (before : X → X → Bool) (l : List X) (held at end : ℕ) (e : X) → held ≤ length l
    → at ≡ rank_of before e (take (held - 0) l) → end ≡ min (held + 1) (length l) → (at ≤ end) × (end ≤ length l)
insert_fits before l held at end e fits at-is end_is =
    let w = rank_within before e (take (held - 0) l) in
    let m = length-take (held - 0) l in
    (omega arith, omega arith)

-- ---- what insert and insert_all say of a list in rank
module _ {X : Type 0} (before : X → X → Bool) (order : Order before) (tie : Tie before) (l front xs : List X) (len : ℕ) (is : front ≡ keep_first before (length l) (take len l) xs) where
  pub first_from : InRank before (take len l) → front ≡ take (length l) (ranked before (xs ++ take len l))
  first_from h = is ∙ keep_first_is before order tie (length l) (take len l) xs h (let e = length-take len l in omega arith)

  pub stays_from : InRank before (take len l) → InRank before front
  stays_from h = subst (InRank before) (sym is) (keep_first_in_rank before order (length l) (take len l) xs h)

-- ---- insert_all
-- what lies behind a later end is as it was behind an earlier one
pub drop_later : {X : Type 0} (n m : ℕ) (xs ys : List X) → n ≤ m → drop n xs ≡ drop n ys → drop m xs ≡ drop m ys
drop_later n m xs ys h e =
    let s : n + (m - n) ≡ m = omega arith in
    ap (λ i. drop i xs) (sym s) ∙ sym (drop-drop (m - n) n xs) ∙ ap (drop (m - n)) e ∙ drop-drop (m - n) n ys ∙ ap (λ i. drop i ys) s

pub insert_more : {X : Type 0} (before : X → X → Bool) (cap cap' : ℕ) (kept next items : List X) (i : ℕ) (x : X) → cap' ≡ cap
    → i < length items → x ≡ get_or items i x → next ≡ take cap' (place before x kept)
    → keep_first before cap next (drop (i + 1) items) ≡ keep_first before cap kept (drop i items)
insert_more before cap cap' kept next items i x same h read is =
    ap (λ l. keep_first before cap l (drop (i + 1) items)) (is ∙ ap (λ n. take n (place before x kept)) same)
    ∙ ap (keep_first before cap kept) (sym (read_drop items i x h read))

pub insert_done : {X : Type 0} (before : X → X → Bool) (cap : ℕ) (kept items all : List X) (i : ℕ) → length items ≤ i
    → keep_first before cap kept (drop i items) ≡ all → kept ≡ all
insert_done before cap kept items all i h e = sym (ap (keep_first before cap kept) (drop_all i items h)) ∙ e
