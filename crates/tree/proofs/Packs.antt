-- Clips in a worklist of words.
use Rattle.std.proofs.Common.{◌≡◌, ℕ, zero, suc, ◌+◌, ◌-◌, ◌*◌, ◌/◌, ◌%◌, ◌^◌, ◌<◌, ◌≤◌, ltb, List, [], ◌∷◌, ◌++◌, map, length, get_or, take, drop, set, reverse, sym, refl, ap, ◌∙◌, subst, ap₂, pow-suc, arith, lit<, length-set, take-suc}
use native.Mathlib.Nat.{pow-le-pow_right}
use Rattle.std.proofs.lemmas.List.{drop_more, take_more_set, append_assoc, get_or-set_same, get_or-set_other, length-append, length-drop, length-take-le, take-append-le, take_all, get_or_append_left, get_or-append_right, get_or-drop, get_or-reverse, get_or-take, get_or_default, length-reverse, map_push, take_at, drop_at}
use Rattle.space.specs.declared.clip.StoredClip.{StoredClip}
use Rattle.space.specs.Row.{Row, stored_row, stored_rows}
use Rattle.ranked.specs.Rank.{ranked}
use Rattle.ranked.proofs.Ranks.{length_ranked}
use Rattle.rules.specs.Rows.{rising}
use Rattle.rules.specs.Finds.{Once}
use Rattle.rules.proofs.Risings.{keys_rise}
use Rattle.tree.specs.Leaving.{letters_of, clip_at, asides, clip_by, keyed, InOrder}
use Rattle.tree.proofs.Lists.{map_map, map_same}

pub unpack_step : (w i k j : ℕ) (r : List ℕ) (all : List ℕ) → k ≡ suc j → i < length r → take i r ++ letters_of k w ≡ all
    → take (i + 1) (set r i (w % 64)) ++ letters_of j (w / 64) ≡ all
unpack_step w i k j r all e l inv =
    ap (λ x. x ++ letters_of j (w / 64)) (take_more_set r i (w % 64) l) ∙ append_assoc (take i r) (w % 64 ∷ []) (letters_of j (w / 64))
    ∙ ap (λ n. take i r ++ letters_of n w) (sym e) ∙ inv

-- one letter more, from the last to the first: it is the one at n from behind
module _ (ls : List ℕ) (n w l : ℕ) (ten : length ls ≡ 10) (small : (k : ℕ) → get_or ls k 0 < 64) (turn : (n < length (reverse ls)) × (l ≡ get_or (reverse ls) n l)) (inv : (w < 64 ^ n) × (letters_of n w ≡ drop (10 - n) ls)) where
  before : n < 10
  before = omega (arith, turn.0, length-reverse ls)

  is : l ≡ get_or ls (9 - n) 0
  is =
      let i : length ls - 1 - n ≡ 9 - n = omega (arith, before) in
      turn.1 ∙ get_or-reverse ls n l (omega (arith, before)) ∙ ap (λ k. get_or ls k l) i ∙ get_or_default ls (9 - n) l 0 (omega (arith, before))

  below : l < 64
  below = subst (λ x. x < 64) (sym is) (small (9 - n))

  pub pack_fits : w * 64 + l < 2 ^ 64
  pack_fits = let nine : n ≤ 9 = omega (arith, before) in let up : 64 ^ n ≤ 64 ^ 9 = pow-le-pow_right (lit< tt) nine in omega (arith, inv.0, below)

  pub pack_more : (m : ℕ) → m ≡ n + 1 → (w * 64 + l < 64 ^ m) × (letters_of m (w * 64 + l) ≡ drop (10 - m) ls)
  pack_more m e =
      let here : 64 ^ suc n ≡ 64 ^ n * 64 = pow-suc 64 n in
      let a : (w * 64 + l) % 64 ≡ l = omega (arith, below) in
      let b : (w * 64 + l) / 64 ≡ w = omega (arith, below) in
      let at : 9 - n + 1 ≡ 10 - n = omega (arith, before) in
      let from : 9 - n ≡ 10 - m = omega (arith, before) in
      let z : suc n ≡ m = omega arith in (
        subst (λ k. w * 64 + l < 64 ^ k) z (omega (arith, below, inv.0)),
        ap (λ k. letters_of k (w * 64 + l)) (sym z) ∙ ap₂ (λ x y. x ∷ letters_of n y) a b ∙ ap₂ (λ x xs. x ∷ xs) is (inv.1 ∙ ap (λ k. drop k ls) (sym at))
            ∙ sym (drop_more ls (9 - n) 0 (omega (arith, before))) ∙ ap (λ k. drop k ls) from,
      )

-- words before the clip n stay, so do the clips
asides_same : (V W : List ℕ) (n : ℕ) → length V ≡ length W → ((k : ℕ) → k < n → get_or V k 0 ≡ get_or W k 0) → ((k : ℕ) → k < n → get_or V (length V / 2 + k) 0 ≡ get_or W (length V / 2 + k) 0)
    → asides V n ≡ asides W n
unfolding asides clip_at
asides_same V W zero e f g = refl
asides_same V W (suc n) e f g =
    let a = f n (omega arith) in
    let b : get_or V (length V / 2 + n) 0 ≡ get_or W (length W / 2 + n) 0 = g n (omega arith) ∙ ap (λ l. get_or W (l / 2 + n) 0) e in
    let ih = asides_same V W n e (λ k l. f k (omega arith)) (λ k l. g k (omega arith)) in
    ap₂ (λ xs x. xs ++ x ∷ []) ih (ap₂ (λ x y. record { number = x % 2 ^ 32; letters = letters_of 10 y }) a b)

pub aside_is : (W : List ℕ) (n w : ℕ) (clip : StoredClip) → 2 * n + 1 < length W → clip.number < 2 ^ 32 → letters_of 10 w ≡ clip.letters
    → asides (set (set W n clip.number) (length W / 2 + n) w) (suc n) ≡ asides W n ++ clip ∷ []
unfolding asides clip_at
aside_is W n w clip l fits is =
    let p = length W / 2 + n in
    let V1 = set W n clip.number in
    let V = set V1 p w in
    let l1 : length V1 ≡ length W = length-set W n clip.number in
    let l2 : length V ≡ length W = length-set V1 p w ∙ l1 in
    let q : length V / 2 + n ≡ length W / 2 + n = ap (λ x. x / 2 + n) l2 in
    let m : length W / 2 + n < length (set W n clip.number) = omega arith in
    let a : get_or V n 0 ≡ clip.number = get_or-set_other V1 p n w 0 (λ e. omega arith) ∙ get_or-set_same W n clip.number 0 (omega arith) in
    let b : get_or V (length V / 2 + n) 0 ≡ w = ap (λ k. get_or V k 0) q ∙ get_or-set_same V1 p w 0 m in
    let first : (k : ℕ) → k < n → get_or V k 0 ≡ get_or W k 0 = λ k h. get_or-set_other V1 p k w 0 (λ e. omega arith) ∙ get_or-set_other W n k clip.number 0 (λ e. omega arith) in
    let second : (k : ℕ) → k < n → get_or V (length V / 2 + k) 0 ≡ get_or W (length V / 2 + k) 0
    = λ k h. get_or-set_other V1 p (length V / 2 + k) w 0 (λ e. omega (arith, l2)) ∙ get_or-set_other W n (length V / 2 + k) clip.number 0 (λ e. omega (arith, l2)) in
    let c : get_or V n 0 % 2 ^ 32 ≡ clip.number = omega arith in
    ap₂ (λ xs x. xs ++ x ∷ []) (asides_same V W n l2 first second) (ap₂ (λ x (y : List ℕ). record { number = x; letters = y }) c (ap (letters_of 10) b ∙ is))

-- ---- keys in place of numbers
-- the words U are W with the first n made keys
pub record Keys (W U : List ℕ) (n : ℕ) : Type 0 where
  pub long : length U ≡ length W
  pub keys : (k : ℕ) → k < n → get_or U k 0 ≡ get_or W k 0 % 2 ^ 32 * 2 ^ 32 + k
  pub rest : (k : ℕ) → n ≤ k → get_or U k 0 ≡ get_or W k 0

past : (S U : List ℕ) (n j : ℕ) → length S ≡ n → n ≤ j → get_or (S ++ drop n U) j 0 ≡ get_or U j 0
past S U n j s h =
    let z : n + (j - n) ≡ j = omega arith in
    get_or-append_right S (drop n U) n j 0 s h ∙ get_or-drop n U (j - n) 0 ∙ ap (λ x. get_or U x 0) z

-- and W begins with those words
keys_front : (W I : List ℕ) (n : ℕ) → Keys (take n W) I n → n ≤ length W → Keys W (I ++ drop n W) n
keys_front W I n k l =
    let long : length I ≡ n = k.long ∙ length-take-le n W l in
    record {
      long = length-append I (drop n W) ∙ omega (arith, length-drop n W);
      keys = λ j h. get_or_append_left I (drop n W) 0 j (omega arith) ∙ k.keys j h ∙ ap (λ x. x % 2 ^ 32 * 2 ^ 32 + j) (get_or-take n W j 0 h);
      rest = λ j h. past I W n j long h;
    }

-- the keys stand for the clips set aside
keyed_is : (W U : List ℕ) (n : ℕ) → Keys W U n → 2 * n ≤ length W → n < 2 ^ 32 → (i : ℕ) → i ≤ n → keyed U i ≡ asides W i
unfolding asides clip_at clip_by
keyed_is W U n k l small zero h = refl
keyed_is W U n k l small (suc i) h =
    let ih = keyed_is W U n k l small i (omega arith) in
    let here : i < length U = omega (arith, k.long) in
    let key = k.keys i (omega arith) in
    let a : get_or U i 0 / 2 ^ 32 ≡ get_or W i 0 % 2 ^ 32 = omega arith in
    let b : get_or U i 0 % 2 ^ 32 ≡ i = omega arith in
    let c : get_or U (length U / 2 + get_or U i 0 % 2 ^ 32) 0 ≡ get_or W (length W / 2 + i) 0
    = ap (λ x. get_or U (length U / 2 + x) 0) b ∙ k.rest (length U / 2 + i) (omega (arith, k.long)) ∙ ap (λ x. get_or W (x / 2 + i) 0) k.long in
    ap (map (clip_by U)) (take-suc U i 0 here) ∙ map_push (clip_by U) (take i U) (get_or U i 0)
    ∙ ap₂ (λ xs x. xs ++ x ∷ []) ih (ap₂ (λ x y. record { number = x; letters = letters_of 10 y }) a c)

-- and put in rank they give them in rising number
pub in_order : (W I V : List ℕ) (n : ℕ) → Keys (take n W) I n → 2 * n ≤ length W → n < 2 ^ 32 → V ≡ ranked ltb I ++ drop n W → InOrder W V n
unfolding clip_by
in_order W I V n front l small made =
    let U = I ++ drop n W in
    let k = keys_front W I n front (omega arith) in
    let at : length I ≡ n = front.long ∙ length-take-le n W (omega arith) in
    let is : V ≡ ranked ltb (take n U) ++ drop n U = made ∙ ap₂ (λ x y. ranked ltb x ++ y) (sym (take_at I (drop n W) n at)) (sym (drop_at I (drop n W) n at)) in
    let S = ranked ltb (take n U) in
    let s : length (ranked ltb (take n U)) ≡ n = length_ranked ltb (take n U) ∙ length-take-le n U (omega (arith, k.long)) in
    let long : length V ≡ length U = ap length is ∙ length-append S (drop n U) ∙ omega (arith, length-drop n U, k.long) in
    let first : take n V ≡ S = ap (take n) is ∙ take-append-le n S (drop n U) (omega arith) ∙ take_all n S (omega arith) in
    let behind : (j : ℕ) → n ≤ j → get_or V j 0 ≡ get_or U j 0 = λ j h. ap (λ x. get_or x j 0) is ∙ past S U n j s h in
    let same : (key : ℕ) → clip_by V key ≡ clip_by U key
    = λ key. ap (λ x. record { number = key / 2 ^ 32; letters = letters_of 10 x })
    (behind (length V / 2 + key % 2 ^ 32) (omega (arith, long, k.long)) ∙ ap (λ x. get_or U (x / 2 + key % 2 ^ 32) 0) long) in
    let clips : keyed V n ≡ map (clip_by U) S = ap (map (clip_by V)) first ∙ map_same (clip_by V) (clip_by U) same S in
    record {
      long = long ∙ k.long;
      rows = λ d once.
          let f : ℕ → Row = λ key. stored_row d (clip_by U key) in
          let all : map f (take n U) ≡ stored_rows d (asides W n) = sym (map_map (stored_row d) (clip_by U) (take n U)) ∙ ap (stored_rows d) (keyed_is W U n k l small n (omega arith)) in
          ap (stored_rows d) clips ∙ map_map (stored_row d) (clip_by U) S
          ∙ keys_rise f (take n U) (λ key. refl) (subst Once (sym all) once) ∙ ap rising all;
    }
