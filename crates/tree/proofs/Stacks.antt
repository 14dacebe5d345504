-- The stack of free places, when a clip is entered.
use Rattle.std.proofs.Common.{◌≡◌, ℕ, zero, suc, ◌+◌, ◌<◌, ◌≤◌, Bool, true, false, cond, ltb, List, [], ◌∷◌, length, get_or, take, drop, sym, ap, ◌∙◌, ⊎_elim, arith}
use Rattle.std.proofs.lemmas.List.{take-append-drop}
use Rattle.std.proofs.lemmas.Bool.{cases_lt, le-ltb}
use Rattle.space.specs.declared.clip.StoredClip.{StoredClip}
use Rattle.tree.specs.declared.node.Node.{Node}
use Rattle.tree.specs.Nodes.{spot, one, total, times, held, EnteredRoot}
use Rattle.tree.specs.Leaving.{stock, EachOnce, EnteredClip}
use Rattle.tree.proofs.Frame.{one_self}
use Rattle.tree.proofs.Siblings.{total_append, total_at}

drop_add : {E : Type 0} (t u : ℕ) (F : List E) → drop u (drop t F) ≡ drop (t + u) F
drop_add zero u F = let e : 0 + u ≡ u = omega arith in ap (λ n. drop n F) (sym e)
drop_add (suc t) zero [] = let e : suc t + 0 ≡ suc t = omega arith in ap (λ n. drop n []) (sym e)
drop_add (suc t) (suc u) [] = let e : suc t + suc u ≡ suc (t + suc u) = omega arith in ap (λ n. drop n []) (sym e)
drop_add (suc t) u (x ∷ F) = let e : suc t + u ≡ suc (t + u) = omega arith in drop_add t u F ∙ ap (λ n. drop n (x ∷ F)) (sym e)

-- the first u of the free places and the others
pub stock_split : (F : List ℕ) (t u k : ℕ) → held (drop t F) u k + stock F (t + u) k ≡ stock F t k
stock_split F t u k =
    let w = ap (total (λ e. one e k)) (take-append-drop u (drop t F)) in
    omega (arith, w, total_append (λ e. one e k) (take u (drop t F)) (drop u (drop t F)), ap (total (λ e. one e k)) (drop_add t u F))

held_le : (F : List ℕ) (t u k : ℕ) → held (drop t F) u k ≤ stock F t k
held_le F t u k = omega (arith, stock_split F t u k)

module _ (N : List Node) (F : List ℕ) (t h i : ℕ) (spread : EachOnce N F t h i) where
  at_most : (k : ℕ) → cond (ltb k (length N)) 1 0 ≤ 1
  at_most k = go (ltb k (length N))
    where
      go : (b : Bool) → cond b 1 0 ≤ 1
      go true = omega arith
      go false = omega arith

  pub ask_once : (k : ℕ) → times N (suc h) (spot i) k ≤ 1
  ask_once k = omega (arith, spread k, at_most k)

  pub ask_apart : (k : ℕ) → times N (suc h) (spot i) k + held (drop t F) (suc (suc h)) k ≤ 1
  ask_apart k = omega (arith, spread k, at_most k, held_le F t (suc (suc h)) k)

  pub ask_spares : (k : ℕ) → k < length (drop t F) → get_or (drop t F) k 0 < length N
  ask_spares k l =
      let p = get_or (drop t F) k 0 in
      let a = total_at (λ e. one e p) (drop t F) k 0 l in
      let o = one_self (get_or (drop t F) k 0) in
      let w : times N (suc h) (spot i) (get_or (drop t F) k 0) + stock F t (get_or (drop t F) k 0) ≡ cond (ltb (get_or (drop t F) k 0) (length N)) 1 0 = spread (get_or (drop t F) k 0) in
      let s : 1 ≤ cond (ltb (get_or (drop t F) k 0) (length N)) 1 0 = omega (arith, a, o, w) in
      ⊎_elim (λ q. q) (λ q. absurd (no q s)) (cases_lt p (length N))
    where
      no : length N ≤ get_or (drop t F) k 0 → 1 ≤ cond (ltb (get_or (drop t F) k 0) (length N)) 1 0 → ⊥
      no q s = let e : ◌≡◌ {A = ℕ} (cond (ltb (get_or (drop t F) k 0) (length N)) 1 0) 0 = ap (λ b. cond b 1 0) (le-ltb (get_or (drop t F) k 0) (length N) q) in omega arith

  pub placed : (d : ℕ) (clip : StoredClip) (M : List Node) (g j u : ℕ) → t + h + 2 ≤ length F → EnteredRoot d N M (drop t F) h i clip g j u → EnteredClip d N M F t h i clip (t + u) g j
  placed d clip M g j u room r = record {
    long = r.long;
    tree = r.tree;
    spread = λ k. let e : times M (suc g) (spot j) k + stock F (t + u) k ≡ times N (suc h) (spot i) k + stock F t k = omega (arith, r.count k, stock_split F t u k) in
        e ∙ spread k ∙ ap (λ n. cond (ltb k n) 1 0) (sym r.long);
    low = omega arith;
    high = omega (arith, r.used);
    sound = r.sound;
  }
