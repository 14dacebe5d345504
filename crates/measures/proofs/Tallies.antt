-- Tables of numbers, and the loops that count letters into them.
use Rattle.std.proofs.Common.{◌≡◌, ℕ, zero, suc, ◌+◌, ◌<◌, ◌≤◌, Bool, true, false, cond, ◌&&◌, eqb, ltb, ◌⊎◌, List, [], length, get_or, set, replicate, sym, refl, ap, ◌∙◌, inl, inr, ⊎_elim, arith}
use Rattle.std.proofs.lemmas.List.{get_or-set_same, get_or-set_other, get_or-replicate, get_or_past, length-set}
use Rattle.std.proofs.lemmas.Bool.{eqb-true, eqb-false, eq-eqb, ne_eqb, cases_eq}
use Rattle.std.proofs.lemmas.Bool.Decides.{nat_tests}
use Rattle.measures.specs.Counts.{Shaped, number_at, one_at}

zero_at : (n l : ℕ) → ◌≡◌ {A = ℕ} (get_or (replicate n 0) l 0) 0
zero_at zero l = refl
zero_at (suc n) zero = refl
zero_at (suc n) (suc l) = zero_at n l

-- a table of zeros
pub zeros_at : (n m i l : ℕ) → number_at (replicate n (replicate m 0)) i l ≡ 0
zeros_at zero m i l = refl
zeros_at (suc n) m zero l = zero_at m l
zeros_at (suc n) m (suc i) l = zeros_at n m i l

pub zeros_shape : Shaped (replicate 10 (replicate 64 0))
zeros_shape = (refl, λ i h. ap length (get_or-replicate 10 i (replicate 64 0) [] h))

-- ---- one number more
-- an element after a write
set_at : {X : Type 0} (xs : List X) (i : ℕ) (x : X) (j : ℕ) (d : X) → i < length xs → get_or (set xs i x) j d ≡ cond (eqb j i) x (get_or xs j d)
set_at xs i x j d h = go (eqb j i) refl
  where
    go : (t : Bool) → eqb j i ≡ t → get_or (set xs i x) j d ≡ cond t x (get_or xs j d)
    go true e = ap (λ k. get_or (set xs i x) k d) (eqb-true j i e) ∙ get_or-set_same xs i x d h
    go false e = get_or-set_other xs i j x d (eqb-false j i e)

-- the table with one more of the letter x in row i
abbrev pub bumped : List (List ℕ) → ℕ → ℕ → List (List ℕ)
bumped t i x = set t i (set (get_or t i []) x (number_at t i x + 1))

module _ (t : List (List ℕ)) (i x : ℕ) (shaped : Shaped t) (row : i < 10) where
  bumped_row : (j : ℕ) → get_or (bumped t i x) j [] ≡ cond (eqb j i) (set (get_or t i []) x (number_at t i x + 1)) (get_or t j [])
  bumped_row j = set_at t i (set (get_or t i []) x (number_at t i x + 1)) j [] (let n = shaped.0 in omega arith)

  pub bumped_shape : Shaped (bumped t i x)
  bumped_shape = (length-set t i (set (get_or t i []) x (number_at t i x + 1)) ∙ shaped.0, λ j h. ap length (bumped_row j) ∙ go j h (eqb j i) refl)
    where
      go : (j : ℕ) → j < 10 → (u : Bool) → eqb j i ≡ u → length (cond u (set (get_or t i []) x (number_at t i x + 1)) (get_or t j [])) ≡ 64
      go j h true e = length-set (get_or t i []) x (number_at t i x + 1) ∙ shaped.1 i row
      go j h false e = shaped.1 j h

  pub bumped_at : x < 64 → (j l : ℕ) → number_at (bumped t i x) j l ≡ number_at t j l + cond (eqb j i && eqb x l) 1 0
  bumped_at k j l = ap (λ r. get_or r l 0) (bumped_row j) ∙ go (eqb j i) refl
    where
      item : (u : Bool) → eqb l x ≡ u → cond u (number_at t i x + 1) (number_at t i l) ≡ number_at t i l + cond (eqb x l) 1 0
      item true e = let p = eqb-true l x e in let q : eqb x l ≡ true = eq-eqb x l (sym p) in rw q (ap (λ y. number_at t i y + 1) (sym p))
      item false e = let q : eqb x l ≡ false = ne_eqb x l (λ p. eqb-false l x e (sym p)) in rw q (omega arith)

      go : (u : Bool) → eqb j i ≡ u → get_or (cond u (set (get_or t i []) x (number_at t i x + 1)) (get_or t j [])) l 0 ≡ number_at t j l + cond (u && eqb x l) 1 0
      go true e =
          let p = eqb-true j i e in
          set_at (get_or t i []) x (number_at t i x + 1) l 0 (let n = shaped.1 i row in omega arith)
          ∙ item (eqb l x) refl ∙ ap (λ y. number_at t y l + cond (eqb x l) 1 0) (sym p)
      go false e = omega arith

-- ---- the loop over the letters of a clip
-- at i, the first i letters are counted
pub record Tallied (old : List (List ℕ)) (v : List ℕ) (t : List (List ℕ)) (i : ℕ) : Type 0 where
  pub shape : Shaped t
  pub numbers : (j l : ℕ) → number_at t j l ≡ number_at old j l + cond (ltb j i && eqb (get_or v j 0) l) 1 0

pub tallied_none : (old : List (List ℕ)) (v : List ℕ) → Shaped old → Tallied old v old 0
tallied_none old v s = record { shape = s; numbers = λ j l. grind (arith, nat_tests) }

pub tallied_more : (old : List (List ℕ)) (v : List ℕ) (t : List (List ℕ)) (i : ℕ) → Tallied old v t i → i < 10 → get_or v i 0 < 64 → Tallied old v (bumped t i (get_or v i 0)) (i + 1)
tallied_more old v t i s h k =
    record {
      shape = bumped_shape t i (get_or v i 0) s.shape h;
      numbers = λ j l. bumped_at t i (get_or v i 0) s.shape h k j l ∙ next j l;
    }
  where
    next : (j l : ℕ) → number_at t j l + cond (eqb j i && eqb (get_or v i 0) l) 1 0 ≡ number_at old j l + cond (ltb j (i + 1) && eqb (get_or v j 0) l) 1 0
    next j l = ⊎_elim
        (λ (e : j ≡ i). let n = s.numbers j l in let q = ap (λ y. get_or v y 0) e in let w : eqb (get_or v j 0) l ≡ eqb (get_or v i 0) l = ap (λ y. eqb y l) q in grind (arith, nat_tests))
        (λ (e : j ≡ i → ⊥). let n = s.numbers j l in grind (arith, nat_tests))
        (cases_eq j i)

pub tallied_all : (old : List (List ℕ)) (v : List ℕ) (t : List (List ℕ)) (i : ℕ) → Tallied old v t i → i ≡ length v → (j l : ℕ) → number_at t j l ≡ number_at old j l + one_at j l v
tallied_all old v t i s e j l = s.numbers j l ∙ ap (λ n. number_at old j l + cond (ltb j n && eqb (get_or v j 0) l) 1 0) e

-- no number stands beyond the table
pub beyond_table : (t : List (List ℕ)) (i l : ℕ) → Shaped t → ((i < 10) × (64 ≤ l)) ⊎ (10 ≤ i) → number_at t i l ≡ 0
beyond_table t i l s (inl h) = get_or_past (get_or t i []) l 0 (let n = s.1 i h.0 in let m = h.1 in omega arith)
beyond_table t i l s (inr h) = ap (λ r. get_or r l 0) (get_or_past t i [] (let n = s.0 in omega arith))
