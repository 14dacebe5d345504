-- The first least score, and the best division.
use Rattle.std.proofs.Common.{◌≡◌, ℕ, zero, suc, ◌<◌, ◌≤◌, Bool, true, false, cond, ◌&&◌, ◌⊎◌, List, [], ◌∷◌, length, sym, refl, ap, ◌∙◌, inl, inr, ⊎_elim, arith}
use Rattle.std.proofs.lemmas.Bool.{and_parts, and_cases, both_ways, cond_both, cases_order, cases_lt}
use Rattle.std.proofs.lemmas.Bool.Decides.{nat_tests}
use Rattle.space.specs.Boxes.{join}
use Rattle.space.proofs.Growth.{area_grows, common_grows}
use Rattle.rules.specs.Choice.{Score, less, first_least, commons, commons_but, growth, chosen}
use Rattle.rules.specs.Division.{divides, parting, best_below, division}
use Rattle.rules.specs.LawsChoice.{NeverShrinks, ChoiceFirst, DivisionBest}
use Rattle.rules.proofs.Groups.{fourteen}

-- ---- the order of scores
pub less_not_self : (x : Score) → less x x ≡ false
less_not_self x = grind (arith, nat_tests)

pub less_one_way : (x y : Score) → less x y ≡ true → less y x ≡ false
less_one_way x y h = grind (arith, nat_tests)

pub less_chain : (x y z : Score) → less x y ≡ false → less y z ≡ false → less x z ≡ false
less_chain x y z h k = grind (arith, nat_tests)

-- ---- the first least
last_or_before : (p n : ℕ) → p < suc n → (p ≡ n) ⊎ (p < n)
last_or_before p n h = ⊎_elim (λ (k : p < n). inr k) (λ (k : n ≤ p). inl (omega arith)) (cases_lt p n)

abbrev First : (ℕ → Score) → ℕ → ℕ → Type 0
First s n b = (b < n) × ((p : ℕ) → p < n → less (s p) (s b) ≡ false) × ((p : ℕ) → p < b → less (s b) (s p) ≡ true)

first_takes : (s : ℕ → Score) (n b : ℕ) → First s n b → less (s n) (s b) ≡ true → First s (suc n) n
first_takes s n b f e = (
  omega arith,
  (λ p h. ⊎_elim (λ (q : p ≡ n). ap (λ x. less (s x) (s n)) q ∙ less_not_self (s n))
      (λ (q : p < n). less_chain (s p) (s b) (s n) (f.1 p q) (less_one_way (s n) (s b) e)) (last_or_before p n h)),
  (λ p h. up p h (less (s n) (s p)) refl),
)
  where
    up : (p : ℕ) → p < n → (t : Bool) → less (s n) (s p) ≡ t → less (s n) (s p) ≡ true
    up p h true t = t
    up p h false t = absurd (both_ways (less (s n) (s b)) (less_chain (s n) (s p) (s b) t (f.1 p h)) e)

first_keeps : (s : ℕ → Score) (n b : ℕ) → First s n b → less (s n) (s b) ≡ false → First s (suc n) b
first_keeps s n b f e = (
  omega (arith, f.0),
  (λ p h. ⊎_elim (λ (q : p ≡ n). ap (λ x. less (s x) (s b)) q ∙ e) (λ (q : p < n). f.1 p q) (last_or_before p n h)),
  f.2,
)

pub first_least_lem : (s : ℕ → Score) (n : ℕ) → First s (suc n) (first_least s (suc n))
first_least_lem s zero =
    elim (less (s 0) (s 0)) as (λ t. First s 1 (cond t 0 0)) [ true ↦ one | false ↦ one ]
  where
    one : First s 1 0
    one = (omega arith, (λ p h. let z : p ≡ 0 = omega arith in ap (λ x. less (s x) (s 0)) z ∙ less_not_self (s 0)), (λ p h. absurd (omega arith)))
first_least_lem s (suc n) =
    let b = first_least s (suc n) in
    let ih = first_least_lem s n in
    cond_both (less (s (suc n)) (s b)) (suc n) b (First s (suc (suc n))) (first_takes s (suc n) b ih) (first_keeps s (suc n) b ih)

-- of two first least places neither comes before the other
first_only : (s : ℕ → Score) (n a b : ℕ) → First s n a → First s n b → a ≡ b
first_only s n a b f g = ⊎_elim (λ (e : a ≡ b). e) (⊎_elim (λ (l : a < b). absurd (apart a b f g l)) (λ (l : b < a). absurd (apart b a g f l))) (cases_order a b)
  where
    apart : (a b : ℕ) → First s n a → First s n b → a < b → ⊥
    apart a b f g l = both_ways (less (s b) (s a)) (f.1 b g.0) (g.2 a l)

pub choice_first : ChoiceFirst
choice_first [] v h = absurd (omega arith)
choice_first (b ∷ bs) v h =
    let f = first_least_lem (growth (b ∷ bs) v) (length bs) in (
      record { one = f.0; least = f.1; first = f.2 },
      λ p c. first_only (growth (b ∷ bs) v) (suc (length bs)) p (chosen (b ∷ bs) v) (c.one, c.least, c.first) f,
    )

-- ---- the best division
abbrev Best : ℕ → List (List ℕ) → ℕ → ℕ → Type 0
Best d boxes n b = (divides b ≡ true) × (b < 512) × ((c : ℕ) → c < n → divides c ≡ true → less (parting d boxes c) (parting d boxes b) ≡ false)

best_takes : (d : ℕ) (boxes : List (List ℕ)) (n b : ℕ) → n < 512 → Best d boxes n b → divides n ≡ true → less (parting d boxes n) (parting d boxes b) ≡ true → Best d boxes (suc n) n
best_takes d boxes n b m f g e = (
  g,
  m,
  (λ c h y. ⊎_elim (λ (q : c ≡ n). ap (λ x. less (parting d boxes x) (parting d boxes n)) q ∙ less_not_self (parting d boxes n))
      (λ (q : c < n). less_chain (parting d boxes c) (parting d boxes b) (parting d boxes n) (f.2 c q y) (less_one_way (parting d boxes n) (parting d boxes b) e)) (last_or_before c n h)),
)

best_keeps : (d : ℕ) (boxes : List (List ℕ)) (n b : ℕ) → Best d boxes n b → (divides n && less (parting d boxes n) (parting d boxes b)) ≡ false → Best d boxes (suc n) b
best_keeps d boxes n b f e =
    (f.0, f.1, (λ c h y. ⊎_elim (λ (q : c ≡ n). ap (λ x. less (parting d boxes x) (parting d boxes b)) q ∙ other (ap divides (sym q) ∙ y)) (λ (q : c < n). f.2 c q y) (last_or_before c n h)))
  where
    other : divides n ≡ true → less (parting d boxes n) (parting d boxes b) ≡ false
    other y = ⊎_elim (λ (z : divides n ≡ false). absurd (both_ways (divides n) z y)) (λ (z : less (parting d boxes n) (parting d boxes b) ≡ false). z) (and_cases (divides n) (less (parting d boxes n) (parting d boxes b)) e)

pub best_below_lem : (d : ℕ) (boxes : List (List ℕ)) (n : ℕ) → n ≤ 512 → Best d boxes n (best_below d boxes n)
best_below_lem d boxes zero m = (fourteen.0, fourteen.1, (λ c h y. absurd (omega arith)))
best_below_lem d boxes (suc n) m =
    let b = best_below d boxes n in
    let ih = best_below_lem d boxes n (omega arith) in
    cond_both (divides n && less (parting d boxes n) (parting d boxes b)) n b (Best d boxes (suc n))
    (λ e. let p = and_parts (divides n) (less (parting d boxes n) (parting d boxes b)) e in best_takes d boxes n b m ih p.0 p.1)
    (λ e. best_keeps d boxes n b ih e)

-- two scores of which neither is less have one code
same_code : (x y : Score) → less x y ≡ false → less y x ≡ false → x.2 ≡ y.2
same_code x y h k = grind (arith, nat_tests)

pub division_best : DivisionBest
division_best d boxes =
    let f = best_below_lem d boxes 512 (omega arith) in (
      record { below = f.1; two = f.0; least = f.2 },
      λ c g. same_code (parting d boxes c) (parting d boxes (division d boxes)) (f.2 c g.below g.two) (g.least (division d boxes) f.1 f.0),
    )

-- ---- growth
commons_grow : (a c : List ℕ) (boxes : List (List ℕ)) → commons a boxes ≤ commons (join a c) boxes
commons_grow a c [] = omega arith
commons_grow a c (x ∷ xs) = omega (arith, common_grows a c x, commons_grow a c xs)

commons_but_grow : (p : ℕ) (a c : List ℕ) (boxes : List (List ℕ)) → commons_but p a boxes ≤ commons_but p (join a c) boxes
commons_but_grow zero a c [] = omega arith
commons_but_grow (suc p) a c [] = omega arith
commons_but_grow zero a c (x ∷ xs) = commons_grow a c xs
commons_but_grow (suc p) a c (x ∷ xs) = omega (arith, common_grows a c x, commons_but_grow p a c xs)

pub never_shrinks : NeverShrinks
never_shrinks = (area_grows, commons_but_grow)
