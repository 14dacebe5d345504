-- Laws of the choice of an entry.
use Rattle.std.proofs.Common.{◌≡◌, ℕ, zero, suc, ◌+◌, ◌-◌, ◌<◌, Bool, true, false, cond, List, [], ◌∷◌, map, length, get_or, take, sum_by, refl, ap, ◌∙◌, arith}
use Rattle.std.proofs.lemmas.List.Sums.{sum_by-cons}
use Rattle.space.specs.Boxes.{area, common, join, point}
use Rattle.rules.specs.Choice.{Score, less, first_least, commons, commons_but, growth}

pub commons_summed : (d : ℕ) (b : List ℕ) (bs : List (List ℕ)) → sum_by (λ c. common b (take d c)) bs ≡ commons b (map (take d) bs)
commons_summed d b [] = refl
commons_summed d b (c ∷ bs) = sum_by-cons (λ c. common b (take d c)) c bs ∙ ap (λ x. common b (take d c) + x) (commons_summed d b bs)

commons_all : (b : List ℕ) (bs : List (List ℕ)) (p : ℕ) → p < length bs → commons_but p b bs + common b (get_or bs p []) ≡ commons b bs
commons_all b [] p l = absurd (omega arith)
commons_all b (c ∷ bs) zero l = omega arith
commons_all b (c ∷ bs) (suc p) l = omega (arith, commons_all b bs p (omega arith))

pub commons_but_lem : (b : List ℕ) (bs : List (List ℕ)) (p : ℕ) → p < length bs → commons b bs - common b (get_or bs p []) ≡ commons_but p b bs
commons_but_lem b bs p l = omega (arith, commons_all b bs p l)

pub growth_from : (v : List ℕ) (bs : List (List ℕ)) (i : ℕ) (g b : List ℕ) → i < length bs → b ≡ get_or bs i [] → g ≡ join b (point v)
    → ◌≡◌ {A = Score} ((commons g bs - common g b) - (commons b bs - common b b), area g - area b, area b) (growth bs v i)
growth_from v bs i g b l eb eg =
    let b2 = get_or bs i [] in
    let g2 = join b2 (point v) in
    let q : g ≡ join (get_or bs i []) (point v) = eg ∙ ap (λ y. join y (point v)) eb in
    let x : commons g bs - common g b ≡ commons_but i (join (get_or bs i []) (point v)) bs = ap (λ y. commons g bs - common g y) eb ∙ commons_but_lem g bs i l ∙ ap (λ y. commons_but i y bs) q in
    let y : commons b bs - common b b ≡ commons_but i (get_or bs i []) bs = ap (λ y. commons b bs - common b y) eb ∙ commons_but_lem b bs i l ∙ ap (λ y. commons_but i y bs) eb in
    ap₃ x y (ap area q) (ap area eb)
  where
    ap₃ : {p p2 q q2 r r2 s s2 : ℕ} → p ≡ p2 → q ≡ q2 → r ≡ r2 → s ≡ s2 → ◌≡◌ {A = Score} (p - q, r - s, s) (p2 - q2, r2 - s2, s2)
    ap₃ e f g h = cc

cond_one : (t : Bool) (n : ℕ) → cond t n n ≡ n
cond_one true n = refl
cond_one false n = refl

pub least_first : (score : ℕ → Score) → first_least score 1 ≡ 0
least_first score = cond_one (less (score 0) (score 0)) 0
