-- What a call that is not refused was checked for, and that its answer does not turn on the order of the rows.
use Rattle.std.proofs.Common.{◌≡◌, ℕ, ◌*◌, ◌<◌, ◌≤◌, true, false, not, ◌||◌, eqb, ltb, leb, List, length, None, ap, ap₂, arith}
use Rattle.std.specs.List.{AllByRecursion}
use Rattle.std.proofs.lemmas.Bool.{not-false, eqb-true, eqb-false, leb-false}
use Rattle.ranked.specs.Same.{Same}
use Rattle.ranked.proofs.Sames.{length_same}
use Rattle.space.specs.Row.{Row}
use Rattle.rules.specs.Rows.{lists}
use Rattle.rules.specs.Promise.{Proper}
use Rattle.rules.specs.Refusals.{when, when_at, ◌else◌, bad_letter, of_vector, of_clip, of_enter, of_withdraw}
use Rattle.rules.specs.File.{header, begins, body, announced, file_rows, bad_number, bad_row, body_length, of_load}
use Rattle.rules.specs.Register.{Call, enters, withdraws, loads, answer}
use Rattle.rules.proofs.Alls.{all_both}
use Rattle.rules.proofs.Files.{none_checked, checked_long, checked_few}
use Rattle.rules.proofs.Refused.{else_none, when_none, when_at_none}
use Rattle.rules.proofs.Risings.{rises_once}
use Rattle.rules.proofs.Times.{Single, lists_same, once_single}

pub vector_open : (plan v : List ℕ) → of_vector plan v ≡ None → (length v ≡ length plan) × (bad_letter 1 plan v ≡ 0)
vector_open plan v e =
    let a = else_none (when (not (eqb (length v) (length plan))) 8) (when_at 9 (bad_letter 1 plan v) 0) e in
    (eqb-true (length v) (length plan) (not-false (eqb (length v) (length plan)) (when_none (not (eqb (length v) (length plan))) 8 a.0)), when_at_none 9 (bad_letter 1 plan v) 0 a.1)

pub clip_open : (plan : List ℕ) (n : ℕ) (v : List ℕ) → of_clip plan n v ≡ None → Proper plan (record { number = n; letters = v })
clip_open plan n v e =
    let a = else_none (when (eqb n 0) 7) (of_vector plan v) e in
    let z = eqb-false n 0 (when_none (eqb n 0) 7 a.0) in
    let b = vector_open plan v a.1 in
    (omega arith, b.0, b.1)

pub enter_open : (plan : List ℕ) (capacity : ℕ) (rows : List Row) (n : ℕ) (v : List ℕ) → of_enter plan capacity rows n v ≡ None
    → Proper plan (record { number = n; letters = v }) × (lists n rows ≡ false) × (length rows < capacity)
enter_open plan capacity rows n v e =
    let a = else_none (of_clip plan n v) (when (lists n rows) 21 else when (leb capacity (length rows)) 23) e in
    let b = else_none (when (lists n rows) 21) (when (leb capacity (length rows)) 23) a.1 in
    (clip_open plan n v a.0, when_none (lists n rows) 21 b.0, leb-false capacity (length rows) (when_none (leb capacity (length rows)) 23 b.1))

pub withdraw_open : (rows : List Row) (n words : ℕ) → of_withdraw rows n words ≡ None → lists n rows ≡ true
withdraw_open rows n words e =
    let a = else_none (when (eqb n 0) 7) (when (not (lists n rows)) 22 else when (ltb words (2 * length rows)) 24) e in
    let b = else_none (when (not (lists n rows)) 22) (when (ltb words (2 * length rows)) 24) a.1 in
    not-false (lists n rows) (when_none (not (lists n rows)) 22 b.0)

pub load_open : (plan : List ℕ) (capacity : ℕ) (rows : List Row) (file : List ℕ) → of_load plan capacity rows file ≡ None
    → AllByRecursion (Proper plan) (file_rows plan file) × Single (file_rows plan file) × (length (file_rows plan file) ≤ capacity) × (length rows ≡ 0)
load_open plan capacity rows file e =
    let c = none_checked plan capacity rows file e in
    let rs = file_rows plan file in
    let long = checked_long plan capacity rows file c in
    let shown = all_both (λ r. 0 < r.number) (λ r. bad_letter 1 plan r.letters ≡ 0) (λ r. (0 < r.number) × (bad_letter 1 plan r.letters ≡ 0)) (λ r x y. (x, y)) rs c.numbers.0 c.letters in (
      all_both (λ r. length r.letters ≡ length plan) (λ r. (0 < r.number) × (bad_letter 1 plan r.letters ≡ 0)) (Proper plan) (λ r x y. (y.0, x, y.1)) rs long shown,
      once_single rs (rises_once rs c.numbers.1),
      checked_few plan capacity rows file c,
      c.new,
    )

-- ---- an answer turns on the elements of the rows, and not on their order
pub answer_same : (plan : List ℕ) (capacity : ℕ) {xs ys : List Row} → Same xs ys → (c : Call) → answer plan capacity xs c ≡ answer plan capacity ys c
answer_same plan capacity s (enters n v) =
    ap₂ (λ t k. of_clip plan n v else when t 21 else when (leb capacity k) 23) (lists_same n s) (length_same s)
answer_same plan capacity s (withdraws n words) =
    ap₂ (λ t k. when (eqb n 0) 7 else when (not t) 22 else when (ltb words (2 * k)) 24) (lists_same n s) (length_same s)
answer_same plan capacity s (loads file) =
    let long = length (body plan file) in
    let n = announced plan file in
    let want = body_length (length plan) n in
    ap (λ k. when (not (begins (header plan) file)) 4 else when (ltb long 2 || ltb long want) 5 else when (ltb want long) 6
    else bad_number 1 0 (file_rows plan file) else bad_row 1 plan (file_rows plan file) else when (ltb capacity n) 23 else when (not (eqb k 0)) 25) (length_same s)
