-- The texts that have fields.
use Rattle.std.proofs.Common.{◌≡◌, ℕ, ◌+◌, ◌-◌, ◌*◌, ◌^◌, ◌<◌, ◌≤◌, Bool, true, false, cond, eqb, ltb, leb, List, [], ◌∷◌, ◌++◌, map, length, Some, None, Option, unwrap_or, sym, refl, ap, ◌∙◌, subst, ⊎_elim, arith}
use Rattle.std.specs.List.{AllByRecursion}
use Rattle.std.proofs.lemmas.Bool.{cases_Bool, eqb-true, lt-ltb, ltb-true, and_parts, leb-true, ne_eqb}
use Rattle.lines.specs.Fields.{digit, fitting, longer, first, onward, fields_from, fields_of}
use Rattle.lines.specs.LawsLines.{value_of, Field, spaced, FieldsLaw}
use Rattle.lines.proofs.Values.{extended, extended_none, extended_more, extended_least, extended_zero}

-- ---- fields are read

-- a digit is no space
digit_apart : (b : ℕ) → digit b ≡ true → eqb b 32 ≡ false
digit_apart b d =
    let p = and_parts (leb 48 b) (leb b 57) d in
    let l = leb-true 48 b p.0 in
    ne_eqb b 32 (λ e. omega arith)

longer_by : (v : Option ℕ) (b : ℕ) → digit b ≡ true → unwrap_or v 0 * 10 + (b - 48) < 2 ^ 32 → longer v b ≡ Some (unwrap_or v 0 * 10 + (b - 48))
longer_by v b d h =
    let n = unwrap_or v 0 * 10 + (b - 48) in
    ap (λ t. cond t (fitting n) None) d ∙ ap (λ t. cond t (Some n) None) (lt-ltb n (2 ^ 32) h)

one_digit : (v : Option ℕ) (b : ℕ) (rest : List ℕ) → digit b ≡ true → unwrap_or v 0 * 10 + (b - 48) < 2 ^ 32
    → fields_from v (b ∷ rest) ≡ fields_from (Some (unwrap_or v 0 * 10 + (b - 48))) rest
one_digit v b rest d h =
    ap (λ t. cond t (first v (fields_from None rest)) (onward (longer v b) (λ n. fields_from (Some n) rest))) (digit_apart b d)
    ∙ ap (λ o. onward o (λ n. fields_from (Some n) rest)) (longer_by v b d h)

-- the digits of a field, of which n is read
digits_read : (n : ℕ) (bs rest : List ℕ) → AllByRecursion (λ b. digit b ≡ true) bs → extended n bs < 2 ^ 32
    → fields_from (Some n) (bs ++ rest) ≡ fields_from (Some (extended n bs)) rest
digits_read n [] rest d h = ap (λ m. fields_from (Some m) rest) (sym (extended_none n))
digits_read n (b ∷ bs) rest (d, ds) h =
    let m = n * 10 + (b - 48) in
    let e : extended m bs ≡ extended n (b ∷ bs) = extended_more n b bs in
    let least : m ≤ extended m bs = extended_least m bs in
    let fits : m < 2 ^ 32 = omega arith in
    let more : extended m bs < 2 ^ 32 = omega arith in
    one_digit (Some n) b (bs ++ rest) d fits ∙ digits_read m bs rest ds more ∙ ap (λ x. fields_from (Some x) rest) e

field_read : (f rest : List ℕ) → Field f → fields_from None (f ++ rest) ≡ fields_from (Some (value_of f)) rest
field_read [] rest (ds, some, fits) = absurd (omega arith)
field_read (b ∷ bs) rest ((d, ds), some, fits) =
    let m = 0 * 10 + (b - 48) in
    let e : extended m bs ≡ extended 0 (b ∷ bs) = extended_more 0 b bs in
    let z : extended 0 (b ∷ bs) ≡ value_of (b ∷ bs) = extended_zero (b ∷ bs) in
    let least : m ≤ extended m bs = extended_least m bs in
    let l : m < 2 ^ 32 = omega arith in
    let more : extended m bs < 2 ^ 32 = omega arith in
    one_digit None b (bs ++ rest) d l ∙ digits_read m bs rest ds more ∙ ap (λ x. fields_from (Some x) rest) (e ∙ z)

rest_read : (n : ℕ) (fs : List (List ℕ)) → AllByRecursion Field fs → fields_from (Some n) (spaced fs) ≡ Some (n ∷ map value_of fs)
rest_read n [] h = refl
rest_read n (f ∷ fs) (h, hs) = ap (first (Some n)) (field_read f (spaced fs) h ∙ rest_read (value_of f) fs hs)

all_read : (fs : List (List ℕ)) → AllByRecursion Field fs → fields_of (spaced fs) ≡ Some (map value_of fs)
all_read [] h = refl
all_read (f ∷ fs) (h, hs) = field_read f (spaced fs) h ∙ rest_read (value_of f) fs hs

-- ---- and nothing else is

first_parts : (v : Option ℕ) (r : Option (List ℕ)) (ns : List ℕ) → first v r ≡ Some ns
    → (n : ℕ) × (ms : List ℕ) × (v ≡ Some n) × (r ≡ Some ms) × (ns ≡ n ∷ ms)
first_parts None r ns e = cc
first_parts (Some n) None ns e = cc
first_parts (Some n) (Some ms) ns e = (n, ms, refl, refl, cc)

onward_parts : (o : Option ℕ) (f : ℕ → Option (List ℕ)) (ns : List ℕ) → onward o f ≡ Some ns → (m : ℕ) × (o ≡ Some m) × (f m ≡ Some ns)
onward_parts None f ns e = cc
onward_parts (Some m) f ns e = (m, refl, e)

given_parts : (t : Bool) (o : Option ℕ) (m : ℕ) → cond t o None ≡ Some m → (t ≡ true) × (o ≡ Some m)
given_parts true o m e = (refl, e)
given_parts false o m e = cc

longer_parts : (v : Option ℕ) (b m : ℕ) → longer v b ≡ Some m → (digit b ≡ true) × (m ≡ unwrap_or v 0 * 10 + (b - 48)) × (m < 2 ^ 32)
longer_parts v b m e =
    let n = unwrap_or v 0 * 10 + (b - 48) in
    let p = given_parts (digit b) (fitting n) m e in
    let q = given_parts (ltb n (2 ^ 32)) (Some n) m p.1 in
    let l : n < 2 ^ 32 = ltb-true n (2 ^ 32) q.0 in
    let r : Some n ≡ Some m = q.1 in
    let s : m ≡ n = cc in
    (p.0, s, omega arith)

-- what is left of a text that has fields: the digits that are left of the first field, and then whole fields
record Split (v : Option ℕ) (bs ns : List ℕ) : Type 0 where
  digits : List ℕ
  fields : List (List ℕ)
  text : bs ≡ digits ++ spaced fields
  good : AllByRecursion (λ b. digit b ≡ true) digits
  some : v ≡ None → 0 < length digits
  fits : extended (unwrap_or v 0) digits < 2 ^ 32
  proper : AllByRecursion Field fields
  values : ns ≡ extended (unwrap_or v 0) digits ∷ map value_of fields

-- the first field begins right after its space: its digits are a field
whole_field : (bs ns : List ℕ) (s : Split None bs ns) → Field s.digits × (ns ≡ value_of s.digits ∷ map value_of s.fields)
whole_field bs ns s =
    let e = extended_zero s.digits in
    let h : value_of s.digits < 2 ^ 32 = omega (arith, s.fits) in
    ((s.good, s.some refl, h), s.values ∙ ap (λ n. n ∷ map value_of s.fields) e)

at_end : (v : Option ℕ) (ns : List ℕ) → unwrap_or v 0 < 2 ^ 32 → first v (Some []) ≡ Some ns → Split v [] ns
at_end None ns h e = cc
at_end (Some n) ns h e =
    let x = extended_none n in
    let y : ns ≡ n ∷ [] = cc in
    record { digits = []; fields = []; text = refl; good = tt; some = λ z. cc; fits = omega arith; proper = tt; values = y ∙ ap (λ m. m ∷ []) (sym x) }

at_space : (v : Option ℕ) (b n : ℕ) (bs ns ms : List ℕ) → unwrap_or v 0 < 2 ^ 32 → b ≡ 32 → v ≡ Some n → ns ≡ n ∷ ms → Split None bs ms → Split v (b ∷ bs) ns
at_space v b n bs ns ms h e f g s =
    let w = whole_field bs ms s in
    let x : extended (unwrap_or v 0) [] ≡ unwrap_or v 0 = extended_none (unwrap_or v 0) in
    let y : unwrap_or v 0 ≡ n = ap (λ o. unwrap_or o 0) f in
    record {
      digits = [];
      fields = s.digits ∷ s.fields;
      text = cc s.text;
      good = tt;
      some = λ z. cc;
      fits = omega arith;
      proper = (w.0, s.proper);
      values = g ∙ cc w.1;
    }

at_digit : (v : Option ℕ) (b m : ℕ) (bs ns : List ℕ) → digit b ≡ true → m ≡ unwrap_or v 0 * 10 + (b - 48) → Split (Some m) bs ns → Split v (b ∷ bs) ns
at_digit v b m bs ns d e s =
    let x : extended m s.digits ≡ extended (unwrap_or v 0) (b ∷ s.digits) = ap (λ n. extended n s.digits) e ∙ extended_more (unwrap_or v 0) b s.digits in
    record {
      digits = b ∷ s.digits;
      fields = s.fields;
      text = ap (λ t. b ∷ t) s.text;
      good = (d, s.good);
      some = λ z. omega arith;
      fits = subst (λ (n : ℕ). n < 2 ^ 32) x s.fits;
      proper = s.proper;
      values = s.values ∙ ap (λ n. n ∷ map value_of s.fields) x;
    }

split : (v : Option ℕ) (bs ns : List ℕ) → unwrap_or v 0 < 2 ^ 32 → fields_from v bs ≡ Some ns → Split v bs ns
split v [] ns h e = at_end v ns h e
split v (b ∷ bs) ns h e =
    ⊎_elim
    (λ (t : eqb b 32 ≡ true).
    let p = first_parts v (fields_from None bs) ns (rw t at e) in
    at_space v b p.0 bs ns p.1 h (eqb-true b 32 t) p.2 p.4 (split None bs p.1 (omega arith) p.3))
    (λ (t : eqb b 32 ≡ false).
    let p = onward_parts (longer v b) (λ n. fields_from (Some n) bs) ns (rw t at e) in
    let q = longer_parts v b p.0 p.1 in
    at_digit v b p.0 bs ns q.0 q.1 (split (Some p.0) bs ns q.2 p.2))
    (cases_Bool (eqb b 32))

only_read : (text ns : List ℕ) → fields_of text ≡ Some ns → (fs : List (List ℕ)) × AllByRecursion Field fs × (text ≡ spaced fs) × (map value_of fs ≡ ns)
only_read [] ns e = ([], tt, refl, cc)
only_read (b ∷ bs) ns e =
    ⊎_elim
    (λ (t : eqb b 32 ≡ true).
    let s = split None bs ns (omega arith) (rw t at e) in
    let w = whole_field bs ns s in
    let x = eqb-true b 32 t in
    (s.digits ∷ s.fields, (w.0, s.proper), cc s.text, sym w.1))
    (λ (t : eqb b 32 ≡ false).
    let z : None ≡ Some ns = rw t at e in
    cc)
    (cases_Bool (eqb b 32))

pub fields_law : FieldsLaw
fields_law = (all_read, only_read)
