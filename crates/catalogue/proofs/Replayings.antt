-- Calls made one after the other.
use Rattle.std.proofs.Common.{◌≡◌, ℕ, ◌+◌, ◌<◌, List, [], ◌∷◌, ◌++◌, length, get_or, take, drop, set, Option, sym, refl, ap, ◌∙◌, subst, ap₂, arith}
use Rattle.std.specs.Option.{option_map}
use Rattle.std.proofs.lemmas.List.{append_assoc, append-nil, take_more, take_more_set, drop-drop, drop-set-lt, map_push, get_or-map, length-map}
use Rattle.refusals.specs.declared.refusal.Refusal.{Refusal as Held}
use Rattle.refusals.specs.Refused.{numbered}
use Rattle.rules.specs.Refusals.{of_fit}
use Rattle.rules.specs.Tree.{empty}
use Rattle.rules.specs.Register.{Call, registered, answers, grown}
use Rattle.rules.specs.State.{Seen, standing, told, after}
use Rattle.rules.proofs.Runs.{runs_step}
use Rattle.catalogue.specs.declared.catalogue.Catalogue.{Catalogue}
use Rattle.catalogue.specs.Seen.{seen_of}
use Rattle.catalogue.specs.Runs.{Does, MadeBy}
use Rattle.catalogue.specs.declared.call.Call as held
use Rattle.catalogue.specs.Replays.{call_of, calls_of, numbered_all, told_all, after_all, Replayed, RunsAll}
use Rattle.catalogue.proofs.Runnings.{seen_answer, seen_after, made_kept}

-- ---- one call more at the end
told_push : (s : Seen) (cs : List Call) (c : Call) → told_all s (cs ++ c ∷ []) ≡ told_all s cs ++ told (after_all s cs) c ∷ []
told_push s [] c = refl
told_push s (x ∷ cs) c = ap (λ l. told s x ∷ l) (told_push (after s x) cs c)

after_push : (s : Seen) (cs : List Call) (c : Call) → after_all s (cs ++ c ∷ []) ≡ after (after_all s cs) c
after_push s [] c = refl
after_push s (x ∷ cs) c = after_push (after s x) cs c

pub replay_start : (c : Catalogue) (calls : List Call) (A : List (Option Held)) → Replayed c c calls A A 0
replay_start c calls A = record { told = refl; rest = refl; seen = refl; boxes = refl }

pub replay_step : (c e f : Catalogue) (calls : List Call) (A B : List (Option Held)) (i : ℕ) (call : Call) (a : Option Held) → i < length calls → i < length B → Replayed c e calls A B i
    → get_or calls i call ≡ call → Does e f call (option_map numbered a) → Replayed c f calls A (set B i a) (i + 1)
replay_step c e f calls A B i call a l m w is d =
    let cs : take (i + 1) calls ≡ take i calls ++ call ∷ [] = take_more calls i call l ∙ ap (λ x. take i calls ++ x ∷ []) is in
    record {
      told = ap numbered_all (take_more_set B i a m) ∙ map_push (option_map numbered) (take i B) a
          ∙ ap₂ (λ xs x. xs ++ x ∷ []) w.told (d.told ∙ ap (λ s. told s call) w.seen)
          ∙ sym (told_push (seen_of c) (take i calls) call) ∙ ap (told_all (seen_of c)) (sym cs);
      rest = drop-set-lt (i + 1) B i a (omega arith) ∙ behind B A i w.rest;
      seen = d.seen ∙ ap (λ s. after s call) w.seen ∙ sym (after_push (seen_of c) (take i calls) call) ∙ ap (after_all (seen_of c)) (sym cs);
      boxes = d.boxes ∙ w.boxes;
    }
  where
    behind : (B A : List (Option Held)) (i : ℕ) → drop i B ≡ drop i A → drop (i + 1) B ≡ drop (i + 1) A
    behind B A i e = sym (drop-drop 1 i B) ∙ ap (drop 1) e ∙ drop-drop 1 i A

-- the same for a call that the program reads from its list
pub replay_call : (c e f : Catalogue) (words many : ℕ) (calls : List held.Call) (A B : List (Option Held)) (i : ℕ) (call : held.Call) (a : Option Held) → i < length calls → i < length B
    → Replayed c e (calls_of words calls) A B i → call ≡ get_or calls i call → many ≡ words → Does e f (call_of many call) (option_map numbered a) → Replayed c f (calls_of words calls) A (set B i a) (i + 1)
replay_call c e f words many calls A B i call a l m w is long d =
    replay_step c e f (calls_of words calls) A B i (call_of words call) a (omega (arith, length-map calls (call_of words))) m w
    (get_or-map (call_of words) calls i call (call_of words call) l ∙ ap (call_of words) (sym is)) (subst (λ n. Does e f (call_of n call) (option_map numbered a)) long d)

-- ---- over every run that made the catalogue
module _ (plan : List ℕ) (capacity : ℕ) where
  all_told : (calls more : List Call) (s : Seen) → s ≡ standing plan capacity (grown plan capacity [] (empty (length plan)) calls)
      → told_all s more ≡ answers plan capacity (registered plan capacity [] calls) more
  all_told calls [] s e = refl
  all_told calls (c ∷ cs) s e =
      ap₂ (λ x xs. x ∷ xs) (seen_answer plan capacity calls s e c)
      (all_told (calls ++ c ∷ []) cs (after s c) (seen_after plan capacity calls s e c) ∙ ap (λ rows. answers plan capacity rows cs) (runs_step plan capacity [] (empty (length plan)) calls c).0)

  all_after : (calls more : List Call) (s : Seen) → s ≡ standing plan capacity (grown plan capacity [] (empty (length plan)) calls)
      → after_all s more ≡ standing plan capacity (grown plan capacity [] (empty (length plan)) (calls ++ more))
  all_after calls [] s e = e ∙ ap (λ l. standing plan capacity (grown plan capacity [] (empty (length plan)) l)) (sym (append-nil calls))
  all_after calls (c ∷ cs) s e =
      all_after (calls ++ c ∷ []) cs (after s c) (seen_after plan capacity calls s e c)
      ∙ ap (λ l. standing plan capacity (grown plan capacity [] (empty (length plan)) l)) (append_assoc calls (c ∷ []) cs)

pub runs_all : (c e : Catalogue) (calls : List Call) (A B : List (Option Held)) (n : ℕ) → Replayed c e calls A B n → RunsAll c e (take n calls) (numbered_all (take n B))
runs_all c e calls A B n w plan capacity made m =
    let later : MadeBy plan capacity (made ++ take n calls) e = record {
      fit = ap (of_fit plan capacity) w.boxes ∙ m.fit;
      seen = w.seen ∙ all_after plan capacity made (take n calls) (seen_of c) m.seen;
    } in
    (w.told ∙ all_told plan capacity made (take n calls) (seen_of c) m.seen, later, made_kept plan capacity (made ++ take n calls) e later)
