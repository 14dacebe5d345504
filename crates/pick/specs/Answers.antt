-- What a query is answered with.
use Rattle.std.specs.Prelude.{◌≡◌, ℕ, cond, ◌&&◌, List, map, length, take, Some, None, vec_items, Option, nat_le}
use Rattle.space.specs.Plans.{vector_fault}
use Rattle.space.specs.Row.{Row}
use Rattle.measures.specs.Counts.{count_at}
use Rattle.measures.specs.Gehs.{geh_distance, geh_grade}
use Rattle.measures.specs.Hammings.{hamming_distance}
use Rattle.measures.specs.Layers.{bar_distance, cut_distance}
use Rattle.ranked.specs.declared.find.Find.{Find}
use Rattle.rules.specs.Finds.{ranking, FirstOf}
use Rattle.scan.specs.Distances.{far_by}
use Rattle.pick.specs.Libraries.{sizes_of, rows_in, clip_first}
use Rattle.pick.specs.declared.answer.Answer.{Answer}
use Rattle.pick.specs.declared.answer.Graded.{Graded}
use Rattle.pick.specs.declared.library.Library.{Library}
use Rattle.pick.specs.declared.refusal.Refusal.{Refusal}
use Rattle.pick.specs.declared.refusal.Refusal.TheVariants as refusal

-- 8, 9: no vector of the plan; 10: not from 1 to 64 clips
abbrev pub ask_fault : Library → ℕ → List ℕ → Option Refusal
ask_fault l k q = clip_first (vector_fault (sizes_of l) q) (cond (nat_le 1 k && nat_le k 64) None (Some refusal.Count))

-- a find with the grade of its distance, by a count of d dimensions and N clips
abbrev pub graded : ℕ → ℕ → Find → Graded
graded d N f = record { find = f; grade = geh_grade d N f.distance }

-- how far a row lies by GEH, by the count of the rows
abbrev pub geh_far : List ℕ → List Row → List ℕ → Row → Option ℕ
geh_far plan rows q = far_by (geh_distance (length plan) (length rows) (λ i l. count_at i l rows)) q

abbrev pub geh_finds : List ℕ → List Row → ℕ → List ℕ → List Graded
geh_finds plan rows k q = map (graded (length plan) (length rows)) (take k (ranking (geh_far plan rows q) rows))

-- how far a row lies with the barred letters and the cut-off
abbrev pub barred_far : Library → List ℕ → Row → Option ℕ
barred_far l q = far_by (cut_distance l.limit (bar_distance l.bars hamming_distance)) q

-- the first k clips by each measure; each of the three lists is what the rules call the first k
pub record Answers (l : Library) (k : ℕ) (q : List ℕ) (a : Answer) : Type 0 where
  pub allowed : ask_fault l k q ≡ None
  pub query : vec_items a.query ≡ q
  pub clips : a.clips ≡ length (rows_in l)
  pub hamming : vec_items a.hamming ≡ take k (ranking (far_by hamming_distance q) (rows_in l))
  pub geh : vec_items a.geh ≡ geh_finds (sizes_of l) (rows_in l) k q
  pub barred : vec_items a.barred ≡ take k (ranking (barred_far l q) (rows_in l))
  pub first : FirstOf (far_by hamming_distance q) (rows_in l) k (vec_items a.hamming)
  pub first_graded : FirstOf (geh_far (sizes_of l) (rows_in l) q) (rows_in l) k (map (λ g. g.find) (vec_items a.geh))
  pub first_barred : FirstOf (barred_far l q) (rows_in l) k (vec_items a.barred)
