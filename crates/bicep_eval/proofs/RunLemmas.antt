-- Runs of a loop, one after another, and arguments of which the first that is not null counts.
use Rattle.std.proofs.Common.{◌≡◌, ◌<◌, ◌≤◌, ◌+◌, ◌-◌, ℕ, suc, pos, [], ◌∷◌, Some}
use Rattle.std.proofs.Common.{sym, ap, ◌∙◌, arith}
use Rattle.arm_value.specs.Json.{Json, int}
use Rattle.arm_value.specs.View.{json}
use Rattle.arm_env.specs.Part.{part_of}
use Rattle.reading.specs.Reading.{pure, both}
use Rattle.reading.specs.Knowledge.{Told, value, told, finished, and_then, both_told}
use Rattle.deploy_cells.specs.Cells.{Cell}
use Rattle.deploy_cells.specs.Guarded.{Reads}
use Rattle.bicep_meaning.specs.Rows.{by_both}
use Rattle.bicep_meaning.specs.Around.{Frame, element, run_at, runs}
use Rattle.bicep_outcomes.specs.declared.loops.Turn.{Turn}
use Rattle.bicep_outcomes.specs.Outcomes.{IsFound}
use Rattle.bicep_outcomes.proofs.OutcomeLemmas.{told-done, told-then, told-both, found_gives}
use Rattle.bicep_surroundings.specs.Sight.{Sight, IsSeen}
use Rattle.bicep_surroundings.proofs.ReadLemmas.{of_equal, done_gives}

-- what is left of so many, with one
left_of : (i n : ℕ) → i < n → n - i ≡ suc (n - (i + 1))
left_of i n l = omega arith

-- the first of the runs that are left, and the others
pub runs_left : (body : Frame → Reads Json) (xs : Reads Json) (i n : ℕ) → i < n
    → runs body xs i (n - i) ≡ body (run_at xs i) ∷ runs body xs (i + 1) (n - (i + 1))
runs_left body xs i n l =
    let e : i + 1 ≡ suc i = omega arith in
    ap (runs body xs i) (left_of i n l) ∙ ap (λ (k : ℕ). body (run_at xs i) ∷ runs body xs k (n - (i + 1))) (sym e)

-- none is left
pub no_runs : (body : Frame → Reads Json) (xs : Reads Json) (i n : ℕ) → n ≤ i → runs body xs i (n - i) ≡ []
no_runs body xs i n l =
    let e : n - i ≡ 0 = omega arith in ap (runs body xs i) e

module _ (s : Sight) where
  item_told : (xs : Reads Json) (j k : Json) → told s.known xs ≡ value j
      → told s.known (by_both part_of xs (pure k)) ≡ finished (part_of j k)
  unfolding by_both
  item_told xs j k e =
      told-then s.known (both xs (pure k)) (λ q. part_of q.0 q.1)
      ∙ ap (λ (t : Told Cell (Json × Json)). and_then t (λ q. finished (part_of q.0 q.1)))
      (told-both s.known xs (pure k) ∙ ap (λ (t : Told Cell Json). both_told t (told s.known (pure k))) e
      ∙ ap (λ (t : Told Cell Json). both_told (value j) t) (told-done s.known (Some k)))

  -- a run is that of its index
  pub turn_seen : (t : Turn) (xs : Reads Json) (j : Json) (i : ℕ) → told s.known xs ≡ value j
      → IsFound json (part_of j (int (pos i))) t.item → IsFound json (Some (int (pos i))) t.index
      → IsSeen s t (run_at xs i)
  unfolding element
  turn_seen t xs j i e h k = (
    of_equal s.known s.cell json t.item _ (finished (part_of j (int (pos i)))) (item_told xs j (int (pos i)) e)
        (found_gives s.cell json (part_of j (int (pos i))) t.item h),
    done_gives s.known s.cell json (Some (int (pos i))) t.index k,
  )
