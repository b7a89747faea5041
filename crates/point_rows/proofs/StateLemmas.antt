-- States that are known at a point.
use Rattle.std.proofs.Common.{◌≡◌, inl, inr, ℕ, zero, suc, ◌<◌, Bool, true, false, true≢false, List, [], ◌∷◌, map}
use Rattle.std.proofs.Common.{length, get_or, Option, Some, None, refl, sym, ap, subst, ◌∙◌, arith}
use Rattle.std.specs.Prelude.{option_map, if◌then◌else◌}
use Rattle.std.proofs.lemmas.Slice.Eq.{bytes_eq-Decides}
use Rattle.tag_places.specs.Places.{is_tag, first_place}
use Rattle.key_tags.specs.KeyCodes.{key_code}
use Rattle.key_tags.proofs.CodeLemmas.{key_eq}
use Rattle.arm_value.specs.View.{json}
use Rattle.arm_value.specs.declared.value.Value.{Value}
use Rattle.arm_ids.specs.declared.id.ResourceId.{ResourceId}
use Rattle.arm_env.specs.Look.{a_value}
use Rattle.reading.specs.Knowledge.{value, waits, by_entry}
use Rattle.deploy_cells.specs.Cells.{state}
use Rattle.deploy_cells.proofs.SameLemmas.{cell_is}
use Rattle.plan_cells.specs.Desired.{is_state}
use Rattle.plan_cells.specs.Sites.{value_of}
use Rattle.plan_filling.specs.Rows.{Status, Row, status_of, known_by}
use Rattle.plan_filling.proofs.RowLemmas.{by_same, found_first, found_later, joined_some, joined_none}
use Rattle.plan_table.specs.declared.table.Table.{Table}
use Rattle.plan_table.specs.declared.line.Line.{Line}
use Rattle.plan_table.specs.declared.line.Spot.{Spot}
use Rattle.plan_table.specs.declared.line.Spot.TheVariants.{Parameter, Variable, Offered, Output, Count, Included}
use Rattle.plan_table.specs.declared.line.Spot.TheVariants.{Name, Deployments}
use Rattle.plan_table.specs.Opened.{Opened}
use Rattle.plan_table.specs.Lines.{cell_of}
use Rattle.plan_table.specs.Whole.{scopes_of}
use Rattle.plan_sight.specs.declared.lack.Lack.{Lack}
use Rattle.plan_sight.specs.declared.lack.Lack.TheVariants as lack
use Rattle.plan_sight.specs.Seen.{Lacks}
use Rattle.point_rows.specs.declared.later.Entry.{Entry}
use Rattle.point_rows.specs.declared.later.Entry.TheVariants as entry
use Rattle.point_rows.specs.declared.later.StateAt.{StateAt}
use Rattle.point_rows.specs.declared.later.Later.{Later}
use Rattle.point_rows.specs.Rows.{status_told, state_row, state_tag, line_rows, rows_now, told_now, IsMissing}
use Rattle.point_rows.proofs.RowsNowLemmas.{apart_by, skip_plain}
use Rattle.point_rows.proofs.ToldNowLemmas.{told_value, told_missing}

-- ---- the first state at a key

same_key : (k l : ResourceId) → state k ≡ state l → k ≡ l
same_key k l e = cc

pub state_first : (s : StateAt) (ss : List StateAt) (k : ResourceId) → s.key ≡ k
    → status_of (map state_row (s ∷ ss)) (state k) ≡ Some (status_told s.state)
state_first s ss k e = found_first (state_row s) (map state_row ss) (state k) (ap state e)

pub state_later : (s : StateAt) (ss : List StateAt) (k : ResourceId) → (s.key ≡ k → ⊥)
    → status_of (map state_row (s ∷ ss)) (state k) ≡ status_of (map state_row ss) (state k)
state_later s ss k n = elim (by_same (state s.key) (state k)) [
  | inl e ↦ absurd (n (same_key s.key k (cell_is (state s.key) (state k) e)))
  | inr e ↦ found_later (state_row s) (map state_row ss) (state k) e
]

-- by the first place that has the key
by_tag : (s : StateAt) (k : ResourceId) → (is_tag (key_code k) (state_tag s) ≡ true → k ≡ s.key)
    × (is_tag (key_code k) (state_tag s) ≡ false → s.key ≡ k → ⊥)
by_tag s k = (
  λ e. same_key k s.key (cell_is (state k) (state s.key) (sym (key_eq k s.key) ∙ e)),
  λ e f. true≢false (sym ((bytes_eq-Decides (key_code k) (key_code s.key)).1 (ap key_code (sym f))) ∙ e),
)

-- the state at a place, as the first place of a key has it
abbrev pub IsFoundAt : List StateAt → ResourceId → Option ℕ → Type 0
IsFoundAt ss k None = status_of (map state_row ss) (state k) ≡ None
IsFoundAt ss k (Some i) =
    (i < length ss)
    × ((s : StateAt) → s ≡ get_or ss i s → status_of (map state_row ss) (state k) ≡ Some (status_told s.state))

one_further : (s : StateAt) (ss : List StateAt) (k : ResourceId) (o : Option ℕ) → (s.key ≡ k → ⊥)
    → IsFoundAt ss k o → IsFoundAt (s ∷ ss) k (option_map (λ n. suc n) o)
one_further s ss k None n h = state_later s ss k n ∙ h
one_further s ss k (Some i) n h =
    ((let b = h.0 in omega (arith, b)), λ y e. state_later s ss k n ∙ h.1 y e)

pub found_place : (ss : List StateAt) (k : ResourceId) → IsFoundAt ss k (first_place (key_code k) (map state_tag ss))
found_place [] k = refl
found_place (s ∷ ss) k = by_test (found_place ss k) (is_tag (key_code k) (state_tag s)) refl
  where
    by_test : IsFoundAt ss k (first_place (key_code k) (map state_tag ss)) → (b : Bool)
        → is_tag (key_code k) (state_tag s) ≡ b → IsFoundAt (s ∷ ss) k
        (if b then Some zero else option_map (λ n. suc n) (first_place (key_code k) (map state_tag ss)))
    by_test more true e = (
      omega arith,
      λ y f. state_first s ss k (sym ((by_tag s k).0 e))
          ∙ ap (λ (z : StateAt). Some (status_told z.state)) (sym f),
    )
    by_test more false e =
        one_further s ss k (first_place (key_code k) (map state_tag ss)) ((by_tag s k).1 e) more

-- the place that a look-up returns
pub place_is : (ss : List StateAt) (k : ResourceId) (o : Option ℕ) → o ≡ first_place (key_code k) (map state_tag ss)
    → IsFoundAt ss k o
place_is ss k o e = subst (IsFoundAt ss k) (sym e) (found_place ss k)

-- ---- no line is a state

spot_no_state : (os : List Opened) (s : Spot) → is_state (cell_of os s) ≡ false
spot_no_state os (Parameter f n) = refl
spot_no_state os (Variable f n) = refl
spot_no_state os (Offered f n) = refl
spot_no_state os (Output f n) = refl
spot_no_state os (Count f r) = refl
spot_no_state os (Included f r i) = refl
spot_no_state os (Name f r i) = refl
spot_no_state os (Deployments f) = refl

pub no_line : (os : List Opened) (ls : List Line) (es : List Entry) (k : ResourceId)
    → status_of (line_rows os ls es) (state k) ≡ None
no_line os [] es k = refl
no_line os (l ∷ ls) [] k =
    skip_plain os (line_rows os ls []) l.spot l.state entry.Missing (state k) refl
    (apart_by is_state (cell_of os l.spot) (state k) (spot_no_state os l.spot) refl) ∙ no_line os ls [] k
no_line os (l ∷ ls) (e ∷ es) k =
    skip_plain os (line_rows os ls es) l.spot l.state e (state k) refl
    (apart_by is_state (cell_of os l.spot) (state k) (spot_no_state os l.spot) refl) ∙ no_line os ls es k

-- ---- what is told

module _ (t : Table) (l : Later) (k : ResourceId) where
  abbrev lines : List Row
  lines = line_rows (scopes_of t) t.lines.items l.entries.items

  status_here : (s : Status) → status_of (map state_row l.states.items) (state k) ≡ Some s
      → status_of (rows_now t l) (state k) ≡ Some s
  status_here s e = joined_some (map state_row l.states.items) lines (state k) s e

  pub state_there : (s : StateAt) (v : Value)
      → status_of (map state_row l.states.items) (state k) ≡ Some (status_told s.state) → s.state ≡ Some v
      → told_now t l (value_of (state k)) ≡ value (Some (a_value (json v)))
  state_there s v e q =
      told_value t l (state k) (status_told s.state) (status_here (status_told s.state) e)
      ∙ ap (λ o. by_entry (state k) (λ u. value (option_map a_value u)) (known_by (Some (status_told o)))) q

  pub state_none : (s : StateAt) → status_of (map state_row l.states.items) (state k) ≡ Some (status_told s.state)
      → s.state ≡ None → told_now t l (value_of (state k)) ≡ value None
  state_none s e q =
      told_value t l (state k) (status_told s.state) (status_here (status_told s.state) e)
      ∙ ap (λ o. by_entry (state k) (λ u. value (option_map a_value u)) (known_by (Some (status_told o)))) q

  pub state_waits : status_of (map state_row l.states.items) (state k) ≡ None
      → told_now t l (value_of (state k)) ≡ waits (state k)
  state_waits e =
      told_missing t l (state k)
      (joined_none (map state_row l.states.items) lines (state k) e
      ∙ no_line (scopes_of t) t.lines.items l.entries.items k)

  pub lacks_state : (e : Lack) → IsMissing e k → status_of (map state_row l.states.items) (state k) ≡ None
      → Lacks t e (told_now t l (value_of (state k)))
  lacks_state lack.NotThere m s = absurd m
  lacks_state lack.NoValue m s = absurd m
  lacks_state (lack.Line j) m s = absurd m
  lacks_state (lack.State i) m s = state_waits s ∙ ap (λ (x : ResourceId). waits (state x)) (sym m)
  lacks_state lack.OutOfMemory m s = tt
