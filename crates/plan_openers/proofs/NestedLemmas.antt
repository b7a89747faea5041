-- Nested deployments that are included, and the scopes that they opened.
use Rattle.std.proofs.Common.{◌≡◌, inl, inr, ℕ, suc, ◌<◌, true, true≢false, List, [], ◌∷◌, length}
use Rattle.std.proofs.Common.{Option, Some, None, refl, sym, ap, subst, ◌∙◌, arith}
use Rattle.std.proofs.lemmas.List.{length-map}
use Rattle.std.specs.Prelude.{is_some, slice_get, option_map, option_and_then, if◌then◌else◌}
use Rattle.std.proofs.lemmas.Option.{same_Some}
use Rattle.plan_cells.proofs.TaskLemmas.{some_true}
use Rattle.arm_value.specs.Json.{Json, null, bool, int, text, array, object}
use Rattle.arm_value.specs.View.{json}
use Rattle.arm_ids.specs.declared.id.Place.{Place}
use Rattle.arm_ids.specs.declared.id.ResourceId.{ResourceId}
use Rattle.reading.specs.Knowledge.{known_value}
use Rattle.deploy_cells.specs.Cells.{Step, step, Position, Cell, included, name}
use Rattle.deploy_cells.specs.Puts.{Kind, IsNested, key_at}
use Rattle.deploy_cells.proofs.SameLemmas.{cell_is}
use Rattle.plan_cells.specs.Known as knowing
use Rattle.plan_cells.specs.Resources.{Listed, Nested, nested_in, nested_at, resource_at, resources_in, unless_existing}
use Rattle.plan_cells.specs.Scopes.{template_at, resource_of}
use Rattle.plan_cells.specs.Meaning.{Deployment}
use Rattle.plan_cells.specs.Desired.{kind_of, kinds}
use Rattle.plan_cells.specs.Reads.{key_in}
use Rattle.plan_cells.specs.Start.{start_world}
use Rattle.plan_cells.specs.Tasks.{key_by}
use Rattle.plan_table.specs.Rows.{Status, New, Open, Value, Empty, Late, Row, row_at, status_of, known_by}
use Rattle.plan_table.specs.Final.{or_unlisted}
use Rattle.plan_table.proofs.RowLemmas.{by_same, found_first, found_later}
use Rattle.plan_table.specs.declared.line.Line.{Line}
use Rattle.plan_table.specs.declared.line.Spot.{Spot}
use Rattle.plan_table.specs.declared.line.Spot.TheVariants as spotted
use Rattle.plan_table.specs.declared.line.Spot.TheVariants.{Included}
use Rattle.plan_table.specs.declared.line.State.{State}
use Rattle.plan_table.specs.declared.line.State.TheVariants as how
use Rattle.plan_table.specs.declared.table.Table.{Table}
use Rattle.plan_table.specs.Opened.{Opened, opened_of, opened_at, IsKept}
use Rattle.plan_table.specs.Lines.{frame_of, cell_of, status_in, row_of, line_at}
use Rattle.plan_table.specs.Laid.{OpensBy, IsOpened}
use Rattle.plan_table.specs.Whole.{whole_of, scopes_of, rows_in}
use Rattle.plan_table.specs.Found.{scope_at}
use Rattle.plan_table.proofs.LaidLemmas.{row_here, length_rows}
use Rattle.plan_refusals.specs.Start.{start_of, IsStartTable, IsInstance}
use Rattle.plan_openers.specs.declared.opener.Opener.{Opener}
use Rattle.plan_openers.specs.Openers.{IsOpener}
use Rattle.arm_value.specs.Kinds.{is_true}

-- ---- of a scope that is there, its nested deployment

-- the name that gives a key
record HasTitle (place : Place) (k : Kind) (o : Option Json) (key : ResourceId) : Type 0 where
  title : List ℕ
  has : o ≡ Some (text title)
  is : key_at place k.type title ≡ key

title_by : (place : Place) (k : Kind) (o : Option Json) (key : ResourceId)
    → option_and_then (key_by place (Some k)) o ≡ Some key → HasTitle place k o key
title_by place k None key e = absurd (cc)
title_by place k (Some (text n)) key e =
    record { title = n; has = refl; is = same_Some (key_at place k.type n) key e }
title_by place k (Some null) key e = absurd (cc)
title_by place k (Some (bool b)) key e = absurd (cc)
title_by place k (Some (int z)) key e = absurd (cc)
title_by place k (Some (array js)) key e = absurd (cc)
title_by place k (Some (object ms)) key e = absurd (cc)

-- a nested deployment with a key
pub record IsKeyed (d : Deployment) (q : knowing.Table) (p : Position) (s : Step) (key : ResourceId) : Type 0 where
  pub kind : Kind
  pub title : List ℕ
  pub is_nested : IsNested (kinds d) (start_world q) p s kind title
  pub has_key : key_at d.place kind.type title ≡ key

resource_there : (t : Table) (f r i : ℕ) → IsStartTable t → (h : IsInstance t f r i)
    → resource_of (whole_of t).template (scope_at t f).position r ≡ Some h.number.listed
unfolding resource_at
resource_there t f r i start h =
    let n = length-map t.frames.items opened_of in
    let l = h.there in
    let kept : IsKept (whole_of t) (scopes_of t) f (scope_at t f) = start.laid.kept f (omega (arith, n, l)) in
    ap (λ o. option_and_then (λ u. option_and_then unless_existing (slice_get (resources_in u) r)) o) kept.template
    ∙ ap (λ xs. option_and_then unless_existing (slice_get xs r)) (sym kept.resources)
    ∙ ap (option_and_then unless_existing) h.number.has
    ∙ ap (λ b. if b then None else Some h.number.listed) h.number.is_put

pub opener_keyed : (t : Table) (g : ℕ) (x : Opener) (key : ResourceId) → IsStartTable t → IsOpener t g x
    → key_in (whole_of t) (start_world (start_of t)) (scope_at t x.frame).position (step x.resource x.copy) ≡ Some key
    → IsKeyed (whole_of t) (start_of t) (scope_at t x.frame).position (step x.resource x.copy) key
opener_keyed t g x key start o e =
    let d = whole_of t in
    let q = start_of t in
    let p = (scope_at t x.frame).position in
    let s = step x.resource x.copy in
    let y = o.is_instance.number.listed in
    let kind : kinds d p x.resource ≡ Some (kind_of y) =
    ap (option_map kind_of) (resource_there t x.frame x.resource x.copy start o.is_instance) in
    let title = title_by d.place (kind_of y) (known_value (q (name p s))) key
    (ap (λ k. option_and_then (key_by d.place k) (known_value (q (name p s)))) (sym kind) ∙ e) in
    record {
      kind = kind_of y;
      title = title.title;
      is_nested = record {
        is_included = record {
          is_declared = kind;
          has_condition = some_true (known_value (q (included p s))) o.is_included;
          has_name = title.has;
        };
        is_deployment = ap is_some o.is_nested;
      };
      has_key = title.is;
    }

-- ---- of a nested deployment that is included, its scope

pub record HasRow (rows : List Row) (c : Cell) (s : Status) : Type 0 where
  pub number : ℕ
  pub listed : number < length rows
  pub cell : (row_at rows number).cell ≡ c
  pub status : (row_at rows number).status ≡ s

row_later : (r : Row) (rows : List Row) (c : Cell) (s : Status) → HasRow rows c s → HasRow (r ∷ rows) c s
row_later r rows c s h = record {
  number = suc h.number;
  listed = (let l = h.listed in omega (arith, l));
  cell = h.cell;
  status = h.status;
}

pub row_of_status : (rows : List Row) (c : Cell) (s : Status) → status_of rows c ≡ Some s → HasRow rows c s
row_of_status [] c s e = absurd (cc)
row_of_status (r ∷ rs) c s e =
    elim (by_same r.cell c) [
      | inl x ↦ (let at = cell_is r.cell c x in record {
        number = 0;
        listed = omega arith;
        cell = at;
        status = same_Some r.status s (sym (found_first r rs c at) ∙ e);
      })
      | inr x ↦ row_later r rs c s (row_of_status rs c s (sym (found_later r rs c x) ∙ e))
    ]

by_known : (o : Option Status) (v : Json) → known_value (known_by o) ≡ Some v → o ≡ Some (Value v)
by_known (Some (Value w)) v e = ap (λ x. Some (Value x)) (same_Some w v e)
by_known (Some New) v e = absurd (cc)
by_known (Some Open) v e = absurd (cc)
by_known (Some Empty) v e = absurd (cc)
by_known (Some (Late k)) v e = absurd (cc)
by_known None v e = absurd (cc)

by_included : (σ : Cell → Option Status) (p : Position) (s : Step) (o : Option Status) (v : Json)
    → known_value (or_unlisted σ (included p s) o) ≡ Some v → o ≡ Some (Value v)
by_included σ p s None v e = absurd (cc)
by_included σ p s (Some u) v e = by_known (Some u) v e

-- the spot of a condition
record IsSpotOf (os : List Opened) (x : Spot) (p : Position) (s : Step) : Type 0 where
  frame : ℕ
  is : x ≡ Included frame s.resource s.copy
  at : (opened_at os frame).position ≡ p

position_in : Cell → Position
position_in (included p s) = p
position_in _ = []

step_in : Cell → Step
step_in (included p s) = s
step_in _ = step 0 0

spot_of : (os : List Opened) (x : Spot) (p : Position) (s : Step) → cell_of os x ≡ included p s → IsSpotOf os x p s
unfolding position_in step_in
spot_of os (Included g r i) p s e = record {
  frame = g;
  is = λ j. Included g (ap (λ c. (step_in c).resource) e j) (ap (λ c. (step_in c).copy) e j);
  at = ap position_in e;
}
spot_of os (spotted.Parameter g n) p s e = absurd (cc)
spot_of os (spotted.Variable g n) p s e = absurd (cc)
spot_of os (spotted.Offered g n) p s e = absurd (cc)
spot_of os (spotted.Output g n) p s e = absurd (cc)
spot_of os (spotted.Count g r) p s e = absurd (cc)
spot_of os (spotted.Name g r i) p s e = absurd (cc)
spot_of os (spotted.Deployments g) p s e = absurd (cc)

opened_by : (os : List Opened) (ls : List Line) (g f r i : ℕ) (x : State) (n : Nested)
    → OpensBy os ls g (Included f r i) x → status_in x ≡ Value (bool true)
    → nested_at (opened_at os f).template r ≡ Some n → IsOpened os g f r i
opened_by os ls g f r i (how.Value v) n o e h =
    o (ap is_true (ap Some (value_is (json v) (bool true) e))) n h
  where
    value_is : (a b : Json) → Value a ≡ Value b → a ≡ b
    value_is a b e = cc
opened_by os ls g f r i how.New n o e h = absurd (cc)
opened_by os ls g f r i how.Open n o e h = absurd (cc)
opened_by os ls g f r i how.Empty n o e h = absurd (cc)
opened_by os ls g f r i (how.Late k) n o e h = absurd (cc)

-- what a kind says of the template
nested_by_kind : (o : Option Listed) (k : Kind) → option_map kind_of o ≡ Some k → k.is_deployment ≡ true
    → (n : Nested) × (option_and_then (λ (y : Listed). nested_in y.content) o ≡ Some n)
nested_by_kind None k e h = absurd (cc)
nested_by_kind (Some y) k e h =
    some_of (nested_in y.content) (ap (λ (j : Kind). j.is_deployment) (same_Some (kind_of y) k e) ∙ h)
  where
    some_of : (o : Option Nested) → is_some o ≡ true → (n : Nested) × (o ≡ Some n)
    some_of (Some n) e = (n, refl)
    some_of None e = absurd (true≢false (sym e))

-- the scope of a nested deployment has a number
pub record HasScope (t : Table) (p : Position) (s : Step) : Type 0 where
  pub number : ℕ
  pub there : number < length (scopes_of t)
  pub is : (scope_at t number).position ≡ s ∷ p

pub nested_scope : (t : Table) (p : Position) (s : Step) (k : Kind) (n : List ℕ) → IsStartTable t
    → IsNested (kinds (whole_of t)) (start_world (start_of t)) p s k n → HasScope t p s
nested_scope t p s k n start h =
    let os = scopes_of t in
    let ls = t.lines.items in
    let σ = status_of (rows_in t) in
    let row = row_of_status (rows_in t) (included p s) (Value (bool true))
    (by_included σ p s (σ (included p s)) (bool true) h.is_included.has_condition) in
    let m = length_rows os ls in
    let l = row.listed in
    let j = row.number in
    let listed : j < length ls = omega (arith, m, l) in
    let as_row : row_at (rows_in t) j ≡ row_of os (line_at ls j) = row_here os ls j listed in
    let spot = spot_of os (line_at ls j).spot p s (ap (λ (r : Row). r.cell) (sym as_row) ∙ row.cell) in
    let f = spot.frame in
    let placed : f < length os =
    subst (λ (x : Spot). frame_of x < length os) spot.is (start.laid.placed j listed).there in
    let kept : IsKept (whole_of t) os f (opened_at os f) = start.laid.kept f placed in
    let nested = nested_by_kind (resource_of (whole_of t).template p s.resource) k h.is_included.is_declared
    h.is_deployment in
    let here : nested_at (opened_at os f).template s.resource ≡ Some nested.0 =
    ap (λ o. option_and_then (λ (y : Listed). nested_in y.content) (option_and_then (λ u. resource_at u s.resource) o))
    (sym kept.template ∙ ap (template_at (whole_of t).template) spot.at) ∙ nested.1 in
    let opened : IsOpened os (line_at ls j).opened f s.resource s.copy =
    opened_by os ls (line_at ls j).opened f s.resource s.copy (line_at ls j).state nested.0
    (subst (λ (x : Spot). OpensBy os ls (line_at ls j).opened x (line_at ls j).state) spot.is
    (start.laid.opens j listed))
    (ap (λ (r : Row). r.status) (sym as_row) ∙ row.status) here in
    record {
      number = (line_at ls j).opened;
      there = opened.there;
      is = opened.position ∙ ap (λ z. s ∷ z) spot.at;
    }
