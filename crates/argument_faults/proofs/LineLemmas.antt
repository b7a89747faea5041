-- Conditions and names that have a value at the start have lines.
use Rattle.std.proofs.Common.{◌≡◌, ℕ, suc, ◌<◌, true, true≢false, List, [], ◌∷◌, length, Option, Some, None}
use Rattle.std.proofs.Common.{refl, sym, ap, subst, ◌∙◌, arith}
use Rattle.std.specs.Prelude.{option_and_then}
use Rattle.arm_value.specs.Json.{Json}
use Rattle.arm_value.specs.Kinds.{is_true}
use Rattle.arm_value.specs.View.{json}
use Rattle.reading.specs.Knowledge.{known, known_value}
use Rattle.template_tree.specs.Tree.{TemplateTree}
use Rattle.deploy_cells.specs.Cells.{Step, step, Position, Cell, included, name}
use Rattle.plan_cells.specs.Resources.{Listed, Nested, nested_in, nested_at, resource_at}
use Rattle.plan_cells.specs.Scopes.{template_at, nested_of}
use Rattle.plan_filling.specs.Rows.{Status, New, Open, Value, Empty, Late, Row, row_at, status_of}
use Rattle.plan_filling.specs.Final.{or_unlisted}
use Rattle.plan_table.specs.declared.line.Line.{Line}
use Rattle.plan_table.specs.declared.line.Spot.{Spot}
use Rattle.plan_table.specs.declared.line.Spot.TheVariants as spotted
use Rattle.plan_table.specs.declared.line.Spot.TheVariants.{Included, Name}
use Rattle.plan_table.specs.declared.line.State.{State}
use Rattle.plan_table.specs.declared.line.State.TheVariants as how
use Rattle.plan_table.specs.declared.table.Table.{Table}
use Rattle.plan_table.specs.Opened.{Opened, opened_at, IsKept}
use Rattle.plan_table.specs.Lines.{frame_of, cell_of, status_in, row_of, line_at}
use Rattle.plan_table.specs.Laid.{OpensBy, IsOpened}
use Rattle.plan_table.specs.Whole.{whole_of, scopes_of, rows_in}
use Rattle.plan_table.specs.Found.{scope_at}
use Rattle.plan_table.proofs.LaidLemmas.{row_here, length_rows}
use Rattle.plan_tasks.specs.InOrder.{is_in}
use Rattle.plan_tasks.specs.Start.{start_of, IsStartTable}
use Rattle.plan_openers.proofs.NestedLemmas.{HasScope, row_of_status}

-- ---- rows

record HasLine (t : Table) (c : Cell) (v : Json) : Type 0 where
  number : ℕ
  listed : number < length t.lines.items
  cell : cell_of (scopes_of t) (line_at t.lines.items number).spot ≡ c
  state : status_in (line_at t.lines.items number).state ≡ Value v

line_of_value : (t : Table) (c : Cell) (v : Json) → status_of (rows_in t) c ≡ Some (Value v) → HasLine t c v
line_of_value t c v e =
    let row = row_of_status (rows_in t) c (Value v) e in
    let m = length_rows (scopes_of t) t.lines.items in
    let l = row.listed in
    let listed : row.number < length t.lines.items = omega (arith, m, l) in
    let as_row : row_at (rows_in t) row.number ≡ row_of (scopes_of t) (line_at t.lines.items row.number) =
    row_here (scopes_of t) t.lines.items row.number listed in
    record {
      number = row.number;
      listed = listed;
      cell = ap (λ (r : Row). r.cell) (sym as_row) ∙ row.cell;
      state = ap (λ (r : Row). r.status) (sym as_row) ∙ row.status;
    }

-- ---- spots

position_in : Cell → Position
position_in (included p s) = p
position_in (name p s) = p
position_in _ = []

step_in : Cell → Step
step_in (included p s) = s
step_in (name p s) = s
step_in _ = step 0 0

record IsSpotOf (os : List Opened) (x : Spot) (p : Position) (y : ℕ → Spot) : Type 0 where
  frame : ℕ
  is : x ≡ y frame
  at : (opened_at os frame).position ≡ p

condition_spot : (os : List Opened) (x : Spot) (p : Position) (s : Step) → cell_of os x ≡ included p s
    → IsSpotOf os x p (λ f. Included f s.resource s.copy)
unfolding position_in step_in
condition_spot os (Included g r i) p s e = record {
  frame = g;
  is = λ j. Included g (ap (λ c. (step_in c).resource) e j) (ap (λ c. (step_in c).copy) e j);
  at = ap position_in e;
}
condition_spot os (spotted.Parameter g n) p s e = absurd (cc)
condition_spot os (spotted.Variable g n) p s e = absurd (cc)
condition_spot os (spotted.Offered g n) p s e = absurd (cc)
condition_spot os (spotted.Output g n) p s e = absurd (cc)
condition_spot os (spotted.Count g r) p s e = absurd (cc)
condition_spot os (Name g r i) p s e = absurd (cc)
condition_spot os (spotted.Deployments g) p s e = absurd (cc)

name_spot : (os : List Opened) (x : Spot) (p : Position) (s : Step) → cell_of os x ≡ name p s
    → IsSpotOf os x p (λ f. Name f s.resource s.copy)
unfolding position_in step_in
name_spot os (Name g r i) p s e = record {
  frame = g;
  is = λ j. Name g (ap (λ c. (step_in c).resource) e j) (ap (λ c. (step_in c).copy) e j);
  at = ap position_in e;
}
name_spot os (spotted.Parameter g n) p s e = absurd (cc)
name_spot os (spotted.Variable g n) p s e = absurd (cc)
name_spot os (spotted.Offered g n) p s e = absurd (cc)
name_spot os (spotted.Output g n) p s e = absurd (cc)
name_spot os (spotted.Count g r) p s e = absurd (cc)
name_spot os (Included g r i) p s e = absurd (cc)
name_spot os (spotted.Deployments g) p s e = absurd (cc)

-- ---- values

by_true : (σ : Cell → Option Status) (p : Position) (s : Step) (o : Option Status)
    → is_true (known_value (or_unlisted σ (included p s) o)) ≡ true
    → (v : Json) × ((o ≡ Some (Value v)) × (is_true (Some v) ≡ true))
by_true σ p s (Some (Value v)) e = (v, (refl, e))
by_true σ p s (Some New) e = absurd (true≢false (sym e))
by_true σ p s (Some Open) e = absurd (true≢false (sym e))
by_true σ p s (Some Empty) e = absurd (true≢false (sym e))
by_true σ p s (Some (Late k)) e = absurd (true≢false (sym e))
by_true σ p s None e = absurd (true≢false (sym e))

by_name : (σ : Cell → Option Status) (p : Position) (s : Step) (v : Json) (o : Option Status)
    → or_unlisted σ (name p s) o ≡ known v → o ≡ Some (Value v)
by_name σ p s v (Some (Value w)) e = let same : w ≡ v = cc in ap (λ x. Some (Value x)) same
by_name σ p s v (Some New) e = absurd (cc)
by_name σ p s v (Some Open) e = absurd (cc)
by_name σ p s v (Some Empty) e = absurd (cc)
by_name σ p s v (Some (Late k)) e = absurd (cc)
by_name σ p s v None e = absurd (cc)

-- ---- lines

-- the line of the condition of an instance, which is true
pub record HasCondition (t : Table) (p : Position) (s : Step) : Type 0 where
  pub line : ℕ
  pub listed : line < length t.lines.items
  pub frame : ℕ
  pub is : (line_at t.lines.items line).spot ≡ Included frame s.resource s.copy
  pub at : (scope_at t frame).position ≡ p
  pub value : Json
  pub state : status_in (line_at t.lines.items line).state ≡ Value value
  pub is_true : is_true (Some value) ≡ true

pub condition_line : (t : Table) (p : Position) (s : Step) → is_in (start_of t) p s ≡ true → HasCondition t p s
condition_line t p s e =
    let σ = status_of (rows_in t) in
    let v = by_true σ p s (σ (included p s)) e in
    let l = line_of_value t (included p s) v.0 v.1.0 in
    let x = condition_spot (scopes_of t) (line_at t.lines.items l.number).spot p s l.cell in
    record {
      line = l.number;
      listed = l.listed;
      frame = x.frame;
      is = x.is;
      at = x.at;
      value = v.0;
      state = l.state;
      is_true = v.1.1;
    }

-- the line of the name of an instance
pub record HasName (t : Table) (p : Position) (s : Step) : Type 0 where
  pub line : ℕ
  pub listed : line < length t.lines.items
  pub frame : ℕ
  pub is : (line_at t.lines.items line).spot ≡ Name frame s.resource s.copy
  pub at : (scope_at t frame).position ≡ p

pub name_line : (t : Table) (p : Position) (s : Step) (v : Json) → start_of t (name p s) ≡ known v → HasName t p s
name_line t p s v e =
    let σ = status_of (rows_in t) in
    let l = line_of_value t (name p s) v (by_name σ p s v (σ (name p s)) e) in
    let x = name_spot (scopes_of t) (line_at t.lines.items l.number).spot p s l.cell in
    record { line = l.number; listed = l.listed; frame = x.frame; is = x.is; at = x.at }

-- ---- scopes

-- a nested deployment by its resource
pub nested_by_resource : (o : Option TemplateTree) (r : ℕ)
    → option_and_then (λ u. nested_at u r) o
    ≡ option_and_then (λ (y : Listed). nested_in y.content) (option_and_then (λ u. resource_at u r) o)
nested_by_resource None r = refl
nested_by_resource (Some u) r = refl

opened_by : (os : List Opened) (ls : List Line) (g f r i : ℕ) (x : State) (v : Json) (n : Nested)
    → OpensBy os ls g (Included f r i) x → status_in x ≡ Value v → is_true (Some v) ≡ true
    → nested_at (opened_at os f).template r ≡ Some n → IsOpened os g f r i
opened_by os ls g f r i (how.Value w) v n o e h m = o (ap is_true (ap Some (value_is (json w) v e)) ∙ h) n m
  where
    value_is : (a b : Json) → Value a ≡ Value b → a ≡ b
    value_is a b e = cc
opened_by os ls g f r i how.New v n o e h m = absurd (cc)
opened_by os ls g f r i how.Open v n o e h m = absurd (cc)
opened_by os ls g f r i how.Empty v n o e h m = absurd (cc)
opened_by os ls g f r i (how.Late k) v n o e h m = absurd (cc)

-- a nested deployment that is included opened a scope
pub opened_scope : (t : Table) (p : Position) (s : Step) (n : Nested) → IsStartTable t
    → is_in (start_of t) p s ≡ true → nested_of (whole_of t).template p s ≡ Some n → HasScope t p s
opened_scope t p s n start i e =
    let os = scopes_of t in
    let ls = t.lines.items in
    let c = condition_line t p s i in
    let placed : c.frame < length os =
    subst (λ (x : Spot). frame_of x < length os) c.is (start.laid.placed c.line c.listed).there in
    let kept : IsKept (whole_of t) os c.frame (opened_at os c.frame) = start.laid.kept c.frame placed in
    let here : nested_at (opened_at os c.frame).template s.resource ≡ Some n =
    ap (λ o. option_and_then (λ u. nested_at u s.resource) o)
    (sym kept.template ∙ ap (template_at (whole_of t).template) c.at) ∙ e in
    let opened : IsOpened os (line_at ls c.line).opened c.frame s.resource s.copy =
    opened_by os ls (line_at ls c.line).opened c.frame s.resource s.copy (line_at ls c.line).state c.value n
    (subst (λ (x : Spot). OpensBy os ls (line_at ls c.line).opened x (line_at ls c.line).state) c.is
    (start.laid.opens c.line c.listed)) c.state c.is_true here in
    record {
      number = (line_at ls c.line).opened;
      there = opened.there;
      is = opened.position ∙ ap (λ z. s ∷ z) c.at;
    }
