-- What a value opens, by what the code has listed.
use Rattle.std.proofs.Common.{◌≡◌, ℕ, suc, ◌<◌, ◌≤◌, true, List, [], ◌∷◌, ◌++◌, map, length, Some, Result, Ok, Err}
use Rattle.std.proofs.Common.{refl}
use Rattle.std.proofs.Common.{sym, ap, subst, ◌∙◌, arith}
use Rattle.std.proofs.lemmas.List.{length-map}
use Rattle.std.specs.Prelude.{IfOk, slice_get}
use Rattle.reading.specs.World.{Each}
use Rattle.arm_value.specs.View.{json}
use Rattle.arm_value.specs.declared.value.Value.{Value}
use Rattle.plan_filling.specs.Cells.{copies}
use Rattle.plan_filling.specs.Resources as cells
use Rattle.plan_filling.specs.Resources.{Nested, nested_in}
use Rattle.plan_filling.specs.Meaning.{Deployment}
use Rattle.plan_filling.specs.Children.{children, roots}
use Rattle.plan_filling.specs.Rows.{row_at, with_status, with_value, fresh}
use Rattle.template_parameters.specs.Binding.{bound_view}
use Rattle.template_tree.specs.View.{template_tree}
use Rattle.template_tree.specs.declared.resource.Template.{Template}
use Rattle.plan_table.specs.declared.frame.Frame.{Frame}
use Rattle.plan_table.specs.declared.table.Table.{Table}
use Rattle.plan_table.specs.declared.line.Line.{Line}
use Rattle.plan_table.specs.declared.line.Spot.{Spot}
use Rattle.plan_table.specs.declared.line.Spot.TheVariants.{Offered, Output, Count, Included}
use Rattle.plan_table.specs.declared.line.State.TheVariants as how
use Rattle.plan_table.specs.Opened.{Opened, opened_of, opened_at, root_of, inside_of}
use Rattle.plan_table.specs.Lines.{IsPlaced, rows_of, new_line, line_at, with_state}
use Rattle.plan_table.specs.Keys.{Index, Indexes}
use Rattle.plan_table.specs.Spots.{scope_spots, instance_spots}
use Rattle.plan_table.specs.Laid.{Laid}
use Rattle.plan_table.specs.Whole.{whole_of, scopes_of, rows_in, IsLaid}
use Rattle.plan_table.proofs.FillLemmas.{Fills, instances_placed, count_fills, offered_fills, scope_fills}
use Rattle.plan_table.proofs.FillLemmas.{scope_placed, root_laid, root_rows}
use Rattle.plan_table.proofs.StepLemmas.{indexed_still, added_placed, extended}
use Rattle.arm_value.specs.Kinds.{is_true}

placed_line : (d : Deployment) (os : List Opened) (ix : Index) (ls : List Line) (at : ℕ) (s : Spot) → Laid d os ix ls
    → at < length ls → (line_at ls at).spot ≡ s → IsPlaced os s
placed_line d os ix ls at s laid h e = subst (λ x. IsPlaced os x) e (laid.placed at h)

-- ---- instances

pub instances_ready : (d : Deployment) (fs gs : List Frame) (ix : Index) (ls : List Line) (at f r n : ℕ)
    (ss ts : List Spot) → Laid d (map opened_of fs) ix ls → at < length ls → (line_at ls at).spot ≡ Count f r
    → n ≤ 800 → gs ≡ fs → ts ≡ ss → ss ≡ instance_spots f r n → Each (IsPlaced (map opened_of gs)) ts
instances_ready d fs gs ix ls at f r n ss ts laid h is few a b c =
    let p : IsPlaced (map opened_of fs) (Count f r) = placed_line d (map opened_of fs) ix ls at (Count f r) laid h is in
    subst (λ xs. Each (IsPlaced (map opened_of gs)) xs) (sym (b ∙ c))
    (subst (λ (hs : List Frame). Each (IsPlaced (map opened_of hs)) (instance_spots f r n)) (sym a)
    (instances_placed (map opened_of fs) f r n p.there p.declared few))

module _ (d : Deployment) (fs gs : List Frame) (ix jx : Index) (ls ms : List Line) (at f r n : ℕ) (v : Value)
    (ss ts : List Spot) (laid : Laid d (map opened_of fs) ix ls) (h : at < length ls)
    (is : (line_at ls at).spot ≡ Count f r) (number : n ≡ copies (Some (json v))) (few : n ≤ 800) (a : gs ≡ fs)
    (b : ts ≡ ss) (c : ss ≡ instance_spots f r n) where
  instances_fill : ms ≡ with_state ls at (how.Value v) 0 ++ map new_line ts → Indexes (map opened_of gs) jx ms
      → Fills d (map opened_of fs) (map opened_of fs) ls ms jx at (json v)
  instances_fill e i =
      count_fills d (map opened_of fs) ix jx ls ms at f r n v laid h is number
      (e ∙ ap (λ xs. with_state ls at (how.Value v) 0 ++ map new_line xs) (b ∙ c))
      (subst (λ (hs : List Frame). Indexes (map opened_of hs) jx ms) a i) few

  pub instances_laid : {X E : Type 0} (o : Result X E)
      → IfOk o (λ _. ms ≡ with_state ls at (how.Value v) 0 ++ map new_line ts)
      → IfOk o (λ _. Indexes (map opened_of gs) jx ms) → IfOk o (λ _. Laid d (map opened_of fs) jx ms)
  instances_laid (Ok x) e i = (instances_fill e i).laid
  instances_laid (Err x) e i = tt

  pub instances_rows : {X E : Type 0} (o : Result X E)
      → IfOk o (λ _. ms ≡ with_state ls at (how.Value v) 0 ++ map new_line ts)
      → IfOk o (λ _. Indexes (map opened_of gs) jx ms)
      → IfOk o (λ _. rows_of (map opened_of fs) ms
      ≡ with_status (rows_of (map opened_of fs) ls) at (with_value (json v))
      ++ map fresh (children d (row_at (rows_of (map opened_of fs) ls) at).cell (json v)))
  instances_rows (Ok x) e i = (instances_fill e i).rows
  instances_rows (Err x) e i = tt

-- ---- an output

module _ (d : Deployment) (fs gs : List Frame) (ix jx : Index) (ls ms : List Line) (at f n : ℕ) (v : Value)
    (ts : List Spot) (laid : Laid d (map opened_of fs) ix ls) (h : at < length ls)
    (is : (line_at ls at).spot ≡ Offered f n) (holds : is_true (Some (json v)) ≡ true) (a : gs ≡ fs)
    (b : ts ≡ Output f n ∷ []) where
  output_fill : ms ≡ with_state ls at (how.Value v) 0 ++ map new_line ts → Indexes (map opened_of gs) jx ms
      → Fills d (map opened_of fs) (map opened_of fs) ls ms jx at (json v)
  output_fill e i =
      offered_fills d (map opened_of fs) ix jx ls ms at f n v laid h is holds
      (e ∙ ap (λ xs. with_state ls at (how.Value v) 0 ++ map new_line xs) b)
      (subst (λ (hs : List Frame). Indexes (map opened_of hs) jx ms) a i)

  pub output_laid : {X E : Type 0} (o : Result X E)
      → IfOk o (λ _. ms ≡ with_state ls at (how.Value v) 0 ++ map new_line ts)
      → IfOk o (λ _. Indexes (map opened_of gs) jx ms) → IfOk o (λ _. Laid d (map opened_of fs) jx ms)
  output_laid (Ok x) e i = (output_fill e i).laid
  output_laid (Err x) e i = tt

  pub output_rows : {X E : Type 0} (o : Result X E)
      → IfOk o (λ _. ms ≡ with_state ls at (how.Value v) 0 ++ map new_line ts)
      → IfOk o (λ _. Indexes (map opened_of gs) jx ms)
      → IfOk o (λ _. rows_of (map opened_of fs) ms
      ≡ with_status (rows_of (map opened_of fs) ls) at (with_value (json v))
      ++ map fresh (children d (row_at (rows_of (map opened_of fs) ls) at).cell (json v)))
  output_rows (Ok x) e i = (output_fill e i).rows
  output_rows (Err x) e i = tt

-- ---- a scope

pub scope_ready : (fs us gs : List Frame) (o : Opened) (ss ts : List Spot)
    → map opened_of us ≡ map opened_of fs ++ o ∷ [] → gs ≡ us → ts ≡ ss
    → ss ≡ scope_spots (length fs) (opened_at (map opened_of us) (length fs)) → Each (IsPlaced (map opened_of gs)) ts
scope_ready fs us gs o ss ts e a b c =
    subst (λ (hs : List Frame). Each (IsPlaced (map opened_of hs)) ts) (sym a)
    (added_placed (map opened_of fs) (map opened_of us) o (length fs) ts e (sym (length-map fs opened_of)) (b ∙ c))

pub scope_indexed : (d : Deployment) (fs us gs : List Frame) (o : Opened) (ix jx : Index) (ls ks : List Line)
    → Laid d (map opened_of fs) ix ls → map opened_of us ≡ map opened_of fs ++ o ∷ [] → gs ≡ us → jx ≡ ix → ks ≡ ls
    → Indexes (map opened_of gs) jx ks
scope_indexed d fs us gs o ix jx ls ks laid e a b c =
    subst (λ (hs : List Frame). Indexes (map opened_of hs) jx ks) (sym a)
    (subst (λ (x : Index). Indexes (map opened_of us) x ks) (sym b)
    (subst (λ (xs : List Line). Indexes (map opened_of us) ix xs) (sym c)
    (indexed_still (map opened_of fs) (map opened_of us) ix ls (extended (map opened_of fs) (map opened_of us) o e)
    laid.placed laid.indexed)))

pub whole_same : (s t : Table) → s.template ≡ t.template → s.bound ≡ t.bound → s.place ≡ t.place
    → whole_of s ≡ whole_of t
whole_same s t a b c =
    λ i. record {
      template = template_tree (a i).now;
      bound = map bound_view (b i).now;
      place = (c i).now;
    }

module _ (d e : Deployment) (fs us gs : List Frame) (ix jx : Index) (ls ks ms : List Line) (at f r i g : ℕ)
    (v : Value) (x : cells.Listed) (n : Nested) (ss ts : List Spot) (same : e ≡ d)
    (laid : Laid d (map opened_of fs) ix ls) (h : at < length ls) (is : (line_at ls at).spot ≡ Included f r i)
    (holds : is_true (Some (json v)) ≡ true) (has : slice_get (opened_at (map opened_of fs) f).resources r ≡ Some x)
    (nested : nested_in x.content ≡ Some n)
    (more : map opened_of us
    ≡ map opened_of fs ++ inside_of f (length fs) (opened_at (map opened_of fs) f) x r i n ∷ [])
    (number : g ≡ length fs) (a : gs ≡ us) (b : ts ≡ ss)
    (c : ss ≡ scope_spots (length fs) (opened_at (map opened_of us) (length fs))) (k : ks ≡ ls) where
  count : length (map opened_of fs) ≡ length fs
  count = length-map fs opened_of

  more_scopes : map opened_of us
      ≡ map opened_of fs ++ inside_of f (length (map opened_of fs)) (opened_at (map opened_of fs) f) x r i n ∷ []
  more_scopes =
      more ∙ ap (λ m. map opened_of fs ++ inside_of f m (opened_at (map opened_of fs) f) x r i n ∷ []) (sym count)

  scope_fill : ms ≡ with_state ks at (how.Value v) g ++ map new_line ts → Indexes (map opened_of gs) jx ms
      → Fills d (map opened_of fs) (map opened_of us) ls ms jx at (json v)
  scope_fill p j =
      scope_fills d (map opened_of fs) (map opened_of us) ix jx ls ms at f r i v x n laid h is holds has nested
      more_scopes
      (p ∙ ap (λ xs. with_state xs at (how.Value v) g ++ map new_line ts) k
      ∙ ap (λ xs. with_state ls at (how.Value v) g ++ map new_line xs) (b ∙ c)
      ∙ ap (λ m. with_state ls at (how.Value v) m
      ++ map new_line (scope_spots (length fs) (opened_at (map opened_of us) (length fs)))) number
      ∙ ap (λ m. with_state ls at (how.Value v) m
      ++ map new_line (scope_spots m (opened_at (map opened_of us) m))) (sym count))
      (subst (λ (hs : List Frame). Indexes (map opened_of hs) jx ms) a j)

  pub scope_laid : {X E : Type 0} (o : Result X E)
      → IfOk o (λ _. ms ≡ with_state ks at (how.Value v) g ++ map new_line ts)
      → IfOk o (λ _. Indexes (map opened_of gs) jx ms) → IfOk o (λ _. Laid e (map opened_of us) jx ms)
  scope_laid (Ok y) p j = subst (λ y. Laid y (map opened_of us) jx ms) (sym same) (scope_fill p j).laid
  scope_laid (Err y) p j = tt

  pub scope_rows : {X E : Type 0} (o : Result X E)
      → IfOk o (λ _. ms ≡ with_state ks at (how.Value v) g ++ map new_line ts)
      → IfOk o (λ _. Indexes (map opened_of gs) jx ms)
      → IfOk o (λ _. rows_of (map opened_of us) ms
      ≡ with_status (rows_of (map opened_of fs) ls) at (with_value (json v))
      ++ map fresh (children d (row_at (rows_of (map opened_of fs) ls) at).cell (json v)))
  scope_rows (Ok y) p j = (scope_fill p j).rows
  scope_rows (Err y) p j = tt

-- ---- the root

pub root_ready : (os : List Opened) (o : Opened) (ss ts : List Spot) → os ≡ o ∷ [] → ts ≡ ss → ss ≡ scope_spots 0 o
    → Each (IsPlaced os) ts
root_ready os o ss ts e a b =
    subst (λ (ps : List Opened). Each (IsPlaced ps) ts) (sym e)
    (subst (λ xs. Each (IsPlaced (o ∷ [])) xs) (sym (a ∙ b)) (scope_placed (o ∷ []) 0 (omega arith)))

module _ (t tb : Table) (T : Template) (o : Opened) (ss ts : List Spot) (a : t.template.now ≡ tb.template.now)
    (fr : scopes_of t ≡ scopes_of tb) (ls : t.lines.items ≡ map new_line ts)
    (ix : Indexes (scopes_of tb) t.index t.lines.items) (b : tb.template.now ≡ T) (one : scopes_of tb ≡ o ∷ [])
    (is : o ≡ root_of (template_tree T)) (c : ts ≡ ss) (s : ss ≡ scope_spots 0 o) where
  root_is : o ≡ root_of (template_tree t.template.now)
  root_is = is ∙ ap (λ u. root_of (template_tree u)) (sym (a ∙ b))

  scopes_are : scopes_of t ≡ root_of (whole_of t).template ∷ []
  scopes_are = fr ∙ one ∙ ap (λ y. y ∷ []) root_is

  lines_are : t.lines.items ≡ map new_line (scope_spots 0 (root_of (whole_of t).template))
  lines_are = ls ∙ ap (map new_line) (c ∙ s ∙ ap (scope_spots 0) root_is)

  begun : IsLaid t
  begun =
      root_laid (whole_of t) (scopes_of t) t.index t.lines.items scopes_are lines_are
      (subst (λ (os : List Opened). Indexes os t.index t.lines.items) (sym fr) ix)

  begun_cells : rows_in t ≡ map fresh (roots (whole_of t))
  begun_cells = root_rows (whole_of t) (scopes_of t) t.lines.items scopes_are lines_are

pub begun_laid : {E : Type 0} (r : Result Table E) (tb : Table) (T : Template) (o : Opened) (ss ts : List Spot)
    → IfOk r (λ t. t.template.now ≡ tb.template.now) → IfOk r (λ t. scopes_of t ≡ scopes_of tb)
    → IfOk r (λ t. t.lines.items ≡ map new_line ts) → IfOk r (λ t. Indexes (scopes_of tb) t.index t.lines.items)
    → tb.template.now ≡ T → scopes_of tb ≡ o ∷ [] → o ≡ root_of (template_tree T) → ts ≡ ss → ss ≡ scope_spots 0 o
    → IfOk r IsLaid
begun_laid (Ok t) tb T o ss ts a fr ls ix b one is c s = begun t tb T o ss ts a fr ls ix b one is c s
begun_laid (Err e) tb T o ss ts a fr ls ix b one is c s = tt

pub begun_rows : {E : Type 0} (r : Result Table E) (tb : Table) (T : Template) (o : Opened) (ss ts : List Spot)
    → IfOk r (λ t. t.template.now ≡ tb.template.now) → IfOk r (λ t. scopes_of t ≡ scopes_of tb)
    → IfOk r (λ t. t.lines.items ≡ map new_line ts) → IfOk r (λ t. Indexes (scopes_of tb) t.index t.lines.items)
    → tb.template.now ≡ T → scopes_of tb ≡ o ∷ [] → o ≡ root_of (template_tree T) → ts ≡ ss → ss ≡ scope_spots 0 o
    → IfOk r (λ t. rows_in t ≡ map fresh (roots (whole_of t)))
begun_rows (Ok t) tb T o ss ts a fr ls ix b one is c s = begun_cells t tb T o ss ts a fr ls ix b one is c s
begun_rows (Err e) tb T o ss ts a fr ls ix b one is c s = tt
