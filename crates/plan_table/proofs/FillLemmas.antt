-- What a value opens, as it is listed.
use Rattle.std.proofs.Common.{◌≡◌, ◌⊎◌, inl, inr, ℕ, zero, suc, ◌+◌, ◌<◌, ◌≤◌, Bool, true, false, List, [], ◌∷◌, ◌++◌}
use Rattle.std.proofs.Common.{map, length, set, Some, None, refl, sym, ap, subst, ◌∙◌, arith}
use Rattle.std.proofs.lemmas.List.{map-append, append-nil}
use Rattle.std.specs.Prelude.{slice_get, option_map, option_and_then, if◌then◌else◌}
use Rattle.std.proofs.lemmas.Option.{slice_get_within}
use Rattle.foundation.proofs.TruthValues.{not_both}
use Rattle.foundation.proofs.Choices.{if_false, if_true}
use Rattle.reading.specs.World.{Each}
use Rattle.arm_value.specs.Json.{Json}
use Rattle.arm_value.specs.View.{json}
use Rattle.arm_value.specs.declared.value.Value.{Value}
use Rattle.plan_filling.specs.Cells.{step, Position, Cell, parameter, variable, offered, output, count, included, name, deployments, copies}
use Rattle.plan_filling.specs.Resources.{Listed, Nested, resource_at, nested_at, nested_in}
use Rattle.plan_filling.specs.Scopes.{template_at}
use Rattle.plan_filling.specs.Meaning.{Deployment, is_own}
use Rattle.plan_filling.specs.Children.{Has, parameter_names, variable_names, output_names, own_cells, steps, scope_cells, opened_cells, instance_cells, children, roots, numbers_from}
use Rattle.plan_filling.proofs.ListLemmas.{has_left, has_right}
use Rattle.plan_filling.specs.Rows.{Row, fresh, row_at, with_status, with_value}
use Rattle.plan_table.specs.declared.line.Line.{Line}
use Rattle.plan_table.specs.declared.line.Spot.{Spot}
use Rattle.plan_table.specs.declared.line.Spot.TheVariants.{Parameter, Variable, Offered, Output, Count, Included}
use Rattle.plan_table.specs.declared.line.Spot.TheVariants.{Name, Deployments}
use Rattle.plan_table.specs.declared.line.State.TheVariants as how
use Rattle.plan_table.specs.Opened.{Opened, opened_at, root_of, inside_of, IsKept}
use Rattle.plan_table.specs.Lines.{frame_of, cell_of, name_at, IsNumber, IsDeclared, IsPlaced, rows_of, new_line}
use Rattle.plan_table.specs.Lines.{line_at}
use Rattle.plan_table.specs.Lines.{with_state, IsAt}
use Rattle.plan_table.specs.Keys.{Index, Indexes}
use Rattle.plan_table.specs.Spots.{below, counts_below, own_spots, scope_spots, instance_spots}
use Rattle.plan_table.specs.Laid.{IsOfScope, HasCells, OpensBy, Opens, Laid, IsAlone}
use Rattle.plan_table.proofs.SpotLemmas.{has_below, each_joined, each_below, map_below, map_steps, map_counts}
use Rattle.plan_table.proofs.SpotLemmas.{has_count, each_count}
use Rattle.plan_table.proofs.ScopeLemmas.{extends_same, extends_more, opened_last, length_last, inside_kept}
use Rattle.plan_table.proofs.ScopeLemmas.{resource_here, nested_here, root_kept}
use Rattle.plan_table.proofs.LaidLemmas.{at_new, laid_after, laid_set, rows_after, rows_of_new, row_here}
use Rattle.plan_table.proofs.LaidLemmas.{rows_set, each_at, opens_new, all_new}
use Rattle.arm_value.specs.Kinds.{is_true}

-- the cell of a line
pub cell_here : (os : List Opened) (ls : List Line) (at : ℕ) (s : Spot) → at < length ls → (line_at ls at).spot ≡ s
    → (row_at (rows_of os ls) at).cell ≡ cell_of os s
cell_here os ls at s h e = ap (λ (r : Row). r.cell) (row_here os ls at h) ∙ ap (cell_of os) e

-- what a table is after a value was filled in
pub record Fills (d : Deployment) (os us : List Opened) (ls ms : List Line) (jx : Index) (at : ℕ) (v : Json) : Type 0
  where
    pub laid : Laid d us jx ms
    pub rows : rows_of us ms ≡ with_status (rows_of os ls) at (with_value v)
        ++ map fresh (children d (row_at (rows_of os ls) at).cell v)

-- ---- a value that opens nothing

none_inside : (d : Deployment) (os : List Opened) (f r i : ℕ) → IsKept d os f (opened_at os f)
    → nested_at (opened_at os f).template r ≡ None
    → opened_cells d (step r i ∷ (opened_at os f).position)
    (template_at d.template (step r i ∷ (opened_at os f).position)) ≡ []
unfolding template_at
none_inside d os f r i k e =
    ap (λ o. opened_cells d (step r i ∷ (opened_at os f).position) (option_map (λ n. n.template) o))
    (ap (option_and_then (λ u. nested_at u r)) k.template ∙ e)

if_either : {A : Type 0} (b : Bool) (xs : List A) → xs ≡ [] → (if b then xs else []) ≡ []
if_either true xs e = e
if_either false xs e = refl

children_included : (d : Deployment) (os : List Opened) (f r i : ℕ) (v : Json) → IsKept d os f (opened_at os f)
    → (is_true (Some v) ≡ false) ⊎ (nested_at (opened_at os f).template r ≡ None)
    → children d (included (opened_at os f).position (step r i)) v ≡ []
unfolding children
children_included d os f r i v k (inl e) = if_false (is_true (Some v))
    (opened_cells d (step r i ∷ (opened_at os f).position)
    (template_at d.template (step r i ∷ (opened_at os f).position))) [] e
children_included d os f r i v k (inr e) = if_either (is_true (Some v))
    (opened_cells d (step r i ∷ (opened_at os f).position)
    (template_at d.template (step r i ∷ (opened_at os f).position)))
    (none_inside d os f r i k e)

children_alone : (d : Deployment) (os : List Opened) (s : Spot) (v : Json)
    → IsKept d os (frame_of s) (opened_at os (frame_of s))
    → IsAlone os s v → children d (cell_of os s) v ≡ []
unfolding children
children_alone d os (Parameter f n) v k a = refl
children_alone d os (Variable f n) v k a = refl
children_alone d os (Offered f n) v k a =
    if_false (is_true (Some v)) (output (opened_at os f).position
    (name_at (output_names (opened_at os f).template) n) ∷ []) [] a
children_alone d os (Output f n) v k a = refl
children_alone d os (Count f r) v k a = ap (instance_cells (opened_at os f).position r) a
children_alone d os (Included f r i) v k a = children_included d os f r i v k a
children_alone d os (Name f r i) v k a = refl
children_alone d os (Deployments f) v k a = refl

opens_alone : (os : List Opened) (ms : List Line) (g : ℕ) (s : Spot) (v : Value) → IsAlone os s (json v)
    → OpensBy os ms g s (how.Value v)
opens_alone os ms g (Parameter f n) v a = tt
opens_alone os ms g (Variable f n) v a = tt
opens_alone os ms g (Offered f n) v a = λ t. absurd (not_both (is_true (Some (json v))) t a)
opens_alone os ms g (Output f n) v a = tt
opens_alone os ms g (Count f r) v a = λ i l. absurd (omega (arith, l, a))
opens_alone os ms g (Included f r i) v (inl a) = λ t n e. absurd (not_both (is_true (Some (json v))) t a)
opens_alone os ms g (Included f r i) v (inr a) = λ t n e. absurd (let no : None ≡ Some n = sym a ∙ e in cc)
opens_alone os ms g (Name f r i) v a = tt
opens_alone os ms g (Deployments f) v a = tt

pub alone_fills : (d : Deployment) (os : List Opened) (ix : Index) (ls ms : List Line) (at g : ℕ) (v : Value)
    → Laid d os ix ls → at < length ls → IsAlone os (line_at ls at).spot (json v)
    → ms ≡ with_state ls at (how.Value v) g → Fills d os os ls ms ix at (json v)
alone_fills d os ix ls ms at g v laid h a e =
    let l : Line = record { spot = (line_at ls at).spot; state = how.Value v; opened = g } in
    let none : children d (row_at (rows_of os ls) at).cell (json v) ≡ [] =
    ap (λ c. children d c (json v)) (cell_here os ls at (line_at ls at).spot h refl)
    ∙ children_alone d os (line_at ls at).spot (json v)
    (laid.kept (frame_of (line_at ls at).spot) (laid.placed at h).there) a in
    record {
      laid = subst (λ (xs : List Line). Laid d os ix xs) (sym e)
          (laid_set d os ix ls at l laid h refl (λ xs. opens_alone os xs g (line_at ls at).spot v a));
      rows = ap (rows_of os) e ∙ rows_set os ls at l h refl
          ∙ sym (append-nil (with_status (rows_of os ls) at (with_value (json v))))
          ∙ ap (λ (cs : List Cell). with_status (rows_of os ls) at (with_value (json v)) ++ map fresh cs) (sym none);
    }

-- ---- a count

pub instances_placed : (os : List Opened) (f r n : ℕ) → f < length os → IsNumber (opened_at os f) r → n ≤ 800
    → Each (IsPlaced os) (instance_spots f r n)
instances_placed os f r n h x l =
    each_joined (IsPlaced os) (below (λ i. Included f r i) n) (below (λ i. Name f r i) n)
    (each_below (IsPlaced os) (λ i. Included f r i) n (λ i q. record {
      there = h;
      declared =
          (x, omega (arith, q, l));
    }))
    (each_below (IsPlaced os) (λ i. Name f r i) n (λ i q. record { there = h; declared = (x, omega (arith, q, l)) }))

cells_of_instances : (os : List Opened) (f r n : ℕ)
    → map (cell_of os) (instance_spots f r n) ≡ instance_cells (opened_at os f).position r n
cells_of_instances os f r n =
    map-append (cell_of os) (below (λ i. Included f r i) n) (below (λ i. Name f r i) n)
    ∙ ap (λ xs. xs ++ map (cell_of os) (below (λ i. Name f r i) n))
    (map_steps (cell_of os) (λ i. Included f r i) (included (opened_at os f).position) r (λ i. refl) n)
    ∙ ap (λ xs. map (included (opened_at os f).position) (steps r 0 n) ++ xs)
    (map_steps (cell_of os) (λ i. Name f r i) (name (opened_at os f).position) r (λ i. refl) n)

children_count : (d : Deployment) (p : Position) (r n : ℕ) (v : Json) → n ≡ copies (Some v)
    → children d (count p r) v ≡ instance_cells p r n
unfolding children
children_count d p r n v e = ap (instance_cells p r) (sym e)

module _ (d : Deployment) (os : List Opened) (ix jx : Index) (ls ms : List Line) (at f r n : ℕ) (v : Value)
    (laid : Laid d os ix ls) (h : at < length ls) (is : (line_at ls at).spot ≡ Count f r)
    (number : n ≡ copies (Some (json v)))
    (e : ms ≡ with_state ls at (how.Value v) 0 ++ map new_line (instance_spots f r n))
    (indexed : Indexes os jx ms) where
  abbrev count_line : Line
  count_line = record { spot = (line_at ls at).spot; state = how.Value v; opened = 0 }

  pub count_is : IsPlaced os (Count f r)
  count_is = subst (λ s. IsPlaced os s) is (laid.placed at h)

  abbrev count_after : List Line
  count_after = set ls at count_line ++ map new_line (instance_spots f r n)

  included_at : (i : ℕ) → i < copies (Some (json v)) → IsAt count_after (Included f r i)
  included_at i l = at_new (set ls at count_line) (instance_spots f r n) (Included f r i)
      (has_left (Included f r i) (below (λ j. Included f r j) n) (below (λ j. Name f r j) n)
      (has_below (λ j. Included f r j) n i (omega (arith, l, number))))

  name_is_at : (i : ℕ) → i < copies (Some (json v)) → IsAt count_after (Name f r i)
  name_is_at i l = at_new (set ls at count_line) (instance_spots f r n) (Name f r i)
      (has_right (Name f r i) (below (λ j. Included f r j) n) (below (λ j. Name f r j) n)
      (has_below (λ j. Name f r j) n i (omega (arith, l, number))))

  count_opens : Opens os count_after count_line
  count_opens = subst (λ s. OpensBy os count_after 0 s (how.Value v)) (sym is)
      (λ i l. (included_at i l, name_is_at i l))

  pub count_fills : n ≤ 800 → Fills d os os ls ms jx at (json v)
  count_fills few = record {
    laid = subst (λ (xs : List Line). Laid d os jx xs) (sym e)
        (laid_after d os os ix jx ls at count_line (instance_spots f r n) laid h refl (extends_same os)
        (λ g a b. absurd (omega (arith, a, b))) (λ g a b. absurd (omega (arith, a, b)))
        (instances_placed os f r n count_is.there count_is.declared few) count_opens
        (subst (λ (xs : List Line). Indexes os jx xs) e indexed));
    rows = ap (rows_of os) e
        ∙ rows_after d os os ix ls at count_line (instance_spots f r n) laid h refl (extends_same os)
        ∙ ap (λ (cs : List Cell). with_status (rows_of os ls) at (with_value (json v)) ++ map fresh cs)
        (cells_of_instances os f r n ∙ sym (children_count d (opened_at os f).position r n (json v) number)
        ∙ ap (λ c. children d c (json v)) (sym (cell_here os ls at (Count f r) h is)));
  }

-- ---- the condition of an output

children_offered : (d : Deployment) (p : Position) (x : List ℕ) (v : Json) → is_true (Some v) ≡ true
    → children d (offered p x) v ≡ output p x ∷ []
unfolding children
children_offered d p x v e = if_true (is_true (Some v)) (output p x ∷ []) [] e

pub output_placed : (os : List Opened) (f n : ℕ) → IsPlaced os (Offered f n) → Each (IsPlaced os) (Output f n ∷ [])
output_placed os f n p = (record { there = p.there; declared = p.declared }, tt)

module _ (d : Deployment) (os : List Opened) (ix jx : Index) (ls ms : List Line) (at f n : ℕ) (v : Value)
    (laid : Laid d os ix ls) (h : at < length ls) (is : (line_at ls at).spot ≡ Offered f n)
    (holds : is_true (Some (json v)) ≡ true)
    (e : ms ≡ with_state ls at (how.Value v) 0 ++ map new_line (Output f n ∷ [])) (indexed : Indexes os jx ms) where
  abbrev offered_line : Line
  offered_line = record { spot = (line_at ls at).spot; state = how.Value v; opened = 0 }

  offered_is : IsPlaced os (Offered f n)
  offered_is = subst (λ s. IsPlaced os s) is (laid.placed at h)

  abbrev offered_after : List Line
  offered_after = set ls at offered_line ++ map new_line (Output f n ∷ [])

  offered_opens : Opens os offered_after offered_line
  offered_opens = subst (λ s. OpensBy os offered_after 0 s (how.Value v)) (sym is)
      (λ t. at_new (set ls at offered_line) (Output f n ∷ []) (Output f n) (inl refl))

  pub offered_fills : Fills d os os ls ms jx at (json v)
  offered_fills = record {
    laid = subst (λ (xs : List Line). Laid d os jx xs) (sym e)
        (laid_after d os os ix jx ls at offered_line (Output f n ∷ []) laid h refl (extends_same os)
        (λ g a b. absurd (omega (arith, a, b))) (λ g a b. absurd (omega (arith, a, b)))
        (output_placed os f n offered_is) offered_opens
        (subst (λ (xs : List Line). Indexes os jx xs) e indexed));
    rows = ap (rows_of os) e
        ∙ rows_after d os os ix ls at offered_line (Output f n ∷ []) laid h refl (extends_same os)
        ∙ ap (λ (cs : List Cell). with_status (rows_of os ls) at (with_value (json v)) ++ map fresh cs)
        (sym (children_offered d (opened_at os f).position (name_at (output_names (opened_at os f).template) n)
        (json v) holds)
        ∙ ap (λ c. children d c (json v)) (sym (cell_here os ls at (Offered f n) h is)));
  }

-- ---- a scope

own_placed : (os : List Opened) (g : ℕ) → g < length os → (b : Bool) → (opened_at os g).is_own ≡ b
    → Each (IsPlaced os) (own_spots b g (length (parameter_names (opened_at os g).template))
    (length (variable_names (opened_at os g).template)))
own_placed os g h false e = tt
own_placed os g h true e =
    each_joined (IsPlaced os) (below (λ i. Parameter g i) (length (parameter_names (opened_at os g).template)))
    (below (λ i. Variable g i) (length (variable_names (opened_at os g).template)))
    (each_below (IsPlaced os) (λ i. Parameter g i) (length (parameter_names (opened_at os g).template))
    (λ i q. record { there = h; declared = (e, q) }))
    (each_below (IsPlaced os) (λ i. Variable g i) (length (variable_names (opened_at os g).template))
    (λ i q. record { there = h; declared = (e, q) }))

pub scope_placed : (os : List Opened) (g : ℕ) → g < length os → Each (IsPlaced os) (scope_spots g (opened_at os g))
scope_placed os g h =
    each_joined (IsPlaced os)
    (own_spots (opened_at os g).is_own g (length (parameter_names (opened_at os g).template))
    (length (variable_names (opened_at os g).template)))
    (below (λ i. Offered g i) (length (output_names (opened_at os g).template))
    ++ (counts_below g (opened_at os g).resources (length (opened_at os g).resources) ++ Deployments g ∷ []))
    (own_placed os g h (opened_at os g).is_own refl)
    (each_joined (IsPlaced os) (below (λ i. Offered g i) (length (output_names (opened_at os g).template)))
    (counts_below g (opened_at os g).resources (length (opened_at os g).resources) ++ Deployments g ∷ [])
    (each_below (IsPlaced os) (λ i. Offered g i) (length (output_names (opened_at os g).template))
    (λ i q. record { there = h; declared = q }))
    (each_joined (IsPlaced os) (counts_below g (opened_at os g).resources (length (opened_at os g).resources))
    (Deployments g ∷ [])
    (each_count (IsPlaced os) g (opened_at os g).resources
    (λ r x a b. record { there = h; declared = record { listed = x; has = a; is_put = b } })
    (length (opened_at os g).resources))
    (record { there = h; declared = tt }, tt)))

cells_of_own : (os : List Opened) (g : ℕ) (b : Bool)
    → map (cell_of os) (own_spots b g (length (parameter_names (opened_at os g).template))
    (length (variable_names (opened_at os g).template)))
    ≡ own_cells b (opened_at os g).position (opened_at os g).template
cells_of_own os g false = refl
cells_of_own os g true =
    map-append (cell_of os) (below (λ i. Parameter g i) (length (parameter_names (opened_at os g).template)))
    (below (λ i. Variable g i) (length (variable_names (opened_at os g).template)))
    ∙ ap (λ xs. xs ++ map (cell_of os) (below (λ i. Variable g i) (length (variable_names (opened_at os g).template))))
    (map_below (cell_of os) (λ i. Parameter g i) (parameter (opened_at os g).position)
    (parameter_names (opened_at os g).template) [] (λ i. refl))
    ∙ ap (λ xs. map (parameter (opened_at os g).position) (parameter_names (opened_at os g).template) ++ xs)
    (map_below (cell_of os) (λ i. Variable g i) (variable (opened_at os g).position)
    (variable_names (opened_at os g).template) [] (λ i. refl))

pub cells_of_scope : (d : Deployment) (os : List Opened) (g : ℕ) → IsKept d os g (opened_at os g)
    → map (cell_of os) (scope_spots g (opened_at os g))
    ≡ scope_cells d (opened_at os g).position (opened_at os g).template
cells_of_scope d os g k =
    let o : Opened = opened_at os g in
    let counts : List Spot = counts_below g o.resources (length o.resources) in
    let offers : List Spot = below (λ i. Offered g i) (length (output_names o.template)) in
    let owns : List Spot = own_spots o.is_own g (length (parameter_names o.template))
    (length (variable_names o.template)) in
    let h : Spot → Cell = cell_of os in
    map-append h owns (offers ++ (counts ++ Deployments g ∷ []))
    ∙ ap (λ xs. xs ++ map h (offers ++ (counts ++ Deployments g ∷ [])))
    (cells_of_own os g o.is_own ∙ ap (λ b. own_cells b o.position o.template) k.own)
    ∙ ap (λ xs. own_cells (is_own d o.position) o.position o.template ++ xs)
    (map-append h offers (counts ++ Deployments g ∷ [])
    ∙ ap (λ xs. xs ++ map h (counts ++ Deployments g ∷ []))
    (map_below h (λ i. Offered g i) (offered o.position) (output_names o.template) [] (λ i. refl))
    ∙ ap (λ xs. map (offered o.position) (output_names o.template) ++ xs)
    (map-append h counts (Deployments g ∷ [])
    ∙ ap (λ xs. xs ++ deployments o.position ∷ [])
    (map_counts h (count o.position) g o.resources (λ i. refl)
    ∙ ap (λ xs. map (count o.position) (numbers_from 0 xs)) k.resources)))

-- each cell that the scope has is listed
has_own : (o : Opened) (g : ℕ) (s : Spot) → o.is_own ≡ true
    → Has s (below (λ i. Parameter g i) (length (parameter_names o.template)) ++ below (λ i. Variable g i)
    (length (variable_names o.template)))
    → Has s (own_spots o.is_own g (length (parameter_names o.template)) (length (variable_names o.template)))
has_own o g s e h =
    subst (λ b. Has s (own_spots b g (length (parameter_names o.template)) (length (variable_names o.template))))
    (sym e) h

has_of_scope : (o : Opened) (s : Spot) → IsOfScope s → IsDeclared o s → Has s (scope_spots (frame_of s) o)
has_of_scope o (Parameter g n) u q =
    has_left (Parameter g n) (own_spots o.is_own g (length (parameter_names o.template))
    (length (variable_names o.template)))
    (below (λ i. Offered g i) (length (output_names o.template))
    ++ (counts_below g o.resources (length o.resources) ++ Deployments g ∷ []))
    (has_own o g (Parameter g n) q.0
    (has_left (Parameter g n) (below (λ i. Parameter g i) (length (parameter_names o.template)))
    (below (λ i. Variable g i) (length (variable_names o.template)))
    (has_below (λ i. Parameter g i) (length (parameter_names o.template)) n q.1)))
has_of_scope o (Variable g n) u q =
    has_left (Variable g n) (own_spots o.is_own g (length (parameter_names o.template))
    (length (variable_names o.template)))
    (below (λ i. Offered g i) (length (output_names o.template))
    ++ (counts_below g o.resources (length o.resources) ++ Deployments g ∷ []))
    (has_own o g (Variable g n) q.0
    (has_right (Variable g n) (below (λ i. Parameter g i) (length (parameter_names o.template)))
    (below (λ i. Variable g i) (length (variable_names o.template)))
    (has_below (λ i. Variable g i) (length (variable_names o.template)) n q.1)))
has_of_scope o (Offered g n) u q =
    has_right (Offered g n) (own_spots o.is_own g (length (parameter_names o.template))
    (length (variable_names o.template)))
    (below (λ i. Offered g i) (length (output_names o.template))
    ++ (counts_below g o.resources (length o.resources) ++ Deployments g ∷ []))
    (has_left (Offered g n) (below (λ i. Offered g i) (length (output_names o.template)))
    (counts_below g o.resources (length o.resources) ++ Deployments g ∷ [])
    (has_below (λ i. Offered g i) (length (output_names o.template)) n q))
has_of_scope o (Output g n) u q = absurd u
has_of_scope o (Count g r) u q =
    has_right (Count g r) (own_spots o.is_own g (length (parameter_names o.template))
    (length (variable_names o.template)))
    (below (λ i. Offered g i) (length (output_names o.template))
    ++ (counts_below g o.resources (length o.resources) ++ Deployments g ∷ []))
    (has_right (Count g r) (below (λ i. Offered g i) (length (output_names o.template)))
    (counts_below g o.resources (length o.resources) ++ Deployments g ∷ [])
    (has_left (Count g r) (counts_below g o.resources (length o.resources)) (Deployments g ∷ [])
    (has_count g o.resources (length o.resources) r q.listed (slice_get_within o.resources r q.listed q.has) q.has q.is_put)))
has_of_scope o (Included g r i) u q = absurd u
has_of_scope o (Name g r i) u q = absurd u
has_of_scope o (Deployments g) u q =
    has_right (Deployments g) (own_spots o.is_own g (length (parameter_names o.template))
    (length (variable_names o.template)))
    (below (λ i. Offered g i) (length (output_names o.template))
    ++ (counts_below g o.resources (length o.resources) ++ Deployments g ∷ []))
    (has_right (Deployments g) (below (λ i. Offered g i) (length (output_names o.template)))
    (counts_below g o.resources (length o.resources) ++ Deployments g ∷ [])
    (has_right (Deployments g) (counts_below g o.resources (length o.resources)) (Deployments g ∷ []) (inl refl)))

pub scope_listed : (os : List Opened) (ls : List Line) (g : ℕ) (o : Opened) → opened_at os g ≡ o
    → HasCells os (ls ++ map new_line (scope_spots g o)) g
scope_listed os ls g o e s f u q =
    at_new ls (scope_spots g o) s
    (subst (λ k. Has s (scope_spots k o)) f (has_of_scope o s u (subst (λ y. IsDeclared y s) e q)))

-- ---- the scope that an instance opens

module _ (d : Deployment) (os us : List Opened) (ix jx : Index) (ls ms : List Line) (at f r i : ℕ) (v : Value)
    (x : Listed) (n : Nested) (laid : Laid d os ix ls) (h : at < length ls)
    (is : (line_at ls at).spot ≡ Included f r i) (is_included : is_true (Some (json v)) ≡ true)
    (has : slice_get (opened_at os f).resources r ≡ Some x) (nested : nested_in x.content ≡ Some n)
    (more : us ≡ os ++ inside_of f (length os) (opened_at os f) x r i n ∷ []) where
  abbrev inside : Opened
  inside = inside_of f (length os) (opened_at os f) x r i n

  abbrev vs : List Opened
  vs = os ++ inside ∷ []

  abbrev g : ℕ
  g = length os

  abbrev scope_line : Line
  scope_line = record { spot = (line_at ls at).spot; state = how.Value v; opened = g }

  included_placed : IsPlaced os (Included f r i)
  included_placed = subst (λ s. IsPlaced os s) is (laid.placed at h)

  kept_around : IsKept d os f (opened_at os f)
  kept_around = laid.kept f included_placed.there

  one_listed : (y : Listed) → slice_get (opened_at os f).resources r ≡ Some y → y ≡ x
  one_listed y e = let same : Some y ≡ Some x = sym e ∙ has in cc

  is_number : IsNumber (opened_at os f) r
  is_number = included_placed.declared.0

  resource_is : resource_at (opened_at os f).template r ≡ Some x
  resource_is =
      resource_here (opened_at os f).template (opened_at os f) r x kept_around.resources has
      (ap (λ (y : Listed). y.declaration.existing) (sym (one_listed is_number.listed is_number.has)) ∙ is_number.is_put)

  nested_is : nested_at (opened_at os f).template r ≡ Some n
  nested_is = nested_here (opened_at os f).template r x resource_is ∙ nested

  inside_is : opened_at vs g ≡ inside
  inside_is = opened_last os inside

  kept_inside : IsKept d vs g inside
  kept_inside = inside_kept d os f r i (opened_at os f) x n included_placed.there refl kept_around resource_is nested

  kept_here : IsKept d vs g (opened_at vs g)
  kept_here = subst (λ o. IsKept d vs g o) (sym inside_is) kept_inside

  open_here : g < length vs
  open_here = let l = length_last os inside in omega (arith, l)

  only_new : (k : ℕ) → length os ≤ k → k < length vs → g ≡ k
  only_new k a b = let l = length_last os inside in omega (arith, a, b, l)

  abbrev scope_after : List Line
  scope_after = set ls at scope_line ++ map new_line (scope_spots g inside)

  template_is : template_at d.template (step r i ∷ (opened_at os f).position) ≡ Some n.template
  template_is = kept_inside.template

  children_scope : children d (included (opened_at os f).position (step r i)) (json v)
      ≡ scope_cells d (step r i ∷ (opened_at os f).position) n.template
  unfolding children
  children_scope =
      if_true (is_true (Some (json v)))
      (opened_cells d (step r i ∷ (opened_at os f).position)
      (template_at d.template (step r i ∷ (opened_at os f).position)))
      [] is_included
      ∙ ap (opened_cells d (step r i ∷ (opened_at os f).position)) template_is

  cells_inside : map (cell_of vs) (scope_spots g inside)
      ≡ scope_cells d (step r i ∷ (opened_at os f).position) n.template
  cells_inside =
      subst (λ (o : Opened). map (cell_of vs) (scope_spots g o) ≡ scope_cells d o.position o.template) inside_is
      (cells_of_scope d vs g kept_here)

  scope_opens : Opens vs scope_after scope_line
  scope_opens = subst (λ s. OpensBy vs scope_after g s (how.Value v)) (sym is)
      (λ t m e. record {
        there = open_here;
        position = ap (λ (o : Opened). o.position) inside_is
            ∙ ap (λ (o : Opened). step r i ∷ o.position) (sym ((extends_more os inside).same f included_placed.there));
      })

  pub scope_fills : ms ≡ with_state ls at (how.Value v) g ++ map new_line (scope_spots g (opened_at us g))
      → Indexes us jx ms → Fills d os us ls ms jx at (json v)
  scope_fills e indexed =
      let spots : ms ≡ scope_after =
      e ∙ ap (λ (ys : List Opened). set ls at scope_line ++ map new_line (scope_spots g (opened_at ys g))) more
      ∙ ap (λ o. set ls at scope_line ++ map new_line (scope_spots g o)) inside_is in
      subst (λ (ys : List Opened). Fills d os ys ls ms jx at (json v)) (sym more) (record {
        laid = subst (λ (xs : List Line). Laid d vs jx xs) (sym spots)
            (laid_after d os vs ix jx ls at scope_line (scope_spots g inside) laid h refl (extends_more os inside)
            (λ k a b. subst (λ y. IsKept d vs y (opened_at vs y)) (only_new k a b) kept_here)
            (λ k a b. subst (λ y. HasCells vs scope_after y) (only_new k a b)
            (scope_listed vs (set ls at scope_line) g inside inside_is))
            (subst (λ o. Each (IsPlaced vs) (scope_spots g o)) inside_is (scope_placed vs g open_here)) scope_opens
            (subst (λ (xs : List Line). Indexes vs jx xs) spots
            (subst (λ (ys : List Opened). Indexes ys jx ms) more indexed)));
        rows = ap (rows_of vs) spots
            ∙ rows_after d os vs ix ls at scope_line (scope_spots g inside) laid h refl (extends_more os inside)
            ∙ ap (λ (cs : List Cell). with_status (rows_of os ls) at (with_value (json v)) ++ map fresh cs)
            (cells_inside ∙ sym children_scope
            ∙ ap (λ c. children d c (json v)) (sym (cell_here os ls at (Included f r i) h is)));
      })

-- ---- the root

pub root_laid : (d : Deployment) (os : List Opened) (ix : Index) (ls : List Line) → os ≡ root_of d.template ∷ []
    → ls ≡ map new_line (scope_spots 0 (root_of d.template)) → Indexes os ix ls → Laid d os ix ls
root_laid d os ix ls e f x =
    subst (λ (ys : List Opened). Laid d ys ix ls) (sym e)
    (subst (λ (xs : List Line). Laid d (root_of d.template ∷ []) ix xs) (sym f) (record {
      some = omega arith;
      root = refl;
      kept = kept;
      cells = cells;
      placed = λ j h. each_at (IsPlaced (root_of d.template ∷ []))
          (scope_spots 0 (root_of d.template)) (scope_placed (root_of d.template ∷ []) 0 (omega arith)) j h;
      opens = λ j h. opens_new (root_of d.template ∷ [])
          (map new_line (scope_spots 0 (root_of d.template)))
          (line_at (map new_line (scope_spots 0 (root_of d.template))) j)
          (all_new (scope_spots 0 (root_of d.template)) j h);
      indexed = subst (λ (xs : List Line). Indexes (root_of d.template ∷ []) ix xs) f
          (subst (λ (ys : List Opened). Indexes ys ix ls) e x);
    }))
  where
    kept : (k : ℕ) → k < 1 → IsKept d (root_of d.template ∷ []) k (opened_at (root_of d.template ∷ []) k)
    kept zero h = root_kept d (root_of d.template ∷ []) refl
    kept (suc k) h = absurd (omega (arith, h))

    cells : (k : ℕ) → k < 1 → HasCells (root_of d.template ∷ []) (map new_line (scope_spots 0 (root_of d.template))) k
    cells zero h = scope_listed (root_of d.template ∷ []) [] 0 (root_of d.template) refl
    cells (suc k) h = absurd (omega (arith, h))

pub root_rows : (d : Deployment) (os : List Opened) (ls : List Line) → os ≡ root_of d.template ∷ []
    → ls ≡ map new_line (scope_spots 0 (root_of d.template)) → rows_of os ls ≡ map fresh (roots d)
unfolding roots
root_rows d os ls e f =
    ap (λ (ys : List Opened). rows_of ys ls) e ∙ ap (rows_of (root_of d.template ∷ [])) f
    ∙ rows_of_new (root_of d.template ∷ []) (scope_spots 0 (root_of d.template))
    ∙ ap (map fresh) (cells_of_scope d (root_of d.template ∷ []) 0 (root_kept d (root_of d.template ∷ []) refl))
