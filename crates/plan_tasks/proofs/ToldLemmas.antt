-- Where counts and conditions have values, the tasks that are told are those in their order.
use Rattle.std.proofs.Common.{◌≡◌, ℕ, zero, suc, ◌+◌, ◌<◌, Bool, true, false, List, [], ◌∷◌, ◌++◌, length, Option, Some}
use Rattle.std.proofs.Common.{None, refl, sym, ap, ◌∙◌, arith}
use Rattle.std.specs.Prelude.{slice_get, option_map, option_and_then, if◌then◌else◌}
use Rattle.foundation.proofs.Comparisons.{lt_true}
use Rattle.arm_value.specs.Json.{Json}
use Rattle.reading.specs.Reading.{onward, pure, read, continued}
use Rattle.reading.specs.Knowledge.{known, value, told, by_entry, and_then, blanked, known_value}
use Rattle.reading.proofs.Parts.{told-continued}
use Rattle.template_tree.specs.Tree.{TemplateTree, template, ResourceTree, resource, BodyTree, body_members}
use Rattle.template_tree.specs.Tree.{deployment, Trees, no_resources, a_resource}
use Rattle.deploy_cells.specs.Cells.{Step, step, Position, Cell, count, included, copies, is_admitted}
use Rattle.deploy_cells.specs.Guarded.{Reads}
use Rattle.plan_cells.specs.Known.{Table}
use Rattle.plan_cells.specs.Resources.{Above, Listed, Nested, tree_count, above_by, listed_at, listed_tree}
use Rattle.plan_cells.specs.Resources.{listed_trees, resources_in, unless_existing, resource_at, nested_in, nested_at}
use Rattle.plan_cells.specs.Scopes.{template_at, resource_of}
use Rattle.plan_cells.specs.Meaning.{Deployment, raw, count_value, included_value}
use Rattle.plan_cells.specs.Tasks as tasks
use Rattle.plan_cells.specs.Tasks.{Task, enter, leave, put, both_lists, where_included, instance_tasks, instances_tasks}
use Rattle.plan_cells.specs.Tasks.{all_instances, scope_tasks, template_tasks, trees_tasks, tree_tasks, body_tasks}
use Rattle.plan_tasks.specs.Answered.{AreAnswered}
use Rattle.plan_tasks.specs.InOrder.{copies_in, is_in, instances_in_order, unless, scope_in_order, trees_in_order}
use Rattle.plan_tasks.specs.InOrder.{tree_in_order, body_in_order}
use Rattle.plan_tasks.proofs.OrderLemmas.{tree_length}
use Rattle.arm_value.specs.Kinds.{is_true}
use Rattle.plan_cells.proofs.TaskLemmas.{get_left, get_right}

module _ (q : Table) where
  -- ---- readings one after another

  read_then : {A : Type 0} (c : Cell) (v : Json) (f : Json → Reads A) → q c ≡ known v
      → told q (continued (read c) f) ≡ told q (f v)
  unfolding told continued
  read_then c v f e = ap (by_entry c (λ o. told q (onward o f))) e

  value_then : {A B : Type 0} (r : Reads A) (x : A) (f : A → Reads B) → told q r ≡ value x
      → told q (continued r f) ≡ told q (f x)
  value_then {A} {B} r x f e =
      told-continued Cell Json A B q r f ∙ ap (λ t. and_then t (λ y. told q (f y))) e

  is_pure : {A : Type 0} (x : A) → told q (pure {C = Cell} {J = Json} x) ≡ value x
  unfolding told
  is_pure x = refl

  both_told : (r s : Reads (List Task)) (xs ys : List Task) → told q r ≡ value xs → told q s ≡ value ys
      → told q (both_lists r s) ≡ value (xs ++ ys)
  both_told r s xs ys a b =
      value_then r xs (λ us. continued s (λ vs. pure (us ++ vs))) a ∙ value_then s ys (λ vs. pure (xs ++ vs)) b
      ∙ is_pure (xs ++ ys)

  scope_told : (p : Position) (r : Reads (List Task)) (xs : List Task) → told q r ≡ value xs
      → told q (scope_tasks p r) ≡ value (enter p ∷ (xs ++ leave p ∷ []))
  scope_told p r xs e =
      value_then r xs (λ ts. pure (enter p ∷ (ts ++ leave p ∷ []))) e ∙ is_pure (enter p ∷ (xs ++ leave p ∷ []))

  -- ---- instances

  instance_told : (p : Position) (s : Step) (f : Step → Reads (List Task)) (g : Step → List Task) (v : Json)
      → q (included p s) ≡ known v → (is_in q p s ≡ true → told q (f s) ≡ value (g s))
      → told q (instance_tasks p s f) ≡ value (if is_in q p s then g s else [])
  instance_told p s f g v e h =
      read_then (included p s) v (λ u. where_included u (f s)) e
      ∙ ap (λ b. told q (if b then f s else pure [])) (sym is)
      ∙ by_test (is_in q p s) refl
    where
      is : is_in q p s ≡ is_true (Some v)
      is = ap (λ k. is_true (known_value k)) e

      by_test : (b : Bool) → is_in q p s ≡ b
          → told q (if b then f s else pure []) ≡ value (if b then g s else [])
      by_test true k = h k
      by_test false k = is_pure []

  instances_told : (p : Position) (r : ℕ) (f : Step → Reads (List Task)) (g : Step → List Task) (n i m : ℕ)
      → i + n ≡ m → ((j : ℕ) → j < m → (v : Json) × (q (included p (step r j)) ≡ known v))
      → ((j : ℕ) → j < m → is_in q p (step r j) ≡ true → told q (f (step r j)) ≡ value (g (step r j)))
      → told q (instances_tasks p r f i n) ≡ value (instances_in_order q p r g i n)
  instances_told p r f g zero i m e k h = is_pure []
  instances_told p r f g (suc n) i m e k h =
      let l : i < m = omega (arith, e) in
      both_told (instance_tasks p (step r i) f) (instances_tasks p r f (suc i) n)
      (if is_in q p (step r i) then g (step r i) else []) (instances_in_order q p r g (suc i) n)
      (instance_told p (step r i) f g (k i l).0 (k i l).1 (h i l))
      (instances_told p r f g n (suc i) m (omega (arith, e)) k h)

  all_told : (p : Position) (r : ℕ) (f : Step → Reads (List Task)) (g : Step → List Task) (v : Json)
      → q (count p r) ≡ known v
      → ((j : ℕ) → j < copies_in q p r → (u : Json) × (q (included p (step r j)) ≡ known u))
      → ((j : ℕ) → j < copies_in q p r → is_in q p (step r j) ≡ true → told q (f (step r j)) ≡ value (g (step r j)))
      → told q (all_instances p r f) ≡ value (instances_in_order q p r g 0 (copies_in q p r))
  all_told p r f g v e k h =
      read_then (count p r) v (λ u. instances_tasks p r f 0 (copies (Some u))) e
      ∙ ap (λ n. told q (instances_tasks p r f 0 n)) (sym is)
      ∙ instances_told p r f g (copies_in q p r) 0 (copies_in q p r) (omega arith) k h
    where
      is : copies_in q p r ≡ copies (Some v)
      is = ap (λ x. copies (known_value x)) e

module _ (d : Deployment) (q : Table) (answered : AreAnswered d q) where
  -- the scope at a position is there
  abbrev IsOpen : Position → Type 0
  IsOpen [] = Unit {0}
  IsOpen (s ∷ p) = is_in q p s ≡ true

  count_admitted : (p : Position) (r : ℕ) → IsOpen p → is_admitted (blanked q) (count p r) ≡ true
  count_admitted [] r h = refl
  count_admitted (s ∷ p) r h = h

  -- resources of a scope, of which the first has the number r
  record IsPart (p : Position) (t : TemplateTree) (r : ℕ) (ys : List Listed) : Type 0 where
    there : IsOpen p
    at : template_at d.template p ≡ Some t
    sits : (k : ℕ) (y : Listed) → slice_get ys k ≡ Some y → slice_get (resources_in t) (r + k) ≡ Some y

  resource_is : (p : Position) (t : TemplateTree) (r : ℕ) (y : Listed) → template_at d.template p ≡ Some t
      → slice_get (resources_in t) r ≡ Some y → y.declaration.existing ≡ false
      → resource_of d.template p r ≡ Some y
  unfolding resource_at
  resource_is p t r y e f g =
      ap (option_and_then (λ u. resource_at u r)) e ∙ ap (option_and_then unless_existing) f
      ∙ ap (λ c. if c then None else Some y) g

  has_count : (p : Position) (r : ℕ) (y : Listed) → IsOpen p → resource_of d.template p r ≡ Some y
      → (v : Json) × (q (count p r) ≡ known v)
  unfolding raw
  has_count p r y h e =
      answered (count p r) refl (count_value d p y) (ap (option_map (count_value d p)) e) (count_admitted p r h)

  has_condition : (p : Position) (r j : ℕ) (y : Listed) → resource_of d.template p r ≡ Some y
      → j < copies_in q p r → (v : Json) × (q (included p (step r j)) ≡ known v)
  unfolding raw
  has_condition p r j y e l =
      answered (included p (step r j)) refl (included_value d p (step r j) y)
      (ap (option_map (included_value d p (step r j))) e) (lt_true j (copies_in q p r) l)

  first_of : (p : Position) (t : TemplateTree) (r : ℕ) (y : Listed) (ys : List Listed) → IsPart p t r (y ∷ ys)
      → slice_get (resources_in t) r ≡ Some y
  first_of p t r y ys i =
      ap (slice_get (resources_in t)) (let e : r ≡ r + 0 = omega arith in e) ∙ i.sits 0 y refl

  rest_of : (p : Position) (t : TemplateTree) (r : ℕ) (y : Listed) (ys : List Listed) → IsPart p t r (y ∷ ys)
      → IsPart p t (suc r) ys
  rest_of p t r y ys i = record {
    there = i.there;
    at = i.at;
    sits = λ k z e.
        ap (slice_get (resources_in t)) (let f : suc r + k ≡ r + suc k = omega arith in f) ∙ i.sits (suc k) z e;
  }

  left_part : (p : Position) (t : TemplateTree) (r : ℕ) (xs ys : List Listed) → IsPart p t r (xs ++ ys)
      → IsPart p t r xs
  left_part p t r xs ys i = record {
    there = i.there;
    at = i.at;
    sits = λ k z e. i.sits k z (get_left xs ys k z e);
  }

  right_part : (p : Position) (t : TemplateTree) (r n : ℕ) (xs ys : List Listed) → length xs ≡ n
      → IsPart p t r (xs ++ ys) → IsPart p t (r + n) ys
  right_part p t r n xs ys l i = record {
    there = i.there;
    at = i.at;
    sits = λ k z e.
        ap (slice_get (resources_in t)) (let f : (r + n) + k ≡ r + (length xs + k) = omega (arith, l) in f)
        ∙ i.sits (length xs + k) z (get_right xs ys k ∙ e);
  }

  inside_at : (p : Position) (t : TemplateTree) (s : Step) (y : Listed) (n : Nested)
      → template_at d.template p ≡ Some t → slice_get (resources_in t) s.resource ≡ Some y
      → y.declaration.existing ≡ false → nested_in y.content ≡ Some n
      → template_at d.template (s ∷ p) ≡ Some n.template
  unfolding template_at resource_at
  inside_at p t s y n e f g h =
      ap (λ o. option_map (λ (m : Nested). m.template) (option_and_then (λ u. nested_at u s.resource) o)) e
      ∙ ap (λ o. option_map (λ (m : Nested). m.template) (option_and_then (λ (r : Listed). nested_in r.content)
      (option_and_then unless_existing o))) f
      ∙ ap (λ c. option_map (λ (m : Nested). m.template) (option_and_then (λ (r : Listed). nested_in r.content)
      (if c then None else Some y))) g
      ∙ ap (option_map (λ (m : Nested). m.template)) h

  own_told : (p : Position) (t : TemplateTree) (r : ℕ) (y : Listed) (e : Bool) → y.declaration.existing ≡ e
      → IsOpen p → template_at d.template p ≡ Some t → slice_get (resources_in t) r ≡ Some y
      → (y.declaration.existing ≡ false → (j : ℕ) → is_in q p (step r j) ≡ true
      → told q (body_tasks p (step r j) y.content) ≡ value (body_in_order q p (step r j) y.content))
      → told q (if e then pure [] else all_instances p r (λ s. body_tasks p s y.content))
      ≡ value (unless e (instances_in_order q p r (λ s. body_in_order q p s y.content) 0 (copies_in q p r)))
  own_told p t r y true x o a b h = is_pure q []
  own_told p t r y false x o a b h =
      let is = resource_is p t r y a b x in
      let v = has_count p r y o is in
      all_told q p r (λ s. body_tasks p s y.content) (λ s. body_in_order q p s y.content) v.0 v.1
      (λ j l. has_condition p r j y is l) (λ j l. h x j)

  mutual
    template_told : (p : Position) (t : TemplateTree) → IsOpen p → template_at d.template p ≡ Some t
        → told q (template_tasks p t) ≡ value (scope_in_order q p t)
    template_told p (template h rs) o e =
        scope_told q p (trees_tasks p 0 rs) (trees_in_order q p 0 rs)
        (trees_told p (template h rs) None 0 rs (record {
          there = o;
          at = e;
          sits = λ k y f.
              ap (slice_get (resources_in (template h rs))) (let z : 0 + k ≡ k = omega arith in z) ∙ f;
        }))

    trees_told : (p : Position) (t : TemplateTree) (a : Option Above) (r : ℕ) (xs : Trees)
        → IsPart p t r (listed_trees a r xs) → told q (trees_tasks p r xs) ≡ value (trees_in_order q p r xs)
    trees_told p t a r no_resources i = is_pure q []
    trees_told p t a r (a_resource x xs) i =
        both_told q (tree_tasks p r x) (trees_tasks p (r + tree_count x) xs) (tree_in_order q p r x)
        (trees_in_order q p (r + tree_count x) xs)
        (tree_told p t a r x (left_part p t r (listed_tree a r x) (listed_trees a (r + tree_count x) xs) i))
        (trees_told p t a (r + tree_count x) xs (right_part p t r (tree_count x) (listed_tree a r x)
        (listed_trees a (r + tree_count x) xs) (tree_length a r x) i))

    tree_told : (p : Position) (t : TemplateTree) (a : Option Above) (r : ℕ) (x : ResourceTree)
        → IsPart p t r (listed_tree a r x) → told q (tree_tasks p r x) ≡ value (tree_in_order q p r x)
    tree_told p t a r (resource c b xs) i =
        let y : Listed = listed_at a c b in
        let ys = listed_trees (Some (above_by a r c)) (suc r) xs in
        let f = first_of p t r y ys i in
        both_told q (tasks.unless_existing c (all_instances p r (λ s. body_tasks p s b))) (trees_tasks p (suc r) xs)
        (unless c.existing (instances_in_order q p r (λ s. body_in_order q p s b) 0 (copies_in q p r)))
        (trees_in_order q p (suc r) xs)
        (own_told p t r y c.existing refl i.there i.at f
        (λ z j k. body_told p t (step r j) y b refl i.at f z k))
        (trees_told p t (Some (above_by a r c)) (suc r) xs (rest_of p t r y ys i))

    body_told : (p : Position) (t : TemplateTree) (s : Step) (y : Listed) (b : BodyTree) → y.content ≡ b
        → template_at d.template p ≡ Some t → slice_get (resources_in t) s.resource ≡ Some y
        → y.declaration.existing ≡ false → is_in q p s ≡ true
        → told q (body_tasks p s b) ≡ value (body_in_order q p s b)
    body_told p t s y (body_members ms) e a f z k = is_pure q (put p s ∷ [])
    body_told p t s y (deployment sc ps u) e a f z k =
        template_told (s ∷ p) u k
        (inside_at p t s y (record { scope = sc; arguments = ps; template = u }) a f z (ap nested_in e))

  pub tasks_told : told q (template_tasks [] d.template) ≡ value (scope_in_order q [] d.template)
  unfolding template_at
  tasks_told = template_told [] d.template tt refl
