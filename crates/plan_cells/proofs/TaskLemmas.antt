-- The list of tasks has the entry and the leave of each scope and the put of each included resource, and no others.
use Rattle.std.proofs.Common.{◌≡◌, ◌⊎◌, inl, inr, ℕ, zero, suc, ◌+◌, ◌<◌, ◌≤◌, Bool, true, false, true≢false, List, []}
use Rattle.std.proofs.Common.{◌∷◌}
use Rattle.std.proofs.Common.{◌++◌, length, Option, Some, None, refl, sym, ap, subst, ◌∙◌, arith}
use Rattle.std.specs.Prelude.{nat_lt, slice_get, option_map, option_and_then, if◌then◌else◌}
use Rattle.std.proofs.lemmas.Option.{same_Some}
use Rattle.template_parameters.specs.Json.{Json, null, bool, int, text, array, object}
use Rattle.foundation.proofs.Comparisons.{lt_of_true, lt_true}
use Rattle.reading.specs.Reading.{pure, read, continued}
use Rattle.reading.specs.World.{value_in}
use Rattle.reading.proofs.Parts.{value_in-continued}
use Rattle.template_parameters.specs.Tree.{TemplateTree, template, ResourceTree, resource, BodyTree, body_members, deployment, Trees, no_resources, a_resource}
use Rattle.deploy_cells.specs.Cells.{Step, step, Position, Cell, count, included, World, copies, is_admitted}
use Rattle.deploy_cells.specs.Guarded.{Reads, IsWorld}
use Rattle.plan_cells.specs.Resources.{Above, Listed, Nested, tree_count, trees_count, above_by, listed_at}
use Rattle.plan_cells.specs.Resources.{listed_tree}
use Rattle.plan_cells.specs.Resources.{listed_trees, resources_in, unless_existing, resource_at, nested_in, nested_at}
use Rattle.plan_cells.specs.Scopes.{template_at, resource_of, nested_of}
use Rattle.plan_cells.specs.Meaning.{Deployment, raw, meaning, count_value, included_value}
use Rattle.plan_cells.specs.Children.{Has}
use Rattle.plan_cells.specs.Tasks as tasks
use Rattle.plan_cells.specs.Tasks.{Task, enter, leave, put, delete, both_lists, where_included, instance_tasks}
use Rattle.plan_cells.specs.Tasks.{instances_tasks, all_instances, scope_tasks, template_tasks, trees_tasks}
use Rattle.plan_cells.specs.Tasks.{tree_tasks}
use Rattle.plan_cells.specs.Tasks.{body_tasks}
use Rattle.plan_cells.specs.TaskOf.{IsInside, IsScope, IsTask, AreTasks}
use Rattle.plan_cells.proofs.DesiredLemmas.{valued, not_admitted, by_admitted}
use Rattle.plan_cells.proofs.ListLemmas.{has_joined, has_left, has_right}
use Rattle.template_parameters.specs.Kinds.{is_true}

-- look-ups in lists joined of two
pub get_left : (xs ys : List Listed) (k : ℕ) (y : Listed) → slice_get xs k ≡ Some y → slice_get (xs ++ ys) k ≡ Some y
get_left [] ys k y e = let f : None ≡ Some y = e in absurd (cc)
get_left (x ∷ xs) ys zero y e = e
get_left (x ∷ xs) ys (suc k) y e = get_left xs ys k y e

pub get_right : (xs ys : List Listed) (k : ℕ) → slice_get (xs ++ ys) (length xs + k) ≡ slice_get ys k
get_right [] ys k = ap (slice_get ys) (let e : 0 + k ≡ k = omega arith in e)
get_right (x ∷ xs) ys k =
    ap (slice_get (x ∷ (xs ++ ys))) (let e : suc (length xs) + k ≡ suc (length xs + k) = omega arith in e)
    ∙ get_right xs ys k

-- in the second list, at a place
abbrev InSecond : List Listed → List Listed → ℕ → Listed → Type 0
InSecond xs ys k y = (m : ℕ) × ((length xs + m ≡ k) × (slice_get ys m ≡ Some y))

further_on : (x : Listed) (xs ys : List Listed) (k : ℕ) (y : Listed) → InSecond xs ys k y
    → InSecond (x ∷ xs) ys (suc k) y
further_on x xs ys k y i =
    let e : length xs + i.0 ≡ k = i.1.0 in (i.0, (omega (arith, e), i.1.1))

get_split : (xs ys : List Listed) (k : ℕ) (y : Listed) → slice_get (xs ++ ys) k ≡ Some y
    → (slice_get xs k ≡ Some y) ⊎ InSecond xs ys k y
get_split [] ys k y e = inr (k, (let f : 0 + k ≡ k = omega arith in f, e))
get_split (x ∷ xs) ys zero y e = inl e
get_split (x ∷ xs) ys (suc k) y e =
    elim (get_split xs ys k y e) [ inl a ↦ inl a | inr b ↦ inr (further_on x xs ys k y b) ]

joined_length : (xs ys : List Listed) → length (xs ++ ys) ≡ length xs + length ys
joined_length [] ys = omega arith
joined_length (x ∷ xs) ys = let e = joined_length xs ys in omega (arith, e)

mutual
  tree_length : (x : ResourceTree) (o : Option Above) (r : ℕ) → length (listed_tree o r x) ≡ tree_count x
  tree_length (resource dc b xs) o r =
      let e : length (listed_trees (Some (above_by o r dc)) (suc r) xs) ≡ trees_count xs
      = trees_length xs (Some (above_by o r dc)) (suc r) in omega (arith, e)

  trees_length : (xs : Trees) (o : Option Above) (r : ℕ) → length (listed_trees o r xs) ≡ trees_count xs
  trees_length no_resources o r = refl
  trees_length (a_resource x xs) o r =
      let a : length (listed_tree o r x) ≡ tree_count x = tree_length x o r in
      let b : length (listed_trees o (r + tree_count x) xs) ≡ trees_count xs = trees_length xs o (r + tree_count x) in
      let c : length (listed_tree o r x ++ listed_trees o (r + tree_count x) xs)
      ≡ length (listed_tree o r x) + length (listed_trees o (r + tree_count x) xs)
      = joined_length (listed_tree o r x) (listed_trees o (r + tree_count x) xs) in omega (arith, a, b, c)

-- positions
append_unit : (p q : Position) (s : Step) → (p ++ s ∷ []) ++ q ≡ p ++ (s ∷ q)
append_unit [] q s = refl
append_unit (t ∷ p) q s = ap (λ r. t ∷ r) (append_unit p q s)

-- the last of them, where there is one
abbrev EndsWith : Position → Type 0
EndsWith r = (q : Position) × ((s : Step) × (q ++ s ∷ [] ≡ r))

last_of : (r : Position) → (r ≡ []) ⊎ EndsWith r
last_of [] = inl refl
last_of (s ∷ r) = by_last r (last_of r)
  where
    by_last : (r : Position) → (r ≡ []) ⊎ EndsWith r → (s ∷ r ≡ []) ⊎ EndsWith (s ∷ r)
    by_last r (inl e) = inr ([], (s, ap (λ q. s ∷ q) (sym e)))
    by_last r (inr h) = inr (s ∷ h.0, (h.1.0, ap (λ q. s ∷ q) h.1.1))

abbrev position_of : Task → Position
position_of (enter p) = p
position_of (leave p) = p
position_of (put p s) = p
position_of (delete k) = []

-- the second is the first, or inside it
abbrev IsBelow : Position → Position → Type 0
IsBelow p q = (r : Position) × (r ++ p ≡ q)

below_further : (p q : Position) (s : Step) → IsBelow (s ∷ p) q → IsBelow p q
below_further p q s b = (b.0 ++ s ∷ [], append_unit b.0 p s ∙ b.1)

true_is : (v : Json) → is_true (Some v) ≡ true → v ≡ bool true
true_is (bool true) e = refl
true_is (bool false) e = absurd (true≢false (sym e))
true_is null e = absurd (true≢false (sym e))
true_is (int z) e = absurd (true≢false (sym e))
true_is (text t) e = absurd (true≢false (sym e))
true_is (array js) e = absurd (true≢false (sym e))
true_is (object ms) e = absurd (true≢false (sym e))

pub some_true : (o : Option Json) → is_true o ≡ true → o ≡ Some (bool true)
some_true None e = absurd (true≢false (sym e))
some_true (Some v) e = ap (λ x. Some x) (true_is v e)

module _ (d : Deployment) (w : World) (world : IsWorld (meaning d) w) where
  -- the reading lists the tasks of which this is true
  record Lists (r : Reads (List Task)) (Q : Task → Type 0) : Type 0 where
    pub list : List Task
    pub is_read : value_in w r ≡ Some list
    pub each : (x : Task) → Has x list → Q x
    pub all : (x : Task) → Q x → Has x list

  read_then : {A B : Type 0} (r : Reads A) (x : A) (f : A → Reads B) → value_in w r ≡ Some x
      → value_in w (continued r f) ≡ value_in w (f x)
  read_then {A} {B} r x f e =
      value_in-continued Cell Json A B w r f ∙ ap (option_and_then (λ y. value_in w (f y))) e

  renamed : (r : Reads (List Task)) (Q R : Task → Type 0) → Lists r Q → ((x : Task) → Q x → R x)
      → ((x : Task) → R x → Q x) → Lists r R
  renamed r Q R l f g = record {
    list = l.list;
    is_read = l.is_read;
    each = λ x h. f x (l.each x h);
    all = λ x q. l.all x (g x q);
  }

  same_reading : (r s : Reads (List Task)) (Q : Task → Type 0) → value_in w s ≡ value_in w r → Lists r Q → Lists s Q
  same_reading r s Q e l = record { list = l.list; is_read = e ∙ l.is_read; each = l.each; all = l.all }

  nothing : (Q : Task → Type 0) → ((x : Task) → Q x → ⊥) → Lists (pure []) Q
  unfolding value_in
  nothing Q f = record { list = []; is_read = refl; each = λ x h. absurd h; all = λ x q. absurd (f x q) }

  joined : (r s : Reads (List Task)) (Q R : Task → Type 0) → Lists r Q → Lists s R
      → Lists (both_lists r s) (λ x. Q x ⊎ R x)
  unfolding value_in
  joined r s Q R a b = record {
    list = a.list ++ b.list;
    is_read =
        read_then r a.list (λ xs. continued s (λ ys. pure (xs ++ ys))) a.is_read
        ∙ read_then s b.list (λ ys. pure (a.list ++ ys)) b.is_read;
    each = λ x h. elim (has_joined x a.list b.list h) [ inl i ↦ inl (a.each x i) | inr i ↦ inr (b.each x i) ];
    all = λ x q. elim q [
      | inl i ↦ has_left x a.list b.list (a.all x i)
      | inr i ↦ has_right x a.list b.list (b.all x i)
    ];
  }

  -- the scope at a position is there, with all around it
  abbrev IsThere : Position → Type 0
  IsThere [] = Unit {0}
  IsThere (s ∷ p) = IsInside d w p s × IsThere p

  -- the task is of the scope at a position, or of one inside it
  abbrev Under : Position → Task → Type 0
  Under p x = IsTask d w x × IsBelow p (position_of x)

  abbrev OfBody : Position → Step → BodyTree → Task → Type 0
  OfBody p s (body_members ms) x = put p s ≡ x
  OfBody p s (deployment sc ps t) x = Under (s ∷ p) x

  abbrev OfInstance : Position → BodyTree → Step → Task → Type 0
  OfInstance p b s x = (w (included p s) ≡ Some (bool true)) × OfBody p s b x

  abbrev OfInstances : Position → BodyTree → ℕ → ℕ → ℕ → Task → Type 0
  OfInstances p b r i n x = (j : ℕ) × ((i ≤ j) × ((j < i + n) × OfInstance p b (step r j) x))

  abbrev OfResource : Position → ℕ → Listed → Task → Type 0
  OfResource p r y x =
      (y.declaration.existing ≡ false) × OfInstances p y.content r 0 (copies (w (count p r))) x

  abbrev OfTrees : Position → ℕ → List Listed → Task → Type 0
  OfTrees p r ys x = (k : ℕ) × ((y : Listed) × ((slice_get ys k ≡ Some y) × OfResource p (r + k) y x))

  -- an instance
  abbrev Bodies : Position → BodyTree → Step → Type 0
  Bodies p b s = w (included p s) ≡ Some (bool true) → Lists (body_tasks p s b) (OfBody p s b)

  with_truth : (p : Position) (b : BodyTree) (s : Step) (v : Json) → w (included p s) ≡ Some v → Bodies p b s
      → (t : Bool) → is_true (Some v) ≡ t
      → Lists (if t then body_tasks p s b else pure []) (OfInstance p b s)
  with_truth p b s v e f true i =
      let g : w (included p s) ≡ Some (bool true) = e ∙ ap (λ x. Some x) (true_is v i) in
      renamed (body_tasks p s b) (OfBody p s b) (OfInstance p b s) (f g) (λ x q. (g, q)) (λ x q. q.1)
  with_truth p b s v e f false i =
      nothing (OfInstance p b s)
      (λ x q. true≢false (ap is_true (sym q.0 ∙ e) ∙ i))

  an_instance : (p : Position) (b : BodyTree) (s : Step) (v : Json) → w (included p s) ≡ Some v → Bodies p b s
      → Lists (instance_tasks p s (λ t. body_tasks p t b)) (OfInstance p b s)
  unfolding value_in
  an_instance p b s v e f =
      same_reading (where_included v (body_tasks p s b)) (instance_tasks p s (λ t. body_tasks p t b))
      (OfInstance p b s)
      (read_then (read (included p s)) v (λ u. where_included u (body_tasks p s b)) e)
      (with_truth p b s v e f (is_true (Some v)) refl)

  abbrev HaveConditions : Position → ℕ → ℕ → ℕ → Type 0
  HaveConditions p r i n = (j : ℕ) → i ≤ j → j < i + n → (v : Json) × (w (included p (step r j)) ≡ Some v)

  by_index : (i j : ℕ) → i ≤ j → (i ≡ j) ⊎ (suc i ≤ j)
  by_index i j l = grind (arith, l)

  some_instances : (p : Position) (b : BodyTree) (r : ℕ) → ((j : ℕ) → Bodies p b (step r j)) → (n i : ℕ)
      → HaveConditions p r i n
      → Lists (instances_tasks p r (λ t. body_tasks p t b) i n) (OfInstances p b r i n)
  some_instances p b r f zero i h =
      nothing (OfInstances p b r i 0)
      (λ x q. let l : i ≤ q.0 = q.1.0 in let m : q.0 < i + 0 = q.1.1.0 in omega (arith, l, m))
  some_instances p b r f (suc n) i h =
      let v = h i (omega arith) (omega arith) in
      renamed (instances_tasks p r (λ t. body_tasks p t b) i (suc n))
      (λ x. OfInstance p b (step r i) x ⊎ OfInstances p b r (suc i) n x) (OfInstances p b r i (suc n))
      (joined (instance_tasks p (step r i) (λ t. body_tasks p t b))
      (instances_tasks p r (λ t. body_tasks p t b) (suc i) n)
      (OfInstance p b (step r i)) (OfInstances p b r (suc i) n)
      (an_instance p b (step r i) v.0 v.1 (f i))
      (some_instances p b r f n (suc i) (λ j l m. h j (omega (arith, l)) (omega (arith, m)))))
      (λ x q. elim q [
        | inl a ↦ (i, (omega arith, (omega arith, a)))
        | inr a ↦ (let l : suc i ≤ a.0 = a.1.0 in let m : a.0 < suc i + n = a.1.1.0 in
            (a.0, (omega (arith, l), (omega (arith, m), a.1.1.1))))
      ])
      (λ x q. elim (by_index i q.0 q.1.0) [
        | inl e ↦ inl (subst (λ (k : ℕ). OfInstance p b (step r k) x) (sym e) q.1.1.1)
        | inr l ↦ (let m : q.0 < i + suc n = q.1.1.0 in inr (q.0, (l, (omega (arith, m), q.1.1.1))))
      ])

  of_resource : (p : Position) (b : BodyTree) (r : ℕ) (v : Json) → w (count p r) ≡ Some v
      → ((j : ℕ) → Bodies p b (step r j)) → HaveConditions p r 0 (copies (w (count p r)))
      → Lists (all_instances p r (λ t. body_tasks p t b)) (OfInstances p b r 0 (copies (w (count p r))))
  unfolding value_in
  of_resource p b r v e f h =
      same_reading (instances_tasks p r (λ t. body_tasks p t b) 0 (copies (w (count p r))))
      (all_instances p r (λ t. body_tasks p t b)) (OfInstances p b r 0 (copies (w (count p r))))
      (read_then (read (count p r)) v (λ u. instances_tasks p r (λ t. body_tasks p t b) 0 (copies (Some u))) e
      ∙ ap (λ o. value_in w (instances_tasks p r (λ t. body_tasks p t b) 0 (copies o))) (sym e))
      (some_instances p b r f (copies (w (count p r))) 0 h)

  -- cells that are there
  count_admitted : (p : Position) (r : ℕ) → IsThere p → is_admitted w (count p r) ≡ true
  count_admitted [] r h = refl
  count_admitted (s ∷ p) r h = ap is_true h.0.is_included

  has_count : (p : Position) (r : ℕ) (y : Listed) → IsThere p → resource_of d.template p r ≡ Some y
      → (v : Json) × (w (count p r) ≡ Some v)
  unfolding raw
  has_count p r y h e =
      let v = valued d w world (count p r) refl (count_value d p y) (ap (option_map (count_value d p)) e)
      (count_admitted p r h) in (v.value, v.has)

  has_condition : (p : Position) (r j : ℕ) (y : Listed) → resource_of d.template p r ≡ Some y
      → j < copies (w (count p r)) → (v : Json) × (w (included p (step r j)) ≡ Some v)
  unfolding raw
  has_condition p r j y e l =
      let v = valued d w world (included p (step r j)) refl (included_value d p (step r j) y)
      (ap (option_map (included_value d p (step r j))) e) (lt_true j (copies (w (count p r))) l) in
      (v.value, v.has)

  -- the resources of a scope
  pub record IsPart (p : Position) (t : TemplateTree) (r : ℕ) (ys : List Listed) : Type 0 where
    pub there : IsThere p
    pub at : template_at d.template p ≡ Some t
    pub sits : (k : ℕ) (y : Listed) → slice_get ys k ≡ Some y → slice_get (resources_in t) (r + k) ≡ Some y

  unless_is : (y : Listed) (b : Bool) → y.declaration.existing ≡ b → b ≡ false → unless_existing y ≡ Some y
  unless_is y b e f = ap (λ c. if c then None else Some y) (e ∙ f)

  resource_is : (p : Position) (t : TemplateTree) (r : ℕ) (y : Listed) → template_at d.template p ≡ Some t
      → slice_get (resources_in t) r ≡ Some y → y.declaration.existing ≡ false
      → resource_of d.template p r ≡ Some y
  unfolding resource_at
  resource_is p t r y e f g =
      ap (option_and_then (λ u. resource_at u r)) e ∙ ap (option_and_then unless_existing) f
      ∙ ap (λ c. if c then None else Some y) g

  nested_is : (p : Position) (s : Step) (y : Listed) (n : Nested) → resource_of d.template p s.resource ≡ Some y
      → nested_in y.content ≡ Some n → nested_of d.template p s ≡ Some n
  nested_is p s y n e f = by_template (template_at d.template p) e
    where
      by_template : (o : Option TemplateTree) → option_and_then (λ u. resource_at u s.resource) o ≡ Some y
          → option_and_then (λ u. nested_at u s.resource) o ≡ Some n
      by_template None g = let x : None ≡ Some y = g in absurd (cc)
      by_template (Some t) g = ap (option_and_then (λ (r : Listed). nested_in r.content)) g ∙ f

  -- from part to part
  first_of_tree : (p : Position) (t : TemplateTree) (r : ℕ) (y : Listed) (ys : List Listed) → IsPart p t r (y ∷ ys)
      → slice_get (resources_in t) r ≡ Some y
  first_of_tree p t r y ys i =
      ap (slice_get (resources_in t)) (let e : r ≡ r + 0 = omega arith in e) ∙ i.sits 0 y refl

  rest_of_tree : (p : Position) (t : TemplateTree) (r : ℕ) (y : Listed) (ys : List Listed) → IsPart p t r (y ∷ ys)
      → IsPart p t (suc r) ys
  rest_of_tree p t r y ys i = record {
    there = i.there;
    at = i.at;
    sits = λ k z e.
        ap (slice_get (resources_in t)) (let f : suc r + k ≡ r + suc k = omega arith in f) ∙ i.sits (suc k) z e;
  }

  left_part : (p : Position) (t : TemplateTree) (r : ℕ) (xs ys : List Listed) → IsPart p t r (xs ++ ys)
      → IsPart p t r xs
  left_part p t r xs ys i = record {
    there = i.there;
    at = i.at;
    sits = λ k z e. i.sits k z (get_left xs ys k z e);
  }

  right_part : (p : Position) (t : TemplateTree) (r n : ℕ) (xs ys : List Listed) → length xs ≡ n
      → IsPart p t r (xs ++ ys) → IsPart p t (r + n) ys
  right_part p t r n xs ys l i = record {
    there = i.there;
    at = i.at;
    sits = λ k z e.
        ap (slice_get (resources_in t)) (let f : (r + n) + k ≡ r + (length xs + k) = omega (arith, l) in f)
        ∙ i.sits (length xs + k) z (get_right xs ys k ∙ e);
  }

  -- the tasks of resources in a list
  tree_first : (p : Position) (r : ℕ) (y : Listed) (ys : List Listed) (x : Task)
      → OfResource p r y x ⊎ OfTrees p (suc r) ys x → OfTrees p r (y ∷ ys) x
  tree_first p r y ys x (inl a) =
      (0, (y, (refl, subst (λ (k : ℕ). OfResource p k y x) (let e : r ≡ r + 0 = omega arith in e) a)))
  tree_first p r y ys x (inr a) = (
    suc a.0,
    (
      a.1.0,
      (
        a.1.1.0,
        subst (λ (k : ℕ). OfResource p k a.1.0 x) (let e : suc r + a.0 ≡ r + suc a.0 = omega arith in e) a.1.1.1,
      ),
    ),
  )

  first_tree : (p : Position) (r : ℕ) (y : Listed) (ys : List Listed) (x : Task) (k : ℕ) (z : Listed)
      → slice_get (y ∷ ys) k ≡ Some z → OfResource p (r + k) z x → OfResource p r y x ⊎ OfTrees p (suc r) ys x
  first_tree p r y ys x zero z e q =
      inl (subst (λ (k : ℕ). OfResource p k y x) (let f : r + 0 ≡ r = omega arith in f)
      (subst (λ (u : Listed). OfResource p (r + 0) u x) (sym (same_Some y z e)) q))
  first_tree p r y ys x (suc k) z e q =
      inr (k, (z, (e, subst (λ (m : ℕ). OfResource p m z x) (let f : r + suc k ≡ suc r + k = omega arith in f) q)))

  in_joined : (p : Position) (r n : ℕ) (xs ys : List Listed) → length xs ≡ n → (x : Task)
      → OfTrees p r xs x ⊎ OfTrees p (r + n) ys x → OfTrees p r (xs ++ ys) x
  in_joined p r n xs ys l x (inl a) = (a.0, (a.1.0, (get_left xs ys a.0 a.1.0 a.1.1.0, a.1.1.1)))
  in_joined p r n xs ys l x (inr a) = (
    length xs + a.0,
    (
      a.1.0,
      (
        get_right xs ys a.0 ∙ a.1.1.0,
        subst (λ (k : ℕ). OfResource p k a.1.0 x)
            (let f : (r + n) + a.0 ≡ r + (length xs + a.0) = omega (arith, l) in f) a.1.1.1,
      ),
    ),
  )

  of_joined : (p : Position) (r n : ℕ) (xs ys : List Listed) → length xs ≡ n → (x : Task) (k : ℕ) (z : Listed)
      → slice_get (xs ++ ys) k ≡ Some z → OfResource p (r + k) z x → OfTrees p r xs x ⊎ OfTrees p (r + n) ys x
  of_joined p r n xs ys l x k z e q =
      elim (get_split xs ys k z e) [
        | inl a ↦ inl (k, (z, (a, q)))
        | inr b ↦ (let f : length xs + b.0 ≡ k = b.1.0 in
            inr (
              b.0,
              (
                z,
                (
                  b.1.1,
                  subst (λ (m : ℕ). OfResource p m z x) (let g : r + k ≡ (r + n) + b.0 = omega (arith, l, f) in g) q,
                ),
              ),
            ))
      ]

  own_resource : (p : Position) (r : ℕ) (y : Listed) (e : Bool) → y.declaration.existing ≡ e
      → (e ≡ false → Lists (all_instances p r (λ s. body_tasks p s y.content))
      (OfInstances p y.content r 0 (copies (w (count p r)))))
      → Lists (if e then pure [] else all_instances p r (λ s. body_tasks p s y.content)) (OfResource p r y)
  own_resource p r y true e f =
      nothing (OfResource p r y) (λ x q. true≢false (sym e ∙ q.0))
  own_resource p r y false e f =
      renamed (all_instances p r (λ s. body_tasks p s y.content))
      (OfInstances p y.content r 0 (copies (w (count p r)))) (OfResource p r y) (f refl) (λ x q. (e, q)) (λ x q. q.1)

  instances_of : (p : Position) (t : TemplateTree) (r : ℕ) (y : Listed) → IsThere p
      → template_at d.template p ≡ Some t → slice_get (resources_in t) r ≡ Some y → y.declaration.existing ≡ false
      → ((j : ℕ) → Bodies p y.content (step r j))
      → Lists (all_instances p r (λ s. body_tasks p s y.content))
      (OfInstances p y.content r 0 (copies (w (count p r))))
  instances_of p t r y h a e g f =
      let is = resource_is p t r y a e g in
      let v = has_count p r y h is in
      of_resource p y.content r v.0 v.1 f (λ j l m. has_condition p r j y is (omega (arith, m)))

  -- where a task is, all around it is there
  admitted_or : (c : Cell) (v : Json) → w c ≡ Some v → (b : Bool) → is_admitted w c ≡ b → is_admitted w c ≡ true
  admitted_or c v e true a = a
  admitted_or c v e false a =
      let f : None ≡ Some v = sym (not_admitted d w world c a) ∙ e in absurd (cc)

  admitted : (c : Cell) (v : Json) → w c ≡ Some v → is_admitted w c ≡ true
  admitted c v e = admitted_or c v e (is_admitted w c) refl

  some_count : (i : ℕ) (o : Option Json) → nat_lt i (copies o) ≡ true → (v : Json) × (o ≡ Some v)
  some_count i None e = let l = lt_of_true i 0 e in absurd (omega (arith, l))
  some_count i (Some v) e = (v, refl)

  count_of_included : (p : Position) (s : Step) (v : Json) → w (included p s) ≡ Some v
      → (u : Json) × (w (count p s.resource) ≡ Some u)
  count_of_included p s v e =
      some_count s.copy (w (count p s.resource)) (admitted (included p s) v e)

  -- the resource of a count that is there
  declared_by : (p : Position) (r : ℕ) (o : Option Listed) → resource_of d.template p r ≡ o → (u : Json)
      → w (count p r) ≡ Some u → (y : Listed) × (resource_of d.template p r ≡ Some y)
  unfolding raw
  declared_by p r None e u h =
      let n = by_admitted d w world (count p r) (ap (option_map (count_value d p)) e) refl
      (is_admitted w (count p r)) refl in
      let f : None ≡ Some u = sym n ∙ h in absurd (cc)
  declared_by p r (Some y) e u h = (y, e)

  declared : (p : Position) (r : ℕ) (u : Json) → w (count p r) ≡ Some u
      → (y : Listed) × (resource_of d.template p r ≡ Some y)
  declared p r u h = declared_by p r (resource_of d.template p r) refl u h

  nested_above : (p : Position) (s : Step) (o : Option Nested) → nested_of d.template p s ≡ o → (r : ℕ) (y : Listed)
      → resource_of d.template (s ∷ p) r ≡ Some y → (n : Nested) × (nested_of d.template p s ≡ Some n)
  unfolding template_at
  nested_above p s None e r y h =
      let f : None ≡ Some y
      = sym (ap (λ z. option_and_then (λ u. resource_at u r)
      (option_map (λ (n : Nested). n.template) z)) e) ∙ h in
      absurd (cc)
  nested_above p s (Some n) e r y h = (n, e)

  inside_of : (p : Position) (s : Step) (r : ℕ) (u : Json) → w (count (s ∷ p) r) ≡ Some u → IsInside d w p s
  inside_of p s r u h =
      let y = declared (s ∷ p) r u h in
      let n = nested_above p s (nested_of d.template p s) refl r y.0 y.1 in
      record {
        nested = n.0;
        is_nested = n.1;
        is_included = some_true (w (included p s)) (admitted (count (s ∷ p) r) u h);
      }

  pub there_of : (p : Position) (s : Step) (v : Json) → w (included p s) ≡ Some v → IsThere p
  there_of [] s v e = tt
  there_of (t ∷ p) s v e =
      let u = count_of_included (t ∷ p) s v e in
      let i = inside_of p t s.resource u.0 u.1 in (i, there_of p t (bool true) i.is_included)

  there_of_task : (x : Task) → IsTask d w x → IsThere (position_of x)
  there_of_task (enter []) h = tt
  there_of_task (enter (s ∷ p)) h = (h, there_of p s (bool true) h.is_included)
  there_of_task (leave []) h = tt
  there_of_task (leave (s ∷ p)) h = (h, there_of p s (bool true) h.is_included)
  there_of_task (put p s) h = there_of p s (bool true) h.is_included
  there_of_task (delete k) h = absurd h

  there_above : (r p : Position) (s : Step) → IsThere (r ++ (s ∷ p)) → IsInside d w p s
  there_above [] p s h = h.0
  there_above (t ∷ r) p s h = there_above r p s h.1

  -- the resource of an instance, and where it is in the list
  pub record IsAt (p : Position) (t : TemplateTree) (r : ℕ) (y : Listed) : Type 0 where
    pub is_get : slice_get (resources_in t) r ≡ Some y
    pub is_new : y.declaration.existing ≡ false

  by_existing : (t : TemplateTree) (r : ℕ) (x y : Listed) (b : Bool) → slice_get (resources_in t) r ≡ Some x
      → x.declaration.existing ≡ b → (if b then None else Some x) ≡ Some y → IsAt [] t r y
  by_existing t r x y true g e h = let f : None ≡ Some y = h in absurd (cc)
  by_existing t r x y false g e h =
      subst (λ (z : Listed). IsAt [] t r z) (same_Some x y h) (record { is_get = g; is_new = e })

  by_get : (t : TemplateTree) (r : ℕ) (y : Listed) (o : Option Listed) → slice_get (resources_in t) r ≡ o
      → option_and_then unless_existing o ≡ Some y → IsAt [] t r y
  by_get t r y None g h = let f : None ≡ Some y = h in absurd (cc)
  by_get t r y (Some x) g h = by_existing t r x y x.declaration.existing g refl h

  at_of : (p : Position) (t : TemplateTree) (r : ℕ) (y : Listed) → template_at d.template p ≡ Some t
      → resource_of d.template p r ≡ Some y → IsAt [] t r y
  unfolding resource_at
  at_of p t r y e h =
      by_get t r y (slice_get (resources_in t) r) refl
      (sym (ap (option_and_then (λ u. option_and_then unless_existing (slice_get (resources_in u) r))) e) ∙ h)

  copy_below : (p : Position) (s : Step) → w (included p s) ≡ Some (bool true)
      → s.copy < copies (w (count p s.resource))
  copy_below p s e = lt_of_true s.copy (copies (w (count p s.resource))) (admitted (included p s) (bool true) e)

  in_scope : (p : Position) (t : TemplateTree) (s : Step) (y : Listed) (x : Task) → template_at d.template p ≡ Some t
      → resource_of d.template p s.resource ≡ Some y → w (included p s) ≡ Some (bool true) → OfBody p s y.content x
      → OfTrees p 0 (resources_in t) x
  in_scope p t s y x a e i o =
      let at = at_of p t s.resource y a e in
      let l = copy_below p s i in (
        s.resource,
        (
          y,
          (
            at.is_get,
            subst (λ (k : ℕ). OfResource p k y x) (let f : s.resource ≡ 0 + s.resource = omega arith in f)
                (at.is_new, (s.copy, (omega arith, (omega (arith, l), (i, o))))),
          ),
        ),
      )

  put_body : (p : Position) (s : Step) (b : BodyTree) → nested_in b ≡ None → OfBody p s b (put p s)
  put_body p s (body_members ms) e = refl
  put_body p s (deployment sc ps t) e =
      let f : Some _ ≡ None = e in absurd (cc)

  nested_body : (p : Position) (s : Step) (b : BodyTree) (n : Nested) (x : Task) → nested_in b ≡ Some n
      → Under (s ∷ p) x → OfBody p s b x
  nested_body p s (body_members ms) n x e u = let f : None ≡ Some n = e in absurd (cc)
  nested_body p s (deployment sc ps t) n x e u = u

  content_of : (p : Position) (s : Step) (n : Nested) (o : Option Listed) → resource_of d.template p s.resource ≡ o
      → nested_of d.template p s ≡ Some n
      → (y : Listed) × ((resource_of d.template p s.resource ≡ Some y) × (nested_in y.content ≡ Some n))
  content_of p s n o e h = by_listed o e (sym (nested_by (template_at d.template p)) ∙ h)
    where
      nested_by : (u : Option TemplateTree) → option_and_then (λ v. nested_at v s.resource) u
          ≡ option_and_then (λ (r : Listed). nested_in r.content) (option_and_then (λ v. resource_at v s.resource) u)
      nested_by None = refl
      nested_by (Some v) = refl

      by_listed : (u : Option Listed) → resource_of d.template p s.resource ≡ u
          → option_and_then (λ (r : Listed). nested_in r.content) (resource_of d.template p s.resource) ≡ Some n
          → (y : Listed) × ((resource_of d.template p s.resource ≡ Some y) × (nested_in y.content ≡ Some n))
      by_listed None f g =
          let k : None ≡ Some n = sym (ap (option_and_then (λ (r : Listed). nested_in r.content)) f) ∙ g in absurd (cc)
      by_listed (Some y) f g =
          (y, (f, sym (ap (option_and_then (λ (r : Listed). nested_in r.content)) f) ∙ g))

  -- the tasks under a position are the entry and the leave there, and those of its resources
  abbrev OfScope : Position → TemplateTree → Task → Type 0
  OfScope p t x = (enter p ≡ x) ⊎ (OfTrees p 0 (resources_in t) x ⊎ (leave p ≡ x))

  here : (p q : Position) (t : TemplateTree) → template_at d.template p ≡ Some t → (x : Task) → IsTask d w x
      → position_of x ≡ q → p ≡ q → OfScope p t x
  here p q t a (enter r) h e f = inl (ap enter (f ∙ sym e))
  here p q t a (leave r) h e f = inr (inr (ap leave (f ∙ sym e)))
  here p q t a (put r s) h e f =
      inr (inl (subst (λ (z : Position). OfTrees p 0 (resources_in t) (put z s)) (f ∙ sym e)
      (in_scope p t s h.listed (put p s) a
      (subst (λ (z : Position). resource_of d.template z s.resource ≡ Some h.listed) (e ∙ sym f) h.is_listed)
      (subst (λ (z : Position). w (included z s) ≡ Some (bool true)) (e ∙ sym f) h.is_included)
      (put_body p s h.listed.content h.is_put))))
  here p q t a (delete k) h e f = absurd h

  inside : (p : Position) (t : TemplateTree) (s : Step) (x : Task) → template_at d.template p ≡ Some t
      → IsInside d w p s → Under (s ∷ p) x → OfScope p t x
  inside p t s x a i u =
      let c = content_of p s i.nested (resource_of d.template p s.resource) refl i.is_nested in
      inr (inl (in_scope p t s c.0 x a c.1.0 i.is_included (nested_body p s c.0.content i.nested x c.1.1 u)))

  deeper : (p : Position) (t : TemplateTree) (x : Task) → template_at d.template p ≡ Some t → IsTask d w x
      → (r : Position) → r ++ p ≡ position_of x → EndsWith r → OfScope p t x
  deeper p t x a h r e l =
      let f : l.0 ++ (l.1.0 ∷ p) ≡ position_of x
      = sym (append_unit l.0 p l.1.0) ∙ ap (λ z. z ++ p) l.1.1 ∙ e in
      inside p t l.1.0 x a (there_above l.0 p l.1.0 (subst IsThere (sym f) (there_of_task x h))) (h, (l.0, f))

  to_scope : (p : Position) (t : TemplateTree) → template_at d.template p ≡ Some t → (x : Task) → Under p x
      → OfScope p t x
  to_scope p t a x u =
      elim (last_of u.1.0) [
        | inl e ↦ here p (position_of x) t a x u.0 refl (ap (λ z. z ++ p) (sym e) ∙ u.1.1)
        | inr l ↦ deeper p t x a u.0 u.1.0 u.1.1 l
      ]

  task_of_body : (p : Position) (s : Step) (y : Listed) → resource_of d.template p s.resource ≡ Some y
      → w (included p s) ≡ Some (bool true) → (x : Task) (b : BodyTree) → y.content ≡ b → OfBody p s b x → Under p x
  task_of_body p s y e i x (body_members ms) c o =
      subst (Under p) o (
        record {
          listed = y;
          is_listed = e;
          is_put = ap nested_in c;
          is_included = i;
        },
        ([], refl),
      )
  task_of_body p s y e i x (deployment sc ps t) c o = (o.0, below_further p (position_of x) s o.1)

  task_of_trees : (p : Position) (t : TemplateTree) → template_at d.template p ≡ Some t → (x : Task)
      → OfTrees p 0 (resources_in t) x → Under p x
  task_of_trees p t a x q =
      let r : q.0 ≡ 0 + q.0 = omega arith in
      let o = subst (λ (k : ℕ). OfResource p k q.1.0 x) (sym r) q.1.1.1 in
      task_of_body p (step q.0 o.1.0) q.1.0 (resource_is p t q.0 q.1.0 a q.1.1.0 o.0) o.1.1.1.1.0 x q.1.0.content refl
      o.1.1.1.1.1

  of_scope : (p : Position) (t : TemplateTree) → IsScope d w p → template_at d.template p ≡ Some t → (x : Task)
      → OfScope p t x → Under p x
  of_scope p t i a x (inl e) = subst (Under p) e (i, ([], refl))
  of_scope p t i a x (inr (inl q)) = task_of_trees p t a x q
  of_scope p t i a x (inr (inr e)) = subst (Under p) e (i, ([], refl))

  scope_there : (p : Position) → IsThere p → IsScope d w p
  scope_there [] h = tt
  scope_there (s ∷ p) h = h.0

  has_scope : (p : Position) (xs : List Task) (x : Task) → Has x (enter p ∷ (xs ++ leave p ∷ []))
      → (enter p ≡ x) ⊎ (Has x xs ⊎ (leave p ≡ x))
  has_scope p xs x (inl e) = inl e
  has_scope p xs x (inr h) = inr (by_joined (has_joined x xs (leave p ∷ []) h))
    where
      by_joined : Has x xs ⊎ Has x (leave p ∷ []) → Has x xs ⊎ (leave p ≡ x)
      by_joined (inl a) = inl a
      by_joined (inr (inl e)) = inr e
      by_joined (inr (inr f)) = absurd f

  scope_has : (p : Position) (xs : List Task) (x : Task) → (enter p ≡ x) ⊎ (Has x xs ⊎ (leave p ≡ x))
      → Has x (enter p ∷ (xs ++ leave p ∷ []))
  scope_has p xs x (inl e) = inl e
  scope_has p xs x (inr (inl h)) = inr (has_left x xs (leave p ∷ []) h)
  scope_has p xs x (inr (inr e)) = inr (has_right x xs (leave p ∷ []) (inl e))

  in_three : (P Q R S : Type 0) → (Q → S) → P ⊎ (Q ⊎ R) → P ⊎ (S ⊎ R)
  in_three P Q R S f (inl a) = inl a
  in_three P Q R S f (inr (inl b)) = inr (inl (f b))
  in_three P Q R S f (inr (inr c)) = inr (inr c)

  with_ends : (p : Position) (r : Reads (List Task)) (Q : Task → Type 0) → Lists r Q
      → Lists (scope_tasks p r) (λ x. (enter p ≡ x) ⊎ (Q x ⊎ (leave p ≡ x)))
  unfolding value_in
  with_ends p r Q l = record {
    list = enter p ∷ (l.list ++ leave p ∷ []);
    is_read = read_then r l.list (λ ts. pure (enter p ∷ (ts ++ leave p ∷ []))) l.is_read;
    each = λ x h. in_three (enter p ≡ x) (Has x l.list) (leave p ≡ x) (Q x) (l.each x) (has_scope p l.list x h);
    all = λ x q. scope_has p l.list x (in_three (enter p ≡ x) (Q x) (leave p ≡ x) (Has x l.list) (l.all x) q);
  }

  one_put : (p : Position) (s : Step) → Lists (pure (put p s ∷ [])) (λ x. put p s ≡ x)
  unfolding value_in
  one_put p s = record {
    list = put p s ∷ [];
    is_read = refl;
    each = λ x h. by_first x h;
    all = λ x e. inl e;
  }
    where
      by_first : (x : Task) → Has x (put p s ∷ []) → put p s ≡ x
      by_first x (inl e) = e
      by_first x (inr h) = absurd h

  inside_by : (p : Position) (t : TemplateTree) (s : Step) (y : Listed) (n : Nested)
      → template_at d.template p ≡ Some t → resource_of d.template p s.resource ≡ Some y → nested_in y.content ≡ Some n
      → w (included p s) ≡ Some (bool true) → IsInside d w p s
  inside_by p t s y n a e f i =
      record { nested = n; is_nested = nested_is p s y n e f; is_included = i }

  template_below : (p : Position) (s : Step) (n : Nested) → nested_of d.template p s ≡ Some n
      → template_at d.template (s ∷ p) ≡ Some n.template
  unfolding template_at
  template_below p s n e = ap (option_map (λ (x : Nested). x.template)) e

  zero_plus : (k : ℕ) → 0 + k ≡ k
  zero_plus k = omega arith

  mutual
    template_lists : (t : TemplateTree) (p : Position) → IsThere p → template_at d.template p ≡ Some t
        → Lists (template_tasks p t) (Under p)
    template_lists (template h rs) p i a =
        renamed (template_tasks p (template h rs)) (OfScope p (template h rs)) (Under p)
        (with_ends p (trees_tasks p 0 rs) (OfTrees p 0 (listed_trees None 0 rs))
        (trees_list rs p (template h rs) None 0
        (record { there = i; at = a; sits = λ k y e. ap (slice_get (listed_trees None 0 rs)) (zero_plus k) ∙ e })))
        (of_scope p (template h rs) (scope_there p i) a) (to_scope p (template h rs) a)

    trees_list : (rs : Trees) (p : Position) (t : TemplateTree) (o : Option Above) (r : ℕ)
        → IsPart p t r (listed_trees o r rs) → Lists (trees_tasks p r rs) (OfTrees p r (listed_trees o r rs))
    trees_list no_resources p t o r i =
        nothing (OfTrees p r []) (λ x q. let f : None ≡ Some q.1.0 = q.1.1.0 in absurd (cc))
    trees_list (a_resource x xs) p t o r i =
        renamed (trees_tasks p r (a_resource x xs))
        (λ z. OfTrees p r (listed_tree o r x) z
        ⊎ OfTrees p (r + tree_count x) (listed_trees o (r + tree_count x) xs) z)
        (OfTrees p r (listed_trees o r (a_resource x xs)))
        (joined (tree_tasks p r x) (trees_tasks p (r + tree_count x) xs) (OfTrees p r (listed_tree o r x))
        (OfTrees p (r + tree_count x) (listed_trees o (r + tree_count x) xs))
        (tree_list x p t o r (left_part p t r (listed_tree o r x) (listed_trees o (r + tree_count x) xs) i))
        (trees_list xs p t o (r + tree_count x)
        (right_part p t r (tree_count x) (listed_tree o r x) (listed_trees o (r + tree_count x) xs)
        (tree_length x o r) i)))
        (in_joined p r (tree_count x) (listed_tree o r x) (listed_trees o (r + tree_count x) xs) (tree_length x o r))
        (λ z q. of_joined p r (tree_count x) (listed_tree o r x) (listed_trees o (r + tree_count x) xs)
        (tree_length x o r) z q.0 q.1.0 q.1.1.0 q.1.1.1)

    tree_list : (x : ResourceTree) (p : Position) (t : TemplateTree) (o : Option Above) (r : ℕ)
        → IsPart p t r (listed_tree o r x) → Lists (tree_tasks p r x) (OfTrees p r (listed_tree o r x))
    tree_list (resource dc b xs) p t o r i =
        renamed (tree_tasks p r (resource dc b xs))
        (λ z. OfResource p r (listed_at o dc b) z
        ⊎ OfTrees p (suc r) (listed_trees (Some (above_by o r dc)) (suc r) xs) z)
        (OfTrees p r (listed_tree o r (resource dc b xs)))
        (joined (tasks.unless_existing dc (all_instances p r (λ s. body_tasks p s b))) (trees_tasks p (suc r) xs)
        (OfResource p r (listed_at o dc b)) (OfTrees p (suc r) (listed_trees (Some (above_by o r dc)) (suc r) xs))
        (own_resource p r (listed_at o dc b) dc.existing refl
        (λ e. instances_of p t r (listed_at o dc b) i.there i.at
        (first_of_tree p t r (listed_at o dc b) (listed_trees (Some (above_by o r dc)) (suc r) xs) i) e
        (λ j inc. body_lists b p t (step r j) (listed_at o dc b) i.there i.at refl
        (resource_is p t r (listed_at o dc b) i.at
        (first_of_tree p t r (listed_at o dc b) (listed_trees (Some (above_by o r dc)) (suc r) xs) i) e) inc)))
        (trees_list xs p t (Some (above_by o r dc)) (suc r)
        (rest_of_tree p t r (listed_at o dc b) (listed_trees (Some (above_by o r dc)) (suc r) xs) i)))
        (tree_first p r (listed_at o dc b) (listed_trees (Some (above_by o r dc)) (suc r) xs))
        (λ z q. first_tree p r (listed_at o dc b) (listed_trees (Some (above_by o r dc)) (suc r) xs) z q.0 q.1.0
        q.1.1.0 q.1.1.1)

    body_lists : (b : BodyTree) (p : Position) (t : TemplateTree) (s : Step) (y : Listed) → IsThere p
        → template_at d.template p ≡ Some t → y.content ≡ b → resource_of d.template p s.resource ≡ Some y
        → w (included p s) ≡ Some (bool true) → Lists (body_tasks p s b) (OfBody p s b)
    body_lists (body_members ms) p t s y i a c e inc = one_put p s
    body_lists (deployment sc ps u) p t s y i a c e inc =
        let n : Nested = record { scope = sc; arguments = ps; template = u } in
        let f : nested_in y.content ≡ Some n = ap nested_in c in
        template_lists u (s ∷ p) (inside_by p t s y n a e f inc, i) (template_below p s n (nested_is p s y n e f))

  root_at : template_at d.template [] ≡ Some d.template
  unfolding template_at
  root_at = refl

  below_root : (q : Position) → q ++ [] ≡ q
  below_root [] = refl
  below_root (s ∷ q) = ap (λ r. s ∷ r) (below_root q)

  pub all_tasks : (ts : List Task) × AreTasks d w ts
  all_tasks =
      let l = template_lists d.template [] tt root_at in (
        l.list,
        record {
          is_read = l.is_read;
          each = λ x h. (l.each x h).0;
          all = λ x h. l.all x (h, (position_of x, below_root (position_of x)));
        },
      )
