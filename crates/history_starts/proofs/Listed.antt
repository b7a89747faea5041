-- The list of tasks has those of each scope that is there and of each instance that is included.
use Rattle.std.proofs.Common.{◌≡◌, ◌⊎◌, inl, inr, ℕ, zero, suc, ◌+◌, ◌<◌, ◌≤◌, Bool, true, false, true≢false, List}
use Rattle.std.proofs.Common.{[]}
use Rattle.std.proofs.Common.{◌∷◌, ◌++◌, length, Option, Some, None, refl, sym, ap, subst, ◌∙◌, arith, length-append}
use Rattle.std.specs.Prelude.{slice_get, option_map, option_and_then, if◌then◌else◌}
use Rattle.std.proofs.lemmas.Option.{same_Some}
use Rattle.arm_value.specs.Json.{Json, bool}
use Rattle.reading.specs.Reading.{pure, read, continued}
use Rattle.reading.specs.World.{value_in}
use Rattle.reading.proofs.Parts.{value_in-continued}
use Rattle.template_tree.specs.Tree.{TemplateTree, template, ResourceTree, resource, BodyTree, body_members}
use Rattle.template_tree.specs.Tree.{deployment, Trees, no_resources, a_resource}
use Rattle.deploy_cells.specs.Cells.{Step, step, Position, Cell, count, included, World, copies}
use Rattle.deploy_cells.specs.Guarded.{Reads}
use Rattle.plan_cells.specs.Resources.{Above, Listed, Nested, tree_count, trees_count, above_by, listed_at}
use Rattle.plan_cells.specs.Resources.{listed_tree}
use Rattle.plan_cells.specs.Resources.{listed_trees, resources_in, trees_in, unless_existing, resource_at, nested_in}
use Rattle.plan_cells.specs.Resources.{nested_at}
use Rattle.plan_cells.specs.Scopes.{template_at, nested_of}
use Rattle.plan_cells.specs.Children.{Has}
use Rattle.plan_cells.specs.Tasks as tasks
use Rattle.plan_cells.specs.Tasks.{Task, enter, leave, both_lists, where_included, instance_tasks, instances_tasks}
use Rattle.plan_cells.specs.Tasks.{all_instances, template_tasks, trees_tasks, tree_tasks, body_tasks}
use Rattle.plan_cells.proofs.ListLemmas.{has_left, has_right}

abbrev pub Among : List Task → List Task → Type 0
Among us ts = (t : Task) → Has t us → Has t ts

-- ---- lists joined of two

abbrev Later : List Listed → List Listed → ℕ → Listed → Type 0
Later xs ys k y = (m : ℕ) × ((length xs + m ≡ k) × (slice_get ys m ≡ Some y))

get_either : (xs ys : List Listed) (k : ℕ) (y : Listed) → slice_get (xs ++ ys) k ≡ Some y
    → (slice_get xs k ≡ Some y) ⊎ Later xs ys k y
get_either [] ys k y e = inr (k, (let f : 0 + k ≡ k = omega arith in f, e))
get_either (x ∷ xs) ys zero y e = inl e
get_either (x ∷ xs) ys (suc k) y e =
    elim (get_either xs ys k y e) [
      | inl a ↦ inl a
      | inr b ↦ (let f : length xs + b.0 ≡ k = b.1.0 in inr (b.0, (omega (arith, f), b.1.1)))
    ]

mutual
  tree_length : (x : ResourceTree) (o : Option Above) (r : ℕ) → length (listed_tree o r x) ≡ tree_count x
  tree_length (resource dc b xs) o r =
      let e : length (listed_trees (Some (above_by o r dc)) (suc r) xs) ≡ trees_count xs
      = trees_length xs (Some (above_by o r dc)) (suc r) in omega (arith, e)

  trees_length : (xs : Trees) (o : Option Above) (r : ℕ) → length (listed_trees o r xs) ≡ trees_count xs
  trees_length no_resources o r = refl
  trees_length (a_resource x xs) o r =
      let a : length (listed_tree o r x) ≡ tree_count x = tree_length x o r in
      let b : length (listed_trees o (r + tree_count x) xs) ≡ trees_count xs = trees_length xs o (r + tree_count x) in
      let c : length (listed_tree o r x ++ listed_trees o (r + tree_count x) xs)
      ≡ length (listed_tree o r x) + length (listed_trees o (r + tree_count x) xs)
      = length-append (listed_tree o r x) (listed_trees o (r + tree_count x) xs) in omega (arith, a, b, c)

module _ (w : World) where
  -- the reading has a list, and these are among it
  record Lists (r : Reads (List Task)) (ts : List Task) : Type 0 where
    list : List Task
    is_read : value_in w r ≡ Some list
    among : Among list ts

  among_more : (r : Reads (List Task)) (us ts : List Task) → Lists r us → Among us ts → Lists r ts
  among_more r us ts l a = record { list = l.list; is_read = l.is_read; among = λ t h. a t (l.among t h) }

  -- both parts have their lists
  pub record Both (r s : Reads (List Task)) (ts : List Task) : Type 0 where
    pub one : List Task
    pub two : List Task
    pub one_read : value_in w r ≡ Some one
    pub two_read : value_in w s ≡ Some two
    pub is : ts ≡ one ++ two

  by_two : (r s : Reads (List Task)) (ts xs : List Task) → value_in w r ≡ Some xs → (o : Option (List Task))
      → value_in w s ≡ o → option_and_then (λ ys. value_in w (pure (xs ++ ys))) o ≡ Some ts → Both r s ts
  unfolding value_in
  by_two r s ts xs e None f g = let h : None ≡ Some ts = g in absurd (cc)
  by_two r s ts xs e (Some ys) f g = record {
    one = xs;
    two = ys;
    one_read = e;
    two_read = f;
    is = sym (same_Some (xs ++ ys) ts g);
  }

  by_one : (r s : Reads (List Task)) (ts : List Task) (o : Option (List Task)) → value_in w r ≡ o
      → option_and_then (λ xs. value_in w (continued s (λ ys. pure (xs ++ ys)))) o ≡ Some ts → Both r s ts
  by_one r s ts None e f = let h : None ≡ Some ts = f in absurd (cc)
  by_one r s ts (Some xs) e f =
      by_two r s ts xs e (value_in w s) refl
      (sym (value_in-continued Cell Json (List Task) (List Task) w s (λ ys. pure (xs ++ ys))) ∙ f)

  pub both_of : (r s : Reads (List Task)) (ts : List Task) → value_in w (both_lists r s) ≡ Some ts → Both r s ts
  both_of r s ts e =
      by_one r s ts (value_in w r) refl
      (sym (value_in-continued Cell Json (List Task) (List Task) w r (λ xs. continued s (λ ys. pure (xs ++ ys)))) ∙ e)

  among_one : (r s : Reads (List Task)) (ts : List Task) (b : Both r s ts) → Among b.one ts
  among_one r s ts b t h = subst (λ (l : List Task). Has t l) (sym b.is) (has_left t b.one b.two h)

  among_two : (r s : Reads (List Task)) (ts : List Task) (b : Both r s ts) → Among b.two ts
  among_two r s ts b t h = subst (λ (l : List Task). Has t l) (sym b.is) (has_right t b.one b.two h)

  -- what is read after a cell that has a value
  after_read : (c : Cell) (v : Json) (f : Json → Reads (List Task)) (ts : List Task) → w c ≡ Some v
      → value_in w (continued (read c) f) ≡ Some ts → value_in w (f v) ≡ Some ts
  unfolding value_in
  after_read c v f ts e g =
      sym (value_in-continued Cell Json Json (List Task) w (read c) f
      ∙ ap (option_and_then (λ u. value_in w (f u))) e) ∙ g

  -- an instance that is included
  of_instance : (p : Position) (s : Step) (f : Step → Reads (List Task)) (ts : List Task)
      → w (included p s) ≡ Some (bool true) → value_in w (instance_tasks p s f) ≡ Some ts → value_in w (f s) ≡ Some ts
  of_instance p s f ts e g = after_read (included p s) (bool true) (λ v. where_included v (f s)) ts e g

  of_instances : (p : Position) (r : ℕ) (f : Step → Reads (List Task)) (n i j : ℕ) (ts : List Task)
      → i ≤ j → j < i + n → w (included p (step r j)) ≡ Some (bool true)
      → value_in w (instances_tasks p r f i n) ≡ Some ts → Lists (f (step r j)) ts
  of_instances p r f zero i j ts l m e g = absurd (omega (arith, l, m))
  of_instances p r f (suc n) i j ts l m e g =
      let b = both_of (instance_tasks p (step r i) f) (instances_tasks p r f (suc i) n) ts g in
      by_first (nat_cases i j l)
      (λ h. record {
        list = b.one;
        is_read =
            ap (λ (k : ℕ). value_in w (f (step r k))) (sym h)
            ∙ of_instance p (step r i) f b.one
            (ap (λ (k : ℕ). w (included p (step r k))) h ∙ e) b.one_read;
        among = among_one (instance_tasks p (step r i) f) (instances_tasks p r f (suc i) n) ts b;
      })
      (λ h. among_more (f (step r j)) b.two ts
      (of_instances p r f n (suc i) j b.two h (omega (arith, m)) e b.two_read)
      (among_two (instance_tasks p (step r i) f) (instances_tasks p r f (suc i) n) ts b))
    where
      nat_cases : (i j : ℕ) → i ≤ j → (i ≡ j) ⊎ (suc i ≤ j)
      nat_cases i j l = grind (arith, l)

      by_first : (i ≡ j) ⊎ (suc i ≤ j) → (i ≡ j → Lists (f (step r j)) ts) → (suc i ≤ j → Lists (f (step r j)) ts)
          → Lists (f (step r j)) ts
      by_first (inl h) here rest = here h
      by_first (inr h) here rest = rest h

  -- an instance of a resource is included: its index is below the count, and its condition is true
  pub record IsAt (p : Position) (r j : ℕ) : Type 0 where
    pub counts : Json
    pub has_count : w (count p r) ≡ Some counts
    pub within : j < copies (Some counts)
    pub has_condition : w (included p (step r j)) ≡ Some (bool true)

  of_all : (p : Position) (r : ℕ) (f : Step → Reads (List Task)) (j : ℕ) (ts : List Task) → IsAt p r j
      → value_in w (all_instances p r f) ≡ Some ts → Lists (f (step r j)) ts
  of_all p r f j ts i g =
      of_instances p r f (copies (Some i.counts)) 0 j ts (omega arith)
      (let l = i.within in omega (arith, l)) i.has_condition
      (after_read (count p r) i.counts (λ u. instances_tasks p r f 0 (copies (Some u))) ts i.has_count g)

  moved : (p : Position) (y : Listed) (j : ℕ) (ts : List Task) (m n : ℕ) → m ≡ n
      → Lists (body_tasks p (step m j) y.content) ts → Lists (body_tasks p (step n j) y.content) ts
  moved p y j ts m n e l = subst (λ (k : ℕ). Lists (body_tasks p (step k j) y.content) ts) e l

  first_tree : (p : Position) (o : Option Above) (r : ℕ) (y : Listed) (j : ℕ) (ts : List Task) (b : BodyTree) (e : Bool)
      → e ≡ false → y.content ≡ b → IsAt p r j
      → value_in w (if e then pure [] else all_instances p r (λ s. body_tasks p s b)) ≡ Some ts
      → Lists (body_tasks p (step r j) y.content) ts
  first_tree p o r y j ts b true e c i g = absurd (true≢false e)
  first_tree p o r y j ts b false e c i g =
      subst (λ (z : BodyTree). Lists (body_tasks p (step r j) z) ts) (sym c)
      (of_all p r (λ s. body_tasks p s b) j ts i g)

  mutual
    of_trees : (xs : Trees) (p : Position) (o : Option Above) (r k : ℕ) (y : Listed) (j : ℕ) (ts : List Task)
        → slice_get (listed_trees o r xs) k ≡ Some y → y.declaration.existing ≡ false → IsAt p (r + k) j
        → value_in w (trees_tasks p r xs) ≡ Some ts → Lists (body_tasks p (step (r + k) j) y.content) ts
    of_trees no_resources p o r k y j ts e x i g = let f : None ≡ Some y = e in absurd (cc)
    of_trees (a_resource t xs) p o r k y j ts e x i g =
        let b = both_of (tree_tasks p r t) (trees_tasks p (r + tree_count t) xs) ts g in
        elim (get_either (listed_tree o r t) (listed_trees o (r + tree_count t) xs) k y e) [
          | inl h ↦
              among_more (body_tasks p (step (r + k) j) y.content) b.one ts
              (of_tree t p o r k y j b.one h x i b.one_read)
              (among_one (tree_tasks p r t) (trees_tasks p (r + tree_count t) xs) ts b)
          | inr h ↦
              (let c : length (listed_tree o r t) ≡ tree_count t = tree_length t o r in
              let q : length (listed_tree o r t) + h.0 ≡ k = h.1.0 in
              let z : (r + tree_count t) + h.0 ≡ r + k = omega (arith, c, q) in
              among_more (body_tasks p (step (r + k) j) y.content) b.two ts
              (moved p y j b.two ((r + tree_count t) + h.0) (r + k) z
              (of_trees xs p o (r + tree_count t) h.0 y j b.two h.1.1 x
              (subst (λ (n : ℕ). IsAt p n j) (sym z) i) b.two_read))
              (among_two (tree_tasks p r t) (trees_tasks p (r + tree_count t) xs) ts b))
        ]

    of_tree : (t : ResourceTree) (p : Position) (o : Option Above) (r k : ℕ) (y : Listed) (j : ℕ) (ts : List Task)
        → slice_get (listed_tree o r t) k ≡ Some y → y.declaration.existing ≡ false → IsAt p (r + k) j
        → value_in w (tree_tasks p r t) ≡ Some ts → Lists (body_tasks p (step (r + k) j) y.content) ts
    of_tree (resource dc b xs) p o r zero y j ts e x i g =
        let q = both_of (tasks.unless_existing dc (all_instances p r (λ s. body_tasks p s b)))
        (trees_tasks p (suc r) xs) ts g in
        let here : listed_at o dc b ≡ y = same_Some (listed_at o dc b) y e in
        let z : r + 0 ≡ r = omega arith in
        among_more (body_tasks p (step (r + 0) j) y.content) q.one ts
        (moved p y j q.one r (r + 0) (sym z)
        (first_tree p o r y j q.one b dc.existing (ap (λ (l : Listed). l.declaration.existing) here ∙ x)
        (ap (λ (l : Listed). l.content) (sym here)) (subst (λ (n : ℕ). IsAt p n j) z i) q.one_read))
        (among_one (tasks.unless_existing dc (all_instances p r (λ s. body_tasks p s b)))
        (trees_tasks p (suc r) xs) ts q)
    of_tree (resource dc b xs) p o r (suc k) y j ts e x i g =
        let q = both_of (tasks.unless_existing dc (all_instances p r (λ s. body_tasks p s b)))
        (trees_tasks p (suc r) xs) ts g in
        let z : suc r + k ≡ r + suc k = omega arith in
        among_more (body_tasks p (step (r + suc k) j) y.content) q.two ts
        (moved p y j q.two (suc r + k) (r + suc k) z
        (of_trees xs p (Some (above_by o r dc)) (suc r) k y j q.two e x
        (subst (λ (n : ℕ). IsAt p n j) (sym z) i) q.two_read))
        (among_two (tasks.unless_existing dc (all_instances p r (λ s. body_tasks p s b)))
        (trees_tasks p (suc r) xs) ts q)

  -- ---- scopes

  -- the tasks of a scope: its entry, those of its resources, and its leave
  pub record ScopeList (p : Position) (t : TemplateTree) (ts : List Task) : Type 0 where
    pub inside : List Task
    pub is_read : value_in w (trees_tasks p 0 (trees_in t)) ≡ Some inside
    pub is : ts ≡ enter p ∷ (inside ++ leave p ∷ [])

  by_inside : (p : Position) (t : TemplateTree) (ts : List Task) (o : Option (List Task))
      → value_in w (trees_tasks p 0 (trees_in t)) ≡ o
      → option_and_then (λ us. value_in w (pure (enter p ∷ (us ++ leave p ∷ [])))) o ≡ Some ts → ScopeList p t ts
  unfolding value_in
  by_inside p t ts None e f = let g : None ≡ Some ts = f in absurd (cc)
  by_inside p t ts (Some us) e f = record {
    inside = us;
    is_read = e;
    is = sym (same_Some (enter p ∷ (us ++ leave p ∷ [])) ts f);
  }

  pub scope_list : (p : Position) (t : TemplateTree) (ts : List Task) → value_in w (template_tasks p t) ≡ Some ts
      → ScopeList p t ts
  scope_list p (template h rs) ts e =
      by_inside p (template h rs) ts (value_in w (trees_tasks p 0 rs)) refl
      (sym (value_in-continued Cell Json (List Task) (List Task) w (trees_tasks p 0 rs)
      (λ us. pure (enter p ∷ (us ++ leave p ∷ [])))) ∙ e)

  -- the tasks of an instance of a scope are among those of the scope
  of_resource : (p : Position) (t : TemplateTree) (ts : List Task) (r : ℕ) (y : Listed) (j : ℕ)
      → slice_get (resources_in t) r ≡ Some y → y.declaration.existing ≡ false → IsAt p r j
      → value_in w (template_tasks p t) ≡ Some ts → Lists (body_tasks p (step r j) y.content) ts
  of_resource p t ts r y j e x i g =
      let s = scope_list p t ts g in
      let z : 0 + r ≡ r = omega arith in
      among_more (body_tasks p (step r j) y.content) s.inside ts
      (moved p y j s.inside (0 + r) r z
      (of_trees (trees_in t) p None 0 r y j s.inside e x (subst (λ (n : ℕ). IsAt p n j) (sym z) i) s.is_read))
      (λ k h. subst (λ (l : List Task). Has k l) (sym s.is) (inr (has_left k s.inside (leave p ∷ []) h)))

  module _ (top : TemplateTree) where
    -- a scope is there, with all around it
    abbrev pub IsThere : Position → Type 0
    IsThere [] = Unit {0}
    IsThere (s ∷ q) = (n : Nested) × ((nested_of top q s ≡ Some n) × (IsAt q s.resource s.copy × IsThere q))

    -- the tasks of a scope are among all
    record ScopeIn (q : Position) (ts : List Task) : Type 0 where
      of : TemplateTree
      at : template_at top q ≡ Some of
      lists : Lists (template_tasks q of) ts

    -- a nested deployment of a template
    record NestedIn (t : TemplateTree) (r : ℕ) (n : Nested) : Type 0 where
      listed : Listed
      has : slice_get (resources_in t) r ≡ Some listed
      is_new : listed.declaration.existing ≡ false
      is_nested : nested_in listed.content ≡ Some n

    new_by : (t : TemplateTree) (r : ℕ) (n : Nested) (y : Listed) (b : Bool) → slice_get (resources_in t) r ≡ Some y
        → y.declaration.existing ≡ b
        → option_and_then (λ (l : Listed). nested_in l.content) (if b then None else Some y) ≡ Some n → NestedIn t r n
    new_by t r n y true e x f = let g : None ≡ Some n = f in absurd (cc)
    new_by t r n y false e x f = record { listed = y; has = e; is_new = x; is_nested = f }

    nested_by : (t : TemplateTree) (r : ℕ) (n : Nested) (o : Option Listed) → slice_get (resources_in t) r ≡ o
        → option_and_then (λ (l : Listed). nested_in l.content) (option_and_then unless_existing o) ≡ Some n
        → NestedIn t r n
    nested_by t r n None e f = let g : None ≡ Some n = f in absurd (cc)
    nested_by t r n (Some y) e f = new_by t r n y y.declaration.existing e refl f

    nested_is : (t : TemplateTree) (r : ℕ) (n : Nested) → nested_at t r ≡ Some n → NestedIn t r n
    unfolding resource_at
    nested_is t r n e = nested_by t r n (slice_get (resources_in t) r) refl e

    by_body : (q : Position) (s : Step) (us : List Task) (n : Nested) (b : BodyTree) → nested_in b ≡ Some n
        → Lists (body_tasks q s b) us → Lists (template_tasks (s ∷ q) n.template) us
    by_body q s us n (body_members ms) e l = let f : None ≡ Some n = e in absurd (cc)
    by_body q s us n (deployment sc ps t) e l =
        subst (λ (z : Nested). Lists (template_tasks (s ∷ q) z.template) us)
        (same_Some (record { scope = sc; arguments = ps; template = t }) n e) l

    scope_in : (q : Position) (ts : List Task) → IsThere q → value_in w (template_tasks [] top) ≡ Some ts
        → ScopeIn q ts
    unfolding template_at
    scope_in [] ts h e = record {
      of = top;
      at = refl;
      lists = record { list = ts; is_read = e; among = λ t i. i };
    }
    scope_in (s ∷ q) ts h e =
        let up = scope_in q ts h.1.1.1 e in
        let n = nested_is up.of s.resource h.0
        (ap (option_and_then (λ u. nested_at u s.resource)) (sym up.at) ∙ h.1.0) in
        record {
          of = h.0.template;
          at = ap (option_map (λ (z : Nested). z.template)) h.1.0;
          lists =
              among_more (template_tasks (s ∷ q) h.0.template) up.lists.list ts
              (by_body q s up.lists.list h.0 n.listed.content n.is_nested
              (of_resource q up.of up.lists.list s.resource n.listed s.copy n.has n.is_new h.1.1.0 up.lists.is_read))
              up.lists.among;
        }

    pub entered_listed : (q : Position) (ts : List Task) → IsThere q → value_in w (template_tasks [] top) ≡ Some ts
        → Has (enter q) ts
    entered_listed q ts h e =
        let s = scope_in q ts h e in
        let l = scope_list q s.of s.lists.list s.lists.is_read in
        s.lists.among (enter q) (subst (λ (us : List Task). Has (enter q) us) (sym l.is) (inl refl))

    pub left_listed : (q : Position) (ts : List Task) → IsThere q → value_in w (template_tasks [] top) ≡ Some ts
        → Has (leave q) ts
    left_listed q ts h e =
        let s = scope_in q ts h e in
        let l = scope_list q s.of s.lists.list s.lists.is_read in
        s.lists.among (leave q)
        (subst (λ (us : List Task). Has (leave q) us) (sym l.is)
        (inr (has_right (leave q) l.inside (leave q ∷ []) (inl refl))))
