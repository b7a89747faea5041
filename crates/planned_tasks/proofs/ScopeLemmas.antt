-- Each task of the scopes of a deployment enters or leaves a scope, or puts an instance that is included; none deletes.
use Rattle.std.proofs.Common.{◌≡◌, inl, inr, ℕ, zero, suc, ◌+◌, Bool, true, false, List, [], ◌∷◌, ◌++◌}
use Rattle.std.proofs.Common.{Option, Some, None, refl, sym, subst, ◌∙◌}
use Rattle.std.specs.Prelude.{option_and_then, if◌then◌else◌}
use Rattle.std.proofs.lemmas.Option.{same_Some}
use Rattle.plan_cells.proofs.TaskLemmas.{some_true}
use Rattle.arm_value.specs.Json.{Json, bool}
use Rattle.arm_value.specs.Kinds.{is_true}
use Rattle.reading.specs.Reading.{pure, read, continued}
use Rattle.reading.specs.World.{value_in}
use Rattle.reading.proofs.Parts.{value_in-continued}
use Rattle.template_tree.specs.Tree.{TemplateTree, template, ResourceTree, resource, BodyTree, body_members}
use Rattle.template_tree.specs.Tree.{deployment, Trees, no_resources, a_resource}
use Rattle.deploy_cells.specs.Cells.{Step, step, Position, Cell, count, included, World, copies}
use Rattle.deploy_cells.specs.Guarded.{Reads}
use Rattle.plan_cells.specs.Resources.{tree_count}
use Rattle.plan_cells.specs.Children.{Has}
use Rattle.plan_cells.specs.Tasks as tasks
use Rattle.plan_cells.specs.Tasks.{Task, enter, leave, put, delete, where_included, instance_tasks, instances_tasks}
use Rattle.plan_cells.specs.Tasks.{all_instances, template_tasks, trees_tasks, tree_tasks, body_tasks}
use Rattle.plan_cells.proofs.ListLemmas.{has_joined}
use Rattle.history_starts.proofs.Listed.{both_of, scope_list}

module _ (w : World) where
  -- the task is one of a scope
  abbrev pub IsOfScope : Task → Type 0
  IsOfScope (enter p) = Unit {0}
  IsOfScope (leave p) = Unit {0}
  IsOfScope (put p s) = w (included p s) ≡ Some (bool true)
  IsOfScope (delete k) = ⊥

  abbrev pub AreOfScopes : List Task → Type 0
  AreOfScopes ts = (t : Task) → Has t ts → IsOfScope t

  both_good : (xs ys ts : List Task) → ts ≡ xs ++ ys → AreOfScopes xs → AreOfScopes ys → AreOfScopes ts
  both_good xs ys ts e a b t h =
      elim (has_joined t xs ys (subst (λ (l : List Task). Has t l) e h)) [
        | inl i ↦ a t i
        | inr i ↦ b t i
      ]

  one_good : (t : Task) → IsOfScope t → AreOfScopes (t ∷ [])
  one_good t g u h = elim h [ inl i ↦ subst IsOfScope i g | inr n ↦ absurd n ]

  nothing_read : (ts : List Task) → value_in w (pure []) ≡ Some ts → AreOfScopes ts
  unfolding value_in
  nothing_read ts e = subst AreOfScopes (same_Some [] ts e) (λ t h. absurd h)

  by_cell : (c : Cell) (o : Option Json) (f : Json → Reads (List Task)) (ts : List Task) → w c ≡ o
      → option_and_then (λ v. value_in w (f v)) o ≡ Some ts
      → ((v : Json) → w c ≡ Some v → value_in w (f v) ≡ Some ts → AreOfScopes ts) → AreOfScopes ts
  by_cell c None f ts i e g = let h : None ≡ Some ts = e in absurd (cc)
  by_cell c (Some v) f ts i e g = g v i e

  after_cell : (c : Cell) (f : Json → Reads (List Task)) (ts : List Task) → value_in w (continued (read c) f) ≡ Some ts
      → ((v : Json) → w c ≡ Some v → value_in w (f v) ≡ Some ts → AreOfScopes ts) → AreOfScopes ts
  unfolding value_in
  after_cell c f ts e g =
      by_cell c (w c) f ts refl (sym (value_in-continued Cell Json Json (List Task) w (read c) f) ∙ e) g

  by_truth : (c : Cell) (v : Json) (b : Bool) (r : Reads (List Task)) (ts : List Task) → w c ≡ Some v
      → is_true (Some v) ≡ b
      → (w c ≡ Some (bool true) → (us : List Task) → value_in w r ≡ Some us → AreOfScopes us)
      → value_in w (if b then r else pure []) ≡ Some ts → AreOfScopes ts
  by_truth c v true r ts i t g e = g (i ∙ some_true (Some v) t) ts e
  by_truth c v false r ts i t g e = nothing_read ts e

  -- what is listed of an instance that is included
  abbrev EachOf : Position → (Step → Reads (List Task)) → Type 0
  EachOf p f = (s : Step) → w (included p s) ≡ Some (bool true) → (us : List Task) → value_in w (f s) ≡ Some us
      → AreOfScopes us

  of_instances : (p : Position) (r : ℕ) (f : Step → Reads (List Task)) → EachOf p f → (n i : ℕ) (ts : List Task)
      → value_in w (instances_tasks p r f i n) ≡ Some ts → AreOfScopes ts
  of_instances p r f g zero i ts e = nothing_read ts e
  of_instances p r f g (suc n) i ts e =
      let b = both_of w (instance_tasks p (step r i) f) (instances_tasks p r f (suc i) n) ts e in
      both_good b.one b.two ts b.is
      (after_cell (included p (step r i)) (λ v. where_included v (f (step r i))) b.one b.one_read
      (λ v j h. by_truth (included p (step r i)) v (is_true (Some v)) (f (step r i)) b.one j refl (g (step r i)) h))
      (of_instances p r f g n (suc i) b.two b.two_read)

  unless_old : (p : Position) (r : ℕ) (f : Step → Reads (List Task)) → EachOf p f → (b : Bool) (ts : List Task)
      → value_in w (if b then pure [] else all_instances p r f) ≡ Some ts → AreOfScopes ts
  unless_old p r f g true ts e = nothing_read ts e
  unless_old p r f g false ts e =
      after_cell (count p r) (λ u. instances_tasks p r f 0 (copies (Some u))) ts e
      (λ v i h. of_instances p r f g (copies (Some v)) 0 ts h)

  with_ends : (p : Position) (us : List Task) → AreOfScopes us → AreOfScopes (enter p ∷ (us ++ leave p ∷ []))
  with_ends p us g =
      both_good (enter p ∷ []) (us ++ leave p ∷ []) (enter p ∷ (us ++ leave p ∷ [])) refl (one_good (enter p) tt)
      (both_good us (leave p ∷ []) (us ++ leave p ∷ []) refl g (one_good (leave p) tt))

  one_put : (p : Position) (s : Step) (ts : List Task) → w (included p s) ≡ Some (bool true)
      → value_in w (pure (put p s ∷ [])) ≡ Some ts → AreOfScopes ts
  unfolding value_in
  one_put p s ts i e = subst AreOfScopes (same_Some (put p s ∷ []) ts e) (one_good (put p s) i)

  mutual
    pub of_template : (t : TemplateTree) (p : Position) (ts : List Task) → value_in w (template_tasks p t) ≡ Some ts
        → AreOfScopes ts
    of_template (template h rs) p ts e =
        let l = scope_list w p (template h rs) ts e in
        subst AreOfScopes (sym l.is) (with_ends p l.inside (of_trees rs p 0 l.inside l.is_read))

    of_trees : (xs : Trees) (p : Position) (r : ℕ) (ts : List Task) → value_in w (trees_tasks p r xs) ≡ Some ts
        → AreOfScopes ts
    of_trees no_resources p r ts e = nothing_read ts e
    of_trees (a_resource t xs) p r ts e =
        let b = both_of w (tree_tasks p r t) (trees_tasks p (r + tree_count t) xs) ts e in
        both_good b.one b.two ts b.is (of_tree t p r b.one b.one_read)
        (of_trees xs p (r + tree_count t) b.two b.two_read)

    of_tree : (t : ResourceTree) (p : Position) (r : ℕ) (ts : List Task) → value_in w (tree_tasks p r t) ≡ Some ts
        → AreOfScopes ts
    of_tree (resource dc b xs) p r ts e =
        let y = both_of w (tasks.unless_existing dc (all_instances p r (λ st. body_tasks p st b)))
        (trees_tasks p (suc r) xs) ts e in
        both_good y.one y.two ts y.is
        (unless_old p r (λ st. body_tasks p st b) (λ st i us g. of_body b p st us i g) dc.existing y.one y.one_read)
        (of_trees xs p (suc r) y.two y.two_read)

    of_body : (b : BodyTree) (p : Position) (st : Step) (ts : List Task) → w (included p st) ≡ Some (bool true)
        → value_in w (body_tasks p st b) ≡ Some ts → AreOfScopes ts
    of_body (body_members ms) p st ts i e = one_put p st ts i e
    of_body (deployment sc ps t) p st ts i e = of_template t (st ∷ p) ts e
