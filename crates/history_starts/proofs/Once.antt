-- Each put and each leave is listed once among the tasks.
use Rattle.std.proofs.Common.{◌≡◌, inl, inr, ℕ, zero, suc, ◌+◌, ◌<◌, ◌≤◌, Bool, true, false, List, []}
use Rattle.std.proofs.Common.{◌∷◌, ◌++◌, length, Option, Some, None, refl, sym, ap, subst, ◌∙◌, arith, length-append}
use Rattle.std.proofs.Common.{append_assoc}
use Rattle.std.specs.Prelude.{slice_get, option_and_then, if◌then◌else◌}
use Rattle.std.proofs.lemmas.Option.{same_Some}
use Rattle.arm_value.specs.Json.{Json}
use Rattle.arm_value.specs.Kinds.{is_true}
use Rattle.reading.specs.Reading.{pure, read, continued}
use Rattle.reading.specs.World.{value_in}
use Rattle.reading.proofs.Parts.{value_in-continued}
use Rattle.template_tree.specs.Tree.{TemplateTree, template, ResourceTree, resource, BodyTree, body_members}
use Rattle.template_tree.specs.Tree.{deployment, Trees, no_resources, a_resource}
use Rattle.deploy_cells.specs.Cells.{Step, step, Position, Cell, count, included, World, copies}
use Rattle.deploy_cells.specs.Guarded.{Reads}
use Rattle.plan_cells.specs.Resources.{tree_count, trees_count}
use Rattle.plan_cells.specs.Children.{Has}
use Rattle.plan_cells.specs.Tasks as tasks
use Rattle.plan_cells.specs.Tasks.{Task, enter, leave, put, where_included, instance_tasks, instances_tasks}
use Rattle.plan_cells.specs.Tasks.{all_instances, template_tasks, trees_tasks, tree_tasks, body_tasks}
use Rattle.plan_cells.proofs.ListLemmas.{has_joined}
use Rattle.history_starts.proofs.Listed.{both_of, scope_list}

-- the first ends with the second
abbrev Ends : Position → Position → Type 0
Ends a b = (front : Position) × (a ≡ front ++ b)

first_same : (a b : Step) (p q : Position) → (a ∷ p) ≡ (b ∷ q) → a ≡ b
first_same a b p q e = cc

rest_same : (a b : Step) (p q : Position) → (a ∷ p) ≡ (b ∷ q) → p ≡ q
rest_same a b p q e = cc

never_longer : (p l : Position) (b : Step) → p ≡ l ++ (b ∷ p) → ⊥
never_longer p l b e =
    let n : length p ≡ length (l ++ (b ∷ p)) = ap length e in
    let m : length (l ++ (b ∷ p)) ≡ length l + suc (length p) = length-append l (b ∷ p) in omega (arith, n, m)

same_step_at : (l m : Position) (a b : Step) (p : Position) → l ++ (a ∷ p) ≡ m ++ (b ∷ p) → a ≡ b
same_step_at [] [] a b p e = first_same a b p p e
same_step_at [] (c ∷ m) a b p e = absurd (never_longer p m b (rest_same a c p (m ++ (b ∷ p)) e))
same_step_at (c ∷ l) [] a b p e = absurd (never_longer p l a (sym (rest_same c b (l ++ (a ∷ p)) p e)))
same_step_at (c ∷ l) (k ∷ m) a b p e = same_step_at l m a b p (rest_same c k (l ++ (a ∷ p)) (m ++ (b ∷ p)) e)

ends_same : (x : Position) (a b : Step) (p : Position) → Ends x (a ∷ p) → Ends x (b ∷ p) → a ≡ b
ends_same x a b p f g = same_step_at f.0 g.0 a b p (sym f.1 ∙ g.1)

ends_further : (x : Position) (a : Step) (p : Position) → Ends x (a ∷ p) → Ends x p
ends_further x a p f = (f.0 ++ a ∷ [], f.1 ∙ sym (append_assoc f.0 (a ∷ []) p))

ends_itself : (x p : Position) → x ≡ p → Ends x p
ends_itself x p e = ([], e)

ends_apart : (x : Position) (a : Step) (p : Position) → Ends x (a ∷ p) → x ≡ p → ⊥
ends_apart x a p f e = never_longer p f.0 a (sym e ∙ f.1)

copy_same : (r i j : ℕ) → step r i ≡ step r j → i ≡ j
copy_same r i j e = ap (λ (s : Step). s.copy) e

number_same : (r k i j : ℕ) → step r i ≡ step k j → r ≡ k
number_same r k i j e = ap (λ (s : Step). s.resource) e

-- a task at a position: it enters no scope, and leaves the scope or puts the instance at that position alone
pub record IsPlaced (k : Task) (z : Position) : Type 0 where
  pub no_enter : (p : Position) → enter p ≡ k → ⊥
  pub by_leave : (p : Position) → leave p ≡ k → z ≡ p
  pub by_put : (p : Position) (s : Step) → put p s ≡ k → z ≡ s ∷ p

module _ (w : World) (k : Task) (z : Position) (placed : IsPlaced k z) where
  abbrev Mine : List Task → Type 0
  Mine ts = Has k ts

  -- it is listed at most once
  abbrev Once : List Task → Type 0
  Once [] = Unit {0}
  Once (t ∷ ts) = ((t ≡ k) → Mine ts → ⊥) × Once ts

  once_joined : (xs ys : List Task) → Once xs → Once ys → (Mine xs → Mine ys → ⊥) → Once (xs ++ ys)
  once_joined [] ys a b n = b
  once_joined (t ∷ xs) ys a b n = (
    (λ e h. elim (has_joined k xs ys h) [ inl i ↦ a.0 e i | inr i ↦ n (inl e) i ]),
    once_joined xs ys a.1 b (λ i j. n (inr i) j),
  )

  -- a list of tasks in which it is at most once, and only where this holds
  record Lone (ts : List Task) (P : Type 0) : Type 0 where
    once : Once ts
    only : Mine ts → P

  lone_none : (P : Type 0) → Lone [] P
  lone_none P = record { once = tt; only = λ h. absurd h }

  lone_more : (ts : List Task) (P Q : Type 0) → Lone ts P → (P → Q) → Lone ts Q
  lone_more ts P Q l f = record { once = l.once; only = λ h. f (l.only h) }

  lone_both : (xs ys ts : List Task) (P Q R : Type 0) → ts ≡ xs ++ ys → Lone xs P → Lone ys Q → (P → Q → ⊥)
      → (P → R) → (Q → R) → Lone ts R
  lone_both xs ys ts P Q R e a b n f g =
      subst (λ (l : List Task). Lone l R) (sym e)
      (record {
        once = once_joined xs ys a.once b.once (λ i j. n (a.only i) (b.only j));
        only = λ h. elim (has_joined k xs ys h) [ inl i ↦ f (a.only i) | inr i ↦ g (b.only i) ];
      })

  -- what is read after a cell
  by_cell : (c : Cell) (f : Json → Reads (List Task)) (ts : List Task) (o : Option Json) → w c ≡ o
      → option_and_then (λ v. value_in w (f v)) o ≡ Some ts
      → (v : Json) × ((w c ≡ Some v) × (value_in w (f v) ≡ Some ts))
  by_cell c f ts None e g = let h : None ≡ Some ts = g in absurd (cc)
  by_cell c f ts (Some v) e g = (v, (e, g))

  after_cell : (c : Cell) (f : Json → Reads (List Task)) (ts : List Task) → value_in w (continued (read c) f) ≡ Some ts
      → (v : Json) × ((w c ≡ Some v) × (value_in w (f v) ≡ Some ts))
  unfolding value_in
  after_cell c f ts e =
      by_cell c f ts (w c) refl (sym (value_in-continued Cell Json Json (List Task) w (read c) f) ∙ e)

  nothing_read : (ts : List Task) → value_in w (pure []) ≡ Some ts → [] ≡ ts
  unfolding value_in
  nothing_read ts e = same_Some [] ts e

  -- ---- instances

  abbrev At : Position → ℕ → ℕ → Type 0
  At p r j = Ends z (step r j ∷ p)

  abbrev Each : Position → ℕ → (Step → Reads (List Task)) → Type 0
  Each p r f = (j : ℕ) (us : List Task) → value_in w (f (step r j)) ≡ Some us → Lone us (At p r j)

  by_truth : (p : Position) (r j : ℕ) (f : Step → Reads (List Task)) → Each p r f → (ts : List Task) (b : Bool)
      → value_in w (if b then f (step r j) else pure []) ≡ Some ts → Lone ts (At p r j)
  by_truth p r j f each ts true e = each j ts e
  by_truth p r j f each ts false e =
      subst (λ (l : List Task). Lone l (At p r j)) (nothing_read ts e) (lone_none (At p r j))

  of_instance : (p : Position) (r j : ℕ) (f : Step → Reads (List Task)) → Each p r f → (ts : List Task)
      → value_in w (instance_tasks p (step r j) f) ≡ Some ts → Lone ts (At p r j)
  of_instance p r j f each ts e =
      let v = after_cell (included p (step r j)) (λ v. where_included v (f (step r j))) ts e in
      by_truth p r j f each ts (is_true (Some v.0)) v.1.1

  abbrev From : Position → ℕ → ℕ → Type 0
  From p r i = (j : ℕ) × ((i ≤ j) × At p r j)

  of_instances : (p : Position) (r : ℕ) (f : Step → Reads (List Task)) → Each p r f → (n i : ℕ) (ts : List Task)
      → value_in w (instances_tasks p r f i n) ≡ Some ts → Lone ts (From p r i)
  of_instances p r f each zero i ts e =
      subst (λ (l : List Task). Lone l (From p r i)) (nothing_read ts e) (lone_none (From p r i))
  of_instances p r f each (suc n) i ts e =
      let b = both_of w (instance_tasks p (step r i) f) (instances_tasks p r f (suc i) n) ts e in
      lone_both b.one b.two ts (At p r i) (From p r (suc i)) (From p r i) b.is
      (of_instance p r i f each b.one b.one_read)
      (of_instances p r f each n (suc i) b.two b.two_read)
      (λ a c. let m : i ≡ c.0 = copy_same r i c.0 (ends_same z (step r i) (step r c.0) p a c.1.1) in
      let l : suc i ≤ c.0 = c.1.0 in omega (arith, m, l))
      (λ a. (i, (omega arith, a)))
      (λ c. let l : suc i ≤ c.0 = c.1.0 in (c.0, (omega (arith, l), c.1.1)))

  -- an instance of the resource
  abbrev OfOne : Position → ℕ → Type 0
  OfOne p r = (j : ℕ) × At p r j

  of_all : (p : Position) (r : ℕ) (f : Step → Reads (List Task)) → Each p r f → (ts : List Task)
      → value_in w (all_instances p r f) ≡ Some ts → Lone ts (OfOne p r)
  of_all p r f each ts e =
      let v = after_cell (count p r) (λ u. instances_tasks p r f 0 (copies (Some u))) ts e in
      lone_more ts (From p r 0) (OfOne p r) (of_instances p r f each (copies (Some v.0)) 0 ts v.1.1) (λ h. (h.0, h.1.1))

  unless_old : (p : Position) (r : ℕ) (f : Step → Reads (List Task)) → Each p r f → (b : Bool) (ts : List Task)
      → value_in w (if b then pure [] else all_instances p r f) ≡ Some ts → Lone ts (OfOne p r)
  unless_old p r f each true ts e =
      subst (λ (l : List Task). Lone l (OfOne p r)) (nothing_read ts e) (lone_none (OfOne p r))
  unless_old p r f each false ts e = of_all p r f each ts e

  -- ---- resources from number r on

  abbrev Among : Position → ℕ → ℕ → Type 0
  Among p r n = (i : ℕ) × ((r ≤ i) × ((i < r + n) × OfOne p i))

  apart : (p : Position) (i m : ℕ) → (i ≡ m → ⊥) → OfOne p i → OfOne p m → ⊥
  apart p i m n a b =
      n (number_same i m a.0 b.0 (ends_same z (step i a.0) (step m b.0) p a.1 b.1))

  -- an instance of a scope
  abbrev Inside : Position → Type 0
  Inside p = (st : Step) × Ends z (st ∷ p)

  read_one : (p : Position) (st : Step) (ts : List Task) → value_in w (pure (put p st ∷ [])) ≡ Some ts
      → put p st ∷ [] ≡ ts
  unfolding value_in
  read_one p st ts e = same_Some (put p st ∷ []) ts e

  lone_put : (p : Position) (st : Step) → Lone (put p st ∷ []) (Ends z (st ∷ p))
  lone_put p st = record {
    once = (λ e h. absurd h, tt);
    only = λ h. elim h [ inl e ↦ ends_itself z (st ∷ p) (placed.by_put p st e) | inr i ↦ absurd i ];
  }

  -- a scope with its entry and its leave
  with_ends : (p : Position) (us ts : List Task) → ts ≡ enter p ∷ (us ++ leave p ∷ []) → Lone us (Inside p)
      → Lone ts (Ends z p)
  with_ends p us ts e l =
      subst (λ (y : List Task). Lone y (Ends z p)) (sym e)
      (record {
        once = (
          (λ f h. placed.no_enter p f),
          once_joined us (leave p ∷ []) l.once ((λ f h. absurd h), tt)
              (λ i j. let a = l.only i in elim j [
                | inl f ↦ ends_apart z a.0 p a.1 (placed.by_leave p f)
                | inr m ↦ m
              ]),
        );
        only = λ h. elim h [
          | inl f ↦ absurd (placed.no_enter p f)
          | inr i ↦ (elim (has_joined k us (leave p ∷ []) i) [
            | inl m ↦ (let a = l.only m in ends_further z a.0 p a.1)
            | inr m ↦ (elim m [ inl f ↦ ends_itself z p (placed.by_leave p f) | inr n ↦ absurd n ])
          ])
        ];
      })

  mutual
    of_template : (t : TemplateTree) (p : Position) (ts : List Task) → value_in w (template_tasks p t) ≡ Some ts
        → Lone ts (Ends z p)
    of_template (template h rs) p ts e =
        let l = scope_list w p (template h rs) ts e in
        with_ends p l.inside ts l.is
        (lone_more l.inside (Among p 0 (trees_count rs)) (Inside p) (of_trees rs p 0 l.inside l.is_read)
        (λ a. (step a.0 a.1.1.1.0, a.1.1.1.1)))

    of_trees : (xs : Trees) (p : Position) (r : ℕ) (ts : List Task) → value_in w (trees_tasks p r xs) ≡ Some ts
        → Lone ts (Among p r (trees_count xs))
    of_trees no_resources p r ts e =
        subst (λ (l : List Task). Lone l (Among p r 0)) (nothing_read ts e) (lone_none (Among p r 0))
    of_trees (a_resource t xs) p r ts e =
        let b = both_of w (tree_tasks p r t) (trees_tasks p (r + tree_count t) xs) ts e in
        lone_both b.one b.two ts (Among p r (tree_count t)) (Among p (r + tree_count t) (trees_count xs))
        (Among p r (tree_count t + trees_count xs)) b.is
        (of_tree t p r b.one b.one_read) (of_trees xs p (r + tree_count t) b.two b.two_read)
        (λ a c. let m : a.0 < r + tree_count t = a.1.1.0 in let l : r + tree_count t ≤ c.0 = c.1.0 in
        apart p a.0 c.0 (λ i. omega (arith, m, l, i)) a.1.1.1 c.1.1.1)
        (λ a. let m : a.0 < r + tree_count t = a.1.1.0 in (a.0, (a.1.0, (omega (arith, m), a.1.1.1))))
        (λ c. let m : c.0 < (r + tree_count t) + trees_count xs = c.1.1.0 in let l : r + tree_count t ≤ c.0 = c.1.0 in
        (c.0, (omega (arith, l), (omega (arith, m), c.1.1.1))))

    of_tree : (t : ResourceTree) (p : Position) (r : ℕ) (ts : List Task) → value_in w (tree_tasks p r t) ≡ Some ts
        → Lone ts (Among p r (tree_count t))
    of_tree (resource dc b xs) p r ts e =
        let y = both_of w (tasks.unless_existing dc (all_instances p r (λ st. body_tasks p st b)))
        (trees_tasks p (suc r) xs) ts e in
        lone_both y.one y.two ts (OfOne p r) (Among p (suc r) (trees_count xs)) (Among p r (suc (trees_count xs))) y.is
        (unless_old p r (λ st. body_tasks p st b) (λ j us g. of_body b p (step r j) us g) dc.existing y.one y.one_read)
        (of_trees xs p (suc r) y.two y.two_read)
        (λ a c. let l : suc r ≤ c.0 = c.1.0 in apart p r c.0 (λ i. omega (arith, l, i)) a c.1.1.1)
        (λ a. (r, (omega arith, (omega arith, a))))
        (λ c. let m : c.0 < suc r + trees_count xs = c.1.1.0 in let l : suc r ≤ c.0 = c.1.0 in
        (c.0, (omega (arith, l), (omega (arith, m), c.1.1.1))))

    of_body : (b : BodyTree) (p : Position) (st : Step) (ts : List Task) → value_in w (body_tasks p st b) ≡ Some ts
        → Lone ts (Ends z (st ∷ p))
    of_body (body_members ms) p st ts e =
        subst (λ (l : List Task). Lone l (Ends z (st ∷ p))) (read_one p st ts e) (lone_put p st)
    of_body (deployment sc ps t) p st ts e = of_template t (st ∷ p) ts e

  -- ---- numbers

  has_at : (ts : List Task) (u : ℕ) → slice_get ts u ≡ Some k → Mine ts
  has_at [] u e = let f : None ≡ Some k = e in absurd (cc)
  has_at (t ∷ ts) zero e = inl (same_Some t k e)
  has_at (t ∷ ts) (suc u) e = inr (has_at ts u e)

  pub one_number : (ts : List Task) → Once ts → (u v : ℕ) → slice_get ts u ≡ Some k
      → slice_get ts v ≡ Some k → u ≡ v
  one_number [] o u v e f = let g : None ≡ Some k = e in absurd (cc)
  one_number (t ∷ ts) o zero zero e f = refl
  one_number (t ∷ ts) o zero (suc v) e f = absurd (o.0 (same_Some t k e) (has_at ts v f))
  one_number (t ∷ ts) o (suc u) zero e f = absurd (o.0 (same_Some t k f) (has_at ts u e))
  one_number (t ∷ ts) o (suc u) (suc v) e f = ap suc (one_number ts o.1 u v e f)

  -- it is none of the deletes
  only_deletes : (ds : List Task) → ((t : Task) → Has t ds → t ≡ k → ⊥) → Once ds × (Mine ds → ⊥)
  only_deletes [] n = (tt, λ h. absurd h)
  only_deletes (t ∷ ds) n =
      let r = only_deletes ds (λ u h. n u (inr h)) in
      (((λ e h. n t (inl refl) e), r.0), λ h. elim h [ inl e ↦ n t (inl refl) e | inr i ↦ r.1 i ])

  pub listed_once : (t : TemplateTree) (ts ds all : List Task) → value_in w (template_tasks [] t) ≡ Some ts
      → ((u : Task) → Has u ds → u ≡ k → ⊥) → all ≡ ts ++ ds → (u v : ℕ) → slice_get all u ≡ Some k
      → slice_get all v ≡ Some k → u ≡ v
  listed_once t ts ds all e n is u v a b =
      let l = of_template t [] ts e in
      let r = only_deletes ds n in
      one_number (ts ++ ds) (once_joined ts ds l.once r.0 (λ i j. r.1 j)) u v
      (ap (λ (z : List Task). slice_get z u) (sym is) ∙ a) (ap (λ (z : List Task). slice_get z v) (sym is) ∙ b)
