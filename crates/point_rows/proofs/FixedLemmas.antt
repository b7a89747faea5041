-- Readings of counts, conditions, names and lists of nested deployments alone, which tell the same at each point.
use Rattle.std.proofs.Common.{◌≡◌, ℕ, zero, suc, Bool, true, false, List, [], ◌∷◌, ◌++◌, Option, Some, None, refl, ap}
use Rattle.std.proofs.Common.{◌∙◌}
use Rattle.std.specs.Prelude.{option_map, if◌then◌else◌}
use Rattle.arm_value.specs.Json.{Json}
use Rattle.arm_ids.specs.declared.id.Place.{Place}
use Rattle.arm_ids.specs.declared.id.ResourceId.{ResourceId}
use Rattle.arm_env.specs.declared.env.Spelled.{Spelled}
use Rattle.arm_env.specs.Look.{a_key}
use Rattle.arm_env.specs.Find.{names_key, first_named}
use Rattle.reading.specs.Reading.{done, ask, pure, read, continued, onward}
use Rattle.reading.specs.Knowledge.{Known, told, by_entry}
use Rattle.template_tree.specs.Tree.{TemplateTree}
use Rattle.deploy_cells.specs.Cells.{step, Position, Cell, count, name, deployments, copies}
use Rattle.deploy_cells.specs.Guarded.{Reads}
use Rattle.deploy_cells.specs.Listing.{Sought, found, left_away, not_here, sought, listing_of}
use Rattle.plan_cells.specs.Resources.{Listed}
use Rattle.plan_cells.specs.Scopes.{template_at, visible, own_place, with_deployment}
use Rattle.plan_cells.specs.Sites.{Found, found_or, nested_numbers_at, seek, instances_spelled}
use Rattle.plan_cells.specs.Sites.{resource_spelled, all_spelled, spelled_by, first_name, concat, named_or, seek_name}
use Rattle.plan_cells.specs.Sites.{key_by, all_but_first, listed_at_scope, named_at, deployment_key}
use Rattle.point_rows.proofs.RowsNowLemmas.{is_fixed}

-- every cell that is asked is one of these
abbrev pub AsksFixed : {A : Type 0} → Reads A → Type 0
AsksFixed (done o) = Unit {0}
AsksFixed (ask c k) = (is_fixed c ≡ true) × ((v : Option Json) → AsksFixed (k v))

module _ {A B : Type 0} where
  onward_fixed : (o : Option A) (f : A → Reads B) → ((a : A) → AsksFixed (f a)) → AsksFixed (onward o f)
  onward_fixed None f h = tt
  onward_fixed (Some a) f h = h a

  pub continued_fixed : (r : Reads A) (f : A → Reads B) → AsksFixed r → ((a : A) → AsksFixed (f a))
      → AsksFixed (continued r f)
  unfolding continued
  continued_fixed (done o) f a h = onward_fixed o f h
  continued_fixed (ask c k) f a h = (a.0, λ v. continued_fixed (k v) f (a.1 v) h)

-- tables that have the same of these cells tell the same of such a reading
module _ {A : Type 0} (p q : Cell → Known Json) (same : (c : Cell) → is_fixed c ≡ true → p c ≡ q c) where
  go_on : (c : Cell) (e : Known Json) (k : Option Json → Reads A)
      → ((v : Option Json) → told p (k v) ≡ told q (k v))
      → by_entry c (λ v. told p (k v)) e ≡ by_entry c (λ v. told q (k v)) e
  go_on c e k h = λ i. by_entry c (λ v. h v i) e

  pub told_fixed : (r : Reads A) → AsksFixed r → told p r ≡ told q r
  unfolding told
  told_fixed (done o) a = refl
  told_fixed (ask c k) a =
      go_on c (p c) k (λ v. told_fixed (k v) (a.1 v)) ∙ ap (by_entry c (λ v. told q (k v))) (same c a.0)

read_fixed : (c : Cell) → is_fixed c ≡ true → AsksFixed (read c)
read_fixed c e = (e, λ v. tt)

-- ---- what is sought

by_sought : (q : Position) (rs : List ℕ) (s : Sought) (rest : Reads Found) → AsksFixed rest
    → AsksFixed (found_or q rs s rest)
by_sought q rs (found k i) rest h = tt
by_sought q rs left_away rest h = tt
by_sought q rs not_here rest h = h

pub seek_fixed : (t : TemplateTree) (test : List ℕ → Bool) (qs : List Position) → AsksFixed (seek t test qs)
seek_fixed t test [] = tt
seek_fixed t test (q ∷ qs) =
    continued_fixed (read (deployments q))
    (λ j. found_or q (nested_numbers_at t q) (sought test j) (seek t test qs))
    (read_fixed (deployments q) refl)
    (λ j. by_sought q (nested_numbers_at t q) (sought test j) (seek t test qs) (seek_fixed t test qs))

-- ---- names

instances_fixed : (place : Place) (p : Position) (r : ℕ) (kind : List ℕ) (i n : ℕ)
    → AsksFixed (instances_spelled place p r kind i n)
instances_fixed place p r kind i zero = tt
instances_fixed place p r kind i (suc n) =
    continued_fixed (read (name p (step r i)))
    (λ j. continued (done (spelled_by place kind j)) (λ x.
    continued (instances_spelled place p r kind (suc i) n) (λ xs. pure (x ∷ xs))))
    (read_fixed (name p (step r i)) refl)
    (λ j. continued_fixed (done (spelled_by place kind j))
    (λ x. continued (instances_spelled place p r kind (suc i) n) (λ xs. pure (x ∷ xs))) tt
    (λ x. continued_fixed (instances_spelled place p r kind (suc i) n) (λ xs. pure (x ∷ xs))
    (instances_fixed place p r kind (suc i) n) (λ xs. tt)))

resource_by : (place : Place) (p : Position) (r : ℕ) (x : Listed) (b : Bool)
    → AsksFixed (if b then pure [] else continued (read (count p r)) (λ v. instances_spelled place p r x.type 0
    (copies (Some v))))
resource_by place p r x true = tt
resource_by place p r x false =
    continued_fixed (read (count p r)) (λ v. instances_spelled place p r x.type 0 (copies (Some v)))
    (read_fixed (count p r) refl) (λ v. instances_fixed place p r x.type 0 (copies (Some v)))

spelled_fixed : (place : Place) (p : Position) (r : ℕ) (xs : List Listed) → AsksFixed (all_spelled place p r xs)
spelled_fixed place p r [] = tt
spelled_fixed place p r (x ∷ xs) =
    continued_fixed (resource_spelled place p r x)
    (λ ys. continued (all_spelled place p (suc r) xs) (λ zs. pure (ys ++ zs)))
    (resource_by place p r x x.declaration.existing)
    (λ ys. continued_fixed (all_spelled place p (suc r) xs) (λ zs. pure (ys ++ zs))
    (spelled_fixed place p (suc r) xs) (λ zs. tt))

by_name : (o : Option (List ℕ)) (rest : Reads (Option (List ℕ))) → AsksFixed rest → AsksFixed (named_or o rest)
by_name None rest h = h
by_name (Some n) rest h = tt

seek_name_fixed : (test : List ℕ → Bool) (qs : List Position) → AsksFixed (seek_name test qs)
seek_name_fixed test [] = tt
seek_name_fixed test (q ∷ qs) =
    continued_fixed (read (deployments q))
    (λ j. named_or (first_name test (concat (listing_of j))) (seek_name test qs))
    (read_fixed (deployments q) refl)
    (λ j. by_name (first_name test (concat (listing_of j))) (seek_name test qs) (seek_name_fixed test qs))

key_fixed : (place : Place) (t : List ℕ) (around : List Position) (ss : List Spelled) (o : Option ResourceId)
    → AsksFixed (key_by place t around ss o)
key_fixed place t around ss (Some k) = tt
key_fixed place t around ss None =
    continued_fixed (seek_name (λ n. names_key t (deployment_key place n)) around)
    (λ o. pure (option_map (λ n. a_key (deployment_key place n)) o))
    (seek_name_fixed (λ n. names_key t (deployment_key place n)) around) (λ o. tt)

pub named_fixed : (t : TemplateTree) (place : Place) (p : Position) (x : List ℕ) → AsksFixed (named_at t place p x)
named_fixed t place p x =
    continued_fixed (all_spelled place p 0 (listed_at_scope (template_at t p)))
    (λ ss. key_by place x (all_but_first (visible t p)) ss (first_named x ss))
    (spelled_fixed place p 0 (listed_at_scope (template_at t p)))
    (λ ss. key_fixed place x (all_but_first (visible t p)) ss (first_named x ss))

-- ---- places

pub place_fixed : (place : Place) (p : Position) → AsksFixed (own_place place p)
place_fixed place [] = tt
place_fixed place (s ∷ p) =
    continued_fixed (read (name p s)) (λ n. done (with_deployment place n)) (read_fixed (name p s) refl) (λ n. tt)
