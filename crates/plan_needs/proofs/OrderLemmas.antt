-- The tags of tasks, and those for which they ask, one after another.
use Rattle.std.proofs.Common.{◌≡◌, ℕ, suc, ◌-◌, List, [], ◌∷◌, ◌++◌, map, length}
use Rattle.std.proofs.Common.{take, Option, Some, None, refl, sym, ap}
use Rattle.std.proofs.Common.{◌∙◌, ◌<◌, arith}
use Rattle.std.proofs.lemmas.List.{append-nil}
use Rattle.arm_value.specs.Json.{Json}
use Rattle.arm_ids.specs.Id.{IsKey}
use Rattle.arm_ids.specs.declared.id.ResourceId.{ResourceId}
use Rattle.template_parts.specs.declared.looping.Batches.{Batches}
use Rattle.template_parts.specs.declared.looping.Batches.TheVariants.{Parallel, Serial}
use Rattle.template_parts.specs.declared.looping.ResourceCopy.{ResourceCopy}
use Rattle.deploy_cells.specs.Cells.{Step, Position}
use Rattle.key_tags.specs.KeyCodes.{key_code, all_but_last, parent_parts}
use Rattle.plan_cells.specs.Known.{Table}
use Rattle.plan_cells.specs.Resources.{Listed}
use Rattle.plan_cells.specs.Scopes.{resource_of}
use Rattle.plan_cells.specs.Meaning.{Deployment}
use Rattle.plan_cells.specs.Tasks.{enter, leave, put, delete}
use Rattle.plan_cells.specs.Needs.{copy_of}
use Rattle.plan_tags.specs.Tags.{first_ones, by_batch, by_copy, parent_by}
use Rattle.name_tags.specs.Codes.{code}
use Rattle.name_tags.specs.TaskCodes.{instance_names, instance_asks, task_tags, task_asks}
use Rattle.plan_needs.specs.Order.{entry_code, inside_code, left_code, batch_codes, loop_codes}

module _ (d : Deployment) (number : Position → ℕ) where
  batches_are : (h : ℕ → ℕ) (p : Position) (s : Step) (b : Batches)
      → map (code number) (by_batch h p s b) ≡ batch_codes h (number p) s.resource s.copy b
  batches_are h p s Parallel = refl
  batches_are h p s (Serial size) = refl

  loops_are : (h : ℕ → ℕ) (p : Position) (s : Step) (c : Option ResourceCopy)
      → map (code number) (by_copy h p s c) ≡ loop_codes h (number p) s.resource s.copy c
  loops_are h p s None = refl
  loops_are h p s (Some c) = batches_are h p s c.batches

  middle : (h : ℕ → ℕ) (p : Position) (s : Step) (y : Listed) → resource_of d.template p s.resource ≡ Some y
      → map (code number) (by_copy h p s (copy_of d (resource_of d.template p s.resource)) ++ [])
      ≡ loop_codes h (number p) s.resource s.copy y.declaration.copy
  middle h p s y e =
      ap (map (code number)) (append-nil (by_copy h p s (copy_of d (resource_of d.template p s.resource))))
      ∙ ap (λ o. map (code number) (by_copy h p s (copy_of d o))) e
      ∙ loops_are h p s y.declaration.copy

  -- of one that ends an instance, and of one that starts it
  pub end_is : (q : Table) (p : Position) (s : Step) (y : Listed) → resource_of d.template p s.resource ≡ Some y
      → task_tags d number q (put p s)
      ≡ inside_code (number p) ∷ (loop_codes (λ n. suc n) (number p) s.resource s.copy y.declaration.copy
      ++ instance_names d number q (Some (p, s)))
  end_is q p s y e =
      ap (λ ts. inside_code (number p) ∷ (ts ++ instance_names d number q (Some (p, s)))) (middle (λ n. suc n) p s y e)

  pub start_is : (p : Position) (s : Step) (vs : List Json) (y : Listed)
      → resource_of d.template p s.resource ≡ Some y
      → task_asks d number (put p s) vs
      ≡ entry_code (number p) ∷ (loop_codes (λ n. n) (number p) s.resource s.copy y.declaration.copy
      ++ instance_asks d number (Some (p, s)) vs)
  start_is p s vs y e =
      ap (λ ts. entry_code (number p) ∷ (ts ++ instance_asks d number (Some (p, s)) vs)) (middle (λ n. n) p s y e)

  -- of those of the scopes themselves
  pub enter_inside : (q : Table) (p : Position) (s : Step)
      → task_tags d number q (enter (s ∷ p)) ≡ entry_code (number (s ∷ p)) ∷ inside_code (number p) ∷ []
  enter_inside q p s = refl

  pub enter_root : (q : Table) → task_tags d number q (enter []) ≡ entry_code (number []) ∷ []
  enter_root q = refl

  pub leave_inside : (q : Table) (p : Position) (s : Step)
      → task_tags d number q (leave (s ∷ p)) ≡ task_tags d number q (put p s)
  leave_inside q p s = refl

  pub leave_root : (q : Table) → task_tags d number q (leave []) ≡ left_code ∷ []
  leave_root q = refl

  pub asks_inside : (p : Position) (s : Step) (vs : List Json)
      → task_asks d number (enter (s ∷ p)) vs ≡ task_asks d number (put p s) vs
  asks_inside p s vs = refl

  pub asks_root : (vs : List Json) → task_asks d number (enter []) vs ≡ []
  asks_root vs = refl

  pub leave_asks_inside : (p : Position) (s : Step) (vs : List Json)
      → task_asks d number (leave (s ∷ p)) vs
      ≡ entry_code (number p) ∷ inside_code (number (s ∷ p)) ∷ entry_code (number (s ∷ p)) ∷ []
  leave_asks_inside p s vs = refl

  pub leave_asks_root : (vs : List Json)
      → task_asks d number (leave []) vs ≡ inside_code (number []) ∷ entry_code (number []) ∷ []
  leave_asks_root vs = refl

  -- of deletes
  first_is : (x : List ℕ) (xs : List (List ℕ)) → all_but_last (x ∷ xs) ≡ first_ones x xs
  first_is x [] = refl
  first_is x (y ∷ ys) =
      ap (λ n. take n (x ∷ y ∷ ys))
      (let e : length (x ∷ y ∷ ys) - 1 ≡ suc (length (y ∷ ys) - 1) = omega arith in e)
      ∙ ap (λ zs. x ∷ zs) (first_is y ys)

  parent_is : (k : ResourceId) (xs ys : List (List ℕ)) → 0 < length xs → 0 < length ys
      → map (code number) (parent_by k xs ys)
      ≡ (4 ∷ key_code (record k { types = all_but_last xs; names = all_but_last ys })) ∷ []
  parent_is k [] ys h g = absurd (omega (arith, h))
  parent_is k (x ∷ xs) [] h g = absurd (omega (arith, g))
  parent_is k (x ∷ xs) (y ∷ ys) h g =
      λ i. (4 ∷ key_code (record k {
        types = sym (first_is x xs) i;
        names = sym (first_is y ys) i;
      })) ∷ []

  pub delete_is : (q : Table) (k : ResourceId) → IsKey k
      → task_tags d number q (delete k) ≡ (4 ∷ key_code (parent_parts k)) ∷ []
  delete_is q k h =
      append-nil (map (code number) (parent_by k k.types k.names))
      ∙ (let n = h.is_id.named in let m = h.is_id.paired in
      parent_is k k.types k.names (omega (arith, m)) n)

  pub delete_asks_are : (k : ResourceId) (vs : List Json)
      → task_asks d number (delete k) vs ≡ left_code ∷ (4 ∷ key_code k) ∷ []
  delete_asks_are k vs = refl
