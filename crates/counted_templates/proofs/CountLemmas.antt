-- The lists of a template are as long as the parts of its file are many.
use Rattle.std.proofs.Common.{◌≡◌, ◌≤◌, ◌+◌, ℕ, zero, suc, Bool, true, false, List, [], ◌∷◌, length, Option, Some, None}
use Rattle.std.proofs.Common.{Ordering, Less, Equal, Greater, nat_lt, refl, sym, ap, ◌∙◌, arith, true≢false}
use Rattle.std.specs.Prelude.{is_some, not, option_and_then, if◌then◌else◌}
use Rattle.std.specs.Ordering.{match_ordering}
use Rattle.foundation.proofs.Comparisons.{le_of_false}
use Rattle.arm_value.specs.Json.{key_cmp}
use Rattle.template_parts.specs.declared.limit.Which.{Which}
use Rattle.template_parts.specs.declared.limit.Which.TheVariants as which
use Rattle.template_parts.specs.declared.mode.Form.{Form}
use Rattle.template_parts.specs.declared.mode.Form.TheVariants.{One, Two}
use Rattle.template_parts.specs.declared.parameter.Parameter.{Parameter}
use Rattle.template_tree.specs.Tree.{ResourceTree, resource, no_resources, a_resource, trees}
use Rattle.template_tree.specs.View.{template_tree}
use Rattle.template_tree.specs.declared.resource.Template.{Template}
use Rattle.plan_cells.specs.Resources.{listed_trees}
use Rattle.bicep_declared.specs.Declarations.{DeclaredTree}
use Rattle.bicep_declared.specs.Declarations as d
use Rattle.bicep_meaning.specs.Files.{SourceFile, declaration, symbol_kind}
use Rattle.bicep_meaning.specs.Declared.{body_of}
use Rattle.bicep_meaning.specs.Instances.{is_parameter, put_by, variable_by}
use Rattle.source_worlds.specs.Numbers.{passing, is_put, is_resource, name_of, inserted, by_name, in_template}
use Rattle.file_counts.specs.Counts.{count, beyond, first_beyond, is_parameter_at, is_entry_by, is_entry_at}
use Rattle.file_counts.specs.Counts as counts
use Rattle.existing_templates.specs.Built.{Templates, template_of, AreBuilt}
use Rattle.existing_templates.specs.Found.{one_if, declared_before}
use Rattle.existing_templates.specs.Lists.{parameter_at, entry_at, parameter_count, variable_count}
use Rattle.existing_templates.specs.Seen.{Shape, file_in}
use Rattle.existing_templates.specs.Templates.{IsTemplateOf}
use Rattle.existing_templates.proofs.ListedLemmas.{childless_by, existing_by}
use Rattle.counted_templates.specs.Counted.{put_count, HasFewParts}

-- ---- what declares something is counted by a test

size_if : (b : Bool) (n : ℕ) (ns : List ℕ) → length (if b then n ∷ ns else ns) ≡ one_if b + length ns
size_if true n ns = one_first (length ns)
  where
    one_first : (n : ℕ) → suc n ≡ 1 + n
    one_first n = omega arith
size_if false n ns = none_first (length ns)
  where
    none_first : (n : ℕ) → n ≡ 0 + n
    none_first n = omega arith

-- one number more at the end
passing_more : (test : ℕ → Bool) (k j : ℕ)
    → length (passing test j (suc k)) ≡ length (passing test j k) + one_if (test (j + k))
passing_more test zero j =
    let a = size_if (test j) j [] in
    let b : one_if (test (j + 0)) ≡ one_if (test j) = ap (λ n. one_if (test n)) (plain j) in
    omega (arith, a, b)
  where
    plain : (j : ℕ) → j + 0 ≡ j
    plain j = omega arith
passing_more test (suc k) j =
    let a = size_if (test j) j (passing test (suc j) (suc k)) in
    let b = size_if (test j) j (passing test (suc j) k) in
    let c = passing_more test k (suc j) in
    let e : one_if (test (suc j + k)) ≡ one_if (test (j + suc k)) = ap (λ n. one_if (test n)) (moved j k) in
    omega (arith, a, b, c, e)
  where
    moved : (j k : ℕ) → suc j + k ≡ j + suc k
    moved j k = omega arith

module _ {B : Type 0} (by : ℕ → Option B) (test : ℕ → Bool) (same : (n : ℕ) → is_some (by n) ≡ test n) where
  counted : (k : ℕ) → declared_before by k ≡ count test k
  counted zero = refl
  counted (suc k) =
      let a = counted k in
      let b = passing_more test k 0 in
      let c : one_if (test (0 + k)) ≡ one_if (test k) = ap (λ n. one_if (test n)) (plain k) in
      let e = ap one_if (same k) in
      omega (arith, a, b, c, e)
    where
      plain : (k : ℕ) → 0 + k ≡ k
      plain k = omega arith

-- ---- parameters and variables

some_if : (b : Bool) (n : ℕ) → is_some (if b then Some n else None) ≡ b
some_if true n = refl
some_if false n = refl

module _ (s : Shape) where
  parameters_counted : parameter_count s ≡ counts.parameters (file_in s)
  parameters_counted =
      counted (parameter_at s) (is_parameter_at (file_in s).symbols)
      (λ n. some_if (is_parameter (symbol_kind (file_in s) n)) n) (length (file_in s).symbols)

  entry_by : (n : ℕ) (o : Option DeclaredTree) → is_some (variable_by (file_in s) n o) ≡ is_entry_by (file_in s) n o
  entry_by n None = refl
  entry_by n (Some (d.parameter at t)) = refl
  entry_by n (Some (d.parameter_with at t e)) = refl
  entry_by n (Some (d.a_resource at q existing b)) = refl
  entry_by n (Some (d.a_module at b)) = refl
  entry_by n (Some (d.variable at v)) = by_test ((file_in s).has_entry n)
    where
      by_test : (b : Bool) → is_some (if b then Some v else None) ≡ b
      by_test true = refl
      by_test false = refl

  variables_counted : variable_count s ≡ counts.variables (file_in s)
  variables_counted =
      counted (entry_at s) (is_entry_at (file_in s) (file_in s).declared.declarations)
      (λ n. entry_by n (declaration (file_in s) n)) (length (file_in s).declared.declarations)

-- ---- resources

module _ (f : SourceFile) where
  -- how many of these numbers are those of what is put
  abbrev puts : List ℕ → ℕ
  puts [] = 0
  puts (n ∷ ns) = one_if (is_put f n) + puts ns

  placed_puts : (o : Ordering) (n m : ℕ) (ms ns : List ℕ) → puts ns ≡ one_if (is_put f n) + puts ms
      → puts (match_ordering o (n ∷ m ∷ ms) (n ∷ m ∷ ms) (m ∷ ns)) ≡ one_if (is_put f n) + puts (m ∷ ms)
  placed_puts Less n m ms ns h = refl
  placed_puts Equal n m ms ns h = refl
  placed_puts Greater n m ms ns h = omega (arith, h)

  inserted_puts : (n : ℕ) (ms : List ℕ) → puts (inserted f n ms) ≡ one_if (is_put f n) + puts ms
  inserted_puts n [] = refl
  inserted_puts n (m ∷ ms) =
      placed_puts (key_cmp (name_of f n) (name_of f m)) n m ms (inserted f n ms) (inserted_puts n ms)

  by_name_puts : (ns : List ℕ) → puts (by_name f ns) ≡ puts ns
  by_name_puts [] = refl
  by_name_puts (n ∷ ns) = inserted_puts n (by_name f ns) ∙ ap (λ k. one_if (is_put f n) + k) (by_name_puts ns)

  -- those that pass a test which all that is put passes are put as often as all
  passing_puts : (test : ℕ → Bool) → ((n : ℕ) → is_put f n ≡ true → test n ≡ true) → (j k : ℕ)
      → puts (passing test j k) ≡ length (passing (is_put f) j k)
  passing_puts test put j zero = refl
  passing_puts test put j (suc k) =
      by_tests (test j) (is_put f j) refl (λ e. put j e)
      (passing_puts test put (suc j) k) (size_if (is_put f j) j (passing (is_put f) (suc j) k))
    where
      by_tests : (a b : Bool) → is_put f j ≡ b → (b ≡ true → a ≡ true)
          → puts (passing test (suc j) k) ≡ length (passing (is_put f) (suc j) k)
          → length (if b then j ∷ passing (is_put f) (suc j) k else passing (is_put f) (suc j) k)
          ≡ one_if b + length (passing (is_put f) (suc j) k)
          → puts (if a then j ∷ passing test (suc j) k else passing test (suc j) k)
          ≡ length (if b then j ∷ passing (is_put f) (suc j) k else passing (is_put f) (suc j) k)
      by_tests true b e h r s =
          ap (λ c. one_if c + puts (passing test (suc j) k)) e ∙ ap (λ m. one_if b + m) r ∙ sym s
      by_tests false true e h r s = absurd (true≢false (sym (h refl)))
      by_tests false false e h r s = r

  resource_too : (n : ℕ) (o : Option DeclaredTree) → is_some (put_by f n o) ≡ true
      → is_some (option_and_then body_of o) ≡ true
  resource_too n None h = absurd cc
  resource_too n (Some (d.parameter at t)) h = absurd cc
  resource_too n (Some (d.parameter_with at t e)) h = absurd cc
  resource_too n (Some (d.variable at v)) h = absurd cc
  resource_too n (Some (d.a_resource at q existing b)) h = refl
  resource_too n (Some (d.a_module at b)) h = refl

  template_puts : (z : Form) → puts (in_template z f) ≡ counts.resources f
  template_puts One = passing_puts (is_put f) (λ n e. e) 0 (length f.declared.declarations)
  template_puts Two =
      by_name_puts (passing (is_resource f) 0 (length f.declared.declarations))
      ∙ passing_puts (is_resource f) (λ n e. resource_too n (declaration f n) e) 0 (length f.declared.declarations)

not_not : (b : Bool) → not (not b) ≡ b
not_not true = refl
not_not false = refl

module _ (z : Form) (s : Shape) where
  as_many : (us : Templates) (ns : List ℕ) (rs : List ResourceTree) (k : ℕ) → AreBuilt z s us ns rs
      → put_count (listed_trees None k (trees rs)) ≡ puts (file_in s) ns
  as_many us [] [] k h = refl
  as_many us [] (r ∷ rs) k h = absurd h
  as_many us (n ∷ ns) [] k h = absurd h
  as_many us (n ∷ ns) (resource x b no_resources ∷ rs) k h =
      let r = resource x b no_resources in
      let e = existing_by z s n (template_of us n) (declaration (file_in s) n) r h.0 in
      let more = put_count (listed_trees None (k + 1) (trees rs)) in
      ap (λ c. one_if (not c) + more) e ∙ ap (λ c. one_if c + more) (not_not (is_put (file_in s) n))
      ∙ ap (λ m. one_if (is_put (file_in s) n) + m) (as_many us ns rs (k + 1) h.1)
  as_many us (n ∷ ns) (resource x b (a_resource y ys) ∷ rs) k h =
      let r = resource x b (a_resource y ys) in
      let e = childless_by z s n (template_of us n) (declaration (file_in s) n) r h.0 in
      absurd cc

-- ---- limits

within : (w : Which) (limit n : ℕ) (rest : Option (Which × ℕ)) → beyond w limit n rest ≡ None
    → (n ≤ limit) × (rest ≡ None)
within w limit n rest h = by_test (nat_lt limit n) refl h
  where
    by_test : (b : Bool) → nat_lt limit n ≡ b → (if b then Some (w, n) else rest) ≡ None → (n ≤ limit) × (rest ≡ None)
    by_test true e h = absurd cc
    by_test false e h = (le_of_false limit n e, h)

module _ (f : SourceFile) (none : first_beyond f ≡ None) where
  abbrev after_outputs : Option (Which × ℕ)
  after_outputs = beyond which.Resources 800 (counts.resources f) None

  abbrev after_variables : Option (Which × ℕ)
  after_variables = beyond which.Outputs 64 (counts.outputs f) after_outputs

  abbrev after_parameters : Option (Which × ℕ)
  after_parameters = beyond which.Variables 512 (counts.variables f) after_variables

  first : (counts.parameters f ≤ 256) × (after_parameters ≡ None)
  first = within which.Parameters 256 (counts.parameters f) after_parameters none

  second : (counts.variables f ≤ 512) × (after_variables ≡ None)
  second = within which.Variables 512 (counts.variables f) after_variables first.1

  third : (counts.outputs f ≤ 64) × (after_outputs ≡ None)
  third = within which.Outputs 64 (counts.outputs f) after_outputs second.1

  fourth : counts.resources f ≤ 800
  fourth = (within which.Resources 800 (counts.resources f) None third.1).0

pub has_few_parts : (z : Form) (s : Shape) (rs : List (Option Parameter)) (us : Templates) (u : Template)
    → IsTemplateOf z s rs us u → first_beyond (file_in s) ≡ None → HasFewParts (template_tree u)
has_few_parts z s rs us u made none =
    let f = file_in s in
    let h1 = (first f none).0 in
    let h2 = (second f none).0 in
    let h3 = (third f none).0 in
    let h4 = fourth f none in
    let a = made.few_parameters in
    let b = made.few_variables in
    let c = made.few_outputs in
    let p = parameters_counted s in
    let v = variables_counted s in
    let r = as_many z s us (in_template z f) u.resources 0 made.resources in
    let n = template_puts f z in
    record {
      few_parameters = omega (arith, a, p, h1);
      few_variables = omega (arith, b, v, h2);
      few_outputs = omega (arith, c, h3);
      few_resources = omega (arith, r, n, h4);
    }
