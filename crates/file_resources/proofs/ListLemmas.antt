-- Resources that are built one after another.
use Rattle.std.proofs.Common.{◌≡◌, ◌≢◌, ◌≤◌, ◌<◌, ◌+◌, ℕ, zero, suc, true, List, [], ◌∷◌, ◌++◌, length}
use Rattle.std.proofs.Common.{drop, Option, Some, None, refl, sym, ap, ◌∙◌, subst, arith}
use Rattle.std.proofs.lemmas.List.{append-nil, append_assoc, get_or-map, get_or-set_other, length-set}
use Rattle.std.specs.Prelude.{is_some, option_and_then, option_map, slice_get, slice_index_or, slice_set}
use Rattle.foundation.proofs.Lists.{got_next, nothing_left}
use Rattle.foundation.proofs.Options.{same_some}
use Rattle.arm_value.specs.declared.value.Value.{Value}
use Rattle.template_parts.specs.declared.mode.Form.{Form}
use Rattle.template_parts.specs.declared.mode.Form.TheVariants.{One, Two}
use Rattle.template_tree.specs.Tree.{ResourceTree}
use Rattle.template_tree.specs.View.{template_tree}
use Rattle.template_tree.specs.declared.resource.Template.{Template}
use Rattle.bicep_declared.specs.Declarations.{DeclaredTree}
use Rattle.bicep_declared.specs.Declarations as d
use Rattle.bicep_meaning.specs.Declared.{body_of}
use Rattle.bicep_meaning.specs.Files.{SourceFile, declaration}
use Rattle.bicep_meaning.specs.Instances.{put_by}
use Rattle.source_worlds.specs.Numbers.{is_put, is_resource, passing, in_template}
use Rattle.source_worlds.proofs.ListLemmas.{NotIn, AllDiffer}
use Rattle.source_worlds.proofs.NumberLemmas.{template_differ}
use Rattle.emitted_modules.specs.Seen.{Shape}
use Rattle.file_resources.specs.Built.{Templates, templates_of, template_of, AreEach, HasMetadata, HaveMetadata}
use Rattle.file_resources.specs.Built.{IsBuilt, AreBuilt}
use Rattle.file_resources.specs.Fits.{IsResourceBy}
use Rattle.file_resources.proofs.EachLemmas.{EachIs, each_at, passing_each, by_name_each}

-- ---- templates in their places

module _ (ts : List (Option Template)) (n : ℕ) (l : n < length ts) where
  pub template_is : (t : Option Template) → t ≡ slice_index_or ts n None
      → option_map template_tree t ≡ template_of (templates_of ts) n
  template_is t e =
      ap (option_map template_tree) e ∙ sym (get_or-map (option_map template_tree) ts n None None l)

  pub given_is : (t : Option Template) → t ≡ slice_index_or ts n None
      → is_some (template_of (templates_of ts) n) ≡ is_some t
  given_is t e = sym (ap is_some (template_is t e)) ∙ is_there t
    where
      is_there : (t : Option Template) → is_some (option_map template_tree t) ≡ is_some t
      is_there None = refl
      is_there (Some u) = refl

-- the templates of other numbers stay
pub others_stay : (xs ys : List (Option Template)) (n m : ℕ) (v : Option Template) → ys ≡ slice_set xs n v → m ≢ n
    → slice_index_or ys m None ≡ slice_index_or xs m None
others_stay xs ys n m v e other = ap (λ zs. slice_index_or zs m None) e ∙ get_or-set_other xs n m v None other

pub size_stays : (xs ys : List (Option Template)) (n : ℕ) (v : Option Template) → ys ≡ slice_set xs n v
    → length ys ≡ length xs
size_stays xs ys n v e = ap length e ∙ length-set xs n v

-- ---- numbers of resources

module _ (f : SourceFile) where
  put_is : (n : ℕ) (o : Option DeclaredTree) → is_some (put_by f n o) ≡ true → IsResourceBy o
  put_is n None h = absurd cc
  put_is n (Some (d.parameter at t)) h = absurd cc
  put_is n (Some (d.parameter_with at t e)) h = absurd cc
  put_is n (Some (d.variable at v)) h = absurd cc
  put_is n (Some (d.a_resource at q existing b)) h = tt
  put_is n (Some (d.a_module at b)) h = tt

  resource_is : (o : Option DeclaredTree) → is_some (option_and_then body_of o) ≡ true → IsResourceBy o
  resource_is None h = absurd cc
  resource_is (Some (d.parameter at t)) h = absurd cc
  resource_is (Some (d.parameter_with at t e)) h = absurd cc
  resource_is (Some (d.variable at v)) h = absurd cc
  resource_is (Some (d.a_resource at q existing b)) h = tt
  resource_is (Some (d.a_module at b)) h = tt

  template_each : (z : Form) → EachIs (λ n. IsResourceBy (declaration f n)) (in_template z f)
  template_each One =
      passing_each (λ n. IsResourceBy (declaration f n)) (is_put f) (λ n e. put_is n (declaration f n) e) 0
      (length f.declared.declarations)
  template_each Two =
      by_name_each (λ n. IsResourceBy (declaration f n)) f (passing (is_resource f) 0 (length f.declared.declarations))
      (passing_each (λ n. IsResourceBy (declaration f n)) (is_resource f) (λ n e. resource_is (declaration f n) e) 0
      (length f.declared.declarations))

  -- each number of the template is that of a resource
  pub resource_at : (z : Form) (ns : List ℕ) (k n : ℕ) → ns ≡ in_template z f → slice_get ns k ≡ Some n
      → IsResourceBy (declaration f n)
  resource_at z ns k n e h =
      each_at (λ n. IsResourceBy (declaration f n)) (in_template z f) k n (template_each z)
      (subst (λ xs. slice_get xs k ≡ Some n) e h)

within : (ds : List DeclaredTree) (n : ℕ) → IsResourceBy (slice_get ds n) → n < length ds
within [] zero h = absurd h
within [] (suc n) h = absurd h
within (x ∷ xs) zero h = omega arith
within (x ∷ xs) (suc n) h = let l = within xs n h in omega (arith, l)

-- a number of a resource is below the number of declarations
pub is_below : (f : SourceFile) (n : ℕ) → IsResourceBy (declaration f n) → n < length f.declared.declarations
is_below f n h = within f.declared.declarations n h

-- ---- numbers that differ

not_at : (x n : ℕ) (xs : List ℕ) (k : ℕ) → NotIn x xs → slice_get xs k ≡ Some n → n ≢ x
not_at x n [] zero d h e = absurd cc
not_at x n [] (suc k) d h e = absurd cc
not_at x n (y ∷ ys) zero d h e = d.0 (sym (same_some h ∙ e))
not_at x n (y ∷ ys) (suc k) d h e = not_at x n ys k d.1 h e

later_differs : (xs : List ℕ) (i k n m : ℕ) → AllDiffer xs → i < k → slice_get xs i ≡ Some n → slice_get xs k ≡ Some m
    → m ≢ n
later_differs [] zero k n m d l h g = absurd cc
later_differs [] (suc i) k n m d l h g = absurd cc
later_differs (x ∷ xs) zero zero n m d l h g = absurd (omega (arith, l))
later_differs (x ∷ xs) zero (suc k) n m d l h g =
    subst (λ y. m ≢ y) (same_some h) (not_at x m xs k d.0 g)
later_differs (x ∷ xs) (suc i) zero n m d l h g = absurd (omega (arith, l))
later_differs (x ∷ xs) (suc i) (suc k) n m d l h g = later_differs xs i k n m d.1 (omega (arith, l)) h g

-- numbers of a template that are in two places differ
pub differ : (z : Form) (f : SourceFile) (ns : List ℕ) (i k n m : ℕ) → ns ≡ in_template z f → i < k
    → slice_get ns i ≡ Some n → slice_get ns k ≡ Some m → m ≢ n
differ z f ns i k n m e l h g =
    later_differs ns i k n m (subst AllDiffer (sym e) (template_differ z f)) l h g

-- ---- resources

module _ (R : ℕ → ResourceTree → Type 0) (ns : List ℕ) where
  -- what is built so far, with the resources of the numbers that are left, is all
  abbrev pub AreBegun : ℕ → List ResourceTree → Type 0
  AreBegun i rs = (rest : List ResourceTree) → AreEach R (drop i ns) rest → AreEach R ns (rs ++ rest)

  pub begin : (rs : List ResourceTree) → rs ≡ [] → AreBegun 0 rs
  begin rs e rest h = subst (λ xs. AreEach R ns (xs ++ rest)) (sym e) h

  -- one more resource is built
  pub grown : (i n : ℕ) (rs more : List ResourceTree) (r : ResourceTree) → slice_get ns i ≡ Some n → R n r
      → more ≡ rs ++ r ∷ [] → AreBegun i rs → AreBegun (i + 1) more
  grown i n rs more r at is m begun rest h =
      subst (AreEach R ns) (sym (ap (λ xs. xs ++ rest) m ∙ append_assoc rs (r ∷ []) rest))
      (begun (r ∷ rest)
      (subst (λ xs. AreEach R xs (r ∷ rest)) (sym (got_next ns i n at))
      (is, subst (λ k. AreEach R (drop k ns) rest) (next i) h)))
    where
      next : (i : ℕ) → i + 1 ≡ suc i
      next i = omega arith

  pub all_built : (i : ℕ) (rs : List ResourceTree) → length ns ≤ i → AreBegun i rs → AreEach R ns rs
  all_built i rs l begun =
      subst (AreEach R ns) (append-nil rs)
      (begun [] (subst (λ xs. AreEach R xs []) (sym (nothing_left ns i l)) tt))

-- ---- resources with metadata

module _ (z : Form) (s : Shape) (ms : List (Option Value)) (us : Templates) where
  -- the resource of a number, with its metadata
  abbrev pub IsNoted : ℕ → ResourceTree → Type 0
  IsNoted n r = IsBuilt z s n (template_of us n) r × HasMetadata ms n r

  pub are_built : (ns : List ℕ) (rs : List ResourceTree) → AreEach IsNoted ns rs → AreBuilt z s us ns rs
  are_built [] [] h = tt
  are_built [] (r ∷ rs) h = absurd h
  are_built (n ∷ ns) [] h = absurd h
  are_built (n ∷ ns) (r ∷ rs) h = (h.0.0, are_built ns rs h.1)

  pub have_metadata : (ns : List ℕ) (rs : List ResourceTree) → AreEach IsNoted ns rs → HaveMetadata ms ns rs
  have_metadata [] [] h = tt
  have_metadata [] (r ∷ rs) h = absurd h
  have_metadata (n ∷ ns) [] h = absurd h
  have_metadata (n ∷ ns) (r ∷ rs) h = (h.0.1, have_metadata ns rs h.1)
