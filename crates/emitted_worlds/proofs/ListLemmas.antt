-- Lists of nested deployments, and counts.
use Rattle.std.proofs.Common.{◌≡◌, ℕ, suc, pos, negsuc, nat_le, Bool, true, false, true≢false, length}
use Rattle.std.proofs.Common.{List, [], ◌∷◌}
use Rattle.std.proofs.Common.{Option, Some, None, refl, sym, ap, ◌∙◌}
use Rattle.std.specs.Prelude.{option_and_then, is_some, if◌then◌else◌}
use Rattle.foundation.proofs.Options.{same_some}
use Rattle.arm_value.specs.Json.{Json, null, bool, int, text, array, object}
use Rattle.arm_value.specs.Kinds.{is_true}
use Rattle.arm_ids.specs.declared.id.Place.{Place}
use Rattle.template_parts.specs.declared.mode.Form.{Form}
use Rattle.reading.specs.Reading.{pure, continued}
use Rattle.reading.specs.World.{value_in}
use Rattle.reading.proofs.Parts.{value_in-continued}
use Rattle.arm_eval.specs.Trees.{count_of}
use Rattle.deploy_cells.specs.Cells.{Position, Cell, World, copies}
use Rattle.deploy_cells.specs.Guarded.{Reads}
use Rattle.deploy_cells.specs.Puts.{Kind}
use Rattle.deploy_cells.specs.Listing.{Named, listing_json, resource_named, all_named, listing_value}
use Rattle.plan_cells.specs.Meaning as template
use Rattle.plan_cells.specs.Meaning.{Deployment}
use Rattle.plan_cells.specs.Resources.{Listed}
use Rattle.bicep_meaning.specs.Files.{SourceFile}
use Rattle.bicep_meaning.specs.Instances as source
use Rattle.bicep_meaning.specs.Instances.{is_count, Put, put_of}
use Rattle.cell_renaming.proofs.OptionLemmas.{Through, of_then, none_some}
use Rattle.source_worlds.specs.Numbers.{place_in, in_template, number_of}

-- ---- lists of nested deployments

module _ (w : World) (p : Position) where
  -- a reading that went on
  went_on : {A B : Type 0} (r : Reads A) (f : A → Reads B) (y : B) → value_in w (continued r f) ≡ Some y
      → Through (value_in w r) (λ x. value_in w (f x)) y
  went_on {A} {B} r f y e =
      of_then (value_in w r) (λ x. value_in w (f x)) y (sym (value_in-continued Cell Json A B w r f) ∙ e)

  pub each_listed : (rs : List ℕ) (nss : List (List Named)) → value_in w (all_named p rs) ≡ Some nss
      → length nss ≡ length rs
  unfolding value_in
  each_listed [] nss e = ap (λ (xs : List (List Named)). length xs) (sym (same_some e))
  each_listed (r ∷ rs) nss e =
      let a = went_on (resource_named p r) (λ x. continued (all_named p rs) (λ xs. pure (x ∷ xs))) nss e in
      let b = went_on (all_named p rs) (λ xs. pure (a.left ∷ xs)) nss a.made in
      ap (λ (xs : List (List Named)). length xs) (sym (same_some b.made)) ∙ ap suc (each_listed rs b.left b.first)

  -- the value of the cell that lists them
  pub record Lists (rs : List ℕ) (j : Json) : Type 0 where
    pub listed : List (List Named)
    pub is_read : value_in w (all_named p rs) ≡ Some listed
    pub is : j ≡ listing_json listed
    pub each : length listed ≡ length rs

  pub lists : (rs : List ℕ) (j : Json) → value_in w (listing_value p rs) ≡ Some j → Lists rs j
  unfolding listing_value value_in
  lists rs j e =
      let a = went_on (all_named p rs) (λ xs. pure (listing_json xs)) j e in record {
        listed = a.left;
        is_read = a.first;
        is = sym (same_some a.made);
        each = each_listed rs a.left a.first;
      }

-- ---- counts

pub few_copies : (j : Json) → is_count j ≡ true → nat_le (copies (Some j)) 800 ≡ true
few_copies null e = refl
few_copies (bool b) e = refl
few_copies (int (pos n)) e = e
few_copies (int (negsuc n)) e = refl
few_copies (text t) e = refl
few_copies (array js) e = refl
few_copies (object ms) e = refl

-- both languages accept the same counts
counted_if : (b : Bool) (n : ℕ) → is_some (if b then Some n else None) ≡ b
counted_if true n = refl
counted_if false n = refl

pub counts_same : (j : Json) → is_some (count_of j) ≡ is_count j
counts_same null = refl
counts_same (bool b) = refl
counts_same (int (pos n)) = counted_if (nat_le n 800) n
counts_same (int (negsuc n)) = refl
counts_same (text t) = refl
counts_same (array js) = refl
counts_same (object ms) = refl

-- ---- names

module _ (place : Place) where
  pub program_name : (j : Json) (o : Option Kind) → source.is_name place j o ≡ true → (n : List ℕ) × (j ≡ text n)
  program_name (text n) o e = (n, refl)
  program_name null o e = absurd (true≢false (sym e))
  program_name (bool b) o e = absurd (true≢false (sym e))
  program_name (int z) o e = absurd (true≢false (sym e))
  program_name (array js) o e = absurd (true≢false (sym e))
  program_name (object ms) o e = absurd (true≢false (sym e))

pub template_name : (d : Deployment) (j : Json) (o : Option Listed) → template.is_name d j o ≡ true
    → (n : List ℕ) × (j ≡ text n)
template_name d (text n) o e = (n, refl)
template_name d null o e = absurd (true≢false (sym e))
template_name d (bool b) o e = absurd (true≢false (sym e))
template_name d (int z) o e = absurd (true≢false (sym e))
template_name d (array js) o e = absurd (true≢false (sym e))
template_name d (object ms) o e = absurd (true≢false (sym e))

pub is_opened : (o : Option Json) → o ≡ None → is_true o ≡ true → ⊥
is_opened None h e = true≢false (sym e)
is_opened (Some j) h e = absurd cc

-- ---- a symbol with a number is put

pub numbered_put : (z : Form) (f : SourceFile) (n m : ℕ) → number_of z f n ≡ Some m
    → (y : Put) × (put_of n f ≡ Some y)
numbered_put z f n m e = by_put (put_of n f) refl
  where
    by_put : (o : Option Put) → put_of n f ≡ o → (y : Put) × (put_of n f ≡ Some y)
    by_put (Some y) h = (y, h)
    by_put None h =
        none_some m
        (sym
        (ap (λ (o : Option Put). option_and_then (λ m. place_in m (in_template z f))
        (if is_some o then Some n else None)) h)
        ∙ e)
