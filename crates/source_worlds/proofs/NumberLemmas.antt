-- Symbols and numbers are one to one.
use Rattle.std.proofs.Common.{◌≡◌, ◌<◌, ◌+◌, ℕ, zero, suc, length, Bool, true, false, List, [], ◌∷◌, Option, Some, None}
use Rattle.std.proofs.Common.{refl, sym, ap, ◌∙◌, arith}
use Rattle.std.specs.Prelude.{option_and_then, slice_get, is_some, if◌then◌else◌}
use Rattle.foundation.proofs.Options.{same_some}
use Rattle.template_parts.specs.declared.mode.Form.{Form}
use Rattle.template_parts.specs.declared.mode.Form.TheVariants.{One, Two}
use Rattle.bicep_meaning.specs.Declarations.{DeclaredTree}
use Rattle.bicep_meaning.specs.Declarations as d
use Rattle.bicep_meaning.specs.Files.{SourceFile, declaration}
use Rattle.bicep_meaning.specs.Declared.{body_of}
use Rattle.bicep_meaning.specs.Instances.{put_by, file_at}
use Rattle.cell_renaming.specs.Renaming.{IsOneToOne}
use Rattle.source_worlds.specs.Numbers.{passing, place_in, is_put, is_resource, in_template, if_put}
use Rattle.source_worlds.specs.Numbers.{number_of, symbol_of, numbering}
use Rattle.source_worlds.proofs.ListLemmas.{at_place, place_at, AllDiffer, passing_differ, by_name_differ, In}
use Rattle.source_worlds.proofs.ListLemmas.{passing_has, by_name_has}

pub template_differ : (z : Form) (f : SourceFile) → AllDiffer (in_template z f)
template_differ One f = passing_differ (is_put f) 0 (length f.declared.declarations)
template_differ Two f =
    by_name_differ f (passing (is_resource f) 0 (length f.declared.declarations))
    (passing_differ (is_resource f) 0 (length f.declared.declarations))

-- a symbol that is put
record IsThere (f : SourceFile) (n m : ℕ) : Type 0 where
  is_put : is_put f n ≡ true
  is : n ≡ m

there_by : (f : SourceFile) (n m : ℕ) (b : Bool) → is_put f n ≡ b → (if b then Some n else None) ≡ Some m
    → IsThere f n m
there_by f n m true e h = record { is_put = e; is = same_some h }
there_by f n m false e h = absurd cc

put_there : (f : SourceFile) (n m : ℕ) → if_put f n ≡ Some m → IsThere f n m
put_there f n m h = there_by f n m (is_put f n) refl h

if_put_is : (f : SourceFile) (n : ℕ) → is_put f n ≡ true → if_put f n ≡ Some n
if_put_is f n e = ap (λ b. if b then Some n else None) e

module _ (z : Form) (f : SourceFile) where
  there_of : (n m : ℕ) (o : Option ℕ) → if_put f n ≡ o
      → option_and_then (λ m. place_in m (in_template z f)) o ≡ Some m → symbol_of z f m ≡ Some n
  there_of n m None e h = absurd cc
  there_of n m (Some x) e h =
      let g = put_there f n x e in
      let p : place_in n (in_template z f) ≡ Some m = ap (λ y. place_in y (in_template z f)) g.is ∙ h in
      ap (option_and_then (if_put f)) (at_place n (in_template z f) m p) ∙ if_put_is f n g.is_put

  pub there : (n m : ℕ) → number_of z f n ≡ Some m → symbol_of z f m ≡ Some n
  there n m h = there_of n m (if_put f n) refl h

  back_of : (n m : ℕ) (o : Option ℕ) → slice_get (in_template z f) m ≡ o
      → option_and_then (if_put f) o ≡ Some n → number_of z f n ≡ Some m
  back_of n m None e h = absurd cc
  back_of n m (Some x) e h =
      let g = put_there f x n h in
      let p : slice_get (in_template z f) m ≡ Some n = e ∙ ap (λ y. Some y) g.is in
      ap (option_and_then (λ y. place_in y (in_template z f)))
      (if_put_is f n (ap (is_put f) (sym g.is) ∙ g.is_put))
      ∙ place_at n (in_template z f) m (template_differ z f) p

  pub back : (m n : ℕ) → symbol_of z f m ≡ Some n → number_of z f n ≡ Some m
  back m n h = back_of n m (slice_get (in_template z f) m) refl h

-- ---- each has a number

below : (xs : List DeclaredTree) (n : ℕ) → is_some (slice_get xs n) ≡ true → n < length xs
below [] zero h = absurd cc
below [] (suc n) h = absurd cc
below (x ∷ xs) zero h = omega arith
below (x ∷ xs) (suc n) h = let b = below xs n h in omega (arith, b)

declared_by : (f : SourceFile) (n : ℕ) (o : Option DeclaredTree) → is_some (put_by f n o) ≡ true → is_some o ≡ true
declared_by f n None h = absurd cc
declared_by f n (Some x) h = refl

resource_by : (f : SourceFile) (n : ℕ) (o : Option DeclaredTree) → is_some (put_by f n o) ≡ true
    → is_some (option_and_then body_of o) ≡ true
resource_by f n None h = absurd cc
resource_by f n (Some (d.parameter at t)) h = absurd cc
resource_by f n (Some (d.parameter_with at t e)) h = absurd cc
resource_by f n (Some (d.variable at v)) h = absurd cc
resource_by f n (Some (d.a_resource at q existing b)) h = refl
resource_by f n (Some (d.a_module at b)) h = refl

module _ (f : SourceFile) (n : ℕ) (h : is_put f n ≡ true) where
  is_below : n < 0 + length f.declared.declarations
  is_below = let b = below f.declared.declarations n (declared_by f n (declaration f n) h) in omega (arith, b)

  is_among : (z : Form) → In n (in_template z f)
  is_among One = passing_has (is_put f) n 0 (length f.declared.declarations) h (omega arith) is_below
  is_among Two =
      by_name_has f n (passing (is_resource f) 0 (length f.declared.declarations))
      (passing_has (is_resource f) n 0 (length f.declared.declarations) (resource_by f n (declaration f n) h)
      (omega arith) is_below)

  pub has_number : (z : Form) → (m : ℕ) × (number_of z f n ≡ Some m)
  has_number z =
      let a = is_among z in (
        a.0,
        ap (option_and_then (λ y. place_in y (in_template z f))) (if_put_is f n h)
            ∙ place_at n (in_template z f) a.0 (template_differ z f) a.1,
      )

-- ---- in all instances

there_in : (z : Form) (o : Option SourceFile) (n m : ℕ) → option_and_then (λ f. number_of z f n) o ≡ Some m
    → option_and_then (λ f. symbol_of z f m) o ≡ Some n
there_in z None n m h = absurd cc
there_in z (Some f) n m h = there z f n m h

back_in : (z : Form) (o : Option SourceFile) (m n : ℕ) → option_and_then (λ f. symbol_of z f m) o ≡ Some n
    → option_and_then (λ f. number_of z f n) o ≡ Some m
back_in z None m n h = absurd cc
back_in z (Some f) m n h = back z f m n h

pub one_to_one : (z : Form) (files : List SourceFile) → IsOneToOne (numbering z files)
one_to_one z files = record {
  there = λ p n m h. there_in z (file_at files p) n m h;
  back = λ p m n h. back_in z (file_at files p) m n h;
}
