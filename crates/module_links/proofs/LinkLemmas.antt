-- Numbers of files among names, and lists of names that grow.
use Rattle.std.proofs.Common.{◌≡◌, ℕ, zero, suc, ◌<◌, List, [], ◌∷◌, ◌++◌, length, map, false, refl}
use Rattle.std.proofs.Common.{sym, ◌∙◌, arith, length-append}
use Rattle.std.specs.Prelude.{slice_get, bytes_eq}
use Rattle.std.specs.List.{AllByRecursion, IsDistinct}
use Rattle.std.proofs.lemmas.List.{map-append}
use Rattle.module_links.specs.Paths.{file_at}
use Rattle.module_links.specs.Links.{AreLinked, IsNew}

-- an element stays at its place where a list grows
pub get_grown : {A : Type 0} (xs ys : List A) (k : ℕ) → k < length xs → slice_get (xs ++ ys) k ≡ slice_get xs k
get_grown [] ys k h = absurd (omega arith)
get_grown (x ∷ xs) ys zero h = refl
get_grown (x ∷ xs) ys (suc k) h = get_grown xs ys k (omega arith)

-- and so do all
pub all_grown : {A : Type 0} (xs ys : List A) (ks : List ℕ) → AllByRecursion (λ k. k < length xs) ks
    → map (slice_get (xs ++ ys)) ks ≡ map (slice_get xs) ks
all_grown xs ys [] h = refl
all_grown xs ys (k ∷ ks) h = rw (get_grown xs ys k h.0, all_grown xs ys ks h.1) refl

pub within_grown : {A : Type 0} (xs ys : List A) (ks : List ℕ) → AllByRecursion (λ k. k < length xs) ks
    → AllByRecursion (λ k. k < length (xs ++ ys)) ks
within_grown xs ys [] h = tt
within_grown xs ys (k ∷ ks) h = (rw length-append (omega (arith, h.0)), within_grown xs ys ks h.1)

pub all_append : {A : Type 0} (P : A → Type 0) (xs ys : List A) → AllByRecursion P xs → AllByRecursion P ys
    → AllByRecursion P (xs ++ ys)
all_append P [] ys h k = k
all_append P (x ∷ xs) ys h k = (h.0, all_append P xs ys h.1 k)

-- links stay where the names grow
pub linked_grown : (names more : List (List ℕ)) (file : List ℕ) (paths : List (List ℕ)) (ks : List ℕ)
    → AreLinked names file paths ks → AreLinked (names ++ more) file paths ks
linked_grown names more file paths ks h = record {
  files = all_grown names more ks h.within ∙ h.files;
  within = within_grown names more ks h.within;
}

-- one more link
pub linked_more : (names : List (List ℕ)) (file path : List ℕ) (paths : List (List ℕ)) (ks : List ℕ) (k : ℕ)
    → AreLinked names file paths ks → k < length names → slice_get names k ≡ file_at file path
    → AreLinked names file (paths ++ path ∷ []) (ks ++ k ∷ [])
linked_more names file path paths ks k h within here = record {
  files = map-append (slice_get names) ks (k ∷ [])
      ∙ (rw (h.files, here) (sym (map-append (file_at file) paths (path ∷ []))));
  within = all_append (λ n. n < length names) ks (k ∷ []) h.within (within, tt);
}

-- a name that is none of those before
pub distinct_more : (names : List (List ℕ)) (name : List ℕ) → IsDistinct bytes_eq names → IsNew names name
    → IsDistinct bytes_eq (names ++ name ∷ [])
unfolding IsDistinct
distinct_more [] name h new = (tt, tt)
distinct_more (n ∷ names) name h new = (
  all_append (λ other. bytes_eq n other ≡ false) names (name ∷ []) h.0 (new.0, tt),
  distinct_more names name h.1 new.1,
)
