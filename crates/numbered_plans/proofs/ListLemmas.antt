-- Look-ups in lists that were made of others, and the first place of a tag.
use Rattle.std.proofs.Common.{◌≡◌, ℕ, zero, suc, Bool, true, false, List, [], ◌∷◌, map, Option, Some, None, refl, ap}
use Rattle.std.proofs.Common.{sym, ◌∙◌}
use Rattle.std.specs.Prelude.{slice_get, option_map, bytes_eq, if◌then◌else◌}
use Rattle.arm_ids.specs.declared.id.ResourceId.{ResourceId}
use Rattle.tag_places.specs.Places.{Tag, is_tag, first_place}
use Rattle.key_tags.specs.KeyCodes.{key_code}
use Rattle.key_tags.proofs.CodeLemmas.{key_eq}
use Rattle.deploy_cells.proofs.SameLemmas.{id_is, id_same}
use Rattle.std.proofs.lemmas.Slice.Eq.{bytes_eq-Decides}
use Rattle.std.proofs.lemmas.Option.{same_Some}

module _ {A B : Type 0} (g : A → B) where
  pub mapped : (xs : List A) (i : ℕ) (a : A) → slice_get xs i ≡ Some a → slice_get (map g xs) i ≡ Some (g a)
  mapped [] i a e = let f : None ≡ Some a = e in absurd (cc)
  mapped (x ∷ xs) zero a e = ap (λ y. Some (g y)) (same_Some x a e)
  mapped (x ∷ xs) (suc i) a e = mapped xs i a e

  -- what is found in a list that was mapped is of what is found in the list
  pub record IsOf (xs : List A) (i : ℕ) (b : B) : Type 0 where
    pub one : A
    pub has : slice_get xs i ≡ Some one
    pub is : g one ≡ b

  pub of_mapped : (xs : List A) (i : ℕ) (b : B) → slice_get (map g xs) i ≡ Some b → IsOf xs i b
  of_mapped [] i b e = let f : None ≡ Some b = e in absurd (cc)
  of_mapped (x ∷ xs) zero b e = record { one = x; has = refl; is = same_Some (g x) b e }
  of_mapped (x ∷ xs) (suc i) b e =
      let h = of_mapped xs i b e in record { one = h.one; has = h.has; is = h.is }

-- ---- tags

tag_itself : (t : Tag) → bytes_eq t t ≡ true
tag_itself t = (bytes_eq-Decides t t).1 refl

-- a tag that has a place has a first one
pub placed : (t : Tag) (os : List (Option Tag)) (u : ℕ) → slice_get os u ≡ Some (Some t)
    → (v : ℕ) × (first_place t os ≡ Some v)
placed t [] u e = let f : None ≡ Some (Some t) = e in absurd (cc)
placed t (o ∷ os) zero e =
    let is : o ≡ Some t = (let f : Some o ≡ Some (Some t) = e in cc) in (
      zero,
      ap (λ (b : Bool). if b then Some zero else option_map (λ n. suc n) (first_place t os))
          (ap (is_tag t) is ∙ tag_itself t),
    )
placed t (o ∷ os) (suc u) e = by_test (is_tag t o) refl (placed t os u e)
  where
    by_test : (b : Bool) → is_tag t o ≡ b → (v : ℕ) × (first_place t os ≡ Some v)
        → (v : ℕ) × ((if b then Some zero else option_map (λ n. suc n) (first_place t os)) ≡ Some v)
    by_test true f h = (zero, refl)
    by_test false f h = (suc h.0, ap (option_map (λ n. suc n)) h.1)

-- keys of one code are one
pub one_key : (k l : ResourceId) → key_code k ≡ key_code l → k ≡ l
one_key k l e =
    id_is k l (sym (key_eq k l) ∙ (ap (bytes_eq (key_code k)) (sym e) ∙ (key_eq k k ∙ id_same k)))
