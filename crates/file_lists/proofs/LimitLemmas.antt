-- Parts of lists that are within the limits.
use Rattle.std.proofs.Common.{◌≡◌, ◌<◌, ℕ, List, length, map, Option, Some, None, refl, sym}
use Rattle.std.proofs.Common.{ap}
use Rattle.std.proofs.Common.{◌∙◌}
use Rattle.std.specs.Prelude.{option_map, slice_get, slice_index_or}
use Rattle.std.proofs.lemmas.List.{length-map}
use Rattle.std.proofs.lemmas.Option.{slice_get-map, slice_get_read}

-- an item of a list that is a view of another
pub item_is : {A B : Type 0} (f : A → B) (xs : List A) (ys : List B) (n : ℕ) (x : A) → map f xs ≡ ys → n < length xs
    → x ≡ slice_index_or xs n x → slice_get ys n ≡ Some (f x)
item_is f xs ys n x e l is =
    sym (ap (λ zs. slice_get zs n) e)
    ∙ slice_get-map f xs n
    ∙ ap (option_map f) (slice_get_read xs (length xs) n x refl l is)

pub same_size : {A B : Type 0} (f : A → B) (xs : List A) (ys : List B) → map f xs ≡ ys → length xs ≡ length ys
same_size f xs ys e = sym (length-map xs f) ∙ ap length e

-- the name of an output is the output itself
pub same_name : (names outputs : List (List ℕ)) (n : ℕ) (r : Option (List ℕ)) → names ≡ outputs
    → r ≡ slice_get names n → r ≡ option_map (λ o. o) (slice_get outputs n)
same_name names outputs n r h e = e ∙ ap (λ zs. slice_get zs n) h ∙ sym (same (slice_get outputs n))
  where
    same : (o : Option (List ℕ)) → option_map (λ o. o) o ≡ o
    same None = refl
    same (Some x) = refl
