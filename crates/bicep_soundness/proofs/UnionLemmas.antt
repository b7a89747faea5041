-- What `union` and `intersection` take and give: arrays alone, or objects alone.
use Rattle.std.proofs.Common.{◌≡◌, inl, inr, Bool, true, false, true≢false, List, [], ◌∷◌, Option, Some, None, refl}
use Rattle.std.proofs.Common.{sym}
use Rattle.std.proofs.Common.{cond, subst}
use Rattle.std.specs.Prelude.{option_map}
use Rattle.std.specs.List.{list_all}
use Rattle.std.proofs.lemmas.Option.{none-some, option_and_then_some}
use Rattle.arm_value.specs.Json.{Json, Member, pairs}
use Rattle.arm_value.specs.Json as j
use Rattle.function_numbers.specs.Kinds.{items_of, members_of}
use Rattle.function_lists.specs.Values.{array_of}
use Rattle.function_lists.specs.Items.{joined, union_of_arrays, distinct}
use Rattle.function_lists.specs.Members.{united_all, union_by, union}
use Rattle.function_lists.specs.Members.{intersection}
use Rattle.bicep_signatures.specs.declared.kinds.Kinds.TheVariants as k
use Rattle.bicep_signatures.specs.declared.signature.Signature.{Signature}
use Rattle.bicep_signatures.specs.declared.signature.Signatures.{Signatures}
use Rattle.bicep_signatures.specs.declared.value_type.ValueType.{ValueType}
use Rattle.bicep_signatures.specs.declared.value_type.ValueType.TheVariants as type
use Rattle.bicep_signatures.specs.Kinds.{fits}
use Rattle.bicep_signatures.specs.Table.{each, either}
use Rattle.bicep_soundness.specs.Values.{type_of_value, IsOfType, Gives}
use Rattle.bicep_soundness.specs.Calls.{AreFit, HasWayOf}
use Rattle.bicep_soundness.proofs.GivesLemmas.{of_map, array_is, object_is}
use Rattle.arm_value.specs.Kinds.{is_array, is_object}

pub given : (t : ValueType) (o : Option Json) (v : Json) → Gives t o → o ≡ Some v → IsOfType t v
given t o v h e = subst (Gives t) e h

pub map_some : {A B : Type 0} (f : A → B) (o : Option A) (y : B) → option_map f o ≡ Some y → (x : A) × (o ≡ Some x)
map_some f None y e = absurd (none-some y e)
map_some f (Some x) y e = (x, refl)

pub chosen_some : {A : Type 0} (b : Bool) (o : Option A) (y : A) → cond b o None ≡ Some y → (b ≡ true) × (o ≡ Some y)
chosen_some true o y e = (refl, e)
chosen_some false o y e = absurd (none-some y e)

abbrev arrays : Signature
arrays = each k.Array type.Array

abbrev objects : Signature
objects = each k.Object type.Object

-- the ways of both functions
abbrev pub of_either : Signatures
of_either = either arrays objects

array_fits : (v : Json) (us : List Json) → items_of v ≡ Some us → fits k.Array (type_of_value v) ≡ true
array_fits j.null us e = absurd (none-some us e)
array_fits (j.bool b) us e = absurd (none-some us e)
array_fits (j.int z) us e = absurd (none-some us e)
array_fits (j.text s) us e = absurd (none-some us e)
array_fits (j.array xs) us e = refl
array_fits (j.object ms) us e = absurd (none-some us e)

object_fits : (v : Json) (us : List Member) → members_of v ≡ Some us → fits k.Object (type_of_value v) ≡ true
object_fits j.null us e = absurd (none-some us e)
object_fits (j.bool b) us e = absurd (none-some us e)
object_fits (j.int z) us e = absurd (none-some us e)
object_fits (j.text s) us e = absurd (none-some us e)
object_fits (j.array xs) us e = absurd (none-some us e)
object_fits (j.object ms) us e = refl

arrays_fit : (vs xs : List Json) → joined vs ≡ Some xs → AreFit arrays vs
unfolding joined
arrays_fit [] xs e = tt
arrays_fit (v ∷ vs) xs e =
    option_and_then_some _ (items_of v) xs e
    (λ us is rest. let r = map_some _ (joined vs) xs rest in (array_fits v us is, arrays_fit vs r.0 r.1))

objects_fit : (vs : List Json) (ms ns : List Member) → united_all ms vs ≡ Some ns → AreFit objects vs
unfolding united_all
objects_fit [] ms ns e = tt
objects_fit (v ∷ vs) ms ns e =
    option_and_then_some _ (members_of v) ns e (λ us is rest. (object_fits v us is, objects_fit vs _ ns rest))

united_arrays : (vs : List Json) (v : Json) → union_of_arrays vs ≡ Some v → HasWayOf v vs of_either
united_arrays vs v e =
    option_and_then_some _ (joined vs) v e
    (λ xs is rest. inl (arrays_fit vs xs is, given type.Array (array_of (distinct [] xs)) v (array_is _) rest))

united_by : (x : Json) (vs : List Json) (v : Json) (o : Option (List Member)) → members_of x ≡ o
    → union_by o vs (x ∷ vs) ≡ Some v → HasWayOf v (x ∷ vs) of_either
united_by x vs v (Some ms) is e =
    let r = map_some (λ ns. j.object (pairs ns)) (united_all ms vs) v e in
    inr (inl (
      (object_fits x ms is, objects_fit vs ms r.0 r.1),
      given type.Object _ v (of_map type.Object (λ ns. j.object (pairs ns)) (united_all ms vs) (λ ns. refl)) e,
    ))
united_by x vs v None is e = united_arrays (x ∷ vs) v e

pub union_answers : (vs : List Json) (v : Json) → union vs ≡ Some v → HasWayOf v vs of_either
union_answers [] v e = absurd (none-some v e)
union_answers (x ∷ vs) v e = united_by x vs v (members_of x) refl e

all_arrays : (vs : List Json) → list_all is_array vs ≡ true → AreFit arrays vs
all_arrays [] e = tt
all_arrays (j.null ∷ vs) e = absurd (true≢false (sym e))
all_arrays (j.bool b ∷ vs) e = absurd (true≢false (sym e))
all_arrays (j.int z ∷ vs) e = absurd (true≢false (sym e))
all_arrays (j.text s ∷ vs) e = absurd (true≢false (sym e))
all_arrays (j.array xs ∷ vs) e = (refl, all_arrays vs e)
all_arrays (j.object ms ∷ vs) e = absurd (true≢false (sym e))

all_objects : (vs : List Json) → list_all is_object vs ≡ true → AreFit objects vs
all_objects [] e = tt
all_objects (j.null ∷ vs) e = absurd (true≢false (sym e))
all_objects (j.bool b ∷ vs) e = absurd (true≢false (sym e))
all_objects (j.int z ∷ vs) e = absurd (true≢false (sym e))
all_objects (j.text s ∷ vs) e = absurd (true≢false (sym e))
all_objects (j.array xs ∷ vs) e = absurd (true≢false (sym e))
all_objects (j.object ms ∷ vs) e = (refl, all_objects vs e)

pub intersection_answers : (vs : List Json) (v : Json) → intersection vs ≡ Some v → HasWayOf v vs of_either
intersection_answers [] v e = absurd (none-some v e)
intersection_answers (j.null ∷ vs) v e = absurd (none-some v e)
intersection_answers (j.bool b ∷ vs) v e = absurd (none-some v e)
intersection_answers (j.int z ∷ vs) v e = absurd (none-some v e)
intersection_answers (j.text s ∷ vs) v e = absurd (none-some v e)
intersection_answers (j.array xs ∷ vs) v e =
    let r = chosen_some (list_all is_array vs) _ v e in
    inl ((refl, all_arrays vs r.0), given type.Array _ v (array_is _) r.1)
intersection_answers (j.object ms ∷ vs) v e =
    let r = chosen_some (list_all is_object vs) _ v e in
    inr (inl ((refl, all_objects vs r.0), given type.Object _ v (object_is _) r.1))
