-- What is told of a file of variables and resources.
use Rattle.std.proofs.Common.{◌≡◌, ℕ, List, [], Option, Some, None, true, false, ltb, length, get_or}
use Rattle.std.proofs.Common.{refl, sym, ap, ◌∙◌, ◌∷◌, ◌==◌, suc, arith}
use Rattle.std.proofs.lemmas.Bool.{ltb-true, ltb-false}
use Rattle.std.proofs.lemmas.Bool.Decides.{nat_tests}
use Rattle.std.proofs.lemmas.Option.{slice_get_read, slice_get_past}
use Rattle.std.specs.Prelude.{slice_get, Result}
use Rattle.arm_value.specs.Json.{Json}
use Rattle.arm_value.specs.View.{json}
use Rattle.arm_value.specs.declared.value.Value.{Value}
use Rattle.arm_value.specs.Look.{fold}
use Rattle.arm_ids.specs.declared.id.Place.{Place}
use Rattle.arm_ids.specs.declared.id.ResourceId.{ResourceId}
use Rattle.reading.specs.Reading.{done, read, continued}
use Rattle.reading.specs.Knowledge.{Told, value, no_value, waits, told, and_then}
use Rattle.deploy_cells.specs.Cells.{Cell, parameter, count, state}
use Rattle.deploy_cells.specs.Guarded.{Reads}
use Rattle.bicep_resolved.specs.declared.leaf.Target.{Target}
use Rattle.bicep_resolved.specs.declared.leaf.Target.TheVariants as t
use Rattle.bicep_meaning.specs.Around.{Here, Frame}
use Rattle.bicep_meaning.specs.Files.{type_of, type_within}
use Rattle.bicep_meaning.specs.Meaning.{parameter_entry, module_key, output_at, output_name, output_value}
use Rattle.bicep_outcomes.specs.declared.loops.Turn.{Turn}
use Rattle.bicep_outcomes.specs.declared.stop.Stop.{Stop}
use Rattle.bicep_outcomes.specs.Outcomes.{Gives, IsItem}
use Rattle.bicep_outcomes.proofs.OutcomeLemmas.{told-done, told-continued}
use Rattle.bicep_surroundings.specs.Sight.{AreSeen}
use Rattle.bicep_surroundings.proofs.SeenLemmas.{item_seen}
use Rattle.bicep_eval_tests.specs.Sample.{empty, slot_value, variable_value, name_value, known_of, sight_of}
use Rattle.bicep_eval_tests.specs.declared.sample.Slot.{Slot}
use Rattle.bicep_eval_tests.specs.declared.sample.Slot.TheVariants as slot
use Rattle.bicep_eval_tests.specs.declared.sample.Sample.{Sample}

abbrev here : Place → Here
here x = record { at = []; place = x; file = empty; files = [] }

pub no_parameter : (v : Json) (x : Place) (n : ℕ) → told (known_of v) (parameter_entry (here x) n) ≡ no_value
unfolding parameter_entry
no_parameter v x n =
    let q : Reads (List ℕ) = done None in
    let f = λ (name : List ℕ). read {C = Cell} {J = Json} (parameter [] (fold name)) in
    told-continued (known_of v) q f
    ∙ ap (λ (u : Told Cell (List ℕ)). and_then u (λ y. told (known_of v) (f y)))
    (told-done (known_of v) {A = List ℕ} None)

no_name : (x : Place) (m : Target) (k : ℕ) → output_name (here x) m k ≡ None
no_name x (t.Resource n) k = refl
no_name x (t.ResourceLoop n) k = refl
no_name x (t.Module n f) k = refl
no_name x (t.ModuleLoop n f) k = refl

pub no_output : (v : Json) (x : Place) (m : Target) (k : ℕ) (r : Reads Json)
    → told (known_of v) (output_value (here x) (output_name (here x) m k) r) ≡ no_value
unfolding output_value
no_output v x m k r =
    let q : Reads (List ℕ) = done None in
    let f = λ (o : List ℕ). continued r (λ j. continued (done (module_key x j)) (output_at (here x) o)) in
    ap (λ o. told (known_of v) (output_value (here x) o r)) (no_name x m k) ∙ told-continued (known_of v) q f
    ∙ ap (λ (u : Told Cell (List ℕ)). and_then u (λ y. told (known_of v) (f y)))
    (told-done (known_of v) {A = List ℕ} None)

pub no_type : (n : ℕ) → [] ≡ (type_of empty n).kind
unfolding type_within
no_type n = refl

pub no_version : (n : ℕ) → [] ≡ (type_of empty n).version
unfolding type_within
no_version n = refl

-- each resource has the state
pub has_state : (v : Json) (k : ResourceId) → told (known_of v) (read (state k)) ≡ value v
unfolding told
has_state v k = refl

-- the variable of a number
pub slot_found : (xs : List Slot) (n : ℕ) (x : Slot) → true ≡ ltb n (length xs) → x ≡ get_or xs n x
    → slice_get xs n ≡ Some x
slot_found xs n x l h = slice_get_read xs (length xs) n x refl (ltb-true n (length xs) (sym l)) h

pub no_slot : (v : Json) (xs : List Slot) (n : ℕ) → false ≡ ltb n (length xs)
    → told (known_of v) (variable_value xs n) ≡ no_value
no_slot v xs n l =
    ap (λ (o : Option Slot). told (known_of v) (slot_value n o))
    (slice_get_past xs n (ltb-false n (length xs) (sym l)))
    ∙ told-done (known_of v) {A = Json} None

-- what is told of it
pub slot_told : (v : Json) (xs : List Slot) (n : ℕ) (x y : Slot) → slice_get xs n ≡ Some x → x ≡ y
    → told (known_of v) (variable_value xs n) ≡ told (known_of v) (slot_value n (Some y))
slot_told v xs n x y e h = ap (λ (o : Option Slot). told (known_of v) (slot_value n o)) (e ∙ ap Some h)

-- a variable that is waited for
pub late_slot : (v : Json) (n : ℕ) → told (known_of v) (slot_value n (Some slot.Late)) ≡ waits (count [] n)
unfolding told
late_slot v n = refl

-- ---- names

-- a resource outside loops, by the variable of number 2
pub own_name : (x : Sample) (ts : List Turn) (fs : List Frame) (r : Result Value Stop)
    → (length ts == 0) ≡ true → AreSeen (sight_of x) ts fs
    → Gives (sight_of x).cell json r (told (known_of (json x.state)) (variable_value x.slots.items 2))
    → Gives (sight_of x).cell json r
    (told (known_of (json x.state)) (name_value (variable_value x.slots.items 2) fs))
own_name x [] [] r e h g = g
own_name x [] (f ∷ fs) r e h g = absurd h
own_name x (t ∷ ts) fs r e h g = let n : suc (length ts) ≡ 0 = grind (arith, nat_tests) in absurd (omega arith)

-- an element of a loop, by its item
pub item_name : (x : Sample) (ts : List Turn) (fs : List Frame) (r : Result Value Stop)
    → (length ts == 0) ≡ false → AreSeen (sight_of x) ts fs → IsItem (slice_get ts 0) r
    → Gives (sight_of x).cell json r
    (told (known_of (json x.state)) (name_value (variable_value x.slots.items 2) fs))
item_name x [] fs r e h i = absurd cc
item_name x (t ∷ ts) [] r e h i = absurd h
item_name x (t ∷ ts) (f ∷ fs) r e h i = item_seen (sight_of x) (t ∷ ts) (f ∷ fs) 0 r h i
