-- An element of `dependsOn` has a value where what it mentions has a key.
use Rattle.std.proofs.Common.{◌≡◌, ℕ, Bool, true, false, Option, Some, None, refl, sym, ap, ◌∙◌, subst}
use Rattle.std.specs.Prelude.{option_map}
use Rattle.arm_value.specs.Json.{Json, text}
use Rattle.arm_ids.specs.Id.{folded}
use Rattle.arm_ids.specs.declared.id.ResourceId.{ResourceId}
use Rattle.reading.specs.World.{value_in}
use Rattle.template_parts.specs.declared.mode.Form.{Form}
use Rattle.template_parts.specs.declared.mode.Form.TheVariants.{One, Two}
use Rattle.deploy_cells.specs.Cells.{Step}
use Rattle.plan_cells.specs.Needs.{element_names}
use Rattle.bicep_meaning.specs.Files.{declaration}
use Rattle.source_needs.specs.Needs.{key_mentioned, is_looped}
use Rattle.source_worlds.specs.Numbers.{is_put, name_of}
use Rattle.emitted_worlds.specs.Values.{IsTree}
use Rattle.emitted_worlds.specs.Files.{element_by, name_element, dependency}
use Rattle.emitted_programs.specs.Given.{deployed}
use Rattle.emitted_needs.specs.Keys.{HasKey, IsKeyed, HasAnswer}
use Rattle.emitted_needs.proofs.ElementLemmas.{IsIdElement, id_json, name_read, id_read}
use Rattle.emitted_needs.proofs.MentionLemmas.{Scene, Other, new_world, new_step, listed_of, names_it, element_read}
use Rattle.emitted_needs.proofs.MentionLemmas.{element_value}

mapped_answer : (g : Json → Bool) (e : Option Json) (x : Json) → e ≡ Some x → HasAnswer (option_map g e)
mapped_answer g e x k = (g x, ap (option_map g) k)

id_answer : (g : Json → Bool) (key : Option ResourceId) (e : Option Json) → HasKey key → (x : IsIdElement key e)
    → (i : Option ResourceId) → x.id ≡ i → HasAnswer (option_map g e)
id_answer g key e k x None h =
    let none : None ≡ Some k.0 = sym (x.has_key ∙ ap (option_map folded) h) ∙ k.1 in absurd cc
id_answer g key e k x (Some i) h = mapped_answer g e (id_json i) (x.is ∙ ap (option_map id_json) h)

-- an element that is a name
name_answer : (z : Form) (s : Scene z) (o : Other s) (c : Step) (n : ℕ) (j : Json)
    → IsTree (name_element s.d.files s.file n) j → HasAnswer (option_map (names_it s o) (element_read s c j))
name_answer z s o c n j e =
    mapped_answer (names_it s o) (element_read s c j) (text (name_of s.file n))
    (name_read z s.d s.u s.bound s.held s.is_deployed s.w s.satisfied s.at s.new s.is_new s.is_there s.file s.is_file c
    n j e)

one_answer : (s : Scene One) (o : Other s) (c : Step) (n : ℕ) (j : Json) → is_put s.file n ≡ true → (l : Bool)
    → is_looped s.file n ≡ l → IsTree (element_by s.d.files s.file One l n) j → IsKeyed One s.d s.w s.at s.file n
    → HasAnswer (option_map (names_it s o) (element_read s c j))
one_answer s o c n j put true l e k = name_answer One s o c n j e
one_answer s o c n j put false l e k =
    let x = id_read One s.d s.u s.bound s.held s.is_deployed s.w s.satisfied s.at s.new s.is_new s.is_there s.file
    s.is_file c n j (declaration s.file n) put e in
    id_answer (names_it s o) (key_mentioned s.d s.w s.at s.file n) (element_read s c j) (k l) x x.id refl

pub element_answer : (z : Form) (s : Scene z) (o : Other s) (c : Step) (n : ℕ) (j : Json) → is_put s.file n ≡ true
    → IsTree (dependency s.d.files s.file z n) j → IsKeyed z s.d s.w s.at s.file n
    → HasAnswer (value_in (new_world s)
    (element_names (deployed s.d s.u s.bound) s.new c j (new_step s o) (listed_of s o)))
element_answer One s o c n j put e k =
    subst HasAnswer (sym (element_value s o c j)) (one_answer s o c n j put (is_looped s.file n) refl e k)
element_answer Two s o c n j put e k = subst HasAnswer (sym (element_value s o c j)) (name_answer Two s o c n j e)
