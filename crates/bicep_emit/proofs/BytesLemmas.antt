-- The bytes of a template are those of the value that is written of it.
use Rattle.std.proofs.Common.{◌≡◌, inr, ℕ, List, Some, None, Result, Ok, Err, sym, subst, ◌∙◌, ap}
use Rattle.std.specs.Prelude.{IfOk, IfErr}
use Rattle.arm_value.specs.Json.{Json}
use Rattle.arm_value.specs.Reading.{data_of, reading, not_whole}
use Rattle.read_backs.specs.Characters.{HasCharacters}
use Rattle.template_meaning.specs.Describes.{Describes}
use Rattle.template_tree.specs.View.{template_tree}
use Rattle.template_tree.specs.declared.resource.Template.{Template}
use Rattle.template_written.specs.Written.{written}
use Rattle.program_parts.specs.EmitFault.{EmitFault}
use Rattle.bicep_emit.specs.Bytes.{AreBytes, AreLong, AreShort, HasLongText, IsBytesFault, IsBytesOf, text_of_value}

pub short_bytes : (j : Json) (bytes : List ℕ) → bytes ≡ text_of_value j → reading bytes ≡ Some (data_of j)
    → HasCharacters j → not_whole (data_of j) ≡ None → (res : Result (List ℕ) EmitFault) → IfOk res (AreShort bytes)
    → IfOk res (AreBytes j)
short_bytes j bytes text reads characters whole (Ok b) h = record {
  text = h.0 ∙ text;
  reads = ap reading h.0 ∙ reads;
  characters = characters;
  whole = whole;
  small = h.1;
}
short_bytes j bytes text reads characters whole (Err x) h = tt

pub long_bytes : (j : Json) (bytes : List ℕ) → bytes ≡ text_of_value j → (res : Result (List ℕ) EmitFault)
    → IfErr res (AreLong bytes) → IfErr res (HasLongText j)
long_bytes j bytes text (Ok b) h = tt
long_bytes j bytes text (Err x) h = inr (subst (λ (l : List ℕ). AreLong l x) text h)

pub of_template : (t : Template) (j : Json) → j ≡ written (template_tree t)
    → Describes (written (template_tree t)) (template_tree t) → (res : Result (List ℕ) EmitFault)
    → IfOk res (AreBytes j) → IfOk res (IsBytesOf t)
of_template t j is described (Ok b) h = record {
  value = j;
  is = is;
  described = subst (λ v. Describes v (template_tree t)) (sym is) described;
  text = h.text;
  reads = h.reads;
  characters = h.characters;
  whole = h.whole;
  small = h.small;
}
of_template t j is described (Err x) h = tt

pub fault_of_template : (t : Template) (j : Json) → j ≡ written (template_tree t)
    → (res : Result (List ℕ) EmitFault) → IfErr res (HasLongText j) → IfErr res (IsBytesFault t)
fault_of_template t j is (Ok b) h = tt
fault_of_template t j is (Err x) h = subst (λ v. HasLongText v x) is h
