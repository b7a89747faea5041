-- In a template that a value describes, objects in the defaults of parameters have their members in order.
use Rattle.std.proofs.Common.{◌≡◌, ℕ, Bool, true, false, List, [], ◌∷◌, map, Option, Some, None, sym, subst}
use Rattle.std.proofs.Common.{bytes_eq, chars, codes, if◌then◌else◌}
use Rattle.foundation.proofs.Options.{same_some}
use Rattle.arm_value.specs.Json.{Json, null, bool, int, text, array, object, Member, Pairs, no_pairs, pair, pairs}
use Rattle.arm_value.specs.Json.{IsOrderly, PairsAreOrderly}
use Rattle.arm_value.specs.Look.{is_same_folded, first_by, fold, or_else}
use Rattle.arm_value.specs.View.{json}
use Rattle.arm_value.specs.declared.value.Value.{Value}
use Rattle.arm_value.proofs.TreeLemmas.{pairs-members}
use Rattle.plan_cells.specs.Sites.{first_with}
use Rattle.source_deployments.specs.Sources.{HasOrderlyDefaults}
use Rattle.template_meaning.specs.Describes.{Describes, header_by}
use Rattle.template_meaning.specs.Parts.{parameter_of}
use Rattle.template_meaning.specs.Values.{Place, inside, optional, members_in}
use Rattle.template_meaning.proofs.ValueLemmas.{tree_back}
use Rattle.template_parts.specs.declared.parameter.Parameter.{Parameter}
use Rattle.template_tree.specs.Tree.{Header, TemplateTree, template}

-- ---- what is found in an orderly value is orderly

abbrev PlaceIsOrderly : Place → Type 0
PlaceIsOrderly None = Unit {0}
PlaceIsOrderly (Some j) = IsOrderly j

first_by_orderly : (b : Bool) (j : Json) (o : Place) → IsOrderly j → PlaceIsOrderly o
    → PlaceIsOrderly (if b then Some j else o)
first_by_orderly true j o h g = h
first_by_orderly false j o h g = g

first_orderly : (p : List ℕ → Bool) (ms : Pairs) → PairsAreOrderly ms → PlaceIsOrderly (first_by p ms)
first_orderly p no_pairs h = tt
first_orderly p (pair k j ms) h = first_by_orderly (p k) j (first_by p ms) h.0 (first_orderly p ms h.1)

either_orderly : (a b : Place) → PlaceIsOrderly a → PlaceIsOrderly b → PlaceIsOrderly (or_else a b)
either_orderly None b h g = g
either_orderly (Some j) b h g = h

inside_orderly : (name : List ℕ) (o : Place) → PlaceIsOrderly o → PlaceIsOrderly (inside name o)
inside_orderly name None h = tt
inside_orderly name (Some null) h = tt
inside_orderly name (Some (bool b)) h = tt
inside_orderly name (Some (int z)) h = tt
inside_orderly name (Some (text t)) h = tt
inside_orderly name (Some (array js)) h = tt
inside_orderly name (Some (object ms)) h =
    either_orderly (first_by (bytes_eq (chars name)) ms) (first_by (is_same_folded (chars name)) ms)
    (first_orderly (bytes_eq (chars name)) ms h.1) (first_orderly (is_same_folded (chars name)) ms h.1)

members_orderly : (o : Place) → PlaceIsOrderly o → PairsAreOrderly (pairs (members_in o))
members_orderly None h = tt
members_orderly (Some null) h = tt
members_orderly (Some (bool b)) h = tt
members_orderly (Some (int z)) h = tt
members_orderly (Some (text t)) h = tt
members_orderly (Some (array js)) h = tt
members_orderly (Some (object ms)) h = subst PairsAreOrderly (sym (pairs-members ms)) h.1

-- ---- the default of a parameter

abbrev HasOrderlyDefault : Parameter → Type 0
HasOrderlyDefault p = (w : Value) → p.default_value ≡ Some w → IsOrderly (json w)

value_orderly : (o : Place) (w : Value) → optional o ≡ Some w → PlaceIsOrderly o → IsOrderly (json w)
value_orderly None w e h = absurd (cc)
value_orderly (Some j) w e h =
    subst (λ (v : Value). IsOrderly (json v)) (same_some e) (subst IsOrderly (sym (tree_back j)) h)

parameter_orderly : (m : Member) → IsOrderly m.1 → HasOrderlyDefault (parameter_of m)
parameter_orderly m h w e =
    value_orderly (inside (codes "defaultValue") (Some m.1)) w e (inside_orderly (codes "defaultValue") (Some m.1) h)

found_by : (b : Bool) (q : Parameter) (o : Option Parameter) (p : Parameter) → (if b then Some q else o) ≡ Some p
    → HasOrderlyDefault q → (o ≡ Some p → HasOrderlyDefault p) → HasOrderlyDefault p
found_by true q o p e h g = subst HasOrderlyDefault (same_some e) h
found_by false q o p e h g = g e

found_orderly : (test : Parameter → Bool) (ms : List Member) (p : Parameter) → PairsAreOrderly (pairs ms)
    → first_with test (map parameter_of ms) ≡ Some p → HasOrderlyDefault p
found_orderly test [] p h e = absurd (cc)
found_orderly test (m ∷ ms) p h e =
    found_by (test (parameter_of m)) (parameter_of m) (first_with test (map parameter_of ms)) p e
    (parameter_orderly m h.0) (found_orderly test ms p h.1)

header_orderly : (v : Json) (h : Header) → h ≡ header_by (Some v) → IsOrderly v → (test : Parameter → Bool)
    (p : Parameter) → first_with test h.parameters ≡ Some p → HasOrderlyDefault p
header_orderly v h is o test p e =
    found_orderly test (members_in (inside (codes "parameters") (Some v))) p
    (members_orderly (inside (codes "parameters") (Some v)) (inside_orderly (codes "parameters") (Some v) o))
    (subst (λ (k : Header). first_with test k.parameters ≡ Some p) is e)

pub defaults_orderly : (v : Json) (u : TemplateTree) → Describes v u → IsOrderly v → HasOrderlyDefaults u
defaults_orderly v (template h rs) d o x p w named default =
    header_orderly v h d.0 o (λ q. bytes_eq x (fold q.name)) p named w default
