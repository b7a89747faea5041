-- The rule of a parameter in a template is that of its type and decorators.
use Rattle.std.proofs.Common.{◌≡◌, ℕ, Ok, Err, sym, [], ◌∷◌, Bool, true, false, List, Option, refl, ap, ◌∙◌}
use Rattle.std.specs.Prelude.{Result, IfOk, ◌&&◌, Some, None, is_none, nat_le, if◌then◌else◌}
use Rattle.arm_value.specs.Json.{Json, null, bool, int, text, array, object, nesting, items, row}
use Rattle.template_parts.specs.declared.parameter.Bounds.{Bounds}
use Rattle.template_parts.specs.declared.parameter.Parameter.{Parameter}
use Rattle.template_parts.specs.declared.value_type.ValueType.{ValueType}
use Rattle.template_parameters.specs.Rule as rule
use Rattle.template_parameters.specs.declared.rule.Breach.{Breach}
use Rattle.template_parameters.specs.declared.rule.Breach.TheVariants.{WrongType, NotAllowed, OutOfBounds}
use Rattle.bicep_tree.specs.declared.leaf.TypeName.{TypeName}
use Rattle.bicep_tree.specs.declared.leaf.TypeName.TheVariants as name
use Rattle.bicep_tree.specs.Tree as tree
use Rattle.bicep_tree.specs.Tree.{Tree, Trees, DecoratorTrees}
use Rattle.std.specs.declared.alloc.AllocError.{AllocError}
use Rattle.arm_value.proofs.SameLemmas.{items-row}
use Rattle.bicep_meaning.specs.Instances as source
use Rattle.parameter_rules.specs.Rules.{plain_kind, secret_kind, kind_by, is_secret, bounds_of, allowed_of, accepts}
use Rattle.parameter_rules.specs.Files.{IsTyped}
use Rattle.parameter_rules.specs.Rules.{values_in, accepts_by}
use Rattle.parameter_rules.specs.Literals.{row_of}

text_same : (j : Json) → rule.is_text j ≡ source.is_of name.String j
text_same null = refl
text_same (bool b) = refl
text_same (int z) = refl
text_same (text s) = refl
text_same (array js) = refl
text_same (object ms) = refl

int_same : (j : Json) → rule.is_int j ≡ source.is_of name.Int j
int_same null = refl
int_same (bool b) = refl
int_same (int z) = refl
int_same (text s) = refl
int_same (array js) = refl
int_same (object ms) = refl

bool_same : (j : Json) → rule.is_bool j ≡ source.is_of name.Bool j
bool_same null = refl
bool_same (bool b) = refl
bool_same (int z) = refl
bool_same (text s) = refl
bool_same (array js) = refl
bool_same (object ms) = refl

object_same : (j : Json) → rule.is_of (plain_kind name.Object) j ≡ source.is_of name.Object j
object_same null = refl
object_same (bool b) = refl
object_same (int z) = refl
object_same (text s) = refl
object_same (array js) = refl
object_same (object ms) = refl

array_same : (j : Json) → rule.is_of (plain_kind name.Array) j ≡ source.is_of name.Array j
array_same null = refl
array_same (bool b) = refl
array_same (int z) = refl
array_same (text s) = refl
array_same (array js) = refl
array_same (object ms) = refl

plain_same : (t : TypeName) (j : Json) → rule.is_of (plain_kind t) j ≡ source.is_of t j
plain_same name.String j = text_same j
plain_same name.Int j = int_same j
plain_same name.Bool j = bool_same j
plain_same name.Object j = object_same j
plain_same name.Array j = array_same j

secret_same : (t : TypeName) (j : Json) → rule.is_of (secret_kind t) j ≡ source.is_of t j
secret_same name.String j = text_same j
secret_same name.Int j = int_same j
secret_same name.Bool j = bool_same j
secret_same name.Object j = object_same j
secret_same name.Array j = array_same j

kind_same : (b : Bool) (t : TypeName) (j : Json) → rule.is_of (kind_by b t) j ≡ source.is_of t j
kind_same false t j = plain_same t j
kind_same true t j = secret_same t j

abbrev breach_by : Bool → Bool → Bool → Option Breach
breach_by a b c =
    if a then (if b then (if c then None else Some OutOfBounds) else Some NotAllowed) else Some WrongType

decided : (a b c : Bool) → is_none (breach_by a b c) ≡ a && (b && c)
decided false b c = refl
decided true false c = refl
decided true true false = refl
decided true true true = refl

pub rule_is : (t : TypeName) (ds : DecoratorTrees) (q : Parameter) → q.kind ≡ kind_by (is_secret ds) t
    → q.bounds ≡ bounds_of ds → q.allowed_values ≡ allowed_of ds → (j : Json)
    → is_none (rule.breach q j) ≡ accepts t ds j
rule_is t ds q kind bounds allowed j =
    let typed : rule.is_of q.kind j ≡ source.is_of t j =
    ap (λ (x : ValueType). rule.is_of x j) kind ∙ kind_same (is_secret ds) t j in
    let listed : rule.is_allowed q.allowed_values j ≡ rule.is_allowed (allowed_of ds) j =
    ap (λ (o : Option (List Json)). rule.is_allowed o j) allowed in
    let within : rule.is_within q.bounds j ≡ rule.is_within (bounds_of ds) j =
    ap (λ (x : Bounds). rule.is_within x j) bounds in
    decided (rule.is_typed q j) (rule.is_allowed q.allowed_values j) (rule.is_within q.bounds j)
    ∙ (λ i. (typed i && nat_le (nesting j) 100) && (listed i && within i))

-- ---- what is made of the parts

pub values_are : (e : Tree) (at : ℕ) (es : Trees) → e ≡ tree.array at es → (r : Result (List Json) AllocError)
    → IfOk r (λ js. row js ≡ row_of es) → IfOk r (λ js. js ≡ values_in e)
values_are e at es is (Ok js) h = sym (items-row js) ∙ ap items h ∙ ap values_in (sym is)
values_are e at es is (Err x) h = tt

-- a parameter of this type and with these bounds
abbrev pub HasKind : ValueType → Bounds → Parameter → Type 0
HasKind k b q = (q.kind ≡ k) × (q.bounds ≡ b) × (q.default_value ≡ None)

pub kinds_are : (t : TypeName) (ds : DecoratorTrees) (k : ValueType) (b : Bounds) (r : Result Parameter AllocError)
    → k ≡ kind_by (is_secret ds) t → b ≡ bounds_of ds → IfOk r (HasKind k b)
    → IfOk r (HasKind (kind_by (is_secret ds) t) (bounds_of ds))
kinds_are t ds k b (Ok q) e f h = (h.0 ∙ e, h.1 ∙ f, h.2)
kinds_are t ds k b (Err x) e f h = tt

pub rules_are : (t : TypeName) (ds : DecoratorTrees) (r : Result Parameter AllocError)
    → IfOk r (λ q. q.allowed_values ≡ allowed_of ds) → IfOk r (HasKind (kind_by (is_secret ds) t) (bounds_of ds))
    → IfOk r (λ q. (j : Json) → is_none (rule.breach q j) ≡ accepts t ds j)
rules_are t ds (Ok q) allowed h = rule_is t ds q h.0 h.1 allowed
rules_are t ds (Err x) allowed h = tt

-- a parameter that is that of a name, a type and decorators
pub by_typed : (name : Option (List ℕ)) (o : Option TypeName) (ds : DecoratorTrees) (q : Parameter)
    → IsTyped name o ds (Some q) → (j : Json) → is_none (rule.breach q j) ≡ accepts_by o ds j
by_typed name None ds q h j = absurd h
by_typed None (Some t) ds q h j = absurd h
by_typed (Some x) (Some t) ds q h j = h.rule j
