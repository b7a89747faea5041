-- What an expression of a template reads, by where it is.
use Rattle.std.specs.Prelude.{ℕ, Bool, true, false, List, [], ◌∷◌, ◌++◌, Option, Some, None, bytes_eq, codes}
use Rattle.std.specs.Prelude.{zero, suc, is_some, option_map, option_and_then, slice_get, if◌then◌else◌}
use Rattle.template_parameters.specs.Json.{Json, text}
use Rattle.template_parameters.specs.Look.{fold}
use Rattle.template_parameters.specs.View.{json}
use Rattle.deploy_cells.specs.Place.{Place}
use Rattle.deploy_cells.specs.ResourceId.{ResourceId}
use Rattle.reading.specs.Reading.{done, ask, pure, read, continued, through}
use Rattle.arm_eval.specs.Looping.{Looping}
use Rattle.arm_eval.specs.Spelled.{Spelled}
use Rattle.arm_eval.specs.Look as look
use Rattle.arm_eval.specs.Look.{Look, Fact, a_value, a_key, a_truth, a_list, Looking, Surroundings}
use Rattle.arm_eval.specs.Find.{names_key, names_only, first_named}
use Rattle.arm_eval.specs.Titles as titles
use Rattle.arm_eval.specs.Titles.{Titles, titled}
use Rattle.template_parameters.specs.Form.{Form}
use Rattle.template_parameters.specs.Form.TheVariants.{One, Two}
use Rattle.template_parameters.specs.Output.{Output}
use Rattle.template_parameters.specs.Parameter.{Parameter}
use Rattle.template_parameters.specs.ValueType.{ValueType}
use Rattle.template_parameters.specs.ValueType.TheVariants as type
use Rattle.template_parameters.specs.Variable.{Variable}
use Rattle.template_parameters.specs.Tree.{TemplateTree}
use Rattle.deploy_cells.specs.Cells.{Step, step, Position, Cell, parameter, variable, offered, output, count, name, deployments, state, copies}
use Rattle.deploy_cells.specs.Guarded.{Reads}
use Rattle.deploy_cells.specs.Listing.{Named, listing_of, Sought, found, left_away, not_here, sought}
use Rattle.deploy_cells.specs.Puts.{key_at}
use Rattle.deploy_cells.specs.Same.{same_id}
use Rattle.deploy_cells.specs.Followed.{followed}
use Rattle.plan_cells.specs.Resources.{Listed, header_in, resources_in, nested_numbers}
use Rattle.plan_cells.specs.Scopes.{template_at, owner, visible, loops_around, loops_inside, own_place}
use Rattle.template_parameters.specs.Kinds.{is_true}
use Rattle.deploy_cells.specs.Members.{deployment_type}

-- what a text of `reference` that is no id means
pub data Texts : Type 0 where
  -- nothing, as in a name
  ids_alone : Texts
  -- a resource of the template, by its type and name or by its full name
  names : Texts
  -- a resource of the template, by its symbolic name
  symbols : Texts

-- where an expression is: the scope of its template, the loops around it, and what texts mean there
pub record Site : Type 0 where
  pub at : Position
  pub loops : List Looping
  pub texts : Texts

-- the first of these of which it is true
abbrev pub first_with : {A : Type 0} → (A → Bool) → List A → Option A
first_with test [] = None
first_with test (x ∷ xs) = if test x then Some x else first_with test xs

-- by a folded name
abbrev pub parameter_named : List ℕ → TemplateTree → Option Parameter
parameter_named x t = first_with (λ p. bytes_eq x (fold p.name)) (header_in t).parameters

abbrev pub variable_named : List ℕ → TemplateTree → Option Variable
variable_named x t = first_with (λ v. bytes_eq x (fold v.name)) (header_in t).variables

abbrev pub output_named : List ℕ → TemplateTree → Option Output
output_named x t = first_with (λ o. bytes_eq x (fold o.name)) (header_in t).outputs

-- the type of an output, as it is written
abbrev pub type_text : ValueType → List ℕ
type_text type.String = codes "string"
type_text type.SecureString = codes "securestring"
type_text type.Int = codes "int"
type_text type.Bool = codes "bool"
type_text type.Object = codes "object"
type_text type.SecureObject = codes "secureObject"
type_text type.Array = codes "array"

-- what a cell has
abbrev pub value_of : Cell → Reads (Option Fact)
value_of c = ask c (λ v. pure (option_map a_value v))

-- what a cell has, where it is declared
abbrev pub declared_value : Bool → Cell → Reads (Option Fact)
declared_value true c = value_of c
declared_value false c = pure None

-- whether the scope declares it
abbrev pub declares : {A : Type 0} → (TemplateTree → Option A) → Option TemplateTree → Bool
declares f o = is_some (option_and_then f o)

-- the key of a nested deployment, by its name
abbrev pub deployment_key : Place → List ℕ → ResourceId
deployment_key place n = key_at place deployment_type n

-- what was found: an instance of a nested deployment of a scope, one that its condition leaves away, or nothing
pub data Found : Type 0 where
  instance : Position → Step → Found
  is_left_away : Found
  is_nowhere : Found

abbrev pub instance_of : Position → Option ℕ → ℕ → Found
instance_of q None i = is_nowhere
instance_of q (Some r) i = instance q (step r i)

abbrev pub found_or : Position → List ℕ → Sought → Reads Found → Reads Found
found_or q rs (found k i) rest = pure (instance_of q (slice_get rs k) i)
found_or q rs left_away rest = pure is_left_away
found_or q rs not_here rest = rest

-- the numbers of the nested deployments of a scope
abbrev pub nested_numbers_at : TemplateTree → Position → List ℕ
nested_numbers_at t q = numbers (template_at t q)
  where
    numbers : Option TemplateTree → List ℕ
    numbers None = []
    numbers (Some u) = nested_numbers u

-- the nested deployment with a name that passes the test, in the first of these scopes that has one
abbrev pub seek : TemplateTree → (List ℕ → Bool) → List Position → Reads Found
seek t test [] = pure is_nowhere
seek t test (q ∷ qs) =
    continued (read (deployments q)) (λ j. found_or q (nested_numbers_at t q) (sought test j) (seek t test qs))

-- whether there is one
abbrev pub truth_of_found : Found → Option Fact
truth_of_found (instance q s) = Some (a_truth true)
truth_of_found is_left_away = None
truth_of_found is_nowhere = Some (a_truth false)

-- the value of an output, where its condition is true
abbrev pub where_offered : Option Json → Cell → Reads (Option Fact)
where_offered v c = declared_value (is_true v) c

abbrev pub output_at : TemplateTree → List ℕ → Found → Reads (Option Fact)
output_at t x (instance q s) =
    if declares (output_named x) (template_at t (s ∷ q))
    then ask (offered (s ∷ q) x) (λ v. where_offered v (output (s ∷ q) x))
    else pure None
output_at t x _ = pure None

abbrev pub declared_output : Output → look.Declared
declared_output o = record { name = o.name; kind = type_text o.kind }

abbrev pub kept_output : Option Json → Output → List look.Declared → List look.Declared
kept_output v o os = if is_true v then declared_output o ∷ os else os

-- the outputs of a scope that their conditions do not leave away
abbrev pub offered_outputs : Position → List Output → Reads (List look.Declared)
offered_outputs p [] = pure []
offered_outputs p (o ∷ os) =
    ask (offered p (fold o.name)) (λ v. continued (offered_outputs p os) (λ xs. pure (kept_output v o xs)))

abbrev pub outputs_in : Option TemplateTree → List Output
outputs_in None = []
outputs_in (Some t) = (header_in t).outputs

abbrev pub outputs_at : TemplateTree → Found → Reads (Option Fact)
outputs_at t (instance q s) =
    continued (offered_outputs (s ∷ q) (outputs_in (template_at t (s ∷ q)))) (λ xs. pure (Some (a_list xs)))
outputs_at t _ = pure None

-- the name that is a text
abbrev pub spelled_by : Place → List ℕ → Json → Option Spelled
spelled_by place kind (text n) = Some (record { spelling = kind ++ 47 ∷ n; key = key_at place kind n })
spelled_by place kind _ = None

-- the names of n instances of a resource from index i on
abbrev pub instances_spelled : Place → Position → ℕ → List ℕ → ℕ → ℕ → Reads (List Spelled)
instances_spelled place p r kind i zero = pure []
instances_spelled place p r kind i (suc n) =
    continued (read (name p (step r i))) (λ j. continued (done (spelled_by place kind j)) (λ x.
    continued (instances_spelled place p r kind (suc i) n) (λ xs. pure (x ∷ xs))))

abbrev pub resource_spelled : Place → Position → ℕ → Listed → Reads (List Spelled)
resource_spelled place p r x =
    if x.declaration.existing then pure []
    else continued (read (count p r)) (λ v. instances_spelled place p r x.type 0 (copies (Some v)))

-- the names of all instances of a template, where the first resource has the number r
abbrev pub all_spelled : Place → Position → ℕ → List Listed → Reads (List Spelled)
all_spelled place p r [] = pure []
all_spelled place p r (x ∷ xs) =
    continued (resource_spelled place p r x) (λ ys. continued (all_spelled place p (suc r) xs) (λ zs. pure (ys ++ zs)))

abbrev pub first_name : (List ℕ → Bool) → List Named → Option (List ℕ)
first_name test ns = option_map (λ n. n.name) (first_with (λ n. test n.name) ns)

abbrev pub concat : List (List Named) → List Named
concat [] = []
concat (ns ∷ nss) = ns ++ concat nss

abbrev pub named_or : Option (List ℕ) → Reads (Option (List ℕ)) → Reads (Option (List ℕ))
named_or None rest = rest
named_or (Some n) rest = pure (Some n)

-- the name of a nested deployment that passes the test, from the first of these scopes that has one
abbrev pub seek_name : (List ℕ → Bool) → List Position → Reads (Option (List ℕ))
seek_name test [] = pure None
seek_name test (q ∷ qs) =
    continued (read (deployments q)) (λ j. named_or (first_name test (concat (listing_of j))) (seek_name test qs))

-- the key of a resource of the template that the text names alone, or else that of a nested deployment around
abbrev pub key_by : Place → List ℕ → List Position → List Spelled → Option ResourceId → Reads (Option Fact)
key_by place t around ss (Some k) = pure (if names_only t k ss then Some (a_key k) else None)
key_by place t around ss None =
    continued (seek_name (λ n. names_key t (deployment_key place n)) around)
    (λ o. pure (option_map (λ n. a_key (deployment_key place n)) o))

abbrev pub all_but_first : List Position → List Position
all_but_first [] = []
all_but_first (q ∷ qs) = qs

abbrev pub listed_at_scope : Option TemplateTree → List Listed
listed_at_scope None = []
listed_at_scope (Some t) = resources_in t

-- what a text names
abbrev pub named_at : TemplateTree → Place → Position → List ℕ → Reads (Option Fact)
named_at t place p x =
    continued (all_spelled place p 0 (listed_at_scope (template_at t p)))
    (λ ss. key_by place x (all_but_first (visible t p)) ss (first_named x ss))

abbrev pub named_by_texts : Texts → TemplateTree → Place → Position → List ℕ → Reads (Option Fact)
named_by_texts names t place p x = named_at t place p x
named_by_texts _ t place p x = pure None

module _ (t : TemplateTree) (place : Place) (e : Site) where
  -- the reading in the place of each cell that an expression looks at
  abbrev pub looked_up : Look → Reads (Option Fact)
  looked_up (look.parameter x) =
      declared_value (declares (parameter_named x) (template_at t (owner t e.at))) (parameter (owner t e.at) x)
  looked_up (look.variable x) =
      declared_value (declares (variable_named x) (template_at t (owner t e.at))) (variable (owner t e.at) x)
  looked_up (look.output k x) =
      continued (seek t (λ n. same_id k (deployment_key place n)) (visible t e.at)) (output_at t x)
  looked_up (look.state k) = value_of (state k)
  looked_up (look.named x) = named_by_texts e.texts t place e.at x
  looked_up (look.deployment k) =
      continued (seek t (λ n. same_id k (deployment_key place n)) (visible t e.at)) (λ f. pure (truth_of_found f))
  looked_up (look.outputs k) =
      continued (seek t (λ n. same_id k (deployment_key place n)) (visible t e.at)) (outputs_at t)

abbrev pub title_in : Json → Option (List ℕ)
title_in (text n) = Some n
title_in _ = None

-- a resource with a symbolic name and a text as its name
abbrev pub symbol_by : Listed → Option (List ℕ) → Option (List ℕ) → List titles.Listed
symbol_by r (Some symbol) (Some title) =
    record {
      symbol = record { name = symbol; kind = r.type; title = title; looped = is_some r.declaration.copy };
      copy = option_map (λ c. c.name) r.declaration.copy;
    } ∷ []
symbol_by r _ _ = []

abbrev pub symbols_in : List Listed → List titles.Listed
symbols_in [] = []
symbols_in (r ∷ rs) = symbol_by r r.declaration.symbol (title_in (json r.declaration.name)) ++ symbols_in rs

-- the symbolic names of a scope, and the loops around it
abbrev pub titles_at : TemplateTree → Position → Titles
titles_at t p = record { symbols = symbols_in (listed_at_scope (template_at t p)); loops = loops_around t p }

-- where texts are symbolic names these are followed
abbrev pub by_texts : {A : Type 0} → Texts → TemplateTree → Place → Position → Looking A → Looking A
by_texts symbols t place p r = through (titled (titles_at t p) place) r
by_texts ids_alone t place p r = r
by_texts names t place p r = r

-- what reads at a site, in a place
abbrev pub reading_in : {A : Type 0} → TemplateTree → Site → (Surroundings → Looking A) → Place → Reads A
reading_in t e f place =
    followed (looked_up t place e) (by_texts e.texts t place e.at (f (record { loops = e.loops; place = place })))

-- what reads at a site, where the root is deployed in a place
unfoldable pub reading_at : {A : Type 0} → TemplateTree → Place → Site → (Surroundings → Looking A) → Reads A
reading_at t place e f = continued (own_place place (owner t e.at)) (reading_in t e f)

abbrev pub texts_by : Form → Texts
texts_by One = names
texts_by Two = symbols

-- in a condition and a count of the first form a text is an id alone: it would need every name
abbrev pub early_texts_by : Form → Texts
early_texts_by One = ids_alone
early_texts_by Two = symbols

abbrev pub form_at : Option TemplateTree → Form
form_at None = One
form_at (Some t) = (header_in t).form

-- in a scope outside of its resources, and in the count of a resource
abbrev pub scope_site : TemplateTree → Position → Site
scope_site t p = record { at = p; loops = loops_around t p; texts = texts_by (form_at (template_at t p)) }

abbrev pub count_site : TemplateTree → Position → Site
count_site t p = record { at = p; loops = loops_around t p; texts = early_texts_by (form_at (template_at t p)) }

-- in an instance: its body and arguments, its condition, its name
abbrev pub body_site : TemplateTree → Position → Step → Site
body_site t p s = record { at = p; loops = loops_inside t p s; texts = texts_by (form_at (template_at t p)) }

abbrev pub condition_site : TemplateTree → Position → Step → Site
condition_site t p s =
    record { at = p; loops = loops_inside t p s; texts = early_texts_by (form_at (template_at t p)) }

abbrev pub name_site : TemplateTree → Position → Step → Site
name_site t p s = record { at = p; loops = loops_inside t p s; texts = ids_alone }

-- the one reading in the place of each cell that an expression at a site looks at: where texts are symbolic names,
-- what the symbol of a text means is read there
abbrev pub followed_text : Texts → TemplateTree → Place → Site → Look → Reads (Option Fact)
followed_text symbols t place e c = followed (looked_up t place e) (titled (titles_at t e.at) place c)
followed_text ids_alone t place e c = looked_up t place e c
followed_text names t place e c = looked_up t place e c

abbrev pub seen_at : TemplateTree → Place → Site → Look → Reads (Option Fact)
seen_at t place e c = followed_text e.texts t place e c

abbrev pub surroundings : Site → Place → Surroundings
surroundings e place = record { loops = e.loops; place = place }
