-- Names of instances, and the texts of `dependsOn` that name them, as lists of numbers.
use Rattle.std.specs.Prelude.{ℕ, Bool, List, [], ◌∷◌, ◌++◌, Option, Some, None, is_some, if◌then◌else◌}
use Rattle.arm_value.specs.Json.{Json, text}
use Rattle.arm_value.specs.Look.{fold}
use Rattle.arm_ids.specs.Segments.{joined}
use Rattle.arm_ids.specs.declared.id.Place.{Place}
use Rattle.arm_ids.specs.declared.id.ResourceId.{ResourceId}
use Rattle.arm_env.specs.Find.{id_key}
use Rattle.plan_tags.specs.Titles.{element}
use Rattle.template_parts.specs.declared.looping.ResourceCopy.{ResourceCopy}
use Rattle.template_parts.specs.declared.mode.Form.{Form}
use Rattle.template_parts.specs.declared.mode.Form.TheVariants.{One, Two}
use Rattle.template_tree.specs.Tree.{TemplateTree}
use Rattle.deploy_cells.specs.Puts.{key_at}
use Rattle.plan_tags.specs.Resources.{Listed}
use Rattle.plan_tags.specs.Needs.{is_loop}
use Rattle.key_tags.specs.KeyCodes.{key_code}

-- in the scope number f: a loop of a folded name, a key, a folded name, and a symbolic name
abbrev pub loop_code : ℕ → List ℕ → List ℕ
loop_code f x = 5 ∷ f ∷ x

abbrev pub keyed : ℕ → ResourceId → List ℕ
keyed f k = 6 ∷ f ∷ key_code k

abbrev pub spelled : ℕ → List ℕ → List ℕ
spelled f x = 7 ∷ f ∷ x

abbrev pub symbolic : ℕ → List ℕ → List ℕ
symbolic f x = 8 ∷ f ∷ x

-- ---- the names that an instance has

abbrev pub loop_names : ℕ → Option ResourceCopy → List (List ℕ)
loop_names f None = []
loop_names f (Some c) = loop_code f (fold c.name) ∷ []

-- in the first form: that of its loop, its key, its type and name, and its full name
abbrev pub names_in_one : ℕ → Place → Listed → List ℕ → List (List ℕ)
names_in_one f place r n =
    loop_names f r.declaration.copy
    ++ (keyed f (key_at place r.type n) ∷ spelled f (fold (r.type ++ 47 ∷ n))
    ∷ spelled f (fold (joined (key_at place r.type n).names)) ∷ [])

abbrev pub symbol_names : ℕ → ℕ → Bool → Option (List ℕ) → List (List ℕ)
symbol_names f i looped None = []
symbol_names f i looped (Some x) = symbolic f x ∷ (if looped then symbolic f (element x i) ∷ [] else [])

-- in the second form: its symbolic name, that with its index where it is looped, and its key
abbrev pub names_in_two : ℕ → Place → Listed → ℕ → List ℕ → List (List ℕ)
names_in_two f place r i n =
    symbol_names f i (is_some r.declaration.copy) r.declaration.symbol ++ keyed f (key_at place r.type n) ∷ []

-- of an instance of a resource of the scope number f, with its index and its name
abbrev pub names_of : ℕ → Form → Place → Listed → ℕ → List ℕ → List (List ℕ)
names_of f One place r i n = names_in_one f place r n
names_of f Two place r i n = names_in_two f place r i n

-- ---- the names for which a text asks

abbrev pub key_asks : ℕ → Option ResourceId → List (List ℕ)
key_asks f None = []
key_asks f (Some k) = keyed f k ∷ []

abbrev pub asks_in_one : ℕ → Bool → List ℕ → List (List ℕ)
asks_in_one f is_loops x =
    if is_loops then loop_code f (fold x) ∷ [] else spelled f (fold x) ∷ key_asks f (id_key x)

abbrev pub asks_in_two : ℕ → List ℕ → List (List ℕ)
asks_in_two f x = symbolic f x ∷ key_asks f (id_key x)

abbrev pub text_asks : ℕ → Form → Option TemplateTree → List ℕ → List (List ℕ)
text_asks f One t x = asks_in_one f (is_loop x t) x
text_asks f Two t x = asks_in_two f x

-- a value that is no text asks for nothing
abbrev pub value_asks : ℕ → Form → Option TemplateTree → Json → List (List ℕ)
value_asks f form t (text x) = text_asks f form t x
value_asks f form t _ = []

abbrev pub values_ask : ℕ → Form → Option TemplateTree → List Json → List (List ℕ)
values_ask f form t [] = []
values_ask f form t (v ∷ vs) = value_asks f form t v ++ values_ask f form t vs
