-- Which templates are written so that the value describes them. Each template that a value describes is one of these.
use Rattle.std.specs.Prelude.{◌≡◌, ℕ, nat_le, codes, true, false, List, [], ◌∷◌, map, Option, Some, None}
use Rattle.std.specs.Prelude.{is_some}
use Rattle.std.specs.List.Sorted.{IsStrictlySortedBy}
use Rattle.arm_value.specs.Json.{key_cmp, keys}
use Rattle.template_parts.specs.declared.content.Content.{Content}
use Rattle.template_parts.specs.declared.content.Content.TheVariants as content
use Rattle.template_parts.specs.declared.declaration.Declaration.{Declaration}
use Rattle.template_parts.specs.declared.looping.Batches.{Batches}
use Rattle.template_parts.specs.declared.looping.Batches.TheVariants.{Parallel, Serial}
use Rattle.template_parts.specs.declared.looping.ResourceCopy.{ResourceCopy}
use Rattle.template_parts.specs.declared.mode.Form.{Form}
use Rattle.template_parts.specs.declared.mode.Form.TheVariants.{One, Two}
use Rattle.template_parts.specs.declared.variable.Variable.{Variable}
use Rattle.template_meaning.specs.Parts.{is_copy}
use Rattle.template_meaning.specs.Resources.{is_named, is_outside}
use Rattle.template_tree.specs.Tree.{Header, TemplateTree, template, ResourceTree, resource, BodyTree, body_members}
use Rattle.template_tree.specs.Tree.{deployment, Trees, no_resources, a_resource}
use Rattle.template_written.specs.Parts.{plain_variables}
use Rattle.template_written.specs.Written.{tree_symbol}

-- names in byte order, each once: those of parts, and those of members
abbrev pub AreInOrder : List (List ℕ) → Type 0
AreInOrder names = IsStrictlySortedBy key_cmp names

-- no member makes loops
abbrev pub NoneLoops : List (List ℕ) → Type 0
NoneLoops [] = Unit {0}
NoneLoops (n ∷ ns) = (is_copy n ≡ false) × NoneLoops ns

-- the first where it is a value, the second where a loop gives it
abbrev pub by_content : Content → Type 0 → Type 0 → Type 0
by_content (content.Value v) P Q = P
by_content (content.Copy count input) P Q = Q

abbrev pub AllLoop : List Variable → Type 0
AllLoop [] = Unit {0}
AllLoop (v ∷ vs) = by_content v.content ⊥ (AllLoop vs)

-- the variables that loops give come after all others
abbrev pub LoopsLast : List Variable → Type 0
LoopsLast [] = Unit {0}
LoopsLast (v ∷ vs) = by_content v.content (LoopsLast vs) (AllLoop vs)

pub record KeepsVariables (vs : List Variable) : Type 0 where
  pub order : AreInOrder (keys (plain_variables vs))
  pub named : NoneLoops (keys (plain_variables vs))
  pub loops : LoopsLast vs

pub record KeepsHeader (h : Header) : Type 0 where
  pub parameters : AreInOrder (map (λ p. p.name) h.parameters)
  pub variables : KeepsVariables h.variables
  pub outputs : AreInOrder (map (λ o. o.name) h.outputs)

-- a resource has a symbolic name in form Two alone, and only one that has may exist already
abbrev pub KeepsSymbol : Form → Declaration → Type 0
KeepsSymbol One d = (d.symbol ≡ None) × (d.existing ≡ false)
KeepsSymbol Two d = is_some d.symbol ≡ true

-- a batch has at most 800 instances
abbrev pub KeepsBatches : Batches → Type 0
KeepsBatches Parallel = Unit {0}
KeepsBatches (Serial n) = nat_le n 800 ≡ true

abbrev pub KeepsCopy : Option ResourceCopy → Type 0
KeepsCopy None = Unit {0}
KeepsCopy (Some c) = KeepsBatches c.batches

-- no member declares the resource with the symbolic name, or is beside its body
abbrev pub AllInside : Option (List ℕ) → List (List ℕ) → Type 0
AllInside symbol [] = Unit {0}
AllInside symbol (n ∷ ns) = (is_outside symbol n ≡ false) × AllInside symbol ns

abbrev pub deployments : List ℕ
deployments = codes "Microsoft.Resources/deployments"

abbrev pub symbols : Trees → List (List ℕ)
symbols no_resources = []
symbols (a_resource r rs) = tree_symbol r ∷ symbols rs

abbrev pub KeepsSymbols : Form → Trees → Type 0
KeepsSymbols One rs = Unit {0}
KeepsSymbols Two rs = AreInOrder (symbols rs)

abbrev mutual
  pub Keeps : TemplateTree → Type 0
  Keeps (template h rs) = KeepsHeader h × KeepsSymbols h.form rs × KeepEach h.form rs

  pub KeepEach : Form → Trees → Type 0
  KeepEach f no_resources = Unit {0}
  KeepEach f (a_resource r rs) = KeepsResource f r × KeepEach f rs

  -- the children of a resource have no symbolic names
  pub KeepsResource : Form → ResourceTree → Type 0
  KeepsResource f (resource d b rs) =
      KeepsSymbol f d × KeepsCopy d.copy × KeepsBody d b × KeepEach One rs

  -- exactly a resource of the type of nested deployments has a template
  pub KeepsBody : Declaration → BodyTree → Type 0
  KeepsBody d (body_members ms) = (is_named deployments d.kind ≡ false) × AllInside d.symbol (keys ms)
  KeepsBody d (deployment s ps t) =
      (is_named deployments d.kind ≡ true) × AreInOrder (map (λ a. a.name) ps)
      × NoneLoops (map (λ a. a.name) ps) × Keeps t

-- the same in a template of either form, and of any declaration
abbrev pub EachKept : Trees → Type 0
EachKept rs = (f : Form) × KeepEach f rs

abbrev pub ResourceKept : ResourceTree → Type 0
ResourceKept r = (f : Form) × KeepsResource f r

abbrev pub BodyKept : BodyTree → Type 0
BodyKept b = (d : Declaration) × KeepsBody d b
