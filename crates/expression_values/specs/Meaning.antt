-- The value of an expression, and what is looked at for it.
use Rattle.std.specs.Prelude.{ℕ, Bool, true, false, List, [], ◌∷◌, Option, Some, None, option_map, codes}
use Rattle.arm_value.specs.Json.{Json, int, text}
use Rattle.arm_value.specs.Look.{fold}
use Rattle.arm_value.specs.Look as members
use Rattle.arm_ids.specs.declared.id.ResourceId.{ResourceId}
use Rattle.arm_expr.specs.Tree as tree
use Rattle.arm_expr.specs.Tree.{Tree, Trees}
use Rattle.arm_functions.specs.Values.{function_value}
use Rattle.arm_functions.specs.Kinds.{of_none}
use Rattle.arm_env.specs.Reading.{done, ask, pure, none, continued, both}
use Rattle.arm_env.specs.declared.function.Asked.{Asked}
use Rattle.arm_env.specs.declared.function.Asked.TheVariants.{Properties, Whole}
use Rattle.arm_env.specs.declared.function.Lazy.{Lazy}
use Rattle.arm_env.specs.declared.function.Strict.{Strict}
use Rattle.arm_env.specs.declared.function.Strict.TheVariants as strict
use Rattle.arm_env.specs.Look as look
use Rattle.arm_env.specs.Look.{parameter, variable, state, named, Looking, Surroundings, all, seen, json_in, key_in, truth_in}
use Rattle.arm_env.specs.Names.{lazy_named, strict_named}
use Rattle.arm_env.specs.Loop.{copy_index}
use Rattle.arm_env.specs.Id.{resource_id, subscription_id}
use Rattle.arm_env.specs.Object as object
use Rattle.arm_env.specs.Find.{id_key}
use Rattle.expression_values.specs.Row.{lazy_row, only_text, asked}
use Rattle.arm_env.specs.Held.{Held, state_whole, deployment, capped, held_value, forced, access, access_by}
use Rattle.arm_functions.specs.Cuts.{texts_in}

-- the state at a key, or its properties
abbrev pub state_asked : ResourceId → Asked → Looking Held
state_asked k Properties =
    held_value (continued (seen json_in (state k)) (λ s. done (members.look (codes "properties") s)))
state_asked k Whole = continued (seen json_in (state k)) (λ s. pure (state_whole s))

-- a nested deployment, or else a resource
abbrev pub found_at : Asked → ResourceId → Bool → Looking Held
found_at a k true = pure (deployment k)
found_at a k false = state_asked k a

abbrev pub referred : Asked → ResourceId → Looking Held
referred a k = continued (seen truth_in (look.deployment k)) (found_at a k)

-- the key of an id, or that which another text stands for
abbrev pub key_meant : List ℕ → Option ResourceId → Looking ResourceId
key_meant t (Some k) = pure k
key_meant t None = seen key_in (named t)

abbrev pub reference : List ℕ × Asked → Looking Held
reference p = continued (key_meant p.0 (id_key p.0)) (referred p.1)

-- the functions of the values of all their arguments
abbrev pub strict_row : Surroundings → Strict → List Json → Looking Held
strict_row here strict.Parameters vs =
    continued (done (only_text vs)) (λ name. held_value (seen json_in (parameter (fold name))))
strict_row here strict.Variables vs =
    continued (done (only_text vs)) (λ name. held_value (seen json_in (variable (fold name))))
strict_row here strict.Reference vs = continued (done (asked vs)) reference
strict_row here strict.CopyIndex vs = held_value (done (copy_index here.loops vs))
strict_row here strict.ResourceId vs =
    continued (done (texts_in vs))
    (λ ts. held_value (done (option_map text (resource_id here.place ts))))
strict_row here strict.SubscriptionResourceId vs =
    continued (done (texts_in vs))
    (λ ts. held_value (done (option_map text (subscription_id here.place ts))))
strict_row here strict.ResourceGroup vs =
    held_value (done (of_none (object.resource_group here.place) vs))
strict_row here strict.Subscription vs =
    held_value (done (of_none (object.subscription here.place) vs))
strict_row here strict.Deployment vs = held_value (done (of_none (object.deployment here.place) vs))

-- any other function, or none of the name
abbrev pub strict_call : Surroundings → List ℕ → Option Strict → List Json → Looking Held
strict_call here name (Some f) vs = strict_row here f vs
strict_call here name None vs = held_value (done (function_value name vs))

abbrev pub call_by : Surroundings → List ℕ → Option Lazy → List (Looking Json) → Looking Held
call_by here name (Some f) os = held_value (lazy_row f os)
call_by here name None os = continued (all os) (strict_call here name (strict_named name))

-- the call of a function by its name, from what its arguments give
unfoldable pub called : Surroundings → List ℕ → List (Looking Json) → Looking Held
called here name os = call_by here name (lazy_named name) os

-- the value of what is held, where no part of it is accessed
unfoldable pub used : Looking Held → Looking Json
used o = capped (continued o forced)

-- always a value: that of the reading, or that it has none
unfoldable pub outcome : {A : Type 0} → Looking A → Looking (Option A)
outcome (done o) = done (Some o)
outcome (ask c k) = ask c (λ v. outcome (k v))

-- an access where the whole may have no value
abbrev pub indexed : Option Held → Option Json → Looking Held
indexed None i = none
indexed (Some h) i = access_by h i

-- what an expression gives to an access to a part of it; an index is looked at also after a whole
-- without a value
abbrev mutual
  pub held : Surroundings → Tree → Looking Held
  held here (tree.text t) = held_value (pure (text t))
  held here (tree.int z) = held_value (pure (int z))
  held here (tree.call name es) = called here name (values here es)
  held here (tree.member e name) = continued (held here e) (λ h. access h (text name))
  held here (tree.index e i) =
      continued (both (outcome (held here e)) (outcome (used (held here i))))
      (λ p. indexed p.0 p.1)

  -- what arguments give
  pub values : Surroundings → Trees → List (Looking Json)
  values here tree.none = []
  values here (tree.more e es) = used (held here e) ∷ values here es

-- the value of an expression
abbrev pub value : Surroundings → Tree → Looking Json
value here e = used (held here e)
