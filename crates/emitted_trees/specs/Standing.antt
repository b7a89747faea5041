-- Where loops around a value stand for what they mean, also inside its own loops; and what a template reads for values.
use Rattle.std.specs.Prelude.{◌≡◌, ℕ, false, List, [], ◌∷◌, ◌++◌}
use Rattle.arm_env.specs.declared.env.Looping.{Looping}
use Rattle.arm_env.specs.Look.{Looking, Surroundings}
use Rattle.arm_eval.specs.Looped.{looped}
use Rattle.arm_eval.specs.Outputs.{Content, a_tree, a_copy, content_value}
use Rattle.arm_eval.specs.Trees.{tree_value}
use Rattle.arm_value.specs.Json.{Json}
use Rattle.bicep_emission.specs.Around as source
use Rattle.bicep_emission.specs.Around.{Here}
use Rattle.bicep_emission.specs.Answered.{Sides}
use Rattle.bicep_emission.specs.Emitted.{Frame}
use Rattle.bicep_emission.specs.Stands.{FramesStand, surroundings}
use Rattle.emitted_trees.specs.Templates.{TemplateValue}
use Rattle.emitted_trees.specs.Templates as t
use Rattle.emitted_trees.specs.Written.{expression_json, tree_json}

-- loops that are not those of a resource, a module or an output
abbrev pub AreInner : List Looping → Type 0
AreInner [] = Unit {0}
AreInner (l ∷ ls) = (l.main ≡ false) × AreInner ls

-- what loops become stands for what they mean, inside any further loops of values
abbrev pub FramesStandInside : Sides → Here → List Looping → List Frame → List source.Frame → Type 0
FramesStandInside x here ls fs gs =
    (inner : List Looping) → AreInner inner → FramesStand x (surroundings here (inner ++ ls)) fs gs

-- what a template reads for a variable, or for an argument of a nested deployment
abbrev pub named_value : List ℕ → TemplateValue → Surroundings → Looking Json
named_value name (t.plain e) around = tree_value (tree_json e) around
named_value name (t.each c e) around = looped name (expression_json c) (tree_json e) around

-- what gives an output of a template its value
abbrev pub content_of : TemplateValue → Content
content_of (t.plain e) = a_tree (tree_json e)
content_of (t.each c e) = a_copy (record { count = expression_json c; input = tree_json e })

abbrev pub output_value : TemplateValue → Surroundings → Looking Json
output_value v around = content_value (content_of v) around
