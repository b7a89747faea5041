-- The parameters of a file are those of its symbols that are parameters.
use Rattle.std.proofs.Common.{◌≡◌, ℕ, List, Option, Some, None, refl, sym, ap, ◌∙◌}
use Rattle.std.specs.Prelude.{is_some, option_map, slice_get}
use Rattle.foundation.proofs.Options.{same_some}
use Rattle.template_parts.specs.declared.parameter.Parameter.{Parameter}
use Rattle.bicep_tree.specs.declared.leaf.TypeName.{TypeName}
use Rattle.bicep_tree.specs.Tree.{DecoratorTrees, FileTree}
use Rattle.bicep_symbols.specs.Entries.{Symbol}
use Rattle.bicep_meaning.specs.Files.{declaration}
use Rattle.bicep_meaning.specs.Instances.{is_parameter}
use Rattle.symbol_decorators.specs.Decorators.{decorators_of}
use Rattle.parameter_rules.specs.Files.{IsTyped, IsParameterAt}
use Rattle.parameter_rules.specs.Rules.{type_of, or_no}
use Rattle.kept_templates.specs.Seen.{Shape, file_in}
use Rattle.kept_templates.specs.Lists.{AreRules, rule_at}
use Rattle.program_templates.specs.Kinds.{HasKinds}

-- there is a parameter exactly where there is a type
there_by : (x : Option Symbol) (t : Option TypeName) (ds : DecoratorTrees) (o : Option Parameter)
    → IsTyped (option_map (λ s. s.1) x) t ds o → is_parameter (option_map (λ s. s.2) x) ≡ is_some t
    → is_some o ≡ is_parameter (option_map (λ s. s.2) x)
there_by (Some s) (Some t) ds (Some q) h e = sym e
there_by (Some s) (Some t) ds None h e = absurd h
there_by None (Some t) ds (Some q) h e = absurd h
there_by None (Some t) ds None h e = refl
there_by x None ds (Some q) h e = absurd h
there_by x None ds None h e = sym e

-- and it has the name
named_by : (x : Option (List ℕ)) (t : Option TypeName) (ds : DecoratorTrees) (o : Option Parameter) (p : Parameter)
    → IsTyped x t ds o → o ≡ Some p → x ≡ Some p.name
named_by (Some y) (Some t) ds (Some q) p h e =
    ap (λ z. Some z) (sym h.name_is) ∙ ap (λ (z : Parameter). Some z.name) (same_some e)
named_by (Some y) (Some t) ds None p h e = absurd h
named_by None (Some t) ds (Some q) p h e = absurd h
named_by None (Some t) ds None p h e = absurd cc
named_by x None ds (Some q) p h e = absurd h
named_by x None ds None p h e = absurd cc

pub all_there : (t : FileTree) (s : Shape) (rs : List (Option Parameter)) → HasKinds (file_in s)
    → ((n : ℕ) → IsParameterAt t (file_in s) n (rule_at s rs n)) → AreRules s rs
all_there t s rs kinds h = record {
  there =
      λ n. there_by (slice_get (file_in s).symbols n) (type_of (declaration (file_in s) n))
      (or_no (slice_get (decorators_of t) n)) (rule_at s rs n) (h n) (kinds.parameters n);
  names =
      λ n p e. named_by (option_map (λ s. s.1) (slice_get (file_in s).symbols n))
      (type_of (declaration (file_in s) n)) (or_no (slice_get (decorators_of t) n)) (rule_at s rs n) p (h n) e;
}
