use Rattle.std.proofs.Common.{map, ap, ◌∙◌, sym, subst}
use Rattle.bicep_declared.specs.View.{declared_tree}
use Rattle.bicep_symbols.specs.Entries.{symbol_of}
use Rattle.bicep_tree.specs.View as view
use Rattle.symbol_decorators.specs.View.{decorators_at}
use Rattle.parameter_rules.specs.Files.{AllNest}
use Rattle.parameter_rules.proofs.DepthLemmas.{all_nest}
use Rattle.parameter_rules.proofs.FileLemmas.{of_file}
use Rattle.parameter_rules.proofs.files.parameters.Goals as goal

pub of_symbols-requires : goal.of_symbols-requires
of_symbols-requires c =
    subst AllNest (sym (ap (map decorators_at) c.as_slice.ensures.value ∙ c.in_ok-symbols.ensures))
    (all_nest (view.file_of c.args.file.now) c.requires)

pub returns : goal.returns
returns c = λ f p q.
    of_file (view.file_of c.args.file.now) f (map symbol_of c.args.entries.now)
    (map declared_tree c.args.declarations.now) (map decorators_at c.as_slice.result.now) p q
    (ap (map decorators_at) c.as_slice.ensures.value ∙ c.in_ok-symbols.ensures) c.of_symbols.result
    c.of_symbols.ensures
