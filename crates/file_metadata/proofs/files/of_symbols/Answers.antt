use Rattle.std.proofs.Common.{map, ap, ◌∙◌, sym, subst}
use Rattle.bicep_tree.specs.View as view
use Rattle.symbol_decorators.specs.View.{decorators_at}
use Rattle.symbol_decorators.specs.Decorators.{decorators_of}
use Rattle.parameter_rules.specs.Files.{AllNest}
use Rattle.parameter_rules.proofs.DepthLemmas.{all_nest}
use Rattle.file_metadata.proofs.LoopLemmas.{of_file}
use Rattle.file_metadata.proofs.files.of_symbols.Goals as goal

pub of_each-requires : goal.of_each-requires
of_each-requires c =
    subst AllNest (sym (ap (map decorators_at) c.as_slice.ensures.value ∙ c.in_ok-all.ensures))
    (all_nest (view.file_of c.args.file.now) c.requires)

pub returns : goal.returns
returns c =
    of_file (map decorators_at c.as_slice.result.now) (decorators_of (view.file_of c.args.file.now))
    (ap (map decorators_at) c.as_slice.ensures.value ∙ c.in_ok-all.ensures) c.of_each.result c.of_each.ensures
