use Rattle.std.proofs.Common.{◌∙◌, length, sym, ap}
use Rattle.std.proofs.lemmas.List.{length-map}
use Rattle.bicep_declared.specs.View.{output_tree}
use Rattle.file_counts.proofs.counts.outputs.Goals as goal

pub returns : goal.returns
returns c = sym (length-map c.args.outputs.now output_tree) ∙ ap length c.requires
