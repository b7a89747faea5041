use Rattle.std.proofs.Common.{ℕ, List, sym, ap, ◌∙◌, subst}
use Rattle.bicep_symbols.specs.Repeated.{repeated_symbol}
use Rattle.kept_templates.specs.Found.{Differ}
use Rattle.kept_templates.specs.Lists.{output_text}
use Rattle.program_templates.proofs.NameLemmas.{outputs_differ}
use Rattle.program_templates.proofs.laws.checked_names_differ.Goals as goal

pub returns : goal.returns
returns c = λ files rs h none k r is f symbols outputs. record {
  symbols =
      c.symbols_differ.ensures f
      (ap repeated_symbol symbols ∙ c.checked_files_repeat_no_name.ensures files rs h none k r is);
  outputs =
      subst (λ (xs : List (List ℕ)). Differ output_text xs) (sym outputs) (outputs_differ files rs h none k r is);
}
