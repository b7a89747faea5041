use Rattle.std.proofs.Common.{sym, ◌∙◌}
use Rattle.std.proofs.lemmas.List.{length-map}
use Rattle.bicep_symbols.specs.Entries.{symbol_of}
use Rattle.bicep_symbols.proofs.listing.count.Goals as goal

pub returns : goal.returns
returns c = c.len.ensures ∙ c.args.out.now.ok.0 ∙ sym (length-map c.args.out.now.items symbol_of)
