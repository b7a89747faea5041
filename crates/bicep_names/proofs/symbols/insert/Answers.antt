use Rattle.std.proofs.Common.{ap, ◌∙◌, map}
use Rattle.bicep_names.specs.Scope.{seen}
use Rattle.bicep_names.proofs.SymbolLemmas.{symbol_added}
use Rattle.bicep_names.proofs.symbols.insert.Goals as goal
use Rattle.bicep_names.proofs.symbols.insert.Goals.{in-Ok, in-Err}

pub returns : goal.returns
returns c = elim c.match-insert.branch [
  | in-Ok w ↦
      rw w.result-is
      (ap (map seen) w.in-Ok.ensures.entries
      ∙ symbol_added c.args.named.now.entries c.args.key c.args.kind 0 c.requires)
  | in-Err w ↦ let u = w.in-Err.ensures.err in rw w.result-is (ap (map seen) u)
]
