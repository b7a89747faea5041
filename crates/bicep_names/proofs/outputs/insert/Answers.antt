use Rattle.std.proofs.Common.{ap, ◌∙◌, map, string_bytes}
use Rattle.bicep_names.proofs.SymbolLemmas.{output_added}
use Rattle.bicep_names.proofs.outputs.insert.Goals as goal
use Rattle.bicep_names.proofs.outputs.insert.Goals.{in-Ok, in-Err}

pub returns : goal.returns
returns c = elim c.match-insert_full.branch [
  | in-Ok w ↦
      rw w.result-is
      (ap (map string_bytes) w.in-Ok.ensures.keys ∙ output_added c.args.names.now.keys c.args.key c.requires)
  | in-Err w ↦ let u = w.in-Err.ensures.err in rw w.result-is (ap (map string_bytes) u)
]
