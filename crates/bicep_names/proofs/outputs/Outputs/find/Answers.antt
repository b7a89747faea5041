use Rattle.std.proofs.Common.{◌≡◌, rules, encode_utf8_all, sym, ap, ◌∙◌, bytes_eq}
use Rattle.std.specs.Prelude.{position}
use Rattle.bicep_names.proofs.SymbolLemmas.{place_is, test}
use Rattle.bicep_names.proofs.outputs.Outputs.find.Goals as goal

pub returns : goal.returns
returns c =
    let q = encode_utf8_all c.args.name.now in
    let e : position (test q) c.self.inside.names.keys ≡ c.get_index_of.result = search rules in
    sym e ∙ sym (place_is q c.self.inside.names.keys) ∙ ap (position (bytes_eq q)) c.self.view_is
