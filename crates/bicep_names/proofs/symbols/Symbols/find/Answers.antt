use Rattle.std.proofs.Common.{rules, encode_utf8_all, Some, None}
use Rattle.bicep_names.proofs.SymbolLemmas.{symbol_is}
use Rattle.bicep_names.proofs.symbols.Symbols.find.Goals as goal

pub returns-in-Some : goal.returns-in-Some
returns-in-Some c =
    let e =
    symbol_is (encode_utf8_all c.args.name.now) c.self.inside.named.entries (Some c.in-Some.number)
    (Some c.in-Some.kind.now) (search rules) (search rules) in
    let v = c.self.view_is in
    cc (c.in-Some.kind-is, c.in-Some.number-is)

pub returns-in-None : goal.returns-in-None
returns-in-None c =
    let e = symbol_is (encode_utf8_all c.args.name.now) c.self.inside.named.entries None None (search rules)
    (search rules) in
    let v = c.self.view_is in
    cc
