use Rattle.std.proofs.Common.{ap, sym, length, map, ◌∙◌}
use Rattle.std.specs.Str.{chars}
use Rattle.std.proofs.lemmas.Str.{chars-nil}
use Rattle.emission_tests.specs.Sample.{symbol_of}
use Rattle.emission_tests.proofs.SampleLemmas.{no_type}
use Rattle.emission_tests.proofs.sample.SampleDeclarations.kind.Goals as goal

pub returns : goal.returns
returns c =
    let names = c.args.self.now.names.items in
    c.from_string.ensures.characters ∙ ap chars c.new.ensures.bytes ∙ chars-nil
    ∙ ap (λ t. t.kind) (sym (no_type names (length (map symbol_of names)) c.args._number))
