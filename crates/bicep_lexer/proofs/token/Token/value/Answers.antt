use Rattle.std.proofs.Common.{◌∙◌, ap, sym, subst}
use Rattle.std.specs.Str.{chars}
use Rattle.bicep_lexer.specs.Signs.{IsMeant}
use Rattle.bicep_lexer.specs.Values.{value_of}
use Rattle.bicep_lexer.proofs.Meaning.{between_meant}
use Rattle.bicep_lexer.proofs.SignCharacters.{signed_meant}
use Rattle.bicep_lexer.proofs.token.Token.value.Goals as goal

pub returns-clause-meant : goal.returns-clause-meant
returns-clause-meant c signs are between =
    let token = c.args.self.now in
    c.from_string.ensures.characters
    ∙ c.in_ok-value.ensures
    ∙ ap (value_of token.kind) (c.deref.ensures.value ∙ c.in_ok-characters.ensures.characters)
    ∙ between_meant token.kind (chars token.text.now) signs are between

pub returns-clause-signed : goal.returns-clause-signed
returns-clause-signed c signed =
    let token = c.args.self.now in
    let is = c.from_string.ensures.characters
    ∙ c.in_ok-value.ensures
    ∙ ap (value_of token.kind) (c.deref.ensures.value ∙ c.in_ok-characters.ensures.characters) in
    subst (IsMeant token.kind (chars token.text.now)) (sym is)
    (signed_meant token.kind token.text.now signed.0 c.in_ok-characters.ensures.utf8 signed.1 signed.2)
