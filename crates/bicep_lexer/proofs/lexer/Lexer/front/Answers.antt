use Rattle.bicep_lexer.proofs.Steps.{front_here, span_here}
use Rattle.bicep_lexer.proofs.lexer.Lexer.front.Goals as goal

pub returns-clause-value : goal.returns-clause-value
returns-clause-value c =
    let s = c.args.self.now in
    front_here s.text.now c.as_bytes-bytes.result.now s.at s.opened.items c.deref.result.now s.line c.front_of.result
    c.as_bytes-bytes.ensures.value c.deref.ensures.value c.front_of.ensures

pub returns-clause-span : goal.returns-clause-span
returns-clause-span c =
    let s = c.args.self.now in
    span_here s.text.now s.at s.opened.items s.line c.front_of.result (returns-clause-value c)
