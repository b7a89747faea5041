use Rattle.std.proofs.Common.{Some, None, lit<, rules, sym}
use Rattle.std.proofs.lemmas.Str.Pattern.{split_parts}
use Rattle.bicep_misplaced.proofs.DividedLemmas.{undivided, divided_there}
use Rattle.bicep_type_texts.proofs.texts.divided.Goals as goal

pub returns-in-None : goal.returns-in-None
returns-in-None c =
    sym (undivided 64 (lit< tt) c.args.text.now c.utf8.text
    (split_parts 64 c.args.text.now None c.in-None.ensures.cases (lit< tt)))

pub returns-in-Some : goal.returns-in-Some
returns-in-Some c =
    let parts =
    split_parts 64 c.args.text.now (Some (c.in-Some.kind, c.in-Some.version)) c.in-Some.ensures.cases (lit< tt) in
    sym (divided_there 64 (lit< tt) c.args.text.now c.in-Some.kind.now c.in-Some.version.now
    (search rules) parts.0 parts.1)
