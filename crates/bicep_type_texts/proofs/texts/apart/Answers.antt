use Rattle.std.proofs.Common.{Some, None, lit<, rules, sym}
use Rattle.std.proofs.lemmas.Str.Pattern.{split_parts}
use Rattle.bicep_misplaced.proofs.DividedLemmas.{undivided, divided_there}
use Rattle.bicep_type_texts.proofs.texts.apart.Goals as goal

pub returns-in-None : goal.returns-in-None
returns-in-None c =
    sym (undivided 47 (lit< tt) c.args.kind.now c.utf8.kind
    (split_parts 47 c.args.kind.now None c.in-None.ensures.cases (lit< tt)))

pub returns-in-Some : goal.returns-in-Some
returns-in-Some c =
    let parts =
    split_parts 47 c.args.kind.now (Some (c.in-Some.first, c.in-Some.rest)) c.in-Some.ensures.cases (lit< tt) in
    sym (divided_there 47 (lit< tt) c.args.kind.now c.in-Some.first.now c.in-Some.rest.now
    (search rules) parts.0 parts.1)
