use Rattle.std.proofs.Common.{◌≡◌, [], subst}
use Rattle.emitted_expressions.specs.Files.{type_of, typed}
use Rattle.declared_types.specs.Types.{typed_of}
use Rattle.declared_table.specs.Seen.{Shape, file_of, file_in}
use Rattle.declared_table.proofs.TypeLemmas.{type_there, type_absent}
use Rattle.declared_table.proofs.table.Table.typed_at.Goals as goal

pub returns-in-Some : goal.returns-in-Some
returns-in-Some c =
    let n = c.args.number in
    let own = c.in-Some.own.now in
    subst (λ (s : Shape). typed_of own ≡ type_of (file_in s) n) c.self.view_is
    (type_there (file_of c.self.inside.file.now c.self.inside.marks.now) c.self.inside.types.items
    c.deref.result.now n own c.self.invariant.types c.deref.ensures.value c.in-Some.ensures.lookup.0
    c.in-Some.ensures.lookup.1)

pub returns-in-None : goal.returns-in-None
returns-in-None c =
    let n = c.args.number in
    subst (λ (s : Shape). type_of (file_in s) n ≡ typed [] []) c.self.view_is
    (type_absent (file_of c.self.inside.file.now c.self.inside.marks.now) c.self.inside.types.items
    c.deref.result.now n c.self.invariant.paired c.self.invariant.types c.deref.ensures.value
    c.in-None.ensures.lookup.0)
