use Rattle.std.proofs.Common.{◌≡◌, [], ◌∙◌, sym, ap, chars, Some, None}
use Rattle.std.proofs.lemmas.Str.{chars-nil}
use Rattle.module_links.specs.Paths.{file_at}
use Rattle.bicep_program.proofs.LoadLemmas.{begun_ok, main_missing}
use Rattle.bicep_program.proofs.loading.begun.Goals as goal

pub returns-in-Ok-Some-clause-come : goal.returns-in-Ok-Some-clause-come
returns-in-Ok-Some-clause-come c =
    let found : file_at [] (chars c.args.main.now) ≡ Some c.in-Ok-Some.name =
    ap (λ x. file_at x (chars c.args.main.now)) (sym chars-nil) ∙ sym c.in-Ok-Some.ensures
    ∙ c.in-Ok-Some.field-0-is in
    begun_ok c.first_entry.result (chars c.args.main.now) c.in-Ok.given c.in-Ok-Some.name found c.in-Ok.ensures
    c.first_entry.ensures.entry

pub returns-in-Ok-None-clause-fault : goal.returns-in-Ok-None-clause-fault
returns-in-Ok-None-clause-fault c = λ folder.
    let none : file_at [] (chars c.args.main.now) ≡ None =
    ap (λ x. file_at x (chars c.args.main.now)) (sym chars-nil) ∙ sym c.in-Ok-None.ensures
    ∙ c.in-Ok-None.field-0-is in
    main_missing folder (chars c.args.main.now) c.in-Ok.given c.missing.result none c.in-Ok.ensures
    c.missing.ensures
