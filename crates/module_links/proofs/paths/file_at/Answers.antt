use Rattle.std.proofs.Common.{◌∙◌, sym, ap, chars, length}
use Rattle.module_links.proofs.PathLemmas.{file_found, some_parts}
use Rattle.module_links.proofs.paths.file_at.Goals as goal

pub returns-in-Some : goal.returns-in-Some
returns-in-Some c =
    file_found c.named_in.result (chars c.args.file.now) (chars c.args.path.now) c.in-Some.name.now
    c.in_ok-folder.folder.items c.in-Some.steps.now c.as_slice.result.now c.named_in.ensures c.in_ok-folder.ensures
    (c.as_slice.ensures ∙ c.in_ok-steps.ensures) c.in-Some.ensures.cases.0

pub returns : goal.returns
returns c =
    absurd (some_parts (chars c.args.path.now)
    (ap length (sym (c.as_slice.ensures ∙ c.in_ok-steps.ensures)) ∙ c.in-None.ensures.cases))
