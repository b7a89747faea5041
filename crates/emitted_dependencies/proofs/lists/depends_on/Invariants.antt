use Rattle.std.proofs.Common.{◌≡◌, ◌++◌}
use Rattle.filled_tables.specs.Seen.{file_in, files_in}
use Rattle.emitted_dependencies.specs.Elements.{elements, put_among}
use Rattle.emitted_dependencies.proofs.lists.depends_on.Given as goal

-- the elements so far, and those of the numbers that are left, are all
abbrev pub invariant-loop-number : goal.invariant-loop-number
invariant-loop-number l =
    let f = file_in l.table in
    let fs = files_in l.table in
    l.elements ++ elements fs f l.form (put_among f l.number-iterator)
    ≡ elements fs f l.form (put_among f l.mentioned.keys)
