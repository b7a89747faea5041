use Rattle.arm_value.specs.View.{json}
use Rattle.filled_tables.specs.Seen.{file_in, files_in}
use Rattle.emitted_dependencies.proofs.ElementLemmas.{flat}
use Rattle.emitted_dependencies.proofs.lists.with_element.Goals as goal

pub push-requires : goal.push-requires
push-requires c =
    let s = c.args.table.now in
    flat (files_in s) (file_in s) c.args.form c.args.number (json c.in-Ok.value) c.in-Ok.ensures
