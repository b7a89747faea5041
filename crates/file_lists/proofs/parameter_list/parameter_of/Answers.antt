use Rattle.std.proofs.Common.{sym, ap, ◌∙◌}
use Rattle.std.specs.Prelude.{is_some}
use Rattle.file_lists.proofs.ParameterLemmas.{parameter_made, no_rule}
use Rattle.file_lists.proofs.parameter_list.parameter_of.Goals as goal

pub returns-in-Ok : goal.returns-in-Ok
returns-in-Ok c =
    parameter_made c.args.table.now c.args.number c.args.rule.now c.in-Some.rule c.in-Some.is
    (sym c.requires.there) (c.requires.name c.in-Some.rule c.in-Some.is) c.in-Ok.default_value c.in-Ok.ensures
    c.completed.result c.there.result c.completed.ensures c.there.ensures

pub returns-in-None : goal.returns-in-None
returns-in-None c =
    no_rule c.args.table.now c.args.number c.args.rule.now (sym c.requires.there ∙ ap is_some c.in-None.is)
