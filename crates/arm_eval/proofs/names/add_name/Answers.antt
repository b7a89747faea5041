use Rattle.std.proofs.Common.{◌∙◌, ap}
use Rattle.std.specs.Prelude.{not}
use Rattle.arm_eval.proofs.NameLemmas.{is_named, names_more}
use Rattle.arm_eval.proofs.names.add_name.Goals as goal

pub returns-clause-is_new : goal.returns-clause-is_new
returns-clause-is_new c = λ ns h. c.in_ok-is_new.ensures.added
    ∙ ap not (is_named c.args.names.now c.as_str.result ns c.args.name.now h c.as_str.ensures.bytes)

pub returns-clause-added : goal.returns-clause-added
returns-clause-added c = λ ns h. names_more c.args.names.now c.insert.new.self c.as_str.result ns c.args.name.now h
    c.as_str.ensures.bytes c.in_ok-is_new.ensures.updates
