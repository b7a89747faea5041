use Rattle.std.proofs.Common.{◌≡◌, true, false, subst}
use Rattle.std.specs.Prelude.{MatchOption}
use Rattle.name_set.specs.Names.{is_named}
use Rattle.template_parts.specs.declared.content.Argument.{Argument}
use Rattle.plan_cells.specs.Children.{Has}
use Rattle.argument_faults.proofs.ExtraLemmas.{is_extra, without_extra}
use Rattle.argument_faults.proofs.check.check_opener.Goals as goal

pub returns-in-Some-clause-fault : goal.returns-in-Some-clause-fault
returns-in-Some-clause-fault c =
    let o = c.requires.opener in
    is_extra c.args.table.now c.requires.table c.args.frame c.requires.there c.args.opener o c.index.result.now
    c.in_ok-names.names c.arguments_of.result.now c.in-Some.argument.now c.in_ok-extra_fault-in-Some.field-0
    c.requires.own c.index.ensures c.in_ok-names.ensures
    (c.arguments_of.ensures o.is_instance.number.listed o.is_instance.number.has o.nested o.is_nested)
    (subst (λ x. MatchOption x (Unit {0}) (λ a. Has a.now c.arguments_of.result.now
    × (is_named c.in_ok-names.names a.now.name ≡ false))) c.in-Some.is c.in_ok-argument.ensures.extra)
    c.in_ok-extra_fault-in-Some.ensures

pub returns-clause-none : goal.returns-clause-none
returns-clause-none c =
    let o = c.requires.opener in
    without_extra c.args.table.now c.requires.table c.args.frame c.requires.there c.args.opener o c.index.result.now
    c.in_ok-names.names c.arguments_of.result.now c.index.ensures c.in_ok-names.ensures
    (c.arguments_of.ensures o.is_instance.number.listed o.is_instance.number.has o.nested o.is_nested)
    (subst (λ x. MatchOption x ((a : Argument) → Has a c.arguments_of.result.now
    → is_named c.in_ok-names.names a.name ≡ true) (λ _. Unit {0})) c.in-None.is c.in_ok-argument.ensures.none)
