use Rattle.std.proofs.Common.{refl, subst}
use Rattle.arm_value.specs.Look.{fold}
use Rattle.template_parts.specs.declared.parameter.Parameter.{Parameter}
use Rattle.deploy_cells.specs.Cells.{parameter}
use Rattle.plan_cells.specs.Children.{Has, parameter_names}
use Rattle.plan_table.specs.Found.{scope_at, IsLineOf}
use Rattle.plan_sight.proofs.LookLemmas.{found_some, found_none}
use Rattle.scope_entries.specs.Entries.{cells_at}
use Rattle.scope_entries.proofs.LineLemmas.{lines_begin, lines_more, lines_end, names_here, names_gone, found_own}
use Rattle.scope_entries.proofs.LineLemmas.{each_line, name_there}
use Rattle.scope_entries.proofs.lines.push_parameters.Goals as goal

pub loop-given-init : goal.loop-given-init
loop-given-init c = record {
  own = c.requires.lines;
  left =
      lines_begin c.args.table.now (parameter (scope_at c.args.table.now c.args.frame).position)
      (parameter_names (scope_at c.args.table.now c.args.frame).template) _ c.args.lines.now.items
      c.requires.parameters;
}

pub parameter_line-requires-clause-laid : goal.parameter_line-requires-clause-laid
parameter_line-requires-clause-laid c = c.requires.ready.laid

pub loop-given-preserved : goal.loop-given-preserved
loop-given-preserved c =
    let t = c.args.table.now in
    let o = scope_at t c.args.frame in
    let line : IsLineOf t c.args.frame (parameter o.position (fold c.given-item.result.name)) c.in-Ok-Some.at =
    found_some _ c.in-Ok-Some.field-0 c.in-Ok-Some.at c.in-Ok-Some.field-0-is c.in-Ok-Some.ensures.found in
    record {
      own =
          each_line t c.args.frame c.loop-given.lines.items c.push.new.self.items c.in-Ok-Some.at
          c.in_ok-push-in-Ok-Some.ensures.items c.loop-given.invariant.own
          (found_own t c.args.frame c.in-Ok-Some.at (parameter o.position (fold c.given-item.result.name)) refl line);
      left =
          lines_more t (parameter o.position) (cells_at t c.args.lines.now.items) (parameter_names o.template) _ _
          c.loop-given.lines.items c.push.new.self.items (fold c.given-item.result.name) c.in-Ok-Some.at
          (names_here (λ (p : Parameter). fold p.name) c.args.parameters.now c.loop-given.given-index
          c.given-item.result c.loop-given-test.true c.given-item.is)
          c.in_ok-push-in-Ok-Some.ensures.items line.is c.loop-given.invariant.left;
    }

pub unreachable-requires : goal.unreachable-requires
unreachable-requires c =
    let t = c.args.table.now in
    found_none _ c.in-Ok-None.field-0 c.in-Ok-None.field-0-is c.in-Ok-None.ensures.missing (
      c.requires.own,
      subst (Has (fold c.given-item.result.name)) c.requires.parameters
          (name_there (λ (p : Parameter). fold p.name) c.args.parameters.now c.loop-given.given-index
          c.given-item.result c.loop-given-test.true c.given-item.is),
    )

pub returns-clause-own : goal.returns-clause-own
returns-clause-own c = c.loop-given.invariant.own

pub returns-clause-cells : goal.returns-clause-cells
returns-clause-cells c =
    let t = c.args.table.now in
    let o = scope_at t c.args.frame in
    lines_end t (parameter o.position) (cells_at t c.args.lines.now.items) (parameter_names o.template) _
    c.loop-given.lines.items
    (names_gone (λ (p : Parameter). fold p.name) c.args.parameters.now c.loop-given.given-index
    c.loop-given-test.false) c.loop-given.invariant.left
