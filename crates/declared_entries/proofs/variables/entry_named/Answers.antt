use Rattle.std.proofs.Common.{codes, refl, sym, ◌∙◌}
use Rattle.std.specs.Prelude.{Some}
use Rattle.arm_expr.specs.Tree.{text}
use Rattle.emitted_declarations.specs.Declared as spec
use Rattle.declared_entries.proofs.variables.entry_named.Goals as goal

pub returns-then-not-is_within : goal.returns-then-not-is_within
returns-then-not-is_within c =
    let name = c.args.name.now in
    c.beyond.ensures (spec.variable_entry (Some name))
    (c.call_one-extent.ensures (codes "variables") (text name) refl c.text.ensures)
    (sym c.is_within.ensures ∙ c.if-not-is_within.true)

pub returns : goal.returns
returns c =
    let name = c.args.name.now in
    c.keep.ensures (spec.variable_entry (Some name))
    (c.call_one-extent.ensures (codes "variables") (text name) refl c.text.ensures)
    (sym c.is_within.ensures ∙ c.if-not-is_within.false) (c.call_one.ensures refl (text name) c.text-2.ensures)
