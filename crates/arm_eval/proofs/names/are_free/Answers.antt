use Rattle.std.proofs.Common.{◌∙◌, ◌++◌, sym, map, take, subst}
use Rattle.arm_value.specs.View.{member}
use Rattle.arm_eval.specs.Trees.{names_of}
use Rattle.arm_eval.specs.Free.{AreNames}
use Rattle.arm_eval.proofs.NameLemmas.{more_names, free_more}
use Rattle.arm_eval.proofs.names.are_free.Goals as goal

pub loop-field-preserved : goal.loop-field-preserved
loop-field-preserved c =
    let names = names_of (map member c.args.fields.now) in
    let given = c.args.given.now in
    let i = c.loop-field.field-index in
    let so_far = names ++ names_of (map member (take i given)) in
    record {
      names =
          subst (AreNames c.add_name.new.names)
          (more_names names given i c.field-item.result c.loop-field-test.true c.field-item.is)
          (c.in_ok-add_name.ensures.added so_far c.loop-field.invariant.names);
      free = free_more names given i c.field-item.result _ c.loop-field-test.true c.field-item.is
          (sym (c.in_ok-add_name.ensures.is_new so_far c.loop-field.invariant.names) ∙ c.if-not-branch.false)
          c.loop-field.invariant.free;
    }
