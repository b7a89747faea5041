use Rattle.std.proofs.Common.{ℕ, map, Some, ap, sym, subst, ◌∙◌}
use Rattle.std.specs.declared.vec.Vec.{Vec}
use Rattle.std.specs.declared.alloc.Global.{Global}
use Rattle.arm_value.specs.View.{json}
use Rattle.tag_holders.specs.Holders.{classes_in, AreHolders}
use Rattle.dependency_faults.specs.Names.{names_in}
use Rattle.dependency_faults.proofs.FaultLemmas.{alike_met, is_unknown, is_ambiguous}
use Rattle.dependency_faults.proofs.element.check_value.Goals as goal

pub returns-in-Some-Alike-clause-met : goal.returns-in-Some-Alike-clause-met
returns-in-Some-Alike-clause-met c =
    alike_met c.args.table.now c.requires.table c.args.opener c.requires.instance.there (json c.args.value.now)
    (classes_in c.args.names.now.classes.now) c.requires.names.are_classes c.find_holders.result
    c.in-Some-Alike.field-0-0 (c.in-Some-Alike.is ∙ ap Some c.in-Some-Alike.field-0-is)
    (subst (λ ts. AreHolders (names_in c.args.table.now) (classes_in c.args.names.now.classes.now) ts
    c.find_holders.result) (ap (map (λ (t : Vec ℕ Global). t.items)) c.as_slice.ensures.value ∙ c.in_ok-asks.ensures)
    (c.find_holders.ensures (names_in c.args.table.now) c.requires.names.kept))

pub returns-in-Some-Differing-clause-fault : goal.returns-in-Some-Differing-clause-fault
returns-in-Some-Differing-clause-fault c = λ mode held.
    is_ambiguous c.args.table.now c.requires.table c.args.opener c.requires.instance.there (json c.args.value.now)
    (classes_in c.args.names.now.classes.now) c.requires.names.are_classes c.args.number c.requires.read
    c.requires.included (sym c.in_ok-is_title_of.ensures ∙ c.if-branch.false) mode held c.find_holders.result
    c.in-Some-Differing.field-0-0 c.in-Some-Differing.field-0-1 c.in_ok-ambiguous_fault-in-Some-Differing.field-0
    (c.in-Some-Differing.is ∙ ap Some c.in-Some-Differing.field-0-is)
    (subst (λ ts. AreHolders (names_in c.args.table.now) (classes_in c.args.names.now.classes.now) ts
    c.find_holders.result) (ap (map (λ (t : Vec ℕ Global). t.items)) c.as_slice.ensures.value ∙ c.in_ok-asks.ensures)
    (c.find_holders.ensures (names_in c.args.table.now) c.requires.names.kept))
    c.in_ok-ambiguous_fault-in-Some-Differing.ensures

pub returns-clause-fault : goal.returns-clause-fault
returns-clause-fault c = λ mode held.
    is_unknown c.args.table.now c.requires.table c.args.opener c.requires.instance.there (json c.args.value.now)
    (classes_in c.args.names.now.classes.now) c.requires.names.are_classes c.args.number c.requires.read
    c.requires.included (sym c.in_ok-is_title_of.ensures ∙ c.if-branch.false) mode held c.find_holders.result
    c.in_ok-unknown_fault-in-None.field-0 c.in-None.is
    (subst (λ ts. AreHolders (names_in c.args.table.now) (classes_in c.args.names.now.classes.now) ts
    c.find_holders.result) (ap (map (λ (t : Vec ℕ Global). t.items)) c.as_slice.ensures.value ∙ c.in_ok-asks.ensures)
    (c.find_holders.ensures (names_in c.args.table.now) c.requires.names.kept))
    c.in_ok-unknown_fault-in-None.ensures
