-- A resource that is built is that of its declaration.
use Rattle.std.proofs.Common.{◌≡◌, ℕ, List, Option, Some, None, refl, ap, ◌∙◌, sym}
use Rattle.arm_expr.specs.Tree.{Tree, text, int, call, member, index}
use Rattle.arm_value.specs.declared.value.Value.{Value}
use Rattle.template_parts.specs.declared.looping.Batches.{Batches}
use Rattle.template_parts.specs.declared.looping.ResourceCopy.{ResourceCopy}
use Rattle.template_parts.specs.declared.declaration.Declaration.{Declaration}
use Rattle.template_tree.specs.Tree as template
use Rattle.plan_cells.specs.Resources.{listed_at}
use Rattle.bicep_resolved.specs.Source.{LoopTree}
use Rattle.bicep_declared.specs.Declarations.{BodyTree}
use Rattle.bicep_meaning.specs.Files.{symbol_name}
use Rattle.bicep_meaning.specs.Instances.{resource_kind}
use Rattle.emitted_values.specs.Written.{IsWritable, IsWithin, MembersAreWithin}
use Rattle.emitted_values.specs.Files.{IsResource, IsLoop, IsBody}
use Rattle.emitted_values.specs.Values.{AreBoth, IsCondition, plain_or_expression}
use Rattle.emitted_values.specs.Seen.{Shape, file_in, files_in, whole_in}
use Rattle.emitted_resources.specs.Heads.{whole_name, whole_condition, loop_count, IsConditionText, IsLoopOf}
use Rattle.emitted_resources.specs.Limits.{CountIsWritable, ResourceIsWithin, members_at}
use Rattle.emitted_resources.specs.Resources.{IsHead, HasMembers, resource_put}
use Rattle.emitted_resources.specs.declared.needs.Needs.{Needs}

pub name_within : (e : Tree) → IsWritable e → IsWithin (plain_or_expression e)
name_within (text s) h = tt
name_within (int z) h = h
name_within (call name es) h = h
name_within (member e name) h = h
name_within (index e i) h = h

pub condition_is : (e : Tree) (o : Option Value) → IsConditionText e o → IsWritable e → IsCondition e o
condition_is e (Some v) h w = record { is = h; is_writable = w }
condition_is e None h w = h

module _ (s : Shape) (n : ℕ) where
  pub loop_is : (symbol : List ℕ) (batches : Batches) (l : Option LoopTree) (c : Option ResourceCopy)
      → symbol_name (file_in s) n ≡ Some symbol → batches ≡ (file_in s).batches n
      → AreBoth (λ l c. IsLoopOf symbol (loop_count (whole_in s) n) batches c) l c
      → CountIsWritable l (loop_count (whole_in s) n) → AreBoth (IsLoop (files_in s) (file_in s) n) l c
  loop_is symbol batches None None e q h w = tt
  loop_is symbol batches None (Some c) e q h w = absurd h
  loop_is symbol batches (Some l) None e q h w = absurd h
  loop_is symbol batches (Some l) (Some c) e q h w = record {
    name = e ∙ ap Some (sym h.name);
    batches = h.batches ∙ q;
    count = record { is = h.count; is_writable = w };
  }

  module _ (b : BodyTree) where
    body_is : (x : template.BodyTree) → HasMembers (members_at s n b) x → MembersAreWithin (members_at s n b)
        → IsBody (files_in s) (file_in s) (resource_put (file_in s) n b) x
    body_is (template.body_members ms) h w = (refl, record { is = h; is_within = w })
    body_is (template.deployment scope args u) h w = absurd h

    pub resource_is : (symbol : List ℕ) (needs : Needs) (d : Declaration) (x : template.BodyTree)
        → symbol_name (file_in s) n ≡ Some symbol → needs.batches ≡ (file_in s).batches n
        → IsHead (whole_in s) n b.each (resource_kind (file_in s) n) symbol needs d
        → HasMembers (members_at s n b) x → ResourceIsWithin s n b
        → IsResource (files_in s) (file_in s) (resource_put (file_in s) n b) (listed_at None d x)
    resource_is symbol needs d x e q h m w =
        record {
          type = h.kind;
          api = h.api;
          is_no_child = refl;
          name = record { is = h.name; is_within = name_within (whole_name (whole_in s) n b.each) w.head.name };
          condition = condition_is (whole_condition (whole_in s) n b.each) d.condition h.condition
              w.head.condition;
          loop = loop_is symbol needs.batches b.each d.copy e q h.loop w.head.count;
          content = body_is x m w.body;
        }
