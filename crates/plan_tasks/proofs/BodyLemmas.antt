-- What the code of a table has of a resource.
use Rattle.std.proofs.Common.{◌≡◌, ℕ, ◌<◌, List, length, get_or, Some, sym, ap, ◌∙◌}
use Rattle.std.specs.Prelude.{slice_get}
use Rattle.arm_value.specs.Json.{Member}
use Rattle.template_tree.specs.View.{body_tree}
use Rattle.template_tree.specs.declared.resource.Body.TheVariants.{Members, Deployment}
use Rattle.template_tree.specs.declared.resource.Deployment as code
use Rattle.plan_cells.specs.Resources as cells
use Rattle.plan_cells.specs.Resources.{nested_in}
use Rattle.plan_table.specs.declared.frame.Frame.{Frame}
use Rattle.plan_table.specs.declared.listed.Listed.{Listed}
use Rattle.plan_table.specs.declared.table.Table.{Table}
use Rattle.plan_table.specs.Listed.{listed_of}
use Rattle.plan_table.specs.Opened.{Opened}
use Rattle.plan_table.specs.Found.{scope_at}
use Rattle.plan_table.proofs.FrameLemmas.{frame_is, resource_read}
use Rattle.plan_table.proofs.StepLemmas.{resource_in_frame}
use Rattle.plan_tasks.specs.declared.instance.Found.TheVariants.{Resource, Scope}
use Rattle.plan_tasks.specs.Start.{found_by}

-- the resource that is read is the one that the scope has
pub listed_is : (t : Table) (f r : ℕ) (fr : Frame) (l : Listed) (x : cells.Listed) → f < length t.frames.items
    → fr ≡ get_or t.frames.items f fr → l ≡ get_or fr.resources.items r l
    → slice_get (scope_at t f).resources r ≡ Some x → x ≡ listed_of l
listed_is t f r fr l x h e k s =
    let two : Some x ≡ Some (listed_of l) =
    sym s ∙ ap (λ (o : Opened). slice_get o.resources r) (frame_is t.frames.items f fr h e)
    ∙ resource_read fr.resources.items r l (resource_in_frame t.frames.items f r fr x h e s) k in cc

pub as_members : (t : Table) (f r g : ℕ) (fr : Frame) (l : Listed) (ms : List Member) → f < length t.frames.items
    → fr ≡ get_or t.frames.items f fr → l ≡ get_or fr.resources.items r l → l.body.now ≡ Members ms
    → (x : cells.Listed) → slice_get (scope_at t f).resources r ≡ Some x → Resource ≡ found_by (nested_in x.content) g
as_members t f r g fr l ms h e k b x s =
    sym (ap (λ (y : cells.Listed). found_by (nested_in y.content) g) (listed_is t f r fr l x h e k s)
    ∙ ap (λ y. found_by (nested_in (body_tree y)) g) b)

pub as_scope : (t : Table) (f r g : ℕ) (fr : Frame) (l : Listed) (d : code.Deployment) → f < length t.frames.items
    → fr ≡ get_or t.frames.items f fr → l ≡ get_or fr.resources.items r l → l.body.now ≡ Deployment d
    → (x : cells.Listed) → slice_get (scope_at t f).resources r ≡ Some x → Scope g ≡ found_by (nested_in x.content) g
as_scope t f r g fr l d h e k b x s =
    sym (ap (λ (y : cells.Listed). found_by (nested_in y.content) g) (listed_is t f r fr l x h e k s)
    ∙ ap (λ y. found_by (nested_in (body_tree y)) g) b)
