-- The orders and the parts of files, by their numbers.
use Rattle.std.proofs.Common.{◌≡◌, ℕ, List, length, map, Some, Result, Ok, Err, sym, ap, ◌∙◌, subst, arith}
use Rattle.std.proofs.lemmas.Option.{slice_get-map}
use Rattle.std.specs.Prelude.{option_map, slice_get, IfOk}
use Rattle.std.specs.declared.alloc.Global.{Global}
use Rattle.std.specs.declared.vec.Vec.{Vec}
use Rattle.foundation.proofs.Options.{same_some}
use Rattle.template_parts.specs.declared.mode.Form.{Form}
use Rattle.bicep_program.specs.Program.{ProgramFile, program_file}
use Rattle.bicep_program.specs.Sources.{IsReadAs}
use Rattle.bicep_program.specs.declared.file.SourceFile.{SourceFile as Text}
use Rattle.bicep_program.proofs.LoadLemmas.{at_place}
use Rattle.resolved_program.specs.View.{file_view}
use Rattle.resolved_program.specs.declared.resolved.ResolvedFile.{ResolvedFile}
use Rattle.file_templates.specs.Orders.{IsOfChecked, IsOrderFor}
use Rattle.file_templates.specs.Tables.{IsOfProgram}
use Rattle.file_templates.specs.FileOrder.{FileOrder}
use Rattle.file_templates.specs.Clauses.{IsShallow}
use Rattle.file_templates.specs.Parts.{ArePartsFor}
use Rattle.file_templates.specs.Texts.{HasLoops, text_of}
use Rattle.file_templates.specs.declared.fault.EmitFault.{EmitFault}
use Rattle.file_templates.specs.declared.file.FileParts.{FileParts}
use Rattle.program_parts.specs.Programs.{IsPair, IsRead}
use Rattle.program_parts.specs.Parts.{AreOrders, AreParts, HasLast, HaveOneMoreOrder, HaveOneMorePart, IsOrderAt}
use Rattle.program_parts.specs.Parts.{IsPartAt}
use Rattle.program_parts.proofs.ItemLemmas.{with_next, more_by_one}

at_mapped : {A B : Type 0} (f : A → B) (xs : List A) (k : ℕ) (x : A) → slice_get xs k ≡ Some x
    → slice_get (map f xs) k ≡ Some (f x)
at_mapped f xs k x e = slice_get-map f xs k ∙ ap (option_map f) e

module _ (ss : List Text) (rs : List ResolvedFile) where
  module _ (h : IsRead ss rs) (k : ℕ) (x : Text) (r : ResolvedFile) (p : IsPair ss rs k x r) where
    pub of_program : IsOfProgram rs r
    of_program = record {
      folder = h.folder;
      files = map program_file ss;
      read = h.read;
      resolved = h.resolved;
      none = h.none;
      number = k;
      is = at_mapped file_view rs k r p.file;
    }

    pub of_checked : IsOfChecked r
    of_checked = (map file_view rs, of_program)

    pub shallow : IsShallow x
    shallow =
        let s =
        at_place (λ (q : ProgramFile). IsReadAs h.folder q.name q.tree) (map program_file ss) k (program_file x)
        (at_mapped program_file ss k x p.text) h.read in
        omega (arith, s.source.shallow)

    -- the order of a number is that of the file
    pub order_is : (o : FileOrder) → IsOrderAt ss rs k o → IsOrderFor r o
    order_is o a = subst (λ (f : ResolvedFile). IsOrderFor f o) (same_some (sym a.pair.file ∙ p.file)) a.order

    pub loops_are : (o : FileOrder) → IsOrderAt ss rs k o → HasLoops (text_of x) r o
    loops_are o a =
        subst (λ (f : ResolvedFile). HasLoops (text_of x) f o) (same_some (sym a.pair.file ∙ p.file))
        (subst (λ (y : Text). HasLoops (text_of y) a.file o) (same_some (sym a.pair.text ∙ p.text)) a.loops)

    pub is_order : (res : Result FileOrder EmitFault) → IfOk res (IsOrderFor r) → IfOk res (HasLoops (text_of x) r)
        → IfOk res (IsOrderAt ss rs k)
    is_order (Ok o) order loops = record { text = x; file = r; pair = p; order = order; loops = loops }
    is_order (Err e) order loops = tt

    pub is_part : (z : Form) (res : Result FileParts EmitFault) → IfOk res (ArePartsFor z (text_of x) r rs)
        → IfOk res (IsPartAt z ss rs k)
    is_part z (Ok o) parts = record { text = x; file = r; pair = p; parts = parts }
    is_part z (Err e) parts = tt

  pub more_orders : (os : List FileOrder) → AreOrders ss rs os → (o : FileOrder) → IsOrderAt ss rs (length os) o
      → (res : Result (Vec FileOrder Global) EmitFault) → IfOk res (λ v. HasLast os o v.items)
      → IfOk res (HaveOneMoreOrder ss rs os)
  more_orders os h o at (Ok v) e = (with_next (IsOrderAt ss rs) os v.items o h at e, more_by_one os v.items o e)
  more_orders os h o at (Err x) e = tt

  pub more_parts : (z : Form) (ps : List FileParts) → AreParts z ss rs ps → (p : FileParts)
      → IsPartAt z ss rs (length ps) p → (res : Result (Vec FileParts Global) EmitFault)
      → IfOk res (λ v. HasLast ps p v.items) → IfOk res (HaveOneMorePart z ss rs ps)
  more_parts z ps h p at (Ok v) e = (with_next (IsPartAt z ss rs) ps v.items p h at e, more_by_one ps v.items p e)
  more_parts z ps h p at (Err x) e = tt
