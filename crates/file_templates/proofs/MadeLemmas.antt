-- The template that is made of the table of a file is that of the text of the file.
use Rattle.std.proofs.Common.{◌≡◌, ℕ, List, Option, None, Result, Ok, Err, ap, ◌∙◌, subst}
use Rattle.std.specs.Prelude.{IfOk}
use Rattle.std.specs.declared.alloc.AllocError.{AllocError}
use Rattle.template_parts.specs.declared.mode.Form.{Form}
use Rattle.template_parts.specs.declared.parameter.Parameter.{Parameter}
use Rattle.template_tree.specs.View.{template_tree, header_of}
use Rattle.template_tree.specs.declared.resource.Template.{Template}
use Rattle.bicep_tree.specs.Tree.{FileTree}
use Rattle.resolved_program.specs.declared.resolved.ResolvedFile.{ResolvedFile}
use Rattle.agreeing_files.specs.Agreeing.{outputs_of}
use Rattle.source_templates.specs.Counted.{TemplatesHaveFewParts}
use Rattle.source_templates.specs.Counts.{first_beyond}
use Rattle.source_templates.specs.Seen.{Shape, file_in, files_in, files_of}
use Rattle.source_templates.specs.Kept.{TemplatesKeepTheRules}
use Rattle.source_templates.specs.Built.{Templates}
use Rattle.source_templates.specs.Fits.{IsReady}
use Rattle.source_templates.specs.Lists.{SymbolsDiffer}
use Rattle.source_templates.specs.Metadata.{IsNoted}
use Rattle.source_templates.specs.Within.{IsWithin}
use Rattle.source_templates.specs.Laws.{TemplatesHaveParts}
use Rattle.source_templates.specs.Templates.{IsTemplateOf}
use Rattle.source_templates.specs.Laws.{SymbolsHaveTheSameNumbers, TemplatesAreOfTexts, TemplatesHaveTheMetadataOfTexts}
use Rattle.source_templates.specs.Texts.{IsOfText}
use Rattle.arm_value.specs.declared.value.Value.{Value}
use Rattle.file_metadata.specs.Files.{IsMetadataOf}
use Rattle.file_metadata.specs.declared.files.FileMetadata.{FileMetadata}
use Rattle.source_templates.specs.Laws.{NestedTemplatesAreGiven, TemplatesHaveTheExistingResourcesOfTexts}
use Rattle.file_templates.specs.Made.{HasFew, HasFewIn, HasMetadataOf, IsKeptBy, IsMadeFor, IsNotedForEach}
use Rattle.file_templates.specs.Made.{IsOfEachText}

module _ (z : Form) where
  is_of_each : TemplatesHaveParts → TemplatesAreOfTexts → SymbolsHaveTheSameNumbers → NestedTemplatesAreGiven
      → TemplatesHaveTheExistingResourcesOfTexts
      → (s : Shape) (rs : List (Option Parameter)) (us : Templates) → IsReady s → ((n : ℕ) → IsWithin z s n)
      → (u : Template) → IsTemplateOf z s rs us u → IsOfEachText z s rs us u
  is_of_each parts texts numbers given existing s rs us ready within u made = λ t r fs text same.
      record {
        file = texts z t r s rs fs (template_tree u) text same (parts z s rs us u ready within made);
        existing = existing z t r s rs us fs u text same ready within made;
        inner =
            λ m n x nested symbol.
            given z s us (header_of u) u.resources made.resources m n x nested (numbers z t r s rs text m ∙ symbol);
      }

  pub all_of_each : TemplatesHaveParts → TemplatesAreOfTexts → SymbolsHaveTheSameNumbers → NestedTemplatesAreGiven
      → TemplatesHaveTheExistingResourcesOfTexts
      → (s : Shape) (rs : List (Option Parameter)) (us : Templates) → IsReady s → ((n : ℕ) → IsWithin z s n)
      → (res : Result Template AllocError) → IfOk res (IsTemplateOf z s rs us) → IfOk res (IsOfEachText z s rs us)
  all_of_each parts texts numbers given existing s rs us ready within (Ok u) made =
      is_of_each parts texts numbers given existing s rs us ready within u made
  all_of_each parts texts numbers given existing s rs us ready within (Err x) made = tt

  pub all_kept : TemplatesKeepTheRules → (s : Shape) (rs : List (Option Parameter)) (us : Templates)
      → IsReady s → SymbolsDiffer s → (res : Result Template AllocError) → IfOk res (IsTemplateOf z s rs us)
      → IfOk res (IsKeptBy s us)
  all_kept keep s rs us ready differ (Ok u) made = λ placed small kept.
      keep z s rs us u made ready differ placed small kept
  all_kept keep s rs us ready differ (Err x) made = tt

  -- the metadata for each text
  pub all_noted : TemplatesHaveTheMetadataOfTexts → (s : Shape) (rs : List (Option Parameter)) (us : Templates)
      → (x : FileMetadata) (ms os : List (Option Value)) → ms ≡ x.symbols.items → os ≡ x.outputs.items
      → (res : Result Template AllocError) → IfOk res (IsTemplateOf z s rs us) → IfOk res (IsNoted z s ms os)
      → IfOk res (IsNotedForEach z s rs x)
  all_noted law s rs us x ms os e1 e2 (Ok u) made noted = λ t r text metadata.
      law z t r s rs us x u text metadata made
      (subst (λ (l : List (Option Value)). IsNoted z s x.symbols.items l u) e2
      (subst (λ (l : List (Option Value)). IsNoted z s l os u) e1 noted))
  all_noted law s rs us x ms os e1 e2 (Err y) made noted = tt

  -- the lists are not too long, where no count is beyond its limit
  pub all_few : TemplatesHaveFewParts → (s : Shape) (rs : List (Option Parameter)) (us : Templates)
      → (res : Result Template AllocError) → IfOk res (IsTemplateOf z s rs us) → IfOk res (HasFewIn s)
  all_few law s rs us (Ok u) made = λ none. law z s rs us u made none
  all_few law s rs us (Err x) made = tt

  -- the template for one text
  pub for_text : (t : FileTree) (r : ResolvedFile) (s : Shape) (rules : List (Option Parameter)) (us : Templates)
      → IsOfText t r s rules → (rs : List ResolvedFile) → files_in s ≡ files_of rs
      → (res : Result Template AllocError) → IfOk res (IsOfEachText z s rules us) → IfOk res (IsMadeFor z t r rs us)
  for_text t r s rules us text rs files (Ok u) h = λ fs same. h t r fs text (ap outputs_of files ∙ same)
  for_text t r s rules us text rs files (Err x) h = tt

  pub noted_for : (t : FileTree) (r : ResolvedFile) (s : Shape) (rules : List (Option Parameter)) (x : FileMetadata)
      → IsOfText t r s rules → IsMetadataOf t x → (res : Result Template AllocError)
      → IfOk res (IsNotedForEach z s rules x) → IfOk res (HasMetadataOf z t r)
  noted_for t r s rules x text metadata (Ok u) h = h t r text metadata
  noted_for t r s rules x text metadata (Err y) h = tt

pub few_for : (s : Shape) → first_beyond (file_in s) ≡ None → (res : Result Template AllocError)
    → IfOk res (HasFewIn s) → IfOk res HasFew
few_for s none (Ok u) h = h none
few_for s none (Err x) h = tt
