-- From the premises of the deployment of a program to those of its template.
use Rattle.std.proofs.Common.{◌≡◌, ℕ, List, [], ◌∷◌, map, Option, Some, None, ◌≤◌, refl, sym, ap, subst, ◌∙◌, arith, length}
use Rattle.std.proofs.lemmas.List.{length-map}
use Rattle.std.specs.List.{AllByRecursion}
use Rattle.arm_ids.specs.Held.{HeldResource}
use Rattle.arm_value.specs.Fault.{Gives}
use Rattle.arm_value.specs.Json.{Json}
use Rattle.arm_value.specs.Reading.{reading, data_of, not_whole}
use Rattle.bicep_emission.specs.Answered.{IsPlainPlace}
use Rattle.bicep_meaning.specs.Files.{SourceFile}
use Rattle.bicep_meaning.specs.Instances.{SourceProgram, Satisfies}
use Rattle.bicep_program.specs.Program.{ProgramFile}
use Rattle.bicep_program.specs.Sources.{Folder, IsReadAs}
use Rattle.bicep_tree.specs.Tree.{FileTree}
use Rattle.sound_programs.specs.Faults.{HasFault}
use Rattle.sound_programs.specs.CheckFault.{CheckFault}
use Rattle.cell_renaming.specs.Renaming.{renamed, unrenamed}
use Rattle.deploy_cells.specs.Cells.{Cell, World}
use Rattle.deploy_histories.specs.Planned.{Planned}
use Rattle.deployment_requests.specs.Requests.{Request, bound_in, deployment_in, IsPlanOf, IsPlanBy}
use Rattle.emitted_files.specs.Files.{IsEmitted}
use Rattle.emitted_programs.specs.Given.{IsDeployed, deployed, IsBinding}
use Rattle.emitted_programs.specs.Sound.{IsSoundProgram}
use Rattle.emitted_worlds.specs.Facts.{HoldsResources}
use Rattle.plan_cells.specs.Desired as template
use Rattle.plan_cells.specs.Desired.{held_state}
use Rattle.plan_cells.specs.Meaning.{Deployment}
use Rattle.plan_cells.specs.Resources.{header_in}
use Rattle.read_backs.specs.Characters.{HasCharacters}
use Rattle.resolved_program.specs.Programs.{ResolvedFileTree, IsResolved, resolved_file}
use Rattle.bicep_found.specs.Found.{found}
use Rattle.serde_json.specs.Data.{Data, depth}
use Rattle.source_files.specs.Files.{IsFileOf}
use Rattle.sound_programs.specs.Files.{AreFilesOf}
use Rattle.source_deployments.specs.Sources.{IsCheckedProgram, IsPlanFor, program_of, HasOrderlyDefaults}
use Rattle.source_deployments.specs.Laws.{IsOfSource, DesiredStatesAreOfSources, ReadBack}
use Rattle.source_files.specs.Sources.{source_file, source_files}
use Rattle.source_worlds.specs.Numbers.{numbering}
use Rattle.template_meaning.specs.Describes.{Describes}
use Rattle.template_parameters.specs.Binding.{BoundMeaning, bind_fault}
use Rattle.template_parts.specs.declared.mode.Form.{Form}
use Rattle.template_tree.specs.Tree.{TemplateTree}

one_data : {a b : Data} → Some a ≡ Some b → a ≡ b
one_data e = cc

-- each file stands for the resolved file of its number
files_of : ((z : Form) (t : FileTree) (r : ResolvedFileTree) → IsFileOf r (source_file z t r)) → (z : Form)
    (ts : List FileTree) (rs : List ResolvedFileTree) → length ts ≡ length rs → AreFilesOf rs (source_files z ts rs)
files_of law z [] [] e = tt
files_of law z [] (r ∷ rs) e = absurd (cc)
files_of law z (t ∷ ts) [] e = absurd (cc)
files_of law z (t ∷ ts) (r ∷ rs) e = (law z t r, files_of law z ts rs (omega (arith, e)))

-- as many files are resolved as there are
as_many : (files : List ProgramFile) (rs : List ResolvedFileTree) → IsResolved files rs
    → length (map (λ f. f.tree) files) ≡ length rs
as_many files rs e =
    length-map files (λ f. f.tree) ∙ sym (length-map files (resolved_file files)) ∙ ap length e
    ∙ length-map rs (λ r. found r)

module _ (form : Form) (sources : List SourceFile) (q : Request) (u : TemplateTree) where
  -- the premises of the template's deployment
  deployed_by : ((folder : Folder) (files : List ProgramFile)
      → AllByRecursion (λ p. IsReadAs folder p.name p.tree) files → (rs : List ResolvedFileTree)
      → IsResolved files rs → ((fault : CheckFault) → ¬ HasFault files fault) → (d : SourceProgram)
      → AreFilesOf rs d.files → IsPlainPlace d.place → IsSoundProgram d)
      → ((z : Form) (t : FileTree) (r : ResolvedFileTree) → IsFileOf r (source_file z t r)) → (folder : Folder)
      (main : List ℕ) → IsCheckedProgram folder main form sources → IsPlainPlace q.place
      → IsEmitted form sources u → bind_fault q.given (header_in u).parameters ≡ None → HasOrderlyDefaults u
      → HoldsResources (held_state q.held) → IsDeployed form (program_of sources q) u (bound_in q u) q.held
  deployed_by sound law folder main c plain emitted accepted orderly holds = record {
    emitted = emitted;
    sound =
        sound folder c.files c.is_program.read c.resolved c.is_resolved c.faultless (program_of sources q)
        (subst (AreFilesOf c.resolved) (sym c.are_sources)
        (files_of law form (map (λ f. f.tree) c.files) c.resolved (as_many c.files c.resolved c.is_resolved)))
        plain;
    binding = record { values = q.given; given = refl; is = refl; accepted = accepted; defaults = orderly };
    holds = holds;
  }

  pub of_source : ((z : Form) (d : SourceProgram) (t : TemplateTree) (bound : List (List ℕ × BoundMeaning))
      (held : List HeldResource) → IsDeployed z d t bound held → (v : World)
      → template.Satisfies (deployed d t bound) held v
      → Satisfies d (held_state held) (unrenamed (numbering z d.files) v)
      × ((c : Cell) → renamed (numbering z d.files) (unrenamed (numbering z d.files) v) c ≡ v c))
      → IsDeployed form (program_of sources q) u (bound_in q u) q.held → (e : Deployment) (held : List HeldResource)
      → e ≡ deployment_in q u → held ≡ q.held → (w : World) → template.Satisfies e held w
      → IsOfSource form sources q w
  of_source law is e held same kept w s =
      let there = law form (program_of sources q) u (bound_in q u) q.held is w
      (subst (λ (h : List HeldResource). template.Satisfies (deployment_in q u) h w) kept
      (subst (λ (d : Deployment). template.Satisfies d held w) same s)) in
      record {
        world = unrenamed (numbering form sources) w;
        satisfies = there.0;
        same = there.1;
      }

pub sources_of : ((folder : Folder) (files : List ProgramFile)
    → AllByRecursion (λ p. IsReadAs folder p.name p.tree) files → (rs : List ResolvedFileTree)
    → IsResolved files rs → ((fault : CheckFault) → ¬ HasFault files fault) → (d : SourceProgram)
    → AreFilesOf rs d.files → IsPlainPlace d.place → IsSoundProgram d)
    → ((z : Form) (t : FileTree) (r : ResolvedFileTree) → IsFileOf r (source_file z t r))
    → ((z : Form) (d : SourceProgram) (t : TemplateTree) (bound : List (List ℕ × BoundMeaning))
    (held : List HeldResource) → IsDeployed z d t bound held → (v : World)
    → template.Satisfies (deployed d t bound) held v
    → Satisfies d (held_state held) (unrenamed (numbering z d.files) v)
    × ((c : Cell) → renamed (numbering z d.files) (unrenamed (numbering z d.files) v) c ≡ v c))
    → DesiredStatesAreOfSources
sources_of sound law others folder main form sources bytes q x c p orderly plain holds w s =
    of_source form sources q p.template others
    (deployed_by form sources q p.template sound law folder main c plain p.emitted p.is_plan.accepted orderly holds)
    x.deployment x.held p.is_plan.deployment p.is_plan.held w s

-- what was read back is what was written
same_value : ((read : Option Data) (j k : Json) → HasCharacters j → HasCharacters k → Gives read j → Gives read k
    → j ≡ k) → (read : Option Data) (j k : Json) → read ≡ Some (data_of j) → HasCharacters j → HasCharacters k
    → Gives read k → j ≡ k
same_value once read j k is h i g =
    once read j k h i (subst (λ (d : Data). (read ≡ Some d) × (depth d ≤ 120) × (not_whole d ≡ None)) same g) g
  where
    same : data_of k ≡ data_of j
    same = one_data (sym g.0 ∙ is)

pub reads_back : ((read : Option Data) (j k : Json) → HasCharacters j → HasCharacters k → Gives read j → Gives read k
    → j ≡ k) → ((v : Json) (t u : TemplateTree) → Describes v t → Describes v u → t ≡ u) → ReadBack
reads_back once one u bytes v q x are h g p =
    let same = same_value once (reading bytes) are.value v are.reads are.characters h g in
    subst (λ (t : TemplateTree). IsPlanOf q t x)
    (one v p.template u p.states.described (subst (λ (j : Json). Describes j u) same are.described)) p.is_plan
