-- What the decorators, the types and the mentions of a text give for the file of a table.
use Rattle.std.proofs.Common.{◌≡◌, ℕ, List, Option, None, Result, Ok, Err, map, sym, ap, ◌∙◌, subst}
use Rattle.std.specs.BTreeSet.{BTreeSet}
use Rattle.std.specs.Prelude.{slice_index_or, IfOk}
use Rattle.std.specs.declared.alloc.AllocError.{AllocError}
use Rattle.std.specs.declared.alloc.Global.{Global}
use Rattle.std.specs.declared.vec.Vec.{Vec}
use Rattle.template_parts.specs.declared.looping.Batches.{Batches}
use Rattle.template_parts.specs.declared.looping.Batches.TheVariants.{Parallel, Serial}
use Rattle.template_parts.specs.declared.mode.Form.{Form}
use Rattle.template_parts.specs.declared.parameter.Parameter.{Parameter}
use Rattle.depend_graph.specs.Sets.{keys_of_each}
use Rattle.bicep_tree.specs.Tree.{FileTree}
use Rattle.bicep_tree.specs.View as view
use Rattle.bicep_tree.specs.declared.declaration.Statement.{Statement}
use Rattle.bicep_names.specs.declared.kind.Kind.{Kind}
use Rattle.bicep_symbols.specs.Entries.{symbol_of}
use Rattle.bicep_symbols.specs.declared.entry.Entry.{Entry}
use Rattle.bicep_program.specs.declared.file.SourceFile.{SourceFile as Text}
use Rattle.bicep_declared.specs.Declarations.{DeclaredTree}
use Rattle.bicep_declared.specs.View.{declared_tree}
use Rattle.bicep_declared.specs.declared.declared.Declared.{Declared}
use Rattle.bicep_dependencies.specs.Dependencies.{AreDependencies, depends_on}
use Rattle.resolved_program.specs.declared.resolved.ResolvedFile.{ResolvedFile}
use Rattle.bicep_checks.proofs.KindLemmas.{same_file}
use Rattle.resolved_program.specs.View.{file_view}
use Rattle.bicep_meaning.specs.Files.{SourceFile}
use Rattle.symbol_decorators.specs.Batches.{batches_of}
use Rattle.symbol_decorators.specs.Limits.{IsSmall}
use Rattle.parameter_rules.specs.Files.{IsParameterAt}
use Rattle.source_templates.specs.Seen.{Shape, file_of, file_in, files_of}
use Rattle.source_templates.specs.Lists.{AreRules, rule_at}
use Rattle.source_templates.specs.Fits.{IsReady, AreMentioned}
use Rattle.foundation.proofs.Comparisons.{le_true}
use Rattle.template_tree.specs.declared.resource.Template.{Template}
use Rattle.template_written.specs.Keeps.{KeepsBatches}
use Rattle.source_templates.specs.Kept.{AreBatchesSmall, CheckedFilesArePlaced}
use Rattle.measured_trees.specs.Limits.{IsBeyond}
use Rattle.file_metadata.specs.Files.{IsMetadataOf}
use Rattle.file_metadata.specs.declared.files.FileMetadata.{FileMetadata}
use Rattle.source_templates.specs.Counts.{first_beyond}
use Rattle.source_templates.specs.Laws.{FilesWithinLimitsFit}
use Rattle.source_templates.specs.Limited.{AllIsPrintable}
use Rattle.file_tables.specs.Orders as tables
use Rattle.file_tables.specs.Tables.{IsTableOf, IsOfProgram}
use Rattle.file_tables.specs.declared.order.FileOrder.{FileOrder}
use Rattle.source_templates.specs.Laws.{CheckedFilesHaveKinds, CheckedNamesDiffer}
use Rattle.source_templates.specs.Texts.{IsOfText}
use Rattle.file_templates.specs.Made.{CanBeFilled, IsKeptBy, KeepsRules}
use Rattle.file_templates.specs.Parts.{AreCountedParts, AreMentionedParts, AreMentionsOf, AreParts, ArePartsFor}
use Rattle.file_templates.specs.Parts.{ArePartsOf, AreRuledParts, AreRulesOf, AreWithTable, IsMeasureOf}
use Rattle.file_templates.specs.Parts.{extremes_of, unmeasured}
use Rattle.file_templates.specs.Texts.{text_of, HasLoops, IsTabled, IsTabledIn, IsOfFile}
use Rattle.file_templates.specs.declared.fault.EmitFault.{EmitFault}
use Rattle.file_templates.specs.declared.file.FileParts.{FileParts}
use Rattle.file_templates.specs.declared.file.Parts.{Parts}
use Rattle.source_templates.specs.Built.{Templates}

-- ---- loops

pub has_loops : (x : Text) (ss : List Statement) → ss ≡ x.file.items → (r : ResolvedFile) (xs bs : List Batches)
    → bs ≡ xs → ((n : ℕ) → slice_index_or xs n Parallel ≡ batches_of (view.file_of ss) n)
    → ((n : ℕ) → IsSmall (batches_of (view.file_of ss) n)) → (res : Result FileOrder EmitFault)
    → IfOk res (tables.HasBatches r bs) → IfOk res (HasLoops (text_of x) r)
has_loops x ss e r xs bs same are small (Ok order) h =
    subst (λ (l : List Statement). HasLoops (view.file_of l) r order) e
    (record {
      batches = λ n. h n ∙ ap (λ ys. slice_index_or ys n Parallel) same ∙ are n;
      small = small;
    })
has_loops x ss e r xs bs same are small (Err y) h = tt

-- ---- parameters

pub rules_are : (x : Text) (r : ResolvedFile) (es : List Entry) (ds : List Declared) (ss : List Statement)
    → es ≡ r.entries.items → ds ≡ r.declared.declarations.items → ss ≡ x.file.items
    → (res : Result (Vec (Option Parameter) Global) AllocError)
    → ((f : SourceFile) → f.symbols ≡ map symbol_of es → f.declared.declarations ≡ map declared_tree ds
    → IfOk res (λ v. (n : ℕ) → IsParameterAt (view.file_of ss) f n (slice_index_or v.items n None)))
    → IfOk res (AreRulesOf (text_of x) r)
rules_are x r es ds ss e1 e2 e3 (Ok v) h = λ f p q n.
    subst (λ (l : List Statement). IsParameterAt (view.file_of l) f n (slice_index_or v.items n None)) e3
    (h f (p ∙ ap (map symbol_of) (sym e1)) (q ∙ ap (map declared_tree) (sym e2)) n)
rules_are x r es ds ss e1 e2 e3 (Err y) h = tt

-- ---- mentions

pub mentions_are : (r : ResolvedFile) (es : List Entry) (ds : List Declared) → es ≡ r.entries.items
    → ds ≡ r.declared.declarations.items → (res : Result (Vec (BTreeSet ℕ) Global) AllocError)
    → IfOk res
    (λ sets. AreDependencies (map (λ (e : Entry). e.kind) es) (map declared_tree ds) (keys_of_each sets.items))
    → IfOk res (AreMentionsOf r)
mentions_are r es ds e1 e2 (Ok v) h = λ k n.
    h k n ∙ same_file (λ (xs : List Kind) (ys : List DeclaredTree). depends_on xs ys k n) r es ds e1 e2
mentions_are r es ds e1 e2 (Err y) h = tt

-- ---- the file of a table

module _ (r : ResolvedFile) (s : Shape) where
  pub mentions_in : (t : FileTree) → IsTabledIn t r s → (sets : Vec (BTreeSet ℕ) Global) → AreMentionsOf r sets
      → AreMentioned s sets.items
  mentions_in t h sets m =
      subst (λ (f : SourceFile). AreDependencies (map (λ x. x.2) f.symbols) f.declared.declarations
      (keys_of_each sets.items)) (sym h.1.table.file) m

  pub rules_in : (t : FileTree) → IsTabledIn t r s → (rules : Vec (Option Parameter) Global) → AreRulesOf t r rules
      → (n : ℕ) → IsParameterAt t (file_in s) n (rule_at s rules.items n)
  rules_in t h rules are =
      are (file_in s) (ap (λ (f : SourceFile). f.symbols) h.1.table.file)
      (ap (λ (f : SourceFile). f.declared.declarations) h.1.table.file)

  pub of_file : (t : FileTree) → IsTabledIn t r s → IsOfFile s
  of_file t h = record {
    file = file_of r h.1.marks;
    files = files_of h.0;
    table = h.1.table;
    differ = h.1.differ;
  }

  pub of_text : (t : FileTree) → IsTabledIn t r s → (rules : List (Option Parameter))
      → ((n : ℕ) → IsParameterAt t (file_in s) n (rule_at s rules n)) → IsOfText t r s rules
  of_text t h rules are = record {
    marks = h.1.marks;
    file = h.1.table.file;
    names = h.1.names;
    batches = h.1.batches;
    rules = are;
  }

-- the table of a file of a checked program
pub tabled_by : (t : FileTree) (r : ResolvedFile) (rs : List ResolvedFile) → IsOfProgram rs r → (x : FileOrder)
    → tables.IsOrderFor r x → HasLoops t r x → CheckedFilesHaveKinds → CheckedNamesDiffer → CheckedFilesArePlaced
    → (s : Shape)
    → IsTableOf (file_of r x.marks.items) (files_of rs) s → IsTabled t r rs s
tabled_by t r rs h x order loops have_kinds differ are_placed s table =
    let views = map file_view rs in
    let symbols = ap (λ (f : SourceFile). f.symbols) table.file in
    let declared = ap (λ (f : SourceFile). f.declared) table.file in
    let outputs = ap (λ (f : SourceFile). f.outputs) table.file in
    record {
      marks = x.marks.items;
      table = table;
      names = order.entries;
      batches = loops.batches;
      small = loops.small;
      kinds = have_kinds h.files views h.resolved h.number (file_view r) h.is (file_in s) symbols declared;
      differ = differ h.files views h.resolved h.none h.number (file_view r) h.is (file_in s) symbols outputs;
      placed = are_placed h.files views h.resolved h.none h.number (file_view r) h.is (file_in s) symbols declared;
    }

-- batches that are small are so in a template
small_batches : (b : Batches) → IsSmall b → KeepsBatches b
small_batches Parallel h = tt
small_batches (Serial n) h = le_true n 800 h

pub all_small : (t : FileTree) (r : ResolvedFile) (rs : List ResolvedFile) (s : Shape) → IsTabled t r rs s
    → AreBatchesSmall (file_in s)
all_small t r rs s h n =
    subst (λ (b : Batches). KeepsBatches b)
    (sym (ap (λ (f : SourceFile). f.batches n) h.table.file ∙ h.batches n))
    (small_batches (batches_of t n) (h.small n))

pub keeps_rules : (t : FileTree) (r : ResolvedFile) (rs : List ResolvedFile) (s : Shape) (us : Templates)
    → IsTabled t r rs s → (res : Result Template AllocError) → IfOk res (IsKeptBy s us) → IfOk res (KeepsRules us)
keeps_rules t r rs s us h (Ok u) k = k h.placed (all_small t r rs s h)
keeps_rules t r rs s us h (Err x) k = tt

pub is_ready : (s : Shape) → IsOfFile s → IsReady s
is_ready s h = record {
  filled = h.table.filled;
  sound = h.table.emittable.sound;
  paired = h.table.emittable.paired;
}

pub all_printable : (s : Shape) → IsOfFile s → AllIsPrintable s
all_printable s h =
    let e = h.table.emittable in
    record {
      file = record { words = e.words; outputs = e.outputs; wholes = e.wholes; parts = e.parts };
      words = e.all_words;
      wholes = e.all_wholes;
    }

-- ---- parts

pub with_mentions : (z : Form) (s : Shape) (rules : List (Option Parameter)) (x : FileMetadata)
    (sets : List (BTreeSet ℕ)) → AreMentioned s sets → (res : Result Parts EmitFault)
    → IfOk res (AreParts z s rules x sets) → IfOk res (AreMentionedParts z s rules x)
with_mentions z s rules x sets m (Ok p) h = (sets, (m, h))
with_mentions z s rules x sets m (Err e) h = tt

pub with_metadata : (z : Form) (t : FileTree) (s : Shape) (rules : List (Option Parameter)) (x : FileMetadata)
    → IsMetadataOf t x → (res : Result Parts EmitFault) → IfOk res (AreMentionedParts z s rules x)
    → IfOk res (AreRuledParts z t s rules)
with_metadata z t s rules x m (Ok p) h = (x, (m, h))
with_metadata z t s rules x m (Err e) h = tt

pub metadata_are : (x : Text) (ss : List Statement) → ss ≡ x.file.items → (res : Result FileMetadata AllocError)
    → IfOk res (IsMetadataOf (view.file_of ss)) → IfOk res (IsMetadataOf (text_of x))
metadata_are x ss e (Ok m) h = subst (λ (l : List Statement). IsMetadataOf (view.file_of l) m) e h
metadata_are x ss e (Err y) h = tt

pub all_parts : (z : Form) (t : FileTree) (s : Shape) (rules : List (Option Parameter))
    → ((n : ℕ) → IsParameterAt t (file_in s) n (rule_at s rules n)) → AreRules s rules
    → (res : Result Parts EmitFault) → IfOk res (AreRuledParts z t s rules)
    → IfOk res (ArePartsOf z t s)
all_parts z t s rules are there (Ok p) h =
    let x = h.1.1.1.1 in
    record {
      rules =
          λ n. subst (λ (l : List (Option Parameter)). IsParameterAt t (file_in s) n (rule_at s l n))
          (sym x.rules_are) (are n);
      there = subst (λ (l : List (Option Parameter)). AreRules s l) (sym x.rules_are) there;
      metadata = subst (λ (m : FileMetadata). IsMetadataOf t m) (sym x.metadata_is) h.1.0;
      mentioned = subst (λ (l : List (BTreeSet ℕ)). AreMentioned s l) (sym x.mentioned_are) h.1.1.1.0;
      measure =
          subst (λ (m : FileMetadata). IsMeasureOf z s p.rules.items m p.measure) (sym x.metadata_is)
          (subst (λ (l : List (Option Parameter)). IsMeasureOf z s l h.0 p.measure) (sym x.rules_are) x.measure);
    }
all_parts z t s rules are there (Err x) h = tt

pub counted : (z : Form) (t : FileTree) (s : Shape) → first_beyond (file_in s) ≡ None → (res : Result Parts EmitFault)
    → IfOk res (ArePartsOf z t s) → IfOk res (AreCountedParts z t s)
counted z t s e (Ok p) h = (h, e)
counted z t s e (Err x) h = tt

pub with_table : (z : Form) (t : FileTree) (r : ResolvedFile) (rs : List ResolvedFile) (s : Shape) → IsTabled t r rs s
    → (res : Result FileParts EmitFault) → IfOk res (AreWithTable z t s) → IfOk res (ArePartsFor z t r rs)
with_table z t r rs s h (Ok x) w = record {
  form = w.form;
  table = subst (λ (y : Shape). IsTabled t r rs y) (sym w.table) h;
  parts =
      subst (λ (f : Form). AreCountedParts f t x.table x.parts) (sym w.form)
      (subst (λ (y : Shape). AreCountedParts z t y x.parts) (sym w.table) w.parts);
}
with_table z t r rs s h (Err e) w = tt

-- ---- templates of parts

module _ (z : Form) (t : FileTree) (r : ResolvedFile) (rs : List ResolvedFile) (x : FileParts)
    (h : ArePartsFor z t r rs x) where
  pub of_parts : (rules : List (Option Parameter)) → rules ≡ x.parts.rules.items → IsOfText t r x.table rules
  of_parts rules e =
      of_text r x.table t (rs, h.table) rules
      (λ n. subst (λ (l : List (Option Parameter)). IsParameterAt t (file_in x.table) n (rule_at x.table l n)) (sym e)
      (h.parts.0.rules n))

-- what is beyond no limit can be filled with templates of modules
pub can_be_filled : FilesWithinLimitsFit → (z : Form) (t : FileTree) (r : ResolvedFile) (rs : List ResolvedFile)
    (x : FileParts) → ArePartsFor z t r rs x → IsBeyond 0 (extremes_of x) None → CanBeFilled x
can_be_filled fit z t r rs x h k =
    let s = x.table in
    let rules = x.parts.rules.items in
    let file = of_file r s t (rs, h.table) in
    let notes = x.parts.metadata in
    let a = fit x.form s rules notes.symbols.items notes.outputs.items unmeasured 0 (all_printable s file) k in
    record {
      ready = is_ready s file;
      kinds = h.table.kinds;
      mentioned = h.parts.0.mentioned;
      fits =
          record {
            listed =
                record {
                  symbols = h.table.differ.symbols;
                  output_names = h.table.differ.outputs;
                  rules = h.parts.0.there;
                  variables = a.variables;
                  outputs = a.outputs;
                  defaults = a.defaults;
                };
            fits = a.bodies;
            within = a.within;
          };
    }
