-- The template of a file with those of its modules is whole.
use Rattle.std.proofs.Common.{◌≡◌, inl, inr, ℕ, zero, suc, List, [], ◌∷◌, length, map, Option}
use Rattle.std.proofs.Common.{Some, Result, Ok, Err, refl, sym, ap, ◌∙◌, subst, None}
use Rattle.std.proofs.lemmas.List.{length-map}
use Rattle.std.proofs.lemmas.Option.{slice_get-map}
use Rattle.std.specs.Prelude.{option_and_then, option_map, slice_get, IfOk, IfErr}
use Rattle.std.specs.declared.alloc.AllocError.{AllocError}
use Rattle.template_parts.specs.declared.mode.Form.{Form}
use Rattle.foundation.proofs.Options.{same_some}
use Rattle.template_tree.specs.Tree.{TemplateTree}
use Rattle.template_tree.specs.View.{template_tree}
use Rattle.template_tree.specs.declared.resource.Template.{Template}
use Rattle.plan_cells.specs.Resources.{Nested}
use Rattle.bicep_tree.specs.Tree.{FileTree}
use Rattle.bicep_found.specs.Found.{found}
use Rattle.bicep_symbols.specs.Entries.{Symbol, symbol_of}
use Rattle.bicep_program.specs.Program.{ProgramFile, program_file}
use Rattle.bicep_program.specs.declared.file.Program.{Program}
use Rattle.bicep_program.specs.declared.file.SourceFile.{SourceFile as Text}
use Rattle.resolved_program.specs.Programs.{ResolvedFileTree, IsResolved, resolved_file}
use Rattle.resolved_program.specs.View.{file_view}
use Rattle.resolved_program.specs.declared.resolved.ResolvedFile.{ResolvedFile}
use Rattle.bicep_types.specs.declared.checked.Checked.{Checked}
use Rattle.bicep_meaning.specs.Files.{SourceFile}
use Rattle.bicep_meaning.specs.Instances.{module_of}
use Rattle.agreeing_files.specs.Agreeing.{outputs_of}
use Rattle.measured_trees.specs.Limits.{IsBeyond}
use Rattle.template_written.specs.Keeps.{Keeps}
use Rattle.program_parts.specs.Sources.{source_file, source_files}
use Rattle.program_parts.specs.Built.{templates_of, template_of}
use Rattle.program_parts.specs.Seen.{file_in, files_of}
use Rattle.program_parts.specs.Laws.{CheckedFilesHaveKinds, WholeTemplatesAreEmitted}
use Rattle.program_parts.specs.Kinds.{HasKinds, file_number}
use Rattle.program_parts.specs.Whole.{IsWhole, whole}
use Rattle.program_parts.specs.Laws.{PartsWithinTheLimitsCanBeFilled}
use Rattle.program_parts.specs.Made.{AreGivenIn, CanBeFilled, IsMadeFor, IsMadeForEach, IsWith, KeepsForEach}
use Rattle.program_parts.specs.Made.{HasFew, HasFewForEach, HasMetadataForEach, HasMetadataOf, KeepsRules}
use Rattle.program_parts.specs.Parts.{extremes_of}
use Rattle.program_parts.specs.Texts.{text_of}
use Rattle.program_parts.specs.EmitFault.{EmitFault}
use Rattle.program_parts.specs.FileParts.{FileParts}
use Rattle.program_parts.specs.Faults.{IsProgramFault, IsWholeFault}
use Rattle.program_parts.specs.Programs.{IsAt, IsRead}
use Rattle.program_parts.specs.Measures.{AreMeasured, entries_in}
use Rattle.program_parts.specs.Parts.{ArePartsOfAll, IsPartAt}
use Rattle.program_parts.proofs.ItemLemmas.{found_at}
use Rattle.bicep_emit.specs.Faults.{IsBuiltFault, IsEmissionFault, IsPartsFault, IsWholeAndWithin, IsWholeProgram}
use Rattle.bicep_emit.specs.Faults.{IsWithin}
use Rattle.bicep_emit.specs.Details.{HasAllDetails, detailed}
use Rattle.bicep_emit.specs.Inner.{IsInnerFault, IsModulesFault, IsOrFault}
use Rattle.bicep_emit.specs.Modules.{AreGiven, AreModules, AreOfProgram, IsGiven, IsWholeFile, IsWholeIn, IsWholeOf}
use Rattle.bicep_emit.specs.Programs.{IsCheckedAs, IsEmission, IsLoaded, HasNoFault, sources_in, texts_in, trees_of}
use Rattle.bicep_emit.proofs.ModuleLemmas.{given_at, given_size, has_template}

at_mapped : {A B : Type 0} (f : A → B) (xs : List A) (k : ℕ) (x : A) → slice_get xs k ≡ Some x
    → slice_get (map f xs) k ≡ Some (f x)
at_mapped f xs k x e = slice_get-map f xs k ∙ ap (option_map f) e

-- the file of a number
source_get : (z : Form) (ts : List FileTree) (rs : List ResolvedFileTree) (k : ℕ) (t : FileTree)
    (r : ResolvedFileTree) → slice_get ts k ≡ Some t → slice_get rs k ≡ Some r
    → slice_get (source_files z ts rs) k ≡ Some (source_file z t r)
source_get z [] rs zero t r p q = absurd cc
source_get z [] rs (suc k) t r p q = absurd cc
source_get z (x ∷ ts) [] zero t r p q = absurd cc
source_get z (x ∷ ts) [] (suc k) t r p q = absurd cc
source_get z (x ∷ ts) (y ∷ rs) zero t r p q =
    let a : x ≡ t = cc in
    let b : y ≡ r = cc in
    ap (λ (w : FileTree). Some (source_file z w y)) a ∙ ap (λ (w : ResolvedFileTree). Some (source_file z t w)) b
source_get z (x ∷ ts) (y ∷ rs) (suc k) t r p q = source_get z ts rs k t r p q

-- the files of tables have the outputs of the program
outputs_same : (rs : List ResolvedFile)
    → outputs_of (files_of rs) ≡ map (λ (r : ResolvedFileTree). r.outputs) (map file_view rs)
outputs_same [] = refl
outputs_same (r ∷ rs) = ap (λ xs. r.outputs.items ∷ xs) (outputs_same rs)

pub sizes_same : (ps : List ProgramFile) (rs : List ResolvedFileTree) → IsResolved ps rs
    → length (trees_of ps) ≡ length rs
sizes_same ps rs h =
    length-map ps (λ (p : ProgramFile). p.tree) ∙ sym (length-map ps (resolved_file ps)) ∙ ap length h
    ∙ length-map rs (λ (r : ResolvedFileTree). found r)

module _ (z : Form) (ss : List Text) (rs : List ResolvedFile) (k : ℕ) (p : FileParts) (h : IsPartAt z ss rs k p) where
  abbrev ps : List ProgramFile
  ps = map program_file ss

  abbrev views : List ResolvedFileTree
  views = map file_view rs

  abbrev x : Text
  x = h.text

  abbrev r : ResolvedFile
  r = h.file

  abbrev f : SourceFile
  f = source_file z (text_of x) (file_view r)

  pub view_at : slice_get views k ≡ Some (file_view r)
  view_at = at_mapped file_view rs k r h.pair.file

  text_at : slice_get (texts_in ss) k ≡ Some (text_of x)
  text_at =
      at_mapped (λ (q : ProgramFile). q.tree) ps k (program_file x)
      (at_mapped program_file ss k x h.pair.text)

  pub source_at : slice_get (sources_in z ss rs) k ≡ Some f
  source_at =
      source_get z (trees_of ps) views k (text_of x) (file_view r) text_at view_at

  -- the symbols of the table are those of the file
  same_symbols : map symbol_of (entries_in p) ≡ map symbol_of r.entries.items
  same_symbols = ap (λ (g : SourceFile). g.symbols) h.parts.table.table.file

  module _ (us : List (Option Template)) (m : AreGiven (IsWholeOf z ss rs) (entries_in p) us) (kinds : HasKinds f) where
    given : (n : ℕ) → IsGiven (IsWholeOf z ss rs) (file_number f n) (template_of (templates_of us) n)
    given n =
        subst
        (λ (es : List Symbol).
        IsGiven (IsWholeOf z ss rs) (option_and_then module_of (option_map (λ q. q.2) (slice_get es n)))
        (template_of (templates_of us) n))
        same_symbols (given_at (IsWholeOf z ss rs) (entries_in p) us m n)

    -- what is given for a module is whole
    inner_whole : (o : Option ℕ) (j : ℕ) (n : ℕ) (w : Nested) → o ≡ Some j
        → template_of (templates_of us) n ≡ Some w.template
        → IsGiven (IsWholeOf z ss rs) o (template_of (templates_of us) n) → IsWhole z (sources_in z ss rs) j w.template
    inner_whole o j n w e t g =
        (subst (λ q. IsGiven (IsWholeOf z ss rs) (Some j) q) t
        (subst (λ i. IsGiven (IsWholeOf z ss rs) i (template_of (templates_of us) n)) e g)).whole

    -- and has its details
    inner_detailed : (o : Option ℕ) (j : ℕ) (n : ℕ) (w : Nested) → o ≡ Some j
        → template_of (templates_of us) n ≡ Some w.template
        → IsGiven (IsWholeOf z ss rs) o (template_of (templates_of us) n)
        → HasAllDetails z (texts_in ss) (sources_in z ss rs) j w.template
    inner_detailed o j n w e t g =
        (subst (λ q. IsGiven (IsWholeOf z ss rs) (Some j) q) t
        (subst (λ i. IsGiven (IsWholeOf z ss rs) i (template_of (templates_of us) n)) e g)).details

    -- and keeps the rules
    inner_kept : (o : Option ℕ) (q : Option TemplateTree) (v : TemplateTree) → q ≡ Some v
        → IsGiven (IsWholeOf z ss rs) o q → Keeps v
    inner_kept None q v e g =
        let no : None ≡ Some v = sym g ∙ e in
        absurd cc
    inner_kept (Some j) None v e g = absurd g
    inner_kept (Some j) (Some w) v e g = subst Keeps (same_some e) g.keeps

    all_kept : (n : ℕ) (v : TemplateTree) → template_of (templates_of us) n ≡ Some v → Keeps v
    all_kept n v e = inner_kept (file_number f n) (template_of (templates_of us) n) v e (given n)

    whole_is : (u : Template) → IsWith z (sources_in z ss rs) f (templates_of us) (template_tree u)
        → IsWhole z (sources_in z ss rs) k (template_tree u)
    whole_is u w =
        whole k (template_tree u) f (record { is = source_at; kinds = kinds; file = w.file })
        (λ i n j y at.
        inner_whole (file_number f n) j n y at.file (w.inner i n y at.nested at.symbol) (given n))

    detailed_is : (u : Template) → IsWith z (sources_in z ss rs) f (templates_of us) (template_tree u)
        → HasMetadataOf z (text_of x) r u → HasFew u
        → HasAllDetails z (texts_in ss) (sources_in z ss rs) k (template_tree u)
    detailed_is u w metadata few =
        detailed k (template_tree u) (text_of x) f
        (record { text = text_at; file = source_at; metadata = metadata; existing = w.existing; few = few })
        (λ i n j y at.
        inner_detailed (file_number f n) j n y at.file (w.inner i n y at.nested at.symbol) (given n))

    pub file_whole : outputs_of (files_of rs) ≡ outputs_of (sources_in z ss rs) → (u : Template)
        → IsMadeFor z (text_of x) r rs (templates_of us) u → KeepsRules (templates_of us) u
        → HasMetadataOf z (text_of x) r u → HasFew u → IsWholeFile z ss rs k u
    file_whole same u w keeps metadata few = record {
      whole = whole_is u (w (sources_in z ss rs) same);
      keeps = keeps all_kept;
      details = detailed_is u (w (sources_in z ss rs) same) metadata few;
    }

-- ---- a file of a program with its modules

-- there is a template for each module of the file
pub given_in : (ps : List FileParts) (p : FileParts) → CanBeFilled p → (us : List (Option Template))
    → AreOfProgram ps → AreModules ps (entries_in p) us → AreGivenIn p.table (templates_of us)
given_in ps p can us known m =
    let z = known.0 in
    let whole_of = IsWholeOf z known.1.0 known.1.1.0 in
    let es = entries_in p in
    let g = m z known.1.0 known.1.1.0 known.1.1.1.0 known.1.1.1.1 in
    record {
      each =
          λ n. has_template whole_of (slice_get (file_in p.table).declared.declarations n)
          (file_number (file_in p.table) n)
          (template_of (templates_of us) n) (can.kinds.modules n) (given_at whole_of es us g n);
      all =
          length-map us (option_map template_tree) ∙ given_size whole_of es us g ∙ sym (length-map es symbol_of)
          ∙ can.ready.paired;
    }

-- the parts of a number can be filled
pub can_fill : PartsWithinTheLimitsCanBeFilled → (ps : List FileParts) (k : ℕ) (p : FileParts) → IsAt ps k p
    → AreOfProgram ps → IsBeyond 0 (extremes_of p) None → CanBeFilled p
can_fill law ps k p at known h =
    let a = found_at (IsPartAt known.0 known.1.0 known.1.1.0) ps known.1.1.1.1.0 k p at in
    law known.0 (text_of a.text) a.file known.1.1.0 p a.parts h

pub whole_at : CheckedFilesHaveKinds
    → ((z : Form) (ts : List FileTree) (vs : List ResolvedFileTree) → length ts ≡ length vs
    → map (λ (g : SourceFile). g.outputs) (source_files z ts vs) ≡ map (λ (v : ResolvedFileTree). v.outputs) vs)
    → (ps : List FileParts) (k : ℕ) (p : FileParts)
    → IsAt ps k p → (us : List (Option Template)) → AreModules ps (entries_in p) us
    → (res : Result Template AllocError) → IsMadeForEach p (templates_of us) res
    → KeepsForEach p (templates_of us) res → HasMetadataForEach p res → HasFewForEach p res → IfOk res (IsWholeIn ps k)
whole_at have_kinds outputs ps k p at us m (Ok u) made keeps metadata few = λ z ss rs read are.
    let a = found_at (IsPartAt z ss rs) ps are.0 k p at in
    let views = map file_view rs in
    let files = map program_file ss in
    let f = source_file z (text_of a.text) (file_view a.file) in
    file_whole z ss rs k p a us (m z ss rs read are)
    (have_kinds files views read.resolved k (file_view a.file) (view_at z ss rs k p a) f refl refl)
    (outputs_same rs ∙ sym (outputs z (trees_of files) views (sizes_same files views read.resolved))) u
    (made z (text_of a.text) a.file rs a.parts) (keeps z (text_of a.text) a.file rs a.parts)
    (metadata z (text_of a.text) a.file rs a.parts) (few z (text_of a.text) a.file rs a.parts)
whole_at have_kinds outputs ps k p at us m (Err x) made keeps metadata few = tt

-- ---- the program

pub is_read : (p : Program) (c : Checked) → IsLoaded p → IsCheckedAs p c → HasNoFault p
    → IsRead p.files.items c.resolved.files.items
is_read p c loaded checked none = record {
  folder = loaded.0;
  read = loaded.1.1.read;
  resolved = checked.resolved;
  none = none;
}

pub is_emission : (z : Form) (p : Program) (c : Checked) → WholeTemplatesAreEmitted → (t : Template)
    → IsWholeProgram z p.files.items c.resolved.files.items t → IsEmission z p c t
is_emission z p c law t w = record {
  emitted = law z (sources_in z p.files.items c.resolved.files.items) (template_tree t) w.0.whole;
  details = w.0.details;
  keeps = w.0.keeps;
  nests = w.1;
}

-- ---- what is made of the parts of a program

pub of_within : (ps : List FileParts) (t : Template) → IsWholeIn ps 0 t → (u : Template) → IsWithin t u
    → IsWholeAndWithin ps u
of_within ps t w u h = (subst (IsWholeIn ps 0) (sym h.0) w, h.1)

pub of_parts : (z : Form) (ss : List Text) (rs : List ResolvedFile) (ps : List FileParts) → IsRead ss rs
    → ArePartsOfAll z ss rs ps → (t : Template) → IsWholeAndWithin ps t → IsWholeProgram z ss rs t
of_parts z ss rs ps read are t h = (h.0 z ss rs read are, h.1)

-- a fault of the templates of modules is one of the whole
pub inner_built : (ps : List FileParts) (x : EmitFault) → IsInnerFault ps x → IsBuiltFault ps x
inner_built ps x (inl h) = inl h
inner_built ps x (inr h) = inr (inl h)

-- what is true of a template is true of it with another fault
pub or_value : (P : Template → Type 0) (res : Result Template AllocError) (r : Result Template EmitFault)
    → IsOrFault res r → IfOk res P → IfOk r P
or_value P (Ok t) r e h = subst (λ q. IfOk q P) (sym e) h
or_value P (Err x) r e h = subst (λ q. IfOk q P) (sym e) tt

pub or_memory : (ps : List FileParts) (res : Result Template AllocError) (r : Result Template EmitFault)
    → IsOrFault res r → IfErr r (IsInnerFault ps)
or_memory ps (Ok t) r e = subst (λ q. IfErr q (IsInnerFault ps)) (sym e) tt
or_memory ps (Err x) r e = subst (λ q. IfErr q (IsInnerFault ps)) (sym e) (inl refl)

-- too long modules of a part are those of a file
pub file_long : (ps : List FileParts) (k : ℕ) (p : FileParts) → IsAt ps k p → (x : EmitFault)
    → IsModulesFault ps (entries_in p) x → IsInnerFault ps x
file_long ps k p at x (inl h) = h
file_long ps k p at x (inr h) = inr (k, (p, (at, h)))

pub built_fault : (ps : List FileParts) (x : EmitFault) → IsBuiltFault ps x → IsPartsFault ps x
built_fault ps x (inl h) = inl h
built_fault ps x (inr h) = inr (inr h)

pub whole_fault : (ps : List FileParts) (x : EmitFault) → IsWholeFault ps x → IsPartsFault ps x
whole_fault ps x (inl h) = inl h
whole_fault ps x (inr h) = inr (inl h)

pub parts_fault : (z : Form) (ss : List Text) (rs : List ResolvedFile) (ps : List FileParts)
    → ArePartsOfAll z ss rs ps → (x : EmitFault) → IsPartsFault ps x → IsEmissionFault z ss rs x
parts_fault z ss rs ps are x (inl h) = inl h
parts_fault z ss rs ps are x (inr h) = inr (inr (record { parts = ps; are = are; fault = h }))

pub file_fault : (z : Form) (ss : List Text) (rs : List ResolvedFile) (x : EmitFault) → IsProgramFault ss rs x
    → IsEmissionFault z ss rs x
file_fault z ss rs x (inl h) = inl h
file_fault z ss rs x (inr h) = inr (inl h)

pub are_measured : (ps : List FileParts) → AreOfProgram ps → AreMeasured ps
are_measured ps known k p at =
    (found_at (IsPartAt known.0 known.1.0 known.1.1.0) ps known.1.1.1.1.0 k p at).parts.parts.0.measure
