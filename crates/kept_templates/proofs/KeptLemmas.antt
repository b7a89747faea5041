-- The template of a file keeps the rules of templates.
use Rattle.std.proofs.Common.{◌≡◌, ℕ, Bool, true, false, List, [], ◌∷◌, length, map, Option, Some, None, codes, chars}
use Rattle.std.proofs.Common.{refl, sym, ap, ◌∙◌, subst, true≢false}
use Rattle.std.proofs.lemmas.Slice.Eq.{bytes_eq-Decides}
use Rattle.foundation.proofs.AsciiWords.{word}
use Rattle.arm_ids.specs.Members.{deployment_type}
use Rattle.std.specs.List.Sorted.{IsStrictlySortedBy}
use Rattle.std.specs.Prelude.{is_some}
use Rattle.arm_value.specs.Json.{key_cmp}
use Rattle.arm_value.specs.Look.{fold}
use Rattle.arm_expr.specs.Tree.{Tree}
use Rattle.template_parts.specs.declared.declaration.Declaration.{Declaration}
use Rattle.template_parts.specs.declared.looping.Batches.{Batches}
use Rattle.template_parts.specs.declared.looping.ResourceCopy.{ResourceCopy}
use Rattle.template_parts.specs.declared.mode.Form.{Form}
use Rattle.template_parts.specs.declared.mode.Form.TheVariants.{One, Two}
use Rattle.template_parts.specs.declared.parameter.Parameter.{Parameter}
use Rattle.template_tree.specs.Tree.{TemplateTree, ResourceTree, resource, trees, no_resources, BodyTree as Body}
use Rattle.template_tree.specs.Tree as template
use Rattle.template_tree.specs.View.{template_tree}
use Rattle.template_tree.specs.declared.resource.Template.{Template}
use Rattle.template_meaning.specs.Resources.{is_named}
use Rattle.template_written.specs.Keeps.{Keeps, KeepEach, KeepsResource, KeepsBody, KeepsCopy, KeepsBatches}
use Rattle.template_written.specs.Keeps.{KeepsSymbol, KeepsSymbols, symbols, deployments}
use Rattle.template_written.specs.Written.{name_or_none, tree_symbol}
use Rattle.bicep_tree.specs.declared.leaf.Quoted.{Quoted}
use Rattle.bicep_resolved.specs.Source.{LoopTree, field_named}
use Rattle.bicep_declared.specs.Declarations.{BodyTree, DeclaredTree}
use Rattle.bicep_declared.specs.Declarations as d
use Rattle.bicep_meaning.specs.Files.{declaration, type_of}
use Rattle.bicep_meaning.specs.Instances.{put_by, variable_named, argument_of, argument_named}
use Rattle.source_worlds.specs.Numbers.{in_template, is_put, name_of}
use Rattle.declaration_laws.specs.Sound.{IsSound}
use Rattle.placed_files.specs.Placed.{IsPlaced}
use Rattle.named_parts.specs.Found.{found}
use Rattle.emitted_modules.specs.Heads.{IsLoopOf, loop_count}
use Rattle.emitted_modules.specs.Files.{frames_around, IsVariable}
use Rattle.emitted_modules.specs.Filled.{emission_sight}
use Rattle.emitted_modules.specs.Limits.{members_at}
use Rattle.emitted_modules.specs.Resources.{HasMembers}
use Rattle.emitted_modules.specs.Arguments.{argument_name, argument_value, arguments_in}
use Rattle.emitted_modules.specs.Modules.{IsDeployment}
use Rattle.emitted_modules.proofs.ArgumentLemmas.{argument_in_is}
use Rattle.counted_templates.specs.Fits.{IsReady}
use Rattle.counted_templates.specs.Lists.{variable_name, SymbolsDiffer}
use Rattle.counted_templates.specs.Built.{Templates, template_of, symbol_in, IsResourceOf, IsExistingOf, IsModuleOf}
use Rattle.counted_templates.specs.Built.{IsBuiltFor, AreBuilt}
use Rattle.counted_templates.proofs.EachLemmas.{EachIs, passing_each}
use Rattle.counted_templates.specs.Seen.{Shape, file_in, files_in, whole_in}
use Rattle.counted_templates.specs.Values.{AreBoth, IsContent}
use Rattle.counted_templates.specs.Templates.{IsTemplateOf}
use Rattle.kept_templates.specs.Kept.{AreBatchesSmall, AllKept}
use Rattle.kept_templates.proofs.NameLemmas.{copy, none_loops}
use Rattle.kept_templates.proofs.VariableLemmas.{variables_kept}
use Rattle.kept_templates.proofs.MemberLemmas.{members_inside}
use Rattle.kept_templates.proofs.OrderLemmas.{names_in_order}

none_other : {A B : Type 0} (R : A → B → Type 0) (o : Option A) (q : Option B) → AreBoth R o q → o ≡ None → q ≡ None
none_other R None None h e = refl
none_other R None (Some b) h e = absurd h
none_other R (Some a) q h e = absurd cc

is_module_type : is_named deployments deployment_type ≡ true
is_module_type =
    (bytes_eq-Decides (fold (chars deployments)) (fold deployment_type)).1 (ap fold (word deployments refl))

no_module_type : (k : List ℕ) → (fold k ≡ fold deployment_type → ⊥) → is_named deployments k ≡ false
no_module_type k h = by_test (is_named deployments k) refl
  where
    by_test : (b : Bool) → is_named deployments k ≡ b → b ≡ false
    by_test true e =
        absurd (h (sym ((bytes_eq-Decides (fold (chars deployments)) (fold k)).0 e) ∙ ap fold (word deployments refl)))
    by_test false e = refl

module _ (z : Form) (s : Shape) (sound : IsSound (file_in s)) (placed : IsPlaced (file_in s))
    (small : AreBatchesSmall (file_in s)) where
  symbol_kept : (y : Form) (x : List ℕ) (d : Declaration) → d.symbol ≡ symbol_in y x → d.existing ≡ false
      → KeepsSymbol y d
  symbol_kept One x d e h = (e, h)
  symbol_kept Two x d e h = ap is_some e

  copy_kept : (l : Option LoopTree) (x : List ℕ) (count : Tree) (b : Batches) (c : Option ResourceCopy)
      → KeepsBatches b → AreBoth (λ l y. IsLoopOf x count b y) l c → KeepsCopy c
  copy_kept l x count b None k h = tt
  copy_kept None x count b (Some c) k h = absurd h
  copy_kept (Some l) x count b (Some c) k h = subst KeepsBatches (sym h.batches) k

  none_kept : (rs : template.Trees) → rs ≡ no_resources → KeepEach One rs
  none_kept rs e = subst (KeepEach One) (sym e) tt

  -- ---- resources

  type_kept : (n at : ℕ) (q : Quoted) (existing : Bool) (b : BodyTree)
      → declaration (file_in s) n ≡ Some (d.a_resource at q existing b) → (k : List ℕ)
      → k ≡ (type_of (file_in s) n).kind → is_named deployments k ≡ false
  type_kept n at q existing b is k e =
      no_module_type k (λ f. (sound.types n at q existing b is).is_resource (sym (ap fold e) ∙ f))

  members_kept : (n at : ℕ) (q : Quoted) (existing : Bool) (b : BodyTree)
      → declaration (file_in s) n ≡ Some (d.a_resource at q existing b) → (x : Declaration) (y : Body)
      → x.kind ≡ (type_of (file_in s) n).kind → HasMembers (members_at s n b) y → KeepsBody x y
  members_kept n at q existing b is x (template.body_members ms) k h = (
    type_kept n at q existing b is x.kind k,
    members_inside x.symbol (emission_sight s) (frames_around (whole_in s) n b.each) b.fields ms
        (placed.fields n at q existing b is) h,
  )
  members_kept n at q existing b is x (template.deployment scope args u) k h = absurd h

  resource_kept : (n at : ℕ) (q : Quoted) (b : BodyTree)
      → declaration (file_in s) n ≡ Some (d.a_resource at q false b) → (r : ResourceTree) → IsResourceOf z s n b r
      → KeepsResource z r
  resource_kept n at q b is (resource x y rs) h = (
    symbol_kept z (name_of (file_in s) n) x h.head.symbol h.head.existing,
    copy_kept b.each (name_of (file_in s) n) (loop_count (whole_in s) n) ((file_in s).batches n) x.copy (small n)
        h.head.loop,
    members_kept n at q false b is x y h.head.kind h.body,
    none_kept rs h.childless,
  )

  -- ---- existing resources, which the first form does not have

  abbrev IsListed : Form → ℕ → Type 0
  IsListed One n = is_put (file_in s) n ≡ true
  IsListed Two n = Unit {0}

  existing_symbol : (y : Form) (n at : ℕ) (q : Quoted) (b : BodyTree)
      → declaration (file_in s) n ≡ Some (d.a_resource at q true b) → IsListed y n → (d : Declaration)
      → d.symbol ≡ symbol_in y (name_of (file_in s) n) → KeepsSymbol y d
  existing_symbol One n at q b is put d e =
      absurd (true≢false (sym put ∙ ap (λ o. is_some (put_by (file_in s) n o)) is))
  existing_symbol Two n at q b is put d e = ap is_some e

  existing_kept : (n at : ℕ) (q : Quoted) (b : BodyTree)
      → declaration (file_in s) n ≡ Some (d.a_resource at q true b) → IsListed z n → (r : ResourceTree)
      → IsExistingOf z s n b r → KeepsResource z r
  existing_kept n at q b is put (resource x y rs) h =
      let head = h.head.head in (
        existing_symbol z n at q b is put x (ap (λ x. x.symbol) h.head.is ∙ head.symbol),
        subst KeepsCopy (sym (ap (λ x. x.copy) h.head.is))
            (copy_kept b.each (name_of (file_in s) n) (loop_count (whole_in s) n) ((file_in s).batches n)
            h.head.declaration.copy (small n) head.loop),
        subst (KeepsBody x) (sym h.body)
            (type_kept n at q true b is x.kind (ap (λ x. x.kind) h.head.is ∙ head.kind), tt),
        none_kept rs h.childless,
      )

  -- ---- modules

  deployment_kept : (n at : ℕ) (b : BodyTree) → declaration (file_in s) n ≡ Some (d.a_module at b)
      → (u : TemplateTree) → Keeps u → (x : Declaration) (y : Body) → x.kind ≡ deployment_type
      → IsDeployment s n b u y → KeepsBody x y
  deployment_kept n at b is u keeps x (template.body_members ms) k h = absurd h
  deployment_kept n at b is u keeps x (template.deployment scope args v) k h = (
    ap (is_named deployments) k ∙ is_module_type,
    h.1.0.order,
    none_loops argument_name args none_found,
    subst Keeps (sym h.1.1) keeps,
  )
    where
      none_found : found argument_name copy args ≡ None
      none_found =
          let fs = frames_around (whole_in s) n b.each in
          none_other (λ v a. IsContent (argument_value (emission_sight s) v fs) a.content)
          (argument_named copy (arguments_in b.fields)) (found argument_name copy args) (h.1.0.values copy)
          (sym (argument_in_is copy (field_named (codes "params") b.fields)) ∙ sym (ap (argument_of copy) is)
          ∙ placed.arguments n)

  module_kept : (n at : ℕ) (b : BodyTree) → declaration (file_in s) n ≡ Some (d.a_module at b) → (u : TemplateTree)
      → Keeps u → (r : ResourceTree) → IsModuleOf z s n b u r → KeepsResource z r
  module_kept n at b is u keeps (resource x y rs) h = (
    symbol_kept z (name_of (file_in s) n) x h.head.symbol h.head.existing,
    copy_kept b.each (name_of (file_in s) n) (loop_count (whole_in s) n) ((file_in s).batches n) x.copy (small n)
        h.head.loop,
    deployment_kept n at b is u keeps x y h.head.kind h.body,
    none_kept rs h.childless,
  )

  -- ---- the template

  module _ (us : Templates) (kept : AllKept us) where
    built_kept : (n : ℕ) (o : Option TemplateTree) (e : Option DeclaredTree) (r : ResourceTree)
        → template_of us n ≡ o → declaration (file_in s) n ≡ e → IsListed z n → IsBuiltFor z s n o e r
        → KeepsResource z r
    built_kept n o None r t is p h = absurd h
    built_kept n o (Some (d.parameter at k)) r t is p h = absurd h
    built_kept n o (Some (d.parameter_with at k x)) r t is p h = absurd h
    built_kept n o (Some (d.variable at v)) r t is p h = absurd h
    built_kept n o (Some (d.a_resource at q true b)) r t is p h = existing_kept n at q b is p r h
    built_kept n o (Some (d.a_resource at q false b)) r t is p h = resource_kept n at q b is r h
    built_kept n None (Some (d.a_module at b)) r t is p h = absurd h
    built_kept n (Some u) (Some (d.a_module at b)) r t is p h = module_kept n at b is u (kept n u t) r h

    each_kept : (ns : List ℕ) (rs : List ResourceTree) → EachIs (IsListed z) ns → AreBuilt z s us ns rs
        → KeepEach z (trees rs)
    each_kept [] [] p h = tt
    each_kept [] (r ∷ rs) p h = absurd h
    each_kept (n ∷ ns) [] p h = absurd h
    each_kept (n ∷ ns) (r ∷ rs) p h = (
      built_kept n (template_of us n) (declaration (file_in s) n) r refl refl p.0 h.0,
      each_kept ns rs p.1 h.1,
    )

    all_listed : (y : Form) → EachIs (IsListed y) (in_template y (file_in s))
    all_listed One =
        passing_each (IsListed One) (is_put (file_in s)) (λ n e. e) 0 (length (file_in s).declared.declarations)
    all_listed Two = each_there (in_template Two (file_in s))
      where
        each_there : (ns : List ℕ) → EachIs (IsListed Two) ns
        each_there [] = tt
        each_there (n ∷ ns) = (tt, each_there ns)

-- ---- symbolic names

module _ (s : Shape) (us : Templates) where
  symbol_is : (n : ℕ) (o : Option TemplateTree) (e : Option DeclaredTree) (r : ResourceTree)
      → IsBuiltFor Two s n o e r → tree_symbol r ≡ name_of (file_in s) n
  symbol_is n o None r h = absurd h
  symbol_is n o (Some (d.parameter at k)) r h = absurd h
  symbol_is n o (Some (d.parameter_with at k x)) r h = absurd h
  symbol_is n o (Some (d.variable at v)) r h = absurd h
  symbol_is n o (Some (d.a_resource at q true b)) (resource x y rs) h =
      ap (λ x. name_or_none x.symbol) h.head.is ∙ ap name_or_none h.head.head.symbol
  symbol_is n o (Some (d.a_resource at q false b)) (resource x y rs) h = ap name_or_none h.head.symbol
  symbol_is n None (Some (d.a_module at b)) r h = absurd h
  symbol_is n (Some u) (Some (d.a_module at b)) (resource x y rs) h = ap name_or_none h.head.symbol

  symbols_are : (ns : List ℕ) (rs : List ResourceTree) → AreBuilt Two s us ns rs
      → symbols (trees rs) ≡ map (name_of (file_in s)) ns
  symbols_are [] [] h = refl
  symbols_are [] (r ∷ rs) h = absurd h
  symbols_are (n ∷ ns) [] h = absurd h
  symbols_are (n ∷ ns) (r ∷ rs) h =
      let first = symbol_is n (template_of us n) (declaration (file_in s) n) r h.0 in
      let rest = symbols_are ns rs h.1 in
      λ i. first i ∷ rest i

  symbols_kept : (z : Form) (rs : List ResourceTree) → IsReady s → SymbolsDiffer s
      → AreBuilt z s us (in_template z (file_in s)) rs → KeepsSymbols z (trees rs)
  symbols_kept One rs ready differ h = tt
  symbols_kept Two rs ready differ h =
      subst (IsStrictlySortedBy key_cmp) (sym (symbols_are (in_template Two (file_in s)) rs h))
      (names_in_order (file_in s) differ ready.paired)

pub template_kept : (z : Form) (s : Shape) (rs : List (Option Parameter)) (us : Templates) (u : Template)
    → IsTemplateOf z s rs us u → IsReady s → SymbolsDiffer s → IsPlaced (file_in s) → AreBatchesSmall (file_in s)
    → AllKept us → Keeps (template_tree u)
template_kept z s rs us u h ready differ placed small kept = (
  record {
    parameters = h.parameter_order;
    variables = variables_kept u.variables h.variable_order
        (none_other (IsVariable (files_in s) (file_in s)) (variable_named copy (file_in s))
        (found variable_name copy u.variables) (h.variables copy) placed.variables);
    outputs = h.output_order;
  },
  subst (λ f. KeepsSymbols f (trees u.resources)) (sym h.form)
      (symbols_kept s us z u.resources ready differ h.resources),
  subst (λ f. KeepEach f (trees u.resources)) (sym h.form)
      (each_kept z s ready.sound placed small us kept (in_template z (file_in s)) u.resources
      (all_listed z s ready.sound placed small us kept z) h.resources),
)
