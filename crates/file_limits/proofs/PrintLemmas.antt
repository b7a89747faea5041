-- The names and the numbers in what the values of a file become.
use Rattle.std.proofs.Common.{◌≡◌, ℕ, zero, suc, Bool, true, false, List, [], ◌∷◌, Option, Some, None, refl}
use Rattle.std.proofs.Common.{codes, bytes_eq, subst}
use Rattle.std.specs.Prelude.{slice_get, if◌then◌else◌}
use Rattle.std.specs.List.{AllByRecursion}
use Rattle.foundation.proofs.Options.{same_some}
use Rattle.bicep_tree.specs.declared.leaf.Quoted.{Quoted}
use Rattle.bicep_tree.specs.declared.leaf.TypeName.{TypeName}
use Rattle.bicep_resolved.specs.Source.{SourceTree, ValueTree, PropertyTrees, LoopTree, field_named}
use Rattle.bicep_resolved.specs.Source as s
use Rattle.bicep_declared.specs.Declarations.{BodyTree, DeclaredTree, OutputTree}
use Rattle.bicep_declared.specs.Declarations as d
use Rattle.bicep_meaning.specs.Files.{declaration}
use Rattle.bicep_meaning.specs.Instances.{body_fields, is_own}
use Rattle.bicep_emission.specs.Emitted.{Frame, emitted}
use Rattle.emitted_names.proofs.GivenLemmas.{name_is}
use Rattle.emitted_numbers.specs.Wholes.{DeclaredHasWholes, ValueHasWholes}
use Rattle.tree_names.specs.Words.{DeclaredHasWords, ValueHasAllWords}
use Rattle.measured_trees.specs.Limits.{IsPrintable}
use Rattle.tree_building.specs.Each.{Each, EachOfMembers, EachOfValue}
use Rattle.tree_building.specs.Sight.{tree, members, value}
use Rattle.printable_files.specs.Printable.{FramesArePrintable, HasPrintable, TreeHasPrintable}
use Rattle.printable_files.specs.Printable.{MembersHavePrintable, ValueHasPrintable}
use Rattle.emitted_templates.specs.Arguments.{arguments_in, object_members}
use Rattle.emitted_templates.specs.Files.{frames_around}
use Rattle.emitted_templates.specs.Filled.{emission_sight}
use Rattle.emitted_templates.specs.Lists.{output_at}
use Rattle.emitted_templates.specs.Seen.{Shape, file_in, files_in, whole_in}
use Rattle.file_limits.specs.Limited.{AllIsPrintable}

-- what the laws of `printable_files` say of the file of a table
pub record Printed (z : Shape) : Type 0 where
  pub expressions : (e : SourceTree) (fs : List Frame) → HasPrintable e → FramesArePrintable fs
      → IsPrintable (emitted (file_in z) (files_in z) (whole_in z).scope e fs)
  pub items : (n : ℕ) → IsPrintable ((whole_in z).scope.items n)
  pub names : (n : ℕ) (fs : List Frame) → FramesArePrintable fs → IsPrintable ((whole_in z).full_name n fs)
  pub conditions : (n : ℕ) (fs : List Frame) → FramesArePrintable fs → IsPrintable ((whole_in z).condition n fs)
  pub trees : (e : SourceTree) (fs : List Frame) → TreeHasPrintable e → FramesArePrintable fs
      → Each IsPrintable (tree (emission_sight z) e fs)
  pub members : (ps : PropertyTrees) (fs : List Frame) → MembersHavePrintable ps → FramesArePrintable fs
      → EachOfMembers IsPrintable (members (emission_sight z) ps fs)
  pub values : (name : Option (List ℕ)) (v : ValueTree) (fs : List Frame) → ValueHasPrintable v → FramesArePrintable fs
      → EachOfValue IsPrintable (value (emission_sight z) name v fs)

-- ---- lists and members

all_at : {X : Type 0} (P : X → Type 0) (xs : List X) (n : ℕ) (x : X) → AllByRecursion P xs → slice_get xs n ≡ Some x
    → P x
all_at P [] zero x h e = absurd cc
all_at P [] (suc n) x h e = absurd cc
all_at P (y ∷ ys) zero x h e = subst P (same_some e) h.0
all_at P (y ∷ ys) (suc n) x h e = all_at P ys n x h.1 e

first_named : (b : Bool) (w v : ValueTree) (o : Option ValueTree) → (if b then Some w else o) ≡ Some v
    → ValueHasPrintable w → (o ≡ Some v → ValueHasPrintable v) → ValueHasPrintable v
first_named true w v o e h later = subst ValueHasPrintable (same_some e) h
first_named false w v o e h later = later e

named_words : (x : List ℕ) (ps : PropertyTrees) (v : ValueTree) → MembersHavePrintable ps → field_named x ps ≡ Some v
    → ValueHasPrintable v
named_words x s.no_property v h e = absurd cc
named_words x (s.property at y w ps) v h e =
    first_named (bytes_eq y x) w v (field_named x ps) e (h.0.0, h.1.0)
    (λ g. named_words x ps v (h.0.1, h.1.1) g)

chosen_words : (b : Bool) (at : ℕ) (x : List ℕ) (v : ValueTree) (ps : PropertyTrees) → ValueHasPrintable v
    → MembersHavePrintable ps → MembersHavePrintable (if b then ps else s.property at x v ps)
chosen_words true at x v ps h g = g
chosen_words false at x v ps h g = ((h.0, g.0), (h.1, g.1))

fields_words : (ps : PropertyTrees) → MembersHavePrintable ps → MembersHavePrintable (body_fields ps)
fields_words s.no_property h = (tt, tt)
fields_words (s.property at x v ps) h =
    chosen_words (is_own x) at x v (body_fields ps) (h.0.0, h.1.0) (fields_words ps (h.0.1, h.1.1))

object_words : (o : Option ValueTree) → ((v : ValueTree) → o ≡ Some v → ValueHasPrintable v)
    → MembersHavePrintable (object_members o)
object_words None h = (tt, tt)
object_words (Some (s.each l e)) h = (tt, tt)
object_words (Some (s.plain (s.object at ps))) h =
    let p = h (s.plain (s.object at ps)) refl in
    (p.0.1, p.1)
object_words (Some (s.plain (s.name at x))) h = (tt, tt)
object_words (Some (s.plain (s.literal at v))) h = (tt, tt)
object_words (Some (s.plain (s.interpolated at first ps))) h = (tt, tt)
object_words (Some (s.plain (s.array at es))) h = (tt, tt)
object_words (Some (s.plain (s.call at name es))) h = (tt, tt)
object_words (Some (s.plain (s.instance r))) h = (tt, tt)
object_words (Some (s.plain (s.field r at x))) h = (tt, tt)
object_words (Some (s.plain (s.output r at k))) h = (tt, tt)
object_words (Some (s.plain (s.member e k n))) h = (tt, tt)
object_words (Some (s.plain (s.index e k i))) h = (tt, tt)
object_words (Some (s.plain (s.prefixed at p e))) h = (tt, tt)
object_words (Some (s.plain (s.binary o x y))) h = (tt, tt)
object_words (Some (s.plain (s.conditional c x y))) h = (tt, tt)

pub arguments_words : (fields : PropertyTrees) → MembersHavePrintable fields
    → MembersHavePrintable (arguments_in fields)
arguments_words fields h =
    object_words (field_named (codes "params") fields)
    (λ v e. named_words (codes "params") fields v h e)

-- ---- files

module _ (z : Shape) (h : AllIsPrintable z) (p : Printed z) where
  pub around : (n : ℕ) (l : Option LoopTree) → FramesArePrintable (frames_around (whole_in z) n l)
  around n None = (tt, tt)
  around n (Some l) =
      let xs = p.items n in
      let index = name_is (codes "copyIndex") refl in
      ((((xs.0, (index, tt)), (index, tt)), tt), (((xs.1, tt), tt), tt))

  declared : (n : ℕ) (c : DeclaredTree) → declaration (file_in z) n ≡ Some c → DeclaredHasWords c × DeclaredHasWholes c
  declared n c e = (
    all_at DeclaredHasWords (file_in z).declared.declarations n c h.words.declarations e,
    all_at DeclaredHasWholes (file_in z).declared.declarations n c h.wholes.declarations e,
  )

  pub output_printed : (n : ℕ) (o : OutputTree) → output_at z n ≡ Some o
      → EachOfValue IsPrintable (value (emission_sight z) None o.value [])
  output_printed n o e =
      p.values None o.value [] (
        all_at (λ o. ValueHasAllWords o.value) (file_in z).declared.outputs n o h.words.outputs e,
        all_at (λ o. ValueHasWholes o.value) (file_in z).declared.outputs n o h.wholes.outputs e,
      ) (tt, tt)

  pub default_printed : (n at : ℕ) (t : TypeName) (e : SourceTree)
      → declaration (file_in z) n ≡ Some (d.parameter_with at t e) → Each IsPrintable (tree (emission_sight z) e [])
  default_printed n at t e is = p.trees e [] (declared n (d.parameter_with at t e) is) (tt, tt)

  pub variable_printed : (n at : ℕ) (x : List ℕ) (v : ValueTree) → declaration (file_in z) n ≡ Some (d.variable at v)
      → EachOfValue IsPrintable (value (emission_sight z) (Some x) v [])
  variable_printed n at x v is = p.values (Some x) v [] (declared n (d.variable at v) is) (tt, tt)

  pub body_printed : (n at : ℕ) (q : Quoted) (existing : Bool) (b : BodyTree)
      → declaration (file_in z) n ≡ Some (d.a_resource at q existing b)
      → EachOfMembers IsPrintable
      (members (emission_sight z) (body_fields b.fields) (frames_around (whole_in z) n b.each))
  body_printed n at q existing b is =
      let g = declared n (d.a_resource at q existing b) is in
      p.members (body_fields b.fields) (frames_around (whole_in z) n b.each)
      (fields_words b.fields (g.0.1.1, g.1.1.1)) (around n b.each)

  pub arguments_printed : (n at : ℕ) (b : BodyTree) → declaration (file_in z) n ≡ Some (d.a_module at b)
      → MembersHavePrintable (arguments_in b.fields)
  arguments_printed n at b is =
      let g = declared n (d.a_module at b) is in
      arguments_words b.fields (g.0.1.1, g.1.1.1)
