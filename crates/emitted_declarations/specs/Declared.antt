-- What the declarations of a Bicep file become where they are used (Microsoft Learn, "Template functions",
-- `resourceId`).
use Rattle.std.specs.Prelude.{ℕ, zero, suc, pos, ◌-◌, ◌==◌, length, List, [], ◌∷◌, ◌++◌, map}
use Rattle.std.specs.Prelude.{slice_get}
use Rattle.std.specs.Prelude.{Option, Some, None, codes, option_and_then, if◌then◌else◌}
use Rattle.arm_ids.specs.Segments.{segments}
use Rattle.arm_expr.specs.Tree.{Tree, Trees, text, int, call, index, more, trees}
use Rattle.arm_expr.specs.Tree as tree
use Rattle.bicep_tree.specs.declared.leaf.Literal.TheVariants as l
use Rattle.bicep_emission.specs.Source.{SourceTree, PieceTrees, ValueTree, LoopTree, field_named}
use Rattle.bicep_emission.specs.Source as s
use Rattle.bicep_emission.specs.Target.{number_of, target_of}
use Rattle.bicep_declared.specs.Declarations.{BodyTree, DeclaredTree}
use Rattle.bicep_declared.specs.Declarations as d
use Rattle.bicep_emission.specs.Files.{SourceFile, symbol_name, declaration, Parent, no_parent, inside, below, parent, type_of}
use Rattle.bicep_emission.specs.Declared.{body_at}
use Rattle.bicep_emission.specs.Emitted.{Frame, Scope, one, two, no_value, emitted, emitted_value, frames_of, index_of}
use Rattle.bicep_emission.specs.Texts.{format_text}

-- ---- texts

-- texts with one hole and with two, whatever the values are
abbrev pub one_hole : PieceTrees
one_hole = s.piece (s.literal 0 l.Null) [] s.no_piece

abbrev pub two_holes : List ℕ → PieceTrees
two_holes between = s.piece (s.literal 0 l.Null) between one_hole

-- two texts with a slash between them
abbrev pub with_slash : Tree → Tree → Tree
with_slash a b = call (codes "format") (more (text (format_text 0 [] (two_holes (47 ∷ [])))) (two a b))

-- ---- parts of names

abbrev pub split_name : Tree → Tree
split_name a = call (codes "split") (two a (text (47 ∷ [])))

-- the segments of a name from number i on, as one text
abbrev pub rest_of_name : Tree → ℕ → Tree
rest_of_name a i = call (codes "join") (two (call (codes "skip") (two (split_name a) (int (pos i)))) (text (47 ∷ [])))

-- n segments of a name from number i on, and then what is after them
abbrev pub segments_from : Tree → ℕ → ℕ → List Tree
segments_from a i zero = rest_of_name a i ∷ []
segments_from a i (suc n) = index (split_name a) (int (pos i)) ∷ segments_from a (suc i) n

-- the parts of a name that has so many: of two or more, segments
abbrev pub parts_by_number : Tree → ℕ → List Tree
parts_by_number a zero = a ∷ []
parts_by_number a (suc zero) = a ∷ []
parts_by_number a (suc (suc n)) = segments_from a 0 (suc n)

-- of a text without holes its segments, where there are so many
abbrev pub parts_of_text : List ℕ → Tree → ℕ → List Tree
parts_of_text t a n = if length (segments t) == n then map text (segments t) else parts_by_number a n

abbrev pub parts_of : Option ValueTree → Tree → ℕ → List Tree
parts_of (Some (s.plain (s.literal at (l.Text t)))) a n = parts_of_text t a n
parts_of v a n = parts_by_number a n

-- ---- declarations

-- what declarations become: beside what expressions use, the whole name of a resource or a module, its condition, and
-- the parts of the name in the id of a resource
pub record Emission : Type 0 where
  pub scope : Scope
  pub full_name : ℕ → List Frame → Tree
  pub condition : ℕ → List Frame → Tree
  pub parts : ℕ → List Frame → List Tree

-- an entry of the variables
abbrev pub variable_entry : Option (List ℕ) → Tree
variable_entry None = no_value
variable_entry (Some x) = call (codes "variables") (one (text x))

-- the name of a module by its symbol, in a loop with `-` and the index after it
abbrev pub symbol_in_loop : List ℕ → Option LoopTree → List Frame → Tree
symbol_in_loop x None fs = text x
symbol_in_loop x (Some l) fs =
    call (codes "format") (more (text (format_text 0 (x ++ 45 ∷ []) one_hole)) (one (index_of (slice_get fs 0))))

abbrev pub named_by_symbol : Option (List ℕ) → Option LoopTree → List Frame → Tree
named_by_symbol None l fs = no_value
named_by_symbol (Some x) l fs = symbol_in_loop x l fs

-- the number of parts of the name in the id of a type
abbrev pub number_of_parts : List ℕ → ℕ
number_of_parts kind = length (segments kind) - 1

-- the id of a type and these parts
abbrev pub id_of_parts : List ℕ → List Tree → Tree
id_of_parts kind ps = call (codes "resourceId") (more (text kind) (trees ps))

module _ (file : SourceFile) (files : List SourceFile) (b : Emission) where
  abbrev pub value_of : ValueTree → List Frame → Tree
  value_of v fs = emitted_value file files b.scope v fs

  abbrev pub value_or_none : Option ValueTree → List Frame → Tree
  value_or_none None fs = no_value
  value_or_none (Some v) fs = value_of v fs

  -- of a variable its entry, or else its expression
  abbrev pub variable_of : ℕ → Option DeclaredTree → Tree
  variable_of n (Some (d.variable at v)) =
      if file.has_entry n then variable_entry (symbol_name file n) else value_of v []
  variable_of n o = no_value

  abbrev pub over : Option LoopTree → Tree
  over None = no_value
  over (Some (s.loop at xs)) = emitted file files b.scope xs []

  abbrev pub items_of : ℕ → Tree
  items_of n = over (option_and_then (λ b. b.each) (body_at file n))

  abbrev pub module_name : ℕ → BodyTree → Option ValueTree → List Frame → Tree
  module_name n body (Some v) fs = value_of v fs
  module_name n body None fs = named_by_symbol (symbol_name file n) body.each fs

  abbrev pub name_by : ℕ → Option DeclaredTree → List Frame → Tree
  name_by n (Some (d.a_resource at q existing body)) fs = value_or_none (field_named (codes "name") body.fields) fs
  name_by n (Some (d.a_module at body)) fs = module_name n body (field_named (codes "name") body.fields) fs
  name_by n o fs = no_value

  -- its own name
  abbrev pub name_of : ℕ → List Frame → Tree
  name_of n fs = name_by n (declaration file n) fs

  abbrev pub full_name_by : Parent → Tree → List Frame → Tree
  full_name_by no_parent own fs = own
  full_name_by (inside n) own fs = with_slash (b.full_name n []) own
  full_name_by (below r) own fs =
      with_slash (b.full_name (number_of (target_of r)) (frames_of file files b.scope r fs)) own

  abbrev pub condition_by : Parent → Option SourceTree → List Frame → Tree
  condition_by (inside n) (Some c) fs =
      call (codes "and") (two (b.condition n []) (emitted file files b.scope c fs))
  condition_by (inside n) None fs = b.condition n []
  condition_by p (Some c) fs = emitted file files b.scope c fs
  condition_by p None fs = call (codes "true") tree.none

  abbrev pub condition_of : ℕ → Option BodyTree → List Frame → Tree
  condition_of n None fs = no_value
  condition_of n (Some body) fs = condition_by (parent file n) body.condition fs

  -- a child's parts are those of its parent and its own name
  abbrev pub parts_by : Parent → Option ValueTree → ℕ → Tree → List Frame → List Tree
  parts_by no_parent v k own fs = parts_of v own k
  parts_by (inside n) v k own fs = b.parts n [] ++ own ∷ []
  parts_by (below r) v k own fs =
      b.parts (number_of (target_of r)) (frames_of file files b.scope r fs) ++ own ∷ []

  abbrev pub parts_at : ℕ → Option DeclaredTree → List Frame → List Tree
  parts_at n (Some (d.a_resource at q existing body)) fs =
      parts_by (parent file n) (field_named (codes "name") body.fields)
      (number_of_parts (type_of file n).kind) (name_of n fs) fs
  parts_at n o fs = []

  abbrev pub id_at : ℕ → Option DeclaredTree → List Frame → Tree
  id_at n (Some (d.a_resource at q existing body)) fs =
      id_of_parts (type_of file n).kind (parts_at n (Some (d.a_resource at q existing body)) fs)
  id_at n o fs = no_value

  -- what each declaration becomes, where the others become this
  unfoldable pub next : Emission
  next = record {
    scope = record {
      variable = λ n. variable_of n (declaration file n);
      items = items_of;
      name = name_of;
      id = λ n fs. id_at n (declaration file n) fs;
    };
    full_name = λ n fs. full_name_by (parent file n) (name_of n fs) fs;
    condition = λ n fs. condition_of n (body_at file n) fs;
    parts = λ n fs. parts_at n (declaration file n) fs;
  }

abbrev pub blank : Emission
blank = record {
  scope = record { variable = λ n. no_value; items = λ n. no_value; name = λ n fs. no_value; id = λ n fs. no_value };
  full_name = λ n fs. no_value;
  condition = λ n fs. no_value;
  parts = λ n fs. [];
}

-- what declarations become through fewer than so many others
unfoldable pub through : SourceFile → List SourceFile → ℕ → Emission
through file files zero = blank
through file files (suc k) = next file files (through file files k)

-- what the declarations of a file become
abbrev pub whole : SourceFile → List SourceFile → Emission
whole file files = through file files (length file.symbols)
