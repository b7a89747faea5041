-- Files that differ in what emission does not look at: what their declarations become.
use Rattle.std.proofs.Common.{◌≡◌, ℕ, zero, suc, List, [], ◌∷◌, ◌++◌, codes, Option, Some, None, refl, ap}
use Rattle.std.proofs.Common.{◌∙◌}
use Rattle.std.specs.Prelude.{option_and_then, if◌then◌else◌}
use Rattle.arm_expr.specs.Tree.{call}
use Rattle.bicep_resolved.specs.Source.{SourceTree, ValueTree, LoopTree}
use Rattle.bicep_resolved.specs.Source as s
use Rattle.bicep_resolved.specs.Target.{number_of, target_of}
use Rattle.bicep_declared.specs.Declarations.{BodyTree, DeclaredTree}
use Rattle.bicep_declared.specs.Declarations as d
use Rattle.bicep_meaning.specs.Declared.{body_at}
use Rattle.bicep_meaning.specs.Files.{SourceFile, symbol_name, declaration, Parent, parent, type_of}
use Rattle.bicep_resolved.specs.Source.{field_named}
use Rattle.bicep_meaning.specs.Files.{no_parent, inside, below}
use Rattle.bicep_emission.specs.Emitted.{Frame, two}
use Rattle.emitted_declarations.specs.Declared.{Emission, variable_entry, with_slash, number_of_parts, id_of_parts}
use Rattle.emitted_declarations.specs.Declared.{value_of, value_or_none, variable_of, over, module_name, name_by}
use Rattle.emitted_declarations.specs.Declared.{full_name_by, condition_by, condition_of, parts_of, parts_by}
use Rattle.emitted_declarations.specs.Declared.{parts_at}
use Rattle.emitted_declarations.specs.Declared.{id_at, next, through}
use Rattle.agreeing_files.specs.Agreeing.{outputs_of}
use Rattle.agreeing_files.proofs.TypeLemmas.{other, type_same}
use Rattle.agreeing_files.proofs.EmittedLemmas.{emitted_same, value_same, frames_same}

module _ (f from : SourceFile) (fs gs : List SourceFile) (same : outputs_of fs ≡ outputs_of gs) where
  abbrev g : SourceFile
  g = other f from

  module _ (b : Emission) where
    of_value : (v : ValueTree) (ts : List Frame) → value_of f fs b v ts ≡ value_of g gs b v ts
    of_value v ts = value_same f from fs gs same b.scope v ts

    of_expression : (e : SourceTree) (ts : List Frame) → value_of f fs b (s.plain e) ts ≡ value_of g gs b (s.plain e) ts
    of_expression e ts = emitted_same f from fs gs same b.scope e ts

    some_same : (o : Option ValueTree) (ts : List Frame) → value_or_none f fs b o ts ≡ value_or_none g gs b o ts
    some_same None ts = refl
    some_same (Some v) ts = of_value v ts

    variable_same : (n : ℕ) (o : Option DeclaredTree) → variable_of f fs b n o ≡ variable_of g gs b n o
    variable_same n None = refl
    variable_same n (Some (d.variable at v)) =
        ap (λ t. if f.has_entry n then variable_entry (symbol_name f n) else t) (of_value v [])
    variable_same n (Some (d.parameter at t)) = refl
    variable_same n (Some (d.parameter_with at t e)) = refl
    variable_same n (Some (d.a_resource at q existing body)) = refl
    variable_same n (Some (d.a_module at body)) = refl

    over_same : (o : Option LoopTree) → over f fs b o ≡ over g gs b o
    over_same None = refl
    over_same (Some (s.loop at xs)) = of_expression xs []

    module_same : (n : ℕ) (body : BodyTree) (o : Option ValueTree) (ts : List Frame)
        → module_name f fs b n body o ts ≡ module_name g gs b n body o ts
    module_same n body None ts = refl
    module_same n body (Some v) ts = of_value v ts

    name_same : (n : ℕ) (o : Option DeclaredTree) (ts : List Frame) → name_by f fs b n o ts ≡ name_by g gs b n o ts
    name_same n None ts = refl
    name_same n (Some (d.variable at v)) ts = refl
    name_same n (Some (d.parameter at t)) ts = refl
    name_same n (Some (d.parameter_with at t e)) ts = refl
    name_same n (Some (d.a_resource at q existing body)) ts = some_same (field_named (codes "name") body.fields) ts
    name_same n (Some (d.a_module at body)) ts = module_same n body (field_named (codes "name") body.fields) ts

    full_same : (p : Parent) (n : ℕ) (ts : List Frame)
        → full_name_by f fs b p (name_by f fs b n (declaration f n) ts) ts
        ≡ full_name_by g gs b p (name_by g gs b n (declaration f n) ts) ts
    full_same no_parent n ts = name_same n (declaration f n) ts
    full_same (inside m) n ts = ap (with_slash (b.full_name m [])) (name_same n (declaration f n) ts)
    full_same (below r) n ts =
        let p = frames_same f from fs gs same b.scope r ts in
        let q = name_same n (declaration f n) ts in
        λ i. with_slash (b.full_name (number_of (target_of r)) (p i)) (q i)

    condition_with : (p : Parent) (o : Option SourceTree) (ts : List Frame)
        → condition_by f fs b p o ts ≡ condition_by g gs b p o ts
    condition_with no_parent None ts = refl
    condition_with no_parent (Some c) ts = of_expression c ts
    condition_with (inside n) None ts = refl
    condition_with (inside n) (Some c) ts =
        ap (λ t. call (codes "and") (two (b.condition n []) t)) (of_expression c ts)
    condition_with (below r) None ts = refl
    condition_with (below r) (Some c) ts = of_expression c ts

    condition_same : (n : ℕ) (o : Option BodyTree) (ts : List Frame)
        → condition_of f fs b n o ts ≡ condition_of g gs b n o ts
    condition_same n None ts = refl
    condition_same n (Some body) ts = condition_with (parent f n) body.condition ts

    parts_with : (p : Parent) (v : Option ValueTree) (k : ℕ) (n : ℕ) (ts : List Frame)
        → parts_by f fs b p v k (name_by f fs b n (declaration f n) ts) ts
        ≡ parts_by g gs b p v k (name_by g gs b n (declaration f n) ts) ts
    parts_with no_parent v k n ts = ap (λ a. parts_of v a k) (name_same n (declaration f n) ts)
    parts_with (inside m) v k n ts = ap (λ a. b.parts m [] ++ a ∷ []) (name_same n (declaration f n) ts)
    parts_with (below r) v k n ts =
        let p = frames_same f from fs gs same b.scope r ts in
        let q = name_same n (declaration f n) ts in
        λ i. b.parts (number_of (target_of r)) (p i) ++ q i ∷ []

    parts_same : (n : ℕ) (o : Option DeclaredTree) (ts : List Frame) → parts_at f fs b n o ts ≡ parts_at g gs b n o ts
    parts_same n None ts = refl
    parts_same n (Some (d.variable at v)) ts = refl
    parts_same n (Some (d.parameter at t)) ts = refl
    parts_same n (Some (d.parameter_with at t e)) ts = refl
    parts_same n (Some (d.a_resource at q existing body)) ts =
        ap (λ t. parts_by f fs b (parent f n) (field_named (codes "name") body.fields) (number_of_parts t.kind)
        (name_by f fs b n (declaration f n) ts) ts) (type_same f from n)
        ∙ parts_with (parent f n) (field_named (codes "name") body.fields) (number_of_parts (type_of g n).kind) n ts
    parts_same n (Some (d.a_module at body)) ts = refl

    id_same : (n : ℕ) (o : Option DeclaredTree) (ts : List Frame) → id_at f fs b n o ts ≡ id_at g gs b n o ts
    id_same n None ts = refl
    id_same n (Some (d.variable at v)) ts = refl
    id_same n (Some (d.parameter at t)) ts = refl
    id_same n (Some (d.parameter_with at t e)) ts = refl
    id_same n (Some (d.a_resource at q existing body)) ts =
        let p = type_same f from n in
        let r = parts_same n (Some (d.a_resource at q existing body)) ts in
        λ i. id_of_parts (p i).kind (r i)
    id_same n (Some (d.a_module at body)) ts = refl

    next_same : next f fs b ≡ next g gs b
    unfolding next
    next_same = λ i. record {
      scope = record {
        variable = λ n. variable_same n (declaration f n) i;
        items = λ n. over_same (option_and_then (λ x. x.each) (body_at f n)) i;
        name = λ n ts. name_same n (declaration f n) ts i;
        id = λ n ts. id_same n (declaration f n) ts i;
      };
      full_name = λ n ts. full_same (parent f n) n ts i;
      condition = λ n ts. condition_same n (body_at f n) ts i;
      parts = λ n ts. parts_same n (declaration f n) ts i;
    }

  pub through_same : (k : ℕ) → through f fs k ≡ through g gs k
  unfolding through
  through_same zero = refl
  through_same (suc k) = ap (next f fs) (through_same k) ∙ next_same (through g gs k)
