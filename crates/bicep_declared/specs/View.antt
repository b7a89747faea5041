-- The trees that values of the code represent.
use Rattle.std.specs.Prelude.{List, map, option_map}
use Rattle.std.specs.declared.vec.Vec.{Vec}
use Rattle.std.specs.declared.alloc.Global.{Global}
use Rattle.bicep_tree.specs.Tree.{DeclarationTree}
use Rattle.bicep_tree.specs.Tree as tree
use Rattle.bicep_tree.specs.View as view
use Rattle.bicep_resolved.specs.View.{source_of, value_of, loop_of, property_of, properties}
use Rattle.bicep_declared.specs.declared.declared.DeclaredBody.{DeclaredBody}
use Rattle.bicep_declared.specs.declared.declared.Declared.{Declared}
use Rattle.bicep_declared.specs.declared.declared.Declared.TheVariants as d
use Rattle.bicep_declared.specs.declared.declared.DeclaredOutput.{DeclaredOutput}
use Rattle.bicep_declared.specs.declared.declared.DeclaredFile.{DeclaredFile}
use Rattle.bicep_declared.specs.declared.sites.Site.{Site}
use Rattle.bicep_declared.specs.declared.sites.Site.TheVariants as site
use Rattle.bicep_declared.specs.Declarations.{BodyTree, DeclaredTree, parameter, parameter_with, variable, a_resource}
use Rattle.bicep_declared.specs.Declarations.{a_module, OutputTree, DeclaredFileTree}

abbrev pub body_tree : DeclaredBody → BodyTree
body_tree b =
    record {
      each = option_map loop_of b.each;
      condition = option_map source_of b.condition;
      at = b.at;
      fields = properties (map property_of b.fields.items);
    }

abbrev pub declared_tree : Declared → DeclaredTree
declared_tree (d.Parameter at t) = parameter at t
declared_tree (d.ParameterWith at t e) = parameter_with at t (source_of e)
declared_tree (d.Variable at v) = variable at (value_of v)
declared_tree (d.Resource at q x b) = a_resource at q x (body_tree b)
declared_tree (d.Module at b) = a_module at (body_tree b)

abbrev pub output_tree : DeclaredOutput → OutputTree
output_tree o = record { at = o.at; kind = o.kind; value = value_of o.value }

abbrev pub declarations_tree : Vec Declared Global → List DeclaredTree
declarations_tree ds = map declared_tree ds.items

abbrev pub outputs_tree : Vec DeclaredOutput Global → List OutputTree
outputs_tree os = map output_tree os.items

abbrev pub file_tree : DeclaredFile → DeclaredFileTree
file_tree f = record { declarations = declarations_tree f.declarations; outputs = outputs_tree f.outputs }

-- a declaration of a file, also one that is nested in another
abbrev pub site_tree : Site → DeclarationTree
site_tree (site.Statement d) = view.declaration_of d.now
site_tree (site.Nested r) = tree.a_resource (view.resource_of r.now)
