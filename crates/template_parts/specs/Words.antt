-- The words for the quantities that have a limit.
use Rattle.std.specs.Prelude.{ℕ, List, codes}
use Rattle.template_parts.specs.declared.limit.Which.{Which}
use Rattle.template_parts.specs.declared.limit.Which.TheVariants as w

abbrev pub word_of : Which → List ℕ
word_of w.Parameters = codes "Parameters"
word_of w.Variables = codes "Variables"
word_of w.Outputs = codes "Outputs"
word_of w.Resources = codes "Resources"
word_of w.Count = codes "Count"
word_of w.Batch = codes "Batch"
word_of w.Instances = codes "Instances"
word_of w.Expression = codes "Expression"
word_of w.Nesting = codes "Nesting"
word_of w.Bytes = codes "Bytes"
