-- Values without expressions: which value is meant by one that a template has, and how a template writes one (Microsoft
-- Learn, "Template expressions", escape characters).
use Rattle.std.specs.Prelude.{ℕ, List}
use Rattle.arm_expr.specs.Brackets.{Meaning, an_expression, plain, meaning, escaped}
use Rattle.arm_value.specs.Json.{Json, null, bool, int, text, array, object, Row, no_items, item, Pairs, no_pairs, pair}
use Rattle.arm_value.specs.Json.{Member}
use Rattle.plain_values.specs.declared.texts.Change.{Change}
use Rattle.plain_values.specs.declared.texts.Change.TheVariants.{Meant, Written}

-- a value with each text changed; the names of members stay
abbrev mutual
  pub each_text : (List ℕ → List ℕ) → Json → Json
  each_text f null = null
  each_text f (bool b) = bool b
  each_text f (int z) = int z
  each_text f (text t) = text (f t)
  each_text f (array js) = array (row_texts f js)
  each_text f (object ms) = object (pairs_texts f ms)

  pub row_texts : (List ℕ → List ℕ) → Row → Row
  row_texts f no_items = no_items
  row_texts f (item j js) = item (each_text f j) (row_texts f js)

  pub pairs_texts : (List ℕ → List ℕ) → Pairs → Pairs
  pairs_texts f no_pairs = no_pairs
  pairs_texts f (pair k j ms) = pair k (each_text f j) (pairs_texts f ms)

abbrev pub member_texts : (List ℕ → List ℕ) → Member → Member
member_texts f m = (m.0, each_text f m.1)

-- the text of a plain meaning; a text that is an expression is itself
abbrev pub plain_or : List ℕ → Meaning → List ℕ
plain_or t an_expression = t
plain_or t (plain s) = s

-- the text that a text of a template is
abbrev pub meant_text : List ℕ → List ℕ
meant_text t = plain_or t (meaning t)

-- a text with the change
abbrev pub changed : Change → List ℕ → List ℕ
changed Meant t = meant_text t
changed Written t = escaped t

-- the value that a value of a template is, each text as it is meant
abbrev pub meant : Json → Json
meant j = each_text meant_text j

-- the value, each text as a template writes it
abbrev pub written_plainly : Json → Json
written_plainly j = each_text escaped j
