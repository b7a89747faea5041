-- Words of ASCII characters are their own characters.
use Rattle.std.proofs.Common.{◌≡◌, codes, chars, refl}
use Rattle.foundation.proofs.AsciiWords.{word}
use Rattle.template_parts.proofs.WordLemmas.{chars_name, chars_copy, chars_resources, chars_existing}
use Rattle.template_parts.proofs.WordLemmas.{chars_properties, chars_mode, chars_metadata, chars_parameters}
use Rattle.template_parts.proofs.WordLemmas.{chars_variables}

pub chars_schema : chars (codes "$schema") ≡ codes "$schema"
chars_schema = word (codes "$schema") refl

pub chars_contentVersion : chars (codes "contentVersion") ≡ codes "contentVersion"
chars_contentVersion = word (codes "contentVersion") refl

pub chars_languageVersion : chars (codes "languageVersion") ≡ codes "languageVersion"
chars_languageVersion = word (codes "languageVersion") refl

pub chars_functions : chars (codes "functions") ≡ codes "functions"
chars_functions = word (codes "functions") refl

pub chars_apiProfile : chars (codes "apiProfile") ≡ codes "apiProfile"
chars_apiProfile = word (codes "apiProfile") refl

pub chars_outputs : chars (codes "outputs") ≡ codes "outputs"
chars_outputs = word (codes "outputs") refl

pub chars_two : chars (codes "2.0") ≡ codes "2.0"
chars_two = word (codes "2.0") refl

pub chars_template : chars (codes "template") ≡ codes "template"
chars_template = word (codes "template") refl

pub chars_expressionEvaluationOptions : chars (codes "expressionEvaluationOptions")
    ≡ codes "expressionEvaluationOptions"
chars_expressionEvaluationOptions = word (codes "expressionEvaluationOptions") refl

pub chars_scope : chars (codes "scope") ≡ codes "scope"
chars_scope = word (codes "scope") refl

pub chars_Incremental : chars (codes "Incremental") ≡ codes "Incremental"
chars_Incremental = word (codes "Incremental") refl

pub chars_outer : chars (codes "outer") ≡ codes "outer"
chars_outer = word (codes "outer") refl

pub chars_inner : chars (codes "inner") ≡ codes "inner"
chars_inner = word (codes "inner") refl

pub ruleset words = (
  chars_schema,
  chars_contentVersion,
  chars_languageVersion,
  chars_functions,
  chars_metadata,
  chars_apiProfile,
  chars_resources,
  chars_parameters,
  chars_variables,
  chars_outputs,
  chars_two,
  chars_copy,
  chars_name,
  chars_existing,
  chars_template,
  chars_mode,
  chars_expressionEvaluationOptions,
  chars_scope,
  chars_Incremental,
  chars_outer,
  chars_inner,
  chars_properties,
)
