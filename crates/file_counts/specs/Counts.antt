-- How many parts the template of a file has, and the first number that is beyond its limit (Microsoft Learn, "Template
-- limits"; that variables are at most 512 is own).
use Rattle.std.specs.Prelude.{ℕ, ◌+◌, nat_lt, Bool, true, false, not, List, length, Option, Some, None, option_map}
use Rattle.std.specs.Prelude.{slice_get, if◌then◌else◌}
use Rattle.template_parts.specs.declared.limit.Which.{Which}
use Rattle.template_parts.specs.declared.limit.Which.TheVariants as which
use Rattle.template_parts.specs.declared.mode.Form.TheVariants.{One}
use Rattle.bicep_symbols.specs.Entries.{Symbol}
use Rattle.bicep_declared.specs.Declarations.{DeclaredTree}
use Rattle.bicep_declared.specs.Declarations as d
use Rattle.bicep_meaning.specs.Files.{SourceFile}
use Rattle.bicep_meaning.specs.Instances.{is_parameter}
use Rattle.source_worlds.specs.Numbers.{passing, in_template}

-- how many of the first numbers pass a test
abbrev pub count : (ℕ → Bool) → ℕ → ℕ
count test n = length (passing test 0 n)

abbrev pub with_one : ℕ → Bool → ℕ
with_one total is_one = total + (if is_one then 1 else 0)

-- ---- what is counted

abbrev pub is_parameter_at : List Symbol → ℕ → Bool
is_parameter_at ss n = is_parameter (option_map (λ x. x.2) (slice_get ss n))

-- whether a declaration is that of a variable, which has an entry
abbrev pub is_entry_by : SourceFile → ℕ → Option DeclaredTree → Bool
is_entry_by f n (Some (d.variable at v)) = f.has_entry n
is_entry_by f n o = false

-- whether a declaration is that of a resource that is put, or of a module
abbrev pub is_put_by : Option DeclaredTree → Bool
is_put_by (Some (d.a_resource at q existing b)) = not existing
is_put_by (Some (d.a_module at b)) = true
is_put_by o = false

abbrev pub is_entry_at : SourceFile → List DeclaredTree → ℕ → Bool
is_entry_at f ds n = is_entry_by f n (slice_get ds n)

abbrev pub is_put_at : List DeclaredTree → ℕ → Bool
is_put_at ds n = is_put_by (slice_get ds n)

module _ (f : SourceFile) where
  abbrev pub parameters : ℕ
  parameters = count (is_parameter_at f.symbols) (length f.symbols)

  abbrev pub variables : ℕ
  variables = count (is_entry_at f f.declared.declarations) (length f.declared.declarations)

  abbrev pub outputs : ℕ
  outputs = length f.declared.outputs

  -- a loop counts once
  abbrev pub resources : ℕ
  resources = length (in_template One f)

-- ---- limits

-- a number that is beyond its limit, before others that are beyond theirs
abbrev pub beyond : Which → ℕ → ℕ → Option (Which × ℕ) → Option (Which × ℕ)
beyond w limit n rest = if nat_lt limit n then Some (w, n) else rest

abbrev pub first_beyond : SourceFile → Option (Which × ℕ)
first_beyond f =
    beyond which.Parameters 256 (parameters f)
    (beyond which.Variables 512 (variables f)
    (beyond which.Outputs 64 (outputs f)
    (beyond which.Resources 800 (resources f) None)))
