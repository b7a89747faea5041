-- Parameters that are found by the names of symbols.
use Rattle.std.proofs.Common.{◌≡◌, ◌≤◌, ℕ, zero, suc, Bool, true, false, List, [], ◌∷◌, length, Option, Some, None}
use Rattle.std.proofs.Common.{refl}
use Rattle.std.proofs.Common.{sym, ap, ◌∙◌, subst, arith, ◌<◌, Result, Ok, Err}
use Rattle.std.specs.Prelude.{is_some, option_and_then, option_map, slice_index_or, if◌then◌else◌, IfOk}
use Rattle.std.specs.declared.alloc.AllocError.{AllocError}
use Rattle.std.proofs.lemmas.Option.{slice_get_past}
use Rattle.foundation.proofs.Options.{if_ok}
use Rattle.arm_value.specs.View.{json}
use Rattle.arm_value.specs.declared.value.Value.{Value}
use Rattle.template_parts.specs.declared.parameter.Parameter.{Parameter}
use Rattle.bicep_names.specs.declared.kind.Kind.{Kind}
use Rattle.bicep_resolved.specs.Source.{SourceTree}
use Rattle.bicep_meaning.specs.Files.{symbol_kind, symbol_name}
use Rattle.bicep_meaning.specs.Instances.{is_parameter, parameter_numbered, symbol_folded}
use Rattle.emitted_values.specs.Values.{AreBoth}
use Rattle.emitted_values.specs.Seen.{Shape, file_in}
use Rattle.named_parts.specs.Found.{found}
use Rattle.file_lists.specs.Found.{AreListed, IsPart, IsNext, IsThere}
use Rattle.file_lists.specs.Lists.{symbol_text, parameter_name, parameter_at, IsCompleted, rule_at, AreParameters}
use Rattle.file_lists.specs.Lists.{AreRules}
use Rattle.file_lists.specs.Lists.{SymbolsDiffer, IsDefault, default_of}
use Rattle.file_lists.proofs.FirstLemmas.{all_first}
use Rattle.file_lists.proofs.PartLemmas.{no_part, part_there}

past_rules : (rs : List (Option Parameter)) (n : ℕ) → length rs ≤ n → slice_index_or rs n None ≡ None
past_rules [] n l = refl
past_rules (r ∷ rs) zero l = absurd (omega (arith, l))
past_rules (r ∷ rs) (suc n) l = past_rules rs n (omega (arith, l))

module _ (s : Shape) (rs : List (Option Parameter)) where
  -- the rule of a number
  pub rule_is : (n : ℕ) (r : Option Parameter) → n < length rs → r ≡ slice_index_or rs n r → r ≡ rule_at s rs n
  rule_is n r l e = e ∙ any_default rs n r None l
    where
      any_default : (xs : List (Option Parameter)) (n : ℕ) (a b : Option Parameter) → n < length xs
          → slice_index_or xs n a ≡ slice_index_or xs n b
      any_default [] n a b l = absurd (omega (arith, l))
      any_default (x ∷ xs) zero a b l = refl
      any_default (x ∷ xs) (suc n) a b l = any_default xs n a b (omega (arith, l))

  same_part : (n : ℕ) (x : Option (List ℕ)) (b : Bool) (o : Option Parameter)
      → IsPart parameter_name (IsCompleted s (rule_at s rs n)) x (if b then Some n else None) o
      → IsPart parameter_name (λ m q. IsCompleted s (rule_at s rs m) m q) x (if b then Some n else None) o
  same_part n None b o h = h
  same_part n (Some x) false o h = h
  same_part n (Some x) true None h = h
  same_part n (Some x) true (Some a) h = h

  -- the parameter of a number is made of the rule of the number
  pub same_next : (n : ℕ) (x : Option (List ℕ)) (xs ys : List Parameter)
      → IsNext parameter_name (IsCompleted s (rule_at s rs n)) x (parameter_at s n) xs ys
      → IsNext parameter_name (λ m q. IsCompleted s (rule_at s rs m) m q) x (parameter_at s n) xs ys
  same_next n x xs ys g = (g.0, (same_part n x (is_parameter (symbol_kind (file_in s) n)) g.0 g.1.0, g.1.1))

module _ (s : Shape) (rs : List (Option Parameter)) (rules : AreRules s rs) where
  numbered : (o : Option ℕ) → parameter_numbered (file_in s) o ≡ option_and_then (parameter_at s) o
  numbered None = refl
  numbered (Some n) = refl

  -- the list has no parameter past its end
  past : (n : ℕ) → length rs ≤ n → parameter_at s n ≡ None
  past n l =
      ap (λ b. if b then Some n else None) (sym (rules.there n) ∙ ap is_some (past_rules rs n l))

  pub all_parameters : SymbolsDiffer s → (k : ℕ) (ps : List Parameter) → length rs ≤ k
      → AreListed symbol_text (file_in s).symbols (parameter_at s) parameter_name
      (λ n q. IsCompleted s (rule_at s rs n) n q) k ps
      → AreParameters s rs ps
  all_parameters differ k ps l h x =
      subst (λ o. AreBoth (λ n q. IsCompleted s (rule_at s rs n) n q) o (found parameter_name x ps))
      (sym (numbered (symbol_folded (file_in s) x)))
      (all_first symbol_text (file_in s).symbols differ (parameter_at s) parameter_name
      (λ n q. IsCompleted s (rule_at s rs n) n q) k ps (λ n m. past n (omega (arith, l, m))) h.first x)

-- past the last symbol there is no parameter
pub past_symbols : (s : Shape) (n : ℕ) → length (file_in s).symbols ≤ n → parameter_at s n ≡ None
past_symbols s n l =
    ap (λ (o : Option (ℕ × List ℕ × Kind)). if is_parameter (option_map (λ x. x.2) o) then Some n else None)
    (slice_get_past (file_in s).symbols n l)

module _ (s : Shape) (n : ℕ) where
  -- a default that is made of its declaration
  pub default_there : (e : SourceTree) → default_of s n ≡ Some e → (made : Result Value AllocError)
      (o : Result (Option Value) AllocError) → IfOk made (λ v. IsDefault s e (json v)) → IsThere made o
      → IfOk o (AreBoth (λ e v. IsDefault s e (json v)) (default_of s n))
  default_there e h (Ok v) o m t =
      subst (λ x. IfOk x (AreBoth (λ e v. IsDefault s e (json v)) (default_of s n))) (sym t)
      (subst (λ x. AreBoth (λ e v. IsDefault s e (json v)) x (Some v)) (sym h) m)
  default_there e h (Err y) o m t =
      subst (λ x. IfOk x (AreBoth (λ e v. IsDefault s e (json v)) (default_of s n))) (sym t) tt

  module _ (rule : Option Parameter) where
    -- what is no parameter has no rule
    pub no_rule : is_parameter (symbol_kind (file_in s) n) ≡ false
        → IsPart parameter_name (IsCompleted s rule) (symbol_name (file_in s) n) (parameter_at s n) None
    no_rule e =
        no_part parameter_name (IsCompleted s rule) (symbol_name (file_in s) n) (parameter_at s n)
        (ap (λ b. if b then Some n else None) e)

    -- the parameter that a rule and a default make
    pub parameter_made : (p : Parameter) → rule ≡ Some p
        → is_parameter (symbol_kind (file_in s) n) ≡ is_some rule
        → symbol_name (file_in s) n ≡ Some p.name → (v : Option Value)
        → AreBoth (λ e v. IsDefault s e (json v)) (default_of s n) v → (made : Result Parameter AllocError)
        (o : Result (Option Parameter) AllocError) → IfOk made (λ q. q ≡ record p { default_value = v })
        → IsThere made o
        → IfOk o (IsPart parameter_name (IsCompleted s rule) (symbol_name (file_in s) n) (parameter_at s n))
    parameter_made p is there named v d made o m t =
        part_there parameter_name (IsCompleted s rule) (symbol_name (file_in s) n) (parameter_at s n) p.name n named
        (ap (λ b. if b then Some n else None) (there ∙ ap is_some is)) made o
        (if_ok (λ q. q ≡ record p { default_value = v }) (λ q. parameter_name q ≡ p.name) made m
        (λ q e. ap parameter_name e))
        (if_ok (λ q. q ≡ record p { default_value = v }) (IsCompleted s rule n) made m (λ q e. completed q e)) t
      where
        completed : (q : Parameter) → q ≡ record p { default_value = v } → IsCompleted s rule n q
        completed q e = record {
          default = subst (AreBoth (λ e v. IsDefault s e (json v)) (default_of s n))
              (sym (ap (λ (x : Parameter). x.default_value) e)) d;
          is = (
            p,
            (
              is,
              e
                  ∙ ap (λ w. record p { default_value = w }) (sym (ap (λ (x : Parameter). x.default_value) e)),
            ),
          );
        }
