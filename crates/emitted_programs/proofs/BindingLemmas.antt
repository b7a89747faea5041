-- Parameters of a template that are bound to accepted values are bound as those of the program.
use Rattle.std.proofs.Common.{◌≡◌, ◌≤◌, ℕ, Bool, true, false, true≢false, nat_le, List, [], ◌∷◌, map, Option}
use Rattle.std.proofs.Common.{Some, None, refl, sym, ap, ◌∙◌, subst}
use Rattle.std.specs.Prelude.{bytes_eq, ◌&&◌, is_none, option_map, option_and_then, if◌then◌else◌}
use Rattle.foundation.proofs.Comparisons.{le_of_true}
use Rattle.foundation.proofs.Options.{same_some, none_mapped}
use Rattle.foundation.proofs.TruthValues.{both}
use Rattle.foundation.proofs.Words.{eq_word}
use Rattle.arm_value.specs.Json.{Json, IsOrderly, nesting}
use Rattle.arm_value.specs.Look.{fold, or_else}
use Rattle.arm_value.specs.View.{json}
use Rattle.arm_value.specs.declared.value.Value.{Value}
use Rattle.template_parts.specs.declared.fault.BindFault.{BindFault}
use Rattle.template_parts.specs.declared.fault.BindFault.TheVariants as fault
use Rattle.template_parts.specs.declared.given.GivenValue.{GivenValue}
use Rattle.template_parts.specs.declared.parameter.Parameter.{Parameter}
use Rattle.template_parameters.specs.Binding as binding
use Rattle.template_parameters.specs.Binding.{BoundMeaning, meaning_of, meaning_by}
use Rattle.template_parameters.specs.Binding.{extra, missing, lacks_value, breach_of, is_breach, broken}
use Rattle.template_parameters.specs.Binding.{rule_fault, bind_fault}
use Rattle.template_parameters.specs.Literal.{literal}
use Rattle.template_parameters.specs.Rule.{is_of, is_typed, is_allowed, is_within, breach}
use Rattle.template_parameters.specs.declared.rule.Breach.TheVariants as breaks
use Rattle.template_parameters.proofs.LiteralLemmas.{literal_nests}
use Rattle.template_tree.specs.Tree.{TemplateTree}
use Rattle.plan_cells.specs.Meaning.{bound_to}
use Rattle.plan_cells.specs.Resources.{header_in}
use Rattle.plan_cells.specs.Sites.{first_with}
use Rattle.bicep_meaning.specs.Instances.{SourceProgram, given_for, first_of}
use Rattle.emitted_programs.specs.Given.{IsBoundTo, deployed, IsBound, given_member, IsBinding}

-- ---- the first parameter of a name

abbrev has_name : List ℕ → Parameter → Bool
has_name x p = bytes_eq x (fold p.name)

-- what is so of each that is looked through is so of the first of the name
module _ (x : List ℕ) (P : List Parameter → Type 0) (Q : Parameter → Type 0)
    (here : (p : Parameter) (ps : List Parameter) → P (p ∷ ps) → Q p)
    (next : (p : Parameter) (ps : List Parameter) → P (p ∷ ps) → P ps) where
  found_by : (b : Bool) (p : Parameter) (ps : List Parameter) (q : Parameter)
      → (if b then Some p else first_with (has_name x) ps) ≡ Some q → P (p ∷ ps)
      → ((h : first_with (has_name x) ps ≡ Some q) → P ps → Q q) → Q q
  found_by true p ps q e h go = subst Q (same_some e) (here p ps h)
  found_by false p ps q e h go = go e (next p ps h)

  of_found : (ps : List Parameter) (q : Parameter) → first_with (has_name x) ps ≡ Some q → P ps → Q q
  of_found [] q e h = absurd cc
  of_found (p ∷ ps) q e h = found_by (has_name x p) p ps q e h (λ g k. of_found ps q g k)

named_by : (x : List ℕ) (b : Bool) (p : Parameter) (ps : List Parameter) (q : Parameter) → has_name x p ≡ b
    → (if b then Some p else first_with (has_name x) ps) ≡ Some q
    → (first_with (has_name x) ps ≡ Some q → has_name x q ≡ true) → has_name x q ≡ true
named_by x true p ps q h e go = ap (has_name x) (sym (same_some e)) ∙ h
named_by x false p ps q h e go = go e

is_named : (x : List ℕ) (ps : List Parameter) (q : Parameter) → first_with (has_name x) ps ≡ Some q
    → has_name x q ≡ true
is_named x [] q e = absurd cc
is_named x (p ∷ ps) q e = named_by x (has_name x p) p ps q refl e (λ g. is_named x ps q g)

-- ---- what it is bound to

abbrev has_bound : List ℕ → List ℕ × BoundMeaning → Bool
has_bound x b = bytes_eq x (fold b.0)

bound_by : (x : List ℕ) (gs : List GivenValue) (b : Bool) (p : Parameter) (ps : List Parameter) (q : Parameter)
    → (if b then Some p else first_with (has_name x) ps) ≡ Some q
    → (first_with (has_name x) ps ≡ Some q
    → first_with (has_bound x) (binding.bound gs ps) ≡ Some (q.name, meaning_of gs q))
    → (if b then Some (p.name, meaning_of gs p) else first_with (has_bound x) (binding.bound gs ps))
    ≡ Some (q.name, meaning_of gs q)
bound_by x gs true p ps q e go =
    ap (λ (o : Option Parameter). option_map (λ p. (p.name, meaning_of gs p)) o) e
bound_by x gs false p ps q e go = go e

bound_of : (x : List ℕ) (gs : List GivenValue) (ps : List Parameter) (q : Parameter)
    → first_with (has_name x) ps ≡ Some q
    → first_with (has_bound x) (binding.bound gs ps) ≡ Some (q.name, meaning_of gs q)
bound_of x gs [] q e = absurd cc
bound_of x gs (p ∷ ps) q e = bound_by x gs (has_name x p) p ps q e (λ h. bound_of x gs ps q h)

-- ---- what is given

given_if : (b : Bool) (j : Json) (o u : Option Json) → o ≡ u
    → (if b then Some j else o) ≡ (if b then Some j else u)
given_if true j o u e = refl
given_if false j o u e = e

map_if : (b : Bool) (j : Json) (n : List ℕ) (o : Option (List ℕ × Json))
    → option_map (λ (m : List ℕ × Json). m.1) (if b then Some (n, j) else o)
    ≡ (if b then Some j else option_map (λ (m : List ℕ × Json). m.1) o)
map_if true j n o = refl
map_if false j n o = refl

given_same : (n : List ℕ) (gs : List GivenValue)
    → given_for (map given_member gs) (fold n) ≡ binding.given_for n gs
given_same n [] = refl
given_same n (g ∷ gs) =
    map_if (bytes_eq (fold n) (fold g.name)) (json g.value) g.name
    (first_of (λ m. bytes_eq (fold n) (fold m.0)) (map given_member gs))
    ∙ given_if (bytes_eq (fold n) (fold g.name)) (json g.value)
    (given_for (map given_member gs) (fold n)) (binding.given_for n gs) (given_same n gs)

-- ---- nothing is refused

first_none : (o u : Option BindFault) → binding.first o u ≡ None → (o ≡ None) × (u ≡ None)
first_none None u e = (refl, e)
first_none (Some f) u e = absurd cc

not_missing : (gs : List GivenValue) (ps : List Parameter) → bind_fault gs ps ≡ None → missing gs ps ≡ None
not_missing gs ps e =
    let a = first_none (option_map (λ n. fault.ExtraParameter n) (extra ps gs))
    (binding.first (option_map (λ n. fault.MissingParameter n) (missing gs ps)) (rule_fault gs ps)) e in
    let b = first_none (option_map (λ n. fault.MissingParameter n) (missing gs ps)) (rule_fault gs ps) a.1 in
    none_mapped (λ n. fault.MissingParameter n) (missing gs ps) b.0

not_wrong : (gs : List GivenValue) (ps : List Parameter) → bind_fault gs ps ≡ None
    → broken breaks.WrongType gs ps ≡ None
not_wrong gs ps e =
    let a = first_none (option_map (λ n. fault.ExtraParameter n) (extra ps gs))
    (binding.first (option_map (λ n. fault.MissingParameter n) (missing gs ps)) (rule_fault gs ps)) e in
    let b = first_none (option_map (λ n. fault.MissingParameter n) (missing gs ps)) (rule_fault gs ps) a.1 in
    let c = first_none (option_map (λ n. fault.WrongType n) (broken breaks.WrongType gs ps))
    (binding.first (option_map (λ n. fault.NotAllowed n) (broken breaks.NotAllowed gs ps))
    (option_map (λ n. fault.OutOfBounds n) (broken breaks.OutOfBounds gs ps))) b.1 in
    none_mapped (λ n. fault.WrongType n) (broken breaks.WrongType gs ps) c.0

-- a test that finds none is false of the first, and finds none in the others
unless_found : (b : Bool) (n : List ℕ) (o : Option (List ℕ)) → (if b then Some n else o) ≡ None
    → (b ≡ false) × (o ≡ None)
unless_found true n o e = absurd cc
unless_found false n o e = (refl, e)

lacks_none : (x : List ℕ) (gs : List GivenValue) (ps : List Parameter) (q : Parameter)
    → first_with (has_name x) ps ≡ Some q → missing gs ps ≡ None → lacks_value gs q ≡ false
lacks_none x gs ps q e h =
    of_found x (λ ps. missing gs ps ≡ None) (λ q. lacks_value gs q ≡ false)
    (λ p ps h. (unless_found (lacks_value gs p) p.name (missing gs ps) h).0)
    (λ p ps h. (unless_found (lacks_value gs p) p.name (missing gs ps) h).1) ps q e h

breaks_none : (x : List ℕ) (gs : List GivenValue) (ps : List Parameter) (q : Parameter)
    → first_with (has_name x) ps ≡ Some q → broken breaks.WrongType gs ps ≡ None
    → is_breach breaks.WrongType (breach_of gs q) ≡ false
breaks_none x gs ps q e h =
    of_found x (λ ps. broken breaks.WrongType gs ps ≡ None)
    (λ q. is_breach breaks.WrongType (breach_of gs q) ≡ false)
    (λ p ps h. (unless_found (is_breach breaks.WrongType (breach_of gs p)) p.name (broken breaks.WrongType gs ps) h).0)
    (λ p ps h. (unless_found (is_breach breaks.WrongType (breach_of gs p)) p.name (broken breaks.WrongType gs ps) h).1)
    ps q e h

-- ---- a literal default is flat

typed_by : (b : Bool) (q : Parameter) (k : Json) → is_typed q k ≡ b
    → is_breach breaks.WrongType (Some (breaks.WrongType)) ≡ true
    → is_breach breaks.WrongType
    (if b then (if is_allowed q.allowed_values k then (if is_within q.bounds k then None else Some breaks.OutOfBounds)
    else Some breaks.NotAllowed) else Some breaks.WrongType) ≡ false
    → is_typed q k ≡ true
typed_by true q k e w h = e
typed_by false q k e w h = absurd (true≢false h)

is_flat : (q : Parameter) (k : Json) → is_breach breaks.WrongType (breach q k) ≡ false → nesting k ≤ 100
is_flat q k h =
    le_of_true (nesting k) 100
    (both (is_of q.kind k) (nat_le (nesting k) 100) (typed_by (is_typed q k) q k refl refl h)).1

-- ---- each parameter

module _ (gs : List GivenValue) (q : Parameter) (accepted : is_breach breaks.WrongType (breach_of gs q) ≡ false)
    (there : lacks_value gs q ≡ false) where
  bound_so : (g : Option Json) (v : Option Value) → binding.given_for q.name gs ≡ g → q.default_value ≡ v
      → ((v : Value) → q.default_value ≡ Some v → IsOrderly (json v)) → (b : Option BoundMeaning)
      → b ≡ Some (meaning_by g v) → IsBoundTo g v b
  bound_so (Some j) v e k o b h = h
  bound_so None None e k o b h =
      true≢false
      (sym (ap (λ o. is_none q.default_value && is_none o) e ∙ ap (λ o. is_none o && true) k) ∙ there)
  bound_so None (Some v) e k o b h = record {
    is = h;
    is_orderly = o v k;
    is_flat = λ j l. subst (λ m. m ≤ 100) (literal_nests (json v) j (literal (json v)) refl l)
        (is_flat q j
        (sym
        (ap (λ o. is_breach breaks.WrongType (option_and_then (breach q) o))
        (ap (λ o. or_else o (option_and_then (λ v. literal (json v)) q.default_value)) e
        ∙ ap (λ o. option_and_then (λ v. literal (json v)) o) k ∙ l))
        ∙ accepted));
  }

pub bindings : (d : SourceProgram) (u : TemplateTree) (bound : List (List ℕ × BoundMeaning)) → IsBinding d u bound
    → IsBound d u bound
bindings d u bound h x q e =
    let ps = (header_in u).parameters in
    let name : x ≡ fold q.name = eq_word x (fold q.name) (is_named x ps q e) in
    subst (λ o. IsBoundTo o q.default_value (bound_to (deployed d u bound) x))
    (sym (ap (λ ms. given_for ms x) h.given ∙ ap (given_for (map given_member h.values)) name
    ∙ given_same q.name h.values))
    (bound_so h.values q (breaks_none x h.values ps q e (not_wrong h.values ps h.accepted))
    (lacks_none x h.values ps q e (not_missing h.values ps h.accepted)) (binding.given_for q.name h.values)
    q.default_value refl refl (λ v k. h.defaults x q v e k) (bound_to (deployed d u bound) x)
    (ap (λ bs. option_map (λ (b : List ℕ × BoundMeaning). b.1) (first_with (has_bound x) bs)) h.is
    ∙ ap (option_map (λ (b : List ℕ × BoundMeaning). b.1)) (bound_of x h.values ps q e)))
