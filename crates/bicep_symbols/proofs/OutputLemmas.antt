-- Outputs of different names, one after another.
use Rattle.std.proofs.Common.{◌≡◌, ℕ, ◌+◌, false, List, [], ◌∷◌, ◌++◌, map, Some, None, refl, sym, ap}
use Rattle.std.proofs.Common.{subst, ◌∙◌, bytes_eq, encode_utf8_all, Bor}
use Rattle.std.specs.Prelude.{position}
use Rattle.std.specs.List.{position_from}
use Rattle.std.proofs.lemmas.Iterator.Adapters.{position_from-zero}
use Rattle.std.proofs.lemmas.List.{append-nil}
use Rattle.std.proofs.Math.Seq.{append_snoc}
use Rattle.foundation.proofs.Lists.{map-push}
use Rattle.arm_value.specs.Look.{is_same_folded}
use Rattle.name_set.specs.Names.{is_named}
use Rattle.bicep_tree.specs.declared.leaf.Name.{Name}
use Rattle.bicep_names.specs.Scope.{OutputNames}
use Rattle.bicep_symbols.specs.Outputs.{Named, named, output_bytes, looked_up_outputs}
use Rattle.bicep_symbols.specs.Repeated.{repeated_from, repeated_output, IsAmong, IsTwice}
use Rattle.bicep_symbols.specs.declared.fault.NameFault.{NameFault}
use Rattle.bicep_symbols.specs.declared.fault.NameFault.TheVariants as fault
use Rattle.bicep_symbols.proofs.FreshLemmas.{same_bytes, by_name}

abbrev pub text_of : Named → List ℕ
text_of n = n.1

abbrev pub listed : List (Bor Name) → List Named
listed ns = map (λ n. named n.now) ns

-- the outputs before the rest have different names, and the rest decides
pub record IsSoFar (es rest : List (Bor Name)) (names : List (List ℕ)) (outputs : OutputNames) : Type 0 where
  pub before : List Named
  pub whole : listed es ≡ before ++ listed rest
  pub seen : names ≡ map text_of before
  pub held : outputs ≡ looked_up_outputs before
  pub decides : repeated_output (listed es) ≡ repeated_from names (listed rest)

fresh_from : (q : List ℕ) (ns : List Named) (i : ℕ) → is_named (map text_of ns) q ≡ false
    → position_from (bytes_eq (encode_utf8_all q)) i (looked_up_outputs ns) ≡ None
fresh_from q [] i h = refl
fresh_from q (n ∷ ns) i h =
    by_name (bytes_eq (encode_utf8_all q) (encode_utf8_all n.1)) (is_same_folded q n.1) (is_named (map text_of ns) q) i
    (position_from (bytes_eq (encode_utf8_all q)) (i + 1) (looked_up_outputs ns)) (same_bytes q n.1) h
    (fresh_from q ns (i + 1))

-- a name that is none of those so far is no output's
pub fresh : (es rest : List (Bor Name)) (names : List (List ℕ)) (outputs : OutputNames) → IsSoFar es rest names outputs
    → (q : List ℕ) → is_named names q ≡ false → position (bytes_eq (encode_utf8_all q)) outputs ≡ None
fresh es rest names outputs h q e =
    ap (position (bytes_eq (encode_utf8_all q))) h.held
    ∙ position_from-zero (bytes_eq (encode_utf8_all q)) (looked_up_outputs h.before)
    ∙ fresh_from q h.before 0 (sym (ap (λ ns. is_named ns q) h.seen) ∙ e)

-- before the first
pub begun : (es : List (Bor Name)) (names : List (List ℕ)) (outputs : OutputNames) → names ≡ [] → outputs ≡ []
    → IsSoFar es es names outputs
begun es names outputs n s = record {
  before = [];
  whole = refl;
  seen = n;
  held = s;
  decides = ap (λ ns. repeated_from ns (listed es)) (sym n);
}

-- one more
pub more : (es rest : List (Bor Name)) (e : Bor Name) (names new : List (List ℕ)) (outputs held : OutputNames)
    → IsSoFar es (e ∷ rest) names outputs → is_named names e.now.text ≡ false → new ≡ names ++ e.now.text ∷ []
    → held ≡ outputs ++ encode_utf8_all e.now.text ∷ [] → IsSoFar es rest new held
more es rest e names new outputs held h f n s = record {
  before = h.before ++ named e.now ∷ [];
  whole = h.whole ∙ sym (append_snoc h.before (named e.now) (listed rest));
  seen = n ∙ ap (λ ns. ns ++ e.now.text ∷ []) h.seen ∙ sym (map-push text_of h.before (named e.now));
  held =
      s ∙ ap (λ ss. ss ++ encode_utf8_all e.now.text ∷ []) h.held ∙ sym (map-push output_bytes h.before (named e.now));
  decides = h.decides ∙ rw f (ap (λ ns. repeated_from ns (listed rest)) (sym n));
}

-- a name that was given before
pub twice : (es rest : List (Bor Name)) (e : Bor Name) (names : List (List ℕ)) (outputs : OutputNames) (f : NameFault)
    → IsSoFar es (e ∷ rest) names outputs → IsAmong names (named e.now) f → IsTwice (repeated_output (listed es)) f
twice es rest e names outputs (fault.Twice at) h r = h.decides ∙ rw (r.1) (ap (λ b. Some b) (sym r.0))
twice es rest e names outputs fault.OutOfMemory h r = tt

-- after the last
pub all_listed : (es : List (Bor Name)) (names : List (List ℕ)) (outputs : OutputNames) → IsSoFar es [] names outputs
    → outputs ≡ looked_up_outputs (listed es)
all_listed es names outputs h = h.held ∙ ap looked_up_outputs (sym (h.whole ∙ append-nil h.before))

pub none_twice : (es : List (Bor Name)) (names : List (List ℕ)) (outputs : OutputNames) → IsSoFar es [] names outputs
    → repeated_output (listed es) ≡ None
none_twice es names outputs h = h.decides

pub at_rest : (es rest left : List (Bor Name)) (names : List (List ℕ)) (outputs : OutputNames)
    → IsSoFar es rest names outputs → rest ≡ left → IsSoFar es left names outputs
at_rest es rest left names outputs h e = subst (λ r. IsSoFar es r names outputs) e h
