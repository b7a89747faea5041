-- Symbols of different names, one after another.
use Rattle.std.proofs.Common.{◌≡◌, ℕ, ◌+◌, false, List, [], ◌∷◌, ◌++◌, map, Some, None, refl, sym, ap}
use Rattle.std.proofs.Common.{ap₂, subst, ◌∙◌, bytes_eq, chars, codes, encode_utf8_all}
use Rattle.std.proofs.lemmas.List.{append-nil, append_assoc}
use Rattle.std.proofs.Math.Seq.{append_snoc}
use Rattle.foundation.proofs.AsciiWords.{word}
use Rattle.foundation.proofs.Lists.{map-push}
use Rattle.arm_value.specs.Look.{is_same_folded}
use Rattle.name_set.specs.Names.{is_named}
use Rattle.bicep_names.specs.Scope.{Symbols, symbol_from}
use Rattle.bicep_symbols.specs.declared.entry.Entry.{Entry}
use Rattle.bicep_symbols.specs.Entries.{Symbol, symbol_of, entry_bytes, looked_up}
use Rattle.bicep_symbols.specs.Repeated.{repeated_from, repeated_symbol, taken, symbol_name, IsAmong, IsTwice}
use Rattle.bicep_symbols.specs.declared.fault.NameFault.{NameFault}
use Rattle.bicep_symbols.specs.declared.fault.NameFault.TheVariants as fault
use Rattle.bicep_symbols.proofs.FreshLemmas.{same_bytes, by_name, later}

abbrev pub text_of : Symbol → List ℕ
text_of s = s.1

abbrev pub listed : List Entry → List Symbol
listed es = map symbol_of es

-- the symbols before the rest have different names, and the rest decides
pub record IsSoFar (es rest : List Entry) (names : List (List ℕ)) (symbols : Symbols) : Type 0 where
  pub before : List Symbol
  pub whole : listed es ≡ before ++ listed rest
  pub seen : names ≡ taken ++ map text_of before
  pub held : symbols ≡ looked_up before
  pub decides : repeated_symbol (listed es) ≡ repeated_from names (map symbol_name (listed rest))

fresh_from : (q : List ℕ) (ss : List Symbol) (n : ℕ) → is_named (map text_of ss) q ≡ false
    → symbol_from n (encode_utf8_all q) (looked_up ss) ≡ None
fresh_from q [] n h = refl
fresh_from q (s ∷ ss) n h =
    by_name (bytes_eq (encode_utf8_all q) (encode_utf8_all s.1)) (is_same_folded q s.1) (is_named (map text_of ss) q)
    (n, s.2) (symbol_from (n + 1) (encode_utf8_all q) (looked_up ss)) (same_bytes q s.1) h (fresh_from q ss (n + 1))

-- a name that is none of those so far is no symbol's
pub fresh : (es rest : List Entry) (names : List (List ℕ)) (symbols : Symbols) → IsSoFar es rest names symbols
    → (q : List ℕ) → is_named names q ≡ false → symbol_from 0 (encode_utf8_all q) symbols ≡ None
fresh es rest names symbols h q e =
    ap (symbol_from 0 (encode_utf8_all q)) h.held
    ∙ fresh_from q h.before 0 (later taken (map text_of h.before) q (sym (ap (λ ns. is_named ns q) h.seen) ∙ e))

-- before the first
pub begun : (es : List Entry) (names : List (List ℕ)) (symbols : Symbols) → names ≡ taken → symbols ≡ []
    → IsSoFar es es names symbols
begun es names symbols n s = record {
  before = [];
  whole = refl;
  seen = n ∙ sym (append-nil taken);
  held = s;
  decides = ap (λ ns. repeated_from ns (map symbol_name (listed es))) (sym n);
}

-- one more
pub more : (es rest : List Entry) (e : Entry) (names new : List (List ℕ)) (symbols held : Symbols)
    → IsSoFar es (e ∷ rest) names symbols → is_named names e.name ≡ false → new ≡ names ++ e.name ∷ []
    → held ≡ symbols ++ entry_bytes (symbol_of e) ∷ [] → IsSoFar es rest new held
more es rest e names new symbols held h f n s = record {
  before = h.before ++ symbol_of e ∷ [];
  whole = h.whole ∙ sym (append_snoc h.before (symbol_of e) (listed rest));
  seen =
      n ∙ ap (λ ns. ns ++ e.name ∷ []) h.seen ∙ append_assoc taken (map text_of h.before) (e.name ∷ [])
      ∙ ap (λ ns. taken ++ ns) (sym (map-push text_of h.before (symbol_of e)));
  held =
      s ∙ ap (λ ss. ss ++ entry_bytes (symbol_of e) ∷ []) h.held ∙ sym (map-push entry_bytes h.before (symbol_of e));
  decides =
      h.decides ∙ rw f (ap (λ ns. repeated_from ns (map symbol_name (listed rest))) (sym n));
}

-- a name that was given before
pub twice : (es rest : List Entry) (e : Entry) (names : List (List ℕ)) (symbols : Symbols) (f : NameFault)
    → IsSoFar es (e ∷ rest) names symbols → IsAmong names (symbol_name (symbol_of e)) f
    → IsTwice (repeated_symbol (listed es)) f
twice es rest e names symbols (fault.Twice at) h r = h.decides ∙ rw (r.1) (ap (λ b. Some b) (sym r.0))
twice es rest e names symbols fault.OutOfMemory h r = tt

-- after the last
pub all_listed : (es : List Entry) (names : List (List ℕ)) (symbols : Symbols) → IsSoFar es [] names symbols
    → symbols ≡ looked_up (listed es)
all_listed es names symbols h = h.held ∙ ap looked_up (sym (h.whole ∙ append-nil h.before))

pub none_twice : (es : List Entry) (names : List (List ℕ)) (symbols : Symbols) → IsSoFar es [] names symbols
    → repeated_symbol (listed es) ≡ None
none_twice es names symbols h = h.decides

-- both names that no symbol has
pub both_taken : (none first both : List (List ℕ)) → none ≡ [] → first ≡ none ++ chars (codes "sys") ∷ []
    → both ≡ first ++ chars (codes "az") ∷ [] → both ≡ taken
unfolding taken
both_taken none first both e f g =
    g ∙ ap (λ ns. ns ++ chars (codes "az") ∷ []) (f ∙ ap (λ ns. ns ++ chars (codes "sys") ∷ []) e)
    ∙ ap₂ (λ a b. a ∷ b ∷ []) (word (codes "sys") refl) (word (codes "az") refl)

pub at_rest : (es rest left : List Entry) (names : List (List ℕ)) (symbols : Symbols) → IsSoFar es rest names symbols
    → rest ≡ left → IsSoFar es left names symbols
at_rest es rest left names symbols h e = subst (λ r. IsSoFar es r names symbols) e h
