-- Readings in the places of cells.
use Rattle.std.proofs.Common.{◌≡◌, ℕ, List, Option, Some, None, option_map, refl, sym, ap, ◌∙◌}
use Rattle.arm_ids.specs.declared.id.Place.{Place}
use Rattle.arm_ids.specs.declared.id.ResourceId.{ResourceId}
use Rattle.reading.specs.Reading.{done, ask, pure, through}
use Rattle.reading.specs.Knowledge.{Known, known, absent, missing, Told, value, no_value, waits, told}
use Rattle.reading.specs.Knowledge.{by_entry, and_then, IsAwaited, Means}
use Rattle.reading.proofs.Completion.{told_means}
use Rattle.std.proofs.Common.{subst}
use Rattle.arm_env.specs.Look.{Look, parameter, variable, output, state, named, deployment, outputs, Fact, a_key, Looking, seen, key_in}
use Rattle.arm_env.specs.Answer.{told_of, outcome_told, Stops}
use Rattle.arm_env.specs.declared.stop.Stop.{Stop}
use Rattle.arm_env.specs.declared.stop.Stop.TheVariants as stop
use Rattle.arm_env.proofs.Answers.{told-done, told-continued, told-seen, never_value}
use Rattle.expression_values.specs.Meaning.{outcome}
use Rattle.expression_values.proofs.Answers.{told-outcome}
use Rattle.arm_eval.specs.Titles.{itself, alone, titled, Titles, Title, title_of, key_sought, fact_sought, known_of}
use Rattle.arm_eval.specs.Titles.{known_through, held_back}

-- what is waited for in the place of a cell
abbrev pub awaited : {A : Type 0} → Told Look (Option Fact) → Told Look A
awaited (value x) = no_value
awaited no_value = no_value
awaited (waits d) = waits d

abbrev pub told_by : {A : Type 0} → (Look → Told Look (Option Fact)) → Told Look A → Told Look A
told_by t (value x) = value x
told_by t no_value = no_value
told_by t (waits c) = awaited (t c)

value_never_waits : (t : Told Look (Option Fact)) (x : Option Fact) (d : Look) → t ≡ value x → t ≡ waits d → ⊥
value_never_waits (value y) x d a b = absurd cc
value_never_waits no_value x d a b = absurd cc
value_never_waits (waits e) x d a b = absurd cc

module _ (p : Look → Known Fact) where
  known_entry : (c : Look) (e : Known Fact)
      → known_of (by_entry c (λ (v : Option Fact). value v) e) ≡ e
  known_entry c (known x) = refl
  known_entry c absent = refl
  known_entry c missing = refl

  -- a cell in its own place is known as it is
  known_itself : (c : Look) → known_of (told p (itself c)) ≡ p c
  unfolding told
  known_itself c = known_entry c (p c)

  -- and waited for as it is
  itself_waits : (c : Look) → p c ≡ missing → told p (itself c) ≡ waits c
  unfolding told
  itself_waits c e = ap (by_entry c (λ (v : Option Fact). value v)) e

  entry_always : (c : Look) (e : Known Fact) → by_entry c (λ (v : Option Fact). value v) e ≡ no_value → ⊥
  entry_always c (known x) h = absurd cc
  entry_always c absent h = absurd cc
  entry_always c missing h = absurd cc

  itself_always : (c : Look) → told p (itself c) ≡ no_value → ⊥
  unfolding told
  itself_always c h = entry_always c (p c) h

  entry_own : (c d : Look) (e : Known Fact) → by_entry c (λ (v : Option Fact). value v) e ≡ waits d → d ≡ c
  entry_own c d (known x) h = absurd cc
  entry_own c d absent h = absurd cc
  entry_own c d missing h = cc

  itself_own : (c d : Look) → told p (itself c) ≡ waits d → d ≡ c
  unfolding told
  itself_own c d h = entry_own c d (p c) h

  module _ (h : Look → Looking (Option Fact)) where
    -- what is known of such a cell
    same_cell : {A : Type 0} (f : Fact → Option A) (c : Look) → h c ≡ itself c
        → told (known_through h p) (seen f c) ≡ told p (seen f c)
    unfolding known_through
    same_cell f c e =
        told-seen (known_through h p) f c
        ∙ ap (told_of f c) (ap (λ r. known_of (told p r)) e ∙ known_itself c)
        ∙ sym (told-seen p f c)

    module _ (always : (c : Look) → told p (h c) ≡ no_value → ⊥) where
      ask_case : {A : Type 0} (c : Look) (k : Option Fact → Looking A) (t : Told Look (Option Fact))
          → told p (h c) ≡ t
          → ((v : Option Fact) → told p (through h (k v))
          ≡ told_by (λ c. told p (h c)) (told (known_through h p) (k v)))
          → and_then (told p (h c)) (λ v. told p (through h (k v)))
          ≡ told_by (λ c. told p (h c))
          (by_entry c (λ v. told (known_through h p) (k v)) (known_of (told p (h c))))
      ask_case c k (value (Some x)) e more =
          ap (λ t. and_then t (λ v. told p (through h (k v)))) e ∙ more (Some x)
          ∙ sym (ap (λ t. told_by (λ c. told p (h c))
          (by_entry c (λ v. told (known_through h p) (k v)) (known_of t))) e)
      ask_case c k (value None) e more =
          ap (λ t. and_then t (λ v. told p (through h (k v)))) e ∙ more None
          ∙ sym (ap (λ t. told_by (λ c. told p (h c))
          (by_entry c (λ v. told (known_through h p) (k v)) (known_of t))) e)
      ask_case c k no_value e more = absurd (always c e)
      ask_case c k (waits d) e more =
          ap (λ t. and_then t (λ v. told p (through h (k v)))) e ∙ sym (ap awaited e)
          ∙ sym (ap (λ t. told_by (λ c. told p (h c))
          (by_entry c (λ v. told (known_through h p) (k v)) (known_of t))) e)

      -- what is told of a reading through others
      told_through : {A : Type 0} (r : Looking A)
          → told p (through h r) ≡ told_by (λ c. told p (h c)) (told (known_through h p) r)
      unfolding told through known_through
      told_through (done (Some x)) = refl
      told_through (done None) = refl
      told_through (ask c k) = told-continued p (h c) (λ v. through h (k v))
          ∙ ask_case c k (told p (h c)) refl (λ v. told_through (k v))

      awaits : {A : Type 0} (r : Looking A) (c : Look) → told (known_through h p) r ≡ waits c
          → IsAwaited (known_through h p) r c
      awaits {A} r c e = subst (λ (t : Told Look A). Means (known_through h p) r t) e
          (told_means Look Fact A (known_through h p) r)

      is_missing : {A : Type 0} (r : Looking A) (c : Look) → told (known_through h p) r ≡ waits c
          → known_of (told p (h c)) ≡ missing
      unfolding known_through
      is_missing r c e = (awaits r c e).is_missing

      -- a cell in its own place is waited for as it is
      pub waits_itself : {A : Type 0} (r : Looking A) (c : Look) → h c ≡ itself c
          → told (known_through h p) r ≡ waits c → told p (through h r) ≡ waits c
      waits_itself r c own e =
          let none_yet : p c ≡ missing =
          sym (known_itself c) ∙ ap (λ r. known_of (told p r)) (sym own) ∙ is_missing r c e in
          told_through r ∙ ap (told_by (λ c. told p (h c))) e
          ∙ ap awaited (ap (told p) own ∙ itself_waits c none_yet)

      pub value_through : {A : Type 0} (r : Looking A) (x : A) → told (known_through h p) r ≡ value x
          → told p (through h r) ≡ value x
      value_through r x e = told_through r ∙ ap (told_by (λ c. told p (h c))) e

      pub none_through : {A : Type 0} (r : Looking A) → told (known_through h p) r ≡ no_value
          → told p (through h r) ≡ no_value
      none_through r e = told_through r ∙ ap (told_by (λ c. told p (h c))) e

  -- ---- inside a title

  alone_always : (c : Look) → told p (alone c) ≡ no_value → ⊥
  alone_always (parameter n) e = itself_always (parameter n) e
  alone_always (variable n) e = itself_always (variable n) e
  alone_always (output k n) e = itself_always (output k n) e
  alone_always (state k) e = itself_always (state k) e
  alone_always (deployment k) e = itself_always (deployment k) e
  alone_always (outputs k) e = itself_always (outputs k) e
  alone_always (named t) e = never_value (told p (alone (named t))) None e (told-done p (Some None))

  alone_own : (c d : Look) → told p (alone c) ≡ waits d → d ≡ c
  alone_own (parameter n) d e = itself_own (parameter n) d e
  alone_own (variable n) d e = itself_own (variable n) d e
  alone_own (output k n) d e = itself_own (output k n) d e
  alone_own (state k) d e = itself_own (state k) d e
  alone_own (deployment k) d e = itself_own (deployment k) d e
  alone_own (outputs k) d e = itself_own (outputs k) d e
  alone_own (named t) d e = absurd (value_never_waits (told p (alone (named t))) None d (told-done p (Some None)) e)

  own_case : {A : Type 0} (c : Look) (t : Told Look (Option Fact)) → told p (alone c) ≡ t
      → known_of t ≡ missing → awaited {A = A} t ≡ waits c
  own_case c (value (Some x)) e m = absurd cc
  own_case c (value None) e m = absurd cc
  own_case c no_value e m = absurd cc
  own_case c (waits d) e m = ap waits (alone_own c d e)

  alone_case : {A : Type 0} (r : Looking A) (t : Told Look A) → told (known_through alone p) r ≡ t
      → told_by (λ c. told p (alone c)) t ≡ t
  alone_case r (value x) e = refl
  alone_case r no_value e = refl
  alone_case r (waits c) e = own_case c (told p (alone c)) refl (is_missing alone alone_always r c e)

  -- what is told inside a title
  pub alone_told : {A : Type 0} (r : Looking A) → told p (through alone r) ≡ told (known_through alone p) r
  alone_told r = told_through alone alone_always r ∙ alone_case r (told (known_through alone p) r) refl

  pub alone_named : (t : List ℕ) → told (known_through alone p) (seen key_in (named t)) ≡ no_value
  unfolding known_through
  alone_named t = told-seen (known_through alone p) key_in (named t)
      ∙ ap (λ u. told_of key_in (named t) (known_of u)) (told-done p (Some None))

  pub alone_parameter : {A : Type 0} (f : Fact → Option A) (n : List ℕ)
      → told (known_through alone p) (seen f (parameter n)) ≡ told p (seen f (parameter n))
  alone_parameter f n = same_cell alone f (parameter n) refl

  pub alone_variable : {A : Type 0} (f : Fact → Option A) (n : List ℕ)
      → told (known_through alone p) (seen f (variable n)) ≡ told p (seen f (variable n))
  alone_variable f n = same_cell alone f (variable n) refl

  pub alone_output : {A : Type 0} (f : Fact → Option A) (k : ResourceId) (n : List ℕ)
      → told (known_through alone p) (seen f (output k n)) ≡ told p (seen f (output k n))
  alone_output f k n = same_cell alone f (output k n) refl

  pub alone_state : {A : Type 0} (f : Fact → Option A) (k : ResourceId)
      → told (known_through alone p) (seen f (state k)) ≡ told p (seen f (state k))
  alone_state f k = same_cell alone f (state k) refl

  pub alone_deployment : {A : Type 0} (f : Fact → Option A) (k : ResourceId)
      → told (known_through alone p) (seen f (deployment k)) ≡ told p (seen f (deployment k))
  alone_deployment f k = same_cell alone f (deployment k) refl

  pub alone_outputs : {A : Type 0} (f : Fact → Option A) (k : ResourceId)
      → told (known_through alone p) (seen f (outputs k)) ≡ told p (seen f (outputs k))
  alone_outputs f k = same_cell alone f (outputs k) refl

-- ---- symbols

abbrev pub by_key : Told Look ResourceId → Told Look (Option Fact)
by_key (value k) = value (Some (a_key k))
by_key no_value = value None
by_key (waits c) = waits c

module _ (p : Look → Known Fact) (ts : Titles) (place : Place) where
  key_next : (t : Told Look ResourceId)
      → and_then (outcome_told t) (λ o. told p (pure (option_map a_key o))) ≡ by_key t
  key_next (value k) = told-done p (Some (Some (a_key k)))
  key_next no_value = told-done p (Some None)
  key_next (waits c) = refl

  fact_told : (o : Option Title)
      → told p (fact_sought ts place o) ≡ by_key (told p (key_sought ts place o))
  fact_told o = told-continued p (outcome (key_sought ts place o)) (λ o. pure (option_map a_key o))
      ∙ ap (λ t. and_then t (λ o. told p (pure (option_map a_key o)))) (told-outcome p (key_sought ts place o))
      ∙ key_next (told p (key_sought ts place o))

  key_always : (t : Told Look ResourceId) → by_key t ≡ no_value → ⊥
  key_always (value k) e = absurd cc
  key_always no_value e = absurd cc
  key_always (waits c) e = absurd cc

  titled_always : (c : Look) → told p (titled ts place c) ≡ no_value → ⊥
  titled_always (parameter n) e = itself_always p (parameter n) e
  titled_always (variable n) e = itself_always p (variable n) e
  titled_always (output k n) e = itself_always p (output k n) e
  titled_always (state k) e = itself_always p (state k) e
  titled_always (deployment k) e = itself_always p (deployment k) e
  titled_always (outputs k) e = itself_always p (outputs k) e
  titled_always (named t) e =
      key_always (told p (key_sought ts place (title_of ts.symbols t)))
      (sym (fact_told (title_of ts.symbols t)) ∙ e)

  key_case : (c : Look) (t : Told Look ResourceId) → told_of key_in c (known_of (by_key t)) ≡ held_back c t
  key_case c (value k) = refl
  key_case c no_value = refl
  key_case c (waits d) = refl

  -- what is told of a text, by its symbol
  pub titled_named : (t : List ℕ)
      → told (known_through (titled ts place) p) (seen key_in (named t))
      ≡ held_back (named t) (told p (key_sought ts place (title_of ts.symbols t)))
  unfolding known_through
  titled_named t = told-seen (known_through (titled ts place) p) key_in (named t)
      ∙ ap (λ u. told_of key_in (named t) (known_of u)) (fact_told (title_of ts.symbols t))
      ∙ key_case (named t) (told p (key_sought ts place (title_of ts.symbols t)))

  pub titled_parameter : {A : Type 0} (f : Fact → Option A) (n : List ℕ)
      → told (known_through (titled ts place) p) (seen f (parameter n)) ≡ told p (seen f (parameter n))
  titled_parameter f n = same_cell p (titled ts place) f (parameter n) refl

  pub titled_variable : {A : Type 0} (f : Fact → Option A) (n : List ℕ)
      → told (known_through (titled ts place) p) (seen f (variable n)) ≡ told p (seen f (variable n))
  titled_variable f n = same_cell p (titled ts place) f (variable n) refl

  pub titled_output : {A : Type 0} (f : Fact → Option A) (k : ResourceId) (n : List ℕ)
      → told (known_through (titled ts place) p) (seen f (output k n)) ≡ told p (seen f (output k n))
  titled_output f k n = same_cell p (titled ts place) f (output k n) refl

  pub titled_state : {A : Type 0} (f : Fact → Option A) (k : ResourceId)
      → told (known_through (titled ts place) p) (seen f (state k)) ≡ told p (seen f (state k))
  titled_state f k = same_cell p (titled ts place) f (state k) refl

  pub titled_deployment : {A : Type 0} (f : Fact → Option A) (k : ResourceId)
      → told (known_through (titled ts place) p) (seen f (deployment k)) ≡ told p (seen f (deployment k))
  titled_deployment f k = same_cell p (titled ts place) f (deployment k) refl

  pub titled_outputs : {A : Type 0} (f : Fact → Option A) (k : ResourceId)
      → told (known_through (titled ts place) p) (seen f (outputs k)) ≡ told p (seen f (outputs k))
  titled_outputs f k = same_cell p (titled ts place) f (outputs k) refl

  pub titled_value_told : {A : Type 0} (r : Looking A) (x : A)
      → told (known_through (titled ts place) p) r ≡ value x → told p (through (titled ts place) r) ≡ value x
  titled_value_told r x e = value_through p (titled ts place) titled_always r x e

  pub titled_none_told : {A : Type 0} (r : Looking A)
      → told (known_through (titled ts place) p) r ≡ no_value → told p (through (titled ts place) r) ≡ no_value
  titled_none_told r e = none_through p (titled ts place) titled_always r e

  pub titled_itself : {A : Type 0} (r : Looking A) (c : Look) → titled ts place c ≡ itself c
      → told (known_through (titled ts place) p) r ≡ waits c → told p (through (titled ts place) r) ≡ waits c
  titled_itself r c own e = waits_itself p (titled ts place) titled_always r c own e

  text_missing : {A : Type 0} (r : Looking A) (t : List ℕ)
      → told (known_through (titled ts place) p) r ≡ waits (named t)
      → known_of (by_key (told p (key_sought ts place (title_of ts.symbols t)))) ≡ missing
  text_missing r t e = ap known_of (sym (fact_told (title_of ts.symbols t)))
      ∙ is_missing p (titled ts place) titled_always r (named t) e

  text_told : {A : Type 0} (r : Looking A) (t : List ℕ)
      → told (known_through (titled ts place) p) r ≡ waits (named t)
      → told p (through (titled ts place) r)
      ≡ awaited (by_key (told p (key_sought ts place (title_of ts.symbols t))))
  text_told r t e = told_through p (titled ts place) titled_always r
      ∙ ap (told_by (λ c. told p (titled ts place c))) e ∙ ap awaited (fact_told (title_of ts.symbols t))

  stop_case : {A : Type 0} (s : Stop) (t : Told Look ResourceId) (u : Told Look A) → Stops s t
      → known_of (by_key t) ≡ missing → u ≡ awaited (by_key t) → Stops s u
  stop_case s (value k) u h m e = absurd cc
  stop_case s no_value u h m e = absurd cc
  stop_case stop.NoValue (waits d) u h m e = absurd cc
  stop_case (stop.Waits c) (waits d) u h m e = cc
  stop_case stop.OutOfMemory (waits d) u h m e = tt

  -- what the title of a text stops for
  pub text_stops : {A : Type 0} (s : Stop) (r : Looking A) (t : List ℕ)
      → told (known_through (titled ts place) p) r ≡ waits (named t)
      → Stops s (told p (key_sought ts place (title_of ts.symbols t)))
      → Stops s (told p (through (titled ts place) r))
  text_stops s r t e h = stop_case s (told p (key_sought ts place (title_of ts.symbols t))) _ h
      (text_missing r t e) (text_told r t e)

  value_case : (t : Told Look ResourceId) (k : ResourceId) → t ≡ value k → known_of (by_key t) ≡ missing → ⊥
  value_case (value j) k e m = absurd cc
  value_case no_value k e m = absurd cc
  value_case (waits d) k e m = absurd cc

  pub text_never : {A : Type 0} (r : Looking A) (t : List ℕ) (k : ResourceId)
      → told (known_through (titled ts place) p) r ≡ waits (named t)
      → told p (key_sought ts place (title_of ts.symbols t)) ≡ value k → ⊥
  text_never r t k e h =
      value_case (told p (key_sought ts place (title_of ts.symbols t))) k h (text_missing r t e)

pub ruleset alone_cells = (
  alone_parameter,
  alone_variable,
  alone_output,
  alone_state,
  alone_named,
  alone_deployment,
  alone_outputs,
)

pub ruleset titled_cells = (
  titled_parameter,
  titled_variable,
  titled_output,
  titled_state,
  titled_named,
  titled_deployment,
  titled_outputs,
)
