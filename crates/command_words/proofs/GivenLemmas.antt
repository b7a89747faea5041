-- What is read of words is what they give, whatever their order.
use Rattle.std.proofs.Common.{◌≡◌, ◌==◌, ◌++◌, ℕ, Bool, true, false, List, [], ◌∷◌, Option, Some, None, is_some, refl}
use Rattle.std.proofs.Common.{sym, ap, subst, ◌∙◌}
use Rattle.std.specs.Prelude.{if◌then◌else◌}
use Rattle.command_words.specs.Words.{Sign, Value, AnOption, WithValue, NoSign, word_of}
use Rattle.command_words.specs.Reading.{Values, State, held, with, put, nothing, start, place_of, filled, named}
use Rattle.command_words.specs.Reading.{given_value, begun, ended, run, ends, read}
use Rattle.command_words.specs.Given.{Part, IsWord, AreWords, IsSpelled, AreSpelled, number, value_at, AreOnce, Gives}
use Rattle.command_words.specs.declared.given.Place.{Place}
use Rattle.command_words.specs.declared.given.Place.TheVariants.{File}
use Rattle.command_words.proofs.PlaceLemmas.{same_place, same_number, there, other, none_at_first, put_free}
use Rattle.command_words.proofs.PlaceLemmas.{values_same}

-- before a word of the command itself
abbrev whole : Values → State
whole g = record { values = g; next = None }

abbrev or_held : Option (List ℕ) → Option (List ℕ) → Option (List ℕ)
or_held (Some v) o = Some v
or_held None o = o

-- none of these parts has a value yet
abbrev AreFree : Values → List Part → Type 0
AreFree g qs = (p : Place) (v : List ℕ) → value_at p qs ≡ Some v → held g p ≡ None

-- the values with these parts
abbrev HasMore : Values → List Part → Values → Type 0
HasMore g qs h = (p : Place) → held h p ≡ or_held (value_at p qs) (held g p)

-- ---- one part more

module _ (g h : Values) (q : Part) (qs : List Part) where
  more_there : (p : Place) → q.place ≡ p → value_at q.place qs ≡ None
      → held h p ≡ or_held (value_at p qs) (held (with g q.place q.value) p) → held h p ≡ Some q.value
  more_there p e n m =
      let at : value_at p qs ≡ None = subst (λ x. value_at x qs ≡ None) e n in
      let is : held h p ≡ held (with g q.place q.value) p =
      m ∙ ap (λ o. or_held o (held (with g q.place q.value) p)) at in
      is ∙ subst (λ x. held (with g q.place q.value) x ≡ Some q.value) e (there g q.place q.value)

  more_by : (p : Place) (t : Bool) → (number q.place == number p) ≡ t → value_at q.place qs ≡ None
      → held h p ≡ or_held (value_at p qs) (held (with g q.place q.value) p)
      → held h p ≡ or_held (if t then Some q.value else value_at p qs) (held g p)
  more_by p true e n m = more_there p (same_place q.place p e) n m
  more_by p false e n m = m ∙ ap (or_held (value_at p qs)) (other g q.place p q.value e)

  has_more : value_at q.place qs ≡ None → HasMore (with g q.place q.value) qs h → HasMore g (q ∷ qs) h
  has_more n m p = more_by p (number q.place == number p) refl n (m p)

  free_by : (p : Place) (v : List ℕ) (t : Bool) → (number q.place == number p) ≡ t → value_at q.place qs ≡ None
      → ((if t then Some q.value else value_at p qs) ≡ Some v → held g p ≡ None) → value_at p qs ≡ Some v
      → held (with g q.place q.value) p ≡ None
  free_by p v true e n f a =
      let at : value_at p qs ≡ None = subst (λ x. value_at x qs ≡ None) (same_place q.place p e) n in
      let bad : None ≡ Some v = sym at ∙ a in absurd cc
  free_by p v false e n f a = other g q.place p q.value e ∙ f a

  rest_is_free : value_at q.place qs ≡ None → AreFree g (q ∷ qs) → AreFree (with g q.place q.value) qs
  rest_is_free n f p v a = free_by p v (number q.place == number p) refl n (f p v) a

-- ---- what is given is read

abbrev AreRead : Values → List Part → List (List ℕ) → Type 0
AreRead g qs ws = (h : Values) × ((run (Some (whole g)) ws ≡ Some (whole h)) × HasMore g qs h)

module _ (g : Values) (p : Place) (v : List ℕ) (free : held g p ≡ None) where
  is_put : filled (put g p v) ≡ Some (whole (with g p v))
  is_put = ap filled (put_free g p v free)

  one_word : (s : Sign) → IsWord p v s → begun g s ≡ Some (whole (with g p v))
  one_word (Value u) i = ap filled (subst (λ x. put g x u ≡ put g p v) i.0 (ap (put g p) i.1)) ∙ is_put
  one_word (WithValue x u) i =
      ap (λ o. given_value g o u) i.0 ∙ (ap (λ y. filled (put g p y)) i.1 ∙ is_put)
  one_word (AnOption x) i = absurd i
  one_word NoSign i = absurd i

  two_words : (w u : List ℕ) → AreWords p v w u → (vs : List (List ℕ))
      → run (begun g (word_of w)) (u ∷ vs) ≡ run (Some (whole (with g p v))) vs
  two_words w u i vs =
      let first : begun g (word_of w) ≡ named g (Some p) = ap (begun g) i.option ∙ ap (named g) i.place in
      let second : ended g p (word_of u) ≡ Some (whole (with g p v)) = ap (ended g p) i.value ∙ is_put in
      ap (λ o. run o (u ∷ vs)) first ∙ ap (λ o. run o vs) second

spelled_words : (g : Values) (q : Part) (us vs : List (List ℕ)) → IsSpelled q us → held g q.place ≡ None
    → run (Some (whole g)) (us ++ vs) ≡ run (Some (whole (with g q.place q.value))) vs
spelled_words g q [] vs i f = absurd i
spelled_words g q (w ∷ []) vs i f = ap (λ o. run o vs) (one_word g q.place q.value f (word_of w) i)
spelled_words g q (w ∷ u ∷ []) vs i f = two_words g q.place q.value f w u i vs
spelled_words g q (w ∷ u ∷ s ∷ ws) vs i f = absurd i

first_value : (q : Part) (qs : List Part) → value_at q.place (q ∷ qs) ≡ Some q.value
first_value q qs = ap (λ b. if b then Some q.value else value_at q.place qs) (same_number q.place)

are_read : (qs : List Part) (ws : List (List ℕ)) (g : Values) → AreSpelled qs ws → AreOnce qs → AreFree g qs
    → AreRead g qs ws
are_read [] ws g s o f = (g, (ap (run (Some (whole g))) s, λ p. refl))
are_read (q ∷ qs) ws g s o f =
    let free : held g q.place ≡ None = f q.place q.value (first_value q qs) in
    let rest : AreRead (with g q.place q.value) qs s.1.0 =
    are_read qs s.1.0 (with g q.place q.value) s.1.1.1.1 o.1 (rest_is_free g g q qs o.0 f) in (
      rest.0,
      (
        ap (run (Some (whole g))) s.1.1.0 ∙ (spelled_words g q s.0 s.1.0 s.1.1.1.0 free ∙ rest.1.0),
        has_more g rest.0 q qs o.0 rest.1.1,
      ),
    )

-- ---- what is read was given

record IsBack (g : Values) (ws : List (List ℕ)) (h : Values) : Type 0 where
  parts : List Part
  spelled : AreSpelled parts ws
  once : AreOnce parts
  free : AreFree g parts
  more : HasMore g parts h

none_given : (g : Values) → IsBack g [] g
none_given g = record {
  parts = [];
  spelled = refl;
  once = tt;
  free = λ p v a. absurd cc;
  more = λ p. refl;
}

module _ (g h : Values) (q : Part) (qs : List Part) where
  once_by : (o : Option (List ℕ)) → value_at q.place qs ≡ o
      → ((v : List ℕ) → value_at q.place qs ≡ Some v → held (with g q.place q.value) q.place ≡ None) → o ≡ None
  once_by None e f = refl
  once_by (Some v) e f =
      let bad : Some q.value ≡ None = sym (there g q.place q.value) ∙ f v e in absurd cc

  is_once : AreFree (with g q.place q.value) qs → value_at q.place qs ≡ None
  is_once f = once_by (value_at q.place qs) refl (λ v a. f q.place v a)

  all_free_by : (p : Place) (v : List ℕ) (t : Bool) → (number q.place == number p) ≡ t → held g q.place ≡ None
      → AreFree (with g q.place q.value) qs → (if t then Some q.value else value_at p qs) ≡ Some v → held g p ≡ None
  all_free_by p v true e n f a = subst (λ x. held g x ≡ None) (same_place q.place p e) n
  all_free_by p v false e n f a = sym (other g q.place p q.value e) ∙ f p v a

  all_free : held g q.place ≡ None → AreFree (with g q.place q.value) qs → AreFree g (q ∷ qs)
  all_free n f p v a = all_free_by p v (number q.place == number p) refl n f a

abbrev part : Place → List ℕ → Part
part p v = record { place = p; value = v }

-- one part more, before words that were read
with_part : (g h : Values) (q : Part) (us vs : List (List ℕ)) → IsSpelled q us → held g q.place ≡ None
    → IsBack (with g q.place q.value) vs h → IsBack g (us ++ vs) h
with_part g h q us vs i n b = record {
  parts = q ∷ b.parts;
  spelled = (us, (vs, (refl, (i, b.spelled))));
  once = (is_once g h q b.parts b.free, b.once);
  free = all_free g h q b.parts n b.free;
  more = has_more g h q b.parts (is_once g h q b.parts b.free) b.more;
}

-- these words are read so far, and so are those after them
abbrev IsRest : State → List (List ℕ) → Type 0
IsRest t vs = (g : Values) → run (Some (whole g)) vs ≡ Some t → IsBack g vs t.values

module _ (t : State) (g : Values) (us vs : List (List ℕ)) (rest : IsRest t vs) where
  grown_by : (p : Place) (v : List ℕ) (o : Option (List ℕ)) → held g p ≡ o → IsSpelled (part p v) us
      → run (filled (put g p v)) vs ≡ Some t → IsBack g (us ++ vs) t.values
  grown_by p v None e i r =
      with_part g t.values (part p v) us vs i e
      (rest (with g p v) (sym (ap (λ o. run (filled o) vs) (put_free g p v e)) ∙ r))
  grown_by p v (Some y) e i r =
      let none : put g p v ≡ None = ap (λ o. if is_some o then None else Some (with g p v)) e in
      let bad : None ≡ Some t = sym (ap (λ o. run (filled o) vs) none) ∙ r in
      absurd cc

  grown : (p : Place) (v : List ℕ) → IsSpelled (part p v) us → run (filled (put g p v)) vs ≡ Some t
      → IsBack g (us ++ vs) t.values
  grown p v i r = grown_by p v (held g p) refl i r

-- what is left after an option
abbrev IsTail : State → List (List ℕ) → Type 0
IsTail t [] = Unit {0}
IsTail t (u ∷ us) = IsRest t us

abbrev is_waiting : Option State → Bool
is_waiting None = false
is_waiting (Some s) = is_some s.next

module _ (t : State) (n : is_some t.next ≡ false) (g : Values) (w : List ℕ) where
  value_after : (x : List ℕ) (p : Place) (u : List ℕ) (us : List (List ℕ)) (s : Sign) → word_of u ≡ s
      → word_of w ≡ AnOption x → place_of x ≡ Some p → IsRest t us → run (ended g p s) us ≡ Some t
      → IsBack g (w ∷ u ∷ us) t.values
  value_after x p u us (Value v) e i a rest r =
      grown t g (w ∷ u ∷ []) us rest p v (record { name = x; option = i; place = a; value = e }) r
  value_after x p u us (AnOption y) e i a rest r = absurd cc
  value_after x p u us (WithValue y v) e i a rest r = absurd cc
  value_after x p u us NoSign e i a rest r = absurd cc

  option_after : (x : List ℕ) (o : Option Place) (vs : List (List ℕ)) → place_of x ≡ o → word_of w ≡ AnOption x
      → IsTail t vs → run (named g o) vs ≡ Some t → IsBack g (w ∷ vs) t.values
  option_after x None vs e i tail r = absurd cc
  option_after x (Some p) [] e i tail r = let bad : true ≡ false = ap is_waiting r ∙ n in absurd cc
  option_after x (Some p) (u ∷ us) e i tail r = value_after x p u us (word_of u) refl i e tail r

  valued_after : (x v : List ℕ) (o : Option Place) (vs : List (List ℕ)) → place_of x ≡ o
      → word_of w ≡ WithValue x v → IsRest t vs → run (given_value g o v) vs ≡ Some t → IsBack g (w ∷ vs) t.values
  valued_after x v None vs e i rest r = absurd cc
  valued_after x v (Some p) vs e i rest r =
      grown t g (w ∷ []) vs rest p v (subst (IsWord p v) (sym i) (e, refl)) r

  word_before : (s : Sign) (vs : List (List ℕ)) → word_of w ≡ s → IsRest t vs → IsTail t vs
      → run (begun g s) vs ≡ Some t → IsBack g (w ∷ vs) t.values
  word_before (Value v) vs e rest tail r =
      grown t g (w ∷ []) vs rest File v (subst (IsWord File v) (sym e) (refl, refl)) r
  word_before (AnOption x) vs e rest tail r = option_after x (place_of x) vs refl e tail r
  word_before (WithValue x v) vs e rest tail r = valued_after x v (place_of x) vs refl e rest r
  word_before NoSign vs e rest tail r = absurd cc

abbrev values_in : Values → Option State → Values
values_in g None = g
values_in g (Some s) = s.values

are_given : (t : State) → is_some t.next ≡ false → (ws : List (List ℕ)) → IsRest t ws
are_given t n [] g r = subst (λ h. IsBack g [] h) (ap (values_in g) r) (none_given g)
are_given t n (w ∷ []) g r =
    word_before t n g w (word_of w) [] refl (λ k e. are_given t n [] k e) tt r
are_given t n (w ∷ u ∷ us) g r =
    word_before t n g w (word_of w) (u ∷ us) refl (λ k e. are_given t n (u ∷ us) k e) (λ k e. are_given t n us k e) r

-- ---- what is read of words is what they give

abbrev given_in : Values → Option Values → Values
given_in g None = g
given_in g (Some h) = h

or_none : (p : Place) (o : Option (List ℕ)) → or_held o (held nothing p) ≡ o
or_none p None = none_at_first p
or_none p (Some v) = refl

module _ (ws : List (List ℕ)) where
  given_by : (t : State) (g : Values) → is_some t.next ≡ false → run (Some start) ws ≡ Some t → t.values ≡ g
      → Gives ws g
  given_by t g n r e =
      let b : IsBack nothing ws t.values = are_given t n ws nothing r in
      subst (Gives ws) e (record {
        parts = b.parts;
        spelled = b.spelled;
        once = b.once;
        values = λ p. b.more p ∙ or_none p (value_at p b.parts);
      })

  ended_by : (t : State) (g : Values) (b : Bool) → is_some t.next ≡ b → run (Some start) ws ≡ Some t
      → (if b then None else Some t.values) ≡ Some g → Gives ws g
  ended_by t g true n r e = absurd cc
  ended_by t g false n r e = given_by t g n r (ap (given_in t.values) e)

  run_by : (o : Option State) (g : Values) → run (Some start) ws ≡ o → ends o ≡ Some g → Gives ws g
  run_by None g r e = absurd cc
  run_by (Some t) g r e = ended_by t g (is_some t.next) refl r e

  pub what_is_read : (g : Values) → read ws ≡ Some g → Gives ws g
  what_is_read g e = run_by (run (Some start) ws) g refl e

  pub what_is_given : (g : Values) → Gives ws g → read ws ≡ Some g
  what_is_given g x =
      let f : AreRead nothing x.parts ws =
      are_read x.parts ws nothing x.spelled x.once (λ p v a. none_at_first p) in
      let same : f.0 ≡ g = values_same f.0 g
      (λ p. f.1.1 p ∙ (or_none p (value_at p x.parts) ∙ sym (x.values p))) in
      ap ends f.1.0 ∙ ap Some same
