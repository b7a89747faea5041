-- Names of functions, one after another.
use Rattle.std.proofs.Common.{◌≡◌, ◌<◌, ◌≤◌, ◌+◌, ℕ, true, false, List, [], ◌∷◌, Option, Some, None, Bor}
use Rattle.std.proofs.Common.{length, get_or, drop, map, add-one, refl, ap, sym, ◌∙◌}
use Rattle.std.specs.Str.{chars}
use Rattle.std.specs.Prelude.{bytes_eq, if◌then◌else◌}
use Rattle.std.proofs.Math.Seq.{drop-cons}
use Rattle.std.proofs.lemmas.List.{drop_all}
use Rattle.arm_ids.proofs.SegmentLemmas.{fold-fold}
use Rattle.arm_value.specs.Look.{fold, is_same_folded}
use Rattle.bicep_emission.specs.Spelled.{spelling_in}

abbrev pub Word : Type 0
Word = Bor (List ℕ)

abbrev pub letters : Word → List ℕ
letters n = chars n.now

pub word_apart : (words : List Word) (i : ℕ) (d : Word) → i < length words
    → map letters (drop i words) ≡ letters (get_or words i d) ∷ map letters (drop (i + 1) words)
word_apart words i d h = rw add-one (ap (map letters) (drop-cons words i d h))

pub no_word_left : (words : List Word) (i : ℕ) → length words ≤ i → map letters (drop i words) ≡ []
no_word_left words i h = ap (map letters) (drop_all i words h)

pub word_found : (name n : List ℕ) (ns left : List (List ℕ)) (all : Option (List ℕ)) → left ≡ n ∷ ns
    → true ≡ is_same_folded name n → all ≡ spelling_in name left → Some n ≡ all
unfolding spelling_in
word_found name n ns left all l t before =
    sym (before ∙ ap (spelling_in name) l ∙ ap (λ b. if b then Some n else spelling_in name ns) (sym t))

pub word_passed : (name n : List ℕ) (ns left : List (List ℕ)) (all : Option (List ℕ)) → left ≡ n ∷ ns
    → false ≡ is_same_folded name n → all ≡ spelling_in name left → all ≡ spelling_in name ns
unfolding spelling_in
word_passed name n ns left all l t before =
    before ∙ ap (spelling_in name) l ∙ ap (λ b. if b then Some n else spelling_in name ns) (sym t)

pub no_word : (name : List ℕ) (left : List (List ℕ)) (all : Option (List ℕ)) → left ≡ []
    → all ≡ spelling_in name left → None ≡ all
unfolding spelling_in
no_word name left all l before = sym (before ∙ ap (spelling_in name) l)

-- a name is found as it is in small letters
pub found_folded : (name : List ℕ) (ws : List (List ℕ)) → spelling_in (fold name) ws ≡ spelling_in name ws
unfolding spelling_in
found_folded name [] = refl
found_folded name (w ∷ ws) =
    ap (λ f. if bytes_eq f (fold w) then Some w else spelling_in (fold name) ws) (fold-fold name)
    ∙ ap (λ o. if is_same_folded name w then Some w else o) (found_folded name ws)
