-- Blanks at the ends of texts.
use Rattle.std.proofs.Common.{◌≡◌, ◌<◌, ◌≤◌, ◌+◌, ◌-◌, ℕ, suc, true, false, List, [], ◌∷◌, ◌++◌, length, get_or, take}
use Rattle.std.proofs.Common.{drop, refl, ap, sym, ◌∙◌, arith, add-one}
use Rattle.std.specs.Prelude.{if◌then◌else◌}
use Rattle.std.proofs.Math.Seq.{drop-cons}
use Rattle.std.proofs.lemmas.List.{drop_all, take_all, take_more, length-drop}
use Rattle.function_texts.specs.Letters.{is_blank, without_blanks, before_blanks, up_to_blanks}
use Rattle.foundation.proofs.Lists.{next_item}

without-cons : (c : ℕ) (cs : List ℕ) → without_blanks (c ∷ cs) ≡ (if is_blank c then without_blanks cs else c ∷ cs)
unfolding without_blanks
without-cons c cs = refl

pub blank_front : (cs : List ℕ) (i c : ℕ) (all : List ℕ) → i < length cs → c ≡ get_or cs i c → is_blank c ≡ true
    → without_blanks (drop i cs) ≡ all → without_blanks (drop (i + 1) cs) ≡ all
blank_front cs i c all h e b before =
    let step : without_blanks (drop i cs) ≡ without_blanks (drop (i + 1) cs) =
    ap without_blanks (next_item cs i c h e) ∙ without-cons c (drop (i + 1) cs) ∙ rw b refl in
    sym step ∙ before

pub front_begins : (cs : List ℕ) (i c : ℕ) (all : List ℕ) → i < length cs → c ≡ get_or cs i c → is_blank c ≡ false
    → without_blanks (drop i cs) ≡ all → take (length cs - i) (drop i cs) ≡ all
front_begins cs i c all h e b before =
    let whole : take (length cs - i) (drop i cs) ≡ drop i cs =
    take_all (length cs - i) (drop i cs) (omega (arith, length-drop i cs)) in
    let step : without_blanks (drop i cs) ≡ drop i cs = ap without_blanks (next_item cs i c h e)
    ∙ without-cons c (drop (i + 1) cs) ∙ rw b (sym (next_item cs i c h e)) in
    whole ∙ sym step ∙ before

pub all_blank : (cs : List ℕ) (i : ℕ) (all : List ℕ) → length cs ≤ i → without_blanks (drop i cs) ≡ all → [] ≡ all
unfolding without_blanks
all_blank cs i all h before = sym (ap without_blanks (drop_all i cs h)) ∙ before

up_to-cons : (c : ℕ) (cs : List ℕ) → up_to_blanks (c ∷ cs) ≡ before_blanks c (up_to_blanks cs)
unfolding up_to_blanks
up_to-cons c cs = refl

-- a blank after others is left out
blank_last : (cs : List ℕ) (c : ℕ) → is_blank c ≡ true → up_to_blanks (cs ++ c ∷ []) ≡ up_to_blanks cs
unfolding up_to_blanks
blank_last [] c b = rw b refl
blank_last (d ∷ cs) c b = ap (before_blanks d) (blank_last cs c b)

before_some : (d : ℕ) (cs : List ℕ) (c : ℕ) → before_blanks d (cs ++ c ∷ []) ≡ d ∷ (cs ++ c ∷ [])
before_some d [] c = refl
before_some d (e ∷ cs) c = refl

-- up to a character that is no blank all is kept
kept_last : (cs : List ℕ) (c : ℕ) → is_blank c ≡ false → up_to_blanks (cs ++ c ∷ []) ≡ cs ++ c ∷ []
unfolding up_to_blanks
kept_last [] c b = rw b refl
kept_last (d ∷ cs) c b = ap (before_blanks d) (kept_last cs c b) ∙ before_some d cs c

pub blank_end : (cs : List ℕ) (n c : ℕ) (all : List ℕ) → 0 < n → n ≤ length cs → c ≡ get_or cs (n - 1) c
    → is_blank c ≡ true → up_to_blanks (take n cs) ≡ all → up_to_blanks (take (n - 1) cs) ≡ all
blank_end cs n c all p h e b before =
    let k : n - 1 + 1 ≡ n = omega arith in
    let apart : take n cs ≡ take (n - 1) cs ++ c ∷ [] = ap (λ m. take m cs) (sym k)
    ∙ take_more cs (n - 1) c (omega arith) ∙ ap (λ d. take (n - 1) cs ++ d ∷ []) (sym e) in
    sym (blank_last (take (n - 1) cs) c b) ∙ ap up_to_blanks (sym apart) ∙ before

pub kept_end : (cs : List ℕ) (n c : ℕ) (all : List ℕ) → 0 < n → n ≤ length cs → c ≡ get_or cs (n - 1) c
    → is_blank c ≡ false → up_to_blanks (take n cs) ≡ all → take n cs ≡ all
kept_end cs n c all p h e b before =
    let k : n - 1 + 1 ≡ n = omega arith in
    let apart : take n cs ≡ take (n - 1) cs ++ c ∷ [] = ap (λ m. take m cs) (sym k)
    ∙ take_more cs (n - 1) c (omega arith) ∙ ap (λ d. take (n - 1) cs ++ d ∷ []) (sym e) in
    apart ∙ sym (kept_last (take (n - 1) cs) c b) ∙ ap up_to_blanks (sym apart) ∙ before

pub nothing_left : (cs : List ℕ) (n : ℕ) (all : List ℕ) → n ≤ 0 → up_to_blanks (take n cs) ≡ all → [] ≡ all
unfolding up_to_blanks
nothing_left cs n all h before =
    let z : n ≡ 0 = omega arith in
    sym (ap (λ m. up_to_blanks (take m cs)) z) ∙ before

pub all_taken : (cs : List ℕ) → up_to_blanks (take (length cs) cs) ≡ up_to_blanks cs
all_taken cs = ap up_to_blanks (take_all (length cs) cs (omega arith))
